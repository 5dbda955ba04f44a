-- The chosen cut is right, the candidate breaks its row, and there is one exactly where a weight is above its bound.
use Rattle.std.proofs.Common.{◌≡◌, ℕ, ◌+◌, ◌<◌, ◌≤◌, Bool, true, false, List, length, get_or, Option, Some, None, refl, sym, ap, subst, ◌∙◌, arith, inl, inr, ◌⊎◌}
use Rattle.std.specs.Prelude.{slice_get, IsSomeAnd, ◌↔◌, nat_lt, option_and_then, if◌then◌else◌}
use Rattle.std.specs.List.{All, enumerate_from, filter_map}
use Rattle.std.proofs.lemmas.Bool.{ltb-true, lt-ltb, cases_lt}
use Rattle.std.proofs.lemmas.Option.{slice_get_within, slice_get-get_or}
use Rattle.arch_model.specs.declared.template.Role.TheVariants.{Sink}
use Rattle.arch_model.specs.declared.library.Requirement.{Requirement}
use Rattle.arch_model.specs.Parts.{LibraryParts, ArchitectureParts}
use Rattle.arch_model.specs.Library.{IsLibrary}
use Rattle.arch_model.specs.Architecture.{IsArchitecture}
use Rattle.arch_model.specs.Weight.{product_of, weight_of}
use Rattle.rows.specs.Row.{RowHolds, row_of_cut}
use Rattle.rows.specs.Problem.{IsVectorOf}
use Rattle.redundancy_cut.specs.declared.cut.Cut.{Cut}
use Rattle.redundancy_cut.specs.declared.cut.Cut.TheVariants.{Redundancy, NoGood}
use Rattle.redundancy_cut.specs.RightCut.{IsRightCut}
use Rattle.redundancy_cut.specs.CutRow.{set_of_numbers, members_where, leads_out, feeds, cut_row_of}
use Rattle.redundancy_cut.specs.ChosenCut.{heaviest_of, far_of, cone_of, redundancy_of, no_good_of, chosen_cut_of}
use Rattle.redundancy_cut.proofs.NumberSets.{where_passes, where_below}
use Rattle.redundancy_cut.proofs.RowValues.{one_of_breaks, agreeing_breaks}
use Rattle.redundancy_cut.proofs.RightCutsHold.{some_and, all_at}
use Rattle.redundancy_cut.proofs.FirstMade.{made, first_of, none_left, none_made}
use Rattle.redundancy_cut.proofs.HeaviestLaws.{IsCutList, heaviest_is_cut}
use Rattle.redundancy_cut.proofs.ChosenSets.{right_redundancy, nothing_leads_out, right_no_good}

-- an item that is there is said of
and_some : {X : Type 0} (o : Option X) (x : X) (P : X → Type 0) → o ≡ Some x → P x → IsSomeAnd o P
and_some o x P e h = subst (λ p. IsSomeAnd p P) (sym e) h

module _ (lib : LibraryParts) (arch : ArchitectureParts) where
  -- what a redundancy cut is made of
  pub record Heavy (q : ℕ) (r : Requirement) (cut : Cut) : Type 0 where
    pub members : List ℕ
    pub heaviest : heaviest_of lib arch r.sink.0 ≡ Some members
    pub above : r.bound < product_of lib members
    pub is : Redundancy q (set_of_numbers members) (far_of lib arch r.sink.0 (set_of_numbers members)) ≡ cut

  chosen_if : (b : Bool) (c cut : Cut) → (if b then Some c else None) ≡ Some cut → (b ≡ true) × (c ≡ cut)
  chosen_if true c cut h = (refl, let e : Some c ≡ Some cut = h in cc)
  chosen_if false c cut h = absurd (let e : None ≡ Some cut = h in cc)

  abbrev redundancy : ℕ → Requirement → List ℕ → Cut
  redundancy q r members = Redundancy q (set_of_numbers members) (far_of lib arch r.sink.0 (set_of_numbers members))

  heavy_by : (q : ℕ) (r : Requirement) (cut : Cut) (o : Option (List ℕ)) → heaviest_of lib arch r.sink.0 ≡ o
      → option_and_then (λ members. if nat_lt r.bound (product_of lib members) then Some (redundancy q r members) else None) o ≡ Some cut → Heavy q r cut
  heavy_by q r cut None e k = absurd (let f : None ≡ Some cut = k in cc)
  heavy_by q r cut (Some m) e k =
      let c = chosen_if (nat_lt r.bound (product_of lib m)) (redundancy q r m) cut k in
      record { members = m; heaviest = e; above = ltb-true r.bound (product_of lib m) c.0; is = c.1 }

  -- a cut that is chosen for a requirement by its kind
  pub record ChosenFor (cut : Cut) : Type 0 where
    pub number : ℕ
    pub r : Requirement
    pub at : slice_get lib.requirements number ≡ Some r
    pub kind : Heavy number r cut ⊎ (no_good_of lib arch (number, r) ≡ Some cut)

  zero_more : (n : ℕ) → 0 + n ≡ n
  zero_more n = omega arith

  pub chosen_for : (cut : Cut) → chosen_cut_of lib arch ≡ Some cut → ChosenFor cut
  unfolding chosen_cut_of
  chosen_for cut h =
      elim (first_of (filter_map (redundancy_of lib arch) (enumerate_from 0 lib.requirements)) (filter_map (no_good_of lib arch) (enumerate_from 0 lib.requirements)) cut h) [
        | inl alone ↦
            let m = made (redundancy_of lib arch) 0 lib.requirements cut alone in
            let makes = subst (λ (n : ℕ). redundancy_of lib arch (n, m.item) ≡ Some cut) (zero_more m.number) m.makes in
            record { number = m.number; r = m.item; at = m.at; kind = inl (heavy_by m.number m.item cut (heaviest_of lib arch m.item.sink.0) refl makes) }
        | inr sum ↦
            let m = made (no_good_of lib arch) 0 lib.requirements cut sum in
            record { number = m.number; r = m.item; at = m.at; kind = inr (subst (λ (n : ℕ). no_good_of lib arch (n, m.item) ≡ Some cut) (zero_more m.number) m.makes) }
      ]

  -- no cut is chosen where no weight is above its bound, and only there
  no_good_none : (q : ℕ) (r : Requirement) → no_good_of lib arch (q, r) ≡ None → weight_of lib arch r.sink.0 ≤ r.bound
  no_good_none q r h = elim (cases_lt r.bound (weight_of lib arch r.sink.0)) [
    | inl above ↦ let e : Some (NoGood q (cone_of lib arch r.sink.0)) ≡ None = sym (ap (λ b. if b then Some (NoGood q (cone_of lib arch r.sink.0)) else None) (lt-ltb r.bound (weight_of lib arch r.sink.0) above)) ∙ h in absurd cc
    | inr within ↦ within
  ]

  none_chosen : chosen_cut_of lib arch ≡ None → All (λ r. weight_of lib arch r.sink.0 ≤ r.bound) lib.requirements
  unfolding chosen_cut_of
  none_chosen h = λ k d short.
      let at = slice_get-get_or lib.requirements k d short in
      let none = none_made (no_good_of lib arch) 0 lib.requirements (none_left (filter_map (redundancy_of lib arch) (enumerate_from 0 lib.requirements)) (filter_map (no_good_of lib arch) (enumerate_from 0 lib.requirements)) h) k (get_or lib.requirements k d) at in
      no_good_none (0 + k) (get_or lib.requirements k d) none

  module _ (right : IsLibrary lib) (fits : IsArchitecture lib arch) where
    -- a required sink is a component
    sink_low : (q : ℕ) (r : Requirement) → slice_get lib.requirements q ≡ Some r → r.sink.0 < length lib.components
    sink_low q r at =
        let role = all_at (λ (r : Requirement). IsSomeAnd (slice_get lib.components r.sink.0) (λ row. row.role ≡ Sink)) lib.requirements right.sinks q r at in
        let row = some_and (slice_get lib.components r.sink.0) (λ row. row.role ≡ Sink) role in
        slice_get_within lib.components r.sink.0 row.0 row.1

    cut_list : (q : ℕ) (r : Requirement) (cut : Cut) (h : Heavy q r cut) → IsCutList lib arch r.sink.0 h.members
    cut_list q r cut h = (heaviest_is_cut lib arch r.sink.0 h.members h.heaviest).0

    -- the weight of its requirement is above the bound
    pub above_bound : (cut : Cut) (c : ChosenFor cut) → c.r.bound < weight_of lib arch c.r.sink.0
    above_bound cut c = elim c.kind [
      | inl alone ↦ let light = (cut_list c.number c.r cut alone).light in let over = alone.above in omega (arith, light, over)
      | inr sum ↦ ltb-true c.r.bound (weight_of lib arch c.r.sink.0) (chosen_if (nat_lt c.r.bound (weight_of lib arch c.r.sink.0)) (NoGood c.number (cone_of lib arch c.r.sink.0)) cut sum).0
    ]

    pub chosen_exactly : (chosen_cut_of lib arch ≡ None) ↔ All (λ r. weight_of lib arch r.sink.0 ≤ r.bound) lib.requirements
    chosen_exactly = (none_chosen, (λ all. by all (chosen_cut_of lib arch) refl)) where
      by : All (λ r. weight_of lib arch r.sink.0 ≤ r.bound) lib.requirements → (o : Option Cut) → chosen_cut_of lib arch ≡ o → chosen_cut_of lib arch ≡ None
      by all None e = e
      by all (Some cut) e =
          let c = chosen_for cut e in
          let within = all_at (λ (r : Requirement). weight_of lib arch r.sink.0 ≤ r.bound) lib.requirements all c.number c.r c.at in
          let above = above_bound cut c in
          absurd (omega (arith, within, above))

    no_good_is : (q : ℕ) (r : Requirement) (cut : Cut) → no_good_of lib arch (q, r) ≡ Some cut → (r.bound < weight_of lib arch r.sink.0) × (NoGood q (cone_of lib arch r.sink.0) ≡ cut)
    no_good_is q r cut h =
        let c = chosen_if (nat_lt r.bound (weight_of lib arch r.sink.0)) (NoGood q (cone_of lib arch r.sink.0)) cut h in
        (ltb-true r.bound (weight_of lib arch r.sink.0) c.0, c.1)

    -- the chosen cut is right
    pub chosen_right : (cut : Cut) → chosen_cut_of lib arch ≡ Some cut → IsRightCut lib cut arch
    chosen_right cut h =
        let c = chosen_for cut h in
        let low = sink_low c.number c.r c.at in
        elim c.kind [
          | inl alone ↦
              subst (λ (d : Cut). IsRightCut lib d arch) alone.is (and_some (slice_get lib.requirements c.number) c.r _ c.at
              (right_redundancy lib right arch fits c.r.sink.0 low alone.members (cut_list c.number c.r cut alone) c.r refl alone.above))
          | inr sum ↦
              let n = no_good_is c.number c.r cut sum in
              subst (λ (d : Cut). IsRightCut lib d arch) n.1 (and_some (slice_get lib.requirements c.number) c.r _ c.at (right_no_good lib right arch c.r.sink.0 low c.r refl n.0))
        ]

    -- the candidate's vector doesn't meet its row
    pub chosen_refuted : (cut : Cut) → chosen_cut_of lib arch ≡ Some cut → (x : ℕ → Bool) → IsVectorOf lib arch x → RowHolds (row_of_cut (cut_row_of lib cut arch)) x → ⊥
    chosen_refuted cut h x vector =
        let c = chosen_for cut h in
        let low = sink_low c.number c.r c.at in
        elim c.kind [
          | inl alone ↦
              let set = set_of_numbers alone.members in
              let far = far_of lib arch c.r.sink.0 set in
              let none = nothing_leads_out lib right arch fits c.r.sink.0 low alone.members (cut_list c.number c.r cut alone) in
              subst (λ (d : Cut). RowHolds (row_of_cut (cut_row_of lib d arch)) x → ⊥) alone.is
              (one_of_breaks (members_where lib (leads_out lib set far)) x (λ v among on.
              none v (where_passes lib (leads_out lib set far) v among) (sym (vector v (where_below lib (leads_out lib set far) v among)) ∙ on)))
          | inr sum ↦
              let n = no_good_is c.number c.r cut sum in
              subst (λ (d : Cut). RowHolds (row_of_cut (cut_row_of lib d arch)) x → ⊥) n.1
              (agreeing_breaks lib right arch (feeds lib (cone_of lib arch c.r.sink.0)) x (λ v short fed. vector v short))
        ]
