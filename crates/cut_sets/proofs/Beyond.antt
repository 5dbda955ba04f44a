-- The sets that have some chosen members at their front.
use Rattle.std.proofs.Common.{◌≡◌, ℕ, ◌+◌, ◌<◌, Bool, true, false, not, ◌&&◌, ◌||◌, nat_eq, nat_lt, List, [], ◌∷◌, ◌++◌, sym, ap, ◌∙◌, append_assoc, inl, inr}
use Rattle.std.specs.List.{list_all}
use Rattle.std.proofs.lemmas.Bool.{eqb-true, eq-eqb}
use Rattle.arch_model.specs.Parts.{LibraryParts, ArchitectureParts}
use Rattle.arch_model.specs.Architecture.{IsArchitecture}
use Rattle.arch_model.specs.Set.{Set, has, put, empty, minus, members_below}
use Rattle.arch_model.specs.Member.{is_in}
use Rattle.arch_model.specs.Path.{parts}
use Rattle.arch_model.specs.Weight.{product_of}
use Rattle.arch_model.specs.CutSet.{without, is_minimal_cut_set}
use Rattle.arch_model.proofs.Members.{and_left, and_right, and_both, or_cases, same_test, not_of, bool_cases, is_in-filter, is_in-append, is_in-members, has-from_members}
use Rattle.arch_model.proofs.Sublists.{map_all}
use Rattle.arch_model.proofs.Pruning.{none_below, none_beyond, parts_mono}
use Rattle.arch_model.proofs.CutSets.{passes as each_passes, all_pass}
use Rattle.arch_model.proofs.SetLaws.{has-empty, has-put, has-minus}
use Rattle.cut_sets.specs.Inner.Upcoming.{NetworkParts, is_live_cut_set, candidates_from, sets_beyond}
use Rattle.cut_sets.proofs.Filters.{passing, passing_yes, passing_no, none_begins, none_passes}

-- a test on the union of a front and the rest is a test on the longer front and the rest
longer : (live : List ℕ → Bool) (chosen : List ℕ) (w : ℕ) (cs : List ℕ) → passing live (λ m. chosen ++ (w ∷ m)) cs ≡ passing live (λ m. (chosen ++ w ∷ []) ++ m) cs
longer live chosen w cs = ap (λ f. passing live f cs) (λ i m. sym (append_assoc chosen (w ∷ []) m) i)

pub and_no : (a b : Bool) → a ≡ false → (a && b) ≡ false
and_no a b h = ap (λ x. x && b) h

pub and_yes : (a b : Bool) → a ≡ true → (a && b) ≡ b
and_yes a b h = ap (λ x. x && b) h

module _ (net : NetworkParts) where
  abbrev live : List ℕ → Bool
  live = is_live_cut_set net.lib net.arch net.sink

  pub beyond_none : (chosen : List ℕ) (i : ℕ) → candidates_from net i ≡ [] → sets_beyond net chosen i ≡ []
  unfolding sets_beyond
  beyond_none chosen i e = ap (λ cs. passing live (λ m. chosen ++ m) cs) e

  -- the least candidate is chosen, which makes no set, or left out
  pub beyond_step : (chosen : List ℕ) (i w : ℕ) → candidates_from net i ≡ w ∷ candidates_from net (w + 1) → live (chosen ++ w ∷ []) ≡ false
      → sets_beyond net chosen i ≡ sets_beyond net (chosen ++ w ∷ []) (w + 1) ++ sets_beyond net chosen (w + 1)
  unfolding sets_beyond
  beyond_step chosen i w e fails =
      ap (λ cs. passing live (λ m. chosen ++ m) cs) e
      ∙ passing_no live (λ m. chosen ++ m) w (candidates_from net (w + 1)) fails
      ∙ ap (λ l. l ++ passing live (λ m. chosen ++ m) (candidates_from net (w + 1))) (longer live chosen w (candidates_from net (w + 1)))

  -- or it makes one
  pub beyond_given : (chosen : List ℕ) (i w : ℕ) → candidates_from net i ≡ w ∷ candidates_from net (w + 1) → live (chosen ++ w ∷ []) ≡ true
      → sets_beyond net (chosen ++ w ∷ []) (w + 1) ≡ [] → sets_beyond net chosen i ≡ (chosen ++ w ∷ []) ∷ sets_beyond net chosen (w + 1)
  unfolding sets_beyond
  beyond_given chosen i w e passes none =
      ap (λ cs. passing live (λ m. chosen ++ m) cs) e
      ∙ passing_yes live (λ m. chosen ++ m) w (candidates_from net (w + 1)) passes
      ∙ ap (λ l. (chosen ++ w ∷ []) ∷ (l ++ passing live (λ m. chosen ++ m) (candidates_from net (w + 1)))) (longer live chosen w (candidates_from net (w + 1)) ∙ none)

  module _ (fits : IsArchitecture net.lib net.arch) where
    pub dead : (m : List ℕ) → is_minimal_cut_set net.lib net.arch net.sink m ≡ false → live m ≡ false
    dead m h = and_no (is_minimal_cut_set net.lib net.arch net.sink m) (nat_lt 0 (product_of net.lib m)) h

    -- no set has the chosen ones at its front, where all others together leave a path
    pub beyond_spent : (chosen : List ℕ) (i : ℕ) → parts net.lib net.arch net.sink (is_in (chosen ++ candidates_from net i)) ≡ false → sets_beyond net chosen i ≡ []
    unfolding sets_beyond
    beyond_spent chosen i uncut =
        none_passes live (λ m. chosen ++ m) (candidates_from net i) (map_all _ _ (λ m h. dead (chosen ++ m) h) (candidates_from net i) (none_below net.lib net.arch fits net.sink chosen (candidates_from net i) uncut))

    -- nor where they part the sink
    pub beyond_cut : (chosen : List ℕ) (i : ℕ) → parts net.lib net.arch net.sink (is_in chosen) ≡ true → ((y : ℕ) → is_in (candidates_from net i) y ≡ true → is_in chosen y ≡ false) → sets_beyond net chosen i ≡ []
    unfolding sets_beyond
    beyond_cut chosen i cuts fresh =
        none_begins live (λ m. chosen ++ m) (candidates_from net i) (λ y m among. dead (chosen ++ y ∷ m) (none_beyond net.lib net.arch fits net.sink chosen m y (fresh y among) cuts))

    -- more failed members
    pub spent_wider : (chosen : List ℕ) (i : ℕ) (wide : Set) → ((c : ℕ) → is_in chosen c ≡ true → has wide c ≡ true) → ((c : ℕ) → is_in (candidates_from net i) c ≡ true → has wide c ≡ true)
        → parts net.lib net.arch net.sink (has wide) ≡ false → sets_beyond net chosen i ≡ []
    spent_wider chosen i wide front rest uncut = beyond_spent chosen i (elim (bool_cases (parts net.lib net.arch net.sink (is_in (chosen ++ candidates_from net i)))) [
      | inl cuts ↦
          let wider = parts_mono net.lib net.arch fits net.sink (is_in (chosen ++ candidates_from net i)) (has wide)
          (λ c h. elim (or_cases (is_in chosen c) (is_in (candidates_from net i) c) (sym (is_in-append chosen (candidates_from net i) c) ∙ h)) [ inl a ↦ front c a | inr b ↦ rest c b ]) cuts in
          absurd (let e : true ≡ false = sym wider ∙ uncut in cc)
      | inr holds ↦ holds
    ])

-- the test of minimality on sets and on lists
same_without : (s : Set) (members : List ℕ) → ((v : ℕ) → has s v ≡ is_in members v) → (c v : ℕ) → has (minus s (put empty c)) v ≡ is_in (without c members) v
same_without s members same c v =
    has-minus s (put empty c) v
    ∙ ap (λ b. has s v && not b) (has-put empty c v ∙ ap (λ b. b || nat_eq c v) (has-empty v))
    ∙ ap (λ b. b && not (nat_eq c v)) (same v)
    ∙ turned (is_in members v) (nat_eq c v) (nat_eq v c) (λ h. eq-eqb v c (sym (eqb-true c v h))) (λ h. eq-eqb c v (sym (eqb-true v c h)))
    ∙ sym (is_in-filter (λ d. not (nat_eq d c)) members v) where
      turned : (a b d : Bool) → (b ≡ true → d ≡ true) → (d ≡ true → b ≡ true) → (a && not b) ≡ (not d && a)
      turned a b d to from = same_test (a && not b) (not d && a)
          (λ h. and_both (not d) a (not_of b d from (and_right a (not b) h)) (and_left a (not b) h))
          (λ h. and_both a (not b) (and_right (not d) a h) (not_of d b to (and_left (not d) a h)))

abbrev needs : LibraryParts → ArchitectureParts → ℕ → List ℕ → ℕ → Bool
needs lib arch sink members c = not (parts lib arch sink (is_in (without c members)))

pub minimal_on_set : (lib : LibraryParts) (arch : ArchitectureParts) (sink : ℕ) (s : Set) (n : ℕ) (members : List ℕ) → ((v : ℕ) → has s v ≡ is_in members v) → ((v : ℕ) → is_in members v ≡ true → v < n)
    → list_all (λ c. not (parts lib arch sink (has (minus s (put empty c))))) (members_below s n) ≡ list_all (needs lib arch sink members) members
minimal_on_set lib arch sink s n members same small =
    ap (λ (t : ℕ → Bool). list_all t (members_below s n)) (λ i c. not (parts lib arch sink (λ v. same_without s members same c v i)))
    ∙ same_test (list_all (needs lib arch sink members) (members_below s n)) (list_all (needs lib arch sink members) members)
    (λ h. all_pass (needs lib arch sink members) members (λ c k. each_passes (needs lib arch sink members) (members_below s n) h c (is_in-members s n c (same c ∙ k) (small c k))))
    (λ h. all_pass (needs lib arch sink members) (members_below s n) (λ c k. each_passes (needs lib arch sink members) members h c (sym (same c) ∙ has-from_members s n c k)))
