-- Coefficients that are added up in an array, as the loops over a row's terms and over the variables meet them.
use Rattle.std.proofs.Common.{◌≡◌, ◌≢◌, ℕ, zero, suc, ◌+◌, ◌*◌, ◌^◌, ◌≤◌, ◌<◌, ℤ, pos, negsuc, neg_ℤ, ◌+ℤ◌, ◌-ℤ◌, ◌*ℤ◌, unsigned_abs, Bool, true, false, ◌||◌, nat_eq, List, [], ◌∷◌, length, get_or, set, take, replicate, to_z, of_z, FitsSigned, IfSome, refl, sym, ap, subst, ◌∙◌, arith, inl, inr, eq-eqb, if◌then◌else◌}
use Rattle.std.specs.Int.{w128}
use Rattle.std.specs.List.{All, AllByRecursion}
use Rattle.std.proofs.Math.IntN.{+ℤ_assoc, +ℤ_idr, *ℤ-zero}
use Rattle.std.proofs.Math.Nat.{mul-le-mul_right}
use Rattle.std.proofs.lemmas.Bool.Decides.{eqb_tells}
use Rattle.std.proofs.lemmas.Int.{unsigned_abs-mul}
use Rattle.std.proofs.lemmas.List.{length-set, get_or-set_same, get_or-set_other, take_all}
use Rattle.std.proofs.lemmas.List.Elements.{recursion_from_All, All-from_recursion}
use Rattle.arch_model.specs.Parts.{LibraryParts}
use Rattle.arch_model.specs.Library.{IsLibrary}
use Rattle.arch_model.specs.Member.{is_in, member_count}
use Rattle.arch_model.specs.Set.{Set, has, members_below}
use Rattle.arch_model.specs.declared.limits.TheConstants.{MEMBERS}
use Rattle.arch_model.proofs.Members.{is_in-members}
use Rattle.rows.specs.declared.row.Term.{Term}
use Rattle.rows.specs.declared.known.Pair.{Pair}
use Rattle.rows.specs.Parts.{RowParts, CutParts, KnownParts}
use Rattle.rows.specs.Known.{row_at}
use Rattle.rows.specs.Reason.{row_of_pair, AllThere}
use Rattle.rows.specs.Row.{int_sum_by, coef_at, cut_coef, IsRow, IsSized}
use Rattle.rows.specs.BaseRows.{member_cost_of, cost_row_of}
use Rattle.rows.specs.Inner.Sums.{AreAdded, AreWithin}
use Rattle.rows.proofs.Activities.{blank, plain, plain_to, minus_is, minus_sized}
use Rattle.rows.proofs.IntSums.{int_sum_by-more, sized_sum}
use Rattle.rows.proofs.Combinations.{adds_fit, adds_is, times_add, pair_coef, blank_pair, of_there}
use Rattle.rows.proofs.Costs.{unlike, member_cost_small}
use Rattle.rows.proofs.ForcedTurns.{cost_coef_at}
use Rattle.rows.proofs.SetFacts.{none_of}
use Rattle.rows.proofs.ClosingLoops.{Climbs, climbs_members, low_members, not_above}
use Rattle.rows.proofs.WhatIsForced.{After, Rising, rising_from, coef_head, coef_tail}

-- after some of a row's terms
pub record AddedTerms (n times : ℕ) (terms : List Term) (before after : List ℤ) : Type 0 where
  pub long : length after ≡ length before
  pub value : AreAdded n times terms before after

-- after the variables below i, where f gives the coefficients
pub record AddedBelow (n i times : ℕ) (f : ℕ → ℤ) (before after : List ℤ) : Type 0 where
  pub long : length after ≡ length before
  pub done : (v : ℕ) → v < n → v < i → get_or after v (pos 0) ≡ get_or before v (pos 0) +ℤ (pos times *ℤ f v)
  pub rest : (v : ℕ) → i ≤ v → get_or after v (pos 0) ≡ get_or before v (pos 0)

abbrev pub minus_cost : LibraryParts → ℕ → ℤ
minus_cost lib v = neg_ℤ (pos (member_cost_of lib v))

-- one entry of the array and what is added to it, as the code has it
abbrev pub entry : ℤ → ℤ → ℤ
entry g s = to_z w128 (of_z w128 (to_z w128 (of_z w128 g) +ℤ to_z w128 (of_z w128 s)))

within : (g : ℤ) → unsigned_abs g ≤ 63 * 10 ^ 28 → to_z w128 (of_z w128 g) ≡ g
within g h = let small : unsigned_abs g ≤ 2 ^ 118 = omega (arith, h) in plain_to g small

entry_is : (g s : ℤ) → unsigned_abs g ≤ 63 * 10 ^ 28 → unsigned_abs s ≤ 10 ^ 28 → entry g s ≡ g +ℤ s
entry_is g s h k = ap (λ z. to_z w128 (of_z w128 (z +ℤ to_z w128 (of_z w128 s)))) (within g h) ∙ adds_is g s 63 64 (10 ^ 28) h k (omega arith) (omega arith) (omega arith)

entry_fits : (g s : ℤ) → unsigned_abs g ≤ 63 * 10 ^ 28 → unsigned_abs s ≤ 10 ^ 28 → FitsSigned w128 (to_z w128 (of_z w128 g) +ℤ to_z w128 (of_z w128 s))
entry_fits g s h k =
    let small : unsigned_abs s ≤ 2 ^ 118 = omega (arith, k) in
    let fits : FitsSigned w128 (g +ℤ s) = adds_fit g s 63 64 (10 ^ 28) h k (omega arith) (omega arith) in
    rw (within g h, plain_to s small) fits

-- a coefficient that is taken a number of times
times_small : (k : ℕ) (a : ℤ) → k ≤ 10 ^ 12 → unsigned_abs a ≤ 10 ^ 16 → unsigned_abs (pos k *ℤ a) ≤ 10 ^ 28
times_small k a h small =
    let size : k * unsigned_abs a ≤ 10 ^ 12 * unsigned_abs a = mul-le-mul_right (unsigned_abs a) h in
    let most : k * unsigned_abs a ≤ 10 ^ 28 = omega (arith, size, small) in
    rw (unsigned_abs-mul (pos k) a) most

-- the loops over the variables
module _ (n i times : ℕ) (f : ℕ → ℤ) (before sums : List ℤ) (s a : ℤ)
    (few : times ≤ 10 ^ 12) (room : AreWithin n (63 * 10 ^ 28) before) (so_far : AddedBelow n i times f before sums) (below : i < n) (inside : i < length sums)
    (is : s ≡ pos times *ℤ a) (same : a ≡ f i) (small : unsigned_abs (f i) ≤ 10 ^ 16) where
  old_is : get_or sums i (pos 0) ≡ get_or before i (pos 0)
  old_is = so_far.rest i (omega arith)

  old_small : unsigned_abs (get_or sums i (pos 0)) ≤ 63 * 10 ^ 28
  old_small = rw old_is (room i below)

  step_is : s ≡ pos times *ℤ f i
  step_is = is ∙ ap (λ z. pos times *ℤ z) same

  step_small : unsigned_abs s ≤ 10 ^ 28
  step_small = rw step_is (times_small times (f i) few small)

  new_is : entry (get_or sums i (pos 0)) s ≡ get_or before i (pos 0) +ℤ (pos times *ℤ f i)
  new_is = entry_is (get_or sums i (pos 0)) s old_small step_small ∙ ap (λ z. z +ℤ s) old_is ∙ ap (λ z. get_or before i (pos 0) +ℤ z) step_is

  done_more : (v : ℕ) → v < n → v < i + 1 → get_or (set sums i (entry (get_or sums i (pos 0)) s)) v (pos 0) ≡ get_or before v (pos 0) +ℤ (pos times *ℤ f v)
  done_more v short lt = elim (eqb_tells i v) [
    | inl w ↦
        ap (λ j. get_or (set sums i (entry (get_or sums i (pos 0)) s)) j (pos 0)) (sym w.1)
        ∙ get_or-set_same sums i (entry (get_or sums i (pos 0)) s) (pos 0) inside ∙ new_is
        ∙ ap (λ j. get_or before j (pos 0) +ℤ (pos times *ℤ f j)) w.1
    | inr w ↦
        let ne : v ≢ i = λ e. w.1 (sym e) in
        let earlier : v < i = omega arith in
        get_or-set_other sums i v (entry (get_or sums i (pos 0)) s) (pos 0) ne ∙ so_far.done v short earlier
  ]

  rest_more : (v : ℕ) → i + 1 ≤ v → get_or (set sums i (entry (get_or sums i (pos 0)) s)) v (pos 0) ≡ get_or before v (pos 0)
  rest_more v far =
      let ne : v ≢ i = λ e. absurd (omega arith) in
      get_or-set_other sums i v (entry (get_or sums i (pos 0)) s) (pos 0) ne ∙ so_far.rest v (omega arith)

  pub below_more : AddedBelow n (i + 1) times f before (set sums i (entry (get_or sums i (pos 0)) s))
  below_more = record {
    long = length-set sums i (entry (get_or sums i (pos 0)) s) ∙ so_far.long;
    done = done_more;
    rest = rest_more;
  }

-- at their end
pub below_all : (n i times : ℕ) (f : ℕ → ℤ) (before after : List ℤ) (terms : List Term) → AddedBelow n i times f before after → n ≤ i → ((v : ℕ) → v < n → coef_at terms v ≡ f v) → AreAdded n times terms before after
below_all n i times f before after terms h far same v short = h.done v short (omega arith) ∙ ap (λ z. get_or before v (pos 0) +ℤ (pos times *ℤ z)) (sym (same v short))

-- over the members of a set, ascending, where f is 0 at all other variables
pub record AddedMembers (n times : ℕ) (f : ℕ → ℤ) (rest : List ℕ) (before after : List ℤ) : Type 0 where
  pub long : length after ≡ length before
  pub low : AllByRecursion (λ y. y < MEMBERS) rest
  pub climbs : Climbs rest
  pub to_come : (v : ℕ) → v < n → is_in rest v ≡ true → get_or after v (pos 0) ≡ get_or before v (pos 0)
  pub done : (v : ℕ) → v < n → is_in rest v ≡ false → get_or after v (pos 0) ≡ get_or before v (pos 0) +ℤ (pos times *ℤ f v)

nothing_added : (times : ℕ) (a g : ℤ) → a ≡ pos 0 → g ≡ g +ℤ (pos times *ℤ a)
nothing_added times a g none = sym (ap (λ z. g +ℤ (pos times *ℤ z)) none ∙ ap (λ z. g +ℤ z) (*ℤ-zero (pos times)) ∙ +ℤ_idr g)

pub members_start : (n times : ℕ) (s : Set) (f : ℕ → ℤ) (rest : List ℕ) (before : List ℤ) → n ≤ MEMBERS → ((v : ℕ) → has s v ≡ false → f v ≡ pos 0) → rest ≡ members_below s MEMBERS → AddedMembers n times f rest before before
members_start n times s f rest before few none all =
    let P : List ℕ → Type 0 = λ l. AddedMembers n times f l before before in
    subst P (sym all) (record {
      long = refl;
      low = low_members s MEMBERS;
      climbs = climbs_members s MEMBERS;
      to_come = λ v short there. refl;
      done = λ v short out.
          let near : v < MEMBERS = omega arith in
          nothing_added times (f v) (get_or before v (pos 0)) (none v (none_of (has s v) (λ on. sym out ∙ is_in-members s MEMBERS v on near)));
    })

module _ (n times : ℕ) (f : ℕ → ℤ) (w : ℕ) (all rest : List ℕ) (before after : List ℤ) (so_far : AddedMembers n times f all before after) (step : all ≡ w ∷ rest) where
  turn : AddedMembers n times f (w ∷ rest) before after
  turn = let P : List ℕ → Type 0 = λ l. AddedMembers n times f l before after in subst P step so_far

  head : is_in (w ∷ rest) w ≡ true
  head = ap (λ b. b || is_in rest w) (eq-eqb w w refl)

  later : (b c : Bool) → c ≡ true → (b || c) ≡ true
  later true c h = refl
  later false c h = h

  pub member_small : w < MEMBERS
  member_small = turn.low.0

  pub members_past : n ≤ w → AddedMembers n times f rest before after
  members_past far = record {
    long = turn.long;
    low = turn.low.1;
    climbs = turn.climbs.1;
    to_come = λ v short there. turn.to_come v short (later (nat_eq w v) (is_in rest v) there);
    done = λ v short out.
        let ne : w ≡ v → ⊥ = λ e. absurd (omega arith) in
        turn.done v short (ap (λ b. b || is_in rest v) (unlike w v ne) ∙ out);
  }

  module _ (s a : ℤ) (few : times ≤ 10 ^ 12) (room : AreWithin n (63 * 10 ^ 28) before) (below : w < n) (is : s ≡ pos times *ℤ a) (same : a ≡ f w) (small : unsigned_abs (f w) ≤ 10 ^ 16) where
    member_was : get_or after w (pos 0) ≡ get_or before w (pos 0)
    member_was = turn.to_come w below head

    member_within : unsigned_abs (get_or after w (pos 0)) ≤ 63 * 10 ^ 28
    member_within = rw member_was (room w below)

    member_is : s ≡ pos times *ℤ f w
    member_is = is ∙ ap (λ z. pos times *ℤ z) same

    member_sized : unsigned_abs s ≤ 10 ^ 28
    member_sized = rw member_is (times_small times (f w) few small)

    pub member_fits : FitsSigned w128 (to_z w128 (of_z w128 (get_or after w (pos 0))) +ℤ to_z w128 (of_z w128 s))
    member_fits = entry_fits (get_or after w (pos 0)) s member_within member_sized

    member_now : entry (get_or after w (pos 0)) s ≡ get_or before w (pos 0) +ℤ (pos times *ℤ f w)
    member_now = entry_is (get_or after w (pos 0)) s member_within member_sized ∙ ap (λ z. z +ℤ s) member_was ∙ ap (λ z. get_or before w (pos 0) +ℤ z) member_is

    pub members_more : w < length after → AddedMembers n times f rest before (set after w (entry (get_or after w (pos 0)) s))
    members_more inside = record {
      long = length-set after w (entry (get_or after w (pos 0)) s) ∙ turn.long;
      low = turn.low.1;
      climbs = turn.climbs.1;
      to_come = λ v short there.
          let ne : v ≢ w = λ e. absurd (let off : is_in rest v ≡ false = ap (is_in rest) e ∙ not_above w w rest (omega arith) turn.climbs.0 in let g : true ≡ false = sym there ∙ off in cc) in
          get_or-set_other after w v (entry (get_or after w (pos 0)) s) (pos 0) ne ∙ turn.to_come v short (later (nat_eq w v) (is_in rest v) there);
      done = λ v short out. elim (eqb_tells w v) [
        | inl hit ↦
            ap (λ j. get_or (set after w (entry (get_or after w (pos 0)) s)) j (pos 0)) (sym hit.1)
            ∙ get_or-set_same after w (entry (get_or after w (pos 0)) s) (pos 0) inside ∙ member_now
            ∙ ap (λ j. get_or before j (pos 0) +ℤ (pos times *ℤ f j)) hit.1
        | inr miss ↦
            let ne : v ≢ w = λ e. miss.1 (sym e) in
            get_or-set_other after w v (entry (get_or after w (pos 0)) s) (pos 0) ne
            ∙ turn.done v short (ap (λ b. b || is_in rest v) (unlike w v miss.1) ∙ out)
      ];
    }

pub members_all : (n times : ℕ) (f : ℕ → ℤ) (rest : List ℕ) (before after : List ℤ) (terms : List Term) → AddedMembers n times f rest before after → rest ≡ [] → ((v : ℕ) → v < n → coef_at terms v ≡ f v) → AreAdded n times terms before after
members_all n times f rest before after terms h none same v short =
    h.done v short (ap (λ l. is_in l v) none) ∙ ap (λ z. get_or before v (pos 0) +ℤ (pos times *ℤ z)) (sym (same v short))

-- what was added is small
pub stays_small : (n times : ℕ) (terms : List Term) (before after : List ℤ) → times ≤ 10 ^ 12 → AreAdded n times terms before after → ((v : ℕ) → v < n → unsigned_abs (coef_at terms v) ≤ 10 ^ 16)
    → (m : ℕ) → AreWithin n m before → AreWithin n (m + 10 ^ 28) after
stays_small n times terms before after few added small m room v short =
    rw (added v short) (sized_sum (get_or before v (pos 0)) (pos times *ℤ coef_at terms v) m (10 ^ 28) (room v short) (times_small times (coef_at terms v) few (small v short)))

-- the coefficients of a cut and of the cost row
signed_small : (p q : Bool) → unsigned_abs (if p then pos 1 else (if q then negsuc 0 else pos 0)) ≤ 10 ^ 16
signed_small true q = omega arith
signed_small false true = omega arith
signed_small false false = omega arith

pub cut_small : (cut : CutParts) (v : ℕ) → unsigned_abs (cut_coef cut v) ≤ 10 ^ 16
cut_small cut v = signed_small (has cut.plus v) (has cut.minus v)

pub one_sized : (cut : CutParts) (v : ℕ) (a : ℤ) → a ≡ cut_coef cut v → to_z w128 (of_z w128 a) ≡ cut_coef cut v
one_sized cut v a is = let small : unsigned_abs a ≤ 10 ^ 16 = rw is (cut_small cut v) in plain a small ∙ is

pub minus_cost_small : (lib : LibraryParts) → IsLibrary lib → (v : ℕ) → v < member_count lib → unsigned_abs (minus_cost lib v) ≤ 10 ^ 16
minus_cost_small lib h v short = minus_sized (member_cost_of lib v) (member_cost_small lib h v short)

pub cost_row_small : (lib : LibraryParts) → IsLibrary lib → (v : ℕ) → v < member_count lib → unsigned_abs (coef_at (cost_row_of lib 0).terms v) ≤ 10 ^ 16
cost_row_small lib h v short = rw (cost_coef_at lib 0 v short) (minus_cost_small lib h v short)

pub minus_cost_is : (lib : LibraryParts) (v n : ℕ) → n ≤ 10 ^ 12 → n ≡ member_cost_of lib v → to_z w128 (of_z w128 (pos 0 -ℤ to_z w128 n)) ≡ minus_cost lib v
minus_cost_is lib v n small is = minus_is n small ∙ ap (λ k. neg_ℤ (pos k)) is

-- the terms before a term aren't at its variable, and each variable has one small coefficient
before_own : (terms : List Term) (i : ℕ) (d : Term) → Rising terms → i < length terms → coef_at (take i terms) (get_or terms i d).var.0 ≡ pos 0
before_own [] i d h short = absurd (omega arith)
before_own (t ∷ terms) zero d h short = refl
before_own (t ∷ terms) (suc i) d h short =
    let further : i < length terms = omega arith in
    let later : t.var.0 < (get_or terms i d).var.0 = All-from_recursion (λ u. t.var.0 < u.var.0) terms h.0 i d further in
    let ne : t.var.0 ≡ (get_or terms i d).var.0 → ⊥ = λ e. absurd (omega arith) in
    coef_tail t (take i terms) (get_or terms i d).var.0 ne ∙ before_own terms i d h.1 further

after_at : (t : Term) (terms : List Term) (v : ℕ) → t.var.0 ≡ v → After t.var.0 terms → After v terms
after_at t terms v e h = let family : ℕ → Type 0 = λ n. After n terms in subst family e h

each_small : (terms : List Term) (v : ℕ) → Rising terms → AllByRecursion (λ t. IsSized t.coef) terms → unsigned_abs (coef_at terms v) ≤ 10 ^ 16
each_small [] v h sized = omega arith
each_small (t ∷ terms) v h sized = elim (eqb_tells t.var.0 v) [
  | inl w ↦ rw (coef_head t terms v w.1 (after_at t terms v w.1 h.0)) sized.0
  | inr w ↦ rw (coef_tail t terms v w.1) (each_small terms v h.1 sized.1)
]

pub row_small : (row : RowParts) → IsRow row → (v : ℕ) → unsigned_abs (coef_at row.terms v) ≤ 10 ^ 16
row_small row ok v = each_small row.terms v (rising_from row.terms ok.ascending) (recursion_from_All (λ t. IsSized t.coef) row.terms ok.sized)

-- the coefficients with one more term
coef_same : (xs : List Term) (i : ℕ) → i < length xs → coef_at (take (i + 1) xs) (get_or xs i blank).var.0 ≡ coef_at (take i xs) (get_or xs i blank).var.0 +ℤ (get_or xs i blank).coef
coef_same xs i here =
    int_sum_by-more (λ t. if nat_eq t.var.0 (get_or xs i blank).var.0 then t.coef else pos 0) xs i blank here
    ∙ ap (λ b. coef_at (take i xs) (get_or xs i blank).var.0 +ℤ (if b then (get_or xs i blank).coef else pos 0)) (eq-eqb (get_or xs i blank).var.0 (get_or xs i blank).var.0 refl)

coef_other : (xs : List Term) (i v : ℕ) → i < length xs → ((get_or xs i blank).var.0 ≡ v → ⊥) → coef_at (take (i + 1) xs) v ≡ coef_at (take i xs) v
coef_other xs i v here ne =
    int_sum_by-more (λ t. if nat_eq t.var.0 v then t.coef else pos 0) xs i blank here
    ∙ ap (λ b. coef_at (take i xs) v +ℤ (if b then (get_or xs i blank).coef else pos 0)) (unlike (get_or xs i blank).var.0 v ne)
    ∙ +ℤ_idr (coef_at (take i xs) v)

-- the loop over a row's terms
module _ (n i times : ℕ) (row : RowParts) (xs : List Term) (before sums : List ℤ)
    (same : xs ≡ row.terms) (ok : IsRow row) (few : times ≤ 10 ^ 12) (room : AreWithin n (63 * 10 ^ 28) before) (here : i < length xs) (so_far : AddedTerms n times (take i xs) before sums) where
  abbrev var_at : ℕ
  var_at = (get_or xs i blank).var.0

  abbrev coef_there : ℤ
  coef_there = (get_or xs i blank).coef

  coef_small : unsigned_abs coef_there ≤ 10 ^ 16
  coef_small = let sized : All (λ t. IsSized t.coef) xs = rw same ok.sized in sized i blank here

  pub terms_past : n ≤ var_at → AddedTerms n times (take (i + 1) xs) before sums
  terms_past far = record {
    long = so_far.long;
    value = λ v short.
        let ne : var_at ≡ v → ⊥ = λ e. absurd (omega arith) in
        so_far.value v short ∙ ap (λ z. get_or before v (pos 0) +ℤ (pos times *ℤ z)) (sym (coef_other xs i v here ne));
  }

  module _ (s : ℤ) (below : var_at < n) (is : s ≡ pos times *ℤ to_z w128 (of_z w128 coef_there)) where
    none_yet : coef_at (take i xs) var_at ≡ pos 0
    none_yet = let rising : Rising xs = rw same (rising_from row.terms ok.ascending) in before_own xs i blank rising here

    old_was : get_or sums var_at (pos 0) ≡ get_or before var_at (pos 0)
    old_was =
        so_far.value var_at below ∙ ap (λ z. get_or before var_at (pos 0) +ℤ (pos times *ℤ z)) none_yet
        ∙ ap (λ z. get_or before var_at (pos 0) +ℤ z) (*ℤ-zero (pos times)) ∙ +ℤ_idr (get_or before var_at (pos 0))

    was_small : unsigned_abs (get_or sums var_at (pos 0)) ≤ 63 * 10 ^ 28
    was_small = rw old_was (room var_at below)

    turn_is : s ≡ pos times *ℤ coef_there
    turn_is = is ∙ ap (λ z. pos times *ℤ z) (plain coef_there coef_small)

    turn_small : unsigned_abs s ≤ 10 ^ 28
    turn_small = rw turn_is (times_small times coef_there few coef_small)

    pub terms_fit : FitsSigned w128 (to_z w128 (of_z w128 (get_or sums var_at (pos 0))) +ℤ to_z w128 (of_z w128 s))
    terms_fit = entry_fits (get_or sums var_at (pos 0)) s was_small turn_small

    grown : get_or sums var_at (pos 0) +ℤ s ≡ get_or before var_at (pos 0) +ℤ (pos times *ℤ coef_at (take (i + 1) xs) var_at)
    grown =
        ap (λ z. z +ℤ s) (so_far.value var_at below) ∙ ap (λ z. (get_or before var_at (pos 0) +ℤ (pos times *ℤ coef_at (take i xs) var_at)) +ℤ z) turn_is
        ∙ +ℤ_assoc (get_or before var_at (pos 0)) (pos times *ℤ coef_at (take i xs) var_at) (pos times *ℤ coef_there)
        ∙ ap (λ z. get_or before var_at (pos 0) +ℤ z) (sym (times_add times (coef_at (take i xs) var_at) coef_there))
        ∙ ap (λ z. get_or before var_at (pos 0) +ℤ (pos times *ℤ z)) (sym (coef_same xs i here))

    pub terms_more : var_at < length sums → AddedTerms n times (take (i + 1) xs) before (set sums var_at (entry (get_or sums var_at (pos 0)) s))
    terms_more inside = record {
      long = length-set sums var_at (entry (get_or sums var_at (pos 0)) s) ∙ so_far.long;
      value = λ v short. elim (eqb_tells var_at v) [
        | inl w ↦
            ap (λ j. get_or (set sums var_at (entry (get_or sums var_at (pos 0)) s)) j (pos 0)) (sym w.1)
            ∙ get_or-set_same sums var_at (entry (get_or sums var_at (pos 0)) s) (pos 0) inside
            ∙ entry_is (get_or sums var_at (pos 0)) s was_small turn_small ∙ grown
            ∙ ap (λ j. get_or before j (pos 0) +ℤ (pos times *ℤ coef_at (take (i + 1) xs) j)) w.1
        | inr w ↦
            let ne : v ≢ var_at = λ e. w.1 (sym e) in
            get_or-set_other sums var_at v (entry (get_or sums var_at (pos 0)) s) (pos 0) ne ∙ so_far.value v short
            ∙ ap (λ z. get_or before v (pos 0) +ℤ (pos times *ℤ z)) (sym (coef_other xs i v here w.1))
      ];
    }

pub terms_all : (n i times : ℕ) (xs terms : List Term) (before after : List ℤ) → xs ≡ terms → length xs ≤ i → AddedTerms n times (take i xs) before after → AreAdded n times terms before after
terms_all n i times xs terms before after same far h v short = h.value v short ∙ ap (λ l. get_or before v (pos 0) +ℤ (pos times *ℤ coef_at l v)) (take_all i xs far ∙ same)

-- an array of zeros
pub zeros_at : (n v : ℕ) → get_or (replicate n (pos 0)) v (pos 0) ≡ pos 0
zeros_at zero v = refl
zeros_at (suc n) zero = refl
zeros_at (suc n) (suc v) = zeros_at n v

pub zeros_small : (n v : ℕ) → unsigned_abs (get_or (replicate n (pos 0)) v (pos 0)) ≤ 0
zeros_small n v = rw (zeros_at n v) (omega arith)

-- the loop over a reason's pairs
pub pair_added : (known : KnownParts) (n : ℕ) (pairs xs : List Pair) (i : ℕ) (before after : List ℤ) → xs ≡ pairs → AllThere known pairs → i < length xs
    → ((v : ℕ) → v < n → get_or before v (pos 0) ≡ int_sum_by (pair_coef known v) (take i xs))
    → IfSome (row_at known (get_or xs i blank_pair).row) (λ row. AreAdded n (get_or xs i blank_pair).times row.terms before after)
    → (v : ℕ) → v < n → get_or after v (pos 0) ≡ int_sum_by (pair_coef known v) (take (i + 1) xs)
pair_added known n pairs xs i before after same there here sum added v short =
    let all : AllThere known xs = rw same there in
    let more : AreAdded n (get_or xs i blank_pair).times (row_of_pair known (get_or xs i blank_pair)).terms before after =
    of_there (λ row. AreAdded n (get_or xs i blank_pair).times row.terms before after) (row_at known (get_or xs i blank_pair).row) (all i blank_pair here) added in
    more v short ∙ ap (λ z. z +ℤ pair_coef known v (get_or xs i blank_pair)) (sum v short) ∙ sym (int_sum_by-more (pair_coef known v) xs i blank_pair here)

pub pair_small : (n i : ℕ) (before after : List ℤ) → AreWithin n (i * 10 ^ 28) before → ((m : ℕ) → AreWithin n m before → AreWithin n (m + 10 ^ 28) after) → AreWithin n ((i + 1) * 10 ^ 28) after
pair_small n i before after small grows v short = let size : unsigned_abs (get_or after v (pos 0)) ≤ i * 10 ^ 28 + 10 ^ 28 = grows (i * 10 ^ 28) small v short in omega (arith, size)
