-- The order in which minimal cut sets are looked at: by product, then by their lists of members.
use Rattle.std.proofs.Common.{◌≡◌, ℕ, ◌<◌, true, false, not, ◌&&◌, nat_eq, List, refl, sym, ap, ◌∙◌, arith, ◌⊎◌, inl, inr, eq-eqb}
use Rattle.std.specs.Prelude.{nat_lt}
use Rattle.std.specs.Ordering.{is_gt, nat_cmp, ordering_reverse}
use Rattle.std.specs.declared.cmp.Ordering.{Ordering}
use Rattle.std.specs.declared.cmp.Ordering.TheVariants.{Less, Equal, Greater}
use Rattle.std.specs.Cmp.Lexicographic.{slice_cmp}
use Rattle.std.proofs.lemmas.Bool.{ltb-true, lt-ltb, eqb-true, cases_lt}
use Rattle.std.proofs.lemmas.Cmp.{nat_list_cmp_total}
use Rattle.std.proofs.lemmas.Map.Lookups.{exact_bytes}
use Rattle.arch_model.specs.Parts.{LibraryParts}
use Rattle.arch_model.specs.Weight.{product_of}
use Rattle.arch_model.proofs.Members.{and_left, and_right, and_both, or_left, or_right, or_cases}
use Rattle.redundancy_cut.specs.ChosenCut.{goes_before}

abbrev order : List ℕ → List ℕ → Ordering
order a b = slice_cmp nat_cmp a b

-- not greater, one way or the other
not_gt : (o : Ordering) → (not (is_gt o) ≡ true) ⊎ (not (is_gt (ordering_reverse o)) ≡ true)
not_gt Less = inl refl
not_gt Equal = inl refl
not_gt Greater = inr refl

pub either_way : (a b : List ℕ) → (not (is_gt (order a b)) ≡ true) ⊎ (not (is_gt (order b a)) ≡ true)
either_way a b = elim (not_gt (order a b)) [
  | inl here ↦ inl here
  | inr there ↦ inr (ap (λ o. not (is_gt o)) (nat_list_cmp_total.antisymm b a) ∙ there)
]

through_less : (a b c : List ℕ) (o p : Ordering) → order a b ≡ o → order b c ≡ p → not (is_gt o) ≡ true → not (is_gt p) ≡ true → not (is_gt (order a c)) ≡ true
through_less a b c Equal p e f h k = ap (λ o. not (is_gt o)) (nat_list_cmp_total.congr a b c e ∙ f) ∙ k
through_less a b c Less Less e f h k = ap (λ o. not (is_gt o)) (nat_list_cmp_total.trans a b c e f)
through_less a b c Less Equal e f h k =
    ap (λ o. not (is_gt o))
    (nat_list_cmp_total.antisymm a c ∙ ap ordering_reverse (sym (nat_list_cmp_total.congr b c a f)) ∙ sym (nat_list_cmp_total.antisymm a b) ∙ e)
through_less a b c Less Greater e f h k = let g : false ≡ true = k in absurd cc
through_less a b c Greater p e f h k = let g : false ≡ true = h in absurd cc

not_gt_trans : (a b c : List ℕ) → not (is_gt (order a b)) ≡ true → not (is_gt (order b c)) ≡ true → not (is_gt (order a c)) ≡ true
not_gt_trans a b c h k = through_less a b c (order a b) (order b c) refl refl h k

-- lists that aren't greater than each other are one
same_if : (o : Ordering) → not (is_gt o) ≡ true → not (is_gt (ordering_reverse o)) ≡ true → o ≡ Equal
same_if Less h k = let e : false ≡ true = k in absurd cc
same_if Equal h k = refl
same_if Greater h k = let e : false ≡ true = h in absurd cc

pub same_list : (a b : List ℕ) → not (is_gt (order a b)) ≡ true → not (is_gt (order b a)) ≡ true → a ≡ b
same_list a b h k = exact_bytes a b (same_if (order a b) h (sym (ap (λ o. not (is_gt o)) (nat_list_cmp_total.antisymm b a)) ∙ k))

-- not greater is the same or less
same_or : (a b : List ℕ) (o : Ordering) → order a b ≡ o → not (is_gt o) ≡ true → (a ≡ b) ⊎ (order a b ≡ Less)
same_or a b Less e h = inr e
same_or a b Equal e h = inl (exact_bytes a b e)
same_or a b Greater e h = let f : false ≡ true = h in absurd cc

pub same_or_less : (a b : List ℕ) → not (is_gt (order a b)) ≡ true → (a ≡ b) ⊎ (order a b ≡ Less)
same_or_less a b h = same_or a b (order a b) refl h

pub not_gt_of : (a b : List ℕ) → (a ≡ b) ⊎ (order a b ≡ Less) → not (is_gt (order a b)) ≡ true
not_gt_of a b h = elim h [
  | inl same ↦ ap (λ c. not (is_gt (order a c))) (sym same) ∙ elim (either_way a a) [ inl here ↦ here | inr here ↦ here ]
  | inr less ↦ ap (λ o. not (is_gt o)) less
]

module _ (lib : LibraryParts) where
  -- what going before says
  pub before_says : (a b : List ℕ) → goes_before lib a b ≡ true → (product_of lib b < product_of lib a) ⊎ ((product_of lib b ≡ product_of lib a) × (not (is_gt (order a b)) ≡ true))
  before_says a b h = elim (or_cases (nat_lt (product_of lib b) (product_of lib a)) (nat_eq (product_of lib b) (product_of lib a) && not (is_gt (order a b))) h) [
    | inl less ↦ inl (ltb-true (product_of lib b) (product_of lib a) less)
    | inr same ↦ inr (eqb-true (product_of lib b) (product_of lib a) (and_left (nat_eq (product_of lib b) (product_of lib a)) (not (is_gt (order a b))) same), and_right (nat_eq (product_of lib b) (product_of lib a)) (not (is_gt (order a b))) same)
  ]

  pub before_less : (a b : List ℕ) → product_of lib b < product_of lib a → goes_before lib a b ≡ true
  before_less a b h = or_left (nat_lt (product_of lib b) (product_of lib a)) (nat_eq (product_of lib b) (product_of lib a) && not (is_gt (order a b))) (lt-ltb (product_of lib b) (product_of lib a) h)

  pub before_same : (a b : List ℕ) → product_of lib b ≡ product_of lib a → not (is_gt (order a b)) ≡ true → goes_before lib a b ≡ true
  before_same a b e h = or_right (nat_lt (product_of lib b) (product_of lib a)) (nat_eq (product_of lib b) (product_of lib a) && not (is_gt (order a b)))
      (and_both (nat_eq (product_of lib b) (product_of lib a)) (not (is_gt (order a b))) (eq-eqb (product_of lib b) (product_of lib a) e) h)

  pub before_total : (a b : List ℕ) → (goes_before lib a b ≡ true) ⊎ (goes_before lib b a ≡ true)
  before_total a b = elim (cases_lt (product_of lib b) (product_of lib a)) [
    | inl less ↦ inl (before_less a b less)
    | inr not_less ↦ elim (cases_lt (product_of lib a) (product_of lib b)) [
      | inl more ↦ inr (before_less b a more)
      | inr not_more ↦
          let same : product_of lib b ≡ product_of lib a = omega arith in
          elim (either_way a b) [ inl here ↦ inl (before_same a b same here) | inr there ↦ inr (before_same b a (sym same) there) ]
    ]
  ]

  pub before_trans : (a b c : List ℕ) → goes_before lib a b ≡ true → goes_before lib b c ≡ true → goes_before lib a c ≡ true
  before_trans a b c h k = elim (before_says a b h) [
    | inl less ↦ elim (before_says b c k) [ inl lower ↦ before_less a c (omega arith) | inr same ↦ before_less a c (omega (arith, less, same.0)) ]
    | inr same ↦ elim (before_says b c k) [
      | inl less ↦ before_less a c (omega (arith, less, same.0))
      | inr as_much ↦ before_same a c (as_much.0 ∙ same.0) (not_gt_trans a b c same.1 as_much.1)
    ]
  ]
