-- The first of the greatest of the sets that were looked at.
use Rattle.std.proofs.Common.{◌≡◌, ℕ, zero, suc, ◌+◌, ◌<◌, ◌≤◌, List, [], ◌∷◌, ◌++◌, map, refl, sym, ap, ◌∙◌, subst, append_assoc, arith, ◌⊎◌, inl, inr, ◌↔◌, Option, None, Some, MatchOption, IfSome, IsNone}
use Rattle.std.specs.List.{AllByRecursion}
use Rattle.std.specs.List.Sorted.{IsStrictlySortedBy}
use Rattle.std.specs.Ordering.{nat_cmp}
use Rattle.std.specs.declared.cmp.Ordering.TheVariants.{Less}
use Rattle.std.specs.Cmp.Lexicographic.{slice_cmp}
use Rattle.std.proofs.lemmas.List.{append-nil}
use Rattle.smallvec.specs.SmallVec.{SmallVec}
use Rattle.arch_model.specs.declared.sets.VarId.{VarId}
use Rattle.arch_model.specs.Parts.{LibraryParts, ArchitectureParts}
use Rattle.arch_model.specs.Architecture.{IsArchitecture}
use Rattle.arch_model.specs.CutSet.{IsMinimalCutSet}
use Rattle.arch_model.specs.Weight.{product_of, IsHeaviest}
use Rattle.cut_sets.specs.CutSets.{cut_sets_of}
use Rattle.cut_sets.proofs.Listed.{Among, contains_among, listed_exact}
use Rattle.cut_sets.proofs.Ordered.{listed_ascend}

abbrev pub numbers : SmallVec VarId → List ℕ
numbers v = map (λ m. m.0) v.items

-- m is the first of some sets that have the greatest product
pub record IsFirstGreatest (lib : LibraryParts) (done : List (List ℕ)) (m : List ℕ) (most : ℕ) : Type 0 where
  pub among : Among done m
  pub value : product_of lib m ≡ most
  pub bound : (x : List ℕ) → Among done x → product_of lib x ≤ most
  pub ties : (x : List ℕ) → Among done x → product_of lib x ≡ most → (m ≡ x) ⊎ (slice_cmp nat_cmp m x ≡ Less)

-- the best of the sets that were looked at
abbrev pub IsBest : LibraryParts → List (List ℕ) → Option (SmallVec VarId) → ℕ → Type 0
IsBest lib done best most = MatchOption best ((done ≡ []) × (most ≡ 0)) (λ v. IsFirstGreatest lib done (numbers v) most)

among_last : (done : List (List ℕ)) (x y : List ℕ) → Among (done ++ x ∷ []) y → Among done y ⊎ (x ≡ y)
among_last [] x y h = elim h [ inl e ↦ inr e | inr none ↦ absurd none ]
among_last (d ∷ ds) x y h = elim h [
  | inl e ↦ inl (inl e)
  | inr later ↦ elim (among_last ds x y later) [ inl a ↦ inl (inr a) | inr e ↦ inr e ]
]

among_first : (done : List (List ℕ)) (x y : List ℕ) → Among done y → Among (done ++ x ∷ []) y
among_first [] x y h = absurd h
among_first (d ∷ ds) x y h = elim h [ inl e ↦ inl e | inr later ↦ inr (among_first ds x y later) ]

last_among : (done : List (List ℕ)) (x : List ℕ) → Among (done ++ x ∷ []) x
last_among [] x = inl refl
last_among (d ∷ ds) x = inr (last_among ds x)

bounded : (lib : LibraryParts) (done : List (List ℕ)) (best : Option (SmallVec VarId)) (most : ℕ) → IsBest lib done best most → (y : List ℕ) → Among done y → product_of lib y ≤ most
bounded lib done None most h y among = absurd (subst (λ l. Among l y) h.0 among)
bounded lib done (Some v) most h y among = h.bound y among

-- a set with a greater product is the best
pub taken : (lib : LibraryParts) (done : List (List ℕ)) (best : Option (SmallVec VarId)) (most : ℕ) (v : SmallVec VarId) → IsBest lib done best most → most < product_of lib (numbers v)
    → IsFirstGreatest lib (done ++ numbers v ∷ []) (numbers v) (product_of lib (numbers v))
taken lib done best most v h more = record {
  among = last_among done (numbers v);
  value = refl;
  bound = λ x among. elim (among_last done (numbers v) x among) [
    | inl before ↦ let b = bounded lib done best most h x before in omega (arith, b, more)
    | inr e ↦ let s = ap (product_of lib) e in omega (arith, s)
  ];
  ties = λ x among same. elim (among_last done (numbers v) x among) [
    | inl before ↦ let b = bounded lib done best most h x before in absurd (omega (arith, b, more, same))
    | inr e ↦ inl e
  ];
}

at_last : (P : List ℕ → Type 0) (done : List (List ℕ)) (x : List ℕ) (rest : List (List ℕ)) → AllByRecursion P (done ++ x ∷ rest) → P x
at_last P [] x rest h = h.0
at_last P (d ∷ ds) x rest h = at_last P ds x rest h.1

earlier : (done : List (List ℕ)) (x : List ℕ) (rest : List (List ℕ)) → IsStrictlySortedBy (slice_cmp nat_cmp) (done ++ x ∷ rest) → (m : List ℕ) → Among done m → slice_cmp nat_cmp m x ≡ Less
unfolding IsStrictlySortedBy
earlier [] x rest sorted m h = absurd h
earlier (d ∷ ds) x rest sorted m h = elim h [
  | inl e ↦ subst (λ l. slice_cmp nat_cmp l x ≡ Less) e (at_last (λ l. slice_cmp nat_cmp d l ≡ Less) ds x rest sorted.0)
  | inr later ↦ earlier ds x rest sorted.1 m later
]

-- the best stays the best before a set whose product isn't greater
pub kept : (lib : LibraryParts) (done : List (List ℕ)) (best : Option (SmallVec VarId)) (most : ℕ) (x : List ℕ) (rest : List (List ℕ))
    → IsStrictlySortedBy (slice_cmp nat_cmp) (done ++ x ∷ rest) → 0 < product_of lib x → product_of lib x ≤ most → IsBest lib done best most → IsBest lib (done ++ x ∷ []) best most
kept lib done None most x rest sorted some less h = let z = h.1 in absurd (omega (arith, z, some, less))
kept lib done (Some v) most x rest sorted some less h = record {
  among = among_first done x (numbers v) h.among;
  value = h.value;
  bound = λ y among. elim (among_last done x y among) [
    | inl before ↦ h.bound y before
    | inr e ↦ let s = ap (product_of lib) e in omega (arith, s, less)
  ];
  ties = λ y among same. elim (among_last done x y among) [
    | inl before ↦ h.ties y before same
    | inr e ↦ inr (subst (λ l. slice_cmp nat_cmp (numbers v) l ≡ Less) e (earlier done x rest sorted (numbers v) h.among))
  ];
}

some_or_none : (n : ℕ) → (n ≡ 0) ⊎ (0 < n)
some_or_none zero = inl refl
some_or_none (suc n) = inr (omega arith)

module _ (lib : LibraryParts) (arch : ArchitectureParts) (fits : IsArchitecture lib arch) (sink : ℕ) where
  -- the sets that were looked at, and those still to come
  abbrev pub IsUnderWay : Option (SmallVec VarId) → ℕ → List (List ℕ) → Type 0
  IsUnderWay best most rest = (done : List (List ℕ)) × (cut_sets_of lib arch sink ≡ done ++ rest) × IsBest lib done best most

  positive : (x : List ℕ) → Among (cut_sets_of lib arch sink) x → 0 < product_of lib x
  positive x among = ((listed_exact lib arch fits sink x).0 ((contains_among (cut_sets_of lib arch sink) x).1 among)).1

  pub started : IsUnderWay None 0 (cut_sets_of lib arch sink)
  started = ([], refl, (refl, refl))

  longer : (done : List (List ℕ)) (x : List ℕ) (now rest : List (List ℕ)) → now ≡ x ∷ rest → cut_sets_of lib arch sink ≡ done ++ now → cut_sets_of lib arch sink ≡ (done ++ x ∷ []) ++ rest
  longer done x now rest is split = split ∙ ap (λ l. done ++ l) is ∙ sym (append_assoc done (x ∷ []) rest)

  pub better : (best : Option (SmallVec VarId)) (most : ℕ) (v : SmallVec VarId) (now rest : List (List ℕ)) → now ≡ numbers v ∷ rest → IsUnderWay best most now → (value : ℕ) → value ≡ product_of lib (numbers v) → most < value
      → IsUnderWay (Some v) value rest
  better best most v now rest is h value product more = (
    h.0 ++ numbers v ∷ [],
    longer h.0 (numbers v) now rest is h.1,
    subst (λ n. IsFirstGreatest lib (h.0 ++ numbers v ∷ []) (numbers v) n) (sym product) (taken lib h.0 best most v h.2 (omega (arith, more, product))),
  )

  among_middle : (done : List (List ℕ)) (x : List ℕ) (rest : List (List ℕ)) → Among (done ++ x ∷ rest) x
  among_middle [] x rest = inl refl
  among_middle (d ∷ ds) x rest = inr (among_middle ds x rest)

  pub no_better : (best : Option (SmallVec VarId)) (most : ℕ) (x : List ℕ) (now rest : List (List ℕ)) → now ≡ x ∷ rest → IsUnderWay best most now → (value : ℕ) → value ≡ product_of lib x → value ≤ most → IsUnderWay best most rest
  no_better best most x now rest is h value product less =
      let split = h.1 ∙ ap (λ l. h.0 ++ l) is in (
        h.0 ++ x ∷ [],
        longer h.0 x now rest is h.1,
        kept lib h.0 best most x rest (subst (IsStrictlySortedBy (slice_cmp nat_cmp)) split (listed_ascend lib arch sink))
            (positive x (subst (λ l. Among l x) (sym split) (among_middle h.0 x rest))) (omega (arith, product, less)) h.2,
      )

  module _ (best : Option (SmallVec VarId)) (most : ℕ) (now : List (List ℕ)) (end : now ≡ []) (h : IsUnderWay best most now) where
    all_done : cut_sets_of lib arch sink ≡ h.0
    all_done = h.1 ∙ ap (λ l. h.0 ++ l) end ∙ append-nil h.0

    seen : (x : List ℕ) → IsMinimalCutSet lib arch sink x → 0 < product_of lib x → Among h.0 x
    seen x minimal some = subst (λ l. Among l x) all_done ((contains_among (cut_sets_of lib arch sink) x).0 ((listed_exact lib arch fits sink x).1 (minimal, some)))

  pub heaviest_some : (best : Option (SmallVec VarId)) (most : ℕ) (now : List (List ℕ)) → now ≡ [] → IsUnderWay best most now → IfSome best (λ v. IsHeaviest lib arch sink (numbers v))
  heaviest_some None most now end h = tt
  heaviest_some (Some v) most now end h =
      let listed = (listed_exact lib arch fits sink (numbers v)).0 ((contains_among (cut_sets_of lib arch sink) (numbers v)).1 (subst (λ l. Among l (numbers v)) (sym (all_done (Some v) most now end h)) h.2.among)) in
      let value = h.2.value in
      let positive_value = listed.1 in record {
        cut_set = listed.0;
        greatest = λ other minimal. elim (some_or_none (product_of lib other)) [
          | inl none ↦ omega (arith, none)
          | inr some ↦ let b = h.2.bound other (seen (Some v) most now end h other minimal some) in omega (arith, b, value)
        ];
        least = λ other minimal same. h.2.ties other (seen (Some v) most now end h other minimal (omega (arith, same, positive_value))) (same ∙ value);
      }

  pub heaviest_none : (best : Option (SmallVec VarId)) (most : ℕ) (now : List (List ℕ)) → now ≡ [] → IsUnderWay best most now → IsNone best ↔ ((members : List ℕ) → IsMinimalCutSet lib arch sink members → product_of lib members ≡ 0)
  heaviest_none None most now end h = (
    (λ _ members minimal. elim (some_or_none (product_of lib members)) [
      | inl none ↦ none
      | inr some ↦ absurd (subst (λ l. Among l members) h.2.0 (seen None most now end h members minimal some))
    ]),
    (λ _. search Rattle.std.proofs.Common.rules),
  )
  heaviest_none (Some v) most now end h = (
    (λ none. absurd (search (none, Rattle.std.proofs.Common.rules))),
    (λ zeros.
        let listed = (listed_exact lib arch fits sink (numbers v)).0 ((contains_among (cut_sets_of lib arch sink) (numbers v)).1 (subst (λ l. Among l (numbers v)) (sym (all_done (Some v) most now end h)) h.2.among)) in
        let z = zeros (numbers v) listed.0 in let p = listed.1 in absurd (omega (arith, z, p))),
  )
