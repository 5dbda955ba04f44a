-- Component names differ pairwise.
use Rattle.std.proofs.Common.{◌≡◌, ◌≢◌, ℕ, zero, suc, ◌+◌, ◌^◌, ◌<◌, ◌≤◌, true, false, List, [], ◌∷◌, ◌++◌, map, length, get_or, sym, ap, subst, ◌∙◌, arith, inl, inr}
use Rattle.std.specs.Fmt.{decimal}
use Rattle.std.specs.List.{All, AllPairs, list_all, flat_map, enumerate_from, range_with_len}
use Rattle.std.proofs.lemmas.Bool.{cases_lt}
use Rattle.std.proofs.lemmas.Fmt.{decimal_injective}
use Rattle.std.proofs.lemmas.List.Elements.{All-nil, All-cons, All-append, All-weaker}
use Rattle.std.proofs.lemmas.List.Kept.{AllPairs-cons}
use Rattle.arch_model.specs.declared.template.Component.{Component}
use Rattle.arch_model.specs.declared.template.Role.TheVariants.{Source}
use Rattle.arch_model.specs.declared.library.TypeRow.{TypeRow}
use Rattle.arch_model.specs.Name.{is_name_byte}
use Rattle.arch_model.specs.Parts.{LibraryParts}
use Rattle.arch_model.specs.Library.{IsLibrary}
use Rattle.arch_model.specs.Template.{instances_of_type}
use Rattle.arch_model.proofs.Members.{and_left, and_right}
use Rattle.arch_model.proofs.Ranges.{blank_component}
use Rattle.template.specs.Names.{component_name}
use Rattle.template.proofs.NameLaws.{instance_at, component_numbers, component_name_at}

-- the first dot parts a name from its index
parted : (s t u v : List ℕ) → list_all is_name_byte s ≡ true → list_all is_name_byte t ≡ true → s ++ 46 ∷ u ≡ t ++ 46 ∷ v → (s ≡ t) × (u ≡ v)
parted [] [] u v h k e = (cc, cc)
parted [] (y ∷ t) u v h k e =
    let dot : 46 ≡ y = cc in
    let no : false ≡ true = ap is_name_byte dot ∙ and_left (is_name_byte y) (list_all is_name_byte t) k in
    absurd (cc)
parted (x ∷ s) [] u v h k e =
    let dot : 46 ≡ x = cc in
    let no : false ≡ true = ap is_name_byte dot ∙ and_left (is_name_byte x) (list_all is_name_byte s) h in
    absurd (cc)
parted (x ∷ s) (y ∷ t) u v h k e =
    let heads : x ≡ y = cc in
    let tails : s ++ 46 ∷ u ≡ t ++ 46 ∷ v = cc in
    let rest = parted s t u v (and_right (is_name_byte x) (list_all is_name_byte s) h) (and_right (is_name_byte y) (list_all is_name_byte t) k) tails in
    (let f = rest.0 in cc, rest.1)

-- two components of one type and one index
abbrev Apart : Component → Component → Type 0
Apart c d = c.of ≡ d.of → c.index ≢ d.index

abbrev made_from : ℕ → List TypeRow → List Component
made_from n types = flat_map (λ (p : ℕ × TypeRow). instances_of_type p.0 p.1) (enumerate_from n types)

of_later_types : (n k : ℕ) (types : List TypeRow) → k ≤ n → All (λ c. k ≤ c.of) (made_from n types)
of_later_types n k [] low = All-nil (λ (c : Component). k ≤ c.of)
of_later_types n k (row ∷ types) low =
    All-append (λ c. k ≤ c.of) (instances_of_type n row) (made_from (n + 1) types) (of_one_type row 1 row.max) (of_later_types (n + 1) k types (omega arith))
  where
    of_one_type : (row : TypeRow) (a m : ℕ) → All (λ c. k ≤ c.of) (map (instance_at n row) (range_with_len a m))
    of_one_type row a zero = All-nil (λ (c : Component). k ≤ c.of)
    of_one_type row a (suc m) = All-cons (λ c. k ≤ c.of) (instance_at n row a) (map (instance_at n row) (range_with_len (a + 1) m)) low (of_one_type row (a + 1) m)

later_indices : (n : ℕ) (row : TypeRow) (a b m : ℕ) → b ≤ a → All (λ c. b ≤ c.index) (map (instance_at n row) (range_with_len a m))
later_indices n row a b zero low = All-nil (λ (c : Component). b ≤ c.index)
later_indices n row a b (suc m) low = All-cons (λ c. b ≤ c.index) (instance_at n row a) (map (instance_at n row) (range_with_len (a + 1) m)) low (later_indices n row (a + 1) b m (omega arith))

one_type_apart : (n : ℕ) (row : TypeRow) (a m : ℕ) (rest : List Component) → All (λ c. n + 1 ≤ c.of) rest → AllPairs Apart rest → AllPairs Apart (map (instance_at n row) (range_with_len a m) ++ rest)
one_type_apart n row a zero rest later h = h
one_type_apart n row a (suc m) rest later h =
    AllPairs-cons Apart (instance_at n row a) (map (instance_at n row) (range_with_len (a + 1) m) ++ rest)
    (All-append (Apart (instance_at n row a)) (map (instance_at n row) (range_with_len (a + 1) m)) rest
    (All-weaker (λ c. a + 1 ≤ c.index) (Apart (instance_at n row a)) (λ c low same alike. omega arith) (map (instance_at n row) (range_with_len (a + 1) m)) (later_indices n row (a + 1) (a + 1) m (omega arith)))
    (All-weaker (λ c. n + 1 ≤ c.of) (Apart (instance_at n row a)) (λ c low same alike. omega arith) rest later))
    (one_type_apart n row (a + 1) m rest later h)

made_apart : (n : ℕ) (types : List TypeRow) → AllPairs Apart (made_from n types)
made_apart n [] = λ i j d order short. absurd (omega arith)
made_apart n (row ∷ types) = one_type_apart n row 1 row.max (made_from (n + 1) types) (of_later_types (n + 1) (n + 1) types (omega arith)) (made_apart (n + 1) types)

-- a relation that never holds of two equal places
never_both : {X : Type 0} (R : X → X → Type 0) (xs : List X) (d : X) → AllPairs R xs → (i j : ℕ) → i < length xs → j < length xs → (R (get_or xs i d) (get_or xs j d) → ⊥) → (R (get_or xs j d) (get_or xs i d) → ⊥) → i ≡ j
never_both R xs d h i j short low one other = elim (cases_lt i j) [
  | inl before ↦ absurd (one (h i j d before low))
  | inr rest ↦ elim (cases_lt j i) [
    | inl after ↦ absurd (other (h j i d after short))
    | inr too ↦ omega arith
  ]
]

blank_row : TypeRow
blank_row = record { name = []; role = Source; max = 0; cost = 0; supply = 0; demand = 0; fail = 0 }

pub names_differ : (lib : LibraryParts) → IsLibrary lib → (c d : ℕ) → c < length lib.components → d < length lib.components → component_name lib c ≡ component_name lib d → c ≡ d
names_differ lib h c d short low e =
    let x = get_or lib.components c blank_component in
    let y = get_or lib.components d blank_component in
    let first = component_numbers lib h c blank_component short in
    let second = component_numbers lib h d blank_component low in
    let written = sym (component_name_at lib c blank_component blank_row short first.0) ∙ e ∙ component_name_at lib d blank_component blank_row low second.0 in
    let parts = parted (get_or lib.types x.of blank_row).name (get_or lib.types y.of blank_row).name (decimal x.index) (decimal y.index) (h.types x.of blank_row first.0).name.rest (h.types y.of blank_row second.0).name.rest written in
    let small : x.index < 2 ^ 64 = omega (arith, first.2) in
    let small_too : y.index < 2 ^ 64 = omega (arith, second.2) in
    let index : x.index ≡ y.index = decimal_injective x.index y.index small small_too parts.1 in
    let of : x.of ≡ y.of = never_both (λ (a b : TypeRow). a.name ≢ b.name) lib.types blank_row h.names x.of y.of first.0 second.0 (λ r. r parts.0) (λ r. r (sym parts.0)) in
    never_both Apart lib.components blank_component (subst (AllPairs Apart) (sym h.components) (made_apart 0 lib.types)) c d short low (λ r. r of index) (λ r. r (sym of) (sym index))
