-- The names of a generated library's types and components: each differs from all others, and has its place.
use Rattle.std.proofs.Common.{◌≡◌, ℕ, suc, ◌+◌, ◌-◌, ◌*◌, ◌<◌, ◌≤◌, Bool, true, false, List, [], ◌∷◌, ◌++◌, length, Some, codes, decimal, refl, sym, ap, ◌∙◌, subst, inl, inr, arith, append_assoc, lt-ltb}
use Rattle.std.proofs.lemmas.Bool.{cases_eq, cases_Bool}
use Rattle.std.proofs.lemmas.Fmt.{decimal_injective}
use Rattle.std.proofs.lemmas.List.{append_cancel_left, append_cancel_right}
use Rattle.std.proofs.lemmas.List.Folds.{list_any_at}
use Rattle.std.proofs.lemmas.List.Quantifiers.{position-Some}
use Rattle.std.proofs.lemmas.List.Sums.{position_or_len_is}
use Rattle.std.proofs.lemmas.Slice.Eq.{bytes_eq-Decides}
use Rattle.std.specs.Fmt.{digits}
use Rattle.std.specs.List.{list_any, position, position_or_len, flat_map}
use Rattle.std.specs.Str.{bytes_eq}
use Rattle.template.specs.Names.{instance_name}
use Rattle.generate.specs.declared.group.Group.{Group}
use Rattle.generate.specs.Generated.{group_of, groups_from}
use Rattle.generated.specs.GeneratedLibrary.{source_name, sink_name}
use Rattle.generated.proofs.GroupLines.{required_name}

-- ---- texts

same_text : (t : List ℕ) → bytes_eq t t ≡ true
same_text t = (bytes_eq-Decides t t).1 refl

other_text : (s t : List ℕ) → (s ≡ t → ⊥) → bytes_eq s t ≡ false
other_text s t differ = elim (cases_Bool (bytes_eq s t)) [ inl same ↦ absurd (differ ((bytes_eq-Decides s t).0 same)) | inr other ↦ other ]

-- the decimals of two numbers of groups
pub other_decimal : (i j : ℕ) → i < j → j < 16 → bytes_eq (decimal j) (decimal i) ≡ false
other_decimal i j before small =
    other_text (decimal j) (decimal i) (λ e. let same : j ≡ i = decimal_injective j i (omega arith) (omega arith) e in omega (arith, same))

-- ---- the place of the first that passes

position_here : {X : Type 0} (p : X → Bool) (x : X) (xs : List X) → p x ≡ true → position p (x ∷ xs) ≡ Some 0
position_here p x xs passes = rw (passes, lt-ltb 0 (suc (length xs)) (omega arith)) refl

position_later : {X : Type 0} (p : X → Bool) (x : X) (xs : List X) (n : ℕ) → p x ≡ false → position p xs ≡ Some n → position p (x ∷ xs) ≡ Some (n + 1)
position_later p x xs n fails found =
    let (inside, passes, before) = position-Some p xs n x found in
    let place : position_or_len p xs ≡ n = position_or_len_is p xs n x (omega (arith, inside)) before (λ _. passes) in
    let step : position_or_len p (x ∷ xs) ≡ n + 1 = rw fails (omega (arith, place)) in
    rw (step, lt-ltb (n + 1) (suc (length xs)) (omega (arith, inside))) refl

-- what has a place is there
pub is_there : (p : List ℕ → Bool) (xs : List (List ℕ)) (n : ℕ) → position p xs ≡ Some n → list_any p xs ≡ true
is_there p xs n found =
    let (inside, passes, before) = position-Some p xs n [] found in
    list_any_at p xs n [] inside passes

-- ---- the names of types, and their numbers

abbrev pub group_names : Group → List (List ℕ)
group_names g = source_name g ∷ sink_name g ∷ []

abbrev pub names_of : List Group → List (List ℕ)
names_of gs = flat_map group_names gs

pub source_place : (words : List ℕ) (i j : ℕ) → i ≤ j → j < i + length words → j < 16
    → position (bytes_eq (codes "s" ++ decimal j)) (names_of (groups_from i words)) ≡ Some (2 * (j - i))
source_place [] i j low high small = absurd (omega (arith, low, high))
source_place (word ∷ words) i j low high small =
    let p = bytes_eq (codes "s" ++ decimal j) in
    let rest = names_of (groups_from (i + 1) words) in
    let g = group_of i word in
    elim (cases_eq j i) [
      | inl same ↦
          position_here p (source_name g) (sink_name g ∷ rest) (rw same (same_text (codes "s" ++ decimal i))) ∙ ap Some (omega (arith, same))
      | inr other ↦
          let more = source_place words (i + 1) j (omega (arith, low, other)) (omega (arith, high)) small in
          position_later p (source_name g) (sink_name g ∷ rest) _ (other_decimal i j (omega (arith, low, other)) small) (position_later p (sink_name g) rest _ refl more)
          ∙ ap Some (omega (arith, low, other))
    ]

pub sink_place : (words : List ℕ) (i j : ℕ) → i ≤ j → j < i + length words → j < 16
    → position (bytes_eq (codes "l" ++ decimal j)) (names_of (groups_from i words)) ≡ Some (2 * (j - i) + 1)
sink_place [] i j low high small = absurd (omega (arith, low, high))
sink_place (word ∷ words) i j low high small =
    let p = bytes_eq (codes "l" ++ decimal j) in
    let rest = names_of (groups_from (i + 1) words) in
    let g = group_of i word in
    elim (cases_eq j i) [
      | inl same ↦
          position_later p (source_name g) (sink_name g ∷ rest) _ refl (position_here p (sink_name g) rest (rw same (same_text (codes "l" ++ decimal i))))
          ∙ ap Some (omega (arith, same))
      | inr other ↦
          let more = sink_place words (i + 1) j (omega (arith, low, other)) (omega (arith, high)) small in
          position_later p (source_name g) (sink_name g ∷ rest) _ refl (position_later p (sink_name g) rest _ (other_decimal i j (omega (arith, low, other)) small) more)
          ∙ ap Some (omega (arith, low, other))
    ]

-- ---- the names of components, and their numbers

abbrev pub group_components : Group → List (List ℕ)
group_components g = instance_name (source_name g) 1 ∷ instance_name (source_name g) 2 ∷ instance_name (sink_name g) 1 ∷ []

abbrev pub component_names_of : List Group → List (List ℕ)
component_names_of gs = flat_map group_components gs

dot_one : codes "." ++ decimal 1 ≡ codes ".1"
unfolding digits
dot_one = refl

-- the name of a group's sink, as its requirement has it
pub required_is : (g : Group) → instance_name (sink_name g) 1 ≡ required_name g
required_is g =
    ap (λ t. 108 ∷ t) (append_assoc (decimal g.number) (codes ".") (decimal 1) ∙ ap (λ t. decimal g.number ++ t) dot_one)

pub other_required : (i j : ℕ) (g : Group) → g.number ≡ i → i < j → j < 16 → bytes_eq (codes "l" ++ decimal j ++ codes ".1") (instance_name (sink_name g) 1) ≡ false
other_required i j g number before small =
    other_text _ _ (λ e.
    let same : codes "l" ++ decimal j ++ codes ".1" ≡ codes "l" ++ decimal g.number ++ codes ".1" = e ∙ required_is g in
    let names : codes "l" ++ decimal j ≡ codes "l" ++ decimal g.number = append_cancel_right _ _ (codes ".1") same in
    let equal : j ≡ g.number = decimal_injective j g.number (omega (arith, small)) (omega (arith, number, before, small)) (append_cancel_left (codes "l") _ _ names) in
    omega (arith, equal, number, before))

pub same_required : (j : ℕ) (g : Group) → g.number ≡ j → bytes_eq (codes "l" ++ decimal j ++ codes ".1") (instance_name (sink_name g) 1) ≡ true
same_required j g number =
    let same : instance_name (sink_name g) 1 ≡ codes "l" ++ decimal j ++ codes ".1" = required_is g ∙ ap (λ n. codes "l" ++ decimal n ++ codes ".1") number in
    subst (λ t. bytes_eq (codes "l" ++ decimal j ++ codes ".1") t ≡ true) (sym same) (same_text (codes "l" ++ decimal j ++ codes ".1"))

pub component_place : (words : List ℕ) (i j : ℕ) → i ≤ j → j < i + length words → j < 16
    → position (bytes_eq (codes "l" ++ decimal j ++ codes ".1")) (component_names_of (groups_from i words)) ≡ Some (3 * (j - i) + 2)
component_place [] i j low high small = absurd (omega (arith, low, high))
component_place (word ∷ words) i j low high small =
    let p = bytes_eq (codes "l" ++ decimal j ++ codes ".1") in
    let rest = component_names_of (groups_from (i + 1) words) in
    let g = group_of i word in
    let tail = instance_name (sink_name g) 1 ∷ rest in
    let skip : (n : ℕ) → position p tail ≡ Some n → position p (component_names_of (g ∷ groups_from (i + 1) words)) ≡ Some (n + 1 + 1) =
    λ n found. position_later p (instance_name (source_name g) 1) (instance_name (source_name g) 2 ∷ tail) _ refl (position_later p (instance_name (source_name g) 2) tail _ refl found) in
    elim (cases_eq j i) [
      | inl same ↦ skip 0 (position_here p (instance_name (sink_name g) 1) rest (same_required j g (sym same))) ∙ ap Some (omega (arith, same))
      | inr other ↦
          let more = component_place words (i + 1) j (omega (arith, low, other)) (omega (arith, high)) small in
          skip _ (position_later p (instance_name (sink_name g) 1) rest _ (other_required i j g refl (omega (arith, low, other)) small) more)
          ∙ ap Some (omega (arith, low, other))
    ]
