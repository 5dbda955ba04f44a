-- Sums over present components and edges.
use Rattle.std.proofs.Common.{◌≡◌, ℕ, ◌+◌, ◌^◌, ◌<◌, ◌≤◌, Bool, true, false, cond, ◌&&◌, nat_eq, List, [], ◌∷◌, filter, length, take, get_or, refl, sym, ap, ◌∙◌, arith, sum_by, zero-add}
use mir.Val.{bool_byte}
use Rattle.std.proofs.lemmas.List.{take_all}
use Rattle.std.proofs.lemmas.List.Sums.{sum_by-cons}
use Rattle.arch_model.specs.declared.template.Component.{Component}
use Rattle.arch_model.specs.declared.template.Edge.{Edge}
use Rattle.arch_model.specs.Set.{Set, has}
use Rattle.arch_model.specs.Parts.{LibraryParts, ArchitectureParts}
use Rattle.arch_model.specs.Library.{IsLibrary}
use Rattle.arch_model.specs.Architecture.{present, present_edges}
use Rattle.arch_model.specs.Pattern.{at_component, is_instance}
use Rattle.patterns.specs.declared.sides.Side.{Side}
use Rattle.patterns.specs.declared.sides.Side.TheVariants.{In, Out}
use Rattle.patterns.specs.Inner.Sides.{near, far, degree_of, rated, flow_of}
use Rattle.arch_model.proofs.Ranges.{blank_component}
use Rattle.arch_model.proofs.RowReads.{supplies_small, demands_small, at_small}

sum_by-filter : {X : Type 0} (f : X → ℕ) (q : X → Bool) (xs : List X) → sum_by f (filter q xs) ≡ sum_by (λ x. cond (q x) (f x) 0) xs
sum_by-filter f q [] = refl
sum_by-filter {X = X} f q (x ∷ xs) =
    elim (q x) as (λ b. sum_by f (cond b (x ∷ filter q xs) (filter q xs)) ≡ cond b (f x) 0 + sum_by (λ y. cond (q y) (f y) 0) xs) [
      | true ↦ sum_by-cons f x (filter q xs) ∙ ap (λ n. f x + n) (sum_by-filter f q xs)
      | false ↦ sum_by-filter f q xs ∙ sym (zero-add _)
    ] ∙ sym (sum_by-cons (λ (y : X). cond (q y) (f y) 0) x xs)

sum_by_same : {X : Type 0} (f g : X → ℕ) → ((x : X) → f x ≡ g x) → (xs : List X) → sum_by f xs ≡ sum_by g xs
sum_by_same f g same [] = refl
sum_by_same f g same (x ∷ xs) = sum_by-cons f x xs ∙ ap (λ n. n + sum_by f xs) (same x) ∙ ap (λ n. g x + n) (sum_by_same f g same xs) ∙ sym (sum_by-cons g x xs)

abbrev pub counted : Bool → ℕ
counted b = cond b 1 0

counted_both : (b c : Bool) → counted (b && c) ≡ cond b (counted c) 0
counted_both true c = refl
counted_both false c = refl

-- what a component counts for its type, and an edge for a degree
abbrev pub of_type : ℕ → Component → ℕ
of_type t c = counted (nat_eq c.of t)

abbrev pub leading : LibraryParts → Side → ℕ → ℕ → Edge → ℕ
leading lib side t i e = counted (nat_eq (near side e).0 i && is_instance lib t (far side e).0)

-- degrees as sums over all present edges
pub degree_is : (lib : LibraryParts) (arch : ArchitectureParts) (side : Side) (t i : ℕ) → sum_by (leading lib side t i) (present_edges lib arch) ≡ degree_of side lib arch t i
degree_is lib arch In t i =
    sum_by_same (leading lib In t i) (λ e. cond (nat_eq e.head.0 i) (counted (is_instance lib t e.tail.0)) 0) (λ e. counted_both (nat_eq e.head.0 i) (is_instance lib t e.tail.0)) (present_edges lib arch)
    ∙ sym (sum_by-filter (λ (e : Edge). counted (is_instance lib t e.tail.0)) (λ e. nat_eq e.head.0 i) (present_edges lib arch))
degree_is lib arch Out t i =
    sum_by_same (leading lib Out t i) (λ e. cond (nat_eq e.tail.0 i) (counted (is_instance lib t e.head.0)) 0) (λ e. counted_both (nat_eq e.tail.0 i) (is_instance lib t e.head.0)) (present_edges lib arch)
    ∙ sym (sum_by-filter (λ (e : Edge). counted (is_instance lib t e.head.0)) (λ e. nat_eq e.tail.0 i) (present_edges lib arch))

-- supplies and demands at a component as sums over all present edges
abbrev pub flow : LibraryParts → Side → ℕ → Edge → ℕ
flow lib side i e = cond (nat_eq (near side e).0 i) (rated side lib (far side e).0) 0

pub flow_is : (lib : LibraryParts) (arch : ArchitectureParts) (side : Side) (i : ℕ) → sum_by (flow lib side i) (present_edges lib arch) ≡ flow_of side lib arch i
flow_is lib arch In i = sym (sum_by-filter (λ (e : Edge). at_component lib (λ c. c.supply) e.tail.0) (λ e. nat_eq e.head.0 i) (present_edges lib arch))
flow_is lib arch Out i = sym (sum_by-filter (λ (e : Edge). at_component lib (λ c. c.demand) e.head.0) (λ e. nat_eq e.tail.0 i) (present_edges lib arch))

-- a loop's sum over the whole list
pub whole_sum : {X : Type 0} (f : X → ℕ) (s s' : Set) (xs ys : List X) (i n : ℕ) → length xs ≤ i → xs ≡ ys → s ≡ s' → n ≡ sum_by f (present (has s) (take i xs)) → n ≡ sum_by f (present (has s') ys)
whole_sum f s s' xs ys i n past same chosen sum = sum ∙ ap (λ l. sum_by f (present (has s) l)) (take_all i xs past ∙ same) ∙ ap (λ t. sum_by f (present (has t) ys)) chosen

pub one_byte : (b : Bool) → bool_byte b ≡ counted b
one_byte true = refl
one_byte false = refl

pub counted_small : (b : Bool) → counted b ≤ 1
counted_small true = omega arith
counted_small false = omega arith

where_small : (b : Bool) (n : ℕ) → n ≤ 10 ^ 12 → cond b n 0 ≤ 10 ^ 12
where_small true n h = h
where_small false n h = omega arith

rated_small : (lib : LibraryParts) → IsLibrary lib → (side : Side) (c : ℕ) → rated side lib c ≤ 10 ^ 12
rated_small lib h In c = at_small lib (λ c. c.supply) c (supplies_small lib h)
rated_small lib h Out c = at_small lib (λ c. c.demand) c (demands_small lib h)

pub flow_small : (lib : LibraryParts) → IsLibrary lib → (side : Side) (i : ℕ) (e : Edge) → flow lib side i e ≤ 10 ^ 12
flow_small lib h side i e = where_small (nat_eq (near side e).0 i) _ (rated_small lib h side (far side e).0)

-- supplies and demands in the slice that a library lends
pub supplies_at : (lib : LibraryParts) (xs : List Component) → IsLibrary lib → xs ≡ lib.components → (k : ℕ) → k < length xs → (get_or xs k blank_component).supply ≤ 10 ^ 12
supplies_at lib xs h same k short = rw same (supplies_small lib h k blank_component (omega (arith, ap length same)))

pub demands_at : (lib : LibraryParts) (xs : List Component) → IsLibrary lib → xs ≡ lib.components → (k : ℕ) → k < length xs → (get_or xs k blank_component).demand ≤ 10 ^ 12
demands_at lib xs h same k short = rw same (demands_small lib h k blank_component (omega (arith, ap length same)))
