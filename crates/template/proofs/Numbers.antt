-- How many components some types have, and how many edges a link.
use Rattle.std.proofs.Common.{◌≡◌, ◌≢◌, ℕ, zero, suc, ◌+◌, ◌-◌, ◌*◌, ◌<◌, ◌≤◌, Bool, true, false, cond, not, nat_eq, List, [], ◌∷◌, map, filter, length, get_or, refl, sym, ap, subst, ◌∙◌, arith, eq-eqb, count_by, sum_by, zero-mul}
use Rattle.std.specs.List.{flat_map, enumerate_from, range_with_len, All, AllByRecursion}
use Rattle.std.proofs.lemmas.Bool.{eqb-true}
use Rattle.std.proofs.lemmas.List.{length-append, length-map}
use Rattle.std.proofs.lemmas.List.Elements.{recursion_from_All}
use Rattle.std.proofs.lemmas.List.FromFn.{length-map-range_with_len}
use Rattle.std.proofs.lemmas.List.Sums.{sum_by-cons, sum_by-append}
use Rattle.arch_model.specs.declared.template.Component.{Component}
use Rattle.arch_model.specs.declared.template.Edge.{Edge}
use Rattle.arch_model.specs.declared.library.TypeRow.{TypeRow}
use Rattle.arch_model.specs.declared.library.LinkRow.{LinkRow}
use Rattle.arch_model.specs.Library.{IsTypeRow, IsLinkRow}
use Rattle.arch_model.specs.Template.{instances_of_type, components_of, instances_of, edges_of_link, edge_of, edges_to}
use Rattle.template.proofs.Steps.{unequal}

abbrev made_from : ℕ → List TypeRow → List Component
made_from n types = flat_map (λ (p : ℕ × TypeRow). instances_of_type p.0 p.1) (enumerate_from n types)

length-made_from : (n : ℕ) (types : List TypeRow) → length (made_from n types) ≡ sum_by (λ r. r.max) types
length-made_from n [] = refl
length-made_from n (row ∷ types) =
    length-append (instances_of_type n row) (made_from (n + 1) types)
    ∙ ap (λ k. k + length (made_from (n + 1) types)) (length-map-range_with_len _ 1 row.max)
    ∙ ap (λ k. row.max + k) (length-made_from (n + 1) types)
    ∙ sym (sum_by-cons (λ (r : TypeRow). r.max) row types)

-- as many components as the types have instances
pub length-components_of : (types : List TypeRow) → length (components_of types) ≡ sum_by (λ r. r.max) types
length-components_of types = length-made_from 0 types

types_few : (types : List TypeRow) → AllByRecursion IsTypeRow types → length types ≤ sum_by (λ r. r.max) types
types_few [] h = omega arith
types_few (row ∷ types) h = let some = h.0.some in let rest = types_few types h.1 in omega (arith, sum_by-cons (λ (r : TypeRow). r.max) row types)

-- no more types than components
pub length-types-le : (types : List TypeRow) → All IsTypeRow types → length types ≤ length (components_of types)
length-types-le types h = omega (arith, length-components_of types, types_few types (recursion_from_All IsTypeRow types h))

-- the numbers of the instances of a type, from n on
abbrev numbers_from : ℕ → List Component → ℕ → List ℕ
numbers_from n components t = map (λ (p : ℕ × Component). p.0) (filter (λ (p : ℕ × Component). nat_eq p.1.of t) (enumerate_from n components))

numbers_step : (R : List ℕ → Type 0) (n : ℕ) (c : Component) (components : List Component) (t : ℕ)
    → (nat_eq c.of t ≡ true → R (n ∷ numbers_from (n + 1) components t)) → (nat_eq c.of t ≡ false → R (numbers_from (n + 1) components t)) → R (numbers_from n (c ∷ components) t)
numbers_step R n c components t here_too not_here =
    elim (nat_eq c.of t) as (λ b. (b ≡ true → R (n ∷ numbers_from (n + 1) components t)) → (b ≡ false → R (numbers_from (n + 1) components t))
    → R (map (λ (p : ℕ × Component). p.0) (cond b ((n, c) ∷ filter (λ (p : ℕ × Component). nat_eq p.1.of t) (enumerate_from (n + 1) components)) (filter (λ (p : ℕ × Component). nat_eq p.1.of t) (enumerate_from (n + 1) components))))) [
      | true ↦ λ y f. y refl
      | false ↦ λ y f. f refl
    ] here_too not_here

count_by-cons_yes : {X : Type 0} (p : X → Bool) (x : X) (xs : List X) → p x ≡ true → count_by p (x ∷ xs) ≡ 1 + count_by p xs
count_by-cons_yes p x xs h = sum_by-cons (λ y. cond (p y) 1 0) x xs ∙ ap (λ b. cond b 1 0 + count_by p xs) h

count_by-cons_no : {X : Type 0} (p : X → Bool) (x : X) (xs : List X) → p x ≡ false → count_by p (x ∷ xs) ≡ count_by p xs
count_by-cons_no p x xs h = sum_by-cons (λ y. cond (p y) 1 0) x xs ∙ ap (λ b. cond b 1 0 + count_by p xs) h ∙ omega arith

length-numbers_from : (n : ℕ) (components : List Component) (t : ℕ) → length (numbers_from n components t) ≡ count_by (λ c. nat_eq c.of t) components
length-numbers_from n [] t = refl
length-numbers_from n (c ∷ components) t =
    let rest = length-numbers_from (n + 1) components t in
    numbers_step (λ l. length l ≡ count_by (λ (d : Component). nat_eq d.of t) (c ∷ components)) n c components t
    (λ same. omega (arith, rest, count_by-cons_yes (λ (d : Component). nat_eq d.of t) c components same))
    (λ other. omega (arith, rest, count_by-cons_no (λ (d : Component). nat_eq d.of t) c components other))

-- the instances of type s count for type t where they are the same
abbrev instance_at : ℕ → TypeRow → ℕ → Component
instance_at s row i = record { of = s; index = i; role = row.role; cost = row.cost; supply = row.supply; demand = row.demand; fail = row.fail }

count_made_yes : (s t : ℕ) (row : TypeRow) (a k : ℕ) → s ≡ t → count_by (λ c. nat_eq c.of t) (map (instance_at s row) (range_with_len a k)) ≡ k
count_made_yes s t row a zero e = refl
count_made_yes s t row a (suc k) e =
    count_by-cons_yes (λ (c : Component). nat_eq c.of t) (instance_at s row a) (map (instance_at s row) (range_with_len (a + 1) k)) (eq-eqb s t e)
    ∙ ap (λ n. 1 + n) (count_made_yes s t row (a + 1) k e) ∙ omega arith

count_made_no : (s t : ℕ) (row : TypeRow) (a k : ℕ) → s ≢ t → count_by (λ c. nat_eq c.of t) (map (instance_at s row) (range_with_len a k)) ≡ 0
count_made_no s t row a zero ne = refl
count_made_no s t row a (suc k) ne =
    count_by-cons_no (λ (c : Component). nat_eq c.of t) (instance_at s row a) (map (instance_at s row) (range_with_len (a + 1) k)) (unequal s t ne)
    ∙ count_made_no s t row (a + 1) k ne

abbrev count_of_type : ℕ → List Component → ℕ
count_of_type t components = count_by (λ c. nat_eq c.of t) components

count-made_from : (n t : ℕ) (row : TypeRow) (types : List TypeRow) → count_of_type t (made_from n (row ∷ types)) ≡ count_of_type t (map (instance_at n row) (range_with_len 1 row.max)) + count_of_type t (made_from (n + 1) types)
count-made_from n t row types = sum_by-append (λ (c : Component). cond (nat_eq c.of t) 1 0) (instances_of_type n row) (made_from (n + 1) types)

count_before : (n t : ℕ) (types : List TypeRow) → t < n → count_of_type t (made_from n types) ≡ 0
count_before n t [] h = refl
count_before n t (row ∷ types) h =
    let ne : n ≢ t = λ e. omega arith in
    let further : t < n + 1 = omega arith in
    omega (arith, count-made_from n t row types, count_made_no n t row 1 row.max ne, count_before (n + 1) t types further)

count_at : (n t j : ℕ) (types : List TypeRow) (d : TypeRow) → n + j ≡ t → j < length types → count_of_type t (made_from n types) ≡ (get_or types j d).max
count_at n t j [] d e h = absurd (omega arith)
count_at n t zero (row ∷ types) d e h =
    let same : n ≡ t = omega arith in
    let past : t < n + 1 = omega arith in
    omega (arith, count-made_from n t row types, count_made_yes n t row 1 row.max same, count_before (n + 1) t types past)
count_at n t (suc j) (row ∷ types) d e h =
    let ne : n ≢ t = λ w. omega arith in
    let next : n + 1 + j ≡ t = omega arith in
    let within : j < length types = omega arith in
    omega (arith, count-made_from n t row types, count_made_no n t row 1 row.max ne, count_at (n + 1) t j types d next within)

-- a type has as many instances as its row says
pub length-instances_of : (types : List TypeRow) (t : ℕ) (d : TypeRow) → t < length types → length (instances_of (components_of types) t) ≡ (get_or types t d).max
length-instances_of types t d h = length-numbers_from 0 (components_of types) t ∙ count_at 0 t t types d (omega arith) h

weaker : {X : Type 0} (P Q : X → Type 0) → ((x : X) → P x → Q x) → (xs : List X) → AllByRecursion P xs → AllByRecursion Q xs
weaker P Q f [] h = tt
weaker P Q f (x ∷ xs) h = (f x h.0, weaker P Q f xs h.1)

abbrev times_in : List ℕ → ℕ → ℕ
times_in xs k = count_by (λ h. nat_eq h k) xs

absent_below : (n : ℕ) (components : List Component) (t k : ℕ) → k < n → times_in (numbers_from n components t) k ≡ 0
absent_below n [] t k h = refl
absent_below n (c ∷ components) t k h =
    let further : k < n + 1 = omega arith in
    let ne : n ≢ k = λ e. omega arith in
    let rest = absent_below (n + 1) components t k further in
    numbers_step (λ l. times_in l k ≡ 0) n c components t (λ same. count_by-cons_no (λ h. nat_eq h k) n (numbers_from (n + 1) components t) (unequal n k ne) ∙ rest) (λ other. rest)

-- a number stands once among those of its type, and never among those of another
once : (n : ℕ) (components : List Component) (t : ℕ) → AllByRecursion (λ k. (n ≤ k) × (times_in (numbers_from n components t) k ≡ 1)) (numbers_from n components t)
once n [] t = tt
once n (c ∷ components) t =
    let rest = once (n + 1) components t in
    numbers_step (λ l. AllByRecursion (λ k. (n ≤ k) × (times_in l k ≡ 1)) l) n c components t
    (λ same. (
      (
        omega arith,
        count_by-cons_yes (λ h. nat_eq h n) n (numbers_from (n + 1) components t) (eq-eqb n n refl) ∙ ap (λ j. 1 + j) (absent_below (n + 1) components t n (omega arith)),
      ),
      weaker (λ k. (n + 1 ≤ k) × (times_in (numbers_from (n + 1) components t) k ≡ 1)) (λ k. (n ≤ k) × (times_in (n ∷ numbers_from (n + 1) components t) k ≡ 1))
          (λ k h. let ne : n ≢ k = λ e. omega (arith, h.0) in (omega (arith, h.0), count_by-cons_no (λ j. nat_eq j k) n (numbers_from (n + 1) components t) (unequal n k ne) ∙ h.1))
          _ rest,
    ))
    (λ other. weaker (λ k. (n + 1 ≤ k) × (times_in (numbers_from (n + 1) components t) k ≡ 1)) (λ k. (n ≤ k) × (times_in (numbers_from (n + 1) components t) k ≡ 1)) (λ k h. (omega (arith, h.0), h.1)) _ rest)

never_after : (n : ℕ) (c : Component) (components : List Component) (t k : ℕ) → n + 1 ≤ k → times_in (numbers_from (n + 1) components t) k ≡ 0 → times_in (numbers_from n (c ∷ components) t) k ≡ 0
never_after n c components t k past h =
    let ne : n ≢ k = λ e. omega arith in
    numbers_step (λ l. times_in l k ≡ 0) n c components t (λ same. count_by-cons_no (λ j. nat_eq j k) n (numbers_from (n + 1) components t) (unequal n k ne) ∙ h) (λ other. h)

never_here : (n : ℕ) (c : Component) (components : List Component) (s t : ℕ) → s ≢ t → nat_eq c.of s ≡ true → times_in (numbers_from n (c ∷ components) t) n ≡ 0
never_here n c components s t ne is =
    numbers_step (λ l. times_in l n ≡ 0) n c components t
    (λ same. absurd (ne (sym (eqb-true c.of s is) ∙ eqb-true c.of t same)))
    (λ other. absent_below (n + 1) components t n (omega arith))

never : (n : ℕ) (components : List Component) (s t : ℕ) → s ≢ t → AllByRecursion (λ k. (n ≤ k) × (times_in (numbers_from n components t) k ≡ 0)) (numbers_from n components s)
never n [] s t ne = tt
never n (c ∷ components) s t ne =
    let rest = never (n + 1) components s t ne in
    let onward : (k : ℕ) → (n + 1 ≤ k) × (times_in (numbers_from (n + 1) components t) k ≡ 0) → (n ≤ k) × (times_in (numbers_from n (c ∷ components) t) k ≡ 0) = λ k h. (omega (arith, h.0), never_after n c components t k h.0 h.1) in
    let later = weaker (λ k. (n + 1 ≤ k) × (times_in (numbers_from (n + 1) components t) k ≡ 0)) (λ k. (n ≤ k) × (times_in (numbers_from n (c ∷ components) t) k ≡ 0)) onward (numbers_from (n + 1) components s) rest in
    numbers_step (λ l. AllByRecursion (λ k. (n ≤ k) × (times_in (numbers_from n (c ∷ components) t) k ≡ 0)) l) n c components s
    (λ same. ((omega arith, never_here n c components s t ne same), later))
    (λ other. later)

-- the numbers but one
length-others : (xs : List ℕ) (k : ℕ) → length (filter (λ h. not (nat_eq h k)) xs) + times_in xs k ≡ length xs
length-others [] k = refl
length-others (x ∷ xs) k =
    let rest = length-others xs k in
    elim (nat_eq x k) as (λ b. (times_in (x ∷ xs) k ≡ cond b 1 0 + times_in xs k) → length (cond (not b) (x ∷ filter (λ h. not (nat_eq h k)) xs) (filter (λ h. not (nat_eq h k)) xs)) + times_in (x ∷ xs) k ≡ suc (length xs)) [
      | true ↦ λ e. omega (arith, rest, e)
      | false ↦ λ e. omega (arith, rest, e)
    ] (sum_by-cons (λ h. cond (nat_eq h k) 1 0) x xs)

length-flat_map_each : {X Y : Type 0} (f : X → List Y) (m : ℕ) (xs : List X) → AllByRecursion (λ x. length (f x) ≡ m) xs → length (flat_map f xs) ≡ length xs * m
length-flat_map_each f m [] h = sym (zero-mul m)
length-flat_map_each f m (x ∷ xs) h =
    length-append (f x) (flat_map f xs) ∙ ap (λ k. k + length (flat_map f xs)) h.0 ∙ ap (λ k. m + k) (length-flat_map_each f m xs h.1) ∙ omega arith

abbrev heads_of : List Component → LinkRow → ℕ → List Edge
heads_of components link tail = edges_to link tail (instances_of components link.to)

length-heads_of : (components : List Component) (link : LinkRow) (tail times : ℕ) → times_in (instances_of components link.to) tail ≡ times → length (heads_of components link tail) ≡ length (instances_of components link.to) - times
length-heads_of components link tail times h =
    length-map (filter (λ head. not (nat_eq head tail)) (instances_of components link.to)) (edge_of link tail)
    ∙ omega (arith, length-others (instances_of components link.to) tail)

length-link : (components : List Component) (link : LinkRow) (times : ℕ) → AllByRecursion (λ k. (0 ≤ k) × (times_in (instances_of components link.to) k ≡ times)) (instances_of components link.from)
    → length (edges_of_link components link) ≡ length (instances_of components link.from) * (length (instances_of components link.to) - times)
length-link components link times h =
    length-flat_map_each (heads_of components link) (length (instances_of components link.to) - times) (instances_of components link.from)
    (weaker (λ k. (0 ≤ k) × (times_in (instances_of components link.to) k ≡ times)) (λ k. length (heads_of components link k) ≡ length (instances_of components link.to) - times) (λ k w. length-heads_of components link k times w.1) (instances_of components link.from) h)

-- a link of a type with itself, and one of two types
pub length-link_same : (types : List TypeRow) (link : LinkRow) (d e : TypeRow) → IsLinkRow (length types) link → link.from ≡ link.to
    → (get_or types link.from d).max * ((get_or types link.to e).max - 1) ≡ length (edges_of_link (components_of types) link)
length-link_same types link d e row same =
    let components = components_of types in
    sym (length-link components link 1 (subst (λ t. AllByRecursion (λ k. (0 ≤ k) × (times_in (instances_of components t) k ≡ 1)) (instances_of components link.from)) same (once 0 components link.from))
    ∙ ap (λ n. n * (length (instances_of components link.to) - 1)) (length-instances_of types link.from d row.from)
    ∙ ap (λ n. (get_or types link.from d).max * (n - 1)) (length-instances_of types link.to e row.to))

pub length-link_other : (types : List TypeRow) (link : LinkRow) (d e : TypeRow) → IsLinkRow (length types) link → link.from ≢ link.to
    → (get_or types link.from d).max * (get_or types link.to e).max ≡ length (edges_of_link (components_of types) link)
length-link_other types link d e row ne =
    let components = components_of types in
    let all_heads : (get_or types link.to e).max - 0 ≡ (get_or types link.to e).max = omega arith in
    sym (length-link components link 0 (never 0 components link.from link.to ne)
    ∙ ap (λ n. n * (length (instances_of components link.to) - 0)) (length-instances_of types link.from d row.from)
    ∙ ap (λ n. (get_or types link.from d).max * (n - 0)) (length-instances_of types link.to e row.to)
    ∙ ap (λ n. (get_or types link.from d).max * n) all_heads)
