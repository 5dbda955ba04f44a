-- The edges of a library differ pairwise in their ends.
use Rattle.std.proofs.Common.{◌≡◌, ◌≢◌, ◌+◌, ◌<◌, ◌≤◌, ℕ, suc, not, nat_eq, List, [], ◌∷◌, ◌++◌, map, filter, length, get_or, sym, ap, subst, ◌∙◌, arith, inl, inr}
use Rattle.std.specs.List.{All, AllPairs, flat_map, enumerate_from}
use Rattle.std.proofs.lemmas.Bool.{cases_lt, cases_Bool}
use Rattle.std.proofs.lemmas.Bool.Decides.{eqb_tells}
use Rattle.std.proofs.lemmas.List.Elements.{All-nil, All-cons, All-append, All-filter, All-map, All-weaker}
use Rattle.std.proofs.lemmas.List.Kept.{AllPairs-cons, AllPairs-filter}
use Rattle.arch_model.specs.declared.template.Component.{Component}
use Rattle.arch_model.specs.declared.template.Edge.{Edge}
use Rattle.arch_model.specs.declared.library.LinkRow.{LinkRow}
use Rattle.arch_model.specs.Parts.{LibraryParts}
use Rattle.arch_model.specs.Library.{IsLibrary}
use Rattle.arch_model.specs.Template.{components_of, instances_of, edge_of, edges_of, edges_of_link, edges_to}
use Rattle.arch_model.proofs.Ranges.{blank_component, blank_edge}

-- pairs of two lists
pairs-append : {X : Type 0} (R : X → X → Type 0) (xs ys : List X) → AllPairs R xs → AllPairs R ys → All (λ x. All (R x) ys) xs → AllPairs R (xs ++ ys)
pairs-append R [] ys h k across = k
pairs-append R (x ∷ xs) ys h k across =
    AllPairs-cons R x (xs ++ ys) (All-append (R x) xs ys (λ j d short. h 0 (suc j) d (omega arith) (omega arith)) (across 0 x (omega arith)))
    (pairs-append R xs ys (λ i j d order short. h (suc i) (suc j) d (omega arith) (omega arith)) k (λ i d short. across (suc i) d (omega arith)))

every : {X : Type 0} (P : X → Type 0) → ((x : X) → P x) → (xs : List X) → All P xs
every P holds xs i d short = holds (get_or xs i d)

-- what is made of the elements of a list
made_all : {X Y : Type 0} (P : X → Type 0) (Q : Y → Type 0) (f : X → List Y) → ((x : X) → P x → All Q (f x)) → (xs : List X) → All P xs → All Q (flat_map f xs)
made_all P Q f made [] h = All-nil Q
made_all P Q f made (x ∷ xs) h = All-append Q (f x) (flat_map f xs) (made x (h 0 x (omega arith))) (made_all P Q f made xs (λ i d short. h (suc i) d (omega arith)))

-- pairs within what is made of one element, and across two
pairs-made : {X Y : Type 0} (S : X → X → Type 0) (R : Y → Y → Type 0) (f : X → List Y) → ((x : X) → AllPairs R (f x)) → ((x y : X) → S x y → All (λ a. All (R a) (f y)) (f x)) → (xs : List X) → AllPairs S xs → AllPairs R (flat_map f xs)
pairs-made S R f within across [] h = λ i j d order short. absurd (omega arith)
pairs-made S R f within across (x ∷ xs) h =
    pairs-append R (f x) (flat_map f xs) (within x) (pairs-made S R f within across xs (λ i j d order short. h (suc i) (suc j) d (omega arith) (omega arith)))
    (λ i d short. made_all (S x) (R (get_or (f x) i d)) f (λ y apart. across x y apart i d short) xs (λ j e low. h 0 (suc j) e (omega arith) (omega arith)))

-- the numbers of the instances of a type, from a place on
abbrev instances_from : ℕ → ℕ → List Component → List ℕ
instances_from t n xs = map (λ (p : ℕ × Component). p.0) (filter (λ (p : ℕ × Component). nat_eq p.1.of t) (enumerate_from n xs))

late : (t n k : ℕ) (xs : List Component) → k ≤ n → All (λ i. k ≤ i) (instances_from t n xs)
late t n k [] low = All-nil (λ (i : ℕ). k ≤ i)
late t n k (x ∷ xs) low = elim (cases_Bool (nat_eq x.of t)) [
  | inl is ↦ rw is (All-cons (λ i. k ≤ i) n (instances_from t (n + 1) xs) low (late t (n + 1) k xs (omega arith)))
  | inr isnt ↦ rw isnt (late t (n + 1) k xs (omega arith))
]

rising : (t n : ℕ) (xs : List Component) → AllPairs (λ a b. a < b) (instances_from t n xs)
rising t n [] = λ i j d order short. absurd (omega arith)
rising t n (x ∷ xs) = elim (cases_Bool (nat_eq x.of t)) [
  | inl is ↦ rw is (AllPairs-cons (λ a b. a < b) n (instances_from t (n + 1) xs) (All-weaker (λ i. n + 1 ≤ i) (λ i. n < i) (λ i low. omega arith) (instances_from t (n + 1) xs) (late t (n + 1) (n + 1) xs (omega arith))) (rising t (n + 1) xs))
  | inr isnt ↦ rw isnt (rising t (n + 1) xs)
]

-- the type of a component's number
abbrev type_at : List Component → ℕ → ℕ
type_at components i = (get_or components i blank_component).of

typed : (components : List Component) (t n : ℕ) (xs : List Component) → ((k : ℕ) → k < length xs → get_or components (n + k) blank_component ≡ get_or xs k blank_component) → All (λ i. type_at components i ≡ t) (instances_from t n xs)
typed components t n [] same = All-nil (λ (i : ℕ). type_at components i ≡ t)
typed components t n (x ∷ xs) same =
    let rest = typed components t (n + 1) xs (λ k short. let e : n + 1 + k ≡ n + suc k = omega arith in ap (λ m. get_or components m blank_component) e ∙ same (suc k) (omega arith)) in
    elim (eqb_tells x.of t) [
      | inl w ↦
          let e : n + 0 ≡ n = omega arith in
          let here : type_at components n ≡ t = ap (λ m. type_at components m) (sym e) ∙ ap (λ (y : Component). y.of) (same 0 (omega arith)) ∙ w.1 in
          rw w.0 (All-cons (λ i. type_at components i ≡ t) n (instances_from t (n + 1) xs) here rest)
      | inr w ↦ rw w.0 rest
    ]

instances_typed : (components : List Component) (t : ℕ) → All (λ i. type_at components i ≡ t) (instances_of components t)
instances_typed components t = typed components t 0 components (λ k short. let e : 0 + k ≡ k = omega arith in ap (λ m. get_or components m blank_component) e)

-- two edges that don't have both ends alike
abbrev Apart : Edge → Edge → Type 0
Apart a b = a.tail.0 ≡ b.tail.0 → a.head.0 ≢ b.head.0

-- an edge between components of two types
abbrev Joins : List Component → ℕ → ℕ → Edge → Type 0
Joins components from to e = (type_at components e.tail.0 ≡ from) × (type_at components e.head.0 ≡ to)

edges_joined : (components : List Component) (link : LinkRow) → All (Joins components link.from link.to) (edges_of_link components link)
edges_joined components link =
    made_all (λ tail. type_at components tail ≡ link.from) (Joins components link.from link.to) (λ tail. edges_to link tail (instances_of components link.to))
    (λ tail is. All-map (Joins components link.from link.to) (edge_of link tail) (filter (λ head. not (nat_eq head tail)) (instances_of components link.to))
    (All-weaker (λ head. type_at components head ≡ link.to) (λ head. Joins components link.from link.to (edge_of link tail head)) (λ head to. (is, to)) (filter (λ head. not (nat_eq head tail)) (instances_of components link.to))
    (All-filter (λ head. not (nat_eq head tail)) (λ head. type_at components head ≡ link.to) (instances_of components link.to) (instances_typed components link.to))))
    (instances_of components link.from) (instances_typed components link.from)

pairs-map : {X Y : Type 0} (S : X → X → Type 0) (R : Y → Y → Type 0) (f : X → Y) → ((x y : X) → S x y → R (f x) (f y)) → (xs : List X) → AllPairs S xs → AllPairs R (map f xs)
pairs-map S R f keeps [] h = λ i j d order short. absurd (omega arith)
pairs-map S R f keeps (x ∷ xs) h =
    AllPairs-cons R (f x) (map f xs) (All-map (R (f x)) f xs (λ j d short. keeps x (get_or xs j d) (h 0 (suc j) d (omega arith) (omega arith))))
    (pairs-map S R f keeps xs (λ i j d order short. h (suc i) (suc j) d (omega arith) (omega arith)))

one_link_apart : (components : List Component) (link : LinkRow) → AllPairs Apart (edges_of_link components link)
one_link_apart components link =
    pairs-made (λ a b. a < b) Apart (λ tail. edges_to link tail (instances_of components link.to))
    (λ tail. pairs-map (λ a b. a < b) Apart (edge_of link tail) (λ a b order same alike. absurd (omega arith)) (filter (λ head. not (nat_eq head tail)) (instances_of components link.to))
    (AllPairs-filter (λ a b. a < b) (λ head. not (nat_eq head tail)) (instances_of components link.to) (rising link.to 0 components)))
    (λ a b order. All-map (λ (e : Edge). All (Apart e) (edges_to link b (instances_of components link.to))) (edge_of link a) (filter (λ head. not (nat_eq head a)) (instances_of components link.to))
    (every (λ (head : ℕ). All (Apart (edge_of link a head)) (edges_to link b (instances_of components link.to))) (λ head. All-map (Apart (edge_of link a head)) (edge_of link b) (filter (λ head. not (nat_eq head b)) (instances_of components link.to))
    (every (λ (other : ℕ). Apart (edge_of link a head) (edge_of link b other)) (λ other same alike. absurd (omega arith)) (filter (λ head. not (nat_eq head b)) (instances_of components link.to)))) (filter (λ head. not (nat_eq head a)) (instances_of components link.to))))
    (instances_of components link.from) (rising link.from 0 components)

edges_apart : (components : List Component) (links : List LinkRow) → AllPairs (λ a b. a.from ≡ b.from → a.to ≢ b.to) links → AllPairs Apart (edges_of components links)
edges_apart components links h =
    pairs-made (λ (a b : LinkRow). a.from ≡ b.from → a.to ≢ b.to) Apart (edges_of_link components) (one_link_apart components)
    (λ a b apart i d short j e low same alike.
    let first = edges_joined components a i d short in
    let second = edges_joined components b j e low in
    apart (sym first.0 ∙ ap (type_at components) same ∙ second.0) (sym first.1 ∙ ap (type_at components) alike ∙ second.1))
    links h

-- two edges of a library with the same ends are one
pub edges_differ : (lib : LibraryParts) → IsLibrary lib → (d e : ℕ) → d < length lib.edges → e < length lib.edges → (get_or lib.edges d blank_edge).tail.0 ≡ (get_or lib.edges e blank_edge).tail.0
    → (get_or lib.edges d blank_edge).head.0 ≡ (get_or lib.edges e blank_edge).head.0 → d ≡ e
edges_differ lib h d e short low tails heads =
    let apart : AllPairs Apart lib.edges = subst (AllPairs Apart) (sym h.edges) (edges_apart (components_of lib.types) lib.links h.pairs) in
    elim (cases_lt d e) [
      | inl before ↦ absurd (apart d e blank_edge before low tails heads)
      | inr rest ↦ elim (cases_lt e d) [
        | inl after ↦ absurd (apart e d blank_edge after short (sym tails) (sym heads))
        | inr too ↦ omega arith
      ]
    ]
