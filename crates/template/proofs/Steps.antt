-- One more row, component or link: what each adds to the lists of a template.
use Rattle.std.proofs.Common.{◌≡◌, ◌≢◌, ℕ, ◌+◌, ◌<◌, ◌≤◌, Bool, true, false, cond, not, nat_eq, List, [], ◌∷◌, ◌++◌, map, filter, length, get_or, take, refl, sym, ap, ◌∙◌, arith, eq-eqb, inl, inr}
use Rattle.std.specs.List.{flat_map, enumerate_from, range_with_len}
use Rattle.std.proofs.lemmas.List.{take_more, length-take-le, append-nil, append_assoc, map-append}
use Rattle.std.proofs.lemmas.List.Concat.{flat_map-append}
use Rattle.std.proofs.lemmas.List.FromFn.{map-range_with_len_more}
use Rattle.std.proofs.lemmas.List.Elements.{filter-append}
use Rattle.std.proofs.lemmas.Bool.Decides.{eqb_tells}
use Rattle.arch_model.specs.declared.template.Component.{Component}
use Rattle.arch_model.specs.declared.template.Edge.{Edge}
use Rattle.arch_model.specs.declared.library.TypeRow.{TypeRow}
use Rattle.arch_model.specs.declared.library.LinkRow.{LinkRow}
use Rattle.arch_model.specs.Template.{instances_of_type, components_of, instances_of, edge_of, edges_to}

enumerate_push : {X : Type 0} (n k : ℕ) (xs : List X) (x : X) → n + length xs ≡ k → enumerate_from n (xs ++ x ∷ []) ≡ enumerate_from n xs ++ (k, x) ∷ []
enumerate_push n k [] x e = let same : n ≡ k = omega arith in ap (λ j. (j, x) ∷ []) same
enumerate_push n k (y ∷ xs) x e = ap (λ l. (n, y) ∷ l) (enumerate_push (n + 1) k xs x (omega arith))

-- one more element with its number
pub enumerate_more : {X : Type 0} (xs : List X) (i : ℕ) (d : X) → i < length xs → enumerate_from 0 (take (i + 1) xs) ≡ enumerate_from 0 (take i xs) ++ (i, get_or xs i d) ∷ []
enumerate_more xs i d here =
    let le : i ≤ length xs = omega arith in
    ap (enumerate_from 0) (take_more xs i d here) ∙ enumerate_push 0 i (take i xs) (get_or xs i d) (omega (arith, length-take-le i xs le))

-- one more type
pub components_more : (types : List TypeRow) (i : ℕ) (d : TypeRow) → i < length types → components_of (take (i + 1) types) ≡ components_of (take i types) ++ instances_of_type i (get_or types i d)
components_more types i d here =
    ap (flat_map (λ (p : ℕ × TypeRow). instances_of_type p.0 p.1)) (enumerate_more types i d here)
    ∙ flat_map-append (λ (p : ℕ × TypeRow). instances_of_type p.0 p.1) (enumerate_from 0 (take i types)) ((i, get_or types i d) ∷ [])
    ∙ ap (λ l. components_of (take i types) ++ l) (append-nil (instances_of_type i (get_or types i d)))

one_instance : (t : ℕ) (b : Bool) (p : ℕ × Component) → map (λ (q : ℕ × Component). q.0) (cond b (p ∷ []) []) ≡ cond b (p.0 ∷ []) []
one_instance t true p = refl
one_instance t false p = refl

-- one more component
pub instances_more : (components : List Component) (t i : ℕ) (d : Component) → i < length components → instances_of (take (i + 1) components) t ≡ instances_of (take i components) t ++ cond (nat_eq (get_or components i d).of t) (i ∷ []) []
instances_more components t i d here =
    ap (λ l. map (λ (q : ℕ × Component). q.0) (filter (λ (q : ℕ × Component). nat_eq q.1.of t) l)) (enumerate_more components i d here)
    ∙ ap (map (λ (q : ℕ × Component). q.0)) (filter-append (λ (q : ℕ × Component). nat_eq q.1.of t) (enumerate_from 0 (take i components)) ((i, get_or components i d) ∷ []))
    ∙ map-append (λ (q : ℕ × Component). q.0) (filter (λ (q : ℕ × Component). nat_eq q.1.of t) (enumerate_from 0 (take i components))) (cond (nat_eq (get_or components i d).of t) ((i, get_or components i d) ∷ []) [])
    ∙ ap (λ l. instances_of (take i components) t ++ l) (one_instance t (nat_eq (get_or components i d).of t) (i, get_or components i d))

pub instances_more_yes : (components : List Component) (t i : ℕ) (d : Component) → i < length components → (get_or components i d).of ≡ t → instances_of (take (i + 1) components) t ≡ instances_of (take i components) t ++ i ∷ []
instances_more_yes components t i d here is = instances_more components t i d here ∙ ap (λ b. instances_of (take i components) t ++ cond b (i ∷ []) []) (eq-eqb _ _ is)

pub unequal : (a b : ℕ) → a ≢ b → nat_eq a b ≡ false
unequal a b ne = elim (eqb_tells a b) [ inl w ↦ absurd (ne w.1) | inr w ↦ w.0 ]

pub instances_more_no : (components : List Component) (t i : ℕ) (d : Component) → i < length components → (get_or components i d).of ≢ t → instances_of (take (i + 1) components) t ≡ instances_of (take i components) t
instances_more_no components t i d here ne = instances_more components t i d here ∙ ap (λ b. instances_of (take i components) t ++ cond b (i ∷ []) []) (unequal _ _ ne) ∙ append-nil _

edges_to-append : (link : LinkRow) (tail : ℕ) (xs ys : List ℕ) → edges_to link tail (xs ++ ys) ≡ edges_to link tail xs ++ edges_to link tail ys
edges_to-append link tail xs ys =
    ap (map (edge_of link tail)) (filter-append (λ head. not (nat_eq head tail)) xs ys)
    ∙ map-append (edge_of link tail) (filter (λ head. not (nat_eq head tail)) xs) (filter (λ head. not (nat_eq head tail)) ys)

-- one more component as a head
pub heads_more_yes : (link : LinkRow) (tail : ℕ) (components : List Component) (i : ℕ) (d : Component) → i < length components → (get_or components i d).of ≡ link.to → i ≢ tail
    → edges_to link tail (instances_of (take (i + 1) components) link.to) ≡ edges_to link tail (instances_of (take i components) link.to) ++ edge_of link tail i ∷ []
heads_more_yes link tail components i d here is ne =
    ap (edges_to link tail) (instances_more_yes components link.to i d here is)
    ∙ edges_to-append link tail (instances_of (take i components) link.to) (i ∷ [])
    ∙ ap (λ b. edges_to link tail (instances_of (take i components) link.to) ++ map (edge_of link tail) (cond (not b) (i ∷ []) [])) (unequal i tail ne)

pub heads_more_other : (link : LinkRow) (tail : ℕ) (components : List Component) (i : ℕ) (d : Component) → i < length components → (get_or components i d).of ≢ link.to
    → edges_to link tail (instances_of (take (i + 1) components) link.to) ≡ edges_to link tail (instances_of (take i components) link.to)
heads_more_other link tail components i d here ne = ap (edges_to link tail) (instances_more_no components link.to i d here ne)

pub heads_more_self : (link : LinkRow) (tail : ℕ) (components : List Component) (i : ℕ) (d : Component) → i < length components → i ≡ tail
    → edges_to link tail (instances_of (take (i + 1) components) link.to) ≡ edges_to link tail (instances_of (take i components) link.to)
heads_more_self link tail components i d here same = elim (eqb_tells (get_or components i d).of link.to) [
  | inl w ↦ ap (edges_to link tail) (instances_more_yes components link.to i d here w.1)
      ∙ edges_to-append link tail (instances_of (take i components) link.to) (i ∷ [])
      ∙ ap (λ b. edges_to link tail (instances_of (take i components) link.to) ++ map (edge_of link tail) (cond (not b) (i ∷ []) [])) (eq-eqb _ _ same)
      ∙ append-nil _
  | inr w ↦ heads_more_other link tail components i d here w.1
]

-- the edges of a link from some tails
abbrev pub edges_from : List Component → LinkRow → List ℕ → List Edge
edges_from components link tails = flat_map (λ tail. edges_to link tail (instances_of components link.to)) tails

pub tails_more_yes : (components : List Component) (link : LinkRow) (i : ℕ) (d : Component) → i < length components → (get_or components i d).of ≡ link.from
    → edges_from components link (instances_of (take (i + 1) components) link.from) ≡ edges_from components link (instances_of (take i components) link.from) ++ edges_to link i (instances_of components link.to)
tails_more_yes components link i d here is =
    ap (edges_from components link) (instances_more_yes components link.from i d here is)
    ∙ flat_map-append (λ tail. edges_to link tail (instances_of components link.to)) (instances_of (take i components) link.from) (i ∷ [])
    ∙ ap (λ l. edges_from components link (instances_of (take i components) link.from) ++ l) (append-nil _)

pub tails_more_no : (components : List Component) (link : LinkRow) (i : ℕ) (d : Component) → i < length components → (get_or components i d).of ≢ link.from
    → edges_from components link (instances_of (take (i + 1) components) link.from) ≡ edges_from components link (instances_of (take i components) link.from)
tails_more_no components link i d here ne = ap (edges_from components link) (instances_more_no components link.from i d here ne)

-- one more instance of a type
pub instances_of_type_more : (t i : ℕ) (row : TypeRow) (before after made : List Component)
    → made ≡ before ++ instances_of_type t (record row { max = i })
    → after ≡ made ++ record { of = t; index = i + 1; role = row.role; cost = row.cost; supply = row.supply; demand = row.demand; fail = row.fail } ∷ []
    → after ≡ before ++ instances_of_type t (record row { max = i + 1 })
instances_of_type_more t i row before after made so_far step =
    let made_at : ℕ → Component = λ k. record { of = t; index = k; role = row.role; cost = row.cost; supply = row.supply; demand = row.demand; fail = row.fail } in
    step ∙ ap (λ l. l ++ made_at (i + 1) ∷ []) so_far ∙ append_assoc before (map made_at (range_with_len 1 i)) (made_at (i + 1) ∷ [])
    ∙ ap (λ l. before ++ l) (sym (map-range_with_len_more made_at 1 i (i + 1) (omega arith)))

-- a loop that appends a piece at a time
pub one_more_piece : {X : Type 0} (before so_far piece whole old new : List X) → old ≡ before ++ so_far → new ≡ old ++ piece → whole ≡ so_far ++ piece → new ≡ before ++ whole
one_more_piece before so_far piece whole old new made step all = step ∙ ap (λ l. l ++ piece) made ∙ append_assoc before so_far piece ∙ ap (λ l. before ++ l) (sym all)
