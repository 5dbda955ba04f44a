-- Walks that take from a list the parts of a template, one part at a time.
use Rattle.std.proofs.Common.{◌≡◌, ◌≢◌, ℕ, zero, suc, ◌+◌, ◌-◌, ◌<◌, ◌≤◌, Bool, true, false, cond, ◌&&◌, not, nat_eq, List, [], ◌∷◌, ◌++◌, map, filter, length, get_or, take, refl, sym, ap, ◌∙◌, arith, eq-eqb, inl, inr}
use Rattle.std.specs.List.{flat_map, enumerate_from}
use Rattle.std.proofs.lemmas.List.{take_more, length-take-le, append-nil, append_assoc, append_cancel_left, map-append}
use Rattle.std.proofs.lemmas.List.Concat.{flat_map-append}
use Rattle.std.proofs.lemmas.List.FromFn.{map-range_with_len_more}
use Rattle.std.proofs.lemmas.List.Elements.{filter-append}
use Rattle.std.proofs.lemmas.Bool.Decides.{eqb_tells}
use Rattle.arch_model.specs.declared.template.Component.{Component}
use Rattle.arch_model.specs.declared.template.Edge.{Edge}
use Rattle.arch_model.specs.declared.library.TypeRow.{TypeRow}
use Rattle.arch_model.specs.declared.library.LinkRow.{LinkRow}
use Rattle.arch_model.specs.Template.{instances_of_type, components_of, instances_of, edges_of_link, edges_of, instance_of_type, edge_of, edges_to}

-- fronts that each grow by a piece
abbrev pub Grows : {X : Type 0} → ℕ → (ℕ → List X) → (ℕ → List X) → Type 0
Grows n front piece = (i : ℕ) → i < n → front (i + 1) ≡ front i ++ piece i

module _ {X : Type 0} (front piece : ℕ → List X) where
  grown : (k i : ℕ) → Grows (i + k) front piece → (more : List X) × (front (i + k) ≡ front i ++ more)
  grown zero i grows = let same : i + 0 ≡ i = omega arith in ([], ap front same ∙ sym (append-nil (front i)))
  grown (suc k) i grows =
      let last : i + suc k ≡ (i + k) + 1 = omega arith in
      let before = grown k i (λ j h. grows j (omega arith)) in
      (before.0 ++ piece (i + k), ap front last ∙ grows (i + k) (omega arith) ∙ ap (λ l. l ++ piece (i + k)) before.1 ∙ append_assoc (front i) before.0 (piece (i + k)))

  -- where a list begins with all pieces, what is left of it begins with the next one
  pub begins_next : (n i : ℕ) → Grows n front piece → i < n → (list rest left : List X) → list ≡ front i ++ left → list ≡ front n ++ rest → (tail : List X) × (left ≡ piece i ++ tail)
  begins_next n i grows here list rest left so_far all =
      let k = n - (i + 1) in
      let to_n : (i + 1) + k ≡ n = omega arith in
      let more = grown k (i + 1) (λ j h. grows j (omega arith)) in
      let whole : front n ≡ front i ++ (piece i ++ more.0) = ap front (sym to_n) ∙ more.1 ∙ ap (λ l. l ++ more.0) (grows i here) ∙ append_assoc (front i) (piece i) more.0 in (
        more.0 ++ rest,
        append_cancel_left (front i) left (piece i ++ (more.0 ++ rest))
            (sym so_far ∙ all ∙ ap (λ l. l ++ rest) whole ∙ append_assoc (front i) (piece i ++ more.0) rest ∙ ap (λ l. front i ++ l) (append_assoc (piece i) more.0 rest)),
      )

  -- one more piece taken
  pub takes_next : (n i : ℕ) → Grows n front piece → i < n → (list left after : List X) → list ≡ front i ++ left → left ≡ piece i ++ after → list ≡ front (i + 1) ++ after
  takes_next n i grows here list left after so_far next =
      so_far ∙ ap (λ l. front i ++ l) next ∙ sym (append_assoc (front i) (piece i) after) ∙ ap (λ l. l ++ after) (sym (grows i here))

  -- an empty piece taken
  pub passes_over : (n i : ℕ) → Grows n front piece → i < n → (list left after : List X) → list ≡ front i ++ left → piece i ≡ [] → after ≡ left → list ≡ front (i + 1) ++ after
  passes_over n i grows here list left after so_far none same = takes_next n i grows here list left after so_far (sym same ∙ ap (λ l. l ++ after) (sym none))

enumerate_push : {X : Type 0} (n k : ℕ) (xs : List X) (x : X) → n + length xs ≡ k → enumerate_from n (xs ++ x ∷ []) ≡ enumerate_from n xs ++ (k, x) ∷ []
enumerate_push n k [] x e = let same : n ≡ k = omega arith in ap (λ j. (j, x) ∷ []) same
enumerate_push n k (y ∷ xs) x e = ap (λ l. (n, y) ∷ l) (enumerate_push (n + 1) k xs x (omega arith))

-- one more element with its number
enumerate_more : {X : Type 0} (xs : List X) (i : ℕ) (d : X) → i < length xs → enumerate_from 0 (take (i + 1) xs) ≡ enumerate_from 0 (take i xs) ++ (i, get_or xs i d) ∷ []
enumerate_more xs i d here =
    let le : i ≤ length xs = omega arith in
    ap (enumerate_from 0) (take_more xs i d here) ∙ enumerate_push 0 i (take i xs) (get_or xs i d) (omega (arith, length-take-le i xs le))

-- the instances of one type
pub instances_grow : (t : ℕ) (row : TypeRow) → Grows row.max (λ i. instances_of_type t (record row { max = i })) (λ i. instance_of_type t row (i + 1) ∷ [])
instances_grow t row i here = map-range_with_len_more (instance_of_type t row) 1 i (i + 1) (omega arith)

-- the components of all types
pub components_grow : (types : List TypeRow) (d : TypeRow) → Grows (length types) (λ i. components_of (take i types)) (λ i. instances_of_type i (get_or types i d))
components_grow types d i here =
    ap (flat_map (λ (p : ℕ × TypeRow). instances_of_type p.0 p.1)) (enumerate_more types i d here)
    ∙ flat_map-append (λ (p : ℕ × TypeRow). instances_of_type p.0 p.1) (enumerate_from 0 (take i types)) ((i, get_or types i d) ∷ [])
    ∙ ap (λ l. components_of (take i types) ++ l) (append-nil (instances_of_type i (get_or types i d)))

one_instance : (b : Bool) (p : ℕ × Component) → map (λ (q : ℕ × Component). q.0) (cond b (p ∷ []) []) ≡ cond b (p.0 ∷ []) []
one_instance true p = refl
one_instance false p = refl

instances_more : (components : List Component) (t i : ℕ) (d : Component) → i < length components → instances_of (take (i + 1) components) t ≡ instances_of (take i components) t ++ cond (nat_eq (get_or components i d).of t) (i ∷ []) []
instances_more components t i d here =
    ap (λ l. map (λ (q : ℕ × Component). q.0) (filter (λ (q : ℕ × Component). nat_eq q.1.of t) l)) (enumerate_more components i d here)
    ∙ ap (map (λ (q : ℕ × Component). q.0)) (filter-append (λ (q : ℕ × Component). nat_eq q.1.of t) (enumerate_from 0 (take i components)) ((i, get_or components i d) ∷ []))
    ∙ map-append (λ (q : ℕ × Component). q.0) (filter (λ (q : ℕ × Component). nat_eq q.1.of t) (enumerate_from 0 (take i components))) (cond (nat_eq (get_or components i d).of t) ((i, get_or components i d) ∷ []) [])
    ∙ ap (λ l. instances_of (take i components) t ++ l) (one_instance (nat_eq (get_or components i d).of t) (i, get_or components i d))

edges_to-append : (link : LinkRow) (tail : ℕ) (xs ys : List ℕ) → edges_to link tail (xs ++ ys) ≡ edges_to link tail xs ++ edges_to link tail ys
edges_to-append link tail xs ys =
    ap (map (edge_of link tail)) (filter-append (λ head. not (nat_eq head tail)) xs ys)
    ∙ map-append (edge_of link tail) (filter (λ head. not (nat_eq head tail)) xs) (filter (λ head. not (nat_eq head tail)) ys)

one_head : (link : LinkRow) (tail i : ℕ) (a : Bool) → edges_to link tail (cond a (i ∷ []) []) ≡ cond (a && not (nat_eq i tail)) (edge_of link tail i ∷ []) []
one_head link tail i false = refl
one_head link tail i true = elim (nat_eq i tail) as (λ b. map (edge_of link tail) (cond (not b) (i ∷ []) []) ≡ cond (not b) (edge_of link tail i ∷ []) []) [ true ↦ refl | false ↦ refl ]

-- the edges of a link from one component
pub heads_grow : (link : LinkRow) (tail : ℕ) (components : List Component) (d : Component)
    → Grows (length components) (λ i. edges_to link tail (instances_of (take i components) link.to)) (λ i. cond (nat_eq (get_or components i d).of link.to && not (nat_eq i tail)) (edge_of link tail i ∷ []) [])
heads_grow link tail components d i here =
    ap (edges_to link tail) (instances_more components link.to i d here)
    ∙ edges_to-append link tail (instances_of (take i components) link.to) (cond (nat_eq (get_or components i d).of link.to) (i ∷ []) [])
    ∙ ap (λ l. edges_to link tail (instances_of (take i components) link.to) ++ l) (one_head link tail i (nat_eq (get_or components i d).of link.to))

-- the edges of a link from some tails
abbrev pub edges_from : List Component → LinkRow → List ℕ → List Edge
edges_from components link tails = flat_map (λ tail. edges_to link tail (instances_of components link.to)) tails

one_tail : (components : List Component) (link : LinkRow) (i : ℕ) (a : Bool) → edges_from components link (cond a (i ∷ []) []) ≡ cond a (edges_to link i (instances_of components link.to)) []
one_tail components link i false = refl
one_tail components link i true = append-nil _

-- the edges of one link
pub tails_grow : (components : List Component) (link : LinkRow) (d : Component)
    → Grows (length components) (λ i. edges_from components link (instances_of (take i components) link.from)) (λ i. cond (nat_eq (get_or components i d).of link.from) (edges_to link i (instances_of components link.to)) [])
tails_grow components link d i here =
    ap (edges_from components link) (instances_more components link.from i d here)
    ∙ flat_map-append (λ tail. edges_to link tail (instances_of components link.to)) (instances_of (take i components) link.from) (cond (nat_eq (get_or components i d).of link.from) (i ∷ []) [])
    ∙ ap (λ l. edges_from components link (instances_of (take i components) link.from) ++ l) (one_tail components link i (nat_eq (get_or components i d).of link.from))

-- the edges of all links
pub links_grow : (components : List Component) (links : List LinkRow) (d : LinkRow) → Grows (length links) (λ i. edges_of components (take i links)) (λ i. edges_of_link components (get_or links i d))
links_grow components links d i here =
    ap (edges_of components) (take_more links i d here)
    ∙ flat_map-append (edges_of_link components) (take i links) (get_or links i d ∷ [])
    ∙ ap (λ l. edges_of components (take i links) ++ l) (append-nil _)

-- pieces that a test chooses
pub unequal : (a b : ℕ) → a ≢ b → nat_eq a b ≡ false
unequal a b ne = elim (eqb_tells a b) [ inl w ↦ absurd (ne w.1) | inr w ↦ w.0 ]

pub chosen_if : {X : Type 0} (a b : ℕ) (xs : List X) → a ≡ b → cond (nat_eq a b) xs [] ≡ xs
chosen_if a b xs same = ap (λ t. cond t xs []) (eq-eqb a b same)

pub left_out_if : {X : Type 0} (a b : ℕ) (xs : List X) → a ≢ b → cond (nat_eq a b) xs [] ≡ []
left_out_if a b xs ne = ap (λ t. cond t xs []) (unequal a b ne)

pub head_if : {X : Type 0} (a b i tail : ℕ) (xs : List X) → a ≡ b → i ≢ tail → cond (nat_eq a b && not (nat_eq i tail)) xs [] ≡ xs
head_if a b i tail xs same ne = ap (λ t. cond (t && not (nat_eq i tail)) xs []) (eq-eqb a b same) ∙ ap (λ t. cond (not t) xs []) (unequal i tail ne)

pub no_head_if_other : {X : Type 0} (a b i tail : ℕ) (xs : List X) → a ≢ b → cond (nat_eq a b && not (nat_eq i tail)) xs [] ≡ []
no_head_if_other a b i tail xs ne = ap (λ t. cond (t && not (nat_eq i tail)) xs []) (unequal a b ne)

no_head : {X : Type 0} (t : Bool) (xs : List X) → cond (t && false) xs [] ≡ []
no_head true xs = refl
no_head false xs = refl

pub no_head_if_self : {X : Type 0} (a b i tail : ℕ) (xs : List X) → i ≡ tail → cond (nat_eq a b && not (nat_eq i tail)) xs [] ≡ []
no_head_if_self a b i tail xs same = ap (λ t. cond (nat_eq a b && not t) xs []) (eq-eqb i tail same) ∙ no_head (nat_eq a b) xs

abbrev pub blank_link : LinkRow
blank_link = record { from = 0; to = 0; cost = 0; fail = 0 }
