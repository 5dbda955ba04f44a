-- Texts, line by line.
use Rattle.std.proofs.Common.{◌≡◌, ℕ, ◌<◌, Bool, true, false, cond, List, [], ◌∷◌, ◌++◌, filter, length, get_or, codes, refl, sym, ap, ◌∙◌, append_assoc}
use Rattle.std.specs.Prelude.{IsTrue}
use Rattle.std.specs.List.{AllByRecursion, flat_map, range_with_len}
use Rattle.std.specs.Option.{option_map_or}
use Rattle.std.proofs.lemmas.Option.{slice_get-get_or}
use Rattle.arch_model.specs.declared.template.Edge.{Edge}
use Rattle.arch_model.specs.Set.{Set, has, members_below}
use Rattle.arch_model.specs.Parts.{LibraryParts, ArchitectureParts}
use Rattle.arch_model.specs.declared.limits.TheConstants.{COMPONENTS, EDGES}
use Rattle.arch_model.proofs.Ranges.{blank_edge}
use Rattle.template.specs.Names.{component_name}
use Rattle.arch_csv.specs.Text.{component_line, edge_line, architecture_text}

kept : (p : ℕ → Bool) (P : ℕ → Type 0) (xs : List ℕ) → ((k : ℕ) → p k ≡ true → P k) → AllByRecursion P (filter p xs)
kept p P [] each = tt
kept p P (x ∷ xs) each = elim (p x) as (λ b. (b ≡ true → P x) → AllByRecursion P (cond b (x ∷ filter p xs) (filter p xs))) [
  | true ↦ λ here. (here refl, kept p P xs each)
  | false ↦ λ here. kept p P xs each
] (each x)

-- what all members have
pub all_members : (s : Set) (n : ℕ) (P : ℕ → Type 0) → ((k : ℕ) → IsTrue (has s k) → P k) → AllByRecursion P (members_below s n)
unfolding members_below
all_members s n P each = kept (has s) P (range_with_len 0 n) each

pub edge_line_is : (lib : LibraryParts) (e : ℕ) (rows : List Edge) → rows ≡ lib.edges → e < length lib.edges
    → edge_line lib e ≡ codes "edge," ++ component_name lib (get_or rows e blank_edge).tail.0 ++ codes "," ++ component_name lib (get_or rows e blank_edge).head.0 ++ codes "\n"
edge_line_is lib e rows same here =
    ap (λ o. option_map_or (λ (edge : Edge). codes "edge," ++ component_name lib edge.tail.0 ++ codes "," ++ component_name lib edge.head.0 ++ codes "\n") o []) (slice_get-get_or lib.edges e blank_edge here)
    ∙ ap (λ (r : List Edge). codes "edge," ++ component_name lib (get_or r e blank_edge).tail.0 ++ codes "," ++ component_name lib (get_or r e blank_edge).head.0 ++ codes "\n") (sym same)

regroup : (t x a y b z : List ℕ) → ((((t ++ x) ++ a) ++ y) ++ b) ++ z ≡ t ++ (x ++ a ++ y ++ b ++ z)
regroup t x a y b z = simp append_assoc

-- five pieces, one after another
pub five_pieces : (t0 t1 t2 t3 t4 t5 x a y b z line : List ℕ) → t1 ≡ t0 ++ x → t2 ≡ t1 ++ a → t3 ≡ t2 ++ y → t4 ≡ t3 ++ b → t5 ≡ t4 ++ z → line ≡ x ++ a ++ y ++ b ++ z → t5 ≡ t0 ++ line
five_pieces t0 t1 t2 t3 t4 t5 x a y b z line e1 e2 e3 e4 e5 is =
    e5
    ∙ ap (λ t. t ++ z) (e4 ∙ ap (λ t. t ++ b) (e3 ∙ ap (λ t. t ++ y) (e2 ∙ ap (λ t. t ++ a) e1)))
    ∙ regroup t0 x a y b z
    ∙ ap (λ t. t0 ++ t) (sym is)

joined_up : (text head a b : List ℕ) → ((text ++ head) ++ a) ++ b ≡ text ++ (head ++ a ++ b)
joined_up text head a b = simp append_assoc

-- a header, and the lines of the components and of the edges
pub sections : (lib : LibraryParts) (arch : ArchitectureParts) (comps edges : Set) (t0 t1 t2 t3 : List ℕ) → t1 ≡ t0 ++ codes "kind,from,to\n" → comps ≡ arch.comps → edges ≡ arch.edges
    → t2 ≡ t1 ++ flat_map (component_line lib) (members_below comps COMPONENTS) → t3 ≡ t2 ++ flat_map (edge_line lib) (members_below edges EDGES) → t3 ≡ t0 ++ architecture_text lib arch
sections lib arch comps edges t0 t1 t2 t3 e1 alike same e2 e3 =
    let a = flat_map (component_line lib) (members_below arch.comps COMPONENTS) in
    let b = flat_map (edge_line lib) (members_below arch.edges EDGES) in
    e3 ∙ ap (λ (s : Set). t2 ++ flat_map (edge_line lib) (members_below s EDGES)) same
    ∙ ap (λ t. t ++ b) (e2 ∙ ap (λ (s : Set). t1 ++ flat_map (component_line lib) (members_below s COMPONENTS)) alike
    ∙ ap (λ t. t ++ a) e1)
    ∙ joined_up t0 (codes "kind,from,to\n") a b
