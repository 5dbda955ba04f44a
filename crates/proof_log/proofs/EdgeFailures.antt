-- Where no edge fails, a right cut's set has components alone.
use Rattle.std.proofs.Common.{◌≡◌, ℕ, ◌-◌, ◌*◌, ◌^◌, ◌≤◌, ◌<◌, true, false, not, nat_eq, List, [], ◌∷◌, ◌++◌, map, filter, length, refl, sym, ap, subst, ◌∙◌, arith, inl, inr}
use Rattle.std.specs.Prelude.{IsTrue}
use Rattle.std.specs.List.{All, AllByRecursion, flat_map}
use Rattle.std.proofs.lemmas.Bool.{cases_lt}
use Rattle.std.proofs.lemmas.List.Elements.{All-from_recursion, recursion_from_All}
use Rattle.arch_model.specs.declared.template.Component.{Component}
use Rattle.arch_model.specs.declared.template.Edge.{Edge}
use Rattle.arch_model.specs.declared.library.LinkRow.{LinkRow}
use Rattle.arch_model.specs.declared.library.Requirement.{Requirement}
use Rattle.arch_model.specs.Set.{Set, has, members_below}
use Rattle.arch_model.specs.Parts.{LibraryParts}
use Rattle.arch_model.specs.Library.{IsLibrary}
use Rattle.arch_model.specs.Template.{template_of, components_of, instances_of, edge_of, edges_to, edges_of_link, edges_of}
use Rattle.arch_model.specs.Member.{is_in, fail_of, member_count}
use Rattle.arch_model.specs.Weight.{product_of}
use Rattle.arch_model.proofs.Ranges.{blank_edge, fail_of_edge}
use Rattle.arch_model.proofs.Members.{is_in-members}
use Rattle.arch_model.proofs.ProductLaws.{product_zero}
use Rattle.redundancy_cut.specs.RightCut.{IsRightRedundancy}
use Rattle.proof_log.specs.Line.{SET_NUMBERS}
use Rattle.proof_log.specs.Log.{NoEdgeFails}

-- ---- no edge fails

abbrev NeverFails : Edge → Type 0
NeverFails e = e.fail ≡ 0

each_edge : (link : LinkRow) (tail : ℕ) (heads : List ℕ) → link.fail ≡ 0 → AllByRecursion NeverFails (map (edge_of link tail) heads)
each_edge link tail [] never = tt
each_edge link tail (h ∷ heads) never = (never, each_edge link tail heads never)

joined : (xs ys : List Edge) → AllByRecursion NeverFails xs → AllByRecursion NeverFails ys → AllByRecursion NeverFails (xs ++ ys)
joined [] ys a b = b
joined (x ∷ xs) ys a b = (a.0, joined xs ys a.1 b)

each_tail : (link : LinkRow) (heads : List ℕ) (tails : List ℕ) → link.fail ≡ 0 → AllByRecursion NeverFails (flat_map (λ tail. edges_to link tail heads) tails)
each_tail link heads [] never = tt
each_tail link heads (t ∷ tails) never =
    joined (edges_to link t heads) (flat_map (λ tail. edges_to link tail heads) tails) (each_edge link t (filter (λ head. not (nat_eq head t)) heads) never) (each_tail link heads tails never)

each_link : (components : List Component) (links : List LinkRow) → AllByRecursion (λ link. link.fail ≡ 0) links → AllByRecursion NeverFails (edges_of components links)
each_link components [] never = tt
each_link components (link ∷ links) never =
    joined (edges_of_link components link) (edges_of components links) (each_tail link (instances_of components link.to) (instances_of components link.from) never.0) (each_link components links never.1)

-- where the edges are those of links that never fail, no edge does
pub template_never_fails : (lib : LibraryParts) → lib.edges ≡ (template_of lib.types lib.links).edges → All (λ link. link.fail ≡ 0) lib.links → NoEdgeFails lib
template_never_fails lib edges never =
    subst (All NeverFails) (sym edges)
    (All-from_recursion NeverFails (edges_of (components_of lib.types) lib.links) (each_link (components_of lib.types) lib.links (recursion_from_All (λ (link : LinkRow). link.fail ≡ 0) lib.links never)))

-- a library whose links never fail has no edge that does
pub no_edge_fails : (lib : LibraryParts) → IsLibrary lib → All (λ link. link.fail ≡ 0) lib.links → NoEdgeFails lib
no_edge_fails lib right never = template_never_fails lib right.edges never

module _ (lib : LibraryParts) (right : IsLibrary lib) (never : NoEdgeFails lib) where
  edge_never : (v : ℕ) → length lib.components ≤ v → v < member_count lib → fail_of lib v ≡ 0
  edge_never v far short = sym (fail_of_edge lib v far short) ∙ never (v - length lib.components) blank_edge (omega arith)

  -- the set of a right cut
  pub set_below : (r : Requirement) (set far : Set) → IsRightRedundancy lib r set far → (v : ℕ) → IsTrue (has set v) → v < SET_NUMBERS
  set_below r set far is v on = elim (cases_lt v (length lib.components)) [
    | inl low ↦ omega (arith, low, right.few_components)
    | inr high ↦
        let short : v < member_count lib = is.members v on in
        let nothing : product_of lib (members_below set (member_count lib)) ≡ 0 = product_zero lib (members_below set (member_count lib)) v (is_in-members set (member_count lib) v on short) (edge_never v high short) in
        absurd (omega (arith, is.heavy, nothing))
  ]
