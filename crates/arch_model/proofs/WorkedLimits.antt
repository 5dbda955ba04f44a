-- Worked rows: each limit of a library, met by what stands at it and by nothing past it.
use Rattle.std.proofs.Common.{◌≡◌, ℕ, ◌≤◌, true, false, List, [], ◌∷◌, refl, arith, lit≤, None, Some}
use Rattle.std.specs.Prelude.{replicate, Option}
use Rattle.std.proofs.lemmas.List.Elements.{All-from_recursion, recursion_from_All}
use Rattle.std.specs.Option.{IsSomeAnd}
use Rattle.std.specs.List.{slice_get}
use Rattle.arch_model.specs.declared.library.Requirement.{Requirement}
use Rattle.arch_model.specs.declared.library.TypeRow.{TypeRow}
use Rattle.arch_model.specs.declared.library.LinkRow.{LinkRow}
use Rattle.arch_model.specs.declared.library.Pattern.TheVariants.{CostCap}
use Rattle.arch_model.specs.declared.template.Role.TheVariants.{Sink}
use Rattle.arch_model.specs.declared.limits.TheConstants.{COMPONENTS, EDGES, MEMBERS, FAILING, PATTERNS, REQUIREMENTS}
use Rattle.arch_model.specs.Name.{IsTypeName, is_name_byte, begins_lower}
use Rattle.arch_model.specs.Parts.{LibraryParts}
use Rattle.arch_model.specs.Template.{template_of}
use Rattle.arch_model.specs.Library.{library_parts, IsLibrary, IsTypeRow, IsLinkRow, IsPatternRow, AreBounds}

-- how large a library, its template and its sets may be
sizes : (COMPONENTS ≡ 64) × (EDGES ≡ 512) × (MEMBERS ≡ 576) × (FAILING ≡ 64) × (PATTERNS ≡ 200) × (REQUIREMENTS ≡ 16)
sizes = (refl, refl, refl, refl, refl, refl)

-- a name is a letter, and up to 23 letters, digits or _
abbrev name_of : ℕ → List ℕ
name_of n = 97 ∷ replicate n 95

name_at-limit : IsTypeName (name_of 23)
name_at-limit = record { first = refl; rest = refl; short = lit≤ tt }

name_past-limit : IsTypeName (name_of 24) → ⊥
name_past-limit is = let h : 25 ≤ 24 = is.short in omega (arith, h)

-- its bytes: a to z, 0 to 9 and _
name_bytes : (is_name_byte 96 ≡ false) × (is_name_byte 97 ≡ true) × (is_name_byte 122 ≡ true) × (is_name_byte 123 ≡ false) × (is_name_byte 47 ≡ false) × (is_name_byte 48 ≡ true) × (is_name_byte 57 ≡ true) × (is_name_byte 58 ≡ false) × (is_name_byte 95 ≡ true) × (is_name_byte 94 ≡ false)
name_bytes = (refl, refl, refl, refl, refl, refl, refl, refl, refl, refl)

name_begins : (begins_lower (95 ∷ []) ≡ false) × (begins_lower (48 ∷ []) ≡ false) × (begins_lower (97 ∷ []) ≡ true) × (begins_lower (122 ∷ []) ≡ true) × (begins_lower [] ≡ false)
name_begins = (refl, refl, refl, refl, refl)

-- a type at all its limits
abbrev type_at : ℕ → ℕ → ℕ → ℕ → ℕ → TypeRow
type_at max cost supply demand fail = record { name = name_of 23; role = Sink; max = max; cost = cost; supply = supply; demand = demand; fail = fail }

type_at-limits : IsTypeRow (type_at 64 1000000000000 1000000000000 1000000000000 1000000)
type_at-limits = record { name = name_at-limit; some = lit≤ tt; few = lit≤ tt; cost = lit≤ tt; supply = lit≤ tt; demand = lit≤ tt; fail = lit≤ tt }

no_instance : (cost supply demand fail : ℕ) → IsTypeRow (type_at 0 cost supply demand fail) → ⊥
no_instance cost supply demand fail is = let h : 1 ≤ 0 = is.some in omega (arith, h)

max_past-limit : (cost supply demand fail : ℕ) → IsTypeRow (type_at 65 cost supply demand fail) → ⊥
max_past-limit cost supply demand fail is = let h : 65 ≤ 64 = is.few in omega (arith, h)

cost_past-limit : (max supply demand fail : ℕ) → IsTypeRow (type_at max 1000000000001 supply demand fail) → ⊥
cost_past-limit max supply demand fail is = let h = is.cost in omega (arith, h)

supply_past-limit : (max cost demand fail : ℕ) → IsTypeRow (type_at max cost 1000000000001 demand fail) → ⊥
supply_past-limit max cost demand fail is = let h = is.supply in omega (arith, h)

demand_past-limit : (max cost supply fail : ℕ) → IsTypeRow (type_at max cost supply 1000000000001 fail) → ⊥
demand_past-limit max cost supply fail is = let h = is.demand in omega (arith, h)

fail_past-limit : (max cost supply demand : ℕ) → IsTypeRow (type_at max cost supply demand 1000001) → ⊥
fail_past-limit max cost supply demand is = let h = is.fail in omega (arith, h)

-- a link
abbrev link_at : ℕ → ℕ → LinkRow
link_at cost fail = record { from = 0; to = 0; cost = cost; fail = fail }

link_at-limits : IsLinkRow 1 (link_at 1000000000000 1000000)
link_at-limits = record { from = lit≤ tt; to = lit≤ tt; cost = lit≤ tt; fail = lit≤ tt }

link_cost_past-limit : (fail : ℕ) → IsLinkRow 1 (link_at 1000000000001 fail) → ⊥
link_cost_past-limit fail is = let h = is.cost in omega (arith, h)

link_fail_past-limit : (cost : ℕ) → IsLinkRow 1 (link_at cost 1000001) → ⊥
link_fail_past-limit cost is = let h = is.fail in omega (arith, h)

-- least and greatest numbers of a pattern, and its cap on the cost
bounds_at-limits : AreBounds 512 (Some 512) × AreBounds 512 None
bounds_at-limits = ((lit≤ tt, lit≤ tt), (lit≤ tt, tt))

min_past-limit : (max : Option ℕ) → AreBounds 513 max → ⊥
min_past-limit max is = let h : 513 ≤ 512 = is.0 in omega (arith, h)

greatest_past-limit : (min : ℕ) → AreBounds min (Some 513) → ⊥
greatest_past-limit min is = let h : 513 ≤ 512 = is.1 in omega (arith, h)

cap_at-limit : IsPatternRow 1 1 (CostCap 1000000000000000)
cap_at-limit = lit≤ tt

cap_past-limit : IsPatternRow 1 1 (CostCap 1000000000000001) → ⊥
cap_past-limit is = omega (arith, is)

-- the bound of a requirement, on the one type's first instance
abbrev lib_bound : ℕ → LibraryParts
lib_bound bound =
    library_parts (type_at 1 0 0 0 0 ∷ []) [] (template_of (type_at 1 0 0 0 0 ∷ []) []) [] (record { sink = record { 0 = 0 }; bound = bound } ∷ [])

bound_at-limit : IsLibrary (lib_bound 1000000000000000000)
bound_at-limit = record {
  types = All-from_recursion IsTypeRow (type_at 1 0 0 0 0 ∷ [])
      (record { name = name_at-limit; some = lit≤ tt; few = lit≤ tt; cost = lit≤ tt; supply = lit≤ tt; demand = lit≤ tt; fail = lit≤ tt }, tt);
  names = λ i j d lt within. absurd (omega arith);
  links = λ i d within. absurd (omega arith);
  pairs = λ i j d lt within. absurd (omega arith);
  components = refl;
  edges = refl;
  patterns = λ i d within. absurd (omega arith);
  sinks = All-from_recursion (λ (r : Requirement). IsSomeAnd (slice_get (lib_bound 1000000000000000000).components r.sink.0) (λ row. row.role ≡ Sink)) (lib_bound 1000000000000000000).requirements (refl, tt);
  bounds = All-from_recursion (λ (r : Requirement). r.bound ≤ 1000000000000000000) (lib_bound 1000000000000000000).requirements (lit≤ tt, tt);
  few_components = lit≤ tt;
  few_edges = lit≤ tt;
  few_patterns = lit≤ tt;
  few_requirements = lit≤ tt;
  few_failing = lit≤ tt;
}

bound_past-limit : IsLibrary (lib_bound 1000000000000000001) → ⊥
bound_past-limit is =
    let h = (recursion_from_All (λ (r : Requirement). r.bound ≤ 1000000000000000000) (lib_bound 1000000000000000001).requirements is.bounds).0 in
    omega (arith, h)
