-- The base rows of a library decide its patterns.
use Rattle.std.proofs.Common.{◌≡◌, ℕ, ◌<◌, pos, ◌+ℤ◌, ◌≤ℤ◌, Bool, true, false, List, [], ◌∷◌, ◌++◌, flat_map, Option, Some, None, refl, sym, ◌∙◌, arith, if◌then◌else◌}
use Rattle.std.specs.Prelude.{◌↔◌, IsTrue}
use Rattle.std.specs.List.{All, AllByRecursion, slice_get}
use Rattle.std.specs.Option.{IsSomeAnd}
use Rattle.std.proofs.lemmas.Int.{ints}
use Rattle.std.proofs.lemmas.Option.{slice_get_within}
use Rattle.arch_model.specs.declared.template.Component.{Component}
use Rattle.arch_model.specs.declared.template.Role.TheVariants.{Sink}
use Rattle.arch_model.specs.declared.library.Pattern.{Pattern}
use Rattle.arch_model.specs.declared.library.Pattern.TheVariants.{Count, InDegree, OutDegree, InNeedsOut, Exclusive, Implies, Forbid, TotalSupply, LocalSupply, CostCap}
use Rattle.arch_model.specs.declared.library.Requirement.{Requirement}
use Rattle.arch_model.specs.Set.{has}
use Rattle.arch_model.specs.Parts.{LibraryParts, ArchitectureParts}
use Rattle.arch_model.specs.Library.{IsLibrary}
use Rattle.arch_model.specs.Architecture.{IsArchitecture}
use Rattle.arch_model.specs.Pattern.{MeetsPattern}
use Rattle.arch_model.specs.Member.{member_count}
use Rattle.rows.specs.Parts.{RowParts}
use Rattle.rows.specs.Row.{RowHolds}
use Rattle.rows.specs.BaseRows.{plus, member_row, edge_rows, requirement_rows, pattern_rows, base_rows_of}
use Rattle.rows.specs.Problem.{IsVectorOf, DecidePatterns}
use Rattle.rows.proofs.EdgeRows.{holds_from, holds_to}
use Rattle.rows.proofs.VectorLaws.{at_component, edge_rows_say}
use Rattle.binary_program.specs.Says.{Says}
use Rattle.binary_program.proofs.Counted.{chain, back, pair, all_listed, all_append, all_flat, all_map, all_same, all_any}
use Rattle.binary_program.proofs.CountKinds.{count_says, in_degree_says, out_degree_says, in_needs_out_says, exclusive_says, implies_says, forbid_says}
use Rattle.binary_program.proofs.SumKinds.{total_supply_says, local_supply_says, cost_cap_says}
use Rattle.binary_program.proofs.RowCounts.{base_rows_below, few_base_rows}

-- `x_s >= 1` says that s is at 1
one_from : (on : Bool) → on ≡ true → pos 1 ≤ℤ ((if on then pos 1 else pos 0) +ℤ pos 0)
one_from true h = omega (arith, ints)
one_from false h = absurd (let e : false ≡ true = h in cc)

one_to : (on : Bool) → pos 1 ≤ℤ ((if on then pos 1 else pos 0) +ℤ pos 0) → on ≡ true
one_to true h = refl
one_to false h = absurd (omega (arith, ints))

is_there : (o : Option Component) → IsSomeAnd o (λ row. row.role ≡ Sink) → (row : Component) × (o ≡ Some row)
is_there None h = absurd h
is_there (Some row) h = (row, refl)

module _ (lib : LibraryParts) (right : IsLibrary lib) (arch : ArchitectureParts) (fits : IsArchitecture lib arch) (x : ℕ → Bool) (vector : IsVectorOf lib arch x) where
  abbrev Holds : RowParts → Type 0
  Holds row = RowHolds row x

  -- the rows of each kind of pattern
  pattern_says : (pattern : Pattern) → Says lib arch x pattern
  pattern_says (Count t min max) = count_says lib right arch fits x vector t min max
  pattern_says (InDegree t from min max) = in_degree_says lib right arch fits x vector t from min max
  pattern_says (OutDegree t to min max) = out_degree_says lib right arch fits x vector t to min max
  pattern_says (InNeedsOut t from to) = in_needs_out_says lib right arch fits x vector t from to
  pattern_says (Exclusive t a b) = exclusive_says lib right arch fits x vector t a b
  pattern_says (Implies a b) = implies_says lib right arch fits x vector a b
  pattern_says (Forbid tail head) = forbid_says lib right arch fits x vector tail head
  pattern_says TotalSupply = total_supply_says lib right arch fits x vector
  pattern_says (LocalSupply t) = local_supply_says lib right arch fits x vector t
  pattern_says (CostCap max) = cost_cap_says lib right arch fits x vector max

  patterns_say : AllByRecursion Holds (flat_map (pattern_rows lib) lib.patterns) ↔ All (MeetsPattern lib arch) lib.patterns
  patterns_say =
      chain (all_flat Holds (pattern_rows lib) lib.patterns)
      (chain (all_same (λ p. AllByRecursion Holds (pattern_rows lib p)) (MeetsPattern lib arch) lib.patterns
      (all_any (λ p. AllByRecursion Holds (pattern_rows lib p) ↔ MeetsPattern lib arch p) (λ p. chain (back (all_listed Holds (pattern_rows lib p))) (pattern_says p)) lib.patterns))
      (back (all_listed (MeetsPattern lib arch) lib.patterns)))

  -- a requirement's row asks for its sink
  sink_says : (r : Requirement) → IsSomeAnd (slice_get lib.components r.sink.0) (λ row. row.role ≡ Sink) → Holds (member_row lib (plus r.sink.0 ∷ []) (pos 1)) ↔ IsTrue (has arch.comps r.sink.0)
  sink_says r sink =
      let some = is_there (slice_get lib.components r.sink.0) sink in
      let low = slice_get_within lib.components r.sink.0 some.0 some.1 in
      let short : r.sink.0 < member_count lib = omega arith in
      let at = at_component lib arch x vector r.sink.0 low in (
        (λ holds. sym at ∙ one_to (x r.sink.0) (holds_to (member_count lib) (plus r.sink.0 ∷ []) (pos 1) x (short, tt) holds)),
        (λ on. holds_from (member_count lib) (plus r.sink.0 ∷ []) (pos 1) x (short, tt) (one_from (x r.sink.0) (at ∙ on))),
      )

  sinks_say_of : (rs : List Requirement) → AllByRecursion (λ r. IsSomeAnd (slice_get lib.components r.sink.0) (λ row. row.role ≡ Sink)) rs
      → AllByRecursion (λ r. Holds (member_row lib (plus r.sink.0 ∷ []) (pos 1)) ↔ IsTrue (has arch.comps r.sink.0)) rs
  sinks_say_of [] sinks = tt
  sinks_say_of (r ∷ rs) sinks = (sink_says r sinks.0, sinks_say_of rs sinks.1)

  sinks_say : AllByRecursion Holds (requirement_rows lib) ↔ All (λ r. IsTrue (has arch.comps r.sink.0)) lib.requirements
  sinks_say =
      chain (all_map Holds (λ (r : Requirement). member_row lib (plus r.sink.0 ∷ []) (pos 1)) lib.requirements)
      (chain (all_same (λ r. Holds (member_row lib (plus r.sink.0 ∷ []) (pos 1))) (λ r. IsTrue (has arch.comps r.sink.0)) lib.requirements
      (sinks_say_of lib.requirements ((all_listed (λ (r : Requirement). IsSomeAnd (slice_get lib.components r.sink.0) (λ row. row.role ≡ Sink)) lib.requirements).0 right.sinks)))
      (back (all_listed (λ (r : Requirement). IsTrue (has arch.comps r.sink.0)) lib.requirements)))

-- the rows in their three parts
parts : (lib : LibraryParts) (P : RowParts → Type 0) → All P (base_rows_of lib) ↔ (All P (edge_rows lib) × (AllByRecursion P (requirement_rows lib) × AllByRecursion P (flat_map (pattern_rows lib) lib.patterns)))
unfolding base_rows_of
parts lib P =
    chain (all_listed P (base_rows_of lib))
    (chain (all_append P (edge_rows lib) (requirement_rows lib ++ flat_map (pattern_rows lib) lib.patterns))
    (pair (back (all_listed P (edge_rows lib))) (all_append P (requirement_rows lib) (flat_map (pattern_rows lib) lib.patterns))))

pub decides : (lib : LibraryParts) → IsLibrary lib → DecidePatterns lib (base_rows_of lib)
decides lib right = record {
  few = few_base_rows lib right;
  variables = base_rows_below lib;
  exact = λ x. (
    (λ all.
        let split = (parts lib (λ row. RowHolds row x)).0 all in
        let some = (edge_rows_say lib x right).0 split.0 in (
          some.0,
          some.1,
          record {
            meets = record { architecture = some.2; patterns = (patterns_say lib right some.0 some.2 x some.1).0 split.1.1 };
            sinks = (sinks_say lib right some.0 some.2 x some.1).0 split.1.0;
          },
        )),
    (λ some. (parts lib (λ row. RowHolds row x)).1 (
      (edge_rows_say lib x right).1 (some.0, some.1, some.2.meets.architecture),
      ((sinks_say lib right some.0 some.2.meets.architecture x some.1).1 some.2.sinks, (patterns_say lib right some.0 some.2.meets.architecture x some.1).1 some.2.meets.patterns),
    )),
  );
}
