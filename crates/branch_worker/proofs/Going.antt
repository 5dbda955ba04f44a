-- What closing a cube says of how the search goes on there.
use Rattle.std.proofs.Common.{◌≡◌, ℤ, ◌<ℤ◌, int_lt, true, false, List, Option, Some, None, refl, sym, subst, ◌∙◌, arith}
use Rattle.std.specs.Prelude.{IfSome, is_some}
use Rattle.std.proofs.lemmas.Int.{ints}
use Rattle.rows.specs.declared.known.RowRef.{RowRef}
use Rattle.rows.specs.declared.known.Pair.{Pair}
use Rattle.rows.specs.Parts.{RowParts, CubeParts, KnownParts}
use Rattle.rows.specs.Cube.{IsFull}
use Rattle.rows.specs.Activity.{greatest_activity, IsRefuted}
use Rattle.rows.specs.Known.{variables, row_at, IsKnown, IsQuiet}
use Rattle.rows.specs.Problem.{IsProblem}
use Rattle.rows.specs.Trace.{cube_after}
use Rattle.rows.specs.Reason.{is_together}
use Rattle.rows.specs.Outcome.{MayPrune}
use Rattle.rows.proofs.QuietRows.{base_stands}
use Rattle.rows.proofs.OneRow.{taken_once, refuted_once, there_once}
use Rattle.propagate.specs.declared.closed.Closed.{Closed}
use Rattle.propagate.specs.declared.closed.Closed.TheVariants.{Refuted}
use Rattle.propagate.specs.Closed.{Closes}
use Rattle.branch_worker.specs.declared.outcome.Outcome.TheVariants.{Offer}
use Rattle.branch_worker.specs.Outcome.{IsOutcome, LeadsToQuiet}

tested : (g l : ℤ) → g <ℤ l → int_lt g l ≡ true
tested g l h = grind (arith, ints)

-- a row that is known and refuted
by_row : (known : KnownParts) (r : RowRef) (cube : CubeParts) (o : Option RowParts) → row_at known r ≡ o → IsProblem known.problem → IsKnown known → is_some o ≡ true → IfSome o (λ row. IsRefuted row cube) → is_together known (taken_once r) cube ≡ true
by_row known r cube (Some row) at problem ok there refuted = refuted_once known r row cube problem ok at ∙ tested (greatest_activity row cube) row.least refuted
by_row known r cube None at problem ok there refuted = absurd (let e : false ≡ true = there in cc)

pub dropped_for_row : (known : KnownParts) (given cube : CubeParts) (trace : List RowRef) (r : RowRef) (closed : Closed) (reason : List Pair) → closed ≡ Refuted cube trace r → Closes known given closed → IsProblem known.problem → IsKnown known → reason ≡ taken_once r
    → MayPrune known given trace reason
dropped_for_row known given cube trace r closed reason is closes problem ok once =
    let told = subst (Closes known given) is closes in
    subst (MayPrune known given trace) (sym once)
    (record {
      after = cube;
      leads = told.trace;
      there = there_once known r told.answer.0;
      refuted = by_row known r cube (row_at known r) refl problem ok told.answer.0 told.answer.1;
    })

-- a trace leads to one cube
same_after : (known : KnownParts) (given cube other : CubeParts) (trace : List RowRef) → cube_after known given trace ≡ Some cube → cube_after known given trace ≡ Some other → cube ≡ other
same_after known given cube other trace e f = let both : Some cube ≡ Some other = sym e ∙ f in cc

-- a quiet cube to which a trace leads
module _ (known : KnownParts) (given cube : CubeParts) (trace : List RowRef) (leads : cube_after known given trace ≡ Some cube) (quiet : IsQuiet known cube) where
  quiet_after : LeadsToQuiet known given trace
  quiet_after other at = subst (IsQuiet known) (same_after known given cube other trace leads at) quiet

  pub offered : IsFull (variables known) cube → IsOutcome known given (Offer trace)
  offered full = (record { after = cube; leads = leads; full = full; stands = base_stands known cube quiet }, quiet_after)
