-- For the tests: a cube that was closed with nothing free may be offered.
use Rattle.std.proofs.Common.{◌≡◌, List, subst}
use Rattle.rows.specs.declared.known.RowRef.{RowRef}
use Rattle.rows.specs.Parts.{CubeParts, KnownParts}
use Rattle.rows.specs.Outcome.{MayOffer}
use Rattle.rows.proofs.QuietRows.{base_stands}
use Rattle.propagate.specs.declared.closed.Closed.{Closed}
use Rattle.propagate.specs.declared.closed.Closed.TheVariants.{Full}
use Rattle.propagate.specs.Closed.{Closes}

pub full_may_offer : (known : KnownParts) (given cube : CubeParts) (trace : List RowRef) (closed : Closed) → Closes known given closed → closed ≡ Full cube trace → MayOffer known given trace
full_may_offer known given cube trace closed closes is =
    let told = subst (Closes known given) is closes in
    record { after = cube; leads = told.trace; full = told.answer.1; stands = base_stands known cube told.answer.0 }
