-- What a worker's job answers of a node's cube.
use Rattle.std.specs.Prelude.{◌≡◌, List, Some}
use Rattle.rows.specs.declared.known.RowRef.{RowRef}
use Rattle.rows.specs.Parts.{CubeParts, KnownParts}
use Rattle.rows.specs.Known.{IsQuiet}
use Rattle.rows.specs.Trace.{cube_after}
use Rattle.rows.specs.Outcome.{MayBranch, MayPrune, MayOffer}
use Rattle.branch_worker.specs.declared.outcome.Outcome.{Outcome}
use Rattle.branch_worker.specs.declared.outcome.Outcome.TheVariants.{Branch, Prune, Offer}

-- the cube that a trace reaches is quiet
abbrev pub LeadsToQuiet : KnownParts → CubeParts → List RowRef → Type 0
LeadsToQuiet known cube trace = (after : CubeParts) → cube_after known cube trace ≡ Some after → IsQuiet known after

-- an outcome may be entered for a cube: the pool takes it for what is known there; a candidate that is offered meets besides all that is known
abbrev pub IsOutcome : KnownParts → CubeParts → Outcome → Type 0
IsOutcome known cube (Branch trace var) = MayBranch known cube trace var.0
IsOutcome known cube (Prune trace reason) = MayPrune known cube trace reason
IsOutcome known cube (Offer trace) = MayOffer known cube trace × LeadsToQuiet known cube trace
