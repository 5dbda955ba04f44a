-- The seat is the worker's still, the cuts are over the problem's variables, and what is brought was found by them.
use Rattle.std.proofs.Common.{◌≡◌}
use Rattle.worker_team.specs.Inner.Turns.{AreCutsOf, IsBrought}
use Rattle.worker_team.specs.Inner.Seats.{IsSeatFor, IsBack}
use Rattle.worker_team.proofs.worker.work.Given as goal

abbrev pub invariant-loop : goal.invariant-loop
invariant-loop g l =
    (goal.iterator-loop g).can_next l.iterator' × (goal.iterator-loop g).is_finite l.iterator' × (l.seat.gate ≡ l.gate) × IsSeatFor l.problem l.seat.view × IsBack l.fn.seat.view l.seat.view × AreCutsOf l.problem l.cuts.cuts × IsBrought l.problem l.cuts.cuts l.brought
