use Rattle.std.proofs.Common.{◌≡◌, false}
use Rattle.pool_gate.proofs.tests.raise_often.Given as goal

abbrev pub invariant-loop : goal.invariant-loop
invariant-loop g l =
    (l.seat.gate ≡ l.gate) × (l.seat.view.in_turn ≡ false) × (l.seat.view.number ≡ l.fn.seat.view.number) × (l.seat.view.away ≡ l.fn.seat.view.away) × (l.seat.view.about ≡ l.fn.seat.view.about)
