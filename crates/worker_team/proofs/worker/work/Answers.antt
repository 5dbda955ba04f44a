use Rattle.worker_team.proofs.TurnLaws.{none_learned}
use Rattle.worker_team.proofs.SeatLaws.{still_seat, back_twice, back_at_once}
use Rattle.worker_team.proofs.worker.work.Goals as goal

pub loop-init : goal.loop-init
loop-init g c = (
  tt,
  tt,
  c.requires.gate,
  c.requires.seat,
  back_at_once c.args.seat.view c.requires.seat.free,
  none_learned c.args.problem.now c.new-cuts.result.cuts c.new-cuts.ensures,
  tt,
)

pub loop-preserved : goal.loop-preserved
loop-preserved g c = let was = c.loop.invariant in let turned = c.turn_or_sleep-back.ensures in (
  tt,
  tt,
  turned.gate,
  still_seat c.args.problem.now c.loop.seat.view c.turn_or_sleep-back.result.seat.view was.3 turned.seat,
  back_twice c.args.seat.view c.loop.seat.view c.turn_or_sleep-back.result.seat.view was.4 turned.seat,
  turned.cuts,
  c.between-brought.ensures,
)
