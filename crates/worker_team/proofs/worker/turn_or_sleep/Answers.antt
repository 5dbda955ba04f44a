use Rattle.worker_team.proofs.SeatLaws.{still_seat}
use Rattle.worker_team.proofs.worker.turn_or_sleep.Goals as goal

pub take_turn-turned-requires-clause-seat : goal.take_turn-turned-requires-clause-seat
take_turn-turned-requires-clause-seat g c = still_seat c.args.problem.now c.args.seat.view c.take_turn-seat.result.seat.view c.requires.seat c.take_turn-seat.ensures.seat
