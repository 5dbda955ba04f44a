use Rattle.worker_team.proofs.RoundLaws.{with_room, one_on, held_with_room, outcome_with_room}
use Rattle.worker_team.proofs.rounds.search_node.Goals as goal

pub enter-requires-clause-held : goal.enter-requires-clause-held
enter-requires-clause-held c = held_with_room c.args.pool.now c.reserve.new.self c.reserve.ensures.stays c.args.ticket c.requires

pub enter-requires-clause-outcome : goal.enter-requires-clause-outcome
enter-requires-clause-outcome c = outcome_with_room c.args.pool.now c.reserve.new.self c.reserve.ensures.stays c.args.ticket c.in_ok-outcome.outcome c.in_ok-outcome.ensures

pub returns : goal.returns
returns c = with_room 1 c.reserve.new.self.spare c.args.pool.now c.reserve.new.self c.enter.new.pool c.reserve.ensures.stays (one_on c.reserve.new.self c.enter.new.pool c.enter.ensures)
