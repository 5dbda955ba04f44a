use Rattle.worker_team.proofs.RoundLaws.{with_room, one_on, studied_with_room, verdict_with_room}
use Rattle.worker_team.proofs.rounds.study_candidate.Goals as goal

pub enter_verdict-requires-clause-studied : goal.enter_verdict-requires-clause-studied
enter_verdict-requires-clause-studied c = studied_with_room c.args.pool.now c.reserve.new.self c.reserve.ensures.stays c.args.ticket c.requires

pub enter_verdict-requires-clause-verdict : goal.enter_verdict-requires-clause-verdict
enter_verdict-requires-clause-verdict c = verdict_with_room c.args.pool.now c.reserve.new.self c.reserve.ensures.stays c.args.ticket.candidate c.verdict_on-verdict.result c.verdict_on-verdict.ensures

pub returns : goal.returns
returns c = with_room 1 c.reserve.new.self.spare c.args.pool.now c.reserve.new.self c.enter_verdict.new.pool c.reserve.ensures.stays (one_on c.reserve.new.self c.enter_verdict.new.pool c.enter_verdict.ensures)
