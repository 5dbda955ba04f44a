use Rattle.worker_team.proofs.RoundLaws.{with_room, idle_with_room, handed_on, handed_in_hand}
use Rattle.worker_team.proofs.rounds.new_work.Goals as goal

pub take-requires-clause-worker : goal.take-requires-clause-worker
take-requires-clause-worker c = c.reserve.ensures.pool.team.some_workers

pub returns-clause-on : goal.returns-clause-on
returns-clause-on c = with_room 0 c.reserve.new.self.spare c.args.pool.now c.reserve.new.self c.take.new.self c.reserve.ensures.stays (handed_on c.reserve.new.self c.take.new.self 0 c.take.result c.take.ensures.work)

pub returns-clause-work : goal.returns-clause-work
returns-clause-work c =
    handed_in_hand c.reserve.new.self c.take.new.self 0 c.take.result c.reserve.ensures.pool (idle_with_room c.args.pool.now c.reserve.new.self c.reserve.ensures.stays c.requires) c.take.ensures.work
