use Rattle.worker_team.proofs.RoundLaws.{by_entry, handed_back_holds, limit_still, then_parked}
use Rattle.worker_team.proofs.rounds.split_or_park.Goals as goal

pub returns-in_Ok-pool : goal.returns-in_Ok-pool
returns-in_Ok-pool c = by_entry c.args.pool.now c.branch-pool.new.self _ c.in_Ok-pool.ensures.ok

pub park-requires-clause-ticket : goal.park-requires-clause-ticket
park-requires-clause-ticket c = handed_back_holds c.args.pool.now c.branch-pool.new.self c.args.ticket c.in_Err-pool.at_limit c.in_Err-pool.ensures.at_limit c.in_Err-pool.ensures.err c.requires.held

pub park-requires-clause-limit : goal.park-requires-clause-limit
park-requires-clause-limit c = limit_still c.args.pool.now c.branch-pool.new.self c.args.ticket c.in_Err-pool.at_limit c.in_Err-pool.ensures.at_limit c.in_Err-pool.ensures.err

pub returns-in_Err-pool : goal.returns-in_Err-pool
returns-in_Err-pool c = then_parked c.args.pool.now c.branch-pool.new.self c.args.ticket c.in_Err-pool.at_limit c.in_Err-pool.ensures.at_limit c.in_Err-pool.ensures.err c.park.new.self _ c.park.ensures
