use Rattle.std.proofs.Common.{subst}
use Rattle.worker_team.specs.Inner.Rounds.{IsVerdict}
use Rattle.worker_team.proofs.RoundLaws.{by_entry}
use Rattle.worker_team.proofs.rounds.enter_verdict.Goals as goal

pub accept-requires-clause-admissible : goal.accept-requires-clause-admissible
accept-requires-clause-admissible c = subst (IsVerdict c.args.pool.now.problem.library c.args.ticket.candidate) c.in-Meets.is c.requires.verdict

pub publish-requires-clause-cut : goal.publish-requires-clause-cut
publish-requires-clause-cut c = subst (IsVerdict c.args.pool.now.problem.library c.args.ticket.candidate) c.in-Breaks.is c.requires.verdict

pub returns-in-Meets : goal.returns-in-Meets
returns-in-Meets c = by_entry c.args.pool.now c.accept.new.self _ c.accept.ensures

pub returns-in-Breaks : goal.returns-in-Breaks
returns-in-Breaks c = by_entry c.args.pool.now c.publish.new.self _ c.publish.ensures
