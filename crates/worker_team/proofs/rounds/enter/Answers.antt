use Rattle.std.proofs.Common.{subst}
use Rattle.branch_worker.specs.Outcome.{IsOutcome}
use Rattle.node_pool.specs.Tickets.{known_for}
use Rattle.worker_team.proofs.RoundLaws.{by_entry}
use Rattle.worker_team.proofs.rounds.enter.Goals as goal

pub split_or_park-requires-clause-branch : goal.split_or_park-requires-clause-branch
split_or_park-requires-clause-branch c = subst (IsOutcome (known_for c.args.pool.now c.args.ticket) c.args.ticket.cube) c.in-Branch.is c.requires.outcome

pub prune-requires-clause-prune : goal.prune-requires-clause-prune
prune-requires-clause-prune c = subst (IsOutcome (known_for c.args.pool.now c.args.ticket) c.args.ticket.cube) c.in-Prune.is c.requires.outcome

pub offer-requires-clause-offer : goal.offer-requires-clause-offer
offer-requires-clause-offer c = let told = subst (IsOutcome (known_for c.args.pool.now c.args.ticket) c.args.ticket.cube) c.in-Offer.is c.requires.outcome in told.0

pub returns-in-Prune : goal.returns-in-Prune
returns-in-Prune c = by_entry c.args.pool.now c.prune.new.self _ c.prune.ensures

pub returns-in-Offer : goal.returns-in-Offer
returns-in-Offer c = by_entry c.args.pool.now c.offer.new.self _ c.offer.ensures
