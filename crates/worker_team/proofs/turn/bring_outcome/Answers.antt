use Rattle.worker_team.proofs.TurnLaws.{outcome_fits}
use Rattle.worker_team.proofs.turn.bring_outcome.Goals as goal

pub enter-requires-clause-outcome : goal.enter-requires-clause-outcome
enter-requires-clause-outcome c = outcome_fits c.args.pool.now c.args.ticket c.args.cuts.now.cuts c.args.outcome (c.still_fits.ensures c.if-not-still_fits.false) c.requires.outcome
