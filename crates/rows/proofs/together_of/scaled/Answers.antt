use Rattle.rows.proofs.Combinations.{scaled_small}
use Rattle.rows.proofs.together_of.scaled.Goals as goal

pub returns-clause-small : goal.returns-clause-small
returns-clause-small c = scaled_small c.args.times c.args.a c.requires.times c.requires.small
