use Rattle.pool_gate.proofs.RuleLaws.{gives_rule}
use Rattle.pool_gate.proofs.laws.the_rule_holds.Goals as goal

pub returns : goal.returns
returns g c = λ s r. gives_rule g.V.Held.about g.V.Held.count s r
