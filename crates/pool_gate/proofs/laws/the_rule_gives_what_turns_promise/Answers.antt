use Rattle.pool_gate.proofs.RuleLaws.{finds_value, finds_even}
use Rattle.pool_gate.proofs.laws.the_rule_gives_what_turns_promise.Goals as goal

pub returns-clause-value : goal.returns-clause-value
returns-clause-value g c = finds_value g.V.Held.about g.V.Held.count

pub returns-clause-alone : goal.returns-clause-alone
returns-clause-alone g c = finds_even g.V.Held.about g.V.Held.count
