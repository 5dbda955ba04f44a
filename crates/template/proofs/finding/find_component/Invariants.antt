use Rattle.std.proofs.Common.{ℕ, ◌≢◌, ◌<◌}
use Rattle.template.specs.Names.{component_name}
use Rattle.template.proofs.finding.find_component.Given as goal

abbrev pub invariant-loop-c : goal.invariant-loop-c
invariant-loop-c l = (k : ℕ) → k < l.c → component_name l.lib k ≢ l.name
