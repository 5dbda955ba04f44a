use Rattle.std.proofs.Common.{◌≡◌, ◌++◌}
use Rattle.arch_model.specs.Template.{instances_of_type}
use Rattle.arch_model.proofs.judging.expected.after_instances.Given as goal

abbrev pub invariant-loop-i : goal.invariant-loop-i
invariant-loop-i l = l.fn.list ≡ instances_of_type l.t (record l.row { max = l.i }) ++ l.rest
