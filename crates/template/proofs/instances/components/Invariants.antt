use Rattle.std.proofs.Common.{◌≡◌, take}
use Rattle.arch_model.specs.Template.{components_of}
use Rattle.template.proofs.instances.components.Given as goal

abbrev pub invariant-loop-t : goal.invariant-loop-t
invariant-loop-t l = l.components.items ≡ components_of (take l.t l.types)
