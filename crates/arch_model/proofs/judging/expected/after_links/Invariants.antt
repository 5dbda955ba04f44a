use Rattle.std.proofs.Common.{◌≡◌, ◌++◌, take}
use Rattle.arch_model.specs.Template.{edges_of}
use Rattle.arch_model.proofs.judging.expected.after_links.Given as goal

abbrev pub invariant-loop-link : goal.invariant-loop-link
invariant-loop-link l = l.fn.list ≡ edges_of l.components (take l.link-index l.links) ++ l.rest
