use Rattle.std.proofs.Common.{ℕ, ◌<◌, IsTrue, get_or}
use Rattle.arch_model.specs.declared.library.Requirement.{Requirement}
use Rattle.arch_model.specs.Set.{has}
use Rattle.archex_app.proofs.tests_of_cuts.has_sinks.Given as goal

abbrev pub invariant-loop-r : goal.invariant-loop-r
invariant-loop-r l = (k : ℕ) (d : Requirement) → k < l.r-index → IsTrue (has l.comps (get_or l.requirements k d).sink.0)
