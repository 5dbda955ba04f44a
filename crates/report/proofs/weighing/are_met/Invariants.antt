use Rattle.std.proofs.Common.{◌≡◌, drop}
use Rattle.std.specs.List.{zip, list_all}
use Rattle.report.specs.Weighing.{is_met}
use Rattle.report.proofs.weighing.are_met.Given as goal

-- all are met where those to come are
abbrev pub invariant-loop-i : goal.invariant-loop-i
invariant-loop-i l =
    list_all (is_met l.arch) (zip (drop l.i l.lib.requirements) (drop l.i l.weights)) ≡ list_all (is_met l.arch) (zip l.lib.requirements l.weights)
