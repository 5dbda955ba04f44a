use Rattle.std.specs.List.{All}
use Rattle.arch_model.specs.Member.{member_count}
use Rattle.rows.specs.Known.{IsCutBelow}
use Rattle.branch_worker.proofs.tests.pair_cuts.Given as goal

abbrev pub invariant-loop-pair : goal.invariant-loop-pair
invariant-loop-pair g l = All (IsCutBelow (member_count l.problem.library)) l.cuts.cuts
