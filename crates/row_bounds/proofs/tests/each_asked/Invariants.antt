use Rattle.std.specs.List.{All}
use Rattle.arch_model.specs.Member.{member_count}
use Rattle.rows.specs.Known.{IsCutBelow}
use Rattle.row_bounds.proofs.tests.each_asked.Given as goal

abbrev pub invariant-loop-v : goal.invariant-loop-v
invariant-loop-v g l = All (IsCutBelow (member_count l.problem.library)) l.cuts.cuts
