use Rattle.arch_model.specs.Member.{member_count}
use Rattle.rows.specs.BaseRows.{cost_terms}
use Rattle.rows.specs.Known.{parts_of}
use Rattle.rows.specs.Row.{Ascends}
use Rattle.rows.proofs.Ascending.{cut_ascends, collected_ascend}
use Rattle.rows.proofs.KnownRows.{of_cut_row, of_cost_row}
use Rattle.rows.proofs.by_name.forced_by.Goals as goal

pub returns-in-Cut-clause-ascends : goal.returns-in-Cut-clause-ascends
returns-in-Cut-clause-ascends c = of_cut_row Ascends (parts_of c.args.known.now) c.args.r c.in-Cut.j c.get.result c.in-Cut.is c.get.ensures (cut_ascends c.get.result)

pub returns-in-Cost-clause-ascends : goal.returns-in-Cost-clause-ascends
returns-in-Cost-clause-ascends c =
    let lib = (parts_of c.args.known.now).problem.library in
    of_cost_row Ascends (parts_of c.args.known.now) c.args.r c.in-Cost.is (λ u. collected_ascend (member_count lib) (cost_terms lib))
