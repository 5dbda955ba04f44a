use Rattle.std.proofs.Common.{◌≡◌, Some}
use Rattle.rows.specs.Activity.{IsQuietAt}
use Rattle.rows.specs.Known.{parts_of}
use Rattle.rows.specs.Inner.Room.{after_times}
use Rattle.rows.proofs.KnownRows.{of_bound_row}
use Rattle.rows.proofs.by_name.fix_by.Goals as goal

pub returns-in-Cost-clause-steps : goal.returns-in-Cost-clause-steps
returns-in-Cost-clause-steps c =
    of_bound_row (λ row. after_times row c.args.cube.now c.fix_by_cost.result ≡ Some c.fix_by_cost.new.cube) (parts_of c.args.known.now) c.args.r c.library.result.now c.unwrap.result c.in-Cost.is c.library.ensures.library c.unwrap.ensures
    c.fix_by_cost.ensures.steps

pub returns-in-Cost-clause-quiet : goal.returns-in-Cost-clause-quiet
returns-in-Cost-clause-quiet c =
    of_bound_row (IsQuietAt c.fix_by_cost.new.cube) (parts_of c.args.known.now) c.args.r c.library.result.now c.unwrap.result c.in-Cost.is c.library.ensures.library c.unwrap.ensures c.fix_by_cost.ensures.quiet
