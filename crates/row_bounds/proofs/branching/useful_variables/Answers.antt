use Rattle.std.proofs.Common.{ap, length, arith}
use Rattle.rows.specs.Known.{parts_of}
use Rattle.row_bounds.proofs.AscentLaws.{has_base}
use Rattle.row_bounds.proofs.branching.useful_variables.Goals as goal

pub unmet-requires : goal.unmet-requires
unmet-requires c = has_base (parts_of c.args.known.now) c.loop-i.i (omega (arith, ap length c.base.ensures.rows))
