use Rattle.std.proofs.Common.{arith}
use Rattle.rows.specs.Known.{parts_of, known_rows}
use Rattle.rows.proofs.QuietRows.{quiet_past, loud_here, quiet_end}
use Rattle.rows.proofs.quiet_cubes.quiet.Goals as goal

pub returns-then-not-row_is_quiet : goal.returns-then-not-row_is_quiet
returns-then-not-row_is_quiet c =
    loud_here (parts_of c.args.known.now) c.args.cube.now c.row_name.result c.loop-k.k c.row_is_quiet.result c.row_name.ensures.row (omega arith) c.row_is_quiet.ensures c.if-not-row_is_quiet.true

pub loop-k-preserved : goal.loop-k-preserved
loop-k-preserved c =
    quiet_past (parts_of c.args.known.now) c.args.cube.now c.row_name.result c.loop-k.k c.row_is_quiet.result c.row_name.ensures.row (omega arith) c.row_is_quiet.ensures c.loop-k.invariant c.if-not-row_is_quiet.false

pub returns : goal.returns
returns c = quiet_end c.args.cube.now (known_rows (parts_of c.args.known.now)) c.loop-k.k (omega arith) c.loop-k.invariant
