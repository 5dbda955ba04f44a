use Rattle.std.proofs.Common.{◌<◌, ◌≤◌, ap, length, arith}
use Rattle.rows.specs.Known.{parts_of}
use Rattle.row_bounds.proofs.AscentLaws.{base_more, base_end}
use Rattle.row_bounds.proofs.ascent.climb_base.Goals as goal

pub loop-i-preserved : goal.loop-i-preserved
loop-i-preserved c =
    let short : c.loop-i.i < length c.args.known.now.problem.now.base = omega (arith, ap length c.base.ensures.rows) in
    record {
      rising = c.look_at_base.ensures.rising;
      climbs =
          base_more (parts_of c.args.known.now) c.args.cube.now c.args.rising.now.pairs c.args.rising.now.residue c.loop-i.rising.pairs c.loop-i.rising.residue c.look_at_base.new.rising.pairs c.look_at_base.new.rising.residue c.loop-i.i short
          c.loop-i.invariant.climbs c.look_at_base.ensures.follows;
    }

pub returns-clause-follows : goal.returns-clause-follows
returns-clause-follows c =
    let far : length c.args.known.now.problem.now.base ≤ c.loop-i.i = omega (arith, ap length c.base.ensures.rows) in
    base_end (parts_of c.args.known.now) c.args.cube.now c.args.rising.now.pairs c.args.rising.now.residue c.loop-i.rising.pairs c.loop-i.rising.residue c.loop-i.i far c.loop-i.invariant.climbs
