use Rattle.std.proofs.Common.{rules}
use Rattle.binary_program.specs.CubeOf.{IsCubeOf}
use Rattle.binary_program.proofs.CubeLaws.{cube_begins, cube_more, only_one}
use Rattle.binary_program.proofs.cubes.cube_of.Goals as goal

pub loop-i-init : goal.loop-i-init
loop-i-init c = cube_begins c.args.lib.now c.args.arch.now c.whole-cube.result c.whole-cube.ensures

pub loop-i-preserved : goal.loop-i-preserved
loop-i-preserved c = cube_more c.args.lib.now c.args.arch.now c.loop-i.i c.is_present.result c.loop-i.cube c.fix.new.self c.loop-i.invariant c.is_present.ensures c.fix.ensures.fixed

pub returns-clause-only : goal.returns-clause-only
returns-clause-only c other also too =
    let cubed : IsCubeOf c.args.lib.now c.args.arch.now c.loop-i.cube = search rules in
    only_one c.args.lib.now c.args.arch.now other c.loop-i.cube c.requires cubed also too
