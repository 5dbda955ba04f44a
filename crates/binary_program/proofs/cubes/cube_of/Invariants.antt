use Rattle.binary_program.proofs.CubeLaws.{IsCubeUpTo}
use Rattle.binary_program.proofs.cubes.cube_of.Given as goal

abbrev pub invariant-loop-i : goal.invariant-loop-i
invariant-loop-i l = IsCubeUpTo l.lib l.arch l.i l.cube
