use Rattle.std.proofs.Common.{rules}
use Rattle.arch_model.specs.Architecture.{IsArchitecture}
use Rattle.binary_program.proofs.CubeLaws.{keeps_ends_of}
use Rattle.binary_program.proofs.tests.an_architecture_is_a_full_cube.Goals as goal

pub architecture_of-back-requires-clause-ends : goal.architecture_of-back-requires-clause-ends
architecture_of-back-requires-clause-ends g c =
    let fits : IsArchitecture c.in_ok-lib.lib c.one_way-arch.result = search rules in
    keeps_ends_of c.in_ok-lib.lib c.one_way-arch.result c.cube_of-cube.result c.components.ensures.library fits c.cube_of-cube.ensures.cube
