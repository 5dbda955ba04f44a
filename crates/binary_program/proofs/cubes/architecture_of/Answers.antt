use Rattle.binary_program.proofs.CubeLaws.{read_off_sets, cubed_off_sets, only_cube}
use Rattle.binary_program.proofs.cubes.architecture_of.Goals as goal

pub returns-clause-architecture : goal.returns-clause-architecture
returns-clause-architecture c =
    read_off_sets c.args.lib.now c.args.cube.now.ones c.ones-ones.result c.components_among.result c.edges_among.result c.components.result.now c.edges.result.now c.new.result c.components.ensures.library c.requires.ends
    c.ones-ones.ensures.ones c.components.ensures.rows c.edges.ensures.rows c.new.ensures c.components_among.ensures c.edges_among.ensures

pub returns-clause-only : goal.returns-clause-only
returns-clause-only c =
    only_cube c.args.lib.now c.new.result c.args.cube.now c.ones-ones.ensures.cube
    (cubed_off_sets c.args.lib.now c.args.cube.now c.ones-ones.result c.components_among.result c.edges_among.result c.components.result.now c.edges.result.now c.new.result c.requires.full
    c.ones-ones.ensures.ones c.components.ensures.rows c.edges.ensures.rows c.new.ensures c.components_among.ensures c.edges_among.ensures)
