use Rattle.paths.proofs.LinkLaws.{links_of_all}
use Rattle.fail_mass.proofs.network.Network.reached.Goals as goal

pub reach_over-requires-clause-links : goal.reach_over-requires-clause-links
reach_over-requires-clause-links c = links_of_all c.args.self.now.lib.now c.args.self.now.arch.now c.args.self.now.links c.args.failed.now c.requires.links (c.are_components.ensures.0 c.if-are_components.true)
