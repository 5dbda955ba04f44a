use Rattle.paths.proofs.LinkLaws.{links_of_all}
use Rattle.fail_mass.proofs.network.Network.above.Goals as goal

pub ancestors_over-requires-clause-links : goal.ancestors_over-requires-clause-links
ancestors_over-requires-clause-links c = links_of_all c.args.self.now.lib.now c.args.self.now.arch.now c.args.self.now.links c.args.failed.now c.requires.network.links (c.are_components.ensures.0 c.if-are_components.true)
