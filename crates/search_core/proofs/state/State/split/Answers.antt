use Rattle.search_core.specs.Node.{Open}
use Rattle.search_core.proofs.Applying.{first_above, second_above}
use Rattle.search_core.proofs.state.State.split.Goals as goal

pub push-requires-clause-last : goal.push-requires-clause-last
push-requires-clause-last c = first_above _ c.args.self.now c.self.view_is c.requires.can.numbers c.args.spot.number c.remove.new.self.nodes c.remove.ensures.nodes

pub push-requires-2-clause-last : goal.push-requires-2-clause-last
push-requires-2-clause-last c =
    second_above _ c.args.self.now c.self.view_is c.requires.can.numbers c.args.spot.number c.remove.new.self.nodes c.remove.ensures.nodes c.push.new.self.nodes (Open c.fix.new.self) c.push.ensures.nodes
