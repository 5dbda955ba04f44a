use Rattle.std.proofs.Common.{◌<◌, sym, ap, subst, ◌∙◌}
use Rattle.std.specs.FinMap.{insert}
use Rattle.search_core.specs.Node.{EachNode}
use Rattle.search_core.specs.Inner.Nodes.{NodesParts, node_of, map_of, Ascend}
use Rattle.search_core.proofs.LiveLists.{push_ascends, push_inserts}
use Rattle.search_core.proofs.nodes.Nodes.push.Goals as goal

pub invariant_of-self : goal.invariant_of-self
invariant_of-self c =
    let P : NodesParts → Type 0 = λ p. EachNode (λ j node. j < c.args.number) p.nodes in
    subst Ascend (sym c.push_reserved.ensures.items) (push_ascends c.self.inside.live.items c.self.invariant c.args.number c.args.state (subst P (sym c.self.view_is) c.requires.last))

pub returns-clause-nodes : goal.returns-clause-nodes
returns-clause-nodes c =
    let P : NodesParts → Type 0 = λ p. EachNode (λ j node. j < c.args.number) p.nodes in
    ap map_of c.push_reserved.ensures.items ∙ push_inserts c.self.inside.live.items c.self.invariant c.args.number c.args.state (subst P (sym c.self.view_is) c.requires.last)
    ∙ ap (λ (p : NodesParts). insert p.nodes c.args.number (node_of c.args.state)) c.self.view_is
