use Rattle.std.proofs.Common.{List, ap, ◌∙◌}
use Rattle.std.specs.List.{list_all}
use Rattle.std.specs.FinMap.{values}
use Rattle.search_core.specs.declared.nodes.Live.{Live}
use Rattle.search_core.specs.Node.{is_parked}
use Rattle.search_core.specs.Inner.Nodes.{NodesParts, node_of}
use Rattle.search_core.proofs.LiveLists.{parked_values}
use Rattle.search_core.proofs.nodes.Nodes.is_at_rest.Goals as goal

pub returns : goal.returns
returns c =
    c.are_parked.ensures ∙ ap (λ (l : List Live). list_all (λ node. is_parked (node_of node.state)) l) c.deref.ensures.value ∙ parked_values c.self.inside.live.items c.self.invariant
    ∙ ap (λ (p : NodesParts). list_all is_parked (values p.nodes)) c.self.view_is
