use Rattle.std.proofs.Common.{length, ap, ◌∙◌}
use Rattle.std.specs.FinMap.{len}
use Rattle.search_core.specs.Inner.Nodes.{NodesParts}
use Rattle.search_core.proofs.LiveLists.{length_len}
use Rattle.search_core.proofs.nodes.Nodes.len.Goals as goal

pub returns : goal.returns
returns c = ap length c.as_slice.ensures.value ∙ length_len c.self.inside.live.items c.self.invariant ∙ ap (λ (p : NodesParts). len p.nodes) c.self.view_is
