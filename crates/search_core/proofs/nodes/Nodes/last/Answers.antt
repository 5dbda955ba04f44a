use Rattle.std.proofs.Common.{◌≡◌, false, IfSome, subst}
use Rattle.std.specs.Prelude.{IfNone}
use Rattle.search_core.specs.Node.{EachNode}
use Rattle.search_core.specs.Inner.Nodes.{NodesParts}
use Rattle.search_core.specs.Sought.{sought_by, IsLastSought}
use Rattle.search_core.proofs.LastLive.{last_for, none_for}
use Rattle.search_core.proofs.nodes.Nodes.last.Goals as goal

pub returns-clause-some : goal.returns-clause-some
returns-clause-some c =
    let P : NodesParts → Type 0 = λ p. IfSome c.last_live.result (IsLastSought (sought_by c.args.sought) p.nodes) in
    subst P c.self.view_is (last_for (sought_by c.args.sought) c.last_live.result c.self.inside.live.items c.deref.result.now c.self.invariant c.deref.ensures.value c.last_live.ensures.some)

pub returns-clause-none : goal.returns-clause-none
returns-clause-none c =
    let P : NodesParts → Type 0 = λ p. IfNone c.last_live.result (EachNode (λ i node. sought_by c.args.sought node ≡ false) p.nodes) in
    subst P c.self.view_is (none_for (sought_by c.args.sought) c.last_live.result c.self.inside.live.items c.deref.result.now c.self.invariant c.deref.ensures.value c.last_live.ensures.none)
