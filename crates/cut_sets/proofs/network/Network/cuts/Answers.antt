use Rattle.std.proofs.Common.{◌∙◌, ap, sym, not, subst}
use Rattle.arch_model.specs.Set.{Set, has}
use Rattle.arch_model.specs.Architecture.{IsArchitecture}
use Rattle.arch_model.specs.Path.{parts}
use Rattle.cut_sets.specs.Inner.Upcoming.{NetworkParts}
use Rattle.cut_sets.proofs.Spent.{uncut_path}
use Rattle.cut_sets.proofs.network.Network.cuts.Goals as goal

pub returns : goal.returns
returns c =
    let net = c.args.self.now in
    let fits = subst (λ (net : NetworkParts). IsArchitecture net.lib net.arch) c.self.view_is c.self.invariant.network.fits in
    ap not (c.has.ensures.member ∙ ap (λ (net : NetworkParts). has c.reached-reached.result net.sink) c.self.view_is)
    ∙ sym (uncut_path net.lib net.arch fits net.sink (has c.args.failed.now) (has c.reached-reached.result net.sink) (c.reached-reached.ensures net.sink))
