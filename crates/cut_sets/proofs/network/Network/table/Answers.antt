use Rattle.std.proofs.Common.{◌≡◌, ◌<◌, ℕ, Option, true, length, subst, sym}
use Rattle.std.specs.Option.{MatchOption}
use Rattle.arch_model.specs.Set.{has}
use Rattle.paths.specs.Links.{LinksParts, AreLinks}
use Rattle.paths.proofs.LinkLaws.{links_of_all}
use Rattle.cut_sets.specs.Inner.Upcoming.{NetworkParts}
use Rattle.cut_sets.proofs.network.Network.table.Goals as goal

pub returns-in-None : goal.returns-in-None
returns-in-None c =
    let net = c.args.self.now in
    let whole = subst (λ (o : Option LinksParts). MatchOption o ((v : ℕ) → has c.args.failed.now v ≡ true → v < length net.lib.components) (AreLinks net.lib net.arch (has c.args.failed.now))) c.in-None.is c.requires in
    subst (λ (net : NetworkParts). AreLinks net.lib net.arch (has c.args.failed.now) c.self.inside.links) c.self.view_is
    (links_of_all c.self.inside.lib.now c.self.inside.arch c.self.inside.links c.args.failed.now c.self.invariant.links
    (subst (λ (net : NetworkParts). (v : ℕ) → has c.args.failed.now v ≡ true → v < length net.lib.components) (sym c.self.view_is) whole))
