use Rattle.std.proofs.Common.{sym, ap, subst, ◌∙◌, arith}
use Rattle.std.specs.FinMap.{insert}
use Rattle.search_core.specs.Inner.Nodes.{NodesParts, node_of, IsPlace, IsSpot}
use Rattle.search_core.proofs.LiveLists.{place_there, set_ascends, set_inserts}
use Rattle.search_core.proofs.nodes.Nodes.set.Goals as goal

pub index_mut-requires : goal.index_mut-requires
index_mut-requires c =
    let place : IsPlace c.self.inside.live.items c.args.spot.number c.args.spot.place = place_there c.self.inside.live.items c.self.invariant c.args.spot (let P : NodesParts → Type 0 = λ p. IsSpot p.nodes c.args.spot in subst P (sym c.self.view_is) c.requires) in
    omega (arith, place.within)

pub invariant_of-self : goal.invariant_of-self
invariant_of-self c =
    let place : IsPlace c.self.inside.live.items c.args.spot.number c.args.spot.place = place_there c.self.inside.live.items c.self.invariant c.args.spot (let P : NodesParts → Type 0 = λ p. IsSpot p.nodes c.args.spot in subst P (sym c.self.view_is) c.requires) in
    set_ascends c.self.inside.live.items c.self.invariant c.args.spot.number c.args.spot.place c.args.state place

pub returns-clause-nodes : goal.returns-clause-nodes
returns-clause-nodes c =
    let place : IsPlace c.self.inside.live.items c.args.spot.number c.args.spot.place = place_there c.self.inside.live.items c.self.invariant c.args.spot (let P : NodesParts → Type 0 = λ p. IsSpot p.nodes c.args.spot in subst P (sym c.self.view_is) c.requires) in
    set_inserts c.self.inside.live.items c.self.invariant c.args.spot.number c.args.spot.place c.args.state place ∙ ap (λ (p : NodesParts). insert p.nodes c.args.spot.number (node_of c.args.state)) c.self.view_is
