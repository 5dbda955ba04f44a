use Rattle.std.proofs.Common.{sym, ap, subst, ◌∙◌, arith}
use Rattle.std.specs.FinMap.{remove}
use Rattle.search_core.specs.Inner.Nodes.{NodesParts, map_of, Ascend, IsPlace, IsSpot}
use Rattle.search_core.proofs.LiveLists.{place_there, remove_ascends, remove_removes}
use Rattle.search_core.proofs.nodes.Nodes.remove.Goals as goal

pub remove-requires : goal.remove-requires
remove-requires c =
    let place : IsPlace c.self.inside.live.items c.args.spot.number c.args.spot.place = place_there c.self.inside.live.items c.self.invariant c.args.spot (let P : NodesParts → Type 0 = λ p. IsSpot p.nodes c.args.spot in subst P (sym c.self.view_is) c.requires) in
    omega (arith, place.within)

pub invariant_of-self : goal.invariant_of-self
invariant_of-self c =
    let place : IsPlace c.self.inside.live.items c.args.spot.number c.args.spot.place = place_there c.self.inside.live.items c.self.invariant c.args.spot (let P : NodesParts → Type 0 = λ p. IsSpot p.nodes c.args.spot in subst P (sym c.self.view_is) c.requires) in
    subst Ascend (sym c.remove.ensures.items) (remove_ascends c.self.inside.live.items c.self.invariant c.args.spot.number c.args.spot.place place)

pub returns-clause-nodes : goal.returns-clause-nodes
returns-clause-nodes c =
    let place : IsPlace c.self.inside.live.items c.args.spot.number c.args.spot.place = place_there c.self.inside.live.items c.self.invariant c.args.spot (let P : NodesParts → Type 0 = λ p. IsSpot p.nodes c.args.spot in subst P (sym c.self.view_is) c.requires) in
    ap map_of c.remove.ensures.items ∙ remove_removes c.self.inside.live.items c.self.invariant c.args.spot.number c.args.spot.place place ∙ ap (λ (p : NodesParts). remove p.nodes c.args.spot.number) c.self.view_is
