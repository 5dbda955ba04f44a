use Rattle.std.proofs.Common.{◌≡◌, map, drop, length, sym, ap, subst, ◌∙◌}
use Rattle.std.proofs.lemmas.List.{length-map}
use Rattle.search_core.specs.State.{all_open}
use Rattle.search_core.specs.Inner.Nodes.{NodesParts, map_of, Ascend, opened}
use Rattle.search_core.proofs.LiveLists.{opened_ascends, opened_opens, front_only}
use Rattle.search_core.proofs.nodes.Nodes.open_all.Goals as goal

pub invariant_of-self : goal.invariant_of-self
invariant_of-self c =
    let all : c.open_each.new.live ≡ map opened c.self.inside.live.items = c.open_each.ensures ∙ ap (map opened) c.deref_mut.ensures.value in
    let long : length c.open_each.new.live ≡ c.self.inside.live.len = ap length c.open_each.ensures ∙ length-map c.deref_mut.result.now opened ∙ c.deref_mut.ensures.len in
    subst Ascend (sym (front_only c.open_each.new.live (drop (length c.open_each.new.live) c.self.inside.live.items) c.self.inside.live.len long ∙ all)) (opened_ascends c.self.inside.live.items c.self.invariant)

pub returns-clause-nodes : goal.returns-clause-nodes
returns-clause-nodes c =
    let all : c.open_each.new.live ≡ map opened c.self.inside.live.items = c.open_each.ensures ∙ ap (map opened) c.deref_mut.ensures.value in
    let long : length c.open_each.new.live ≡ c.self.inside.live.len = ap length c.open_each.ensures ∙ length-map c.deref_mut.result.now opened ∙ c.deref_mut.ensures.len in
    ap map_of (front_only c.open_each.new.live (drop (length c.open_each.new.live) c.self.inside.live.items) c.self.inside.live.len long ∙ all) ∙ opened_opens c.self.inside.live.items c.self.invariant
    ∙ ap (λ (p : NodesParts). all_open p.nodes) c.self.view_is
