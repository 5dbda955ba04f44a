use Rattle.std.proofs.Common.{◌≡◌, List, map, None, sym, ap, subst, ◌∙◌}
use Rattle.std.proofs.lemmas.List.{get_or_default}
use Rattle.std.specs.Ordering.{nat_cmp}
use Rattle.std.specs.FinMap.{get}
use Rattle.std.specs.FinMap.Entries.{find}
use Rattle.search_core.specs.declared.nodes.Live.{Live}
use Rattle.search_core.specs.Inner.Nodes.{NodesParts, node_of, entry_of, IsPlace, IsFound, blank_live}
use Rattle.search_core.proofs.LiveLists.{found_there, get_absent}
use Rattle.search_core.proofs.nodes.Nodes.find.Goals as goal

pub returns-in-Ok-clause-some : goal.returns-in-Ok-clause-some
returns-in-Ok-clause-some c =
    let place : IsPlace c.self.inside.live.items c.args.number c.in-Ok.i = let P : List Live → Type 0 = λ l. IsPlace l c.args.number c.in-Ok.i in subst P c.deref.ensures.value c.in-Ok.ensures.found in
    let read = c.index.ensures ∙ get_or_default c.self.inside.live.items c.in-Ok.i c.index.result.now blank_live place.within in
    let P : NodesParts → Type 0 = λ p. IsFound p.nodes c.args.number (record { number = c.args.number; place = c.in-Ok.i }) (node_of c.index.result.now.state) in
    subst P c.self.view_is (found_there c.self.inside.live.items c.self.invariant c.args.number c.in-Ok.i c.index.result.now place read)

pub returns-in-Err-clause-none : goal.returns-in-Err-clause-none
returns-in-Err-clause-none c =
    let none : find nat_cmp c.args.number (map entry_of c.self.inside.live.items) ≡ None = ap (λ (l : List Live). find nat_cmp c.args.number (map entry_of l)) (sym c.deref.ensures.value) ∙ c.in-Err.ensures.absent in
    sym (ap (λ (p : NodesParts). get p.nodes c.args.number) c.self.view_is) ∙ get_absent c.self.inside.live.items c.self.invariant c.args.number none
