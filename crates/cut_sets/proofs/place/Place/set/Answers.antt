use Rattle.std.proofs.Common.{◌∙◌, ap, sym, map, List, get_or}
use Rattle.arch_model.specs.declared.sets.VarId.{VarId}
use Rattle.arch_model.specs.Set.{has}
use Rattle.arch_model.specs.Member.{is_in}
use Rattle.arch_model.proofs.SetLaws.{has-empty}
use Rattle.arch_model.proofs.ProductLaws.{no_member}
use Rattle.cut_sets.specs.Inner.Upcoming.{PlaceParts}
use Rattle.paths.proofs.Loops.{get_in, put_next}
use Rattle.cut_sets.proofs.place.Place.set.Goals as goal

pub loop-v-init : goal.loop-v-init
loop-v-init c d = ap (λ s. has s d) c.new-members.ensures ∙ has-empty d

pub put-requires : goal.put-requires
put-requires c =
    let v = (get_or c.as_slice-v-items.result.now c.loop-v.v-index no_member).0 in
    c.requires v
    (ap (λ (p : PlaceParts). is_in p.chosen v) (sym c.self.view_is) ∙ ap (λ (l : List VarId). is_in (map (λ m. m.0) l) v) (sym c.as_slice-v-items.ensures)
    ∙ get_in c.as_slice-v-items.result.now c.loop-v.v-index no_member c.loop-v-test.true)

pub loop-v-preserved : goal.loop-v-preserved
loop-v-preserved c d = put_next c.as_slice-v-items.result.now c.loop-v.v-index no_member c.loop-v.members c.put.new.self c.loop-v-test.true c.put.ensures d (c.loop-v.invariant d)
