use Rattle.outside.specs.Counts.{after_failed_write}
use Rattle.outside.specs.Inner.Kept.{with_piece}
use Rattle.outside.proofs.KeptSteps.{placed, both, first_fails, second_fails, appends_at, appends_nowhere, changed_in, fault_in, fault_out, gone_through, held_up}
use Rattle.outside.proofs.mem_shelf.MemShelf.try_append.Goals as goal
use Rattle.outside.proofs.mem_shelf.MemShelf.try_append.Goals.{then-passes+else-has_room, else-passes}

pub returns-in-Some-clause-answers : goal.returns-in-Some-clause-answers
returns-in-Some-clause-answers c =
    appends_at _ _ _ _ _ _ _ c.index.result.now _ _ c.self.view_is (placed _ _ _ _ c.in-Some.ensures c.deref.ensures.value) c.index.ensures (both _ _ _ _ c.pass-passes.ensures.passes c.has_room.ensures c.if-passes.true c.if-has_room.true)

pub returns-in-Some-clause-after : goal.returns-in-Some-clause-after
returns-in-Some-clause-after c =
    gone_through _ _ _ _ (returns-in-Some-clause-answers c) (changed_in (with_piece c.args.piece.now) _ _ _ _ _ _ _ _ _ _ c.self.view_is (placed _ _ _ _ c.in-Some.ensures c.deref.ensures.value) c.index_mut.ensures.value c.append.ensures c.pass-passes.ensures.after)

pub returns-in-Some-2-clause-answers : goal.returns-in-Some-2-clause-answers
returns-in-Some-2-clause-answers c =
    elim c.if-passes.branch [
      | then-passes+else-has_room w ↦ appends_at _ _ _ _ _ _ _ w.index.result.now _ _ c.self.view_is (placed _ _ _ _ c.in-Some.ensures c.deref.ensures.value) w.index.ensures (second_fails _ _ _ w.has_room.ensures w.if-has_room.false)
      | else-passes w ↦ appends_at _ _ _ _ _ _ _ c.index_mut-in-Some-2.result.now _ _ c.self.view_is (placed _ _ _ _ c.in-Some.ensures c.deref.ensures.value) c.index_mut-in-Some-2.ensures.value (first_fails _ _ _ c.pass-passes.ensures.passes w.if-passes.false)
    ]

pub returns-in-Some-2-clause-after : goal.returns-in-Some-2-clause-after
returns-in-Some-2-clause-after c =
    held_up _ _ _ _ (returns-in-Some-2-clause-answers c) (fault_in after_failed_write _ _ _ _ _ _ _ _ _ _ c.self.view_is (placed _ _ _ _ c.in-Some.ensures c.deref.ensures.value) c.index_mut-in-Some-2.ensures.value c.raise_writes.ensures c.pass-passes.ensures.after)

pub returns-in-None-clause-answers : goal.returns-in-None-clause-answers
returns-in-None-clause-answers c = appends_nowhere _ _ _ _ _ _ _ c.self.view_is (placed _ _ _ _ c.in-None.ensures c.deref.ensures.value)

pub returns-in-None-clause-after : goal.returns-in-None-clause-after
returns-in-None-clause-after c =
    held_up _ _ _ _ (returns-in-None-clause-answers c) (fault_out after_failed_write _ _ _ _ _ _ _ _ c.self.view_is (placed _ _ _ _ c.in-None.ensures c.deref.ensures.value) c.raise_writes-in-None.ensures c.pass-passes.ensures.after)
