use Rattle.std.proofs.Common.{false, []}
use Rattle.outside.specs.Counts.{after_failed_write}
use Rattle.outside.specs.Inner.Kept.{with_bytes}
use Rattle.outside.proofs.KeptSteps.{placed, passes_at, passes_nowhere, changed_in, fault_in, fault_out, gone_through, held_up}
use Rattle.outside.proofs.mem_shelf.MemShelf.try_fresh.Goals as goal

pub returns-in-Some-clause-answers : goal.returns-in-Some-clause-answers
returns-in-Some-clause-answers c =
    passes_at _ _ _ _ _ _ c.index_mut.result.now _ _ _ c.self.view_is (placed _ _ _ _ c.in-Some.ensures c.deref.ensures.value) c.pass-passes.ensures.passes c.if-passes.true

pub returns-in-Some-clause-after : goal.returns-in-Some-clause-after
returns-in-Some-clause-after c =
    gone_through _ _ _ _ (returns-in-Some-clause-answers c) (changed_in (with_bytes []) _ _ _ _ _ _ _ _ _ _ c.self.view_is (placed _ _ _ _ c.in-Some.ensures c.deref.ensures.value) c.index_mut.ensures.value c.clear.ensures c.pass-passes.ensures.after)

pub returns-in-Some-2-clause-after : goal.returns-in-Some-2-clause-after
returns-in-Some-2-clause-after c =
    held_up _ _ _ _ (passes_at _ _ _ _ _ _ c.index_mut-in-Some-2.result.now false _ _ c.self.view_is (placed _ _ _ _ c.in-Some.ensures c.deref.ensures.value) c.pass-passes.ensures.passes c.if-passes.false) (fault_in after_failed_write _ _ _ _ _ _ _ _ _ _ c.self.view_is (placed _ _ _ _ c.in-Some.ensures c.deref.ensures.value) c.index_mut-in-Some-2.ensures.value c.raise_writes.ensures c.pass-passes.ensures.after)

pub returns-in-None-clause-answers : goal.returns-in-None-clause-answers
returns-in-None-clause-answers c = passes_nowhere _ _ _ _ _ _ c.self.view_is (placed _ _ _ _ c.in-None.ensures c.deref.ensures.value)

pub returns-in-None-clause-after : goal.returns-in-None-clause-after
returns-in-None-clause-after c =
    held_up _ _ _ _ (returns-in-None-clause-answers c) (fault_out after_failed_write _ _ _ _ _ _ _ _ c.self.view_is (placed _ _ _ _ c.in-None.ensures c.deref.ensures.value) c.raise_writes-in-None.ensures c.pass-passes.ensures.after)
