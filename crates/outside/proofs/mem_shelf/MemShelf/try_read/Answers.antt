use Rattle.std.proofs.Common.{false, arith}
use Rattle.outside.specs.Counts.{after_failed_read}
use Rattle.outside.proofs.KeptSteps.{placed, passes_at, passes_nowhere, read_through, fault_in, fault_out, held_up, read_finds}
use Rattle.outside.proofs.mem_shelf.MemShelf.try_read.Goals as goal

pub returns-in-Some-clause-found : goal.returns-in-Some-clause-found
returns-in-Some-clause-found c =
    read_finds _ _ _ _ _ _ c.index.result.now _ _ c.args.into.now _ c.bytes.result.now _ c.self.view_is (placed _ _ _ _ c.in-Some.ensures c.deref.ensures.value) c.index.ensures c.bytes.ensures c.copy_from.ensures.count c.copy_from.ensures.copied (omega arith)

pub returns-in-Some-clause-answers : goal.returns-in-Some-clause-answers
returns-in-Some-clause-answers c =
    passes_at _ _ _ _ _ _ c.index.result.now _ _ _ c.self.view_is (placed _ _ _ _ c.in-Some.ensures c.deref.ensures.value) c.pass-passes.ensures.passes c.if-passes.true

pub returns-in-Some-clause-after : goal.returns-in-Some-clause-after
returns-in-Some-clause-after c =
    read_through _ _ _ _ _ _ _ c.self.view_is c.pass-passes.ensures.after (returns-in-Some-clause-answers c)

pub returns-in-Some-2-clause-after : goal.returns-in-Some-2-clause-after
returns-in-Some-2-clause-after c =
    held_up _ _ _ _ (passes_at _ _ _ _ _ _ c.index_mut.result.now false _ _ c.self.view_is (placed _ _ _ _ c.in-Some.ensures c.deref.ensures.value) c.pass-passes.ensures.passes c.if-passes.false) (fault_in after_failed_read _ _ _ _ _ _ _ _ _ _ c.self.view_is (placed _ _ _ _ c.in-Some.ensures c.deref.ensures.value) c.index_mut.ensures.value c.raise_reads.ensures c.pass-passes.ensures.after)

pub returns-in-None-clause-answers : goal.returns-in-None-clause-answers
returns-in-None-clause-answers c = passes_nowhere _ _ _ _ _ _ c.self.view_is (placed _ _ _ _ c.in-None.ensures c.deref.ensures.value)

pub returns-in-None-clause-after : goal.returns-in-None-clause-after
returns-in-None-clause-after c =
    held_up _ _ _ _ (returns-in-None-clause-answers c) (fault_out after_failed_read _ _ _ _ _ _ _ _ c.self.view_is (placed _ _ _ _ c.in-None.ensures c.deref.ensures.value) c.raise_reads-in-None.ensures c.pass-passes.ensures.after)
