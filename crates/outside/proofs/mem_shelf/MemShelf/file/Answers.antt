use Rattle.outside.proofs.KeptSteps.{placed, told_at, told_nowhere}
use Rattle.outside.proofs.mem_shelf.MemShelf.file.Goals as goal

pub returns-in_err-place : goal.returns-in_err-place
returns-in_err-place c = told_nowhere _ _ _ _ _ _ _ c.self.view_is (placed _ _ _ _ c.in_err-place.ensures c.deref.ensures.value) c.from_residual.ensures

pub returns : goal.returns
returns c = told_at _ _ _ _ _ _ c.index.result.now _ _ c.self.view_is (placed _ _ _ _ c.in_ok-place.ensures c.deref.ensures.value) c.index.ensures c.bytes.ensures
