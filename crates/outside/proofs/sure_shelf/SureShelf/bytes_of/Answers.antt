use Rattle.std.proofs.Common.{refl}
use Rattle.outside.proofs.SureLaws.{placed, read_at_place, read_nowhere}
use Rattle.outside.proofs.sure_shelf.SureShelf.bytes_of.Goals as goal

pub returns-in-Some : goal.returns-in-Some
returns-in-Some c = read_at_place _ _ _ _ _ _ (placed _ _ _ _ _ c.in-Some.ensures c.deref.ensures.value c.self.view_is) c.self.view_is c.index.ensures c.bytes.ensures

pub returns-in-None : goal.returns-in-None
returns-in-None c = read_nowhere c.args.self.now c.args.name.now _ (placed _ _ _ _ _ c.in-None.ensures c.deref.ensures.value c.self.view_is) refl
