use Rattle.outside.proofs.SureLaws.{placed, written_at, written_nowhere, told-written, others-written}
use Rattle.outside.proofs.sure_shelf.SureShelf.write_to.Goals as goal

pub returns-in-Some-clause-after : goal.returns-in-Some-clause-after
returns-in-Some-clause-after c = written_at _ _ _ _ _ _ (placed _ _ _ _ _ c.in-Some.ensures c.deref.ensures.value c.self.view_is) c.self.view_is c.index_mut.ensures.value c.forget.ensures

pub returns-in-Some-clause-untold : goal.returns-in-Some-clause-untold
returns-in-Some-clause-untold c = told-written c.args.self.now _ c.args.name.now (returns-in-Some-clause-after c)

pub returns-in-Some-clause-others_stay : goal.returns-in-Some-clause-others_stay
returns-in-Some-clause-others_stay c = others-written c.args.self.now _ c.args.name.now (returns-in-Some-clause-after c)

pub returns-in_default-clause-after : goal.returns-in_default-clause-after
returns-in_default-clause-after c = written_nowhere c.args.self.now c.args.name.now (placed _ _ _ _ _ c.in_default.ensures c.deref.ensures.value c.self.view_is)

pub returns-in_default-clause-untold : goal.returns-in_default-clause-untold
returns-in_default-clause-untold c = told-written c.args.self.now _ c.args.name.now (returns-in_default-clause-after c)
