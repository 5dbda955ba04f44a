use Rattle.outside.proofs.SureLaws.{put_in, told-put, others-put}
use Rattle.outside.proofs.sure_shelf.SureShelf.put.Goals as goal

pub returns-clause-put : goal.returns-clause-put
returns-clause-put c = put_in _ _ _ _ _ _ c.self.view_is c.in_ok-push.ensures.items c.in_ok-file.ensures

pub returns-clause-told : goal.returns-clause-told
returns-clause-told c = told-put c.args.self.now _ c.args.name.now c.args.bytes.now c.requires (returns-clause-put c)

pub returns-clause-others_stay : goal.returns-clause-others_stay
returns-clause-others_stay c = others-put c.args.self.now _ c.args.name.now c.args.bytes.now (returns-clause-put c)
