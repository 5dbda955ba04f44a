use Rattle.std.proofs.Common.{ap}
use Rattle.outside.specs.declared.counts.Counts.{Counts}
use Rattle.outside.proofs.KeptLaws.{told-after_put, others-after_put, counts-after_put}
use Rattle.outside.proofs.KeptSteps.{put_in}
use Rattle.outside.proofs.mem_shelf.MemShelf.put.Goals as goal

pub returns-clause-put : goal.returns-clause-put
returns-clause-put c = put_in _ _ _ _ _ _ _ _ _ c.self.view_is c.in_ok-push.ensures.items c.in_ok-file.ensures

pub returns-clause-told : goal.returns-clause-told
returns-clause-told c = told-after_put c.args.self.now _ c.args.name.now c.args.bytes.now c.requires (returns-clause-put c)

pub returns-clause-others_stay : goal.returns-clause-others_stay
returns-clause-others_stay c = others-after_put c.args.self.now _ c.args.name.now c.args.bytes.now (returns-clause-put c)

pub returns-clause-reads_stay : goal.returns-clause-reads_stay
returns-clause-reads_stay c = λ other. ap (λ (n : Counts). n.reads) (counts-after_put c.args.self.now _ c.args.name.now c.args.bytes.now c.requires (returns-clause-put c) other)

pub returns-clause-writes_stay : goal.returns-clause-writes_stay
returns-clause-writes_stay c = λ other. ap (λ (n : Counts). n.writes) (counts-after_put c.args.self.now _ c.args.name.now c.args.bytes.now c.requires (returns-clause-put c) other)
