use Rattle.outside.proofs.KeptLaws.{told-after_fresh, rose-after_fresh, counts-after_fresh, reads-after_fresh, stay-after_fresh, alone-after_fresh, emptied-after_fresh, left-after_fresh}
use Rattle.outside.proofs.mem_shelf.MemShelfShelf.fresh.Goals as goal

pub returns-clause-empty : goal.returns-clause-empty
returns-clause-empty c = emptied-after_fresh c.try_fresh.result c.args.self.now c.try_fresh.new.self c.args.name.now c.try_fresh.ensures.answers c.try_fresh.ensures.after

pub returns-clause-left : goal.returns-clause-left
returns-clause-left c = left-after_fresh c.try_fresh.result c.args.self.now c.try_fresh.new.self c.args.name.now c.try_fresh.ensures.answers c.try_fresh.ensures.after

pub returns-clause-failed : goal.returns-clause-failed
returns-clause-failed c = rose-after_fresh c.try_fresh.result c.args.self.now c.try_fresh.new.self c.args.name.now c.try_fresh.ensures.answers c.try_fresh.ensures.after

pub returns-clause-told_stays : goal.returns-clause-told_stays
returns-clause-told_stays c = told-after_fresh c.args.self.now c.try_fresh.new.self c.args.name.now c.try_fresh.ensures.after

pub returns-clause-writes_never_fall : goal.returns-clause-writes_never_fall
returns-clause-writes_never_fall c = λ other. (counts-after_fresh c.args.self.now c.try_fresh.new.self c.args.name.now c.try_fresh.ensures.after other).1

pub returns-clause-reads_stay : goal.returns-clause-reads_stay
returns-clause-reads_stay c = reads-after_fresh c.args.self.now c.try_fresh.new.self c.args.name.now c.try_fresh.ensures.after

pub returns-clause-writes_stay : goal.returns-clause-writes_stay
returns-clause-writes_stay c = stay-after_fresh c.try_fresh.result c.args.self.now c.try_fresh.new.self c.args.name.now c.try_fresh.ensures.answers c.try_fresh.ensures.after

pub returns-clause-writes_alone : goal.returns-clause-writes_alone
returns-clause-writes_alone c = alone-after_fresh c.args.self.now c.try_fresh.new.self c.args.name.now c.try_fresh.ensures.after
