use Rattle.outside.proofs.KeptLaws.{told-after_append, rose-after_append, counts-after_append, reads-after_append, stay-after_append, alone-after_append, appended-after_append}
use Rattle.outside.proofs.mem_shelf.MemShelfShelf.append.Goals as goal

pub returns-clause-added : goal.returns-clause-added
returns-clause-added c = appended-after_append c.try_append.result c.args.self.now c.try_append.new.self c.args.name.now c.args.piece.now c.try_append.ensures.answers c.try_append.ensures.whole c.try_append.ensures.after

pub returns-clause-failed : goal.returns-clause-failed
returns-clause-failed c = rose-after_append c.try_append.result c.args.self.now c.try_append.new.self c.args.name.now c.args.piece.now c.try_append.ensures.answers c.try_append.ensures.after

pub returns-clause-told_stays : goal.returns-clause-told_stays
returns-clause-told_stays c = told-after_append c.args.self.now c.try_append.new.self c.args.name.now c.args.piece.now c.try_append.ensures.after

pub returns-clause-writes_never_fall : goal.returns-clause-writes_never_fall
returns-clause-writes_never_fall c = λ other. (counts-after_append c.args.self.now c.try_append.new.self c.args.name.now c.args.piece.now c.try_append.ensures.after other).1

pub returns-clause-reads_stay : goal.returns-clause-reads_stay
returns-clause-reads_stay c = reads-after_append c.args.self.now c.try_append.new.self c.args.name.now c.args.piece.now c.try_append.ensures.after

pub returns-clause-writes_stay : goal.returns-clause-writes_stay
returns-clause-writes_stay c = stay-after_append c.try_append.result c.args.self.now c.try_append.new.self c.args.name.now c.args.piece.now c.try_append.ensures.answers c.try_append.ensures.after

pub returns-clause-writes_alone : goal.returns-clause-writes_alone
returns-clause-writes_alone c = alone-after_append c.args.self.now c.try_append.new.self c.args.name.now c.args.piece.now c.try_append.ensures.after
