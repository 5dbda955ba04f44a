use Rattle.outside.proofs.KeptLaws.{told-after_read, rose-after_read, counts-after_read, writes-after_read, stay-after_read, alone-after_read}
use Rattle.outside.proofs.mem_shelf.MemShelfShelf.read_at.Goals as goal

pub returns-clause-failed : goal.returns-clause-failed
returns-clause-failed c = rose-after_read c.try_read.result c.args.self.now c.try_read.new.self c.args.name.now c.try_read.ensures.answers c.try_read.ensures.after

pub returns-clause-told_stays : goal.returns-clause-told_stays
returns-clause-told_stays c = told-after_read c.args.self.now c.try_read.new.self c.args.name.now c.try_read.ensures.after

pub returns-clause-reads_never_fall : goal.returns-clause-reads_never_fall
returns-clause-reads_never_fall c = λ other. (counts-after_read c.args.self.now c.try_read.new.self c.args.name.now c.try_read.ensures.after other).0

pub returns-clause-writes_stay : goal.returns-clause-writes_stay
returns-clause-writes_stay c = writes-after_read c.args.self.now c.try_read.new.self c.args.name.now c.try_read.ensures.after

pub returns-clause-reads_stay : goal.returns-clause-reads_stay
returns-clause-reads_stay c = stay-after_read c.try_read.result c.args.self.now c.try_read.new.self c.args.name.now c.try_read.ensures.answers c.try_read.ensures.after

pub returns-clause-reads_alone : goal.returns-clause-reads_alone
returns-clause-reads_alone c = alone-after_read c.args.self.now c.try_read.new.self c.args.name.now c.try_read.ensures.after
