use Rattle.proof_log.proofs.ReadLine.{value_read, none_broken, first_broken, exact_read}
use Rattle.proof_log.proofs.reading.read_line.Goals as goal

pub returns-clause-value : goal.returns-clause-value
returns-clause-value c = value_read c.args.line.now c.read.result c.read.ensures

pub returns-clause-none_broken : goal.returns-clause-none_broken
returns-clause-none_broken c = none_broken c.args.line.now c.read.result c.read.ensures

pub returns-clause-fault : goal.returns-clause-fault
returns-clause-fault c = first_broken c.args.line.now c.read.result c.read.ensures

pub returns-clause-exact : goal.returns-clause-exact
returns-clause-exact c = λ x loggable parts short. exact_read c.args.line.now c.read.result c.read.ensures x loggable parts short
