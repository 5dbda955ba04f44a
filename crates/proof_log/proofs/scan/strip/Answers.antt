use Rattle.proof_log.proofs.Scanning.{strip_is}
use Rattle.proof_log.proofs.scan.strip.Goals as goal

pub returns : goal.returns
returns c = strip_is c.args.word.now c.args.bytes.now c.strip_prefix.result c.strip_prefix.ensures.cases
