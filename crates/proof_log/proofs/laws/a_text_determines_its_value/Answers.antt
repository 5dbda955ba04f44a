use Rattle.proof_log.proofs.Spelling.{same_value}
use Rattle.proof_log.proofs.laws.a_text_determines_its_value.Goals as goal

pub returns : goal.returns
returns c = λ x y lx ly same. same_value x y lx.1 ly.1 lx.0 ly.0 same
