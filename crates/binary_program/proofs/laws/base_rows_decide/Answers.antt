use Rattle.binary_program.proofs.Deciding.{decides}
use Rattle.binary_program.proofs.laws.base_rows_decide.Goals as goal

pub returns : goal.returns
returns c = decides
