use Rattle.generated.proofs.Whole.{generated_text_is}
use Rattle.generated.proofs.laws.the_text_is_the_library.Goals as goal

pub returns : goal.returns
returns c = generated_text_is
