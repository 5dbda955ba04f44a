use Rattle.arch_model.proofs.Vectors.{keeps_ends, from_ends}
use Rattle.arch_model.proofs.laws.architectures_keep_ends.Goals as goal

pub returns-clause-members : goal.returns-clause-members
returns-clause-members c = keeps_ends

pub returns-clause-architecture : goal.returns-clause-architecture
returns-clause-architecture c = from_ends
