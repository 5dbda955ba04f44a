use Rattle.generated.proofs.Whole.{generated_is_library, components_of_generated, edges_of_generated}
use Rattle.generated.proofs.laws.generated_libraries_are_within_limits.Goals as goal

pub returns : goal.returns
returns c = record { ranges = generated_is_library; components = components_of_generated; edges = edges_of_generated }
