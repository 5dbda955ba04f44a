-- What the answers of a search say.
use Rattle.std.specs.Prelude.{◌≡◌, ℕ, ◌≤◌, Some}
use Rattle.std.specs.FinMap.{get}
use Rattle.arch_model.specs.Parts.{LibraryParts, ArchitectureParts}
use Rattle.arch_model.specs.Architecture.{cost_of}
use Rattle.arch_model.specs.Admissible.{IsAdmissible}
use Rattle.rows.specs.Parts.{CubeParts}
use Rattle.incumbent.specs.declared.best.Best.{Best}
use Rattle.search_core.specs.Node.{Parked}
use Rattle.search_core.specs.State.{SearchState}

-- a best of this cost is admissible, and no admissible architecture costs less, in cost units
pub record IsLeastBest (lib : LibraryParts) (least : ℕ) (best : Best) : Type 0 where
  pub admissible : IsAdmissible lib best.architecture
  pub named : best.cost ≡ least
  pub costs : cost_of lib best.architecture ≡ least
  pub none_less : (arch : ArchitectureParts) → IsAdmissible lib arch → least ≤ cost_of lib arch

-- no architecture is admissible
abbrev pub NoneAdmissible : LibraryParts → Type 0
NoneAdmissible lib = (arch : ArchitectureParts) → IsAdmissible lib arch → ⊥

-- branchings equal the limit, and something is parked
pub record IsAtLimit (state : SearchState) : Type 0 where
  pub spent : state.branchings ≡ state.limit
  pub number : ℕ
  pub cube : CubeParts
  pub parked : get state.nodes number ≡ Some (Parked cube)
