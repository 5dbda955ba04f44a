-- What contracts see of a search's state as the code has it.
use Rattle.std.specs.Prelude.{◌≡◌, ℕ, length, Some}
use Rattle.std.specs.FinMap.{get}
use Rattle.arch_model.specs.Parts.{ArchitectureParts}
use Rattle.rows.specs.Parts.{CubeParts, ProblemParts}
use Rattle.search_core.specs.Node.{Node, IsCandidateCube}
use Rattle.search_core.specs.Candidate.{candidate_in}
use Rattle.search_core.specs.State.{SearchState}
use Rattle.search_core.specs.Step.{IsStudied}
use Rattle.search_core.specs.History.{IsReached}

-- a state of a search; how many components and edges the template has; and for how many entries there is room
pub record StateParts : Type 0 where
  pub search : SearchState
  pub components : ℕ
  pub edges : ℕ
  pub spare : ℕ

-- a state is one of a problem: some legal history of it leads there, and the template's numbers are the problem's
pub record IsStateOf (problem : ProblemParts) (state : StateParts) : Type 0 where
  pub reached : IsReached problem state.search
  pub components : state.components ≡ length problem.library.components
  pub edges : state.edges ≡ length problem.library.edges

-- a node is pending or under study, and this is its candidate
pub record HasCandidateAt (state : StateParts) (number : ℕ) (arch : ArchitectureParts) : Type 0 where
  pub node : Node
  pub live : get state.search.nodes number ≡ Some node
  pub cube : CubeParts
  pub whose : IsCandidateCube node cube
  pub candidate : arch ≡ candidate_in state.components state.edges cube

-- a number is that of no node that is pending or under study
abbrev pub NoCandidateAt : StateParts → ℕ → Type 0
NoCandidateAt state number = (node : Node) (cube : CubeParts) → get state.search.nodes number ≡ Some node → IsCandidateCube node cube → ⊥

-- a worker studies a node, and this is its candidate
pub record HasStudied (state : StateParts) (worker number : ℕ) (arch : ArchitectureParts) : Type 0 where
  pub study : IsStudied state.search worker number
  pub candidate : arch ≡ candidate_in state.components state.edges study.cube
