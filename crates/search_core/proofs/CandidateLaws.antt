-- The candidate of a node in a state that a legal history leads to.
use Rattle.std.proofs.Common.{◌≡◌, ℕ, Some, refl, sym, subst, ◌∙◌}
use Rattle.std.specs.FinMap.{get}
use Rattle.arch_model.specs.Parts.{ArchitectureParts}
use Rattle.arch_model.specs.Library.{IsLibrary}
use Rattle.arch_model.specs.Member.{member_count}
use Rattle.rows.specs.Parts.{CubeParts, ProblemParts}
use Rattle.rows.specs.Cube.{IsCubeBelow}
use Rattle.rows.specs.Problem.{IsProblem, IsCandidate}
use Rattle.search_core.specs.Node.{Node, Open, Held, Pending, Studied, Parked, IsCandidateCube}
use Rattle.search_core.specs.State.{SearchState}
use Rattle.search_core.specs.Candidate.{candidate_of}
use Rattle.search_core.specs.History.{IsReached}
use Rattle.search_core.specs.Invariant.{MeetsBaseRows}
use Rattle.search_core.specs.Parts.{StateParts, IsStateOf, HasCandidateAt, HasStudied}
use Rattle.search_core.proofs.CutRows.{right_cuts}
use Rattle.search_core.proofs.Kept.{IsKept}
use Rattle.search_core.proofs.Runs.{reached_is_kept}
use Rattle.search_core.proofs.Candidates.{candidate_is}
use Rattle.search_core.proofs.Entering.{candidate_is_of}

module _ (problem : ProblemParts) (right : IsLibrary problem.library) (is : IsProblem problem) where
  abbrev IsMet : CubeParts → Type 0
  IsMet cube = MeetsBaseRows problem cube × IsCubeBelow (member_count problem.library) cube

  met_there : (state : SearchState) (number : ℕ) (node : Node) (cube : CubeParts) → IsKept problem state → get state.nodes number ≡ Some node → IsCandidateCube node cube → IsMet cube
  met_there state number (Open c) cube kept at e = absurd e
  met_there state number (Held c worker cuts bound) cube kept at e = absurd e
  met_there state number (Pending c) cube kept at e = let same : c ≡ cube = e in subst IsMet same (kept.holds.candidates_meet_rows number (Pending c) at, (kept.over.cubes number (Pending c) at).1)
  met_there state number (Studied c worker) cube kept at e =
      let same : c ≡ cube = e in subst IsMet same (kept.holds.candidates_meet_rows number (Studied c worker) at, (kept.over.cubes number (Studied c worker) at).1)
  met_there state number (Parked c) cube kept at e = absurd e

  pub candidate_there : (state : SearchState) (number : ℕ) (node : Node) (cube : CubeParts) → IsReached problem state → get state.nodes number ≡ Some node → IsCandidateCube node cube → IsCandidate problem.library (candidate_of problem.library cube)
  candidate_there state number node cube reached at whose =
      let met = met_there state number node cube (reached_is_kept problem right is (right_cuts problem.library right) state reached) at whose in
      candidate_is problem cube right is met.0 met.1

  told : (state : StateParts) (cube : CubeParts) (arch : ArchitectureParts) → IsStateOf problem state → arch ≡ candidate_of problem.library cube → IsCandidate problem.library (candidate_of problem.library cube) → IsCandidate problem.library arch
  told state cube arch of same can = let P : ArchitectureParts → Type 0 = IsCandidate problem.library in subst P (sym same) can

  pub candidate_told : (state : StateParts) (number : ℕ) (arch : ArchitectureParts) → IsStateOf problem state → HasCandidateAt state number arch → IsCandidate problem.library arch
  candidate_told state number arch of h =
      told state h.cube arch of (h.candidate ∙ candidate_is_of problem state h.cube of) (candidate_there state.search number h.node h.cube of.reached h.live h.whose)

  pub candidate_studied : (state : StateParts) (worker number : ℕ) (arch : ArchitectureParts) → IsStateOf problem state → HasStudied state worker number arch → IsCandidate problem.library arch
  candidate_studied state worker number arch of h =
      let s = h.study in
      told state s.cube arch of (h.candidate ∙ candidate_is_of problem state s.cube of) (candidate_there state.search number (Studied s.cube worker) s.cube of.reached s.studied refl)
