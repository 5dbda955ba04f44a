-- For the code's own contracts: what judging finds out by itself.
use Rattle.std.specs.Prelude.{◌≡◌, ℕ, ◌≤◌, List, slice_get, slice_index, Option, Some, None, if◌then◌else◌}
use Rattle.std.specs.List.{list_all}
use Rattle.arch_model.specs.declared.library.Requirement.{Requirement}
use Rattle.rows.specs.declared.known.Pair.{Pair}
use Rattle.rows.specs.declared.known.RowRef.{RowRef}
use Rattle.rows.specs.Parts.{CubeParts, KnownParts, ProblemParts}
use Rattle.rows.specs.Known.{has_row}
use Rattle.rows.specs.Reason.{is_together}
use Rattle.redundancy_cut.specs.declared.cut.Cut.{Cut}
use Rattle.redundancy_cut.specs.declared.cut.Cut.TheVariants.{Redundancy, NoGood}
use Rattle.search_core.specs.declared.tracing.Traced.{Traced}
use Rattle.search_core.specs.declared.studying.Study.{Study}
use Rattle.search_core.specs.Node.{Studied}
use Rattle.search_core.specs.Candidate.{candidate_in}
use Rattle.search_core.specs.Parts.{StateParts}
use Rattle.search_core.specs.State.{SearchState}
use Rattle.search_core.specs.Step.{IsTraced}
use Rattle.search_core.specs.Inner.Nodes.{IsSpotOf, IsFound}
use Rattle.search_core.specs.declared.rule.Rule.{Rule}
use Rattle.search_core.specs.declared.rule.Rule.TheVariants as rule

-- the rule of a reason that is broken first where a trace has led to a cube: Row where a row isn't known, Reason where the combination isn't refuted
abbrev pub reason_rule : KnownParts → List Pair → CubeParts → Option Rule
reason_rule known pairs cube = if list_all (λ p. has_row known p.row) pairs then (if is_together known pairs cube then None else Some rule.Reason) else Some rule.Row

-- each weight of a list is at most the bound of the requirement at its place, in units of 10^-18
abbrev pub AreWithin : List Requirement → List ℕ → Type 0
AreWithin requirements weights = (k : ℕ) (r : Requirement) → slice_get requirements k ≡ Some r → slice_index weights k ≤ r.bound

-- the number of a cut's requirement
abbrev pub requirement_of : Cut → ℕ
requirement_of (Redundancy q set far) = q
requirement_of (NoGood q cone) = q

-- a trace of a node that the worker holds leads to where the code says, by what it says is known there
pub record IsTracedTo (problem : ProblemParts) (state : SearchState) (worker n : ℕ) (trace : List RowRef) (found : Traced) : Type 0 where
  pub traced : IsTraced problem state worker n trace
  pub at : IsSpotOf state.nodes n found.spot
  pub after : traced.after ≡ found.after
  pub cuts : traced.cuts ≡ found.cuts
  pub bound : traced.bound ≡ found.bound

-- a candidate that a worker studies is what the code says, and so is its node
pub record IsStudyAt (state : StateParts) (worker n : ℕ) (study : Study) : Type 0 where
  pub found : IsFound state.search.nodes n study.spot (Studied study.cube worker)
  pub candidate : study.candidate ≡ candidate_in state.components state.edges study.cube
