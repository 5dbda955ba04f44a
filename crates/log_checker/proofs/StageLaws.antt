-- What a line does at the stage that a checker is at.
use Rattle.std.proofs.Common.{◌≡◌, ℕ, Result, Ok, Err, OnOk, refl, sym, ap, subst, ◌∙◌, inl, inr}
use Rattle.rows.specs.Parts.{ProblemParts}
use Rattle.search_core.specs.declared.entry.Entry.{Entry}
use Rattle.search_core.specs.declared.answer.Answer.{Answer}
use Rattle.search_core.specs.declared.stepping.StepError.{StepError}
use Rattle.search_core.specs.declared.stepping.StepError.TheVariants.{Bad}
use Rattle.search_core.specs.State.{SearchState}
use Rattle.search_core.specs.Step.{Step}
use Rattle.proof_log.specs.declared.log_line.LogLine.{LogLine}
use Rattle.proof_log.specs.declared.log_line.LogLine.TheVariants as lines
use Rattle.log_checker.specs.declared.checker.Stage.{Stage}
use Rattle.log_checker.specs.declared.checker.Stage.TheVariants as stage
use Rattle.log_checker.specs.Phase.{Phase, Closed, IsUnclosed}
use Rattle.log_checker.specs.Feeding.{IsAnswer, Enters, Closes}
use Rattle.log_checker.specs.Breaking.{IsNoHeader, IsInPlace, SaidBreaks}
use Rattle.log_checker.specs.Inner.Codes.{phase_of}
use Rattle.log_checker.specs.Inner.Refused.{SaidFails, place_rule}

-- the stage at which a line of this kind stands in its place
abbrev pub stage_of : LogLine → Stage
stage_of lines.Version = stage.Begun
stage_of (lines.Vars components edges) = stage.Versioned
stage_of (lines.Limit limit) = stage.Sized
stage_of (lines.Entry entry) = stage.Running
stage_of (lines.Closing answer branchings cuts) = stage.Running

runs : (said : LogLine) → IsNoHeader said → stage.Running ≡ stage_of said
runs lines.Version no_header = absurd no_header
runs (lines.Vars components edges) no_header = absurd no_header
runs (lines.Limit limit) no_header = absurd no_header
runs (lines.Entry entry) no_header = refl
runs (lines.Closing answer branchings cuts) no_header = refl

module _ (problem : ProblemParts) (state : SearchState) (said : LogLine) where
  stands_there : (at : Stage) → IsUnclosed (phase_of at state) → IsInPlace problem (phase_of at state) said → at ≡ stage_of said
  stands_there stage.Begun unclosed place = ap stage_of (sym place)
  stands_there stage.Versioned unclosed place = ap stage_of (sym place)
  stands_there stage.Sized unclosed place = ap stage_of (sym place.1)
  stands_there stage.Running unclosed place = runs said place
  stands_there (stage.Closed answer) unclosed place = absurd (unclosed answer refl)

  breaks_place : (at : Stage) → (at ≡ stage_of said → ⊥) → SaidBreaks problem (phase_of at state) said (place_rule at)
  breaks_place stage.Begun other = inr ((λ answer closed. closed), inl ((λ place. other (stands_there stage.Begun (λ answer closed. closed) place)), refl))
  breaks_place stage.Versioned other = inr ((λ answer closed. closed), inl ((λ place. other (stands_there stage.Versioned (λ answer closed. closed) place)), refl))
  breaks_place stage.Sized other = inr ((λ answer closed. closed), inl ((λ place. other (stands_there stage.Sized (λ answer closed. closed) place)), refl))
  breaks_place stage.Running other = inr ((λ answer closed. closed), inl ((λ place. other (stands_there stage.Running (λ answer closed. closed) place)), refl))
  breaks_place (stage.Closed answer) other = inl ((λ unclosed. unclosed answer refl), refl)

-- a line at another stage than its own is refused, with After behind the closing line, else with Header
pub misplaced : (problem : ProblemParts) (now : Phase) (at : Stage) (state : SearchState) (said : LogLine) (error : StepError) → phase_of at state ≡ now → error ≡ Bad (place_rule at) → (at ≡ stage_of said → ⊥) → SaidFails problem now said error
misplaced problem now at state said error is tells other =
    let P : Phase → Type 0 = λ phase. SaidBreaks problem phase said (place_rule at) in
    subst (SaidFails problem now said) (sym tells) (subst P is (breaks_place problem state said at other))

-- the closing line of the state's answer
pub closes_there : (now : Phase) (found : Stage) (state : SearchState) (answer : Answer) (branchings cuts : ℕ) → phase_of found state ≡ now → found ≡ stage.Running → IsAnswer state answer branchings cuts
    → Closes now answer branchings cuts (Closed state answer)
closes_there now found state answer branchings cuts is runs answers = record {
  state = state;
  before = sym is ∙ ap (λ s. phase_of s state) runs;
  answer = answers;
  after = refl;
}

enters_there : (problem held : ProblemParts) (now : Phase) (found : Stage) (state next : SearchState) (entry : Entry) → held ≡ problem → phase_of found state ≡ now → found ≡ stage.Running → Step held state entry next
    → Enters problem now entry (phase_of found next)
enters_there problem held now found state next entry its is runs step =
    let P : ProblemParts → Type 0 = λ p. Step p state entry next in
    record {
      state = state;
      next = next;
      before = sym is ∙ ap (λ s. phase_of s state) runs;
      step = subst P its step;
      after = ap (λ s. phase_of s next) runs;
    }

-- an entry that is a step from the state, unless it is refused
pub enters_where_ok : {A E : Type 0} (result : Result A E) (problem held : ProblemParts) (now : Phase) (found : Stage) (state next : SearchState) (entry : Entry) → held ≡ problem → phase_of found state ≡ now → found ≡ stage.Running
    → OnOk result (Step held state entry next) → OnOk result (Enters problem now entry (phase_of found next))
enters_where_ok (Ok x) problem held now found state next entry its is runs step = enters_there problem held now found state next entry its is runs step
enters_where_ok (Err e) problem held now found state next entry its is runs step = tt
