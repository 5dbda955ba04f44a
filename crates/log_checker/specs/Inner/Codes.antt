-- For the code's own contracts: how what contracts see of a checker is stored.
use Rattle.std.specs.Prelude.{◌≡◌, ℕ, zero, suc, Option, Some, None, refl}
use Rattle.std.specs.Coded.{Coded, code_by, coded×, coded_ℕ, coded_option}
use Rattle.rows.specs.Parts.{ProblemParts}
use Rattle.search_core.specs.declared.answer.Answer.{Answer}
use Rattle.search_core.specs.State.{SearchState}
use Rattle.search_core.specs.Inner.Codes.{state_code}
use Rattle.log_checker.specs.declared.checker.Stage.{Stage}
use Rattle.log_checker.specs.declared.checker.Stage.TheVariants as stage
use Rattle.log_checker.specs.Phase.{Phase, Begun, Versioned, Sized, Running, Closed, CheckerParts}

-- what is stored of a phase: how many header lines there were, and behind them the state and the answer
abbrev pub StoredPhase : Type 0
StoredPhase = ℕ × Option (SearchState × Option Answer)

-- a phase as it is stored, and back
abbrev pub stored_phase : Phase → StoredPhase
stored_phase Begun = (0, None)
stored_phase Versioned = (1, None)
stored_phase Sized = (2, None)
stored_phase (Running state) = (3, Some (state, None))
stored_phase (Closed state answer) = (3, Some (state, Some answer))

abbrev pub phase_behind : SearchState → Option Answer → Phase
phase_behind state None = Running state
phase_behind state (Some answer) = Closed state answer

abbrev pub phase_from : ℕ → Option (SearchState × Option Answer) → Phase
phase_from n (Some p) = phase_behind p.0 p.1
phase_from zero None = Begun
phase_from (suc zero) None = Versioned
phase_from (suc (suc n)) None = Sized

-- nothing is lost on the way
pub phase_from-stored : (phase : Phase) → phase_from (stored_phase phase).0 (stored_phase phase).1 ≡ phase
phase_from-stored Begun = refl
phase_from-stored Versioned = refl
phase_from-stored Sized = refl
phase_from-stored (Running state) = refl
phase_from-stored (Closed state answer) = refl

-- a phase is stored so
abbrev pub phase_code : Coded Answer → Coded Phase
phase_code answer = code_by StoredPhase (coded× coded_ℕ (coded_option (coded× state_code (coded_option answer)))) stored_phase (λ p. phase_from p.0 p.1) phase_from-stored

-- a checker is stored as its parts
abbrev pub checker_code : Coded ProblemParts → Coded Answer → Coded CheckerParts
checker_code problem answer =
    code_by (ProblemParts × (ℕ × Phase)) (coded× problem (coded× coded_ℕ (phase_code answer))) (λ c. (c.problem, (c.lines, c.phase)))
    (λ p. record { problem = p.0; lines = p.1.0; phase = p.1.1 }) (λ _. refl)

-- the phase of a stage, with the state that was reached
abbrev pub phase_of : Stage → SearchState → Phase
phase_of stage.Begun state = Begun
phase_of stage.Versioned state = Versioned
phase_of stage.Sized state = Sized
phase_of stage.Running state = Running state
phase_of (stage.Closed answer) state = Closed state answer
