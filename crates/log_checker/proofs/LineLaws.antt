-- A line leads on or breaks a rule: which, and to what, its bytes determine.
use Rattle.std.proofs.Common.{◌≡◌, ℕ, List, refl, sym, ap, subst, ◌∙◌, inl, inr}
use Rattle.rows.specs.Parts.{ProblemParts}
use Rattle.search_core.specs.declared.rule.Rule.{Rule}
use Rattle.search_core.specs.State.{SearchState}
use Rattle.search_core.specs.Step.{Step}
use Rattle.search_core.specs.Rules.{Breaks}
use Rattle.search_core.proofs.Determined.{step_is_determined}
use Rattle.search_core.proofs.NoStep.{no_step}
use Rattle.search_core.proofs.OneRule.{one_rule}
use Rattle.proof_log.specs.declared.log_line.LogLine.{LogLine}
use Rattle.proof_log.specs.declared.log_line.LogLine.TheVariants as lines
use Rattle.proof_log.specs.Value.{log_line}
use Rattle.proof_log.specs.Fault.{BreaksNone}
use Rattle.proof_log.proofs.Spelling.{same_value, lists_ascend}
use Rattle.proof_log.proofs.FirstFaults.{one_first, none_or_first}
use Rattle.log_checker.specs.Phase.{Phase, Begun, Versioned, Sized, Running, Closed}
use Rattle.log_checker.specs.Feeding.{SaysLine, Versions, Sizes, Limits, Enters, Closes, Leads, LineLeads}
use Rattle.log_checker.specs.Breaking.{rule_of, PlacedBreaks, StateBreaks, SaidBreaks, LineBreaks}

-- the bytes of a line say one thing
pub same_said : (bytes : List ℕ) (x y : LogLine) → SaysLine bytes x → SaysLine bytes y → x ≡ y
same_said bytes x y a b = same_value x y a.readable.0.1 b.readable.0.1 a.readable.0.0 b.readable.0.0 (sym a.text ∙ b.text)

-- a line that says something breaks no rule on its own
breaks_none : (bytes : List ℕ) (x : LogLine) → SaysLine bytes x → BreaksNone bytes
breaks_none bytes x says = subst BreaksNone (sym says.text) (says.readable.1, (log_line x, says.readable.0.0, lists_ascend x, refl))

pub same_running : {s t : SearchState} → Running s ≡ Running t → s ≡ t
same_running e = cc

-- what is said leads to one phase
leads_to_one : (problem : ProblemParts) (old a b : Phase) (said : LogLine) → Leads problem old said a → Leads problem old said b → a ≡ b
leads_to_one problem old a b lines.Version x y = let p : Versions old a = x in let q : Versions old b = y in p.after ∙ sym q.after
leads_to_one problem old a b (lines.Vars c e) x y = let p : Sizes problem old c e a = x in let q : Sizes problem old c e b = y in p.after ∙ sym q.after
leads_to_one problem old a b (lines.Limit limit) x y = let p : Limits old limit a = x in let q : Limits old limit b = y in p.after ∙ sym q.after
leads_to_one problem old a b (lines.Entry entry) x y =
    let p : Enters problem old entry a = x in
    let q : Enters problem old entry b = y in
    let same : p.state ≡ q.state = same_running (sym p.before ∙ q.before) in
    let P : SearchState → Type 0 = λ s. Step problem s entry p.next in
    p.after ∙ ap (λ s. Running s) (step_is_determined problem q.state p.next q.next entry (subst P same p.step) q.step) ∙ sym q.after
leads_to_one problem old a b (lines.Closing answer branchings cuts) x y =
    let p : Closes old answer branchings cuts a = x in
    let q : Closes old answer branchings cuts b = y in
    p.after ∙ ap (λ s. Closed s answer) (same_running (sym p.before ∙ q.before)) ∙ sym q.after

pub line_leads_to_one : (problem : ProblemParts) (old a b : Phase) (bytes : List ℕ) → LineLeads problem old bytes a → LineLeads problem old bytes b → a ≡ b
line_leads_to_one problem old a b bytes x y =
    let P : LogLine → Type 0 = λ said. Leads problem old said a in
    leads_to_one problem old a b y.said (subst P (same_said bytes x.said y.said x.says y.says) x.leads) y.leads

-- where what a rule asks holds, another one is broken first, or none
pub passes : {asking broken : Rule} {fact rest : Type 0} → fact → Breaks asking fact broken rest → rest
passes fact x = elim x [
  | inl p ↦ absurd (p.0 fact)
  | inr p ↦ p.1
]

pub agree : {asking a b : Rule} {fact first second : Type 0} → (first → second → a ≡ b) → Breaks asking fact a first → Breaks asking fact b second → a ≡ b
agree later x y = elim x [
  | inl p ↦ elim y [
    | inl q ↦ p.1 ∙ sym q.1
    | inr q ↦ absurd (p.0 q.0)
  ]
  | inr p ↦ elim y [
    | inl q ↦ absurd (q.0 p.0)
    | inr q ↦ later p.1 q.1
  ]
]

-- what leads on breaks nothing
leads_unbroken : (problem : ProblemParts) (old new : Phase) (said : LogLine) (first : Rule) → Leads problem old said new → SaidBreaks problem old said first → ⊥
leads_unbroken problem old new lines.Version first x breaks =
    let p : Versions old new = x in
    let P : Phase → Type 0 = λ phase. SaidBreaks problem phase lines.Version first in
    let b : SaidBreaks problem Begun lines.Version first = subst P p.before breaks in
    passes refl (passes (λ answer closed. closed) b)
leads_unbroken problem old new (lines.Vars c e) first x breaks =
    let p : Sizes problem old c e new = x in
    let P : Phase → Type 0 = λ phase. SaidBreaks problem phase (lines.Vars c e) first in
    let b : SaidBreaks problem Versioned (lines.Vars c e) first = subst P p.before breaks in
    passes (λ i. lines.Vars (p.components i) (p.edges i)) (passes (λ answer closed. closed) b)
leads_unbroken problem old new (lines.Limit limit) first x breaks =
    let p : Limits old limit new = x in
    let P : Phase → Type 0 = λ phase. SaidBreaks problem phase (lines.Limit limit) first in
    let b : SaidBreaks problem Sized (lines.Limit limit) first = subst P p.before breaks in
    passes (limit, refl, p.few) (passes (λ answer closed. closed) b)
leads_unbroken problem old new (lines.Entry entry) first x breaks =
    let p : Enters problem old entry new = x in
    let P : Phase → Type 0 = λ phase. SaidBreaks problem phase (lines.Entry entry) first in
    let b : SaidBreaks problem (Running p.state) (lines.Entry entry) first = subst P p.before breaks in
    no_step problem p.state p.next entry first (passes tt (passes (λ answer closed. closed) b)) p.step
leads_unbroken problem old new (lines.Closing answer branchings cuts) first x breaks =
    let p : Closes old answer branchings cuts new = x in
    let P : Phase → Type 0 = λ phase. SaidBreaks problem phase (lines.Closing answer branchings cuts) first in
    let b : SaidBreaks problem (Running p.state) (lines.Closing answer branchings cuts) first = subst P p.before breaks in
    passes p.answer (passes tt (passes (λ answer closed. closed) b))

pub line_leads_unbroken : (problem : ProblemParts) (old new : Phase) (bytes : List ℕ) (first : Rule) → LineLeads problem old bytes new → LineBreaks problem old bytes first → ⊥
line_leads_unbroken problem old new bytes first x breaks = elim breaks [
  | inl alone ↦ none_or_first bytes alone.fault (breaks_none bytes x.said x.says) alone.first
  | inr there ↦
      let P : LogLine → Type 0 = λ said. Leads problem old said new in
      leads_unbroken problem old new there.said first (subst P (same_said bytes x.said there.said x.says there.says) x.leads) there.first
]

-- one rule at most is the first that is broken
state_agrees : (problem : ProblemParts) (state : SearchState) (said : LogLine) (a b : Rule) → StateBreaks problem state said a → StateBreaks problem state said b → a ≡ b
state_agrees problem state lines.Version a b x y = absurd x
state_agrees problem state (lines.Vars c e) a b x y = absurd x
state_agrees problem state (lines.Limit limit) a b x y = absurd x
state_agrees problem state (lines.Entry entry) a b x y = one_rule problem state entry a b x y
state_agrees problem state (lines.Closing answer branchings cuts) a b x y = agree (λ p q. absurd p) x y

placed_agrees : (problem : ProblemParts) (phase : Phase) (said : LogLine) (a b : Rule) → PlacedBreaks problem phase said a → PlacedBreaks problem phase said b → a ≡ b
placed_agrees problem Begun said a b x y = absurd x
placed_agrees problem Versioned said a b x y = absurd x
placed_agrees problem Sized said a b x y = absurd x
placed_agrees problem (Running state) said a b x y = state_agrees problem state said a b x y
placed_agrees problem (Closed state answer) said a b x y = absurd x

said_agrees : (problem : ProblemParts) (phase : Phase) (said : LogLine) (a b : Rule) → SaidBreaks problem phase said a → SaidBreaks problem phase said b → a ≡ b
said_agrees problem phase said a b x y = agree (λ p q. agree (λ r s. placed_agrees problem phase said a b r s) p q) x y

pub one_first_rule : (problem : ProblemParts) (phase : Phase) (bytes : List ℕ) (a b : Rule) → LineBreaks problem phase bytes a → LineBreaks problem phase bytes b → a ≡ b
one_first_rule problem phase bytes a b x y = elim x [
  | inl p ↦ elim y [
    | inl q ↦ p.named ∙ ap rule_of (one_first bytes p.fault q.fault p.first q.first) ∙ sym q.named
    | inr q ↦ absurd (none_or_first bytes p.fault (breaks_none bytes q.said q.says) p.first)
  ]
  | inr p ↦ elim y [
    | inl q ↦ absurd (none_or_first bytes q.fault (breaks_none bytes p.said p.says) q.first)
    | inr q ↦
        let P : LogLine → Type 0 = λ said. SaidBreaks problem phase said a in
        said_agrees problem phase q.said a b (subst P (same_said bytes p.said q.said p.says q.says) p.first) q.first
  ]
]
