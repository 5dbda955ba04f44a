-- For the code's own contracts: why what a line says was refused, and what it leaves alone.
use Rattle.std.specs.Prelude.{◌≡◌}
use Rattle.rows.specs.Parts.{ProblemParts}
use Rattle.search_core.specs.declared.rule.Rule.{Rule}
use Rattle.search_core.specs.declared.rule.Rule.TheVariants as rule
use Rattle.search_core.specs.declared.entry.Entry.{Entry}
use Rattle.search_core.specs.declared.stepping.StepError.{StepError}
use Rattle.search_core.specs.declared.stepping.StepError.TheVariants.{Memory, Bad}
use Rattle.search_core.specs.State.{SearchState}
use Rattle.search_core.specs.Rules.{FirstBroken}
use Rattle.proof_log.specs.declared.log_line.LogLine.{LogLine}
use Rattle.log_checker.specs.Phase.{Phase, CheckerParts}
use Rattle.log_checker.specs.declared.checker.Stage.{Stage}
use Rattle.log_checker.specs.declared.checker.Stage.TheVariants as stage
use Rattle.log_checker.specs.Breaking.{SaidBreaks}

-- want of memory, or the first rule that an entry breaks
abbrev pub EntryFails : ProblemParts → SearchState → Entry → StepError → Type 0
EntryFails problem state entry Memory = Unit {0}
EntryFails problem state entry (Bad broken) = FirstBroken problem state entry broken

-- want of memory, or the first rule that is broken by what a line says
abbrev pub SaidFails : ProblemParts → Phase → LogLine → StepError → Type 0
SaidFails problem phase said Memory = Unit {0}
SaidFails problem phase said (Bad broken) = SaidBreaks problem phase said broken

-- what is said leaves all but the phase
abbrev pub KeepsTheRest : CheckerParts → CheckerParts → Type 0
KeepsTheRest old new = new ≡ record old { phase = new.phase }

-- the rule of a line that stands out of its place: After behind the closing line, else Header
abbrev pub place_rule : Stage → Rule
place_rule stage.Begun = rule.Header
place_rule stage.Versioned = rule.Header
place_rule stage.Sized = rule.Header
place_rule stage.Running = rule.Header
place_rule (stage.Closed answer) = rule.After
