-- Why a step was refused.
use Rattle.rows.specs.Parts.{ProblemParts}
use Rattle.search_core.specs.declared.stepping.StepError.{StepError}
use Rattle.search_core.specs.declared.stepping.StepError.TheVariants.{Memory, Bad}
use Rattle.search_core.specs.declared.entry.Entry.{Entry}
use Rattle.search_core.specs.State.{SearchState}
use Rattle.search_core.specs.Step.{Step}
use Rattle.search_core.specs.Rules.{FirstBroken}

-- an error that names a rule names the first that the entry breaks; want of memory comes only where the entry is a step
abbrev pub BreaksFirst : ProblemParts → SearchState → Entry → StepError → Type 0
BreaksFirst problem state entry Memory = (new : SearchState) × Step problem state entry new
BreaksFirst problem state entry (Bad rule) = FirstBroken problem state entry rule
