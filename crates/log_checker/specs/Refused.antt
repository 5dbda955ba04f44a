-- Why a line was refused.
use Rattle.std.specs.Prelude.{◌≡◌, ℕ, List}
use Rattle.log_checker.specs.declared.error.CheckError.{CheckError}
use Rattle.log_checker.specs.declared.error.CheckError.TheVariants.{Memory, No}
use Rattle.log_checker.specs.Phase.{CheckerParts, next_line}
use Rattle.log_checker.specs.Breaking.{LineBreaks}

-- an error that names a rule names the first that the line breaks
abbrev pub NamesRule : CheckerParts → List ℕ → CheckError → Type 0
NamesRule checker bytes Memory = Unit {0}
NamesRule checker bytes (No refused) = LineBreaks checker.problem checker.phase bytes refused.rule

-- such an error names the line's number
abbrev pub NamesLine : CheckerParts → CheckError → Type 0
NamesLine checker Memory = Unit {0}
NamesLine checker (No refused) = refused.line ≡ next_line checker.lines
