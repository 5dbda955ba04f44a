-- Where a trace leads, or the rule that it breaks.
use Rattle.std.specs.Prelude.{List, [], ◌∷◌, Option, Some, None, Result, Ok, Err, if◌then◌else◌}
use Rattle.rows.specs.declared.known.RowRef.{RowRef}
use Rattle.rows.specs.Parts.{CubeParts, KnownParts}
use Rattle.rows.specs.Known.{has_row}
use Rattle.rows.specs.Trace.{cube_after_step}
use Rattle.search_core.specs.declared.rule.Rule.{Rule}
use Rattle.search_core.specs.declared.rule.Rule.TheVariants.{Row, Step}

-- a cube that is there, or the rule that is broken where it isn't
abbrev pub or_rule : Option CubeParts → Rule → Result CubeParts Rule
or_rule (Some cube) rule = Ok cube
or_rule None rule = Err rule

-- what comes after a cube that is there
abbrev pub then_follow : Result CubeParts Rule → (CubeParts → Result CubeParts Rule) → Result CubeParts Rule
then_follow (Ok cube) next = next cube
then_follow (Err rule) next = Err rule

-- where one step leads: Row is broken where it names no row that is known, Step where its row forces nothing
abbrev pub follow_step : KnownParts → CubeParts → RowRef → Result CubeParts Rule
follow_step known cube r = if has_row known r then or_rule (cube_after_step known cube r) Step else Err Row

-- where a trace leads, or the rule that its first bad step breaks
abbrev pub follow_trace : KnownParts → CubeParts → List RowRef → Result CubeParts Rule
follow_trace known cube [] = Ok cube
follow_trace known cube (r ∷ trace) = then_follow (follow_step known cube r) (λ next. follow_trace known next trace)
