use Rattle.std.proofs.Common.{map, string_bytes, ap, ◌∙◌}
use Rattle.toml.specs.View.{view}
use Rattle.lib_read.specs.declared.fault.TableName.TheVariants.{Patterns}
use Rattle.lib_read.specs.Tree.{rows_of}
use Rattle.lib_read.specs.Rows.{pattern_row}
use Rattle.lib_read.specs.Inner.Building.{PatternFits}
use Rattle.lib_read.proofs.CleanLibrary.{row_of}
use Rattle.lib_read.proofs.RepeatLemmas.{values_new, values_old}
use Rattle.lib_read.proofs.rows.pattern_rows.Goals as goal
use Rattle.lib_read.proofs.rows.pattern_rows.Goals.{in-Some+in_ok-push, in_default}

pub pattern_row-requires-clause-fits : goal.pattern_row-requires-clause-fits
pattern_row-requires-clause-fits c = row_of PatternFits c.rows_of-rows.result.now (rows_of Patterns (view c.args.top.now)) c.rows_of-rows.ensures c.requires.fit c.loop-row.row-index c.row-item.result c.loop-row-test.true c.row-item.is

pub loop-row-preserved : goal.loop-row-preserved
loop-row-preserved c =
    elim c.match-pattern_row.branch [
      | in-Some+in_ok-push w ↦
          let is = w.in-Some.ensures ∙ ap (λ v. pattern_row c.args.names.now (map string_bytes c.args.components.now) (view v)) c.row-item.is in
          values_new (pattern_row c.args.names.now (map string_bytes c.args.components.now)) c.rows_of-rows.result.now c.loop-row.row-index c.row-item.result c.loop-row.patterns.items c.match-pattern_row.patterns.items w.in-Some.pattern c.loop-row-test.true is c.loop-row.invariant (ap (λ v. v.items) w.patterns-is ∙ w.in_ok-push.ensures.items)
      | in_default w ↦
          let is = w.in_default.ensures ∙ ap (λ v. pattern_row c.args.names.now (map string_bytes c.args.components.now) (view v)) c.row-item.is in
          values_old (pattern_row c.args.names.now (map string_bytes c.args.components.now)) c.rows_of-rows.result.now c.loop-row.row-index c.row-item.result c.loop-row.patterns.items c.match-pattern_row.patterns.items c.loop-row-test.true is c.loop-row.invariant (ap (λ v. v.items) w.patterns-is)
    ]
