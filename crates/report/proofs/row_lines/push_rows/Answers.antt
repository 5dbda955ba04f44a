use Rattle.std.proofs.Common.{ℕ, ◌++◌, string_bytes, ap, ◌∙◌}
use Rattle.rows.specs.Parts.{RowParts}
use Rattle.report.specs.Rows.{row_line}
use Rattle.report.proofs.TextLaws.{next_of_numbered}
use Rattle.report.proofs.row_lines.push_rows.Goals as goal

pub loop-number-preserved : goal.loop-number-preserved
loop-number-preserved c =
    next_of_numbered (λ (p : ℕ × RowParts). row_line p.0 p.1) c.args.base.now c.loop-number.number c.index-base-number.result (string_bytes c.args.text.now) (string_bytes c.loop-number.text) (string_bytes c.push_row.new.text) c.loop-number-test.true
    (c.in_ok-push_row.ensures ∙ ap (λ (r : RowParts). string_bytes c.loop-number.text ++ row_line c.loop-number.number r) c.index-base-number.is) c.loop-number.invariant
