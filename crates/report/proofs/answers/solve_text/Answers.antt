use Rattle.std.proofs.Common.{ℕ, List, ◌++◌, ap, ◌∙◌}
use Rattle.report.specs.Report.{status_line}
use Rattle.report.specs.Inner.Answers.{found_lines}
use Rattle.report.proofs.ReportLaws.{report_parts, told_right}
use Rattle.report.proofs.answers.solve_text.Goals as goal

pub returns-clause-text : goal.returns-clause-text
returns-clause-text c =
    let lib = c.args.lib.now in
    c.in_ok-extend_from_slice.ensures.items
    ∙ ap (λ (t : List ℕ). c.args.out.now.items ++ t)
    (c.deref.ensures.value ∙ c.in_ok-text.ensures
    ∙ ap (λ (t : List ℕ). status_line c.args.answer.now ++ found_lines lib c.args.answer.now c.args.best c.args.weights.now ++ t) (c.as_str.ensures.value ∙ c.in_ok-counts.ensures)
    ∙ report_parts lib c.args.answer.now c.args.best c.args.weights.now c.args.branchings c.args.cuts)

pub returns-clause-report : goal.returns-clause-report
returns-clause-report c right =
    returns-clause-text c
    ∙ ap (λ (t : List ℕ). c.args.out.now.items ++ t) (told_right c.args.lib.now c.args.answer.now c.args.best c.args.weights.now c.args.branchings c.args.cuts right)
