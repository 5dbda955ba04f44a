use Rattle.std.proofs.Common.{◌∙◌}
use Rattle.report.proofs.ReportLaws.{found_is}
use Rattle.report.proofs.answers.push_found.Goals as goal

pub returns : goal.returns
returns c =
    found_is c.args.lib.now c.args.found.now c.args.weights.now _ _ _ _ _ _ (c.as_bytes.ensures.value ∙ c.in_ok-cost.ensures) c.in_ok-extend_from_slice.ensures.items c.in_ok-write_architecture.ensures.text
    c.in_ok-extend_from_slice-2.ensures.items (c.as_bytes-2.ensures.value ∙ c.in_ok-weights.ensures)
