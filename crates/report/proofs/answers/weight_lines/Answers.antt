use Rattle.std.proofs.Common.{string_bytes}
use Rattle.report.proofs.TextLaws.{blank_requirement, weight_told, next_of_pairs, pairs_written}
use Rattle.report.proofs.answers.weight_lines.Goals as goal

pub loop-i-preserved : goal.loop-i-preserved
loop-i-preserved c =
    next_of_pairs (weight_told c.args.lib.now) c.requirements-requirement-items.result.now c.args.lib.now.requirements c.args.weights.now c.loop-i.i blank_requirement 0 (string_bytes c.loop-i.text) (string_bytes c.push_weight_line.new.text)
    c.requirements-requirement-items.ensures.rows c.loop-i-test.true c.requires c.in_ok-push_weight_line.ensures c.loop-i.invariant

pub returns : goal.returns
returns c =
    pairs_written (weight_told c.args.lib.now) c.requirements-requirement-items.result.now c.args.lib.now.requirements c.args.weights.now c.loop-i.i (string_bytes c.loop-i.text)
    c.requirements-requirement-items.ensures.rows c.loop-i-test.false c.loop-i.invariant
