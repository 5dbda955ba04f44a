use Rattle.std.proofs.Common.{sym, ◌∙◌}
use Rattle.proof_log.proofs.Scanning.{front_more, front_ends, front_is_all, value_more, value_at_front, length_at_front, all_at_front}
use Rattle.proof_log.proofs.scan.digits.Goals as goal

pub returns-then-not-is_ascii_digit-clause-value : goal.returns-then-not-is_ascii_digit-clause-value
returns-then-not-is_ascii_digit-clause-value c =
    value_at_front c.args.bytes.now c.loop-len.len c.loop-len.value c.loop-len.invariant.value
    (front_ends c.args.bytes.now c.loop-len.len c.loop-len-test.true (sym c.is_ascii_digit.ensures.value ∙ c.if-not-is_ascii_digit.true) c.loop-len.invariant.front)

pub returns-then-not-is_ascii_digit-clause-len : goal.returns-then-not-is_ascii_digit-clause-len
returns-then-not-is_ascii_digit-clause-len c =
    length_at_front c.args.bytes.now c.loop-len.len c.loop-len.auto.len-end
    (front_ends c.args.bytes.now c.loop-len.len c.loop-len-test.true (sym c.is_ascii_digit.ensures.value ∙ c.if-not-is_ascii_digit.true) c.loop-len.invariant.front)

pub loop-len-preserved : goal.loop-len-preserved
loop-len-preserved c = record {
  front = front_more c.args.bytes.now c.loop-len.len c.loop-len-test.true (sym c.is_ascii_digit.ensures.value ∙ c.if-not-is_ascii_digit.false) c.loop-len.invariant.front;
  value = value_more c.args.bytes.now c.loop-len.len c.loop-len.value c.saturating_mul.result c.from.result c.saturating_add-value.result c.loop-len-test.true (sym c.is_ascii_digit.ensures.value ∙ c.if-not-is_ascii_digit.false) c.loop-len.invariant.value c.saturating_mul.ensures c.from.ensures c.saturating_add-value.ensures;
}

pub returns-clause-value : goal.returns-clause-value
returns-clause-value c =
    value_at_front c.args.bytes.now c.loop-len.len c.loop-len.value c.loop-len.invariant.value (front_is_all c.args.bytes.now c.loop-len.len c.loop-len-test.false c.loop-len.invariant.front)

pub returns-clause-len : goal.returns-clause-len
returns-clause-len c = all_at_front c.args.bytes.now c.loop-len.len c.loop-len-test.false (front_is_all c.args.bytes.now c.loop-len.len c.loop-len-test.false c.loop-len.invariant.front)
