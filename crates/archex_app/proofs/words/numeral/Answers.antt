use Rattle.std.proofs.Common.{sym, ◌∙◌, arith, ◌≡◌, ◌<◌, ◌^◌}
use Rattle.archex_app.proofs.NumeralLaws.{numeral_found, numeral_none, same_parsed, no_parse, other_text}
use Rattle.archex_app.proofs.words.numeral.Goals as goal
use Rattle.archex_app.proofs.words.numeral.Goals.{else-is_text_of-via-then-is_text_of+then-least-number+else-number-most, else-is_text_of-via-then-is_text_of+else-least-number, else-is_text_of-via-else-is_text_of}

pub returns-in_default : goal.returns-in_default
returns-in_default c =
    let small : c.args.most < 2 ^ 64 = omega (arith, c.ranges.most.fits) in
    sym (numeral_none c.args.least c.args.most c.args.word.now c.parse.result c.parse.ensures.value.0 small (λ n parsed text low high. no_parse c.parse.result c.in_default.field-0 n c.in_default.is parsed))

pub returns-then-number-most : goal.returns-then-number-most
returns-then-number-most c =
    sym (numeral_found c.args.least c.args.most c.in-Ok.number c.args.word.now c.parse.result c.parse.ensures.value.0 c.in-Ok.is (sym c.is_text_of.ensures ∙ c.if-is_text_of.true) c.if-least-number.true c.if-number-most.true)

pub returns : goal.returns
returns c =
    let small : c.args.most < 2 ^ 64 = omega (arith, c.ranges.most.fits) in
    let n = c.in-Ok.number in
    sym (numeral_none c.args.least c.args.most c.args.word.now c.parse.result c.parse.ensures.value.0 small (λ m parsed text low high.
    let same : n ≡ m = same_parsed c.parse.result n m c.in-Ok.is parsed in
    elim c.else-is_text_of.branch [
      | else-is_text_of-via-then-is_text_of+then-least-number+else-number-most w ↦ absurd (omega (arith, same, high, w.if-number-most.false))
      | else-is_text_of-via-then-is_text_of+else-least-number w ↦ absurd (omega (arith, same, low, w.if-least-number.false))
      | else-is_text_of-via-else-is_text_of w ↦ absurd (other_text n m c.args.word.now c.is_text_of.result same c.is_text_of.ensures text w.if-is_text_of.false)
    ]))
