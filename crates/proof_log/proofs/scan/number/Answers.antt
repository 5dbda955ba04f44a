use Rattle.std.proofs.Common.{◌≤◌, ◌<◌, ◌-◌, ◌^◌, arith, sym, ◌∙◌}
use Rattle.proof_log.proofs.Scanning.{number_empty, number_is}
use Rattle.proof_log.proofs.scan.number.Goals as goal

pub returns-then-len-eq0-clause-number : goal.returns-then-len-eq0-clause-number
returns-then-len-eq0-clause-number c = number_empty c.args.low c.args.limit c.args.bytes.now (sym c.digits-value.ensures.len ∙ c.if-len-eq0.true)

pub returns-clause-number : goal.returns-clause-number
returns-clause-number c =
    let some : 0 < c.digits-value.result.1 = omega (arith, c.if-len-eq0.false) in
    let le : c.args.limit ≤ 2 ^ 64 - 1 = omega (arith, c.ranges.limit) in
    number_is c.args.low c.args.limit c.args.bytes.now c.digits-value.result.0 c.digits-value.result.1 c.leads_zero-led.result c.ranged.result c.digits-value.ensures.value c.digits-value.ensures.len some le c.leads_zero-led.ensures c.ranged.ensures.value
