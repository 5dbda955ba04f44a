use Rattle.std.proofs.Common.{◌*◌, ◌^◌, ◌≤◌, ◌<◌, unsigned_abs, length, refl, arith}
use Rattle.rows.specs.Known.{parts_of}
use Rattle.rows.proofs.IntSums.{int_sum_by-step}
use Rattle.rows.proofs.Combinations.{pair_least, pair_turn, kept_small, adds_is, adds_small, blank_pair}
use Rattle.rows.proofs.together_of.combined_least.Goals as goal

pub loop-pair-preserved : goal.loop-pair-preserved
loop-pair-preserved c =
    let few : length c.args.reason.now ≤ 64 = c.requires.reason.few in
    let within : unsigned_abs c.least_of.result ≤ 2 ^ 118 = omega (arith, c.least_of.ensures.small) in
    let small : unsigned_abs c.scaled-total.result ≤ 10 ^ 12 * 2 ^ 65 = kept_small c.least_of.result c.scaled-total.result (2 ^ 65) c.least_of.ensures.small (omega arith) c.scaled-total.ensures.small in
    let is = pair_turn (λ row. row.least) (parts_of c.args.known.now) c.args.reason.now c.args.reason.now c.loop-pair.pair-index c.least_of.result c.scaled-total.result refl c.requires.there c.loop-pair-test.true within c.least_of.ensures.value c.scaled-total.ensures.value in
    let room : length c.args.reason.now * (10 ^ 12 * 2 ^ 65) < 2 ^ 127 = omega (arith, few) in
    record {
      sum = int_sum_by-step (pair_least (parts_of c.args.known.now)) c.args.reason.now c.loop-pair.pair-index blank_pair _ c.scaled-total.result _ c.loop-pair-test.true c.loop-pair.invariant.sum is
          (adds_is _ c.scaled-total.result c.loop-pair.pair-index (length c.args.reason.now) (10 ^ 12 * 2 ^ 65) c.loop-pair.invariant.small small (omega arith) c.loop-pair-test.true room);
      small = adds_small _ c.scaled-total.result c.loop-pair.pair-index (length c.args.reason.now) (10 ^ 12 * 2 ^ 65) c.loop-pair.invariant.small small (omega arith) c.loop-pair-test.true room;
    }
