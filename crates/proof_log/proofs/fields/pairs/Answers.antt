use Rattle.std.proofs.Common.{option_map, ap, sym, ◌∙◌, Ok}
use Rattle.std.proofs.lemmas.Result.{err_from_is_err_and}
use Rattle.proof_log.specs.Value.{named_pair}
use Rattle.proof_log.specs.Inner.Reading.{pair_at, items_at, pushed}
use Rattle.proof_log.proofs.Items.{joined, joined_steps, joined_last, pushed_seen, goes_on, is_last, fails_at, no_room}
use Rattle.proof_log.proofs.fields.pairs.Goals as goal

pub returns-in_err-pair : goal.returns-in_err-pair
returns-in_err-pair c =
    let p = err_from_is_err_and c.from_residual.result c.from_residual.ensures.1 in
    rw (p.1, p.2) (fails_at joined pair_at c.in_err-pair.field-0.0 64 c.loop.counter _ c.loop.rest.now (items_at pair_at 64 c.args.bytes.now) c.loop-test.true c.in_err-pair.ensures c.loop.invariant)

pub returns-in-None : goal.returns-in-None
returns-in-None c =
    let seen = pushed_seen named_pair (λ v. v.items) c.loop.pairs c.in_ok-pairs.pairs c.in_ok-pair.pair c.in_ok-pairs.ensures.items in
    is_last joined pushed joined_steps pair_at 64 c.loop.counter _ c.loop.rest.now c.in_ok-pair.after.now (option_map named_pair c.in_ok-pair.pair) (items_at pair_at 64 c.args.bytes.now) c.loop-test.true c.in_ok-pair.ensures (sym c.in-None.ensures) c.loop.invariant
    ∙ ap (λ o. Ok (o, c.in_ok-pair.after.now)) (joined_last _ ∙ sym seen)

pub loop-preserved : goal.loop-preserved
loop-preserved c =
    let seen = pushed_seen named_pair (λ v. v.items) c.loop.pairs c.in_ok-pairs.pairs c.in_ok-pair.pair c.in_ok-pairs.ensures.items in
    rw seen (goes_on joined pushed joined_steps pair_at 64 c.loop.counter _ c.loop.rest.now c.in_ok-pair.after.now c.in-Some.next.now (option_map named_pair c.in_ok-pair.pair) (items_at pair_at 64 c.args.bytes.now) c.loop-test.true c.in_ok-pair.ensures (sym c.in-Some.ensures) c.loop.invariant)

pub returns : goal.returns
returns c = no_room joined pair_at 64 c.loop.counter _ c.loop.rest.now (items_at pair_at 64 c.args.bytes.now) c.loop-test.false c.loop.invariant
