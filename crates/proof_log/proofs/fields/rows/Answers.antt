use Rattle.std.proofs.Common.{option_map, ap, sym, ◌∙◌, Ok, length}
use Rattle.std.proofs.lemmas.Result.{err_from_is_err_and}
use Rattle.proof_log.specs.Value.{row_name}
use Rattle.proof_log.specs.Inner.Reading.{row_at, items_at, pushed}
use Rattle.proof_log.proofs.Items.{joined, joined_steps, joined_last, pushed_seen, goes_on, is_last, fails_at, no_room}
use Rattle.proof_log.proofs.fields.rows.Goals as goal

pub returns-in_err-row : goal.returns-in_err-row
returns-in_err-row c =
    let p = err_from_is_err_and c.from_residual.result c.from_residual.ensures.1 in
    rw (p.1, p.2) (fails_at joined row_at c.in_err-row.field-0.0 (length c.args.bytes.now) c.loop.counter _ c.loop.rest.now (items_at row_at (length c.args.bytes.now) c.args.bytes.now) c.loop-test.true c.in_err-row.ensures c.loop.invariant)

pub returns-in-None : goal.returns-in-None
returns-in-None c =
    let seen = pushed_seen row_name (λ v. v.items) c.loop.steps c.in_ok-steps.steps c.in_ok-row.row c.in_ok-steps.ensures.items in
    is_last joined pushed joined_steps row_at (length c.args.bytes.now) c.loop.counter _ c.loop.rest.now c.in_ok-row.after.now (option_map row_name c.in_ok-row.row) (items_at row_at (length c.args.bytes.now) c.args.bytes.now) c.loop-test.true c.in_ok-row.ensures (sym c.in-None.ensures) c.loop.invariant
    ∙ ap (λ o. Ok (o, c.in_ok-row.after.now)) (joined_last _ ∙ sym seen)

pub loop-preserved : goal.loop-preserved
loop-preserved c =
    let seen = pushed_seen row_name (λ v. v.items) c.loop.steps c.in_ok-steps.steps c.in_ok-row.row c.in_ok-steps.ensures.items in
    rw seen (goes_on joined pushed joined_steps row_at (length c.args.bytes.now) c.loop.counter _ c.loop.rest.now c.in_ok-row.after.now c.in-Some.next.now (option_map row_name c.in_ok-row.row) (items_at row_at (length c.args.bytes.now) c.args.bytes.now) c.loop-test.true c.in_ok-row.ensures (sym c.in-Some.ensures) c.loop.invariant)

pub returns : goal.returns
returns c = no_room joined row_at (length c.args.bytes.now) c.loop.counter _ c.loop.rest.now (items_at row_at (length c.args.bytes.now) c.args.bytes.now) c.loop-test.false c.loop.invariant
