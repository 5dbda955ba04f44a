use Rattle.std.proofs.Common.{◌-◌, arith, option_map, ap, sym, ◌∙◌, Ok, length}
use Rattle.std.proofs.lemmas.Result.{err_from_is_err_and}
use Rattle.proof_log.specs.Inner.Reading.{number_at, folded_at, set_read, with_number, set_by}
use Rattle.proof_log.proofs.Items.{added, added_steps, set_begins, set_last, goes_on, is_last, fails_at, no_room}
use Rattle.proof_log.proofs.SmallSets.{empty_small, in_room, seen_set, small_set}
use Rattle.proof_log.proofs.fields.numbers.Goals as goal

pub loop-init : goal.loop-init
loop-init g c = record {
  read = set_begins c.args.limit (length c.args.bytes.now - 0) (length c.args.bytes.now) c.args.bytes.now (g.S.NumberSet.numbers c.empty.result) c.empty.ensures (omega arith);
  small = empty_small g.S.NumberSet.room (g.S.NumberSet.numbers c.empty.result) c.empty.ensures;
}

pub add_number-so_far-requires : goal.add_number-so_far-requires
add_number-so_far-requires g c = in_room c.in_ok-n.n c.args.limit g.S.NumberSet.room c.requires.0 c.requires.1 c.in_ok-n.ensures.range

pub returns-in_err-n-clause-read : goal.returns-in_err-n-clause-read
returns-in_err-n-clause-read g c =
    let p = err_from_is_err_and c.from_residual.result c.from_residual.ensures.1 in
    rw (p.1, p.2) (fails_at added (number_at 0 c.args.limit) c.in_err-n.field-0.0 (length c.args.bytes.now) c.loop.counter _ c.loop.rest.now (folded_at (number_at 0 c.args.limit) (option_map set_read) (length c.args.bytes.now) c.args.bytes.now) c.loop-test.true c.in_err-n.ensures.number c.loop.invariant.read)

pub returns-in-None-clause-read : goal.returns-in-None-clause-read
returns-in-None-clause-read g c =
    is_last added with_number added_steps (number_at 0 c.args.limit) (length c.args.bytes.now) c.loop.counter _ c.loop.rest.now c.in_ok-n.after.now c.in_ok-n.n (folded_at (number_at 0 c.args.limit) (option_map set_read) (length c.args.bytes.now) c.args.bytes.now) c.loop-test.true c.in_ok-n.ensures.number (sym c.in-None.ensures) c.loop.invariant.read
    ∙ ap (λ o. Ok (o, c.in_ok-n.after.now)) (set_last _ ∙ ap (λ s. option_map (λ p. (p.0, p.2)) s) (sym c.add_number-so_far.ensures.set) ∙ seen_set g.S.NumberSet.numbers _ ∙ ap (λ r. set_by g.S.NumberSet.numbers r) (sym c.read_set.ensures))

pub returns-in-None-clause-small : goal.returns-in-None-clause-small
returns-in-None-clause-small g c = small_set g.S.NumberSet.room g.S.NumberSet.numbers _ _ c.read_set.ensures (c.add_number-so_far.ensures.small c.loop.invariant.small)

pub loop-preserved : goal.loop-preserved
loop-preserved g c = record {
  read = rw c.add_number-so_far.ensures.set (goes_on added with_number added_steps (number_at 0 c.args.limit) (length c.args.bytes.now) c.loop.counter _ c.loop.rest.now c.in_ok-n.after.now c.in-Some.next.now c.in_ok-n.n (folded_at (number_at 0 c.args.limit) (option_map set_read) (length c.args.bytes.now) c.args.bytes.now) c.loop-test.true c.in_ok-n.ensures.number (sym c.in-Some.ensures) c.loop.invariant.read);
  small = c.add_number-so_far.ensures.small c.loop.invariant.small;
}

pub returns-clause-read : goal.returns-clause-read
returns-clause-read g c = no_room added (number_at 0 c.args.limit) (length c.args.bytes.now) c.loop.counter _ c.loop.rest.now (folded_at (number_at 0 c.args.limit) (option_map set_read) (length c.args.bytes.now) c.args.bytes.now) c.loop-test.false c.loop.invariant.read
