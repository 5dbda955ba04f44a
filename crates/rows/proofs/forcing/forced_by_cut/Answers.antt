use Rattle.std.proofs.Common.{◌≡◌, ◌∙◌, ap, sym, arith, pos, ◌<ℤ◌, to_z, of_z, int_lt, Some, option_map}
use Rattle.std.specs.Int.{w128}
use Rattle.arch_model.specs.Set.{has, union, minus}
use Rattle.std.proofs.lemmas.Int.{to_z-of_z}
use Rattle.rows.specs.Row.{row_of_cut}
use Rattle.rows.specs.Activity.{number_of}
use Rattle.rows.specs.Inner.Room.{room_of}
use Rattle.rows.proofs.WhatIsForced.{room_is_some}
use Rattle.rows.proofs.ForcedTurns.{cut_idle, cut_first, roomy, tight_none, tight_some, lt_from, zero_room, free_of_cut}
use Rattle.rows.proofs.forcing.forced_by_cut.Goals as goal

pub returns-then-room-gt0 : goal.returns-then-room-gt0
returns-then-room-gt0 c =
    let is : to_z w128 (of_z w128 c.args.room) ≡ room_of (row_of_cut c.args.cut.now) c.args.cube.now = to_z-of_z w128 c.args.room c.ranges.room ∙ c.requires.room in
    let some : pos 0 <ℤ room_of (row_of_cut c.args.cut.now) c.args.cube.now = lt_from (pos 0) (room_of (row_of_cut c.args.cut.now) c.args.cube.now) (sym (ap (λ z. int_lt (pos 0) z) is) ∙ c.if-room-gt0.true) in
    cut_idle c.args.cut.now c.args.cube.now c.fixed-fixed.ensures.cube c.requires.stands (λ v short. roomy (has c.args.cube.now.fixed v) (has c.args.cut.now.plus v) (has c.args.cut.now.minus v) (room_of (row_of_cut c.args.cut.now) c.args.cube.now) some)

pub returns : goal.returns
returns c =
    let is : to_z w128 (of_z w128 c.args.room) ≡ room_of (row_of_cut c.args.cut.now) c.args.cube.now = to_z-of_z w128 c.args.room c.ranges.room ∙ c.requires.room in
    let tight : room_of (row_of_cut c.args.cut.now) c.args.cube.now ≡ pos 0 = zero_room (room_of (row_of_cut c.args.cut.now) c.args.cube.now) (sym (ap (λ z. int_lt (pos 0) z) is) ∙ c.if-room-gt0.false) (room_is_some (row_of_cut c.args.cut.now) c.args.cube.now c.requires.stands) in
    let free : c.minus-free.result ≡ minus (union c.args.cut.now.plus c.args.cut.now.minus) c.args.cube.now.fixed = cc in
    let plus : c.has.result ≡ has c.args.cut.now.plus c.in_ok-next_from.field-0 = cc in
    ap (λ b. Some (c.in_ok-next_from.field-0, b)) plus
    ∙ cut_first c.args.cut.now c.args.cube.now c.in_ok-next_from.field-0 (has c.args.cut.now.plus c.in_ok-next_from.field-0) c.fixed-fixed.ensures.cube c.requires.stands c.in_ok-next_from.ensures.small
    (tight_some (has c.args.cube.now.fixed c.in_ok-next_from.field-0) (has c.args.cut.now.plus c.in_ok-next_from.field-0) (has c.args.cut.now.minus c.in_ok-next_from.field-0) (room_of (row_of_cut c.args.cut.now) c.args.cube.now) tight
    (sym (ap (λ s. has s c.in_ok-next_from.field-0) free ∙ free_of_cut c.args.cut.now c.args.cube.now c.in_ok-next_from.field-0) ∙ c.in_ok-next_from.ensures.next.1))
    (λ j lt. tight_none (has c.args.cube.now.fixed j) (has c.args.cut.now.plus j) (has c.args.cut.now.minus j) (room_of (row_of_cut c.args.cut.now) c.args.cube.now) tight
    (sym (ap (λ s. has s j) free ∙ free_of_cut c.args.cut.now c.args.cube.now j) ∙ c.in_ok-next_from.ensures.next.2 j (omega arith) lt))

pub returns-in_err-next_from : goal.returns-in_err-next_from
returns-in_err-next_from c =
    let is : to_z w128 (of_z w128 c.args.room) ≡ room_of (row_of_cut c.args.cut.now) c.args.cube.now = to_z-of_z w128 c.args.room c.ranges.room ∙ c.requires.room in
    let tight : room_of (row_of_cut c.args.cut.now) c.args.cube.now ≡ pos 0 = zero_room (room_of (row_of_cut c.args.cut.now) c.args.cube.now) (sym (ap (λ z. int_lt (pos 0) z) is) ∙ c.if-room-gt0.false) (room_is_some (row_of_cut c.args.cut.now) c.args.cube.now c.requires.stands) in
    let free : c.minus-free.result ≡ minus (union c.args.cut.now.plus c.args.cut.now.minus) c.args.cube.now.fixed = cc in
    ap (option_map number_of) c.from_residual.ensures
    ∙ cut_idle c.args.cut.now c.args.cube.now c.fixed-fixed.ensures.cube c.requires.stands
    (λ j short. tight_none (has c.args.cube.now.fixed j) (has c.args.cut.now.plus j) (has c.args.cut.now.minus j) (room_of (row_of_cut c.args.cut.now) c.args.cube.now) tight
    (sym (ap (λ s. has s j) free ∙ free_of_cut c.args.cut.now c.args.cube.now j) ∙ c.in_err-next_from.ensures.next j (omega arith)))
