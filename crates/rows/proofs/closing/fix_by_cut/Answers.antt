use Rattle.std.proofs.Common.{◌≡◌, ◌+◌, refl, sym, ap, ◌∙◌, pos, int_lt, to_z, of_z}
use Rattle.std.specs.Int.{w128}
use Rattle.std.proofs.lemmas.Int.{to_z-of_z}
use Rattle.arch_model.specs.Set.{has, minus, union}
use Rattle.rows.specs.Row.{row_of_cut}
use Rattle.rows.specs.Inner.Room.{room_of}
use Rattle.rows.proofs.WhatIsForced.{room_is_some}
use Rattle.rows.proofs.ForcedTurns.{zero_room}
use Rattle.rows.proofs.ClosingLoops.{cut_loop_start, cut_loop_free, cut_loop_hit, cut_loop_end, cut_with_room}
use Rattle.rows.proofs.closing.fix_by_cut.Goals as goal

pub returns-then-room-gt0-clause-quiet : goal.returns-then-room-gt0-clause-quiet
returns-then-room-gt0-clause-quiet c =
    cut_with_room c.args.cut.now c.args.cube.now c.fixed-fixed.ensures.cube c.requires.stands (sym (ap (λ z. int_lt (pos 0) z) (to_z-of_z w128 c.args.room c.ranges.room ∙ c.requires.room)) ∙ c.if-room-gt0.true)

pub loop-v-init : goal.loop-v-init
loop-v-init c =
    let is : to_z w128 (of_z w128 c.args.room) ≡ room_of (row_of_cut c.args.cut.now) c.args.cube.now = to_z-of_z w128 c.args.room c.ranges.room ∙ c.requires.room in
    let free : c.minus-free.result ≡ minus (union c.args.cut.now.plus c.args.cut.now.minus) c.args.cube.now.fixed = cc in
    cut_loop_start c.args.cut.now c.args.cube.now c.minus-free.result c.into_iter-v-iterator.result (to_z w128 (of_z w128 c.args.room)) c.plus-plus.ensures.cut c.fixed-fixed.ensures.cube is c.requires.stands free (c.into_iter-v-iterator.ensures.into_iter_gives ∙ c.members-v-items.ensures)

pub fix-requires-clause-free : goal.fix-requires-clause-free
fix-requires-clause-free c = cut_loop_free c.args.cut.now c.args.cube.now c.loop-v.cube c.in-Some.v.0 c.loop-v.v-iterator c.next.new.self c.loop-v.count _ c.loop-v.invariant c.in-Some.ensures.steps

pub loop-v-preserved : goal.loop-v-preserved
loop-v-preserved c =
    let is : to_z w128 (of_z w128 c.args.room) ≡ room_of (row_of_cut c.args.cut.now) c.args.cube.now = to_z-of_z w128 c.args.room c.ranges.room ∙ c.requires.room in
    let tight : room_of (row_of_cut c.args.cut.now) c.args.cube.now ≡ pos 0 = zero_room (room_of (row_of_cut c.args.cut.now) c.args.cube.now) (sym (ap (λ z. int_lt (pos 0) z) is) ∙ c.if-room-gt0.false) (room_is_some (row_of_cut c.args.cut.now) c.args.cube.now c.requires.stands) in
    cut_loop_hit c.args.cut.now c.args.cube.now c.loop-v.cube c.in-Some.v.0 c.loop-v.v-iterator c.next.new.self c.loop-v.count (to_z w128 (of_z w128 c.args.room)) c.loop-v.invariant c.in-Some.ensures.steps
    (is ∙ tight) c.fix.new.self (c.loop-v.count + 1) c.has.result (c.has.ensures.member ∙ ap (λ s. has s c.in-Some.v.0) c.plus-plus.ensures.plus) c.fix.ensures.fixed refl

pub returns-clause-quiet : goal.returns-clause-quiet
returns-clause-quiet c =
    let is : to_z w128 (of_z w128 c.args.room) ≡ room_of (row_of_cut c.args.cut.now) c.args.cube.now = to_z-of_z w128 c.args.room c.ranges.room ∙ c.requires.room in
    let tight : room_of (row_of_cut c.args.cut.now) c.args.cube.now ≡ pos 0 = zero_room (room_of (row_of_cut c.args.cut.now) c.args.cube.now) (sym (ap (λ z. int_lt (pos 0) z) is) ∙ c.if-room-gt0.false) (room_is_some (row_of_cut c.args.cut.now) c.args.cube.now c.requires.stands) in
    cut_loop_end c.args.cut.now c.args.cube.now c.loop-v.cube c.loop-v.v-iterator c.loop-v.count (to_z w128 (of_z w128 c.args.room)) (is ∙ tight) c.loop-v.invariant c.in-None.ensures.steps.0
