use Rattle.std.proofs.Common.{vec_len, vec_capacity, arith}
use Rattle.rows.specs.Known.{parts_of}
use Rattle.propagate.proofs.WayLaws.{room_after, room_fits, room_at}
use Rattle.propagate.proofs.passes.apply.Goals as goal

pub push_times-requires : goal.push_times-requires
push_times-requires c =
    let known = parts_of c.args.known.now in
    let after = room_after known c.args.r c.args.cube.now c.fix_forced.new.cube c.in-Some.count (vec_len c.args.steps.now) (vec_capacity c.args.steps.now) c.requires.below c.requires.room c.in-Some.ensures.steps in
    let fits = room_fits known c.fix_forced.new.cube _ _ after in
    omega (arith, fits)

pub returns-clause-room : goal.returns-clause-room
returns-clause-room c =
    let known = parts_of c.args.known.now in
    let after = room_after known c.args.r c.args.cube.now c.fix_forced.new.cube c.in-Some.count (vec_len c.args.steps.now) (vec_capacity c.args.steps.now) c.requires.below c.requires.room c.in-Some.ensures.steps in
    room_at known c.fix_forced.new.cube _ (vec_len c.push_times.new.steps) _ (vec_capacity c.push_times.new.steps) after c.push_times.ensures.len c.push_times.ensures.capacity
