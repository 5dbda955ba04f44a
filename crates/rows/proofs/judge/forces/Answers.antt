use Rattle.std.proofs.Common.{◌≡◌, ◌∙◌, FitsSigned, rules, None, IfSome, IfNone, option_map}
use Rattle.std.specs.Int.{w128}
use Rattle.std.proofs.lemmas.Int.{to_z-of_z}
use Rattle.rows.specs.Activity.{least_forced, number_of, IsLeastForced, ForcesNothing}
use Rattle.rows.specs.Known.{parts_of, row_at}
use Rattle.rows.specs.Inner.Room.{room_of}
use Rattle.rows.specs.Row.{Ascends}
use Rattle.rows.proofs.KnownRows.{if_some, if_both}
use Rattle.rows.proofs.LeastForced.{told_least, told_nothing}
use Rattle.rows.proofs.WhatIsForced.{roomless}
use Rattle.rows.proofs.judge.forces.Goals as goal

pub returns-then-room-lt0-clause-first : goal.returns-then-room-lt0-clause-first
returns-then-room-lt0-clause-first c =
    let fits : FitsSigned w128 c.room_in-room.result = search rules in
    if_some (λ row. c.room_in-room.result ≡ room_of row c.args.cube.now) (λ row. None ≡ least_forced row c.args.cube.now) (row_at (parts_of c.args.known.now) c.args.r)
    (λ row e. roomless row c.args.cube.now _ (to_z-of_z w128 c.room_in-room.result fits ∙ e) c.if-room-lt0.true) c.room_in-room.ensures

pub returns-clause-least : goal.returns-clause-least
returns-clause-least c =
    if_both (λ row. option_map number_of c.forced_by.result ≡ least_forced row c.args.cube.now) Ascends (λ row. IfSome c.forced_by.result (λ p. IsLeastForced row c.args.cube.now p.0.0 p.1)) (row_at (parts_of c.args.known.now) c.args.r)
    (λ row e ascends. told_least row c.args.cube.now c.forced_by.result ascends e) c.forced_by.ensures.first c.forced_by.ensures.ascends

pub returns-clause-none : goal.returns-clause-none
returns-clause-none c =
    if_some (λ row. option_map number_of c.forced_by.result ≡ least_forced row c.args.cube.now) (λ row. IfNone c.forced_by.result (ForcesNothing row c.args.cube.now)) (row_at (parts_of c.args.known.now) c.args.r)
    (λ row e. told_nothing row c.args.cube.now c.forced_by.result e) c.forced_by.ensures.first
