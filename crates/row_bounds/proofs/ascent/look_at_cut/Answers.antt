use Rattle.std.proofs.Common.{◌≤◌, ◌<◌, ◌∙◌, sym, length, arith}
use Rattle.rows.specs.Row.{row_of_cut}
use Rattle.rows.specs.Known.{parts_of}
use Rattle.rows.specs.Ascent.{looked_at}
use Rattle.rows.specs.declared.known.RowRef.TheVariants.{Cut}
use Rattle.row_bounds.specs.Inner.Climb.{Follows}
use Rattle.row_bounds.proofs.AscentLaws.{at_some, past_met, past_none, row_added, rising_more, has_cut, known_cut, cut_inside}
use Rattle.row_bounds.proofs.ascent.look_at_cut.Goals as goal

pub returns-then-not-is_cut_wanting-clause-follows : goal.returns-then-not-is_cut_wanting-clause-follows
returns-then-not-is_cut_wanting-clause-follows c a f =
    let cut = c.get-cut.result in
    at_some (λ cut. Follows c.args.rising.now.pairs c.args.rising.now.residue (looked_at c.args.cube.now a (Cut c.args.j, row_of_cut cut))) _ cut (known_cut (parts_of c.args.known.now) c.args.j cut c.requires.short c.get-cut.ensures)
    (past_met c.args.cube.now c.args.rising.now.pairs c.args.rising.now.residue a (Cut c.args.j) (row_of_cut cut) f (cut_inside cut c.is_cut_wanting.ensures.cut) (sym c.is_cut_wanting.ensures.wanting ∙ c.if-not-is_cut_wanting.true))

pub returns-then-times-eq0-clause-follows : goal.returns-then-times-eq0-clause-follows
returns-then-times-eq0-clause-follows c a f =
    let cut = c.get-cut.result in
    at_some (λ cut. Follows c.args.rising.now.pairs c.args.rising.now.residue (looked_at c.args.cube.now a (Cut c.args.j, row_of_cut cut))) _ cut (known_cut (parts_of c.args.known.now) c.args.j cut c.requires.short c.get-cut.ensures)
    (past_none c.args.cube.now c.args.rising.now.pairs c.args.rising.now.residue a (Cut c.args.j) (row_of_cut cut) f (cut_inside cut c.is_cut_wanting.ensures.cut) (sym c.times_of_cut-times.ensures.value ∙ c.if-times-eq0.true))

pub returns-clause-rising : goal.returns-clause-rising
returns-clause-rising c =
    let few : length c.args.rising.now.pairs < 64 = c.is_full.ensures.room c.if-is_full.false in
    let some : 1 ≤ c.times_of_cut-times.result = omega (arith, c.if-times-eq0.false) in
    rising_more (parts_of c.args.known.now) c.args.rising.now.pairs c.push.new.self c.args.rising.now.residue c.spend_cut.new.residue (Cut c.args.j) c.times_of_cut-times.result c.requires.rising few some c.times_of_cut-times.ensures.few
    (has_cut (parts_of c.args.known.now) c.args.j c.requires.known c.requires.short) c.push.ensures c.spend_cut.ensures.low

pub returns-clause-follows : goal.returns-clause-follows
returns-clause-follows c a f =
    let cut = c.get-cut.result in
    let few : length c.args.rising.now.pairs < 64 = c.is_full.ensures.room c.if-is_full.false in
    let some : 1 ≤ c.times_of_cut-times.result = omega (arith, c.if-times-eq0.false) in
    at_some (λ cut. Follows c.push.new.self c.spend_cut.new.residue (looked_at c.args.cube.now a (Cut c.args.j, row_of_cut cut))) _ cut (known_cut (parts_of c.args.known.now) c.args.j cut c.requires.short c.get-cut.ensures)
    (row_added c.args.cube.now c.args.rising.now.pairs c.args.rising.now.residue a (Cut c.args.j) (row_of_cut cut) f (cut_inside cut c.is_cut_wanting.ensures.cut) c.times_of_cut-times.result c.push.new.self c.spend_cut.new.residue few
    (sym c.is_cut_wanting.ensures.wanting ∙ c.if-not-is_cut_wanting.false) c.times_of_cut-times.ensures.value some c.push.ensures c.spend_cut.ensures.left)
