use Rattle.std.proofs.Common.{◌≤◌, ◌<◌, ◌∙◌, sym, length, arith}
use Rattle.rows.specs.Known.{parts_of}
use Rattle.rows.specs.Ascent.{looked_at}
use Rattle.rows.specs.declared.known.RowRef.TheVariants.{Base}
use Rattle.row_bounds.specs.Inner.Climb.{Follows}
use Rattle.row_bounds.proofs.AscentLaws.{at_some, past_met, past_none, row_added, rising_more, has_base}
use Rattle.row_bounds.proofs.ascent.look_at_base.Goals as goal

pub returns-then-not-is_row_wanting-clause-follows : goal.returns-then-not-is_row_wanting-clause-follows
returns-then-not-is_row_wanting-clause-follows c a f =
    let row = c.base_row-row.result.now in
    at_some (λ row. Follows c.args.rising.now.pairs c.args.rising.now.residue (looked_at c.args.cube.now a (Base c.args.i, row))) _ row c.base_row-row.ensures.row
    (past_met c.args.cube.now c.args.rising.now.pairs c.args.rising.now.residue a (Base c.args.i) row f c.base_row-row.ensures.small (sym c.is_row_wanting.ensures ∙ c.if-not-is_row_wanting.true))

pub returns-then-look-eq0-clause-follows : goal.returns-then-look-eq0-clause-follows
returns-then-look-eq0-clause-follows c a f =
    let row = c.base_row-row.result.now in
    at_some (λ row. Follows c.args.rising.now.pairs c.args.rising.now.residue (looked_at c.args.cube.now a (Base c.args.i, row))) _ row c.base_row-row.ensures.row
    (past_none c.args.cube.now c.args.rising.now.pairs c.args.rising.now.residue a (Base c.args.i) row f c.base_row-row.ensures.small (sym c.look_at_row-look.ensures.times ∙ c.if-look-eq0.true))

pub returns-clause-rising : goal.returns-clause-rising
returns-clause-rising c =
    let few : length c.args.rising.now.pairs < 64 = c.is_full.ensures.room c.if-is_full.false in
    let some : 1 ≤ c.look_at_row-look.result.times = omega (arith, c.if-look-eq0.false) in
    rising_more (parts_of c.args.known.now) c.args.rising.now.pairs c.push.new.self c.args.rising.now.residue c.spend_row.new.residue (Base c.args.i) c.look_at_row-look.result.times c.requires.rising few some c.look_at_row-look.ensures.few
    (has_base (parts_of c.args.known.now) c.args.i c.requires.short) c.push.ensures c.spend_row.ensures.low

pub returns-clause-follows : goal.returns-clause-follows
returns-clause-follows c a f =
    let row = c.base_row-row.result.now in
    let few : length c.args.rising.now.pairs < 64 = c.is_full.ensures.room c.if-is_full.false in
    let some : 1 ≤ c.look_at_row-look.result.times = omega (arith, c.if-look-eq0.false) in
    at_some (λ row. Follows c.push.new.self c.spend_row.new.residue (looked_at c.args.cube.now a (Base c.args.i, row))) _ row c.base_row-row.ensures.row
    (row_added c.args.cube.now c.args.rising.now.pairs c.args.rising.now.residue a (Base c.args.i) row f c.base_row-row.ensures.small c.look_at_row-look.result.times c.push.new.self c.spend_row.new.residue few
    (sym c.is_row_wanting.ensures ∙ c.if-not-is_row_wanting.false) c.look_at_row-look.ensures.times some c.push.ensures c.spend_row.ensures.left)
