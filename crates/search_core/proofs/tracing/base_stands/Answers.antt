use Rattle.std.proofs.Common.{◌≡◌, ◌<◌, true, false, length, get_or, slice_get, refl, sym, ap, ◌∙◌, arith, below_more}
use Rattle.rows.specs.Parts.{RowParts}
use Rattle.rows.specs.Activity.{is_refuted}
use Rattle.search_core.proofs.JudgedTests.{row_there, blank_row, was_false}
use Rattle.search_core.proofs.tracing.base_stands.Goals as goal

pub loop-i-init : goal.loop-i-init
loop-i-init c k short d = absurd (omega arith)

pub loop-i-preserved : goal.loop-i-preserved
loop-i-preserved c =
    let here : c.loop-i.i < length c.args.known.now.problem.now.base = omega (arith, ap length c.base.ensures.rows, c.loop-i-test.true) in
    below_more (λ k. (d : RowParts) → is_refuted (get_or c.args.known.now.problem.now.base k d) c.args.cube.now ≡ false) c.loop-i.i c.loop-i.invariant
    (λ d. row_there (λ row. is_refuted row c.args.cube.now ≡ false) c.args.known.now.problem.now.base c.loop-i.i d (was_false (slice_get c.args.known.now.problem.now.base c.loop-i.i) c.args.cube.now c.if-refuted.ensures.test) here)

pub returns-then-refuted : goal.returns-then-refuted
returns-then-refuted c =
    let here : c.loop-i.i < length c.args.known.now.problem.now.base = omega (arith, ap length c.base.ensures.rows, c.loop-i-test.true) in
    let refuted : true ≡ is_refuted (get_or c.args.known.now.problem.now.base c.loop-i.i blank_row) c.args.cube.now =
    row_there (λ row. true ≡ is_refuted row c.args.cube.now) c.args.known.now.problem.now.base c.loop-i.i blank_row c.if-refuted.ensures.test here in
    ((λ t. absurd (let f : false ≡ true = t in cc)), (λ all. sym (refuted ∙ all c.loop-i.i blank_row here)))

pub returns : goal.returns
returns c =
    let all : length c.base.result.now ≡ length c.args.known.now.problem.now.base = ap length c.base.ensures.rows in
    ((λ t k d short. c.loop-i.invariant k (omega (arith, all, short, c.loop-i-test.false)) d), (λ h. refl))
