use Rattle.std.proofs.Common.{◌≡◌, ◌∙◌, ap, sym, get_or, arith}
use Rattle.std.specs.Prelude.{slice_index}
use Rattle.std.specs.List.{All}
use Rattle.arch_model.specs.Set.{has}
use Rattle.rows.specs.Row.{IsSized}
use Rattle.rows.proofs.Activities.{blank, plain}
use Rattle.row_bounds.specs.Inner.Climb.{quotient_by}
use Rattle.row_bounds.proofs.SpendLaws.{times_hit, times_past}
use Rattle.row_bounds.proofs.spending.look_at_row.Goals as goal
use Rattle.row_bounds.proofs.spending.look_at_row.Goals.{in-Some, in_default}

pub loop-term-preserved : goal.loop-term-preserved
loop-term-preserved c =
    let xs = c.terms-term-items.result.now in
    let i = c.loop-term.term-index in
    let here = c.loop-term-test.true in
    let t = get_or xs i blank in
    let sized : All (λ t. IsSized t.coef) xs = rw c.terms-term-items.ensures.terms c.terms-term-items.ensures.row.sized in
    let same : c.quotient.result ≡ quotient_by (has c.args.cube.now.fixed t.var.0) t.coef (slice_index c.args.residue.now t.var.0) =
    c.quotient.ensures
    ∙ ap (λ a. quotient_by c.has.result a (slice_index c.args.residue.now t.var.0)) (plain t.coef (sized i blank here))
    ∙ ap (λ f. quotient_by f t.coef (slice_index c.args.residue.now t.var.0)) (c.has.ensures.member ∙ ap (λ s. has s t.var.0) c.fixed-fixed.ensures.fixed) in
    elim c.match-quotient.branch [
      | in-Some w ↦ record {
        least = times_hit c.args.cube.now (slice_index c.args.residue.now) xs i here c.loop-term.times c.match-quotient.times w.in-Some.most c.loop-term.invariant.least (sym same ∙ w.in-Some.is) (w.times-is ∙ w.min-times.ensures);
        few = omega (arith, w.times-is ∙ w.min-times.ensures, c.loop-term.invariant.few);
        helpers = omega (arith, w.helpers-is, c.loop-term.invariant.helpers);
      }
      | in_default w ↦ record {
        least = times_past c.args.cube.now (slice_index c.args.residue.now) xs i here c.loop-term.times c.match-quotient.times c.loop-term.invariant.least (sym same ∙ w.in_default.is) w.times-is;
        few = omega (arith, w.times-is, c.loop-term.invariant.few);
        helpers = omega (arith, w.helpers-is, c.loop-term.invariant.helpers);
      }
    ]
