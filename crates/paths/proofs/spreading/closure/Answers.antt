use Rattle.std.proofs.Common.{◌≡◌, true, false, sym, subst, ◌∙◌}
use Rattle.std.proofs.lemmas.Bool.{eqb-true}
use Rattle.arch_model.specs.declared.limits.TheConstants.{COMPONENTS}
use Rattle.arch_model.specs.Set.{Set, has}
use Rattle.paths.proofs.SpreadLaws.{first_round, later_round, level_low, exact_same, exact_last, whole_round, newest_inside, old_next}
use Rattle.paths.proofs.spreading.closure.Goals as goal

pub loop-round-init : goal.loop-round-init
loop-round-init c = record {
  levels = first_round c.args.up.now c.args.first.now c.args.rows.now COMPONENTS c.requires c.intersection-reached.result c.intersection-reached.ensures;
  inside = λ a h. h;
  old = λ a d r n. absurd (let e : true ≡ false = sym r ∙ n in cc);
}

pub returns-then-eq : goal.returns-then-eq
returns-then-eq c =
    let low = level_low c.args.up.now c.args.first.now c.args.rows.now COMPONENTS c.requires c.loop-round.reached c.loop-round._round c.loop-round.invariant.levels in
    exact_same c.args.up.now c.args.first.now c.args.rows.now COMPONENTS c.requires c.loop-round.reached c.union-wider.result c.loop-round._round c.loop-round.invariant.levels
    (whole_round c.args.up.now c.args.rows.now COMPONENTS c.loop-round.reached c.loop-round.newest c.entered-found.result c.union-wider.result low c.loop-round.invariant.inside c.loop-round.invariant.old c.entered-found.ensures c.union-wider.ensures)
    (λ i. record { mask = eqb-true c.union-wider.result.mask c.loop-round.reached.mask (sym c.eq.ensures ∙ c.if-eq.true) i })

pub loop-round-preserved : goal.loop-round-preserved
loop-round-preserved c =
    let low = level_low c.args.up.now c.args.first.now c.args.rows.now COMPONENTS c.requires c.loop-round.reached c.loop-round._round c.loop-round.invariant.levels in record {
      levels = later_round c.args.up.now c.args.first.now c.args.rows.now COMPONENTS c.requires c.loop-round.reached c.union-wider.result c.loop-round._round c.loop-round.invariant.levels
          (whole_round c.args.up.now c.args.rows.now COMPONENTS c.loop-round.reached c.loop-round.newest c.entered-found.result c.union-wider.result low c.loop-round.invariant.inside c.loop-round.invariant.old c.entered-found.ensures c.union-wider.ensures);
      inside = λ a h. newest_inside c.args.up.now c.args.rows.now COMPONENTS c.loop-round.reached c.loop-round.newest c.entered-found.result c.union-wider.result low c.loop-round.invariant.inside c.loop-round.invariant.old c.entered-found.ensures c.union-wider.ensures
          a (subst (λ (s : Set). has s a ≡ true) c.minus-newest.ensures h);
      old = λ a d w n. old_next c.args.up.now c.args.rows.now COMPONENTS c.loop-round.reached c.loop-round.newest c.entered-found.result c.union-wider.result low c.loop-round.invariant.inside c.loop-round.invariant.old c.entered-found.ensures c.union-wider.ensures
          a d w (subst (λ (s : Set). has s a ≡ false) c.minus-newest.ensures n);
    }

pub returns : goal.returns
returns c = exact_last c.args.up.now c.args.first.now c.args.rows.now COMPONENTS c.requires c.loop-round.reached c.loop-round._round c.loop-round.invariant.levels c.loop-round-test.false
