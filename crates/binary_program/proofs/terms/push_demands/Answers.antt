use Rattle.std.proofs.Common.{◌++◌, ◌∷◌, [], length, refl, ap, sym, ◌∙◌}
use Rattle.arch_model.proofs.Ranges.{blank_edge}
use Rattle.binary_program.proofs.BuildLists.{items_yes, items_no, picked_all}
use Rattle.binary_program.proofs.BuildTerms.{out_of, asked, minus_times_is}
use Rattle.binary_program.proofs.BuildRanges.{with_asked}
use Rattle.binary_program.proofs.terms.push_demands.Goals as goal
use Rattle.binary_program.proofs.terms.push_demands.Goals.{then-eq+in_ok-push, else-eq}

pub loop-e-preserved : goal.loop-e-preserved
loop-e-preserved c = elim c.if-eq.branch [
  | then-eq+in_ok-push w ↦
      items_yes (out_of c.args.i.0) (asked c.args.lib.now) (length c.args.lib.now.components) c.edges-edge-items.result.now c.loop-e.e _ blank_edge c.args.terms.now.items c.loop-e.terms.items c.if-eq.terms.items c.loop-e-test.true refl c.loop-e.invariant
      (ap (λ v. v.items) w.terms-is ∙ w.in_ok-push.ensures.items
      ∙ ap (λ t. c.loop-e.terms.items ++ t ∷ []) (minus_times_is w.minus_times.result w.edge_variable.result.0 _ w.demand.result _ w.minus_times.ensures.value w.edge_variable.ensures w.demand.ensures.value))
      (sym c.eq.ensures ∙ w.if-eq.true)
  | else-eq w ↦
      items_no (out_of c.args.i.0) (asked c.args.lib.now) (length c.args.lib.now.components) c.edges-edge-items.result.now c.loop-e.e _ blank_edge c.args.terms.now.items c.loop-e.terms.items c.if-eq.terms.items c.loop-e-test.true refl c.loop-e.invariant
      (ap (λ v. v.items) w.terms-is) (sym c.eq.ensures ∙ w.if-eq.false)
]

pub returns-clause-value : goal.returns-clause-value
returns-clause-value c =
    c.loop-e.invariant
    ∙ ap (λ l. c.args.terms.now.items ++ l) (picked_all (out_of c.args.i.0) (asked c.args.lib.now) (length c.args.lib.now.components) c.edges-edge-items.result.now c.args.lib.now.edges c.loop-e.e c.edges-edge-items.ensures.rows c.loop-e-test.false)

pub returns-clause-terms : goal.returns-clause-terms
returns-clause-terms c k are =
    with_asked c.args.lib.now (out_of c.args.i.0) k c.args.terms.now.items c.loop-e.terms.items c.edges-edge-items.ensures.library are
    (c.loop-e.invariant
    ∙ ap (λ l. c.args.terms.now.items ++ l) (picked_all (out_of c.args.i.0) (asked c.args.lib.now) (length c.args.lib.now.components) c.edges-edge-items.result.now c.args.lib.now.edges c.loop-e.e c.edges-edge-items.ensures.rows c.loop-e-test.false))
