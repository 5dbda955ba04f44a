use Rattle.std.proofs.Common.{◌++◌, ◌∷◌, [], length, refl, ap, sym, ◌∙◌, arith}
use Rattle.arch_model.proofs.Ranges.{blank_edge}
use Rattle.binary_program.proofs.BuildLists.{items_yes, items_no}
use Rattle.binary_program.proofs.BuildTerms.{of_kind, var_of, var_is, numbers_all, variables_all}
use Rattle.binary_program.proofs.terms.edges.Goals as goal
use Rattle.binary_program.proofs.terms.edges.Goals.{then-is_of_kind+in_ok-push, else-is_of_kind}

pub loop-e-preserved : goal.loop-e-preserved
loop-e-preserved c = elim c.if-is_of_kind.branch [
  | then-is_of_kind+in_ok-push w ↦
      items_yes (of_kind c.args.lib.now c.args.kind) var_of (length c.args.lib.now.components) c.edges-edge-items.result.now c.loop-e.e _ blank_edge [] c.loop-e.vars.items c.if-is_of_kind.vars.items c.loop-e-test.true refl c.loop-e.invariant
      (ap (λ v. v.items) w.vars-is ∙ w.in_ok-push.ensures.items ∙ ap (λ v. c.loop-e.vars.items ++ v ∷ []) (var_is w.edge_variable.result _ w.edge_variable.ensures)) (sym c.is_of_kind.ensures ∙ w.if-is_of_kind.true)
  | else-is_of_kind w ↦
      items_no (of_kind c.args.lib.now c.args.kind) var_of (length c.args.lib.now.components) c.edges-edge-items.result.now c.loop-e.e _ blank_edge [] c.loop-e.vars.items c.if-is_of_kind.vars.items c.loop-e-test.true refl c.loop-e.invariant
      (ap (λ v. v.items) w.vars-is) (sym c.is_of_kind.ensures ∙ w.if-is_of_kind.false)
]

pub returns-clause-value : goal.returns-clause-value
returns-clause-value c = numbers_all (of_kind c.args.lib.now c.args.kind) (length c.args.lib.now.components) c.edges-edge-items.result.now c.args.lib.now.edges c.loop-e.e c.loop-e.vars.items c.edges-edge-items.ensures.rows c.loop-e-test.false c.loop-e.invariant

pub returns-clause-variables : goal.returns-clause-variables
returns-clause-variables c =
    variables_all (of_kind c.args.lib.now c.args.kind) (length c.args.lib.now.components) _ _ c.edges-edge-items.result.now c.args.lib.now.edges c.loop-e.e c.loop-e.vars.items c.edges-edge-items.ensures.rows c.loop-e-test.false c.loop-e.invariant
    (omega arith) c.edges-edge-items.ensures.library.few_edges
