use Rattle.std.proofs.Common.{[], ap, ◌∙◌, arith, eq-eqb}
use Rattle.arch_model.proofs.Ranges.{blank_component}
use Rattle.rows.proofs.Costs.{unlike}
use Rattle.binary_program.proofs.BuildLists.{items_yes, items_no}
use Rattle.binary_program.proofs.BuildTerms.{of_type, var_of, numbers_all, variables_all}
use Rattle.binary_program.proofs.terms.instances.Goals as goal
use Rattle.binary_program.proofs.terms.instances.Goals.{then-component-t+in_ok-push, else-component-t}

pub loop-c-preserved : goal.loop-c-preserved
loop-c-preserved c = elim c.if-component-t.branch [
  | then-component-t+in_ok-push w ↦
      items_yes (of_type c.args.t) var_of 0 c.components-component-items.result.now c.loop-c.c c.loop-c.c blank_component [] c.loop-c.vars.items c.if-component-t.vars.items c.loop-c-test.true (omega arith) c.loop-c.invariant
      (ap (λ v. v.items) w.vars-is ∙ w.in_ok-push.ensures.items) (eq-eqb _ _ w.if-component-t.true)
  | else-component-t w ↦
      items_no (of_type c.args.t) var_of 0 c.components-component-items.result.now c.loop-c.c c.loop-c.c blank_component [] c.loop-c.vars.items c.if-component-t.vars.items c.loop-c-test.true (omega arith) c.loop-c.invariant
      (ap (λ v. v.items) w.vars-is) (unlike _ _ w.if-component-t.false)
]

pub returns-clause-value : goal.returns-clause-value
returns-clause-value c = numbers_all (of_type c.args.t) 0 c.components-component-items.result.now c.args.lib.now.components c.loop-c.c c.loop-c.vars.items c.components-component-items.ensures.rows c.loop-c-test.false c.loop-c.invariant

pub returns-clause-variables : goal.returns-clause-variables
returns-clause-variables c =
    variables_all (of_type c.args.t) 0 _ _ c.components-component-items.result.now c.args.lib.now.components c.loop-c.c c.loop-c.vars.items c.components-component-items.ensures.rows c.loop-c-test.false c.loop-c.invariant
    (omega arith) c.components-component-items.ensures.library.few_components
