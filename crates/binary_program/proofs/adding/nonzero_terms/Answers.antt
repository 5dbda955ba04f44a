use Rattle.std.proofs.Common.{ap, ◌∙◌}
use Rattle.binary_program.proofs.BuildSums.{nonzero_yes, nonzero_no}
use Rattle.binary_program.proofs.adding.nonzero_terms.Goals as goal
use Rattle.binary_program.proofs.adding.nonzero_terms.Goals.{then-coef-ne0+in_ok-push, else-coef-ne0}

pub loop-v-preserved : goal.loop-v-preserved
loop-v-preserved c = elim c.if-coef-ne0.branch [
  | then-coef-ne0+in_ok-push w ↦
      nonzero_yes c.args.coefs.now c.loop-v.v c.loop-v.terms.items c.if-coef-ne0.terms.items c.requires.small c.loop-v-test.true c.loop-v.invariant (ap (λ v. v.items) w.terms-is ∙ w.in_ok-push.ensures.items) w.if-coef-ne0.true
  | else-coef-ne0 w ↦ nonzero_no c.args.coefs.now c.loop-v.v c.loop-v.terms.items c.if-coef-ne0.terms.items c.requires.small c.loop-v-test.true c.loop-v.invariant (ap (λ v. v.items) w.terms-is) w.if-coef-ne0.false
]
