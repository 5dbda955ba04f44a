use Rattle.std.proofs.Common.{sym, refl, ◌∙◌}
use Rattle.arch_model.specs.declared.limits.TheConstants.{MEMBERS}
use Rattle.rows.specs.Known.{parts_of, variables}
use Rattle.rows.proofs.Combinations.{pair_coef, summed, combined}
use Rattle.rows.proofs.AddedUp.{zeros_at, zeros_small, pair_added, pair_small}
use Rattle.rows.proofs.together_of.combined_coefs.Goals as goal

pub loop-pair-init : goal.loop-pair-init
loop-pair-init c = record {
  sum = λ v short. zeros_at MEMBERS v;
  small = λ v short. zeros_small MEMBERS v;
}

pub loop-pair-preserved : goal.loop-pair-preserved
loop-pair-preserved c = record {
  sum = pair_added (parts_of c.args.known.now) (variables (parts_of c.args.known.now)) c.args.reason.now c.args.reason.now c.loop-pair.pair-index c.loop-pair.sums c.add_pair.new.sums refl c.requires.there c.loop-pair-test.true c.loop-pair.invariant.sum c.add_pair.ensures.value;
  small = pair_small (variables (parts_of c.args.known.now)) c.loop-pair.pair-index c.loop-pair.sums c.add_pair.new.sums c.loop-pair.invariant.small c.add_pair.ensures.small;
}

pub returns-clause-value : goal.returns-clause-value
returns-clause-value c v short =
    c.loop-pair.invariant.sum v short
    ∙ summed (pair_coef (parts_of c.args.known.now) v) c.args.reason.now c.args.reason.now c.loop-pair.pair-index refl c.loop-pair-test.false
    ∙ sym (combined (parts_of c.args.known.now) c.args.reason.now v)
