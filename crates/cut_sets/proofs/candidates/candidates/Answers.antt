use Rattle.std.proofs.Common.{◌∙◌, ◌&&◌, nat_lt, ap, length, arith}
use Rattle.arch_model.specs.Member.{is_present, fail_of}
use Rattle.paths.proofs.SpreadLaws.{collect_none, collect_more, put_when, same_when}
use Rattle.cut_sets.proofs.Starts.{few_candidates, all_looked_at}
use Rattle.cut_sets.proofs.candidates.candidates.Goals as goal
use Rattle.cut_sets.proofs.candidates.candidates.Goals.{then-may_fail, else-may_fail}

pub loop-v-init : goal.loop-v-init
loop-v-init c = collect_none (λ v. is_present c.args.lib.now c.args.arch.now v && nat_lt 0 (fail_of c.args.lib.now v)) c.new-found.result c.new-found.ensures

pub loop-v-preserved : goal.loop-v-preserved
loop-v-preserved c = collect_more (λ v. is_present c.args.lib.now c.args.arch.now v && nat_lt 0 (fail_of c.args.lib.now v)) c.loop-v.found c.if-may_fail.found c.loop-v.v c.may_fail.result c.may_fail.ensures c.loop-v.invariant
    (λ d. elim c.if-may_fail.branch [
      | then-may_fail w ↦ put_when c.loop-v.found c.if-may_fail.found _ d _ w.if-may_fail.true (w.found-is ∙ w.put.ensures)
      | else-may_fail w ↦ same_when c.loop-v.found c.if-may_fail.found _ d _ w.if-may_fail.false w.found-is
    ])

pub returns-clause-each : goal.returns-clause-each
returns-clause-each c v = all_looked_at c.args.lib.now c.args.arch.now c.loop-v.found c.loop-v.v v (omega (arith, ap length c.components.ensures.rows, ap length c.edges.ensures.rows)) c.loop-v.invariant

pub returns-clause-few : goal.returns-clause-few
returns-clause-few c =
    few_candidates c.args.lib.now c.args.arch.now c.loop-v.found
    (λ v. all_looked_at c.args.lib.now c.args.arch.now c.loop-v.found c.loop-v.v v (omega (arith, ap length c.components.ensures.rows, ap length c.edges.ensures.rows)) c.loop-v.invariant)
    (omega (arith, c.components.ensures.library.few_components, c.components.ensures.library.few_edges)) c.components.ensures.library

pub returns-clause-small : goal.returns-clause-small
returns-clause-small c = omega (arith, c.components.ensures.library.few_components, c.components.ensures.library.few_edges)
