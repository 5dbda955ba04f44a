use Rattle.std.proofs.Common.{◌+◌, [], ◌∷◌}
use Rattle.arch_model.specs.Template.{instances_of_type, instance_of_type}
use Rattle.arch_model.proofs.Fronts.{instances_grow, begins_next, takes_next}
use Rattle.arch_model.proofs.judging.expected.after_instances.Goals as goal

pub returns-in_err-rest-clause-none : goal.returns-in_err-rest-clause-none
returns-in_err-rest-clause-none c rest all =
    let next = begins_next (λ i. instances_of_type c.args.t (record c.args.row.now { max = i })) (λ i. instance_of_type c.args.t c.args.row.now (i + 1) ∷ [])
    c.args.row.now.max c.loop-i.i (instances_grow c.args.t c.args.row.now) c.loop-i-test.true c.args.list.now rest c.loop-i.rest.now c.loop-i.invariant all in
    let no = c.in_err-rest.ensures.none next.0 next.1 in absurd cc

pub loop-i-preserved : goal.loop-i-preserved
loop-i-preserved c =
    takes_next (λ i. instances_of_type c.args.t (record c.args.row.now { max = i })) (λ i. instance_of_type c.args.t c.args.row.now (i + 1) ∷ [])
    c.args.row.now.max c.loop-i.i (instances_grow c.args.t c.args.row.now) c.loop-i-test.true c.args.list.now c.loop-i.rest.now c.in_ok-rest.rest.now c.loop-i.invariant c.in_ok-rest.ensures.some
