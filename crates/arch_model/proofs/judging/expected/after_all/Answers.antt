use Rattle.std.proofs.Common.{◌++◌, length, take, get_or, ap, sym, ◌∙◌, arith}
use Rattle.std.proofs.lemmas.List.{take_all}
use Rattle.arch_model.specs.Template.{components_of, instances_of_type}
use Rattle.arch_model.proofs.Fronts.{components_grow, begins_next, takes_next}
use Rattle.arch_model.proofs.judging.expected.after_all.Goals as goal

pub returns-in_err-rest-clause-none : goal.returns-in_err-rest-clause-none
returns-in_err-rest-clause-none c rest all =
    let row = c.index-types-t.result in
    let next = begins_next (λ i. components_of (take i c.args.types.now)) (λ i. instances_of_type i (get_or c.args.types.now i row))
    (length c.args.types.now) c.loop-t.t (components_grow c.args.types.now row) c.loop-t-test.true c.args.list.now rest c.loop-t.rest.now c.loop-t.invariant
    (all ∙ ap (λ l. components_of l ++ rest) (sym (take_all (length c.args.types.now) c.args.types.now (omega arith)))) in
    let no = c.in_err-rest.ensures.none next.0 (next.1 ∙ ap (λ r. instances_of_type c.loop-t.t r ++ next.0) (sym c.index-types-t.is)) in absurd cc

pub loop-t-preserved : goal.loop-t-preserved
loop-t-preserved c =
    let row = c.index-types-t.result in
    takes_next (λ i. components_of (take i c.args.types.now)) (λ i. instances_of_type i (get_or c.args.types.now i row))
    (length c.args.types.now) c.loop-t.t (components_grow c.args.types.now row) c.loop-t-test.true c.args.list.now c.loop-t.rest.now c.in_ok-rest.rest.now c.loop-t.invariant
    (c.in_ok-rest.ensures.some ∙ ap (λ r. instances_of_type c.loop-t.t r ++ c.in_ok-rest.rest.now) c.index-types-t.is)
