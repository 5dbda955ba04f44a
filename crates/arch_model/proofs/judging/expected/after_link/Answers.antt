use Rattle.std.proofs.Common.{◌++◌, nat_eq, cond, [], length, take, get_or, ap, sym, ◌∙◌, arith}
use Rattle.std.proofs.lemmas.List.{take_all}
use Rattle.arch_model.specs.Template.{instances_of, edges_to}
use Rattle.arch_model.proofs.Ranges.{blank_component}
use Rattle.arch_model.proofs.Fronts.{edges_from, tails_grow, begins_next, takes_next, passes_over, chosen_if, left_out_if}
use Rattle.arch_model.proofs.judging.expected.after_link.Goals as goal
use Rattle.arch_model.proofs.judging.expected.after_link.Goals.{then-component-link+in_ok-rest, else-component-link}

pub returns-in_err-rest-clause-none : goal.returns-in_err-rest-clause-none
returns-in_err-rest-clause-none c rest all =
    let link = c.args.link.now in let components = c.args.components.now in let tail = c.loop-tail.tail in
    let next = begins_next (λ i. edges_from components link (instances_of (take i components) link.from)) (λ i. cond (nat_eq (get_or components i blank_component).of link.from) (edges_to link i (instances_of components link.to)) [])
    (length components) tail (tails_grow components link blank_component) c.loop-tail-test.true c.args.list.now rest c.loop-tail.rest.now c.loop-tail.invariant
    (all ∙ ap (λ l. edges_from components link (instances_of l link.from) ++ rest) (sym (take_all (length components) components (omega arith)))) in
    let no = c.in_err-rest.ensures.none next.0 (next.1 ∙ ap (λ l. l ++ next.0) (chosen_if (get_or components tail blank_component).of link.from (edges_to link tail (instances_of components link.to)) c.if-component-link.true)) in absurd cc

pub loop-tail-preserved : goal.loop-tail-preserved
loop-tail-preserved c =
    let link = c.args.link.now in let components = c.args.components.now in let tail = c.loop-tail.tail in
    elim c.if-component-link.branch [
      | then-component-link+in_ok-rest w ↦
          takes_next (λ i. edges_from components link (instances_of (take i components) link.from)) (λ i. cond (nat_eq (get_or components i blank_component).of link.from) (edges_to link i (instances_of components link.to)) [])
          (length components) tail (tails_grow components link blank_component) c.loop-tail-test.true c.args.list.now c.loop-tail.rest.now c.if-component-link.rest.now c.loop-tail.invariant
          (w.in_ok-rest.ensures.some ∙ ap (λ r. edges_to link tail (instances_of components link.to) ++ r.now) (sym w.rest-is) ∙ ap (λ l. l ++ c.if-component-link.rest.now) (sym (chosen_if (get_or components tail blank_component).of link.from (edges_to link tail (instances_of components link.to)) w.if-component-link.true)))
      | else-component-link w ↦
          passes_over (λ i. edges_from components link (instances_of (take i components) link.from)) (λ i. cond (nat_eq (get_or components i blank_component).of link.from) (edges_to link i (instances_of components link.to)) [])
          (length components) tail (tails_grow components link blank_component) c.loop-tail-test.true c.args.list.now c.loop-tail.rest.now c.if-component-link.rest.now c.loop-tail.invariant
          (left_out_if (get_or components tail blank_component).of link.from (edges_to link tail (instances_of components link.to)) w.if-component-link.false) (ap (λ r. r.now) w.rest-is)
    ]
