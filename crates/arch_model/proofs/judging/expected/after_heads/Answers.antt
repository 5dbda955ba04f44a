use Rattle.std.proofs.Common.{◌++◌, ◌&&◌, not, nat_eq, cond, [], ◌∷◌, length, take, get_or, ap, sym, ◌∙◌, arith}
use Rattle.std.proofs.lemmas.List.{take_all}
use Rattle.arch_model.specs.Template.{instances_of, edge_of, edges_to}
use Rattle.arch_model.proofs.Ranges.{blank_component}
use Rattle.arch_model.proofs.Fronts.{heads_grow, begins_next, takes_next, passes_over, head_if, no_head_if_other, no_head_if_self}
use Rattle.arch_model.proofs.judging.expected.after_heads.Goals as goal
use Rattle.arch_model.proofs.judging.expected.after_heads.Goals.{then-component-link+then-head-tail+in_ok-rest, else-component-link, else-component-link-via-then-component-link+else-head-tail, else-component-link-via-else-component-link}

pub returns-in_err-rest-clause-none : goal.returns-in_err-rest-clause-none
returns-in_err-rest-clause-none c rest all =
    let link = c.args.link.now in let tail = c.args.tail in let components = c.args.components.now in let head = c.loop-head.head in
    let next = begins_next (λ i. edges_to link tail (instances_of (take i components) link.to)) (λ i. cond (nat_eq (get_or components i blank_component).of link.to && not (nat_eq i tail)) (edge_of link tail i ∷ []) [])
    (length components) head (heads_grow link tail components blank_component) c.loop-head-test.true c.args.list.now rest c.loop-head.rest.now c.loop-head.invariant
    (all ∙ ap (λ l. edges_to link tail (instances_of l link.to) ++ rest) (sym (take_all (length components) components (omega arith)))) in
    let no = c.in_err-rest.ensures.none next.0 (next.1 ∙ ap (λ l. l ++ next.0) (head_if (get_or components head blank_component).of link.to head tail (edge_of link tail head ∷ []) c.if-component-link.true c.if-head-tail.true)) in absurd cc

pub loop-head-preserved : goal.loop-head-preserved
loop-head-preserved c =
    let link = c.args.link.now in let tail = c.args.tail in let components = c.args.components.now in let head = c.loop-head.head in
    let over = passes_over (λ i. edges_to link tail (instances_of (take i components) link.to)) (λ i. cond (nat_eq (get_or components i blank_component).of link.to && not (nat_eq i tail)) (edge_of link tail i ∷ []) [])
    (length components) head (heads_grow link tail components blank_component) c.loop-head-test.true c.args.list.now c.loop-head.rest.now c.if-component-link.rest.now c.loop-head.invariant in
    elim c.if-component-link.branch [
      | then-component-link+then-head-tail+in_ok-rest w ↦
          takes_next (λ i. edges_to link tail (instances_of (take i components) link.to)) (λ i. cond (nat_eq (get_or components i blank_component).of link.to && not (nat_eq i tail)) (edge_of link tail i ∷ []) [])
          (length components) head (heads_grow link tail components blank_component) c.loop-head-test.true c.args.list.now c.loop-head.rest.now c.if-component-link.rest.now c.loop-head.invariant
          (w.in_ok-rest.ensures.some ∙ ap (λ r. edge_of link tail head ∷ r.now) (sym w.rest-is) ∙ ap (λ l. l ++ c.if-component-link.rest.now) (sym (head_if (get_or components head blank_component).of link.to head tail (edge_of link tail head ∷ []) w.if-component-link.true w.if-head-tail.true)))
      | else-component-link w ↦ elim w.else-component-link.branch [
        | else-component-link-via-then-component-link+else-head-tail w' ↦ over (no_head_if_self (get_or components head blank_component).of link.to head tail (edge_of link tail head ∷ []) w'.if-head-tail.false) (ap (λ r. r.now) w.rest-is)
        | else-component-link-via-else-component-link w' ↦ over (no_head_if_other (get_or components head blank_component).of link.to head tail (edge_of link tail head ∷ []) w'.if-component-link.false) (ap (λ r. r.now) w.rest-is)
      ]
    ]
