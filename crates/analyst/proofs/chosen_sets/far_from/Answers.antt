use Rattle.std.proofs.Common.{◌≡◌, ℕ, Bool, ◌&&◌, not, length, sym, ap, ◌∙◌, arith}
use Rattle.arch_model.specs.Set.{has, put}
use Rattle.redundancy_cut.specs.Reaching.{reaches}
use Rattle.redundancy_cut.proofs.RowSteps.{passed, passed_none, passed_yes, passed_no}
use Rattle.analyst.proofs.ChosenSteps.{near_is}
use Rattle.analyst.proofs.chosen_sets.far_from.Goals as goal
use Rattle.analyst.proofs.chosen_sets.far_from.Goals.{then-is_far, else-is_far}

pub loop-c-init : goal.loop-c-init
loop-c-init c = c.new-far.ensures ∙ sym (passed_none (λ d. not (has c.args.set.now d) && not (reaches c.args.lib.now c.args.arch.now c.args.sink.0 (has c.args.set.now) d)))

pub loop-c-preserved : goal.loop-c-preserved
loop-c-preserved c =
    let t : ℕ → Bool = λ d. not (has c.args.set.now d) && not (reaches c.args.lib.now c.args.arch.now c.args.sink.0 (has c.args.set.now) d) in
    let same : c.is_far.result ≡ t c.loop-c.c
    = c.is_far.ensures ∙ ap (λ b. not (has c.args.set.now c.loop-c.c) && not b)
    (near_is c.args.lib.now c.components.ensures.library c.args.arch.now c.args.sink.0 c.requires.in_range (has c.args.set.now) c.ancestors-near.result c.ancestors-near.ensures c.loop-c.c) in
    elim c.if-is_far.branch [
      | then-is_far w ↦ w.far-is ∙ w.put.ensures ∙ ap (λ s. put s c.loop-c.c) c.loop-c.invariant ∙ sym (passed_yes t c.loop-c.c (sym same ∙ w.if-is_far.true))
      | else-is_far w ↦ w.far-is ∙ c.loop-c.invariant ∙ sym (passed_no t c.loop-c.c (sym same ∙ w.if-is_far.false))
    ]

pub returns : goal.returns
returns c =
    let done : c.loop-c.c ≡ length c.args.lib.now.components = omega (arith, ap length c.components.ensures.rows) in
    c.loop-c.invariant ∙ ap (passed (λ d. not (has c.args.set.now d) && not (reaches c.args.lib.now c.args.arch.now c.args.sink.0 (has c.args.set.now) d))) done
