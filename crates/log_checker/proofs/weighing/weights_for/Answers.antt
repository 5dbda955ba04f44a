use Rattle.std.proofs.Common.{IfOk, sym, subst}
use Rattle.search_core.specs.declared.entry.Entry.{Entry}
use Rattle.search_core.specs.Rules.{HasWeights}
use Rattle.log_checker.proofs.weighing.weights_for.Goals as goal

pub returns-in-Accept : goal.returns-in-Accept
returns-in-Accept c =
    let P : Entry → Type 0 = λ e. IfOk c.candidate_weights.result (λ w. HasWeights c.args.problem.now c.args.state.now.search e w.items) in
    subst P (sym c.in-Accept.is) c.candidate_weights.ensures

pub returns-in-Publish : goal.returns-in-Publish
returns-in-Publish c =
    let P : Entry → Type 0 = λ e. IfOk c.candidate_weights-in-Publish.result (λ w. HasWeights c.args.problem.now c.args.state.now.search e w.items) in
    subst P (sym c.in-Publish.is) c.candidate_weights-in-Publish.ensures
