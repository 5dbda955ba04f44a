use Rattle.std.proofs.Common.{sym, subst}
use Rattle.search_core.specs.State.{SearchState}
use Rattle.search_core.specs.Step.{Step}
use Rattle.search_core.proofs.Entering.{state_next}
use Rattle.search_core.proofs.state.State.apply.Goals as goal

pub returns-clause-step : goal.returns-clause-step
returns-clause-step c = let P : SearchState → Type 0 = Step c.args.problem.now c.args.self.now.search c.args.entry.now in subst P (sym c.make.ensures.search) c.change_of-change.ensures.step

pub returns-clause-of : goal.returns-clause-of
returns-clause-of c =
    let P : SearchState → Type 0 = Step c.args.problem.now c.args.self.now.search c.args.entry.now in
    state_next c.args.problem.now c.args.self.now c.make.new.self c.args.entry.now c.requires.of (subst P (sym c.make.ensures.search) c.change_of-change.ensures.step) c.make.ensures.template
