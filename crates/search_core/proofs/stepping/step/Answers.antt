use Rattle.std.proofs.Common.{◌≡◌, sym, ap, subst, ◌∙◌}
use Rattle.search_core.specs.State.{SearchState}
use Rattle.search_core.specs.Step.{Step}
use Rattle.search_core.specs.Inner.Change.{changed}
use Rattle.search_core.proofs.Entering.{state_next}
use Rattle.search_core.proofs.stepping.step.Goals as goal

pub returns-clause-of : goal.returns-clause-of
returns-clause-of c =
    let made : c.make.new.self.search ≡ changed c.args.state.now.search c.in-Ok.change = c.make.ensures.search ∙ ap (λ s. changed s c.in-Ok.change) c.reserve.ensures.search in
    let P : SearchState → Type 0 = Step c.args.problem.now c.args.state.now.search c.args.entry.now in
    state_next c.args.problem.now c.args.state.now c.make.new.self c.args.entry.now c.requires.of (subst P (sym made) c.in-Ok.ensures.fits)
    (record { components = c.make.ensures.template.components ∙ c.reserve.ensures.components; edges = c.make.ensures.template.edges ∙ c.reserve.ensures.edges })
