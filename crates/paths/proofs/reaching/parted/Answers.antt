use Rattle.std.proofs.Common.{not, sym, ◌∙◌, ap, inl, inr}
use Rattle.arch_model.proofs.Members.{bool_cases, not_true}
use Rattle.paths.proofs.reaching.parted.Goals as goal

pub returns : goal.returns
returns c = (
  (λ none path leads. not_true c.has.result none (c.has.ensures.member ∙ (c.reach.ensures c.args.sink.0).1 (path, leads))),
  (λ none. elim (bool_cases c.has.result) [
    | inl reached ↦ let p = (c.reach.ensures c.args.sink.0).0 (sym c.has.ensures.member ∙ reached) in absurd (none p.0 p.1)
    | inr free ↦ ap not free
  ]),
)
