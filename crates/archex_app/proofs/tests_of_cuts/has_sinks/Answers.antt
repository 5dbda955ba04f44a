use Rattle.std.proofs.Common.{List, IsTrue, subst, arith}
use Rattle.std.specs.List.{All}
use Rattle.arch_model.specs.declared.library.Requirement.{Requirement}
use Rattle.arch_model.specs.Set.{Set, has}
use Rattle.archex_app.proofs.tests_of_cuts.has_sinks.Goals as goal

pub returns : goal.returns
returns c h =
    let P : Set → List Requirement → Type 0 = λ s rows. All (λ r. IsTrue (has s r.sink.0)) rows in
    subst (P c.args.arch.now.comps) c.requirements-requirements.ensures.rows
    (subst (λ (s : Set). P s c.requirements-requirements.result.now) c.comps-comps.ensures (λ k d short. c.loop-r.invariant k d (omega (arith, short, c.loop-r-test.false))))
