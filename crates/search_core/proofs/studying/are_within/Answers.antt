use Rattle.std.proofs.Common.{◌≡◌, ◌≤◌, true, false, get_or, refl, ap, arith, below_more}
use Rattle.arch_model.specs.declared.library.Requirement.{Requirement}
use Rattle.search_core.proofs.JudgedTests.{blank_requirement, requirement_there, requirement_at}
use Rattle.search_core.proofs.studying.are_within.Goals as goal

pub loop-i-init : goal.loop-i-init
loop-i-init c k short = absurd (omega arith)

pub loop-i-preserved : goal.loop-i-preserved
loop-i-preserved c = below_more (λ k. get_or c.args.weights.now k 0 ≤ (get_or c.args.requirements.now k blank_requirement).bound) c.loop-i.i c.loop-i.invariant c.if-weights-i.false

pub returns-then-weights-i : goal.returns-then-weights-i
returns-then-weights-i c =
    ((λ t. absurd (let f : false ≡ true = t in cc)), (λ within. absurd (let le = within c.loop-i.i (get_or c.args.requirements.now c.loop-i.i blank_requirement) (requirement_at c.args.requirements.now c.loop-i.i blank_requirement c.loop-i-test.true) in omega (arith, le, c.if-weights-i.true))))

pub returns : goal.returns
returns c = (
  (λ t k r at.
      let there = requirement_there c.args.requirements.now k r blank_requirement at in
      let le : get_or c.args.weights.now k 0 ≤ (get_or c.args.requirements.now k blank_requirement).bound = c.loop-i.invariant k (omega (arith, there.0, c.loop-i-test.false)) in
      omega (arith, le, ap (λ (q : Requirement). q.bound) there.1)),
  (λ within. refl),
)
