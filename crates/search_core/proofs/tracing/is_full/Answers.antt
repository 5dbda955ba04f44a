use Rattle.std.proofs.Common.{◌≡◌, true, refl, ap, ◌∙◌, arith, below_more}
use Rattle.arch_model.specs.Set.{has}
use Rattle.arch_model.specs.Member.{member_count}
use Rattle.search_core.proofs.JudgedTests.{fixed_there}
use Rattle.search_core.proofs.tracing.is_full.Goals as goal

pub loop-i-init : goal.loop-i-init
loop-i-init c v short = absurd (omega arith)

pub loop-i-preserved : goal.loop-i-preserved
loop-i-preserved c = below_more (λ v. has c.args.cube.now.fixed v ≡ true) c.loop-i.i c.loop-i.invariant (fixed_there c.args.cube.now c.loop-i.i c.value.result c.if-is_none.ensures c.value.ensures)

pub returns : goal.returns
returns c =
    let count : c.variable_count-i-end.result ≡ member_count c.args.problem.now.library = c.variable_count-i-end.ensures.count ∙ ap member_count c.library.ensures.library in
    ((λ t v short. c.loop-i.invariant v (omega (arith, count, short, c.loop-i-test.false))), (λ full. refl))
