use Rattle.std.proofs.Common.{sym, ◌∙◌}
use Rattle.std.proofs.lemmas.List.{take_all}
use Rattle.std.proofs.lemmas.List.Elements.{All-more, All-same}
use Rattle.arch_model.specs.Pattern.{MeetsPattern}
use Rattle.patterns.proofs.pattern.first_broken.Goals as goal

pub loop-k-preserved : goal.loop-k-preserved
loop-k-preserved c = All-more (MeetsPattern c.args.lib.now c.args.arch.now) c.patterns-patterns.result.now c.loop-k.k _ c.loop-k-test.true c.loop-k.invariant (c.meets_pattern.ensures.0 c.if-not-meets_pattern.false)

pub returns-clause-none : goal.returns-clause-none
returns-clause-none c = All-same (MeetsPattern c.args.lib.now c.args.arch.now) c.args.lib.now.patterns _ (sym (take_all c.loop-k.k c.patterns-patterns.result.now c.loop-k-test.false ∙ c.patterns-patterns.ensures.rows)) c.loop-k.invariant
