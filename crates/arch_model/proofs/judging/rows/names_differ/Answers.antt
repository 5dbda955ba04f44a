use Rattle.std.proofs.Common.{◌≢◌, rules}
use Rattle.arch_model.specs.declared.library.TypeRow.{TypeRow}
use Rattle.arch_model.proofs.Pairs.{pairs_more, pairs_at, pairs_done}
use Rattle.arch_model.proofs.judging.rows.names_differ.Goals as goal

pub returns-then-not-is_new_name : goal.returns-then-not-is_new_name
returns-then-not-is_new_name c = (λ never. absurd cc, λ all. absurd (let yes = c.is_new_name.ensures.1 (pairs_at (λ (a b : TypeRow). a.name ≢ b.name) c.args.types.now c.loop-i.i c.index-types-i.result c.loop-i-test.true c.index-types-i.is all) in cc))

pub loop-i-preserved : goal.loop-i-preserved
loop-i-preserved c = pairs_more (λ (a b : TypeRow). a.name ≢ b.name) c.args.types.now c.loop-i.i c.index-types-i.result c.loop-i-test.true c.index-types-i.is c.loop-i.invariant (c.is_new_name.ensures.0 c.if-not-is_new_name.false)

pub returns : goal.returns
returns c = (λ _. pairs_done (λ (a b : TypeRow). a.name ≢ b.name) c.args.types.now c.loop-i.i c.loop-i-test.false c.loop-i.invariant, λ _. search rules)
