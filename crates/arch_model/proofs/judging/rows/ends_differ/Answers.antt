use Rattle.std.proofs.Common.{◌≡◌, ◌≢◌, get_or, rules}
use Rattle.std.proofs.lemmas.List.{get_or_default}
use Rattle.arch_model.specs.declared.library.LinkRow.{LinkRow}
use Rattle.arch_model.proofs.Fronts.{blank_link}
use Rattle.arch_model.proofs.Pairs.{pairs_more, pairs_at, pairs_done}
use Rattle.arch_model.proofs.judging.rows.ends_differ.Goals as goal

pub returns-then-not-has_new_ends : goal.returns-then-not-has_new_ends
returns-then-not-has_new_ends c = (λ never. absurd cc, λ all. absurd (let yes = c.has_new_ends.ensures.1 (pairs_at (λ (a b : LinkRow). a.from ≡ b.from → a.to ≢ b.to) c.args.links.now c.loop-i.i (get_or c.args.links.now c.loop-i.i blank_link) c.loop-i-test.true (get_or_default c.args.links.now c.loop-i.i blank_link (get_or c.args.links.now c.loop-i.i blank_link) c.loop-i-test.true) all) in cc))

pub loop-i-preserved : goal.loop-i-preserved
loop-i-preserved c = pairs_more (λ (a b : LinkRow). a.from ≡ b.from → a.to ≢ b.to) c.args.links.now c.loop-i.i (get_or c.args.links.now c.loop-i.i blank_link) c.loop-i-test.true (get_or_default c.args.links.now c.loop-i.i blank_link (get_or c.args.links.now c.loop-i.i blank_link) c.loop-i-test.true) c.loop-i.invariant (c.has_new_ends.ensures.0 c.if-not-has_new_ends.false)

pub returns : goal.returns
returns c = (λ _. pairs_done (λ (a b : LinkRow). a.from ≡ b.from → a.to ≢ b.to) c.args.links.now c.loop-i.i c.loop-i-test.false c.loop-i.invariant, λ _. search rules)
