use Rattle.rand_xoshiro.specs.SplitMix64.{mix_u64}
use Rattle.generate.proofs.GroupLemmas.{one_more, none_left}
use Rattle.generate.proofs.group.groups_of.Goals as goal

pub loop-i-preserved : goal.loop-i-preserved
loop-i-preserved c =
    one_more mix_u64 c.loop-i.i c.args.size c.loop-i.words c.next_word-word.new.self c.next_word-word.result c.loop-i.groups.items _ c.push.new.self.items c.loop-i-test.true c.next_word-word.ensures c.of_word.ensures c.in_ok-push.ensures.items c.loop-i.invariant

pub returns : goal.returns
returns c = none_left mix_u64 c.loop-i.i c.args.size c.loop-i.words c.loop-i.groups.items c.loop-i-test.false c.loop-i.invariant
