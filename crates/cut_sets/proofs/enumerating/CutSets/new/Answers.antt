use Rattle.std.proofs.Common.{◌∙◌, inl, inr}
use Rattle.cut_sets.specs.CutSets.{cut_sets_of}
use Rattle.cut_sets.proofs.Starts.{start_is, start_place}
use Rattle.cut_sets.proofs.enumerating.CutSets.new.Goals as goal
use Rattle.cut_sets.proofs.enumerating.CutSets.new.Goals.{then-first, else-first}

pub invariant_of-result : goal.invariant_of-result
invariant_of-result c = (
  c.new-network.ensures.network,
  start_place c.new-network.result c.new-network.ensures.network c.new-2.result c.if-first.at c.new-2.ensures (elim c.if-first.branch [ then-first w ↦ inl w.at-is | else-first w ↦ inr w.at-is ]),
)

pub returns-clause-sets : goal.returns-clause-sets
returns-clause-sets c =
    start_is c.new-network.result c.new-network.ensures.network c.new-2.result c.if-first.at c.new.result c.cuts-first.result c.cuts-first.ensures c.new.ensures c.new-2.ensures
    (elim c.if-first.branch [ then-first w ↦ inl (w.if-first.true, w.at-is) | else-first w ↦ inr (w.if-first.false, w.at-is) ])
    ∙ (λ i. cut_sets_of (c.new-network.ensures.lib i) (c.new-network.ensures.arch i) (c.new-network.ensures.sink i))
