use Rattle.std.proofs.Common.{refl, sym, subst}
use Rattle.search_core.specs.Node.{Pending}
use Rattle.node_pool.specs.Inner.Appending.{MayAppend}
use Rattle.node_pool.proofs.Handing.{study_may_append, hands_candidate, pending_at}
use Rattle.node_pool.proofs.pool.Pool.hand_candidate.Goals as goal

pub candidate-requires : goal.candidate-requires
candidate-requires c =
    let h = c.requires.last in
    let there = pending_at c.args.self.now.state c.args.node h.node h.live h.passes in (Pending there.0, there.0, there.1, refl)

pub append-requires-clause-entry : goal.append-requires-clause-entry
append-requires-clause-entry c =
    let h = c.requires.last in
    let there = pending_at c.args.self.now.state c.args.node h.node h.live h.passes in
    subst (MayAppend c.args.self.now) (sym c.taken-entry.ensures)
    (study_may_append c.args.self.now c.library-library.ensures.pool c.args.worker c.args.node c.requires.worker there h.last c.requires.other)

pub returns : goal.returns
returns c =
    let h = c.requires.last in
    let there = pending_at c.args.self.now.state c.args.node h.node h.live h.passes in
    hands_candidate c.args.self.now c.append.new.self c.args.worker c.args.node c.candidate.result h.last c.requires.other _ c.taken-entry.ensures c.append.ensures there
    (c.candidate.ensures (Pending there.0) there.0 there.1 refl)
