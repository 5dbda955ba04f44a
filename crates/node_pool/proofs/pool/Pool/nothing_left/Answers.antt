use Rattle.std.proofs.Common.{refl, sym, ap, ◌∙◌}
use Rattle.search_core.specs.Answers.{answer_of}
use Rattle.node_pool.specs.Parts.{PoolParts}
use Rattle.node_pool.proofs.Handing.{no_rest_without}
use Rattle.node_pool.proofs.InHand.{waits}
use Rattle.node_pool.proofs.pool.Pool.nothing_left.Goals as goal

pub returns-in-None : goal.returns-in-None
returns-in-None c =
    let state = c.args.self.now.state in
    (refl, waits state c.requires.open c.requires.pending (no_rest_without state (ap (λ (p : PoolParts). answer_of p.state) (sym c.self.view_is) ∙ sym c.answer.ensures ∙ c.in-None.is)))
