use Rattle.node_pool.proofs.Exactly.{nothing_exactly, done_exactly}
use Rattle.node_pool.proofs.pool.Pool.take.Goals as goal

pub returns-clause-nothing : goal.returns-clause-nothing
returns-clause-nothing c = nothing_exactly c.args.self.now c.hand_out.new.self c.args.worker c.hand_out.result c.hand_out.ensures.work

pub returns-clause-done : goal.returns-clause-done
returns-clause-done c = done_exactly c.args.self.now c.hand_out.new.self c.args.worker c.hand_out.result c.hand_out.ensures.work
