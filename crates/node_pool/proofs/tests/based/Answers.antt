use Rattle.node_pool.proofs.Beginning.{all_open_at_start}
use Rattle.node_pool.proofs.tests.based.Goals as goal

pub from_base-requires-clause-open : goal.from_base-requires-clause-open
from_base-requires-clause-open c = all_open_at_start c.args.limit c.in_ok-base.base.search c.in_ok-base.ensures.search
