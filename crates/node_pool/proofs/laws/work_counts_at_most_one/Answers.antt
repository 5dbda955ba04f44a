use Rattle.node_pool.proofs.Counting.{handed_topic, handed_count}
use Rattle.node_pool.proofs.laws.work_counts_at_most_one.Goals as goal

pub returns-clause-topic : goal.returns-clause-topic
returns-clause-topic c = handed_topic

pub returns-clause-count : goal.returns-clause-count
returns-clause-count c = handed_count
