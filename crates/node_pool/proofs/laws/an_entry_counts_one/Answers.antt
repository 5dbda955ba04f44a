use Rattle.node_pool.proofs.Counting.{same_topic, one_more}
use Rattle.node_pool.proofs.laws.an_entry_counts_one.Goals as goal

pub returns-clause-topic : goal.returns-clause-topic
returns-clause-topic c old new entry appends = same_topic old new appends.same

pub returns-clause-count : goal.returns-clause-count
returns-clause-count c old new entry appends = one_more old new entry appends
