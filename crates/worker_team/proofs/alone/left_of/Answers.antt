use Rattle.worker_team.proofs.Ending.{answer_there}
use Rattle.worker_team.proofs.alone.left_of.Goals as goal

pub unwrap-answer-requires : goal.unwrap-answer-requires
unwrap-answer-requires c = answer_there c.args.pool.state c.answer.result c.answer.ensures.answer c.requires
