use Rattle.worker_team.proofs.team.ended.Goals as goal

pub returns-clause-solved : goal.returns-clause-solved
returns-clause-solved c = let rounds = c.in_ok-finish_alone.ensures in record { after = c.finish_alone.new.pool; same = rounds.same; rest = rounds.rest; left = c.left_of.ensures }
