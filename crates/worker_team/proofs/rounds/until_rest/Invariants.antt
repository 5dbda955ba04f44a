-- All rounds are over one pool's problem, base and team, its flag stays, and each leaves less room for entries.
use Rattle.worker_team.specs.Inner.Rounds.{GoesOn}
use Rattle.worker_team.proofs.RoundLaws.{room_left}
use Rattle.worker_team.proofs.rounds.until_rest.Given as goal

abbrev pub invariant-loop-worked : goal.invariant-loop-worked
invariant-loop-worked l = GoesOn 0 l.initial.pool l.pool

abbrev pub decreases-loop-worked : goal.decreases-loop-worked
decreases-loop-worked l = room_left l.pool
