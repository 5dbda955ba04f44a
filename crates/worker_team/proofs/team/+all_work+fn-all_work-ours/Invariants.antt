-- Fewer numbers are left in each thread's call.
use Rattle.std.proofs.Common.{◌+◌, ◌*◌}
use Rattle.worker_team.proofs.team.+all_work+fn-all_work-ours.Given as goal

abbrev pub decreases-all_work : goal.decreases-all_work
decreases-all_work g l = 2 * l.left + 1

abbrev pub decreases-ours : goal.decreases-ours
decreases-ours g l = 2 * l.left
