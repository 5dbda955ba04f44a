use Rattle.std.proofs.Common.{◌+◌, ◌-◌, ◌*◌}
use Rattle.arch_model.specs.declared.limits.TheConstants.{MEMBERS}
use Rattle.fail_mass.proofs.conditioning.+conditioning.Given as goal

abbrev pub decreases-where_failed : goal.decreases-where_failed
decreases-where_failed l = 2 * (MEMBERS - l.from) + 1

abbrev pub decreases-where_reached : goal.decreases-where_reached
decreases-where_reached l = 2 * (MEMBERS - l.from) + 1

abbrev pub decreases-split : goal.decreases-split
decreases-split l = 2 * (MEMBERS - l.from)
