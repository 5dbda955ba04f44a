use Rattle.search_core.proofs.Runs.{cuts_go_on}
use Rattle.search_core.proofs.laws.cuts_only_grow.Goals as goal

pub returns : goal.returns
returns c problem old new entries steps = cuts_go_on problem entries old new steps
