use Rattle.std.proofs.Common.{◌≡◌, false}
use Rattle.std.proofs.lemmas.List.Elements.{recursion_from_All}
use Rattle.search_core.specs.declared.entry.Entry.{Entry}
use Rattle.search_core.specs.History.{is_reopen}
use Rattle.search_core.proofs.Counts.{branches_are_counted, cuts_are_counted, limit_stays}
use Rattle.search_core.proofs.laws.entries_are_counted.Goals as goal

pub returns-clause-branchings : goal.returns-clause-branchings
returns-clause-branchings c problem old new entries steps = branches_are_counted problem entries old new steps

pub returns-clause-cuts : goal.returns-clause-cuts
returns-clause-cuts c problem old new entries steps = cuts_are_counted problem entries old new steps

pub returns-clause-limit : goal.returns-clause-limit
returns-clause-limit c problem old new entries none steps = limit_stays problem entries old new (recursion_from_All (λ (entry : Entry). is_reopen entry ≡ false) entries none) steps
