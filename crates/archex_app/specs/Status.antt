-- How a run ends, and the numbers that say it.
use Rattle.std.specs.Prelude.{ℕ}
use Rattle.search_core.specs.declared.answer.Answer.{Answer}
use Rattle.search_core.specs.declared.answer.Answer.TheVariants.{Optimal, Infeasible, NodeLimit}
use Rattle.archex_app.specs.declared.status.Status.{Status}

-- how a run may end
pub data Ending : Type 0 where
  -- the command did what it is for: `solve` and `generate` found a cheapest architecture, `check` said yes to a log, and the others printed what they were asked for
  done : Ending
  -- no architecture meets the patterns and bounds
  infeasible : Ending
  -- the limit of branchings was spent before the search was over
  node_limit : Ending
  -- the library file is no library
  library_refused : Ending
  -- the words are no command, or name a sink that the library doesn't have
  words_refused : Ending
  -- a read of a file failed
  read_fault : Ending
  -- a write of a file or of the text failed
  write_fault : Ending
  -- there was no memory
  no_memory : Ending
  -- the checker says no
  log_refused : Ending
  -- the architecture file is no architecture of the library
  architecture_refused : Ending

-- the number of each, with which the program ends
abbrev pub number_of : Ending → ℕ
number_of done = 0
number_of infeasible = 1
number_of node_limit = 2
number_of library_refused = 3
number_of words_refused = 4
number_of read_fault = 5
number_of write_fault = 6
number_of no_memory = 7
number_of log_refused = 8
number_of architecture_refused = 9

-- as a status
abbrev pub status_of : Ending → Status
status_of ending = record { 0 = number_of ending }

-- how a run ends that came to an answer
abbrev pub ending_of : Answer → Ending
ending_of (Optimal cost) = done
ending_of Infeasible = infeasible
ending_of (NodeLimit incumbent) = node_limit
