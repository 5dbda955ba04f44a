-- Who searches, put into the words of a command.
use Rattle.std.specs.Prelude.{ℕ, nat_le, if◌then◌else◌, Result, Ok, Err}
use Rattle.archex_app.specs.Words.{SolveWords, Asked, solve}

-- who searches, by the words of `solve`: how many workers there are, and how many of them are analysts
pub record Team : Type 0 where
  pub workers : SolveWords → ℕ
  pub analysts : SolveWords → ℕ

-- one worker, who is an analyst, whatever the words say
abbrev pub alone : Team
alone = record { workers = λ ask. 1; analysts = λ ask. 1 }

-- so many of these workers are analysts, as the words say; but a single worker is one
abbrev pub analysts_among : ℕ → ℕ → ℕ
analysts_among workers analysts = if nat_le workers 1 then 1 else analysts

-- as many workers and analysts as the words say; but a single worker is an analyst
abbrev pub as_asked : Team
as_asked = record { workers = λ ask. ask.workers; analysts = λ ask. analysts_among ask.workers ask.analysts }

-- the words of `solve` with a team's numbers in place of their own
abbrev pub by_team : Team → SolveWords → SolveWords
by_team team ask = record { lib = ask.lib; log = ask.log; branchings = ask.branchings; workers = team.workers ask; analysts = team.analysts ask }

-- a command with a team's numbers, where it is `solve`; the others are as they were
abbrev pub asked_by : Team → Asked → Asked
asked_by team (solve ask) = solve (by_team team ask)
asked_by team other = other

-- the command that words are, with a team's numbers; refused words are as they were
abbrev pub searched_by : Team → Result Asked ℕ → Result Asked ℕ
searched_by team (Ok asked) = Ok (asked_by team asked)
searched_by team (Err place) = Err place
