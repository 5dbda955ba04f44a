-- Who searches changes no file's name, no ending and no refusal of a command.
use Rattle.std.proofs.Common.{◌≡◌, ℕ, false, true, List, ◌⊎◌, Ok, Err, IsErr, Result, refl, ap, subst, ◌∙◌}
use Rattle.std.specs.Prelude.{Contains}
use Rattle.outside.specs.Faults.{Rose, ChangesOnly}
use Rattle.outside.specs.Told.{Appends}
use Rattle.report.specs.Refusal.{refused_words_text}
use Rattle.archex_app.specs.declared.status.Status.{Status}
use Rattle.archex_app.specs.Words.{Asked, solve, check, weigh, cuts, probability, template, rows, generate, files_of, files_read, files_written, ReadsLibrary}
use Rattle.archex_app.specs.Team.{Team, asked_by, searched_by}
use Rattle.archex_app.specs.Endings.{endings_for, MayEnd}
use Rattle.archex_app.specs.Status.{Ending, status_of, words_refused, read_fault, write_fault}
use Rattle.archex_app.specs.Run.{Seen, RoseAmong, OthersKeep, Runs}
use Rattle.archex_app.proofs.RunLaws.{runs_as}
use Rattle.archex_app.proofs.AllRuns.{run_of_words, refused_first, refused, may_end, read_among, write_rose}

-- the files that it reads and writes, and its endings
pub same_read : (team : Team) (command : Result Asked ℕ) → files_of files_read (searched_by team command) ≡ files_of files_read command
same_read team (Ok (solve ask)) = refl
same_read team (Ok (check lib log)) = refl
same_read team (Ok (weigh lib arch)) = refl
same_read team (Ok (cuts lib arch sink)) = refl
same_read team (Ok (probability lib arch sink)) = refl
same_read team (Ok (template lib)) = refl
same_read team (Ok (rows lib)) = refl
same_read team (Ok (generate ask)) = refl
same_read team (Err place) = refl

pub same_written : (team : Team) (command : Result Asked ℕ) → files_of files_written (searched_by team command) ≡ files_of files_written command
same_written team (Ok (solve ask)) = refl
same_written team (Ok (check lib log)) = refl
same_written team (Ok (weigh lib arch)) = refl
same_written team (Ok (cuts lib arch sink)) = refl
same_written team (Ok (probability lib arch sink)) = refl
same_written team (Ok (template lib)) = refl
same_written team (Ok (rows lib)) = refl
same_written team (Ok (generate ask)) = refl
same_written team (Err place) = refl

same_endings : (team : Team) (command : Result Asked ℕ) → endings_for (searched_by team command) ≡ endings_for command
same_endings team (Ok (solve ask)) = refl
same_endings team (Ok (check lib log)) = refl
same_endings team (Ok (weigh lib arch)) = refl
same_endings team (Ok (cuts lib arch sink)) = refl
same_endings team (Ok (probability lib arch sink)) = refl
same_endings team (Ok (template lib)) = refl
same_endings team (Ok (rows lib)) = refl
same_endings team (Ok (generate ask)) = refl
same_endings team (Err place) = refl

same_fault : (team : Team) (command : Result Asked ℕ) → IsErr command → IsErr (searched_by team command)
same_fault team (Ok asked) err = let e : false ≡ true = err in cc
same_fault team (Err place) err = refl

pub same_library : (team : Team) (command : Result Asked ℕ) (lib : List ℕ) → ReadsLibrary command lib → ReadsLibrary (searched_by team command) lib
same_library team command lib reads = (reads.0, same_read team command ∙ reads.1)

-- the words' command
pub words_run : (team : Team) (command read : Result Asked ℕ) (status : Status) (before now : Seen) → command ≡ read → Runs (searched_by team read) status before now → Runs (searched_by team command) status before now
words_run team command read status before now is run = runs_as (searched_by team command) (searched_by team read) status before now (ap (searched_by team) is) run

-- a run of words that a team searches
module _ (team : Team) (command : Result Asked ℕ) (status : Status) (before now : Seen) (run : Runs (searched_by team command) status before now) where
  -- where they ask for a command, it is a run of that
  pub its_run : (asked : Asked) → command ≡ Ok asked → Runs (Ok (asked_by team asked)) status before now
  its_run asked is = run_of_words (searched_by team command) (asked_by team asked) status before now (ap (searched_by team) is) run

  -- refused words
  pub first_refused : IsErr command → (status ≡ status_of words_refused) ⊎ (status ≡ status_of write_fault)
  first_refused err = refused_first (searched_by team command) status before now run (same_fault team command err)

  pub words_are_refused : (place : ℕ) → command ≡ Err place → status ≡ status_of words_refused → Appends before.printed now.printed (refused_words_text place)
  words_are_refused place is four = refused (searched_by team command) place status before now (ap (searched_by team) is) run four

  -- its endings
  pub ends_so : MayEnd command status
  ends_so = let P : List Ending → Type 0 = λ es. (ending : Ending) × Contains es ending × (status ≡ status_of ending) in subst P (same_endings team command) (may_end (searched_by team command) status before now run)

  -- its faults
  pub read_rose_among : status ≡ status_of read_fault → RoseAmong (files_of files_read command) before.reads now.reads
  read_rose_among is = let P : List (List ℕ) → Type 0 = λ names. RoseAmong names before.reads now.reads in subst P (same_read team command) (read_among (searched_by team command) status before now run is)

  pub write_rose_among : status ≡ status_of write_fault → Rose before.prints now.prints ⊎ RoseAmong (files_of files_written command) before.writes now.writes
  write_rose_among is = let P : List (List ℕ) → Type 0 = λ names. Rose before.prints now.prints ⊎ RoseAmong names before.writes now.writes in subst P (same_written team command) (write_rose (searched_by team command) status before now run is)

  pub reads_alone : ChangesOnly (files_of files_read command) before.reads now.reads
  reads_alone = let P : List (List ℕ) → Type 0 = λ names. ChangesOnly names before.reads now.reads in subst P (same_read team command) run.goes.reads_alone

  pub writes_alone : ChangesOnly (files_of files_written command) before.writes now.writes
  writes_alone = let P : List (List ℕ) → Type 0 = λ names. ChangesOnly names before.writes now.writes in subst P (same_written team command) run.goes.writes_alone

  pub others_keep : OthersKeep (files_of files_written command) before now
  others_keep = let P : List (List ℕ) → Type 0 = λ names. OthersKeep names before now in subst P (same_written team command) run.goes.kept
