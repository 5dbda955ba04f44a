-- How a run goes, said once for all commands: what it comes to, which fault cuts it short, and what it leaves.
use Rattle.std.specs.Prelude.{◌≡◌, ◌≤◌, ℕ, Option, List, [], ◌∷◌, ◌++◌, ◌⊎◌, Result, IsErr, All, Contains}
use Rattle.outside.specs.Faults.{Rose, NeverFall, Stay, ChangesOnly}
use Rattle.outside.specs.Told.{Appends}
use Rattle.archex_app.specs.declared.status.Status.{Status}
use Rattle.archex_app.specs.Status.{Ending, status_of, read_fault, write_fault, no_memory}
use Rattle.archex_app.specs.Due.{Due, ends, unread, IsSettled}
use Rattle.archex_app.specs.Words.{Asked, files_of, files_read, files_written}
use Rattle.archex_app.specs.ComesTo.{ComesTo}
use Rattle.archex_app.specs.Files.{names_of, IsWhole, IsCutAt}

-- what is seen of a shelf and a sink at a moment: the bytes under each name and those that were printed, where they are told, and the counts of faults
pub record Seen : Type 0 where
  pub told : List ℕ → Option (List ℕ)
  pub reads : List ℕ → ℕ
  pub writes : List ℕ → ℕ
  pub printed : Option (List ℕ)
  pub prints : ℕ

-- what is seen, from its parts
abbrev pub seen : (List ℕ → Option (List ℕ)) → (List ℕ → ℕ) → (List ℕ → ℕ) → Option (List ℕ) → ℕ → Seen
seen told reads writes printed prints = record { told = told; reads = reads; writes = writes; printed = printed; prints = prints }

-- names other than these keep their bytes
abbrev pub OthersKeep : List (List ℕ) → Seen → Seen → Type 0
OthersKeep names before now = (name : List ℕ) → (Contains names name → ⊥) → now.told name ≡ before.told name

-- the files hold what is due, where they are told, and other names what they held
pub record HoldsAll (files : List (List ℕ × List ℕ)) (before now : Seen) : Type 0 where
  pub whole : All (λ (file : List ℕ × List ℕ). IsWhole (now.told file.0) file.1) files
  pub others : OthersKeep (names_of files) before now

-- the files were written one after another up to that of this name, and other names hold what they held
pub record HoldsUpTo (name : List ℕ) (files : List (List ℕ × List ℕ)) (before now : Seen) : Type 0 where
  pub cut : IsCutAt name files before.told now.told
  pub others : OthersKeep (names_of files) before now

-- a front of the text was printed
abbrev pub PrintsFrontOf : List ℕ → Seen → Seen → Type 0
PrintsFrontOf text before now = (front : List ℕ) × (rest : List ℕ) × (text ≡ front ++ rest) × Appends before.printed now.printed front

-- no count of faults changed
pub record IsCalm (before now : Seen) : Type 0 where
  pub reads : Stay before.reads now.reads
  pub writes : Stay before.writes now.writes
  pub prints : now.prints ≡ before.prints

-- the count of one of these names rose
abbrev pub RoseAmong : List (List ℕ) → (List ℕ → ℕ) → (List ℕ → ℕ) → Type 0
RoseAmong names before now = (name : List ℕ) × Contains names name × Rose (before name) (now name)

-- the run ended as something that the words come to: its text was printed whole, and its files hold what is due
pub record EndsAsDue (Comes : Due → Type 0) (status : Status) (before now : Seen) : Type 0 where
  pub ending : Ending
  pub settled : IsSettled ending
  pub ended_so : status ≡ status_of ending
  pub files : List (List ℕ × List ℕ)
  pub text : List ℕ
  pub due : Comes (ends ending files text)
  pub printed : Appends before.printed now.printed text
  pub holds : HoldsAll files before now
  pub calm : IsCalm before now

-- a file that was to be read couldn't be: its count of read faults rose and no other, and nothing was printed or written
pub record FailsToRead (Comes : Due → Type 0) (status : Status) (before now : Seen) : Type 0 where
  pub ended_so : status ≡ status_of read_fault
  pub name : List ℕ
  pub due : Comes (unread name)
  pub rose : Rose (before.reads name) (now.reads name)
  pub reads : ChangesOnly (name ∷ []) before.reads now.reads
  pub writes : Stay before.writes now.writes
  pub prints : now.prints ≡ before.prints
  pub printed : now.printed ≡ before.printed
  pub kept : (other : List ℕ) → now.told other ≡ before.told other

-- one of the files couldn't be written whole: its count of write faults rose and no other, the files were written up to it, and nothing was printed
pub record FailsAtFile (files : List (List ℕ × List ℕ)) (before now : Seen) : Type 0 where
  pub name : List ℕ
  pub due : Contains (names_of files) name
  pub rose : Rose (before.writes name) (now.writes name)
  pub writes : ChangesOnly (name ∷ []) before.writes now.writes
  pub prints : now.prints ≡ before.prints
  pub printed : now.printed ≡ before.printed
  pub holds : HoldsUpTo name files before now

-- the text couldn't be printed whole: the sink's count rose, a front of the text was printed, and the files hold what is due
pub record FailsAtText (files : List (List ℕ × List ℕ)) (text : List ℕ) (before now : Seen) : Type 0 where
  pub rose : Rose before.prints now.prints
  pub writes : Stay before.writes now.writes
  pub printed : PrintsFrontOf text before now
  pub holds : HoldsAll files before now

-- a write failed of something that was due: of a file, or of the text
pub record FailsToWrite (Comes : Due → Type 0) (status : Status) (before now : Seen) : Type 0 where
  pub ended_so : status ≡ status_of write_fault
  pub ending : Ending
  pub files : List (List ℕ × List ℕ)
  pub text : List ℕ
  pub due : Comes (ends ending files text)
  pub cause : FailsAtFile files before now ⊎ FailsAtText files text before now
  pub reads : Stay before.reads now.reads

-- there was no memory: nothing was printed, and no file was changed, or the files were written up to one of them
pub record WantsMemory (Comes : Due → Type 0) (status : Status) (before now : Seen) : Type 0 where
  pub ended_so : status ≡ status_of no_memory
  pub printed : now.printed ≡ before.printed
  pub holds : ((name : List ℕ) → now.told name ≡ before.told name)
      ⊎ ((ending : Ending) × (files : List (List ℕ × List ℕ)) × (text : List ℕ) × Comes (ends ending files text) × (name : List ℕ) × HoldsUpTo name files before now)
  pub calm : IsCalm before now

-- a run of which this may come, and which reads and writes these files alone
pub record IsRun (Comes : Due → Type 0) (read written : List (List ℕ)) (status : Status) (before now : Seen) : Type 0 where
  -- it ends in one of four ways
  pub ended : EndsAsDue Comes status before now ⊎ (FailsToRead Comes status before now ⊎ (FailsToWrite Comes status before now ⊎ WantsMemory Comes status before now))
  -- no other read or write count changes, other names than those that it writes keep their bytes, and no count falls
  pub reads_alone : ChangesOnly read before.reads now.reads
  pub writes_alone : ChangesOnly written before.writes now.writes
  pub kept : OthersKeep written before now
  pub reads_never_fall : NeverFall before.reads now.reads
  pub writes_never_fall : NeverFall before.writes now.writes
  pub never_falls : before.prints ≤ now.prints

-- a run of a command that was read from the words, or of words that are refused, which takes no memory
pub record Runs (command : Result Asked ℕ) (status : Status) (before now : Seen) : Type 0 where
  pub goes : IsRun (ComesTo before.told command) (files_of files_read command) (files_of files_written command) status before now
  pub refuses : IsErr command → status ≡ status_of no_memory → ⊥
