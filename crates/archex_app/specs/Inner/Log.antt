-- For the code's own contracts: how far a text was appended to a file.
use Rattle.std.specs.Prelude.{◌≡◌, ℕ, Option, List, [], ◌∷◌, ◌++◌, Result, Ok, Err, IfSome, Contains}
use Rattle.std.specs.Cow.{cow_slice_items}
use Rattle.std.specs.List.{flat_map}
use Rattle.outside.specs.Faults.{Rose, ChangesOnly}
use Rattle.outside.specs.Told.{Appends}
use Rattle.search_core.specs.declared.entry.Entry.{Entry}
use Rattle.proof_log.specs.Value.{ended, entry_text}
use Rattle.archex_app.specs.declared.status.Status.{Status}
use Rattle.archex_app.specs.declared.outcome.Outcome.{Outcome}
use Rattle.archex_app.specs.declared.writing.WriteError.{WriteError}
use Rattle.archex_app.specs.declared.writing.WriteError.TheVariants.{Memory, Failed}
use Rattle.archex_app.specs.Status.{status_of, write_fault, no_memory}
use Rattle.archex_app.specs.Files.{names_of, IsCutAt}
use Rattle.archex_app.specs.Inner.Outcome.{Printed}

-- the lines of entries
abbrev pub entry_lines : List Entry → List ℕ
entry_lines entries = flat_map (λ e. ended (entry_text e)) entries

-- a front of a text was appended to a file, and this is left of it
pub record IsAppended (before now : Option (List ℕ)) (text left : List ℕ) : Type 0 where
  pub done : List ℕ
  pub parts : text ≡ done ++ left
  pub appended : Appends before now done

-- some front of a text was
abbrev pub IsAppendedSome : Option (List ℕ) → Option (List ℕ) → List ℕ → Type 0
IsAppendedSome before now text = (left : List ℕ) × IsAppended before now text left

-- two files hold two texts, where they are told
abbrev pub HoldBoth : (List ℕ → Option (List ℕ)) → List ℕ → List ℕ → List ℕ → List ℕ → Type 0
HoldBoth now first first_text second second_text = IfSome (now first) (λ bytes. bytes ≡ first_text) × IfSome (now second) (λ bytes. bytes ≡ second_text)

-- files were written up to one of them; where a write failed, the count of that one rose, and no other
pub record IsCut (failed : Type 0) (files : List (List ℕ × List ℕ)) (before now : List ℕ → Option (List ℕ)) (faults_before faults_now : List ℕ → ℕ) : Type 0 where
  pub name : List ℕ
  pub due : Contains (names_of files) name
  pub cut : IsCutAt name files before now
  pub rose : failed → Rose (faults_before name) (faults_now name)
  pub alone : failed → ChangesOnly (name ∷ []) faults_before faults_now

-- how a run ends with an outcome once its files were written, or weren't: only after whole files is anything printed
abbrev pub Concludes : {T : Type 0} → Result T WriteError → Outcome → Status → Option (List ℕ) → Option (List ℕ) → ℕ → ℕ → Type 0
Concludes (Ok x) outcome status before now faults_before faults_now = Printed outcome.status (cow_slice_items outcome.text) status before now faults_before faults_now
Concludes (Err Failed) outcome status before now faults_before faults_now = (status ≡ status_of write_fault) × (now ≡ before) × (faults_now ≡ faults_before)
Concludes (Err Memory) outcome status before now faults_before faults_now = (status ≡ status_of no_memory) × (now ≡ before) × (faults_now ≡ faults_before)
