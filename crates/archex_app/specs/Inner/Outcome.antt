-- For the code's own contracts: what a command comes to before anything is printed.
use Rattle.std.specs.Prelude.{◌≡◌, ℕ, Option, List, [], ◌∷◌, ◌++◌, ◌⊎◌, Result, Ok, Err, IfSome}
use Rattle.std.specs.Cow.{cow_slice_items}
use Rattle.outside.specs.Faults.{Rose, Stay, ChangesOnly}
use Rattle.outside.specs.Told.{Appends}
use Rattle.arch_model.specs.Parts.{LibraryParts, ArchitectureParts}
use Rattle.search_core.specs.Rules.{weights_of}
use Rattle.report.specs.Weighing.{IsFirstBroken, weigh_text}
use Rattle.archex_app.specs.declared.status.Status.{Status}
use Rattle.archex_app.specs.declared.reading.ReadError.{ReadError}
use Rattle.archex_app.specs.declared.reading.ReadError.TheVariants.{Memory, Failed}
use Rattle.archex_app.specs.declared.outcome.Outcome.{Outcome}
use Rattle.archex_app.specs.declared.outcome.Stop.{Stop}
use Rattle.archex_app.specs.declared.outcome.Stop.TheVariants.{NoMemory, Unread, Refused}
use Rattle.archex_app.specs.Status.{Ending, status_of, words_refused, read_fault, write_fault, no_memory}
use Rattle.report.specs.Refusal.{refused_words_text}
use Rattle.archex_app.specs.Mass.{IsSinkNamed}
use Rattle.archex_app.specs.Due.{Due, ends, unread, IsSettled}

-- a stop for the same cause as a read's
abbrev pub stop_of : ReadError → Stop
stop_of Memory = NoMemory
stop_of Failed = Unread

-- it may come of the run, as the way in which it ends
pub record IsOutcome (Comes : Due → Type 0) (outcome : Outcome) : Type 0 where
  pub ending : Ending
  pub settled : IsSettled ending
  pub ended_so : outcome.status ≡ status_of ending
  pub due : Comes (ends ending [] (cow_slice_items outcome.text))

-- what comes of a command's reads and its job, over the read counts before and after
abbrev pub Settles : (Due → Type 0) → Result Outcome Stop → (List ℕ → ℕ) → (List ℕ → ℕ) → Type 0
Settles Comes (Ok outcome) before now = IsOutcome Comes outcome × Stay before now
Settles Comes (Err (Refused outcome)) before now = IsOutcome Comes outcome × Stay before now
Settles Comes (Err Unread) before now = (name : List ℕ) × Comes (unread name) × Rose (before name) (now name) × ChangesOnly (name ∷ []) before now
Settles Comes (Err NoMemory) before now = Stay before now

-- a text was printed whole, with its status; or a front of it, since a write failed
abbrev pub Printed : Status → List ℕ → Status → Option (List ℕ) → Option (List ℕ) → ℕ → ℕ → Type 0
Printed due text status before now faults_before faults_now =
    ((status ≡ due) × Appends before now text × (faults_now ≡ faults_before))
    ⊎ ((status ≡ status_of write_fault) × Rose faults_before faults_now × ((front : List ℕ) × (rest : List ℕ) × (text ≡ front ++ rest) × Appends before now front))

-- how a run ends with what came
abbrev pub Finishes : Result Outcome Stop → Status → Option (List ℕ) → Option (List ℕ) → ℕ → ℕ → Type 0
Finishes (Ok outcome) status before now faults_before faults_now = Printed outcome.status (cow_slice_items outcome.text) status before now faults_before faults_now
Finishes (Err (Refused outcome)) status before now faults_before faults_now = Printed outcome.status (cow_slice_items outcome.text) status before now faults_before faults_now
Finishes (Err Unread) status before now faults_before faults_now = (status ≡ status_of read_fault) × (now ≡ before) × (faults_now ≡ faults_before)
Finishes (Err NoMemory) status before now faults_before faults_now = (status ≡ status_of no_memory) × (now ≡ before) × (faults_now ≡ faults_before)

-- what the bytes under a name are read as: those that are told, or where none are, some bytes
pub record IsRead {T E : Type 0} (of : List ℕ → Result T E) (told : Option (List ℕ)) (answer : Result T E) : Type 0 where
  pub bytes : List ℕ
  pub read : IfSome told (λ all. bytes ≡ all)
  pub is : of bytes ≡ answer

-- why a file wasn't read as something: its refusal is due for its fault, over the read counts before and after
abbrev pub StopsAt : {T E : Type 0} → (List ℕ → Result T E) → Ending → (E → List ℕ) → Option (List ℕ) → List ℕ → Stop → (List ℕ → ℕ) → (List ℕ → ℕ) → Type 0
StopsAt {E = E} of ending refusal told name (Refused outcome) before now =
    ((fault : E) × IsRead of told (Err fault) × (outcome.status ≡ status_of ending) × (cow_slice_items outcome.text ≡ refusal fault)) × Stay before now
StopsAt of ending refusal told name Unread before now = Rose (before name) (now name) × ChangesOnly (name ∷ []) before now
StopsAt of ending refusal told name NoMemory before now = Stay before now

-- why there is no sink of a name: the words are refused for the name's place, or there was no memory
abbrev pub StopsAtSink : LibraryParts → List ℕ → ℕ → Stop → Type 0
StopsAtSink lib name place (Refused outcome) =
    ((c : ℕ) → IsSinkNamed lib name c → ⊥) × (outcome.status ≡ status_of words_refused) × (cow_slice_items outcome.text ≡ refused_words_text place)
StopsAtSink lib name place Unread = ⊥
StopsAtSink lib name place NoMemory = Unit {0}

-- it is the text of what an architecture comes to, with the first pattern that it breaks
abbrev pub IsWeighing : LibraryParts → ArchitectureParts → List ℕ → Type 0
IsWeighing lib arch text = (broken : Option ℕ) × IsFirstBroken lib arch broken × (text ≡ weigh_text lib arch (weights_of lib arch) broken)
