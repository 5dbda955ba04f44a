-- Which status always comes, where no call of the outside failed.
use Rattle.std.specs.Prelude.{◌≡◌, ℕ, ◌^◌, ◌≤◌, List, ◌⊎◌, MatchResult}
use Rattle.arch_model.specs.Admissible.{IsAdmissible}
use Rattle.arch_model.specs.Member.{member_count}
use Rattle.arch_model.specs.Parts.{LibraryParts, ArchitectureParts}
use Rattle.generate.specs.Generated.{library_text}
use Rattle.lib_read.specs.LibraryOf.{library_of}
use Rattle.arch_csv.specs.ArchitectureOf.{architecture_of_bytes}
use Rattle.search_core.specs.declared.limits.TheConstants.{BRANCHINGS}
use Rattle.archex_app.specs.declared.status.Status.{Status}
use Rattle.archex_app.specs.Status.{status_of, done, infeasible, node_limit, library_refused, words_refused, no_memory, architecture_refused}
use Rattle.archex_app.specs.Words.{GenerateWords}
use Rattle.archex_app.specs.Mass.{IsSinkNamed}

-- a library that was read is searched under a limit of branchings, unless there was no memory: Optimal comes only where an architecture is admissible, Infeasible only where none is, and NodeLimit only where the limit is less than the number of vectors over its members
pub record Solves (lib : LibraryParts) (limit : ℕ) (status : Status) : Type 0 where
  pub ends : (status ≡ status_of done) ⊎ ((status ≡ status_of infeasible) ⊎ ((status ≡ status_of node_limit) ⊎ (status ≡ status_of no_memory)))
  pub one_meets : status ≡ status_of done → (arch : ArchitectureParts) × IsAdmissible lib arch
  pub none_meets : status ≡ status_of infeasible → (arch : ArchitectureParts) → IsAdmissible lib arch → ⊥
  pub enough : 2 ^ member_count lib ≤ limit → status ≡ status_of node_limit → ⊥

-- bytes that are a library are searched, and others are refused, unless there was no memory
abbrev pub Completes : ℕ → List ℕ → Status → Type 0
Completes limit bytes status = MatchResult (library_of bytes) (λ lib. Solves lib limit status) (λ _. (status ≡ status_of library_refused) ⊎ (status ≡ status_of no_memory))

-- bytes that are a library end with status 0, and others are refused
abbrev pub EndsOverLibrary : List ℕ → Status → Type 0
EndsOverLibrary bytes status = MatchResult (library_of bytes) (λ _. status ≡ status_of done) (λ _. status ≡ status_of library_refused)

-- bytes that are a library and an architecture of it end with status 0; bytes that aren't a library are refused, then those that aren't an architecture of it
abbrev pub EndsOverArchitecture : List ℕ → List ℕ → Status → Type 0
EndsOverArchitecture lib_bytes arch_bytes status = MatchResult (library_of lib_bytes)
    (λ lib. MatchResult (architecture_of_bytes lib arch_bytes) (λ _. status ≡ status_of done) (λ _. status ≡ status_of architecture_refused))
    (λ _. status ≡ status_of library_refused)

-- the same for a sink's name: after the files, a name that no sink has is refused
abbrev pub EndsOverSink : List ℕ → List ℕ → List ℕ → Status → Type 0
EndsOverSink name lib_bytes arch_bytes status = MatchResult (library_of lib_bytes)
    (λ lib. MatchResult (architecture_of_bytes lib arch_bytes)
    (λ _. ((status ≡ status_of done) × (sink : ℕ) × IsSinkNamed lib name sink) ⊎ ((status ≡ status_of words_refused) × ((sink : ℕ) → IsSinkNamed lib name sink → ⊥)))
    (λ _. status ≡ status_of architecture_refused))
    (λ _. status ≡ status_of library_refused)

-- one of these comes, unless there was no memory
abbrev pub UnlessNoMemory : Status → Type 0 → Type 0
UnlessNoMemory status Ends = (status ≡ status_of no_memory) ⊎ Ends

-- the text of a number is a library, which is searched under the greatest limit of branchings, unless there was no memory
abbrev pub CompletesGeneration : GenerateWords → Status → Type 0
CompletesGeneration ask status = UnlessNoMemory status (MatchResult (library_of (library_text ask.number ask.size)) (λ lib. Solves lib BRANCHINGS status) (λ _. ⊥))
