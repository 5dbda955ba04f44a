-- What a printed text shows of the bytes of a library.
use Rattle.std.specs.Prelude.{◌≡◌, ℕ, Option, List, ◌++◌, ◌⊎◌, Ok, Err, IfSome}
use Rattle.arch_model.specs.Admissible.{IsAdmissible}
use Rattle.arch_model.specs.Parts.{LibraryParts, ArchitectureParts}
use Rattle.incumbent.specs.declared.best.Best.{Best}
use Rattle.outside.specs.Told.{Appends}
use Rattle.lib_read.specs.LibraryOf.{library_of}
use Rattle.arch_csv.specs.ArchitectureOf.{architecture_of_bytes}
use Rattle.arch_csv.specs.declared.fault.ArchFault.{ArchFault}
use Rattle.archex_app.specs.Cheapest.{IsCheapest}
use Rattle.report.specs.Report.{optimal_text, infeasible_text, node_limit_text}
use Rattle.report.specs.Refusal.{refused_library_text, refused_architecture_text, refused_words_text}
use Rattle.archex_app.specs.Mass.{IsSinkNamed}
use Rattle.lib_read.specs.declared.fault.LibFault.{LibFault}

-- the bytes are a library, and the text is the report of an admissible architecture of least cost
pub record ShowsCheapest (bytes text : List ℕ) : Type 0 where
  pub lib : LibraryParts
  pub read : library_of bytes ≡ Ok lib
  pub arch : ArchitectureParts
  pub cheapest : IsCheapest lib arch
  pub branchings : ℕ
  pub cuts : ℕ
  pub report : text ≡ optimal_text lib arch branchings cuts

-- the bytes are a library, none of whose architectures is admissible
pub record ShowsInfeasible (bytes text : List ℕ) : Type 0 where
  pub lib : LibraryParts
  pub read : library_of bytes ≡ Ok lib
  pub none_meets : (arch : ArchitectureParts) → IsAdmissible lib arch → ⊥
  pub branchings : ℕ
  pub cuts : ℕ
  pub report : text ≡ infeasible_text branchings cuts

-- the bytes are a library, and the text says that all the branchings of a limit were made, with an admissible architecture or none
pub record ShowsNodeLimit (limit : ℕ) (bytes text : List ℕ) : Type 0 where
  pub lib : LibraryParts
  pub read : library_of bytes ≡ Ok lib
  pub best : Option Best
  pub admissible : IfSome best (λ found. IsAdmissible lib found.architecture)
  pub cuts : ℕ
  pub report : text ≡ node_limit_text lib best limit cuts

-- the bytes are no library, and the text names their first fault
pub record ShowsRefusal (bytes text : List ℕ) : Type 0 where
  pub fault : LibFault
  pub refused : library_of bytes ≡ Err fault
  pub report : text ≡ refused_library_text fault

-- the bytes are a library and no architecture of it, and the text names their first fault
pub record RefusesArchitecture (lib_bytes arch_bytes text : List ℕ) : Type 0 where
  pub lib : LibraryParts
  pub lib_read : library_of lib_bytes ≡ Ok lib
  pub fault : ArchFault
  pub refused : architecture_of_bytes lib arch_bytes ≡ Err fault
  pub report : text ≡ refused_architecture_text fault

-- the bytes are a library and an architecture of it, no component of role sink has the name, and the text refuses the words for its place
pub record RefusesSink (name lib_bytes arch_bytes text : List ℕ) : Type 0 where
  pub lib : LibraryParts
  pub lib_read : library_of lib_bytes ≡ Ok lib
  pub arch : ArchitectureParts
  pub arch_read : architecture_of_bytes lib arch_bytes ≡ Ok arch
  pub none : (sink : ℕ) → IsSinkNamed lib name sink → ⊥
  pub report : text ≡ refused_words_text 4

-- a text that shows one of the four
abbrev pub ShowsReport : ℕ → List ℕ → List ℕ → Type 0
ShowsReport limit bytes text = ShowsCheapest bytes text ⊎ (ShowsInfeasible bytes text ⊎ (ShowsNodeLimit limit bytes text ⊎ ShowsRefusal bytes text))

-- a text was printed whole that shows a fact of a file's bytes: those that the shelf tells, or where it tells none, some bytes, of which nothing more is said
pub record Prints (Shows : List ℕ → List ℕ → Type 0) (file_told before now : Option (List ℕ)) : Type 0 where
  pub bytes : List ℕ
  pub told : IfSome file_told (λ all. bytes ≡ all)
  pub text : List ℕ
  pub shows : Shows bytes text
  pub printed : Appends before now text

-- such a fact of the bytes of a library and of another file
pub record PrintsOver (Shows : List ℕ → List ℕ → List ℕ → Type 0) (lib_told file_told before now : Option (List ℕ)) : Type 0 where
  pub lib : List ℕ
  pub lib_bytes : IfSome lib_told (λ all. lib ≡ all)
  pub file : List ℕ
  pub file_bytes : IfSome file_told (λ all. file ≡ all)
  pub text : List ℕ
  pub shows : Shows lib file text
  pub printed : Appends before now text

-- the front of a text that shows a fact of a file's bytes was printed
pub record PrintsFront (Shows : List ℕ → List ℕ → Type 0) (file_told before now : Option (List ℕ)) : Type 0 where
  pub bytes : List ℕ
  pub told : IfSome file_told (λ all. bytes ≡ all)
  pub front : List ℕ
  pub rest : List ℕ
  pub shows : Shows bytes (front ++ rest)
  pub printed : Appends before now front
