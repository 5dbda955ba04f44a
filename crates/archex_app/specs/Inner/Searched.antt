-- For the code's own contracts: what is kept of a search that came to its end.
use Rattle.std.specs.Prelude.{◌≡◌, ℕ, Option, List, length, Ok}
use Rattle.std.specs.Cow.{cow_slice_items}
use Rattle.arch_model.specs.Parts.{LibraryParts}
use Rattle.arch_model.specs.Architecture.{IsArchitecture, cost_of}
use Rattle.incumbent.specs.declared.best.Best.{Best}
use Rattle.generate.specs.Generated.{library_text}
use Rattle.generated.specs.GeneratedLibrary.{generated_library}
use Rattle.lib_read.specs.LibraryOf.{library_of}
use Rattle.search_core.specs.declared.limits.TheConstants.{BRANCHINGS}
use Rattle.search_core.specs.State.{SearchState}
use Rattle.proof_log.specs.Log.{log_text_of}
use Rattle.report.specs.Report.{search_report}
use Rattle.report.specs.Summary.{generated_text}
use Rattle.archex_app.specs.declared.search.Searched.{Searched}
use Rattle.archex_app.specs.declared.solve.Reported.{Reported}
use Rattle.archex_app.specs.declared.generation.Made.{Made}
use Rattle.archex_app.specs.Status.{status_of, ending_of}
use Rattle.archex_app.specs.Search.{base_problem, IsSearch}
use Rattle.archex_app.specs.ComesTo.{ALONE}
use Rattle.archex_app.specs.Inner.Outcome.{IsRead}

-- a best is an architecture of the library, with its cost
pub record HasBest (lib : LibraryParts) (found : Best) : Type 0 where
  pub architecture : IsArchitecture lib found.architecture
  pub cost : found.cost ≡ cost_of lib found.architecture

-- it is a search of this library
pub record IsSearched (lib : LibraryParts) (limit workers analysts : ℕ) (searched : Searched) : Type 0 where
  pub state : SearchState
  pub problem : searched.problem ≡ base_problem lib
  pub search : IsSearch lib limit workers analysts searched.solved.history.entries state searched.solved.answer
  pub best : searched.solved.best ≡ state.best
  pub branchings : searched.solved.branchings ≡ state.branchings
  pub cuts : searched.solved.cuts ≡ length state.cuts

-- it is one of the library of the bytes that are told, or where none are, of some library, with its report
pub record IsReportedUnder (told : Option (List ℕ)) (limit workers analysts : ℕ) (reported : Reported) : Type 0 where
  pub lib : LibraryParts
  pub read : IsRead library_of told (Ok lib)
  pub is : IsSearched lib limit workers analysts reported.searched
  pub ended_so : reported.report.status ≡ status_of (ending_of reported.searched.solved.answer)
  pub text : cow_slice_items reported.report.text ≡ search_report lib is.state reported.searched.solved.answer

-- it is the text of a number, which is a library, and a search of that, with its summary
pub record IsMade (number size : ℕ) (made : Made) : Type 0 where
  pub text : made.text.items ≡ library_text number size
  pub read : library_of (library_text number size) ≡ Ok (generated_library number size)
  pub is : IsSearched (generated_library number size) BRANCHINGS ALONE ALONE made.searched
  pub ended_so : made.summary.status ≡ status_of (ending_of made.searched.solved.answer)
  pub summary : cow_slice_items made.summary.text ≡ generated_text (generated_library number size) made.searched.solved.answer

-- the log of a search under a limit
abbrev pub log_of : ℕ → Searched → List ℕ
log_of limit s = log_text_of s.problem limit s.solved.history.entries s.solved.answer s.solved.branchings s.solved.cuts
