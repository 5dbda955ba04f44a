-- The log of a search of a library that was read passes.
use Rattle.std.proofs.Common.{◌≡◌, ℕ, List, Ok}
use Rattle.arch_model.specs.Parts.{LibraryParts}
use Rattle.lib_read.specs.LibraryOf.{library_of}
use Rattle.search_core.specs.declared.entry.Entry.{Entry}
use Rattle.search_core.specs.declared.answer.Answer.{Answer}
use Rattle.search_core.specs.State.{SearchState}
use Rattle.proof_log.specs.Log.{Accepts}
use Rattle.proof_log.proofs.LogsPass.{logs_pass}
use Rattle.archex_app.specs.Search.{base_problem, IsSearch, search_log}
use Rattle.archex_app.proofs.NoFailures.{no_failures}

-- its search is legal, changes no limit and has an answer, and no edge of such a library can fail
pub search_passes : (bytes : List ℕ) (lib : LibraryParts) (limit workers analysts : ℕ) (entries : List Entry) (state : SearchState) (answer : Answer) → library_of bytes ≡ Ok lib → IsSearch lib limit workers analysts entries state answer
    → Accepts (base_problem lib) (search_log lib limit entries state answer) answer
search_passes bytes lib limit workers analysts entries state answer read is =
    logs_pass (base_problem lib) limit entries state answer is.library is.problem (no_failures bytes lib read) is.legal is.no_reopen is.answers
