-- The checker's verdict on a log.
use Rattle.std.specs.Prelude.{ℕ, List}
use Rattle.arch_model.specs.Library.{IsLibrary}
use Rattle.arch_model.specs.Parts.{LibraryParts}
use Rattle.rows.specs.Problem.{IsProblem}
use Rattle.search_core.specs.declared.answer.Answer.{Answer}
use Rattle.proof_log.specs.Log.{Accepts}
use Rattle.log_checker.specs.declared.error.No.{No}
use Rattle.log_checker.specs.Text.{FirstBrokenLine}
use Rattle.archex_app.specs.Search.{base_problem}

-- a log passes for a library, with an answer
pub record IsPassing (lib : LibraryParts) (bytes : List ℕ) (answer : Answer) : Type 0 where
  -- the library is one, and its base rows decide its patterns
  pub library : IsLibrary lib
  pub problem : IsProblem (base_problem lib)
  pub accepts : Accepts (base_problem lib) bytes answer

-- a log's first broken line has this number, and this is the first rule that it breaks
abbrev pub IsBroken : LibraryParts → List ℕ → No → Type 0
IsBroken lib bytes refused = FirstBrokenLine (base_problem lib) bytes refused.line refused.rule
