-- The parts of a report.
use Rattle.std.specs.Prelude.{ℕ, List, [], Option}
use Rattle.arch_model.specs.Parts.{LibraryParts}
use Rattle.incumbent.specs.declared.best.Best.{Best}
use Rattle.search_core.specs.declared.answer.Answer.{Answer}
use Rattle.search_core.specs.declared.answer.Answer.TheVariants.{Optimal, Infeasible, NodeLimit}
use Rattle.report.specs.Report.{told_lines}

-- the lines of the best, where an answer has them
abbrev pub found_lines : LibraryParts → Answer → Option Best → List ℕ → List ℕ
found_lines lib (Optimal cost) best weights = told_lines lib best weights
found_lines lib Infeasible best weights = []
found_lines lib (NodeLimit incumbent) best weights = told_lines lib best weights
