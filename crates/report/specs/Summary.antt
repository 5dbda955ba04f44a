-- The search of a generated library, as `generate` prints it.
use Rattle.std.specs.Prelude.{ℕ, List, [], ◌++◌, codes, length}
use Rattle.std.specs.Fmt.{decimal}
use Rattle.arch_model.specs.Parts.{LibraryParts}
use Rattle.search_core.specs.declared.answer.Answer.{Answer}
use Rattle.search_core.specs.declared.answer.Answer.TheVariants.{Optimal, Infeasible, NodeLimit}
use Rattle.report.specs.Report.{status_line}

-- the line of the least cost, in cost units, where an answer is Optimal
abbrev pub least_cost_line : Answer → List ℕ
least_cost_line (Optimal cost) = codes "cost " ++ decimal cost ++ codes "\n"
least_cost_line Infeasible = []
least_cost_line (NodeLimit incumbent) = []

-- how many components and edges a library has
abbrev pub sizes_text : LibraryParts → List ℕ
sizes_text lib = codes "components " ++ decimal (length lib.components) ++ codes "\nedges " ++ decimal (length lib.edges) ++ codes "\n"

-- a library's sizes, the answer of its search, and the least cost
abbrev pub generated_text : LibraryParts → Answer → List ℕ
generated_text lib answer = sizes_text lib ++ status_line answer ++ least_cost_line answer
