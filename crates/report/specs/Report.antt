-- The report of a search, as bytes.
use Rattle.std.specs.Prelude.{◌≡◌, ℕ, List, ◌++◌, codes, length, Option, Some, None}
use Rattle.std.specs.Fmt.{decimal}
use Rattle.std.specs.List.{flat_map, zip}
use Rattle.arch_model.specs.declared.library.Requirement.{Requirement}
use Rattle.arch_model.specs.Parts.{LibraryParts, ArchitectureParts}
use Rattle.arch_model.specs.Architecture.{cost_of}
use Rattle.arch_model.specs.Weight.{weight_of}
use Rattle.template.specs.Names.{component_name}
use Rattle.arch_csv.specs.Text.{architecture_text}
use Rattle.incumbent.specs.declared.best.Best.{Best}
use Rattle.search_core.specs.declared.answer.Answer.{Answer}
use Rattle.search_core.specs.declared.answer.Answer.TheVariants.{Optimal, Infeasible, NodeLimit}
use Rattle.search_core.specs.State.{SearchState}
use Rattle.search_core.specs.Rules.{weights_of}

-- what a requirement's sink weighs, w, and its bound, both in units of 10^-18
abbrev pub weighed : LibraryParts → Requirement → ℕ → List ℕ
weighed lib r w = codes "weight " ++ component_name lib r.sink.0 ++ codes " " ++ decimal w ++ codes " of " ++ decimal r.bound

-- the line of a requirement: what its sink weighs in an architecture, and its bound
abbrev pub weight_line : LibraryParts → ArchitectureParts → Requirement → List ℕ
weight_line lib arch r = weighed lib r (weight_of lib arch r.sink.0) ++ codes "\n"

-- an architecture: its cost, in cost units, the text of its file, and a line for each requirement in order
abbrev pub architecture_lines : LibraryParts → ArchitectureParts → List ℕ
architecture_lines lib arch = codes "cost " ++ decimal (cost_of lib arch) ++ codes "\n" ++ architecture_text lib arch ++ flat_map (weight_line lib arch) lib.requirements

-- the best that was found, or that there is none
abbrev pub best_lines : LibraryParts → Option Best → List ℕ
best_lines lib None = codes "incumbent none\n"
best_lines lib (Some best) = architecture_lines lib best.architecture

-- how many branchings a search made, and how many cuts it learned
abbrev pub counts_text : ℕ → ℕ → List ℕ
counts_text branchings cuts = codes "branchings " ++ decimal branchings ++ codes "\ncuts " ++ decimal cuts ++ codes "\n"

-- the report of a cheapest architecture
abbrev pub optimal_text : LibraryParts → ArchitectureParts → ℕ → ℕ → List ℕ
optimal_text lib arch branchings cuts = codes "status optimal\n" ++ architecture_lines lib arch ++ counts_text branchings cuts

-- the report that none is admissible
abbrev pub infeasible_text : ℕ → ℕ → List ℕ
infeasible_text branchings cuts = codes "status infeasible\n" ++ counts_text branchings cuts

-- the report that the limit of branchings was spent, with the best until then
abbrev pub node_limit_text : LibraryParts → Option Best → ℕ → ℕ → List ℕ
node_limit_text lib best branchings cuts = codes "status nodelimit\n" ++ best_lines lib best ++ counts_text branchings cuts

-- the first line of an answer's report
abbrev pub status_line : Answer → List ℕ
status_line (Optimal cost) = codes "status optimal\n"
status_line Infeasible = codes "status infeasible\n"
status_line (NodeLimit incumbent) = codes "status nodelimit\n"

-- the report of an answer
abbrev pub report_text : LibraryParts → Answer → Option Best → ℕ → ℕ → List ℕ
report_text lib (Optimal cost) best branchings cuts = codes "status optimal\n" ++ best_lines lib best ++ counts_text branchings cuts
report_text lib Infeasible best branchings cuts = infeasible_text branchings cuts
report_text lib (NodeLimit incumbent) best branchings cuts = node_limit_text lib best branchings cuts

-- the report of a search that came to an answer
abbrev pub search_report : LibraryParts → SearchState → Answer → List ℕ
search_report lib state answer = report_text lib answer state.best state.branchings (length state.cuts)

-- a best as it is told: the cost and the weights that come with it, whatever they are
abbrev pub told_lines : LibraryParts → Option Best → List ℕ → List ℕ
told_lines lib None weights = codes "incumbent none\n"
told_lines lib (Some best) weights =
    codes "cost " ++ decimal best.cost ++ codes "\n" ++ architecture_text lib best.architecture ++ flat_map (λ p. weighed lib p.0 p.1 ++ codes "\n") (zip lib.requirements weights)

-- the report of an answer, with the best and the weights that are told
abbrev pub solve_text : LibraryParts → Answer → Option Best → List ℕ → ℕ → ℕ → List ℕ
solve_text lib (Optimal cost) best weights branchings cuts = codes "status optimal\n" ++ told_lines lib best weights ++ counts_text branchings cuts
solve_text lib Infeasible best weights branchings cuts = infeasible_text branchings cuts
solve_text lib (NodeLimit incumbent) best weights branchings cuts = codes "status nodelimit\n" ++ told_lines lib best weights ++ counts_text branchings cuts

-- a best that is told as it is: an architecture with its own cost, and the weights of its required sinks
pub record IsToldRight (lib : LibraryParts) (told : List ℕ) (best : Best) : Type 0 where
  pub cost : best.cost ≡ cost_of lib best.architecture
  pub weights : told ≡ weights_of lib best.architecture
