-- The report of an answer, from its parts, and where what is told is right.
use Rattle.std.proofs.Common.{◌≡◌, ℕ, List, [], ◌∷◌, ◌++◌, codes, map, Option, None, Some, IfSome, refl, ap, ◌∙◌, append_assoc, append-nil}
use Rattle.std.specs.List.{flat_map, zip}
use Rattle.std.specs.Fmt.{decimal}
use Rattle.arch_model.specs.declared.library.Requirement.{Requirement}
use Rattle.arch_model.specs.Parts.{LibraryParts, ArchitectureParts}
use Rattle.arch_model.specs.Architecture.{cost_of}
use Rattle.arch_model.specs.Weight.{weight_of}
use Rattle.arch_csv.specs.Text.{architecture_text}
use Rattle.incumbent.specs.declared.best.Best.{Best}
use Rattle.search_core.specs.declared.answer.Answer.{Answer}
use Rattle.search_core.specs.declared.answer.Answer.TheVariants.{Optimal, Infeasible, NodeLimit}
use Rattle.report.specs.Report.{weight_line, best_lines, counts_text, status_line, report_text, told_lines, solve_text, IsToldRight}
use Rattle.report.specs.Inner.Answers.{found_lines}
use Rattle.report.proofs.TextLaws.{weight_told}

joined : (old c a w : List ℕ) → ((old ++ c) ++ a) ++ w ≡ old ++ ((c ++ a) ++ w)
joined old c a w = simp append_assoc

-- the cost, then the architecture, then what its sinks weigh
pub found_is : (lib : LibraryParts) (best : Best) (weights : List ℕ) (old line one two three lines : List ℕ) → line ≡ codes "cost " ++ decimal best.cost ++ codes "\n" → one ≡ old ++ line → two ≡ one ++ architecture_text lib best.architecture
    → three ≡ two ++ lines → lines ≡ flat_map (weight_told lib) (zip lib.requirements weights) → three ≡ old ++ told_lines lib (Some best) weights
found_is lib best weights old line one two three lines is first second third all =
    let a = architecture_text lib best.architecture in
    let c = codes "cost " ++ decimal best.cost ++ codes "\n" in
    third
    ∙ ap (λ t. t ++ lines) (second ∙ ap (λ t. t ++ a) (first ∙ ap (λ l. old ++ l) is))
    ∙ ap (λ l. ((old ++ c) ++ a) ++ l) all
    ∙ joined old c a (flat_map (weight_told lib) (zip lib.requirements weights))

-- the first line, the best where it is shown, and the counts
pub report_parts : (lib : LibraryParts) (answer : Answer) (best : Option Best) (weights : List ℕ) (branchings cuts : ℕ) → (status_line answer ++ found_lines lib answer best weights) ++ counts_text branchings cuts ≡ solve_text lib answer best weights branchings cuts
report_parts lib (Optimal cost) best weights branchings cuts = refl
report_parts lib Infeasible best weights branchings cuts = ap (λ l. l ++ counts_text branchings cuts) (append-nil (codes "status infeasible\n"))
report_parts lib (NodeLimit incumbent) best weights branchings cuts = refl

own_lines : (lib : LibraryParts) (arch : ArchitectureParts) (rs : List Requirement) → flat_map (weight_told lib) (zip rs (map (λ r. weight_of lib arch r.sink.0) rs)) ≡ flat_map (weight_line lib arch) rs
own_lines lib arch [] = refl
own_lines lib arch (r ∷ rs) = ap (λ t. weight_line lib arch r ++ t) (own_lines lib arch rs)

-- what is told of a best is right where its cost and weights are
right_lines : (lib : LibraryParts) (best : Option Best) (weights : List ℕ) → IfSome best (IsToldRight lib weights) → told_lines lib best weights ≡ best_lines lib best
right_lines lib None weights right = refl
right_lines lib (Some best) weights right =
    ap (λ n. codes "cost " ++ decimal n ++ codes "\n" ++ architecture_text lib best.architecture ++ flat_map (weight_told lib) (zip lib.requirements weights)) right.cost
    ∙ ap (λ (ws : List ℕ). codes "cost " ++ decimal (cost_of lib best.architecture) ++ codes "\n" ++ architecture_text lib best.architecture ++ flat_map (weight_told lib) (zip lib.requirements ws)) right.weights
    ∙ ap (λ t. codes "cost " ++ decimal (cost_of lib best.architecture) ++ codes "\n" ++ architecture_text lib best.architecture ++ t) (own_lines lib best.architecture lib.requirements)

pub told_right : (lib : LibraryParts) (answer : Answer) (best : Option Best) (weights : List ℕ) (branchings cuts : ℕ) → IfSome best (IsToldRight lib weights) → solve_text lib answer best weights branchings cuts ≡ report_text lib answer best branchings cuts
told_right lib (Optimal cost) best weights branchings cuts right = ap (λ t. codes "status optimal\n" ++ t ++ counts_text branchings cuts) (right_lines lib best weights right)
told_right lib Infeasible best weights branchings cuts right = refl
told_right lib (NodeLimit incumbent) best weights branchings cuts right = ap (λ t. codes "status nodelimit\n" ++ t ++ counts_text branchings cuts) (right_lines lib best weights right)
