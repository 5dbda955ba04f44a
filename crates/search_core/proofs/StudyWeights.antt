-- The weights of a candidate under study, for whoever weighs it.
use Rattle.std.proofs.Common.{◌≡◌, ℕ, List, Result, Ok, Err, IfOk, ap, ◌∙◌}
use Rattle.std.specs.FinMap.{get}
use Rattle.arch_model.specs.declared.library.Requirement.{Requirement}
use Rattle.arch_model.specs.Parts.{LibraryParts, ArchitectureParts}
use Rattle.arch_model.specs.Weight.{weight_of}
use Rattle.rows.specs.Parts.{ProblemParts}
use Rattle.search_core.specs.Candidate.{candidate_of}
use Rattle.search_core.specs.Step.{IsStudied}
use Rattle.search_core.specs.Rules.{weights_of}
use Rattle.search_core.specs.Parts.{StateParts, IsStateOf, HasStudied}
use Rattle.search_core.proofs.Determined.{same_studied}
use Rattle.search_core.proofs.Entering.{candidate_is_of}

-- the weight of a requirement's sink
abbrev pub weight_at : LibraryParts → ArchitectureParts → Requirement → ℕ
weight_at lib arch r = weight_of lib arch r.sink.0

-- what is so of the one answer is so for each study
pub for_each_study : {X E S : Type 0} (items : X → List ℕ) (res : Result X E) (a : List ℕ) (f : S → List ℕ) → IfOk res (λ w. items w ≡ a) → ((s : S) → a ≡ f s) → IfOk res (λ w. (s : S) → items w ≡ f s)
for_each_study items (Ok w) a f h same = λ s. h ∙ same s
for_each_study items (Err e) a f h same = tt

pub its_weights : (problem : ProblemParts) (now : StateParts) (worker n : ℕ) (arch : ArchitectureParts) → IsStateOf problem now → HasStudied now worker n arch → (s : IsStudied now.search worker n)
    → weights_of problem.library arch ≡ weights_of problem.library (candidate_of problem.library s.cube)
its_weights problem now worker n arch of h s =
    ap (weights_of problem.library) (h.candidate ∙ candidate_is_of problem now h.study.cube of
    ∙ ap (candidate_of problem.library) (same_studied (get now.search.nodes n) h.study.cube s.cube worker h.study.studied s.studied))
