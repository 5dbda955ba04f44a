-- What the code's state says of a ticket, as the pool sees it.
use Rattle.std.proofs.Common.{ℕ, Bool, ◌∙◌}
use Rattle.arch_model.specs.Parts.{ArchitectureParts}
use Rattle.rows.specs.Parts.{ProblemParts}
use Rattle.search_core.specs.Parts.{StateParts, IsStateOf, HasStudied}
use Rattle.search_core.specs.HistoryParts.{HistoryParts}
use Rattle.search_core.proofs.Entering.{candidate_is_of}
use Rattle.node_pool.specs.Parts.{pool_of}
use Rattle.node_pool.specs.Tickets.{IsStudiedFor}

pub studied_for : (problem : ProblemParts) (base state : StateParts) (history : HistoryParts) (workers analysts worker node : ℕ) (short : Bool) (candidate : ArchitectureParts) → IsStateOf problem state
    → HasStudied state worker node candidate → IsStudiedFor (pool_of problem base state history workers analysts short) (record { worker = worker; node = node; candidate = candidate })
studied_for problem base state history workers analysts worker node short candidate of h =
    record { cube = h.study.cube; studied = h.study.studied; candidate = h.candidate ∙ candidate_is_of problem state h.study.cube of }
