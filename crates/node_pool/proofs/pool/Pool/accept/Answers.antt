use Rattle.std.proofs.Common.{ap, subst, sym, ◌∙◌}
use Rattle.arch_model.specs.Parts.{LibraryParts}
use Rattle.arch_model.specs.Architecture.{IsArchitecture, cost_of}
use Rattle.node_pool.specs.Inner.Appending.{MayAppend}
use Rattle.node_pool.proofs.Outcomes.{accept_may_append}
use Rattle.node_pool.proofs.pool.Pool.accept.Goals as goal

pub cost-cost-requires : goal.cost-cost-requires
cost-cost-requires c = let P : LibraryParts → Type 0 = λ lib. IsArchitecture lib c.args.ticket.candidate in subst P (sym c.library.ensures.library) c.requires.admissible.meets.architecture

pub append-requires-clause-entry : goal.append-requires-clause-entry
append-requires-clause-entry c =
    let costs = c.cost-cost.ensures ∙ ap (λ (lib : LibraryParts). cost_of lib c.args.ticket.candidate) c.library.ensures.library in
    subst (MayAppend c.args.self.now) (sym c.accepted.ensures)
    (accept_may_append c.args.self.now c.library.ensures.pool c.args.ticket c.requires.ticket c.cost-cost.result c.requires.admissible costs)
