use Rattle.std.proofs.Common.{◌≡◌, true, false, sym, subst, ◌∙◌}
use Rattle.node_pool.specs.Inner.Appending.{MayAppend}
use Rattle.node_pool.proofs.Outcomes.{branch_may_append, branchings_below}
use Rattle.node_pool.proofs.pool.Pool.branch.Goals as goal

pub append-requires-clause-entry : goal.append-requires-clause-entry
append-requires-clause-entry c =
    let library = c.library-library.ensures in
    let below = branchings_below c.args.self.now library.pool library.right library.problem (λ same. let no : false ≡ true = sym c.if-is_at_limit.false ∙ c.is_at_limit.ensures.1 same in absurd cc) in
    subst (MayAppend c.args.self.now) (sym c.branched.ensures) (branch_may_append c.args.self.now library.pool c.args.ticket c.requires.ticket c.args.trace c.args.var c.requires.branch below)
