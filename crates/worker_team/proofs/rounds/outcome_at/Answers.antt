use Rattle.std.proofs.Common.{sym, subst}
use Rattle.std.specs.Prelude.{IfOk}
use Rattle.rows.specs.Parts.{KnownParts}
use Rattle.rows.specs.Cube.{IsCubeBelow}
use Rattle.rows.specs.Known.{IsKnown, variables}
use Rattle.branch_worker.specs.Outcome.{IsOutcome}
use Rattle.node_pool.proofs.Ready.{ticket_is_known, ticket_is_below}
use Rattle.worker_team.proofs.rounds.outcome_at.Goals as goal

pub job-requires-clause-known : goal.job-requires-clause-known
job-requires-clause-known c =
    let pool = c.problem_in-problem.ensures in
    subst IsKnown (sym c.known_at-known.ensures) (ticket_is_known c.args.pool.now pool.right pool.rows pool.pool c.args.ticket.now c.requires)

pub job-requires-clause-below : goal.job-requires-clause-below
job-requires-clause-below c =
    let pool = c.problem_in-problem.ensures in
    let P : KnownParts → Type 0 = λ known. IsCubeBelow (variables known) c.args.ticket.now.cube in
    subst P (sym c.known_at-known.ensures) (ticket_is_below c.args.pool.now pool.right pool.rows pool.pool c.args.ticket.now c.requires)

pub returns : goal.returns
returns c =
    let P : KnownParts → Type 0 = λ known. IfOk c.job.result (IsOutcome known c.args.ticket.now.cube) in
    subst P c.known_at-known.ensures c.job.ensures
