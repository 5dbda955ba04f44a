use Rattle.std.proofs.Common.{sym, subst}
use Rattle.arch_model.specs.Library.{IsLibrary}
use Rattle.rows.specs.Parts.{ProblemParts}
use Rattle.rows.specs.Problem.{IsProblem, IsCandidate}
use Rattle.node_pool.specs.Parts.{PoolParts}
use Rattle.node_pool.specs.Tickets.{IsStudiedFor}
use Rattle.node_pool.proofs.tests.judge.Goals as goal

pub study-requires : goal.study-requires
study-requires c =
    let pool = c.reserve.new.self in
    let P : PoolParts → Type 0 = λ p. IsStudiedFor p c.args.ticket in
    let L : ProblemParts → Type 0 = λ p. IsLibrary p.library in
    let C : ProblemParts → Type 0 = λ p. IsCandidate p.library c.args.ticket.candidate in
    let studied : P pool = subst P (sym c.reserve.ensures.stays) (record { cube = c.requires.cube; studied = c.requires.studied; candidate = c.requires.candidate }) in
    let right : L pool.problem = subst L c.problem.ensures.problem (subst IsLibrary c.library.ensures.library c.variable_count-count.ensures.library) in
    let is : IsProblem pool.problem = subst IsProblem c.problem.ensures.problem c.library.ensures.problem in
    subst C (sym c.problem-2.ensures.problem) (c.tickets_are_ready.ensures.candidate pool c.args.ticket right is c.problem.ensures.pool studied)
