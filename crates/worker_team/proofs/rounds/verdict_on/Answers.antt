use Rattle.std.proofs.Common.{sym, subst}
use Rattle.rows.specs.Parts.{ProblemParts}
use Rattle.rows.specs.Problem.{IsCandidate}
use Rattle.node_pool.proofs.Ready.{ticket_is_candidate}
use Rattle.worker_team.specs.Inner.Rounds.{IsVerdict}
use Rattle.worker_team.proofs.RoundLaws.{verdict_is}
use Rattle.worker_team.proofs.rounds.verdict_on.Goals as goal

pub study-requires : goal.study-requires
study-requires c =
    let pool = c.problem_in.ensures in
    let P : ProblemParts → Type 0 = λ p. IsCandidate p.library c.args.ticket.now.candidate in
    subst P (sym pool.problem) (ticket_is_candidate c.args.pool.now pool.right pool.rows pool.pool c.args.ticket.now c.requires)

pub returns : goal.returns
returns c =
    let P : ProblemParts → Type 0 = λ p. IsVerdict p.library c.args.ticket.now.candidate c.study.result in
    subst P c.problem_in.ensures.problem (verdict_is c.problem_in.result.now.library c.args.ticket.now.candidate c.study.result c.study.ensures.meets.0 c.study.ensures.cut)
