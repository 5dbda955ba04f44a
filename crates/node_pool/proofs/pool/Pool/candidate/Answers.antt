use Rattle.std.proofs.Common.{◌≡◌, Some, subst}
use Rattle.std.specs.FinMap.{get}
use Rattle.rows.specs.Parts.{CubeParts}
use Rattle.search_core.specs.Node.{Node, IsCandidateCube}
use Rattle.search_core.specs.Candidate.{candidate_of}
use Rattle.search_core.specs.Parts.{HasCandidateAt}
use Rattle.search_core.proofs.Options.{from_if_some}
use Rattle.node_pool.specs.Parts.{PoolParts}
use Rattle.node_pool.proofs.Handing.{candidate_at}
use Rattle.node_pool.proofs.pool.Pool.candidate.Goals as goal

pub returns : goal.returns
returns c =
    let P : PoolParts → Type 0 = λ p. (n : Node) (cube : CubeParts) → get p.state.nodes c.args.node ≡ Some n → IsCandidateCube n cube → c.unwrap.result ≡ candidate_of p.problem.library cube in
    let told = from_if_some (HasCandidateAt c.self.inside.state c.args.node) c.candidate.result c.unwrap.result c.candidate.ensures.some c.unwrap.ensures in
    subst P c.self.view_is (candidate_at c.self.inside.problem c.self.inside.state c.self.invariant.0 c.args.node c.unwrap.result told)
