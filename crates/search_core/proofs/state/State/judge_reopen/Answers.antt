use Rattle.std.proofs.Common.{◌≤◌, refl, arith}
use Rattle.search_core.proofs.state.State.judge_reopen.Goals as goal

pub returns-clause-fits : goal.returns-clause-fits
returns-clause-fits c =
    let not_less : c.args.self.now.search.limit ≤ c.args.limit = omega (arith, c.limit.ensures, c.if-limit.false) in record { not_less = not_less; few = c.if-limit-gt-BRANCHINGS.false; next = refl }
