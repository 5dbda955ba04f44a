use Rattle.std.proofs.Common.{◌≤◌, length, ap, arith}
use Rattle.std.proofs.lemmas.Bool.Decides.{nat_tests}
use Rattle.std.proofs.lemmas.List.{length-take}
use Rattle.row_bounds.proofs.pair_list.PairList.is_full.Goals as goal

pub returns-clause-full : goal.returns-clause-full
returns-clause-full c full =
    let far : 64 ≤ c.self.inside.count = grind (arith, nat_tests) in
    omega (arith, far, c.self.invariant.1, length-take c.self.inside.count c.self.inside.pairs, ap length c.self.view_is)
