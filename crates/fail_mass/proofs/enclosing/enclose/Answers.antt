use Rattle.std.proofs.Common.{◌≡◌, ◌∙◌}
use Rattle.arch_model.specs.Mass.{enclosure_of}
use Rattle.arch_model.proofs.Boole.{mass-le-weight}
use Rattle.fail_mass.proofs.EnclosingLemmas.{same_network, exact_from, low_bound, high_bound, is_narrow, is_ordered, is_within}
use Rattle.fail_mass.proofs.enclosing.enclose.Goals as goal

exact : (c : goal.After-where_failed) → c.where_failed.result ≡ enclosure_of c.args.lib.now c.args.arch.now c.args.sink.0
exact c = exact_from c.args.lib.now c.args.arch.now c.args.sink.0 c.where_failed.result c.undecided-members.ensures.library c.requires c.new.result c.undecided-members.result c.new.ensures c.undecided-members.ensures.members
    (c.where_failed.ensures.value ∙ same_network c.new-network.result c.args.lib.now c.args.arch.now c.args.sink.0 c.new-network.ensures.lib c.new-network.ensures.arch c.new-network.ensures.sink c.new.result c.undecided-members.result)

pub returns-clause-exact : goal.returns-clause-exact
returns-clause-exact c = exact c

pub returns-clause-low : goal.returns-clause-low
returns-clause-low c = low_bound c.args.lib.now c.args.arch.now c.args.sink.0 c.where_failed.result (exact c)

pub returns-clause-high : goal.returns-clause-high
returns-clause-high c = high_bound c.args.lib.now c.args.arch.now c.args.sink.0 c.where_failed.result (exact c)

pub returns-clause-narrow : goal.returns-clause-narrow
returns-clause-narrow c = is_narrow c.args.lib.now c.args.arch.now c.args.sink.0 c.where_failed.result (exact c) c.undecided-members.ensures.library

pub returns-clause-ordered : goal.returns-clause-ordered
returns-clause-ordered c = is_ordered c.args.lib.now c.args.arch.now c.args.sink.0 c.where_failed.result (exact c)

pub returns-clause-mass_is_within_weight : goal.returns-clause-mass_is_within_weight
returns-clause-mass_is_within_weight c = mass-le-weight c.args.lib.now c.undecided-members.ensures.library c.args.arch.now c.requires c.args.sink.0

pub returns-clause-low_is_within_weight : goal.returns-clause-low_is_within_weight
returns-clause-low_is_within_weight c = is_within c.args.lib.now c.args.arch.now c.args.sink.0 c.where_failed.result (exact c) c.undecided-members.ensures.library c.requires
