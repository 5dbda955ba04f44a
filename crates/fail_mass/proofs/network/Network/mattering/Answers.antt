use Rattle.std.proofs.Common.{◌∙◌, sym, ap, not}
use Rattle.arch_model.specs.Set.{has}
use Rattle.arch_model.specs.Member.{member_count}
use Rattle.fail_mass.proofs.OffPaths.{unreached, end_in_range, kept_same}
use Rattle.fail_mass.proofs.network.Network.mattering.Goals as goal

pub returns-then-not-has-clause-parted : goal.returns-then-not-has-clause-parted
returns-then-not-has-clause-parted c =
    sym (unreached c.args.self.now.lib.now c.args.self.now.arch.now c.requires.network.architecture c.args.self.now.sink.0 c.args.failed.now c.reached-reached.result c.reached-reached.ensures)
    ∙ ap not (sym c.has.ensures.member ∙ c.if-not-has.true)

pub above-above-requires-clause-in_range : goal.above-above-requires-clause-in_range
above-above-requires-clause-in_range c =
    let path = (c.reached-reached.ensures c.args.self.now.sink.0).0 (sym c.has.ensures.member ∙ c.if-not-has.false) in
    end_in_range c.args.self.now.lib.now c.args.self.now.arch.now c.requires.network.architecture c.args.self.now.sink.0 (has c.args.failed.now) path.0 path.1

pub returns-clause-reached : goal.returns-clause-reached
returns-clause-reached c =
    sym (unreached c.args.self.now.lib.now c.args.self.now.arch.now c.requires.network.architecture c.args.self.now.sink.0 c.args.failed.now c.reached-reached.result c.reached-reached.ensures)
    ∙ ap not (sym c.has.ensures.member ∙ c.if-not-has.false)

pub returns-clause-same : goal.returns-clause-same
returns-clause-same c i = kept_same c.args.self.now.lib.now c.args.self.now.arch.now c.requires.network.architecture c.args.self.now.sink.0 c.args.failed.now c.reached-reached.result c.above-above.result c.reached-reached.ensures c.above-above.ensures
    c.requires.network.library c.args.undecided.now c.between.result i (member_count c.args.self.now.lib.now) c.between.ensures
