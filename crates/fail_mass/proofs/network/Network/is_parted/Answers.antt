use Rattle.std.proofs.Common.{◌∙◌, ap, not}
use Rattle.fail_mass.proofs.OffPaths.{unreached}
use Rattle.fail_mass.proofs.network.Network.is_parted.Goals as goal

pub returns : goal.returns
returns c =
    ap not c.has.ensures.member
    ∙ unreached c.args.self.now.lib.now c.args.self.now.arch.now c.requires.architecture c.args.self.now.sink.0 c.args.failed.now c.reached.result c.reached.ensures
