use Rattle.std.proofs.Common.{sym, ◌∙◌}
use Rattle.search_core.specs.Sought.{sought_by}
use Rattle.search_core.proofs.LastLive.{last_here}
use Rattle.search_core.proofs.nodes.last_live.Goals as goal

pub returns-then-fits-clause-some : goal.returns-then-fits-clause-some
returns-then-fits-clause-some c =
    last_here (sought_by c.args.sought) c.args.live.now c.loop-back.back c.from_end.result c.index-live-from_end.result c.loop-back-test.true c.from_end.ensures c.index-live-from_end.is (sym c.fits.ensures ∙ c.if-fits.true) c.loop-back.invariant
