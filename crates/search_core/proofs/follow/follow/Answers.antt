use Rattle.std.proofs.Common.{sym, ap}
use Rattle.std.proofs.lemmas.Result.{err_from_is_err_and}
use Rattle.rows.specs.Known.{parts_of}
use Rattle.search_core.specs.Follow.{follow_trace}
use Rattle.search_core.proofs.Following.{goes_on, stops, at_end}
use Rattle.search_core.proofs.follow.follow.Goals as goal

pub loop-r-init : goal.loop-r-init
loop-r-init c = ap (follow_trace (parts_of c.args.known.now) c.args.cube) (sym c.steps-r-items.ensures)

pub loop-r-preserved : goal.loop-r-preserved
loop-r-preserved c =
    goes_on (parts_of c.args.known.now) c.args.trace.now c.steps-r-items.result.now c.args.cube c.loop-r.reached c.in_ok-reached.reached c.loop-r.r-index _ c.loop-r.invariant c.loop-r-test.true (c.in_ok-reached.ensures)

pub returns-in_err-reached : goal.returns-in_err-reached
returns-in_err-reached c =
    let p = err_from_is_err_and c.from_residual.result c.from_residual.ensures.1 in
    rw (p.1, p.2) (stops (parts_of c.args.known.now) c.args.trace.now c.steps-r-items.result.now c.args.cube c.loop-r.reached c.in_err-reached.field-0.0 c.loop-r.r-index _ c.loop-r.invariant c.loop-r-test.true c.in_err-reached.ensures)

pub returns : goal.returns
returns c = at_end (parts_of c.args.known.now) c.args.trace.now c.steps-r-items.result.now c.args.cube c.loop-r.reached c.loop-r.r-index c.loop-r.invariant c.loop-r-test.false
