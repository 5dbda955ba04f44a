use Rattle.std.proofs.Common.{subst}
use Rattle.rows.specs.Known.{parts_of}
use Rattle.propagate.specs.Closed.{Closes}
use Rattle.branch_worker.proofs.Going.{dropped_for_row, offered}
use Rattle.branch_worker.proofs.working.job.Goals as goal

pub returns-in_ok-alone-in-Refuted : goal.returns-in_ok-alone-in-Refuted
returns-in_ok-alone-in-Refuted c =
    dropped_for_row (parts_of c.args.known.now) c.args.cube c.in-Refuted.cube c.in-Refuted.trace c.in-Refuted.row c.in_ok-trace.field-0 c.in_ok-alone-in-Refuted.field-0 c.in-Refuted.is
    c.in_ok-trace.ensures c.library-library.ensures.problem c.requires.known c.in_ok-alone-in-Refuted.ensures

pub returns-in-Full : goal.returns-in-Full
returns-in-Full c =
    let known = parts_of c.args.known.now in
    let told = subst (Closes known c.args.cube) c.in-Full.is c.in_ok-trace.ensures in
    offered known c.args.cube c.in-Full.cube c.in-Full.trace told.trace told.answer.0 told.answer.1
