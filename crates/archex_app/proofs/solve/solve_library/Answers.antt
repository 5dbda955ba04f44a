use Rattle.archex_app.proofs.WritingRuns.{file_after}
use Rattle.archex_app.proofs.SearchRuns.{searched_run, stopped_run}
use Rattle.archex_app.proofs.solve.solve_library.Goals as goal

pub returns-in-Ok : goal.returns-in-Ok
returns-in-Ok g c = record {
  run = searched_run _ c.in-Ok.reported c.write_log-written.result _ _ _ c.in-Ok.ensures.reported
      (file_after c.write_log-written.result c.args.log.now _ _ _ (g.F.Shelf.told c.report_under.new.shelf) (g.F.Shelf.read_faults c.report_under.new.shelf) (g.F.Shelf.write_faults c.report_under.new.shelf) c.report_under.ensures.told_stays c.in-Ok.ensures.reads_stay c.report_under.ensures.writes_stay
      c.write_log-written.ensures.whole c.write_log-written.ensures.part c.write_log-written.ensures.failed c.write_log-written.ensures.told_stays c.write_log-written.ensures.reads_stay c.write_log-written.ensures.writes_never_fall c.write_log-written.ensures.writes_stay c.write_log-written.ensures.writes_stay_for_memory c.write_log-written.ensures.writes_alone)
      c.conclude.ensures.concludes c.conclude.ensures.never_falls;
}

pub returns-in-Err : goal.returns-in-Err
returns-in-Err g c = record {
  run = stopped_run _ c.in-Err.stop _ _ _ c.in-Err.ensures.stop c.finish.ensures.finishes c.report_under.ensures.told_stays c.report_under.ensures.reads_never_fall c.report_under.ensures.writes_stay c.finish.ensures.never_falls;
}
