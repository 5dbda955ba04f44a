use Rattle.archex_app.proofs.WritingRuns.{both_after}
use Rattle.archex_app.proofs.SearchRuns.{generated_run, nothing_generated}
use Rattle.archex_app.proofs.generation.generate_library.Goals as goal

pub returns-in-Ok : goal.returns-in-Ok
returns-in-Ok g c = record {
  run = generated_run _ c.in-Ok.made c.write_both-written.result _ _ _ c.in-Ok.ensures
      (both_after c.write_both-written.result c.args.file.now _ c.args.log.now _ _ _ c.write_both-written.ensures.whole c.write_both-written.ensures.part c.write_both-written.ensures.told_stays c.write_both-written.ensures.reads_stay c.write_both-written.ensures.writes_never_fall
      c.write_both-written.ensures.writes_stay c.write_both-written.ensures.writes_stay_for_memory)
      c.conclude.ensures.concludes c.conclude.ensures.never_falls;
}

pub returns-in-Err : goal.returns-in-Err
returns-in-Err g c = record { run = nothing_generated _ _ }
