use Rattle.std.proofs.Common.{◌∙◌, arith, [], ◌∷◌}
use Rattle.archex_app.proofs.Pieces.{on_err_holds}
use Rattle.archex_app.proofs.WritingRuns.{alone_from}
use Rattle.archex_app.proofs.LogLaws.{line_appended, line_cut}
use Rattle.archex_app.proofs.log_file.push_entries.Goals as goal

pub loop-entry-preserved : goal.loop-entry-preserved
loop-entry-preserved g c = record {
  appended = line_appended _ _ _ _ _ _ c.args.entries.now c.loop-entry.entry-index c.entry-item.result c.entry-item.result c.loop-entry-test.true c.entry-item.is c.loop-entry.invariant.appended c.in_ok-push_entry.ensures.whole;
  told_stays = λ other ne. c.push_entry.ensures.told_stays other ne ∙ c.loop-entry.invariant.told_stays other ne;
  reads_stay = λ other. c.push_entry.ensures.reads_stay other ∙ c.loop-entry.invariant.reads_stay other;
  writes_never_fall = λ other. let a = c.loop-entry.invariant.writes_never_fall other in let b = c.push_entry.ensures.writes_never_fall other in omega arith;
  writes_stay = λ other. c.in_ok-push_entry.ensures.writes_stay other ∙ c.loop-entry.invariant.writes_stay other;
}

pub returns-in_err-push_entry-clause-part : goal.returns-in_err-push_entry-clause-part
returns-in_err-push_entry-clause-part g c = on_err_holds c.from_residual.result (line_cut _ _ _ _ _ c.args.entries.now c.loop-entry.entry-index c.entry-item.result c.entry-item.result c.loop-entry-test.true c.entry-item.is c.loop-entry.invariant.appended c.in_err-push_entry.ensures.part)

pub returns-in_err-push_entry-clause-writes_alone : goal.returns-in_err-push_entry-clause-writes_alone
returns-in_err-push_entry-clause-writes_alone g c = alone_from (c.args.name.now ∷ []) _ _ _ c.loop-entry.invariant.writes_stay c.push_entry.ensures.writes_alone
