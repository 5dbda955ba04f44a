use Rattle.std.proofs.Common.{refl, ◌∙◌, arith}
use Rattle.archex_app.proofs.Pieces.{print_more, print_within, on_err_holds}
use Rattle.archex_app.proofs.LogLaws.{appended_cut}
use Rattle.archex_app.proofs.writing.append_all.Goals as goal

pub returns-in_err-done-clause-part : goal.returns-in_err-done-clause-part
returns-in_err-done-clause-part g c = on_err_holds c.from_residual.result (appended_cut _ _ _ c.args.text.now c.loop-done.done c.loop-done.invariant.appended c.in_err-done.ensures.added)

pub loop-done-preserved : goal.loop-done-preserved
loop-done-preserved g c = record {
  within = print_within c.loop-done.done c.in_ok-done.field-0 c.args.text.now c.loop-done.invariant.within c.in_ok-done.ensures.within;
  appended = print_more _ _ _ c.loop-done.done c.in_ok-done.field-0 c.args.text.now _ refl c.loop-done.invariant.appended c.in_ok-done.ensures.added;
  told_stays = λ other ne. c.append.ensures.told_stays other ne ∙ c.loop-done.invariant.told_stays other ne;
  reads_stay = λ other. c.append.ensures.reads_stay other ∙ c.loop-done.invariant.reads_stay other;
  writes_never_fall = λ other. let a = c.loop-done.invariant.writes_never_fall other in let b = c.append.ensures.writes_never_fall other in omega arith;
  writes_stay = λ other. c.in_ok-done.ensures.writes_stay other ∙ c.loop-done.invariant.writes_stay other;
}
