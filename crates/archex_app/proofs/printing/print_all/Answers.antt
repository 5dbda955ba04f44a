use Rattle.std.proofs.Common.{take, drop, sym, refl, ◌∙◌, arith}
use Rattle.std.proofs.lemmas.List.{take-append-drop}
use Rattle.archex_app.proofs.Pieces.{appends_no_more, print_more, print_within, on_err_holds}
use Rattle.archex_app.proofs.printing.print_all.Goals as goal

pub returns-in_err-printed-clause-cut : goal.returns-in_err-printed-clause-cut
returns-in_err-printed-clause-cut g c =
    let n = c.loop-printed.printed in
    let text = c.args.text.now in
    on_err_holds c.from_residual.result (take n text, drop n text, sym (take-append-drop n text), appends_no_more _ _ _ _ c.loop-printed.invariant.printed c.in_err-printed.ensures.added)

pub loop-printed-preserved : goal.loop-printed-preserved
loop-printed-preserved g c = record {
  within = print_within c.loop-printed.printed c.in_ok-printed.field-0 c.args.text.now c.loop-printed.invariant.within c.in_ok-printed.ensures.within;
  printed = print_more _ _ _ c.loop-printed.printed c.in_ok-printed.field-0 c.args.text.now _ refl c.loop-printed.invariant.printed c.in_ok-printed.ensures.added;
  never_falls = omega (arith, c.loop-printed.invariant.never_falls, c.in_ok-printed.ensures.never_falls);
  stays = c.in_ok-printed.ensures.stays ∙ c.loop-printed.invariant.stays;
}
