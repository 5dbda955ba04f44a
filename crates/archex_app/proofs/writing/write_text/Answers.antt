use Rattle.archex_app.proofs.Pieces.{on_ok_map, on_err_map, on_err_holds}
use Rattle.archex_app.proofs.LogLaws.{holds_whole, holds_front, kept_front}
use Rattle.archex_app.proofs.writing.write_text.Goals as goal

pub returns-in_err-fresh-clause-part : goal.returns-in_err-fresh-clause-part
returns-in_err-fresh-clause-part g c = on_err_holds c.from_residual.result (kept_front _ _ _ c.in_err-fresh.ensures.left)

pub returns-clause-whole : goal.returns-clause-whole
returns-clause-whole g c = on_ok_map c.append_all.result (holds_whole _ _ _ c.in_ok-fresh.ensures.empty) c.append_all.ensures.whole

pub returns-clause-part : goal.returns-clause-part
returns-clause-part g c = on_err_map c.append_all.result (holds_front _ _ _ _ c.in_ok-fresh.ensures.empty) c.append_all.ensures.part
