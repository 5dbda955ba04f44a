use Rattle.archex_app.proofs.Pieces.{on_ok_map, on_err_map, on_err_holds}
use Rattle.archex_app.proofs.LogLaws.{log_whole, log_front, kept_front}
use Rattle.archex_app.proofs.log_file.write_log.Goals as goal

pub returns-in_err-fresh-clause-part : goal.returns-in_err-fresh-clause-part
returns-in_err-fresh-clause-part g c = on_err_holds c.from_residual-in_err-fresh.result (kept_front _ _ _ c.in_err-fresh.ensures.left)

pub returns-clause-whole : goal.returns-clause-whole
returns-clause-whole g c = on_ok_map c.write_lines.result (log_whole _ _ c.args.problem.now c.args.limit _ _ _ _ _ c.in_ok-buffer.ensures c.in_ok-fresh.ensures.empty) c.write_lines.ensures.whole

pub returns-clause-part : goal.returns-clause-part
returns-clause-part g c = on_err_map c.write_lines.result (log_front _ _ _ c.args.problem.now c.args.limit _ _ _ _ _ c.in_ok-buffer.ensures c.in_ok-fresh.ensures.empty) c.write_lines.ensures.part
