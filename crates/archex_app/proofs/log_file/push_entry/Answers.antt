use Rattle.archex_app.proofs.Pieces.{on_err_holds}
use Rattle.archex_app.proofs.LogLaws.{appended_none}
use Rattle.archex_app.proofs.log_file.push_entry.Goals as goal

pub returns-in_err-write_entry-clause-part : goal.returns-in_err-write_entry-clause-part
returns-in_err-write_entry-clause-part g c = on_err_holds c.from_residual.result (_, appended_none _ _)
