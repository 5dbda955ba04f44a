use Rattle.std.proofs.Common.{◌∙◌, [], ◌∷◌}
use Rattle.proof_log.specs.Value.{ended, closing_text}
use Rattle.archex_app.specs.Inner.Log.{entry_lines}
use Rattle.archex_app.proofs.Pieces.{on_err_holds}
use Rattle.archex_app.proofs.WritingRuns.{alone_from}
use Rattle.archex_app.proofs.LogLaws.{lines_cut, lines_left, last_cut, some_entries, whole_entries}
use Rattle.archex_app.proofs.log_file.write_lines.Goals as goal

pub returns-in_err-push_entries-clause-part : goal.returns-in_err-push_entries-clause-part
returns-in_err-push_entries-clause-part g c =
    let old = c.args.buffer.now.items in
    let solved = c.args.solved.now in
    on_err_holds c.from_residual.result
    (lines_cut _ _ old (entry_lines solved.history.entries) (ended (closing_text solved.answer solved.branchings solved.cuts))
    (some_entries _ _ old c.entries.result.now solved.history.entries c.entries.ensures c.in_err-push_entries.ensures.part))

pub returns-in_err-closing-clause-part : goal.returns-in_err-closing-clause-part
returns-in_err-closing-clause-part g c =
    let old = c.args.buffer.now.items in
    let solved = c.args.solved.now in
    on_err_holds c.from_residual-in_err-closing.result
    (lines_left _ _ old (entry_lines solved.history.entries) (ended (closing_text solved.answer solved.branchings solved.cuts)) c.push_entries.new.buffer.items
    (whole_entries _ _ old c.push_entries.new.buffer.items c.entries.result.now solved.history.entries c.entries.ensures c.in_ok-push_entries.ensures.whole))

pub returns-in_err-append_all-clause-part : goal.returns-in_err-append_all-clause-part
returns-in_err-append_all-clause-part g c =
    let old = c.args.buffer.now.items in
    let solved = c.args.solved.now in
    on_err_holds c.from_residual-in_err-append_all.result
    (last_cut _ _ _ old (entry_lines solved.history.entries) (ended (closing_text solved.answer solved.branchings solved.cuts)) c.push_entries.new.buffer.items c.as_slice.result.now
    (whole_entries _ _ old c.push_entries.new.buffer.items c.entries.result.now solved.history.entries c.entries.ensures c.in_ok-push_entries.ensures.whole) (c.as_slice.ensures.value ∙ c.in_ok-closing.ensures.ok) c.in_err-append_all.ensures.part)

pub returns-in_err-append_all-clause-writes_alone : goal.returns-in_err-append_all-clause-writes_alone
returns-in_err-append_all-clause-writes_alone g c = alone_from (c.args.name.now ∷ []) _ _ _ c.in_ok-push_entries.ensures.writes_stay c.append_all.ensures.writes_alone
