use Rattle.std.proofs.lemmas.Result.{err_from_is_err_and}
use Rattle.toml.specs.View.{view}
use Rattle.lib_read.specs.Faults.{judged_faults, limit_faults}
use Rattle.lib_read.proofs.LeastLemmas.{stops_here}
use Rattle.lib_read.proofs.PartLemmas.{judged_before}
use Rattle.lib_read.proofs.reader.library_in.Goals as goal

pub returns-in_err-names-clause-stops : goal.returns-in_err-names-clause-stops
returns-in_err-names-clause-stops c =
    let top = view c.args.top.now in
    let p = err_from_is_err_and c.from_residual.result c.from_residual.ensures.1 in
    rw (p.1, p.2) (stops_here (judged_faults top) (limit_faults top) _ (judged_before top) c.in_err-names.ensures.stops)
