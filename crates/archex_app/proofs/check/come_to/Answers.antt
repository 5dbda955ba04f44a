use Rattle.std.proofs.lemmas.Result.{err_from_is_err_and}
use Rattle.archex_app.proofs.CheckRuns.{check_comes, check_stops}
use Rattle.archex_app.proofs.SearchRuns.{library_same}
use Rattle.archex_app.proofs.check.come_to.Goals as goal

pub returns-in_err-library-clause-settles : goal.returns-in_err-library-clause-settles
returns-in_err-library-clause-settles g c =
    let p = err_from_is_err_and c.from_residual.result c.from_residual.ensures.1 in
    rw (p.1, p.2) (check_stops (g.F.Shelf.told c.args.shelf.now) c.args.lib.now c.args.log.now _ _ _ c.in_err-library.ensures.stop)

pub returns-clause-settles : goal.returns-clause-settles
returns-clause-settles g c =
    check_comes (g.F.Shelf.told c.args.shelf.now) (g.F.Shelf.told c.library_under.new.shelf) c.args.lib.now c.args.log.now c.in_ok-library.library c.in_ok-problem.problem c.judge-judged.result c.told_of.result _ _ _ c.in_ok-library.ensures.library c.in_ok-library.ensures.reads_stay
    (c.in_ok-library.ensures.told_stays c.args.log.now) c.in_ok-problem.ensures.rows (library_same _ _ c.library.ensures.library c.variable_count-count.ensures.library) c.library.ensures.problem c.judge-judged.ensures.yes c.judge-judged.ensures.halt c.judge-judged.ensures.reads_stay c.judge-judged.ensures.reads
    c.told_of.ensures
