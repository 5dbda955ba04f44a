use Rattle.std.proofs.Common.{refl}
use Rattle.std.proofs.lemmas.Result.{err_from_is_err_and}
use Rattle.archex_app.specs.ComesTo.{WeighingComesTo}
use Rattle.archex_app.proofs.Coming.{stops_at_library, stops_at_architecture, weighed}
use Rattle.archex_app.proofs.weigh.come_to.Goals as goal

pub returns-in_err-library-clause-settles : goal.returns-in_err-library-clause-settles
returns-in_err-library-clause-settles g c =
    let p = err_from_is_err_and c.from_residual.result c.from_residual.ensures.1 in
    rw (p.1, p.2) (stops_at_library (g.F.Shelf.told c.args.shelf.now) c.args.lib.now c.args.arch.now WeighingComesTo _ _ _ c.in_err-library.ensures.stop)

pub returns-in_err-architecture-clause-settles : goal.returns-in_err-architecture-clause-settles
returns-in_err-architecture-clause-settles g c =
    let p = err_from_is_err_and c.from_residual-in_err-architecture.result c.from_residual-in_err-architecture.ensures.1 in
    rw (p.1, p.2) (stops_at_architecture (g.F.Shelf.told c.args.shelf.now) (g.F.Shelf.told c.library_under.new.shelf) c.args.lib.now c.args.arch.now WeighingComesTo c.in_ok-library.library _ _ _ _ c.in_ok-library.ensures.library c.in_ok-library.ensures.reads_stay
    (c.in_ok-library.ensures.told_stays c.args.arch.now) c.in_err-architecture.ensures.stop)

pub returns-clause-settles : goal.returns-clause-settles
returns-clause-settles g c =
    weighed (g.F.Shelf.told c.args.shelf.now) (g.F.Shelf.told c.library_under.new.shelf) c.args.lib.now c.args.arch.now c.in_ok-library.library c.in_ok-architecture.architecture _ _ _ _ c.in_ok-library.ensures.library c.in_ok-library.ensures.reads_stay
    (c.in_ok-library.ensures.told_stays c.args.arch.now) c.in_ok-architecture.ensures.architecture c.in_ok-architecture.ensures.reads_stay refl c.in_ok-text.ensures
