use Rattle.std.proofs.Common.{refl}
use Rattle.std.proofs.lemmas.Result.{err_from_is_err_and}
use Rattle.report.specs.Sets.{cuts_text}
use Rattle.archex_app.proofs.Coming.{OfSink, stops_at_library, stops_at_architecture, sink_unnamed, sink_found}
use Rattle.archex_app.proofs.cuts.come_to.Goals as goal

pub returns-in_err-library-clause-settles : goal.returns-in_err-library-clause-settles
returns-in_err-library-clause-settles g c =
    let p = err_from_is_err_and c.from_residual.result c.from_residual.ensures.1 in
    rw (p.1, p.2) (stops_at_library (g.F.Shelf.told c.args.shelf.now) c.args.lib.now c.args.arch.now (OfSink c.args.sink.now cuts_text) _ _ _ c.in_err-library.ensures.stop)

pub returns-in_err-architecture-clause-settles : goal.returns-in_err-architecture-clause-settles
returns-in_err-architecture-clause-settles g c =
    let p = err_from_is_err_and c.from_residual-in_err-architecture.result c.from_residual-in_err-architecture.ensures.1 in
    rw (p.1, p.2) (stops_at_architecture (g.F.Shelf.told c.args.shelf.now) (g.F.Shelf.told c.library_under.new.shelf) c.args.lib.now c.args.arch.now (OfSink c.args.sink.now cuts_text) c.in_ok-library.library _ _ _ _ c.in_ok-library.ensures.library c.in_ok-library.ensures.reads_stay
    (c.in_ok-library.ensures.told_stays c.args.arch.now) c.in_err-architecture.ensures.stop)

pub returns-in_err-component-clause-settles : goal.returns-in_err-component-clause-settles
returns-in_err-component-clause-settles g c =
    let p = err_from_is_err_and c.from_residual-in_err-component.result c.from_residual-in_err-component.ensures.1 in
    rw (p.1, p.2) (sink_unnamed (g.F.Shelf.told c.args.shelf.now) (g.F.Shelf.told c.library_under.new.shelf) c.args.lib.now c.args.arch.now c.args.sink.now cuts_text c.in_ok-library.library c.in_ok-architecture.architecture _ _ _ _ c.in_ok-library.ensures.library c.in_ok-library.ensures.reads_stay
    (c.in_ok-library.ensures.told_stays c.args.arch.now) c.in_ok-architecture.ensures.architecture c.in_ok-architecture.ensures.reads_stay c.in_err-component.ensures.stop)

pub returns-clause-settles : goal.returns-clause-settles
returns-clause-settles g c =
    sink_found (g.F.Shelf.told c.args.shelf.now) (g.F.Shelf.told c.library_under.new.shelf) c.args.lib.now c.args.arch.now c.args.sink.now cuts_text c.in_ok-library.library c.in_ok-architecture.architecture c.in_ok-component.component.0 _ _ _ _ c.in_ok-library.ensures.library c.in_ok-library.ensures.reads_stay
    (c.in_ok-library.ensures.told_stays c.args.arch.now) c.in_ok-architecture.ensures.architecture c.in_ok-architecture.ensures.reads_stay c.in_ok-component.ensures.sink refl c.in_ok-text.ensures
