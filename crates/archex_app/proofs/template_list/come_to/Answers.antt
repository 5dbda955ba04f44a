use Rattle.std.proofs.Common.{refl}
use Rattle.std.proofs.lemmas.Result.{err_from_is_err_and}
use Rattle.report.specs.Template.{template_text}
use Rattle.archex_app.proofs.Coming.{listed, unlisted}
use Rattle.archex_app.proofs.template_list.come_to.Goals as goal

pub returns-in_err-library-clause-settles : goal.returns-in_err-library-clause-settles
returns-in_err-library-clause-settles g c =
    let p = err_from_is_err_and c.from_residual.result c.from_residual.ensures.1 in
    rw (p.1, p.2) (unlisted (g.F.Shelf.told c.args.shelf.now) c.args.lib.now template_text _ _ _ c.in_err-library.ensures.stop)

pub returns-clause-settles : goal.returns-clause-settles
returns-clause-settles g c = listed (g.F.Shelf.told c.args.shelf.now) c.args.lib.now template_text c.in_ok-library.library _ _ _ c.in_ok-library.ensures.library c.in_ok-library.ensures.reads_stay refl c.in_ok-text.ensures
