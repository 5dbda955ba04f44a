use Rattle.archex_app.proofs.SearchRuns.{has_best, searched_is, library_same}
use Rattle.archex_app.proofs.search.search.Goals as goal

pub returns-clause-searched : goal.returns-clause-searched
returns-clause-searched g c =
    searched_is c.args.lib c.args.limit c.args.workers c.args.analysts _ c.in_ok-problem.ensures.rows (library_same _ _ c.library.ensures.library c.variable_count-count.ensures.library) c.library.ensures.problem (c.requires.solves _ _ c.in_ok-solved.ensures)

pub returns-clause-best : goal.returns-clause-best
returns-clause-best g c =
    has_best c.in_ok-problem.problem c.args.limit c.args.workers c.args.analysts c.in_ok-solved.solved (library_same _ _ c.library.ensures.library c.variable_count-count.ensures.library) c.library.ensures.problem (c.requires.solves _ _ c.in_ok-solved.ensures)
