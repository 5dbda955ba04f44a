use Rattle.std.proofs.Common.{refl}
use Rattle.archex_app.specs.Team.{as_asked}
use Rattle.archex_app.proofs.RunLaws.{refused_run}
use Rattle.archex_app.proofs.TeamLaws.{words_run}
use Rattle.archex_app.proofs.top.run_words.Goals as goal

pub returns-in-Ok-clause-run : goal.returns-in-Ok-clause-run
returns-in-Ok-clause-run g c = words_run as_asked _ _ _ _ _ c.in-Ok.ensures.command c.run_by_team.ensures.run

pub returns-in-Err-clause-run : goal.returns-in-Err-clause-run
returns-in-Err-clause-run g c =
    words_run as_asked _ _ _ _ _ c.in-Err.ensures.fault (refused_run _ _ _ _ c.refuse_words.ensures.printed (λ name. refl) (λ name. refl) (λ name. refl) c.refuse_words.ensures.never_falls)
