use Rattle.archex_app.proofs.Pieces.{on_err_map}
use Rattle.archex_app.proofs.WritingRuns.{second_cut}
use Rattle.archex_app.proofs.generation.write_both.Goals as goal

pub returns-clause-part : goal.returns-clause-part
returns-clause-part g c =
    on_err_map _ (λ front. second_cut c.args.file.now c.args.made.now.text.items _ c.args.log.now _ _ _ _ _ _ _ c.requires c.as_slice.ensures.value c.in_ok-write_text.ensures.whole c.in_ok-write_text.ensures.told_stays c.in_ok-write_text.ensures.writes_stay front c.write_log.ensures.told_stays c.write_log.ensures.failed c.write_log.ensures.writes_alone)
    c.write_log.ensures.part
