use Rattle.archex_app.specs.Words.{template}
use Rattle.archex_app.proofs.RunLaws.{finished}
use Rattle.archex_app.proofs.template_list.list_template.Goals as goal

pub returns : goal.returns
returns g c = record {
  run = finished (template c.args.lib.now) c.come_to-outcome.result c.finish.result _ _ c.come_to-outcome.ensures.settles c.finish.ensures.finishes c.come_to-outcome.ensures.told_stays c.come_to-outcome.ensures.reads_never_fall
      c.come_to-outcome.ensures.writes_stay c.finish.ensures.never_falls;
}
