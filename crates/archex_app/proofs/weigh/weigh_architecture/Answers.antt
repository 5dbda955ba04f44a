use Rattle.archex_app.specs.Words.{weigh}
use Rattle.archex_app.proofs.RunLaws.{finished}
use Rattle.archex_app.proofs.weigh.weigh_architecture.Goals as goal

pub returns : goal.returns
returns g c = record {
  run = finished (weigh c.args.lib.now c.args.arch.now) c.come_to-outcome.result c.finish.result _ _ c.come_to-outcome.ensures.settles c.finish.ensures.finishes c.come_to-outcome.ensures.told_stays c.come_to-outcome.ensures.reads_never_fall
      c.come_to-outcome.ensures.writes_stay c.finish.ensures.never_falls;
}
