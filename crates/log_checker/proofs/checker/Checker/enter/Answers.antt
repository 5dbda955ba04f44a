use Rattle.std.proofs.Common.{refl, ap}
use Rattle.proof_log.specs.declared.log_line.LogLine.TheVariants as lines
use Rattle.log_checker.proofs.StageLaws.{misplaced, enters_where_ok}
use Rattle.log_checker.proofs.checker.Checker.enter.Goals as goal

pub returns-in_default : goal.returns-in_default
returns-in_default c = record {
  leads = tt;
  rest = refl;
  broken = misplaced c.args.self.now.problem c.args.self.now.phase c.self.inside.stage c.self.inside.state.search (lines.Entry c.args.entry.now) c.out_of_place.result (ap (λ v. v.phase) c.self.view_is) c.out_of_place.ensures c.in_default.not-Running;
  unchanged = refl;
}

pub returns-in-Running-clause-leads : goal.returns-in-Running-clause-leads
returns-in-Running-clause-leads c =
    enters_where_ok c.weighed_step.result c.args.self.now.problem c.self.inside.problem c.args.self.now.phase c.self.inside.stage c.self.inside.state.search c.weighed_step.new.state.search c.args.entry.now (ap (λ v. v.problem) c.self.view_is) (ap (λ v. v.phase) c.self.view_is) c.in-Running.is c.weighed_step.ensures.ok
