use Rattle.std.proofs.Common.{refl, ap}
use Rattle.proof_log.specs.declared.log_line.LogLine.TheVariants as lines
use Rattle.log_checker.proofs.StageLaws.{misplaced, closes_there}
use Rattle.log_checker.proofs.checker.Checker.close.Goals as goal

pub returns-in_default : goal.returns-in_default
returns-in_default c = record {
  leads = tt;
  rest = refl;
  broken = misplaced c.args.self.now.problem c.args.self.now.phase c.self.inside.stage c.self.inside.state.search (lines.Closing c.args.answer c.args.branchings c.args.cuts) c.out_of_place.result (ap (λ v. v.phase) c.self.view_is) c.out_of_place.ensures c.in_default.not-Running;
  unchanged = refl;
}

pub returns-else-not-is_answer-clause-leads : goal.returns-else-not-is_answer-clause-leads
returns-else-not-is_answer-clause-leads c =
    closes_there c.args.self.now.phase c.self.inside.stage c.self.inside.state.search c.args.answer c.args.branchings c.args.cuts (ap (λ v. v.phase) c.self.view_is) c.in-Running.is (c.is_answer.ensures.yes c.if-not-is_answer.false)
