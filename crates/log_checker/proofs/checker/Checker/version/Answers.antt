use Rattle.std.proofs.Common.{refl, ap}
use Rattle.proof_log.specs.declared.log_line.LogLine.TheVariants as lines
use Rattle.log_checker.proofs.StageLaws.{misplaced}
use Rattle.log_checker.proofs.checker.Checker.version.Goals as goal

pub returns-in_default : goal.returns-in_default
returns-in_default c = record {
  leads = tt;
  rest = refl;
  broken = misplaced c.args.self.now.problem c.args.self.now.phase c.self.inside.stage c.self.inside.state.search lines.Version c.out_of_place.result (ap (λ v. v.phase) c.self.view_is) c.out_of_place.ensures c.in_default.not-Begun;
  unchanged = refl;
}
