use Rattle.std.proofs.Common.{sym}
use Rattle.sink_weight.proofs.Sums.{weight_listed}
use Rattle.report.proofs.laws.the_sum_is_the_weight.Goals as goal

pub returns : goal.returns
returns c lib arch sink = sym (weight_listed lib arch sink)
