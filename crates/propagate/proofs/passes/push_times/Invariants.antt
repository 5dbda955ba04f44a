use Rattle.std.proofs.Common.{◌≡◌, ◌+◌, ◌++◌, replicate, vec_len, vec_capacity}
use Rattle.propagate.proofs.passes.push_times.Given as goal

abbrev pub invariant-loop-step : goal.invariant-loop-step
invariant-loop-step l = record {
  items : l.steps.items ≡ l.initial.steps.items ++ replicate l._step l.r;
  len : vec_len l.steps ≡ vec_len l.initial.steps + l._step;
  capacity : vec_capacity l.steps ≡ vec_capacity l.initial.steps;
}
