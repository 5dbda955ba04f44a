use Rattle.std.proofs.Common.{◌≡◌, ℕ, true, false}
use Rattle.arch_model.specs.declared.limits.TheConstants.{COMPONENTS}
use Rattle.arch_model.specs.Set.{has}
use Rattle.arch_model.specs.Member.{is_in}
use Rattle.arch_model.specs.Path.{reached_within}
use Rattle.paths.specs.Links.{is_next}
use Rattle.paths.proofs.SpreadLaws.{numbers_below}
use Rattle.paths.proofs.spreading.closure.Given as goal

-- what is reached is a level; the newest are of it, and the rows of the others add nothing to it
abbrev pub invariant-loop-round : goal.invariant-loop-round
invariant-loop-round l = record {
  levels : (c : ℕ) → has l.reached c ≡ is_in (reached_within (has l.first) (has l.up) (is_next l.rows) (numbers_below COMPONENTS) l._round) c;
  inside : (a : ℕ) → has l.newest a ≡ true → has l.reached a ≡ true;
  old : (a c : ℕ) → has l.reached a ≡ true → has l.newest a ≡ false → has l.up c ≡ true → is_next l.rows a c ≡ true → has l.reached c ≡ true;
}
