use Rattle.std.proofs.Common.{◌≡◌, ◌∙◌, ap, sym, subst, ◌^◌, ◌<◌, ℕ, List, min, fold, map, arith}
use Rattle.std.specs.Prelude.{slice_index}
use Rattle.std.specs.List.{AllByRecursion}
use Rattle.arch_model.specs.Set.{minus, members_below}
use Rattle.arch_model.specs.declared.limits.TheConstants.{MEMBERS}
use Rattle.rows.proofs.ClosingLoops.{low_members}
use Rattle.row_bounds.proofs.SpendLaws.{cut_times}
use Rattle.row_bounds.proofs.spending.times_of_cut.Goals as goal

pub loop-v-init : goal.loop-v-init
loop-v-init c =
    let free : c.free_of_cut-free.result ≡ minus c.args.cut.now.plus c.args.cube.now.fixed = cc in
    let all : c.into_iter-v-iterator.result ≡ members_below c.free_of_cut-free.result MEMBERS = c.into_iter-v-iterator.ensures.into_iter_gives ∙ c.members-v-items.ensures in
    let P : List ℕ → Type 0 = AllByRecursion (λ y. y < MEMBERS) in
    record {
      least = ap (λ l. fold min (10 ^ 12) (map (slice_index c.args.residue.now) l)) (all ∙ ap (λ s. members_below s MEMBERS) free);
      low = subst P (sym all) (low_members c.free_of_cut-free.result MEMBERS);
      few = omega arith;
    }

pub returns-clause-value : goal.returns-clause-value
returns-clause-value c =
    sym (ap (λ l. fold min c.loop-v.times (map (slice_index c.args.residue.now) l)) c.in-None.ensures.steps.0) ∙ c.loop-v.invariant.least ∙ cut_times c.args.cube.now (slice_index c.args.residue.now) c.args.cut.now
