use Rattle.std.proofs.Common.{◌∙◌, ◌∷◌, ◌++◌, List, ℕ, ap, sym, subst, arith, length, sum_by, map, string_bytes}
use Rattle.std.specs.List.{flat_map}
use Rattle.std.specs.List.Sorted.{IsStrictlyIncreasing}
use Rattle.arch_model.specs.declared.sets.VarId.{VarId}
use Rattle.arch_model.specs.Weight.{product_of}
use Rattle.arch_model.proofs.WeightBound.{weight-le}
use Rattle.cut_sets.specs.CutSets.{cut_sets_of}
use Rattle.sink_weight.proofs.Sums.{AreSets, weight_listed, all_sets, sets_later, first_ascends, first_in_range, sum_next}
use Rattle.report.specs.Sets.{set_line}
use Rattle.report.proofs.CutLaws.{next_set, next_count, sets_few, all_told}
use Rattle.report.proofs.cuts.push_cuts.Goals as goal

pub loop-members-init : goal.loop-members-init
loop-members-init c =
    let start = c.into_iter-members-iterator.ensures.into_iter_gives ∙ c.new-members-items.ensures.sets in
    let n = ap length start in
    let s = ap (sum_by (product_of c.args.lib.now)) start in
    record {
      can = tt;
      finite = tt;
      text = ap (λ (l : List (List ℕ)). string_bytes c.args.text.now ++ flat_map (set_line c.args.lib.now) l) start;
      count = omega (arith, n);
      sum = omega (arith, s);
      sets = subst (AreSets c.args.lib.now) (sym start) (all_sets c.args.lib.now c.args.arch.now c.requires c.args.sink.0);
    }

pub push_set-requires-clause-ascending : goal.push_set-requires-clause-ascending
push_set-requires-clause-ascending c =
    subst (λ (l : List VarId). IsStrictlyIncreasing (map (λ m. m.0) l)) (sym c.as_slice.ensures)
    (first_ascends c.args.lib.now (map (λ (m : VarId). m.0) c.in-Some.members.items) c.loop-members.members-iterator c.next.new.self c.in-Some.ensures.steps c.loop-members.invariant.sets)

pub push_set-requires-clause-in_range : goal.push_set-requires-clause-in_range
push_set-requires-clause-in_range c =
    first_in_range c.args.lib.now c.as_slice.result.now c.loop-members.members-iterator c.next.new.self
    (c.in-Some.ensures.steps ∙ ap (λ (l : List VarId). map (λ m. m.0) l ∷ c.next.new.self) (sym c.as_slice.ensures)) c.loop-members.invariant.sets

pub product-requires-clause-ascending : goal.product-requires-clause-ascending
product-requires-clause-ascending c =
    subst (λ (l : List VarId). IsStrictlyIncreasing (map (λ m. m.0) l)) (sym c.as_slice-in-loop-members.ensures)
    (first_ascends c.args.lib.now (map (λ (m : VarId). m.0) c.in-Some.members.items) c.loop-members.members-iterator c.next.new.self c.in-Some.ensures.steps c.loop-members.invariant.sets)

pub product-requires-clause-in_range : goal.product-requires-clause-in_range
product-requires-clause-in_range c =
    first_in_range c.args.lib.now c.as_slice-in-loop-members.result.now c.loop-members.members-iterator c.next.new.self
    (c.in-Some.ensures.steps ∙ ap (λ (l : List VarId). map (λ m. m.0) l ∷ c.next.new.self) (sym c.as_slice-in-loop-members.ensures)) c.loop-members.invariant.sets

pub overflow_add-sets : goal.overflow_add-sets
overflow_add-sets c =
    let n = next_count c.loop-members.sets _ _ _ c.in-Some.ensures.steps c.loop-members.invariant.count in
    let few = sets_few c.args.lib.now c.new-members-items.ensures.library c.args.arch.now c.args.sink.0 in
    omega (arith, n, few)

pub overflow_add-sum : goal.overflow_add-sum
overflow_add-sum c =
    let next = sum_next c.args.lib.now c.loop-members.sum c.product.result _ (map (λ (m : VarId). m.0) c.as_slice-in-loop-members.result.now) c.loop-members.members-iterator c.next.new.self
    (c.in-Some.ensures.steps ∙ ap (λ (l : List VarId). map (λ m. m.0) l ∷ c.next.new.self) (sym c.as_slice-in-loop-members.ensures)) c.product.ensures.value c.loop-members.invariant.sum in
    let all = weight_listed c.args.lib.now c.args.arch.now c.args.sink.0 in
    let most = weight-le c.args.lib.now c.new-members-items.ensures.library c.args.arch.now c.args.sink.0 in
    omega (arith, next, all, most)

pub loop-members-preserved-in_ok-push_set : goal.loop-members-preserved-in_ok-push_set
loop-members-preserved-in_ok-push_set c = record {
  can = tt;
  finite = tt;
  text = next_set c.args.lib.now (map (λ (m : VarId). m.0) c.as_slice.result.now) c.loop-members.members-iterator c.next.new.self (string_bytes c.loop-members.text) (string_bytes c.push_set.new.text)
      (c.in-Some.ensures.steps ∙ ap (λ (l : List VarId). map (λ m. m.0) l ∷ c.next.new.self) (sym c.as_slice.ensures)) c.in_ok-push_set.ensures c.loop-members.invariant.text;
  count = next_count c.loop-members.sets _ _ _ c.in-Some.ensures.steps c.loop-members.invariant.count;
  sum = sum_next c.args.lib.now c.loop-members.sum c.product.result _ (map (λ (m : VarId). m.0) c.as_slice-in-loop-members.result.now) c.loop-members.members-iterator c.next.new.self
      (c.in-Some.ensures.steps ∙ ap (λ (l : List VarId). map (λ m. m.0) l ∷ c.next.new.self) (sym c.as_slice-in-loop-members.ensures)) c.product.ensures.value c.loop-members.invariant.sum;
  sets = sets_later c.args.lib.now (map (λ (m : VarId). m.0) c.in-Some.members.items) c.loop-members.members-iterator c.next.new.self c.in-Some.ensures.steps c.loop-members.invariant.sets;
}

pub loop-members-preserved : goal.loop-members-preserved
loop-members-preserved c = record {
  can = tt;
  finite = tt;
  text = next_set c.args.lib.now (map (λ (m : VarId). m.0) c.as_slice.result.now) c.loop-members.members-iterator c.next.new.self (string_bytes c.loop-members.text) (string_bytes c.push_set.new.text)
      (c.in-Some.ensures.steps ∙ ap (λ (l : List VarId). map (λ m. m.0) l ∷ c.next.new.self) (sym c.as_slice.ensures)) c.in_ok-push_set.ensures c.loop-members.invariant.text;
  count = next_count c.loop-members.sets _ _ _ c.in-Some.ensures.steps c.loop-members.invariant.count;
  sum = sum_next c.args.lib.now c.loop-members.sum c.product.result _ (map (λ (m : VarId). m.0) c.as_slice-in-loop-members.result.now) c.loop-members.members-iterator c.next.new.self
      (c.in-Some.ensures.steps ∙ ap (λ (l : List VarId). map (λ m. m.0) l ∷ c.next.new.self) (sym c.as_slice-in-loop-members.ensures)) c.product.ensures.value c.loop-members.invariant.sum;
  sets = sets_later c.args.lib.now (map (λ (m : VarId). m.0) c.in-Some.members.items) c.loop-members.members-iterator c.next.new.self c.in-Some.ensures.steps c.loop-members.invariant.sets;
}

pub returns : goal.returns
returns c =
    all_told c.args.lib.now (cut_sets_of c.args.lib.now c.args.arch.now c.args.sink.0) c.loop-members.members-iterator c.loop-members.sets c.loop-members.sum (string_bytes c.args.text.now) (string_bytes c.loop-members.text) (string_bytes c.push_end.new.text)
    c.in-None.ensures.steps.0 c.loop-members.invariant.text c.loop-members.invariant.count c.loop-members.invariant.sum c.in_ok-push_end.ensures
