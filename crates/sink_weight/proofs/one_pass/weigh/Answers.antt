use Rattle.std.proofs.Common.{◌∙◌, ◌∷◌, ap, sym, subst, arith, sum_by, map, List, None}
use Rattle.std.specs.List.Sorted.{IsStrictlyIncreasing}
use Rattle.arch_model.specs.declared.sets.VarId.{VarId}
use Rattle.arch_model.specs.Weight.{product_of}
use Rattle.arch_model.proofs.WeightBound.{weight-le}
use Rattle.sink_weight.proofs.Sums.{AreSets, weight_listed, all_sets, sets_later, first_ascends, first_in_range, sum_next}
use Rattle.sink_weight.proofs.Greatest.{IsUnderWay, started, better, no_better, heaviest_some, heaviest_none}
use Rattle.sink_weight.proofs.one_pass.weigh.Goals as goal

pub loop-members-init : goal.loop-members-init
loop-members-init c =
    let start = c.into_iter-members-iterator.ensures.into_iter_gives ∙ c.new-members-items.ensures.sets in record {
      can = tt;
      finite = tt;
      sum = let e = ap (sum_by (product_of c.args.lib.now)) start ∙ sym (weight_listed c.args.lib.now c.args.arch.now c.args.sink.0) in omega (arith, e);
      best = λ fits. subst (IsUnderWay c.args.lib.now c.args.arch.now fits c.args.sink.0 None 0) (sym start) (started c.args.lib.now c.args.arch.now fits c.args.sink.0);
      sets = subst (AreSets c.args.lib.now) (sym start) (all_sets c.args.lib.now c.args.arch.now c.requires c.args.sink.0);
    }

pub product-value-requires-clause-ascending : goal.product-value-requires-clause-ascending
product-value-requires-clause-ascending c =
    subst (λ (l : List VarId). IsStrictlyIncreasing (map (λ m. m.0) l)) (sym c.as_slice.ensures)
    (first_ascends c.args.lib.now (map (λ (m : VarId). m.0) c.in-Some.members.items) c.loop-members.members-iterator c.next.new.self c.in-Some.ensures.steps c.loop-members.invariant.sets)

pub product-value-requires-clause-in_range : goal.product-value-requires-clause-in_range
product-value-requires-clause-in_range c =
    first_in_range c.args.lib.now c.as_slice.result.now c.loop-members.members-iterator c.next.new.self
    (c.in-Some.ensures.steps ∙ ap (λ (l : List VarId). map (λ m. m.0) l ∷ c.next.new.self) (sym c.as_slice.ensures)) c.loop-members.invariant.sets

pub overflow_add-total : goal.overflow_add-total
overflow_add-total c =
    let next = sum_next c.args.lib.now c.loop-members.total c.product-value.result _ (map (λ (m : VarId). m.0) c.as_slice.result.now) c.loop-members.members-iterator c.next.new.self
    (c.in-Some.ensures.steps ∙ ap (λ (l : List VarId). map (λ m. m.0) l ∷ c.next.new.self) (sym c.as_slice.ensures)) c.product-value.ensures.value c.loop-members.invariant.sum in
    let most = weight-le c.args.lib.now c.new-members-items.ensures.library c.args.arch.now c.args.sink.0 in
    omega (arith, next, most)

pub loop-members-preserved-then-most-value : goal.loop-members-preserved-then-most-value
loop-members-preserved-then-most-value c = record {
  can = tt;
  finite = tt;
  sum = sum_next c.args.lib.now c.loop-members.total c.product-value.result _ (map (λ (m : VarId). m.0) c.as_slice.result.now) c.loop-members.members-iterator c.next.new.self
      (c.in-Some.ensures.steps ∙ ap (λ (l : List VarId). map (λ m. m.0) l ∷ c.next.new.self) (sym c.as_slice.ensures)) c.product-value.ensures.value c.loop-members.invariant.sum;
  best = λ fits. better c.args.lib.now c.args.arch.now fits c.args.sink.0 c.loop-members.best c.loop-members.most c.in-Some.members c.loop-members.members-iterator c.next.new.self c.in-Some.ensures.steps (c.loop-members.invariant.best fits)
      c.product-value.result (c.product-value.ensures.value ∙ ap (λ (l : List VarId). product_of c.args.lib.now (map (λ m. m.0) l)) c.as_slice.ensures) c.if-most-value.true;
  sets = sets_later c.args.lib.now (map (λ (m : VarId). m.0) c.in-Some.members.items) c.loop-members.members-iterator c.next.new.self c.in-Some.ensures.steps c.loop-members.invariant.sets;
}

pub loop-members-preserved-else-most-value : goal.loop-members-preserved-else-most-value
loop-members-preserved-else-most-value c = record {
  can = tt;
  finite = tt;
  sum = sum_next c.args.lib.now c.loop-members.total c.product-value.result _ (map (λ (m : VarId). m.0) c.as_slice.result.now) c.loop-members.members-iterator c.next.new.self
      (c.in-Some.ensures.steps ∙ ap (λ (l : List VarId). map (λ m. m.0) l ∷ c.next.new.self) (sym c.as_slice.ensures)) c.product-value.ensures.value c.loop-members.invariant.sum;
  best = λ fits. no_better c.args.lib.now c.args.arch.now fits c.args.sink.0 c.loop-members.best c.loop-members.most (map (λ (m : VarId). m.0) c.in-Some.members.items) c.loop-members.members-iterator c.next.new.self c.in-Some.ensures.steps (c.loop-members.invariant.best fits)
      c.product-value.result (c.product-value.ensures.value ∙ ap (λ (l : List VarId). product_of c.args.lib.now (map (λ m. m.0) l)) c.as_slice.ensures) c.if-most-value.false;
  sets = sets_later c.args.lib.now (map (λ (m : VarId). m.0) c.in-Some.members.items) c.loop-members.members-iterator c.next.new.self c.in-Some.ensures.steps c.loop-members.invariant.sets;
}

pub loop-members-preserved : goal.loop-members-preserved
loop-members-preserved c = record {
  can = tt;
  finite = tt;
  sum = sum_next c.args.lib.now c.loop-members.total c.product-value.result _ (map (λ (m : VarId). m.0) c.as_slice.result.now) c.loop-members.members-iterator c.next.new.self
      (c.in-Some.ensures.steps ∙ ap (λ (l : List VarId). map (λ m. m.0) l ∷ c.next.new.self) (sym c.as_slice.ensures)) c.product-value.ensures.value c.loop-members.invariant.sum;
  best = λ fits. no_better c.args.lib.now c.args.arch.now fits c.args.sink.0 c.loop-members.best c.loop-members.most (map (λ (m : VarId). m.0) c.in-Some.members.items) c.loop-members.members-iterator c.next.new.self c.in-Some.ensures.steps (c.loop-members.invariant.best fits)
      c.product-value.result (c.product-value.ensures.value ∙ ap (λ (l : List VarId). product_of c.args.lib.now (map (λ m. m.0) l)) c.as_slice.ensures) c.if-most-value.false;
  sets = sets_later c.args.lib.now (map (λ (m : VarId). m.0) c.in-Some.members.items) c.loop-members.members-iterator c.next.new.self c.in-Some.ensures.steps c.loop-members.invariant.sets;
}

pub returns-clause-weight : goal.returns-clause-weight
returns-clause-weight c = let whole = c.loop-members.invariant.sum in let done = ap (sum_by (product_of c.args.lib.now)) c.in-None.ensures.steps.0 in omega (arith, whole, done)

pub returns-clause-some : goal.returns-clause-some
returns-clause-some c = heaviest_some c.args.lib.now c.args.arch.now c.requires c.args.sink.0 c.loop-members.best c.loop-members.most c.loop-members.members-iterator c.in-None.ensures.steps.0 (c.loop-members.invariant.best c.requires)

pub returns-clause-none : goal.returns-clause-none
returns-clause-none c = heaviest_none c.args.lib.now c.args.arch.now c.requires c.args.sink.0 c.loop-members.best c.loop-members.most c.loop-members.members-iterator c.in-None.ensures.steps.0 (c.loop-members.invariant.best c.requires)

pub returns-clause-small : goal.returns-clause-small
returns-clause-small c =
    let most = weight-le c.args.lib.now c.new-members-items.ensures.library c.args.arch.now c.args.sink.0 in
    let whole = c.loop-members.invariant.sum in
    omega (arith, most, whole)
