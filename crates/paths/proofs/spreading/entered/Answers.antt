use Rattle.std.proofs.Common.{◌<◌, List, ℕ, ◌∙◌, ap, arith, length}
use Rattle.std.specs.List.{list_any}
use Rattle.std.proofs.lemmas.Iterator.Consumers.{YieldsList-turn, YieldsList-end, YieldsList-from_first}
use Rattle.arch_model.specs.declared.limits.TheConstants.{COMPONENTS}
use Rattle.arch_model.specs.declared.sets.CompId.{CompId}
use Rattle.arch_model.specs.Set.{has, members_below}
use Rattle.arch_model.proofs.SetLaws.{has-empty}
use Rattle.paths.specs.Links.{is_next}
use Rattle.paths.proofs.SpreadLaws.{entered_is, member_at, enter_one}
use Rattle.paths.proofs.spreading.entered.Goals as goal

pub loop-a-init : goal.loop-a-init
loop-a-init c d = ap (λ s. has s d) c.new-found.ensures ∙ has-empty d

pub listed : goal.listed
listed c =
    let t = YieldsList-turn (YieldsList-from_first (λ (x : CompId). x.0) (λ (s : List ℕ). s) (members_below c.args.from.now COMPONENTS) (c.into_iter-a-iterator.ensures.into_iter_gives ∙ c.members-a-items.ensures)) c.loop-a.yielded _ c.loop-a.yielded_by _ _ c.in-Some.a c.in-Some.is c.next.ensures.steps in
    let short = member_at c.args.from.now COMPONENTS (length c.loop-a.yielded) c.in-Some.a.0 t.0 t.1 in
    omega (arith, short)

pub bounds-rows-a : goal.bounds-rows-a
bounds-rows-a c =
    let t = YieldsList-turn (YieldsList-from_first (λ (x : CompId). x.0) (λ (s : List ℕ). s) (members_below c.args.from.now COMPONENTS) (c.into_iter-a-iterator.ensures.into_iter_gives ∙ c.members-a-items.ensures)) c.loop-a.yielded _ c.loop-a.yielded_by _ _ c.in-Some.a c.in-Some.is c.next.ensures.steps in
    member_at c.args.from.now COMPONENTS (length c.loop-a.yielded) c.in-Some.a.0 t.0 t.1

pub loop-a-preserved : goal.loop-a-preserved
loop-a-preserved c d =
    let t = YieldsList-turn (YieldsList-from_first (λ (x : CompId). x.0) (λ (s : List ℕ). s) (members_below c.args.from.now COMPONENTS) (c.into_iter-a-iterator.ensures.into_iter_gives ∙ c.members-a-items.ensures)) c.loop-a.yielded _ c.loop-a.yielded_by _ _ c.in-Some.a c.in-Some.is c.next.ensures.steps in
    let short = member_at c.args.from.now COMPONENTS (length c.loop-a.yielded) c.in-Some.a.0 t.0 t.1 in
    let low : c.in-Some.a.0 < length c.args.rows.now = omega (arith, short) in
    enter_one c.args.rows.now c.loop-a.found c.union-found.result c.loop-a.yielded c.in-Some.a c.index-rows-a.result d low c.union-found.ensures (c.loop-a.invariant d)

pub returns : goal.returns
returns c d = entered_is c.args.up.now c.loop-a.found _ d _ c.intersection.ensures
    (let t = YieldsList-end (YieldsList-from_first (λ (x : CompId). x.0) (λ (s : List ℕ). s) (members_below c.args.from.now COMPONENTS) (c.into_iter-a-iterator.ensures.into_iter_gives ∙ c.members-a-items.ensures)) c.loop-a.yielded _ c.loop-a.yielded_by _ _ c.in-None.is c.next.ensures.steps in
    c.loop-a.invariant d ∙ ap (list_any (λ a. is_next c.args.rows.now a d)) t.0)
