use Rattle.std.proofs.Common.{◌<◌, ◌∙◌, ap, sym, subst, inr}
use Rattle.arch_model.specs.declared.limits.TheConstants.{MEMBERS}
use Rattle.arch_model.specs.Set.{members_below}
use Rattle.arch_model.specs.Member.{is_in}
use Rattle.arch_model.proofs.Members.{has-from_members}
use Rattle.cut_sets.specs.Inner.Upcoming.{NetworkParts}
use Rattle.cut_sets.proofs.Places.{below_high, candidate_low, candidate_member}
use Rattle.paths.proofs.Loops.{first_in, later_in, put_keeps, put_or_later, passed_or_later, all_put, put_inside}
use Rattle.cut_sets.proofs.Spent.{inside_limit}
use Rattle.cut_sets.proofs.network.Network.undecided.Goals as goal

pub loop-v-init : goal.loop-v-init
loop-v-init c =
    let start = c.into_iter-v-iterator.ensures.into_iter_gives ∙ c.members-v-items.ensures ∙ ap (λ (net : NetworkParts). members_below net.candidates MEMBERS) c.self.view_is in record {
      can = tt;
      finite = tt;
      front = λ d h. c.set-wide.ensures d ∙ h;
      rest = λ d h from. inr (ap (λ l. is_in l d) start ∙ h);
      inside = λ d h. c.requires.chosen d (sym (c.set-wide.ensures d) ∙ h);
      there = λ v h. has-from_members c.args.self.now.candidates MEMBERS v (ap (λ l. is_in l v) (sym start) ∙ h);
      low = λ v h. below_high c.args.self.now.candidates MEMBERS v (ap (λ l. is_in l v) (sym start) ∙ h);
    }

pub put-requires : goal.put-requires
put-requires c = c.loop-v.invariant.low c.in-Some.v.0 (first_in c.loop-v.v-iterator c.next.new.self c.in-Some.v.0 c.in-Some.ensures.steps)

pub loop-v-preserved-then-at-v : goal.loop-v-preserved-then-at-v
loop-v-preserved-then-at-v c = record {
  can = tt;
  finite = tt;
  front = λ d h. put_keeps c.loop-v.wide c.put.new.self c.in-Some.v.0 d c.put.ensures (c.loop-v.invariant.front d h);
  rest = λ d h from. put_or_later c.loop-v.wide c.put.new.self c.loop-v.v-iterator c.next.new.self c.in-Some.v.0 d c.in-Some.ensures.steps c.put.ensures (c.loop-v.invariant.rest d h from);
  inside = λ d h. put_inside c.loop-v.wide c.put.new.self c.args.self.now.candidates c.in-Some.v.0 c.put.ensures (c.loop-v.invariant.there c.in-Some.v.0 (first_in c.loop-v.v-iterator c.next.new.self c.in-Some.v.0 c.in-Some.ensures.steps)) d (c.loop-v.invariant.inside d) h;
  there = λ v h. c.loop-v.invariant.there v (later_in c.loop-v.v-iterator c.next.new.self c.in-Some.v.0 v c.in-Some.ensures.steps h);
  low = λ v h. c.loop-v.invariant.low v (later_in c.loop-v.v-iterator c.next.new.self c.in-Some.v.0 v c.in-Some.ensures.steps h);
}

pub loop-v-preserved : goal.loop-v-preserved
loop-v-preserved c = record {
  can = tt;
  finite = tt;
  front = c.loop-v.invariant.front;
  rest = λ d h from. passed_or_later c.loop-v.wide c.loop-v.v-iterator c.next.new.self c.in-Some.v.0 c.args.place.now.at d c.in-Some.ensures.steps (subst (λ n. c.in-Some.v.0 < n) c.at.ensures c.if-at-v.false) from (c.loop-v.invariant.rest d h from);
  inside = c.loop-v.invariant.inside;
  there = λ v h. c.loop-v.invariant.there v (later_in c.loop-v.v-iterator c.next.new.self c.in-Some.v.0 v c.in-Some.ensures.steps h);
  low = λ v h. c.loop-v.invariant.low v (later_in c.loop-v.v-iterator c.next.new.self c.in-Some.v.0 v c.in-Some.ensures.steps h);
}

pub returns-clause-chosen : goal.returns-clause-chosen
returns-clause-chosen c = c.loop-v.invariant.front

pub returns-clause-candidates : goal.returns-clause-candidates
returns-clause-candidates c d among =
    all_put c.loop-v.wide c.loop-v.v-iterator d c.in-None.ensures.steps.0
    (c.loop-v.invariant.rest d (candidate_member c.args.self.now c.args.place.now.at d among) (candidate_low c.args.self.now c.args.place.now.at d among))

pub returns-clause-inside : goal.returns-clause-inside
returns-clause-inside c = c.loop-v.invariant.inside

pub set-wide-requires : goal.set-wide-requires
set-wide-requires c v h = inside_limit c.args.self.now c.requires.network v (c.requires.chosen v h)
