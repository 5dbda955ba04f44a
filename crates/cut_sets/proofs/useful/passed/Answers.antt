use Rattle.std.proofs.Common.{◌∙◌, ◌&&◌, ◌||◌, ap, sym}
use Rattle.arch_model.specs.declared.limits.TheConstants.{MEMBERS}
use Rattle.arch_model.specs.Set.{has}
use Rattle.arch_model.specs.Member.{is_in}
use Rattle.arch_model.proofs.Members.{has-from_members}
use Rattle.arch_model.proofs.SetLaws.{has-empty}
use Rattle.cut_sets.specs.Inner.Useful.{is_passed}
use Rattle.cut_sets.proofs.Places.{below_high}
use Rattle.paths.proofs.Loops.{first_in, later_in, passing_put, passing_left, passing_done}
use Rattle.cut_sets.proofs.useful.passed.Goals as goal

pub loop-v-init : goal.loop-v-init
loop-v-init c =
    let start = c.into_iter-v-iterator.ensures.into_iter_gives ∙ c.members-v-items.ensures in record {
      can = tt;
      finite = tt;
      all = λ v. ap (λ b. b || (is_in c.into_iter-v-iterator.result v && is_passed c.args.lib.now c.args.sink.0 c.args.sides.now v)) (ap (λ s. has s v) c.new-found.ensures ∙ has-empty v) ∙ ap (λ l. is_in l v && is_passed c.args.lib.now c.args.sink.0 c.args.sides.now v) start;
      inside = λ v h. has-from_members c.args.among.now MEMBERS v (ap (λ l. is_in l v) (sym start) ∙ h);
      low = λ v h. below_high c.args.among.now MEMBERS v (ap (λ l. is_in l v) (sym start) ∙ h);
    }

pub is_passed-requires : goal.is_passed-requires
is_passed-requires c = c.requires c.in-Some.v.0 (c.loop-v.invariant.inside c.in-Some.v.0 (first_in c.loop-v.v-iterator c.next.new.self c.in-Some.v.0 c.in-Some.ensures.steps))

pub put-requires : goal.put-requires
put-requires c = c.loop-v.invariant.low c.in-Some.v.0 (first_in c.loop-v.v-iterator c.next.new.self c.in-Some.v.0 c.in-Some.ensures.steps)

pub loop-v-preserved-then-is_passed : goal.loop-v-preserved-then-is_passed
loop-v-preserved-then-is_passed c = record {
  can = tt;
  finite = tt;
  all = λ v. passing_put (is_passed c.args.lib.now c.args.sink.0 c.args.sides.now) c.loop-v.found c.put.new.self c.loop-v.v-iterator c.next.new.self c.in-Some.v.0 v c.in-Some.ensures.steps c.put.ensures (sym c.is_passed.ensures ∙ c.if-is_passed.true) ∙ c.loop-v.invariant.all v;
  inside = λ v h. c.loop-v.invariant.inside v (later_in c.loop-v.v-iterator c.next.new.self c.in-Some.v.0 v c.in-Some.ensures.steps h);
  low = λ v h. c.loop-v.invariant.low v (later_in c.loop-v.v-iterator c.next.new.self c.in-Some.v.0 v c.in-Some.ensures.steps h);
}

pub loop-v-preserved : goal.loop-v-preserved
loop-v-preserved c = record {
  can = tt;
  finite = tt;
  all = λ v. passing_left (is_passed c.args.lib.now c.args.sink.0 c.args.sides.now) c.loop-v.found c.loop-v.v-iterator c.next.new.self c.in-Some.v.0 v c.in-Some.ensures.steps (sym c.is_passed.ensures ∙ c.if-is_passed.false) ∙ c.loop-v.invariant.all v;
  inside = λ v h. c.loop-v.invariant.inside v (later_in c.loop-v.v-iterator c.next.new.self c.in-Some.v.0 v c.in-Some.ensures.steps h);
  low = λ v h. c.loop-v.invariant.low v (later_in c.loop-v.v-iterator c.next.new.self c.in-Some.v.0 v c.in-Some.ensures.steps h);
}

pub returns : goal.returns
returns c v = passing_done (is_passed c.args.lib.now c.args.sink.0 c.args.sides.now) c.loop-v.found c.loop-v.v-iterator v c.in-None.ensures.steps.0 ∙ c.loop-v.invariant.all v
