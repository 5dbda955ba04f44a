use Rattle.std.proofs.Common.{◌∙◌, ap, sym, ◌&&◌}
use Rattle.arch_model.specs.declared.limits.TheConstants.{MEMBERS}
use Rattle.arch_model.specs.Member.{is_in}
use Rattle.arch_model.specs.Set.{has}
use Rattle.arch_model.proofs.Members.{has-from_members}
use Rattle.fail_mass.specs.Inner.Cases.{is_between}
use Rattle.fail_mass.proofs.LoopLemmas.{start, first_in, later_in, put_next, done}
use Rattle.fail_mass.proofs.NetworkLemmas.{member_low}
use Rattle.fail_mass.proofs.between.between.Goals as goal

pub loop-v-init : goal.loop-v-init
loop-v-init c =
    let to_come = c.into_iter-v-iterator.ensures.into_iter_gives ∙ c.members-v-items.ensures in record {
      can = tt;
      finite = tt;
      all = λ d. start (is_between c.args.lib.now c.args.reached.now c.args.above.now) d c.args.members.now c.new-found.result _ MEMBERS c.new-found.ensures to_come
          (λ v h. member_low c.args.lib.now c.requires.library v (c.requires.in_range v h));
      inside = λ d h. has-from_members c.args.members.now MEMBERS d (ap (λ l. is_in l d) (sym to_come) ∙ h);
    }

pub is_between-requires : goal.is_between-requires
is_between-requires c = c.requires.in_range c.in-Some.v.0 (c.loop-v.invariant.inside c.in-Some.v.0 (first_in c.loop-v.v-iterator c.next.new.self c.in-Some.v.0 c.in-Some.ensures.steps))

pub put-requires : goal.put-requires
put-requires c = member_low c.args.lib.now c.requires.library c.in-Some.v.0 (c.requires.in_range c.in-Some.v.0 (c.loop-v.invariant.inside c.in-Some.v.0 (first_in c.loop-v.v-iterator c.next.new.self c.in-Some.v.0 c.in-Some.ensures.steps)))

pub loop-v-preserved-then-is_between : goal.loop-v-preserved-then-is_between
loop-v-preserved-then-is_between c = record {
  can = tt;
  finite = tt;
  all = λ d. put_next (is_between c.args.lib.now c.args.reached.now c.args.above.now) d c.loop-v.found c.put.new.self c.loop-v.v-iterator c.next.new.self c.in-Some.v.0 c.in-Some.ensures.steps (sym c.is_between.ensures ∙ c.if-is_between.true) c.put.ensures ∙ c.loop-v.invariant.all d;
  inside = λ d h. c.loop-v.invariant.inside d (later_in c.loop-v.v-iterator c.next.new.self c.in-Some.v.0 d c.in-Some.ensures.steps h);
}

pub returns : goal.returns
returns c d = done (is_between c.args.lib.now c.args.reached.now c.args.above.now) d c.loop-v.found c.loop-v.v-iterator (has c.args.members.now d && is_between c.args.lib.now c.args.reached.now c.args.above.now d) c.in-None.ensures.steps.0 (c.loop-v.invariant.all d)
