use Rattle.std.proofs.Common.{◌∙◌, ◌||◌, ap, sym, arith}
use Rattle.arch_model.specs.declared.limits.TheConstants.{COMPONENTS}
use Rattle.arch_model.specs.Set.{has}
use Rattle.arch_model.specs.Member.{is_in}
use Rattle.cut_sets.proofs.Places.{below_high}
use Rattle.paths.proofs.Loops.{first_in, later_in, put_same, all_same}
use Rattle.cut_sets.proofs.useful.with_components.Goals as goal

pub loop-c-init : goal.loop-c-init
loop-c-init c =
    let start = c.into_iter-c-iterator.ensures.into_iter_gives ∙ c.members-c-items.ensures in record {
      can = tt;
      finite = tt;
      all = λ v. ap (λ l. has c.args.members.now v || is_in l v) start;
      low = λ v h. below_high c.args.comps.now COMPONENTS v (ap (λ l. is_in l v) (sym start) ∙ h);
    }

pub put-requires : goal.put-requires
put-requires c =
    let low = c.loop-c.invariant.low c.in-Some.c.0 (first_in c.loop-c.c-iterator c.next.new.self c.in-Some.c.0 c.in-Some.ensures.steps) in
    omega (arith, low)

pub loop-c-preserved : goal.loop-c-preserved
loop-c-preserved c = record {
  can = tt;
  finite = tt;
  all = λ v. put_same c.loop-c.both c.put.new.self c.loop-c.c-iterator c.next.new.self c.in-Some.c.0 v c.in-Some.ensures.steps c.put.ensures ∙ c.loop-c.invariant.all v;
  low = λ v h. c.loop-c.invariant.low v (later_in c.loop-c.c-iterator c.next.new.self c.in-Some.c.0 v c.in-Some.ensures.steps h);
}

pub returns : goal.returns
returns c v = all_same c.loop-c.both c.loop-c.c-iterator v _ c.in-None.ensures.steps.0 (c.loop-c.invariant.all v)
