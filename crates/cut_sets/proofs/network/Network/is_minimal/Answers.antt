use Rattle.std.proofs.Common.{◌∙◌, ap, sym, not}
use Rattle.std.specs.List.{list_all}
use Rattle.arch_model.specs.declared.limits.TheConstants.{MEMBERS}
use Rattle.arch_model.specs.Member.{is_in}
use Rattle.arch_model.specs.Path.{parts}
use Rattle.arch_model.specs.Set.{Set, has, minus, put}
use Rattle.cut_sets.proofs.Beyond.{and_yes}
use Rattle.cut_sets.proofs.Places.{below_high}
use Rattle.paths.proofs.Loops.{first_in, later_in}
use Rattle.cut_sets.proofs.network.Network.is_minimal.Goals as goal

pub loop-v-init : goal.loop-v-init
loop-v-init c =
    let start = c.into_iter-v-iterator.ensures.into_iter_gives ∙ c.members-v-items.ensures in record {
      can = tt;
      finite = tt;
      rest = ap (list_all _) (sym start);
      low = λ v h. below_high c.args.members.now MEMBERS v (ap (λ l. is_in l v) (sym start) ∙ h);
    }

pub put-requires : goal.put-requires
put-requires c = c.loop-v.invariant.low c.in-Some.v.0 (first_in c.loop-v.v-iterator c.next.new.self c.in-Some.v.0 c.in-Some.ensures.steps)

pub loop-v-preserved : goal.loop-v-preserved
loop-v-preserved c =
    let one = c.minus.ensures ∙ ap (minus c.args.members.now) (c.put.ensures ∙ ap (λ s. put s c.in-Some.v.0) c.new-one.ensures) in
    let needed = ap not (ap (λ (s : Set). parts c.args.self.now.lib c.args.self.now.arch c.args.self.now.sink (has s)) (sym one) ∙ sym c.cuts.ensures ∙ c.if-cuts.false) in record {
      can = tt;
      finite = tt;
      rest = c.loop-v.invariant.rest ∙ ap (list_all _) c.in-Some.ensures.steps ∙ and_yes _ _ needed;
      low = λ v h. c.loop-v.invariant.low v (later_in c.loop-v.v-iterator c.next.new.self c.in-Some.v.0 v c.in-Some.ensures.steps h);
    }
