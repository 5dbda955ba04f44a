use Rattle.std.proofs.Common.{◌∙◌, ◌&&◌, ◌||◌, ap, nat_lt}
use Rattle.std.proofs.lemmas.Bool.{lt-ltb, le-ltb}
use Rattle.arch_model.specs.Set.{has}
use Rattle.arch_model.specs.Member.{is_in}
use Rattle.arch_model.proofs.SetLaws.{has-empty}
use Rattle.paths.proofs.Loops.{passing_put, passing_left, passing_done}
use Rattle.paths.proofs.standing.components_among.Goals as goal

pub loop-v-init : goal.loop-v-init
loop-v-init c =
    let start = c.into_iter-v-iterator.ensures.into_iter_gives ∙ c.members-v-items.ensures in record {
      can = tt;
      finite = tt;
      all = λ v. ap (λ b. b || (is_in c.into_iter-v-iterator.result v && nat_lt v c.args.n)) (ap (λ s. has s v) c.new-found.ensures ∙ has-empty v) ∙ ap (λ l. is_in l v && nat_lt v c.args.n) start;
    }

pub loop-v-preserved-then-v-n : goal.loop-v-preserved-then-v-n
loop-v-preserved-then-v-n c = record {
  can = tt;
  finite = tt;
  all = λ v. passing_put (λ d. nat_lt d c.args.n) c.loop-v.found c.put.new.self c.loop-v.v-iterator c.next.new.self c.in-Some.v.0 v c.in-Some.ensures.steps c.put.ensures (lt-ltb _ _ c.if-v-n.true) ∙ c.loop-v.invariant.all v;
}

pub loop-v-preserved : goal.loop-v-preserved
loop-v-preserved c = record {
  can = tt;
  finite = tt;
  all = λ v. passing_left (λ d. nat_lt d c.args.n) c.loop-v.found c.loop-v.v-iterator c.next.new.self c.in-Some.v.0 v c.in-Some.ensures.steps (le-ltb _ _ c.if-v-n.false) ∙ c.loop-v.invariant.all v;
}

pub returns : goal.returns
returns c v = passing_done (λ d. nat_lt d c.args.n) c.loop-v.found c.loop-v.v-iterator v c.in-None.ensures.steps.0 ∙ c.loop-v.invariant.all v
