use Rattle.std.proofs.Common.{ℕ, List, ◌<◌, length, refl, sym, ap, ◌∙◌, arith}
use Rattle.std.specs.List.{list_any}
use Rattle.std.proofs.Math.ListN.{set, length-set}
use Rattle.std.proofs.lemmas.Iterator.Consumers.{YieldsList-turn, YieldsList-end, YieldsList-from_first}
use Rattle.arch_model.specs.declared.limits.TheConstants.{COMPONENTS, EDGES}
use Rattle.arch_model.specs.declared.sets.EdgeId.{EdgeId}
use Rattle.arch_model.specs.Set.{members_below}
use Rattle.arch_model.proofs.Ranges.{blank_edge}
use Rattle.paths.proofs.SpreadLaws.{next_none, row_more, member_of, joins_by, leads_members}
use Rattle.paths.proofs.adjacency.rows_of.Goals as goal

pub loop-e-init : goal.loop-e-init
loop-e-init c = record { whole = refl; so_far = λ a d. next_none _ COMPONENTS a d c.new-rows.result refl c.new-rows.ensures }

pub overflow_add-n : goal.overflow_add-n
overflow_add-n c =
    let t = YieldsList-turn (YieldsList-from_first (λ (x : EdgeId). x.0) (λ (s : List ℕ). s) (members_below c.args.chosen.now EDGES) (c.into_iter-e-iterator.ensures.into_iter_gives ∙ c.members-e-items.ensures)) c.loop-e.yielded _ c.loop-e.yielded_by _ _ c.in-Some.e c.in-Some.is c.next.ensures.steps in
    let short = c.requires.chosen c.in-Some.e.0 (member_of c.args.chosen.now EDGES (length c.loop-e.yielded) c.in-Some.e.0 t.0 t.1) in
    omega (arith, short)

pub bounds-edges-e : goal.bounds-edges-e
bounds-edges-e c =
    let t = YieldsList-turn (YieldsList-from_first (λ (x : EdgeId). x.0) (λ (s : List ℕ). s) (members_below c.args.chosen.now EDGES) (c.into_iter-e-iterator.ensures.into_iter_gives ∙ c.members-e-items.ensures)) c.loop-e.yielded _ c.loop-e.yielded_by _ _ c.in-Some.e c.in-Some.is c.next.ensures.steps in
    c.requires.chosen c.in-Some.e.0 (member_of c.args.chosen.now EDGES (length c.loop-e.yielded) c.in-Some.e.0 t.0 t.1)

pub loop-e-preserved-then-not-has : goal.loop-e-preserved-then-not-has
loop-e-preserved-then-not-has c =
    let t = YieldsList-turn (YieldsList-from_first (λ (x : EdgeId). x.0) (λ (s : List ℕ). s) (members_below c.args.chosen.now EDGES) (c.into_iter-e-iterator.ensures.into_iter_gives ∙ c.members-e-items.ensures)) c.loop-e.yielded _ c.loop-e.yielded_by _ _ c.in-Some.e c.in-Some.is c.next.ensures.steps in
    let short = c.requires.chosen c.in-Some.e.0 (member_of c.args.chosen.now EDGES (length c.loop-e.yielded) c.in-Some.e.0 t.0 t.1) in
    let low : c.ends.result.0.0 < length c.loop-e.rows = omega (arith, c.ends.ensures.from, c.loop-e.invariant.whole, c.requires.froms c.in-Some.e.0 blank_edge short) in record {
      whole = length-set _ _ _ ∙ c.loop-e.invariant.whole;
      so_far = row_more c.args.way c.args.edges.now c.args.failed.now c.args.n c.loop-e.rows _ c.loop-e.yielded c.in-Some.e c.loop-e.invariant.so_far
          _ _ c.index-rows-from.result (sym c.has.ensures.member ∙ c.if-not-has.true) low c.ends.ensures.from c.ends.ensures.to (ap (set c.loop-e.rows c.ends.result.0.0) c.put.ensures);
    }

pub returns : goal.returns
returns c a d =
    let t = YieldsList-end (YieldsList-from_first (λ (x : EdgeId). x.0) (λ (s : List ℕ). s) (members_below c.args.chosen.now EDGES) (c.into_iter-e-iterator.ensures.into_iter_gives ∙ c.members-e-items.ensures)) c.loop-e.yielded _ c.loop-e.yielded_by _ _ c.in-None.is c.next.ensures.steps in
    c.loop-e.invariant.so_far a d
    ∙ ap (list_any (joins_by c.args.way c.args.edges.now c.args.failed.now c.args.n a d)) t.0
    ∙ leads_members c.args.way c.args.chosen.now c.args.failed.now c.args.n EDGES c.args.edges.now a d c.requires.chosen c.requires.few
