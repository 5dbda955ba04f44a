use Rattle.std.proofs.Common.{◌<◌, ◌&&◌, not, length, sym, ap, ◌∙◌, arith}
use Rattle.std.specs.List.{list_any}
use Rattle.std.proofs.Math.ListN.{set, length-set}
use Rattle.arch_model.specs.declared.limits.TheConstants.{EDGES}
use Rattle.arch_model.specs.Set.{put, empty}
use Rattle.arch_model.specs.Member.{is_in}
use Rattle.arch_model.proofs.Members.{has-from_members}
use Rattle.arch_model.proofs.Ranges.{blank_edge}
use Rattle.paths.specs.Links.{is_next}
use Rattle.paths.proofs.SpreadLaws.{joins_by}
use Rattle.paths.proofs.Loops.{first_in, later_in}
use Rattle.paths.proofs.FailedEdges.{edge_less, edges_gone}
use Rattle.paths.proofs.adjacency.rows_less.Goals as goal

pub loop-e-init : goal.loop-e-init
loop-e-init c =
    let start = c.into_iter-e-iterator.ensures.into_iter_gives ∙ c.members-e-items.ensures in record {
      can = tt;
      finite = tt;
      whole = omega arith;
      so_far = λ a d. ap (λ l. is_next c.args.rows.now a d && not (list_any (joins_by c.args.way c.args.edges.now empty 0 a d) l)) start;
      there = λ e h. has-from_members c.args.gone.now EDGES e (ap (λ l. is_in l e) (sym start) ∙ h);
    }

pub bounds-edges-e : goal.bounds-edges-e
bounds-edges-e c = c.requires.gone c.in-Some.e.0 (c.loop-e.invariant.there c.in-Some.e.0 (first_in c.loop-e.e-iterator c.next.new.self c.in-Some.e.0 c.in-Some.ensures.steps))

pub loop-e-preserved : goal.loop-e-preserved
loop-e-preserved c =
    let short = c.requires.gone c.in-Some.e.0 (c.loop-e.invariant.there c.in-Some.e.0 (first_in c.loop-e.e-iterator c.next.new.self c.in-Some.e.0 c.in-Some.ensures.steps)) in
    let low : c.ends.result.0.0 < length c.loop-e.left = omega (arith, c.ends.ensures.from, c.loop-e.invariant.whole, c.requires.froms c.in-Some.e.0 blank_edge short) in record {
      can = tt;
      finite = tt;
      whole = length-set _ _ _ ∙ c.loop-e.invariant.whole;
      so_far = λ a d. edge_less c.args.way c.args.edges.now c.loop-e.left _ c.in-Some.e.0 c.ends.result.0.0 c.ends.result.1.0 c.index-left-from.result c.put.new.self low c.ends.ensures.from c.ends.ensures.to
          (c.put.ensures ∙ ap (λ s. put s c.ends.result.1.0) c.new-one.ensures) (ap (set c.loop-e.left c.ends.result.0.0) c.minus.ensures) c.loop-e.e-iterator c.next.new.self c.in-Some.ensures.steps a d ∙ c.loop-e.invariant.so_far a d;
      there = λ e h. c.loop-e.invariant.there e (later_in c.loop-e.e-iterator c.next.new.self c.in-Some.e.0 e c.in-Some.ensures.steps h);
    }

pub returns : goal.returns
returns c a d = edges_gone c.args.way c.args.edges.now c.args.rows.now c.loop-e.left c.args.gone.now c.loop-e.e-iterator a d c.requires.gone c.requires.few c.in-None.ensures.steps.0 (c.loop-e.invariant.so_far a d)
