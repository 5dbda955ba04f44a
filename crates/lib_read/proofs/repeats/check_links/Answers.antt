use Rattle.std.proofs.Common.{codes, Some, ap, ◌∙◌}
use Rattle.std.specs.List.{list_any}
use Rattle.toml.specs.View.{view}
use Rattle.lib_read.specs.declared.fault.TableName.TheVariants.{Links}
use Rattle.lib_read.specs.Fault.{least}
use Rattle.lib_read.specs.Tree.{rows_of}
use Rattle.lib_read.specs.Faults.{link_ends, same_ends, repeated_links}
use Rattle.lib_read.specs.Inner.Keys.{fault_view}
use Rattle.lib_read.proofs.RepeatLemmas.{repeats_here, repeats_new, repeats_none, values_new, values_old, was_there, was_absent}
use Rattle.lib_read.proofs.repeats.check_links.Goals as goal
use Rattle.lib_read.proofs.repeats.check_links.Goals.{in-Some+in_ok-add+else-not-branch, in_default}

pub returns-then-not-branch-clause-stops : goal.returns-then-not-branch-clause-stops
returns-then-not-branch-clause-stops c =
    let top = view c.args.top.now in
    let is = c.in-Some.ensures ∙ ap (λ v. link_ends (view v)) c.index-rows-i.is in
    ap (λ f. Some (fault_view f)) c.repeat.ensures
    ∙ repeats_here same_ends link_ends Links (codes "to") (rows_of Links top) c.rows_of-rows.result.now c.loop-i.i c.index-rows-i.result c.loop-i.pairs (least (repeated_links top)) c.rows_of-rows.ensures c.loop-i-test.true c.loop-i.invariant.pairs c.loop-i.invariant.first
    (c.in-Some.from.now, c.in-Some.to.now) is (was_there (list_any (same_ends (c.in-Some.from.now, c.in-Some.to.now)) c.loop-i.pairs) c.in_ok-add.field-0 c.in_ok-add.ensures.new c.if-not-branch.true)

pub loop-i-preserved : goal.loop-i-preserved
loop-i-preserved c =
    let top = view c.args.top.now in
    elim c.match-link_ends.branch [
      | in-Some+in_ok-add+else-not-branch w ↦
          let is = w.in-Some.ensures ∙ ap (λ v. link_ends (view v)) c.index-rows-i.is in
          record {
            pairs = values_new link_ends c.rows_of-rows.result.now c.loop-i.i c.index-rows-i.result c.loop-i.pairs c.match-link_ends.pairs (w.in-Some.from.now, w.in-Some.to.now) c.loop-i-test.true is c.loop-i.invariant.pairs (w.pairs-is ∙ rw w.if-not-branch.false at w.in_ok-add.ensures.pairs);
            first = repeats_new same_ends link_ends Links (codes "to") (rows_of Links top) c.rows_of-rows.result.now c.loop-i.i c.index-rows-i.result c.loop-i.pairs (least (repeated_links top)) c.rows_of-rows.ensures c.loop-i-test.true c.loop-i.invariant.pairs c.loop-i.invariant.first
                (w.in-Some.from.now, w.in-Some.to.now) is (was_absent (list_any (same_ends (w.in-Some.from.now, w.in-Some.to.now)) c.loop-i.pairs) w.in_ok-add.field-0 w.in_ok-add.ensures.new w.if-not-branch.false);
          }
      | in_default w ↦
          let is = w.in_default.ensures ∙ ap (λ v. link_ends (view v)) c.index-rows-i.is in
          record {
            pairs = values_old link_ends c.rows_of-rows.result.now c.loop-i.i c.index-rows-i.result c.loop-i.pairs c.match-link_ends.pairs c.loop-i-test.true is c.loop-i.invariant.pairs w.pairs-is;
            first = repeats_none same_ends link_ends Links (codes "to") (rows_of Links top) c.rows_of-rows.result.now c.loop-i.i c.index-rows-i.result c.loop-i.pairs (least (repeated_links top)) c.rows_of-rows.ensures c.loop-i-test.true c.loop-i.invariant.pairs c.loop-i.invariant.first is;
          }
    ]
