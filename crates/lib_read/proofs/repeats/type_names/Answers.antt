use Rattle.std.proofs.Common.{codes, Some, ap, ◌∙◌}
use Rattle.std.specs.Str.{bytes_eq}
use Rattle.std.specs.List.{list_any}
use Rattle.toml.specs.View.{view}
use Rattle.lib_read.specs.declared.fault.TableName.TheVariants.{Types}
use Rattle.lib_read.specs.Fault.{least}
use Rattle.lib_read.specs.Tree.{text_at, rows_of}
use Rattle.lib_read.specs.Faults.{repeated_names}
use Rattle.lib_read.specs.Inner.Keys.{fault_view}
use Rattle.lib_read.proofs.RepeatLemmas.{repeats_here, repeats_new, repeats_none, values_new, values_old, was_there, was_absent}
use Rattle.lib_read.proofs.repeats.type_names.Goals as goal
use Rattle.lib_read.proofs.repeats.type_names.Goals.{in-Some+in_ok-add+else-not-branch, in_default}

pub returns-then-not-branch-clause-stops : goal.returns-then-not-branch-clause-stops
returns-then-not-branch-clause-stops c =
    let top = view c.args.top.now in
    let is = c.in-Some.ensures ∙ ap (λ v. text_at (codes "name") (view v)) c.index-rows-i.is in
    ap (λ f. Some (fault_view f)) c.repeat.ensures
    ∙ repeats_here bytes_eq (text_at (codes "name")) Types (codes "name") (rows_of Types top) c.rows_of-rows.result.now c.loop-i.i c.index-rows-i.result c.loop-i.names (least (repeated_names top)) c.rows_of-rows.ensures c.loop-i-test.true c.loop-i.invariant.names c.loop-i.invariant.first
    c.in-Some.name.now is (was_there (list_any (bytes_eq c.in-Some.name.now) c.loop-i.names) c.in_ok-add.field-0 c.in_ok-add.ensures.new c.if-not-branch.true)

pub loop-i-preserved : goal.loop-i-preserved
loop-i-preserved c =
    let top = view c.args.top.now in
    elim c.match-text_at.branch [
      | in-Some+in_ok-add+else-not-branch w ↦
          let is = w.in-Some.ensures ∙ ap (λ v. text_at (codes "name") (view v)) c.index-rows-i.is in
          record {
            names = values_new (text_at (codes "name")) c.rows_of-rows.result.now c.loop-i.i c.index-rows-i.result c.loop-i.names c.match-text_at.names w.in-Some.name.now c.loop-i-test.true is c.loop-i.invariant.names (w.names-is ∙ rw w.if-not-branch.false at w.in_ok-add.ensures.names);
            first = repeats_new bytes_eq (text_at (codes "name")) Types (codes "name") (rows_of Types top) c.rows_of-rows.result.now c.loop-i.i c.index-rows-i.result c.loop-i.names (least (repeated_names top)) c.rows_of-rows.ensures c.loop-i-test.true c.loop-i.invariant.names c.loop-i.invariant.first
                w.in-Some.name.now is (was_absent (list_any (bytes_eq w.in-Some.name.now) c.loop-i.names) w.in_ok-add.field-0 w.in_ok-add.ensures.new w.if-not-branch.false);
          }
      | in_default w ↦
          let is = w.in_default.ensures ∙ ap (λ v. text_at (codes "name") (view v)) c.index-rows-i.is in
          record {
            names = values_old (text_at (codes "name")) c.rows_of-rows.result.now c.loop-i.i c.index-rows-i.result c.loop-i.names c.match-text_at.names c.loop-i-test.true is c.loop-i.invariant.names w.names-is;
            first = repeats_none bytes_eq (text_at (codes "name")) Types (codes "name") (rows_of Types top) c.rows_of-rows.result.now c.loop-i.i c.index-rows-i.result c.loop-i.names (least (repeated_names top)) c.rows_of-rows.ensures c.loop-i-test.true c.loop-i.invariant.names c.loop-i.invariant.first is;
          }
    ]
