use Rattle.std.proofs.Common.{◌∙◌, arith}
use Rattle.rows.specs.Known.{parts_of}
use Rattle.rows.proofs.TraceLaws.{rows_below}
use Rattle.propagate.proofs.WayLaws.{leads_more, pass_quiet}
use Rattle.propagate.proofs.passes.pass.Goals as goal

pub apply-requires-clause-below : goal.apply-requires-clause-below
apply-requires-clause-below c = rows_below (parts_of c.args.known.now) c.row_count-k-end.ensures.problem c.requires.known

pub returns-then-not-apply-clause-leads : goal.returns-then-not-apply-clause-leads
returns-then-not-apply-clause-leads c =
    leads_more (parts_of c.args.known.now) c.args.cube.now c.loop-k.cube c.apply.new.cube c.args.steps.now.items c.loop-k.steps.items c.apply.new.steps.items c.loop-k.invariant.leads c.apply.ensures.leads

pub loop-k-preserved : goal.loop-k-preserved
loop-k-preserved c = record {
  room = c.apply.ensures.room;
  capacity = c.apply.ensures.capacity ∙ c.loop-k.invariant.capacity;
  leads = leads_more (parts_of c.args.known.now) c.args.cube.now c.loop-k.cube c.apply.new.cube c.args.steps.now.items c.loop-k.steps.items c.apply.new.steps.items c.loop-k.invariant.leads c.apply.ensures.leads;
  quiet =
      pass_quiet (parts_of c.args.known.now) c.args.cube.now c.loop-k.cube c.apply.new.cube c.args.steps.now.items c.loop-k.steps.items c.apply.new.steps.items c.row_name-r.result c.loop-k.k c.loop-k.invariant.leads c.apply.ensures.leads
      c.loop-k.invariant.quiet c.row_name-r.ensures.row (omega arith) (c.apply.ensures.quiet c.if-not-apply.false);
}
