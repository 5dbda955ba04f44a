use Rattle.std.proofs.Common.{◌≡◌, ◌∙◌, ap, Some, [], arith}
use Rattle.arch_model.specs.Set.{len}
use Rattle.arch_model.specs.Member.{member_count}
use Rattle.rows.specs.Known.{parts_of, variables}
use Rattle.rows.specs.Trace.{cube_after}
use Rattle.propagate.proofs.WayLaws.{fixed_count, leads_more, leads_from}
use Rattle.propagate.proofs.Promise.{closes_by, closes_refuted}
use Rattle.propagate.proofs.closing.close.Goals as goal

pub overflow_sub-free : goal.overflow_sub-free
overflow_sub-free c =
    let counted : c.len.result ≡ len c.args.cube.fixed = c.len.ensures ∙ ap len c.fixed.ensures.fixed in
    let all : c.variable_count.result ≡ variables (parts_of c.args.known.now) = c.variable_count.ensures.count ∙ ap member_count c.library.ensures.library in
    omega (arith, counted, all, fixed_count (variables (parts_of c.args.known.now)) c.args.cube c.requires.below)

pub returns-in-Some : goal.returns-in-Some
returns-in-Some c =
    let known = parts_of c.args.known.now in
    let reached = leads_from known c.args.cube c.pass.new.cube c.pass.new.steps.items (leads_more known c.args.cube c.loop-row.cube c.pass.new.cube [] c.loop-row.steps.items c.pass.new.steps.items c.loop-row.invariant.leads c.pass.ensures.leads) in
    closes_refuted known c.args.cube c.pass.new.cube c.new-trace.result c.fixed.ensures.cube (ap (cube_after known c.args.cube) c.new-trace.ensures ∙ reached) c.pass.ensures.room.below c.in-Some.row (c.in-Some.ensures.there, c.in-Some.ensures.refuted)

pub returns-then-len-before : goal.returns-then-len-before
returns-then-len-before c =
    let known = parts_of c.args.known.now in
    let reached = leads_from known c.args.cube c.pass.new.cube c.pass.new.steps.items (leads_more known c.args.cube c.loop-row.cube c.pass.new.cube [] c.loop-row.steps.items c.pass.new.steps.items c.loop-row.invariant.leads c.pass.ensures.leads) in
    closes_by known c.args.cube c.pass.new.cube c.pass.new.steps.items c.fixed.ensures.cube reached c.pass.ensures.room.below c.quiet_or_full.result c.quiet_or_full.ensures.cube (c.quiet_or_full.ensures.trace ∙ c.new.ensures) c.quiet_or_full.ensures.answer (c.quiet_or_full.ensures.left c.args.cube)

pub loop-row-preserved : goal.loop-row-preserved
loop-row-preserved c = record {
  room = c.pass.ensures.room;
  leads = leads_more (parts_of c.args.known.now) c.args.cube c.loop-row.cube c.pass.new.cube [] c.loop-row.steps.items c.pass.new.steps.items c.loop-row.invariant.leads c.pass.ensures.leads;
}
