use Rattle.search_core.proofs.Candidates.{passed_is}
use Rattle.std.proofs.Common.{sym, ◌∙◌}
use Rattle.arch_model.specs.Set.{has}
use Rattle.binary_program.proofs.CubeLaws.{none_passing, passing_yes, passing_no}
use Rattle.search_core.proofs.candidate.components_among.Goals as goal
use Rattle.search_core.proofs.candidate.components_among.Goals.{then-has, else-has}

pub loop-c-init : goal.loop-c-init
loop-c-init c = none_passing (has c.args.members.now) c.new-comps.result c.new-comps.ensures

pub loop-c-preserved : goal.loop-c-preserved
loop-c-preserved c = elim c.if-has.branch [
  | then-has w ↦ passing_yes (has c.args.members.now) c.loop-c.c c.loop-c.comps c.if-has.comps c.loop-c.invariant (sym c.has.ensures.member ∙ w.if-has.true) (w.comps-is ∙ w.put.ensures)
  | else-has w ↦ passing_no (has c.args.members.now) c.loop-c.c c.loop-c.comps c.if-has.comps c.loop-c.invariant (sym c.has.ensures.member ∙ w.if-has.false) w.comps-is
]

pub returns : goal.returns
returns c = passed_is (has c.args.members.now) c.args.components c.loop-c.c c.loop-c.comps c.loop-c.invariant c.loop-c.auto.c-end c.loop-c-test.false
