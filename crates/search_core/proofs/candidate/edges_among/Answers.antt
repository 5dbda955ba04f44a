use Rattle.search_core.proofs.Candidates.{passed_is}
use Rattle.std.proofs.Common.{sym, ◌∙◌}
use Rattle.binary_program.proofs.CubeLaws.{edge_in, none_passing, passing_yes, passing_no}
use Rattle.search_core.proofs.candidate.edges_among.Goals as goal
use Rattle.search_core.proofs.candidate.edges_among.Goals.{then-has, else-has}

pub loop-e-init : goal.loop-e-init
loop-e-init c = none_passing (edge_in c.args.components c.args.members.now) c.new-chosen.result c.new-chosen.ensures

pub loop-e-preserved : goal.loop-e-preserved
loop-e-preserved c = elim c.if-has.branch [
  | then-has w ↦ passing_yes (edge_in c.args.components c.args.members.now) c.loop-e.e c.loop-e.chosen c.if-has.chosen c.loop-e.invariant (sym c.has.ensures.member ∙ w.if-has.true) (w.chosen-is ∙ w.put.ensures)
  | else-has w ↦ passing_no (edge_in c.args.components c.args.members.now) c.loop-e.e c.loop-e.chosen c.if-has.chosen c.loop-e.invariant (sym c.has.ensures.member ∙ w.if-has.false) w.chosen-is
]

pub returns : goal.returns
returns c = passed_is (edge_in c.args.components c.args.members.now) c.args.edges c.loop-e.e c.loop-e.chosen c.loop-e.invariant c.loop-e.auto.e-end c.loop-e-test.false
