use Rattle.binary_program.proofs.BuildEdgeRows.{edge_rows_more, tail_in, head_in}
use Rattle.binary_program.proofs.edge_rows.push_edge_rows.Goals as goal

pub push_end_row-requires-clause-end : goal.push_end_row-requires-clause-end
push_end_row-requires-clause-end c = tail_in c.args.lib.now c.edges-edge-items.result.now c.loop-e.e c.edges-edge-items.ensures.library c.edges-edge-items.ensures.rows c.loop-e-test.true

pub push_end_row-requires-in-loop-e-clause-end : goal.push_end_row-requires-in-loop-e-clause-end
push_end_row-requires-in-loop-e-clause-end c = head_in c.args.lib.now c.edges-edge-items.result.now c.loop-e.e c.edges-edge-items.ensures.library c.edges-edge-items.ensures.rows c.loop-e-test.true

pub loop-e-preserved : goal.loop-e-preserved
loop-e-preserved c =
    edge_rows_more c.args.lib.now c.edges-edge-items.result.now c.loop-e.e c.edge_variable-var.result.0 c.args.rows.now.items c.loop-e.rows.items c.push_end_row.new.rows.items c.push_end_row-in-loop-e.new.rows.items c.loop-e-test.true c.edge_variable-var.ensures
    c.loop-e.invariant c.in_ok-push_end_row.ensures c.in_ok-push_end_row-2.ensures
