use Rattle.arch_model.proofs.Ranges.{edge_tails, edge_heads, blank_edge}
use Rattle.arch_csv.proofs.TextLaws.{edge_line_is, five_pieces}
use Rattle.arch_csv.proofs.writer.push_edge.Goals as goal

pub push_name-requires : goal.push_name-requires
push_name-requires c = rw c.edges.ensures.rows (edge_tails c.args.lib.now c.edges.ensures.library c.args.edge.0 blank_edge c.requires)

pub push_name-requires-2 : goal.push_name-requires-2
push_name-requires-2 c = rw c.edges.ensures.rows (edge_heads c.args.lib.now c.edges.ensures.library c.args.edge.0 blank_edge c.requires)

pub returns : goal.returns
returns c =
    five_pieces _ _ _ _ _ _ _ _ _ _ _ _ c.in_ok-push_str.ensures.bytes c.in_ok-push_name.ensures.bytes c.in_ok-push_str-2.ensures.bytes c.in_ok-push_name-2.ensures.bytes c.in_ok-push_str-3.ensures.bytes
    (edge_line_is c.args.lib.now c.args.edge.0 c.edges.result.now c.edges.ensures.rows c.requires)
