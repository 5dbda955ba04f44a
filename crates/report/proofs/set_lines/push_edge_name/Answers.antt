use Rattle.arch_model.proofs.Ranges.{edge_tails, edge_heads, blank_edge}
use Rattle.report.proofs.TextLaws.{three_pieces}
use Rattle.report.proofs.LineLaws.{edge_name_is}
use Rattle.report.proofs.set_lines.push_edge_name.Goals as goal

pub push_name-requires : goal.push_name-requires
push_name-requires c = rw c.edges.ensures.rows (edge_tails c.args.lib.now c.edges.ensures.library c.args.e.0 blank_edge c.requires)

pub push_name-requires-2 : goal.push_name-requires-2
push_name-requires-2 c = rw c.edges.ensures.rows (edge_heads c.args.lib.now c.edges.ensures.library c.args.e.0 blank_edge c.requires)

pub returns : goal.returns
returns c =
    three_pieces _ _ _ _ _ _ _ _ c.in_ok-push_name.ensures.bytes c.in_ok-push_str.ensures.bytes c.in_ok-push_name-2.ensures.bytes
    (edge_name_is c.args.lib.now c.args.e.0 c.edges.result.now blank_edge c.edges.ensures.rows c.requires)
