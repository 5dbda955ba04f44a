use Rattle.std.proofs.Common.{ℕ, ◌+◌, codes, length, get_or, string_bytes, ap, ◌∙◌}
use Rattle.arch_model.proofs.Ranges.{edge_tails, edge_heads, blank_edge}
use Rattle.template.specs.Names.{component_name}
use Rattle.report.specs.Template.{edge_line}
use Rattle.report.proofs.TextLaws.{five_pieces}
use Rattle.report.proofs.LineLaws.{edge_line_is, edge_begin, edge_end, edge_is}
use Rattle.report.proofs.template_lines.push_edge.Goals as goal

pub push_name-requires : goal.push_name-requires
push_name-requires c = rw c.edges.ensures.rows (edge_tails c.args.lib.now c.edges.ensures.library c.args.e.0 blank_edge c.requires)

pub push_name-requires-2 : goal.push_name-requires-2
push_name-requires-2 c = rw c.edges.ensures.rows (edge_heads c.args.lib.now c.edges.ensures.library c.args.e.0 blank_edge c.requires)

pub returns : goal.returns
returns c =
    let lib = c.args.lib.now in
    let edge = get_or c.edges.result.now c.args.e.0 blank_edge in
    let v = length c.components.result.now + c.args.e.0 in
    five_pieces (string_bytes c.args.text.now) (string_bytes c.write.new.self) (string_bytes c.push_name.new.out) (string_bytes c.push_str.new.self) (string_bytes c.push_name-2.new.out) (string_bytes c.write-2.new.self)
    (edge_begin v) (component_name lib edge.tail.0) (codes " ") (component_name lib edge.head.0) (edge_end edge.cost) (edge_line lib c.args.e.0)
    c.in_ok-write.ensures.bytes c.in_ok-push_name.ensures.bytes c.in_ok-push_str.ensures.bytes c.in_ok-push_name-2.ensures.bytes c.in_ok-write-2.ensures.bytes
    (edge_line_is lib c.args.e.0 c.edges.result.now blank_edge c.edges.ensures.rows c.requires ∙ edge_is lib c.args.e.0 v edge (ap (λ (k : ℕ). k + c.args.e.0) (ap length c.components.ensures.rows)))
