use Rattle.std.proofs.Common.{◌≡◌, ◌++◌, ◌<◌, length, string_bytes}
use Rattle.std.specs.List.{flat_map, AllByRecursion}
use Rattle.arch_model.specs.declared.limits.TheConstants.{EDGES}
use Rattle.arch_model.specs.Set.{members_below}
use Rattle.arch_csv.specs.Text.{edge_line}
use Rattle.arch_csv.proofs.writer.push_edges.Given as goal

-- the text so far and the lines of the rest are the text with all lines
abbrev pub invariant-loop-edge : goal.invariant-loop-edge
invariant-loop-edge l = record {
  in_range : AllByRecursion (λ e. e < length l.lib.edges) l.edge-iterator;
  text : string_bytes l.text ++ flat_map (edge_line l.lib) l.edge-iterator ≡ string_bytes l.fn.text ++ flat_map (edge_line l.lib) (members_below l.edges EDGES);
}
