use Rattle.std.proofs.Common.{ℕ, List, ◌++◌, ◌<◌, ap, subst, sym, ◌∙◌, length, string_bytes}
use Rattle.std.specs.List.{flat_map, AllByRecursion}
use Rattle.arch_model.specs.declared.limits.TheConstants.{EDGES}
use Rattle.arch_csv.specs.Text.{edge_line}
use Rattle.arch_csv.proofs.TextLaws.{all_members}
use Rattle.arch_csv.proofs.writer.push_edges.Goals as goal

pub loop-edge-init : goal.loop-edge-init
loop-edge-init c =
    let all = c.into_iter-edge-iterator.ensures.into_iter_gives ∙ c.members-edge-items.ensures in
    let P : List ℕ → Type 0 = AllByRecursion (λ k. k < length c.args.lib.now.edges) in
    record {
      in_range = subst P (sym all) (all_members c.args.edges.now EDGES (λ k. k < length c.args.lib.now.edges) c.requires);
      text = ap (λ (l : List ℕ). string_bytes c.args.text.now ++ flat_map (edge_line c.args.lib.now) l) all;
    }
