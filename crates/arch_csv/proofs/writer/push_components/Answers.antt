use Rattle.std.proofs.Common.{ℕ, List, ◌++◌, ◌<◌, ap, subst, sym, ◌∙◌, length, string_bytes}
use Rattle.std.specs.List.{flat_map, AllByRecursion}
use Rattle.arch_model.specs.declared.limits.TheConstants.{COMPONENTS}
use Rattle.arch_csv.specs.Text.{component_line}
use Rattle.arch_csv.proofs.TextLaws.{all_members}
use Rattle.arch_csv.proofs.writer.push_components.Goals as goal

pub loop-component-init : goal.loop-component-init
loop-component-init c =
    let all = c.into_iter-component-iterator.ensures.into_iter_gives ∙ c.members-component-items.ensures in
    let P : List ℕ → Type 0 = AllByRecursion (λ k. k < length c.args.lib.now.components) in
    record {
      in_range = subst P (sym all) (all_members c.args.comps.now COMPONENTS (λ k. k < length c.args.lib.now.components) c.requires);
      text = ap (λ (l : List ℕ). string_bytes c.args.text.now ++ flat_map (component_line c.args.lib.now) l) all;
    }
