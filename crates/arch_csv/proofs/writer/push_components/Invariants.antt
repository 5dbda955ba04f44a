use Rattle.std.proofs.Common.{◌≡◌, ◌++◌, ◌<◌, length, string_bytes}
use Rattle.std.specs.List.{flat_map, AllByRecursion}
use Rattle.arch_model.specs.declared.limits.TheConstants.{COMPONENTS}
use Rattle.arch_model.specs.Set.{members_below}
use Rattle.arch_csv.specs.Text.{component_line}
use Rattle.arch_csv.proofs.writer.push_components.Given as goal

-- the text so far and the lines of the rest are the text with all lines
abbrev pub invariant-loop-component : goal.invariant-loop-component
invariant-loop-component l = record {
  in_range : AllByRecursion (λ c. c < length l.lib.components) l.component-iterator;
  text : string_bytes l.text ++ flat_map (component_line l.lib) l.component-iterator ≡ string_bytes l.fn.text ++ flat_map (component_line l.lib) (members_below l.comps COMPONENTS);
}
