use Rattle.std.proofs.Common.{◌∙◌, sym, ap, subst}
use Rattle.std.specs.Str.{IsUtf8}
use Rattle.arch_csv.specs.Records.{component_named}
use Rattle.arch_csv.proofs.PlainNames.{names_are_text}
use Rattle.arch_csv.proofs.Naming.{named_nowhere, component_found}
use Rattle.arch_csv.proofs.item.component_of.Goals as goal

pub returns-in_default : goal.returns-in_default
returns-in_default c =
    sym (named_nowhere c.args.lib.now c.args.name.now (λ d short same. c.in_default.ensures.cases.0 (subst IsUtf8 same (names_are_text c.args.lib.now c.requires d short))))

pub returns : goal.returns
returns c =
    component_found c.args.lib.now c.in-Ok.name.now c.find_component.result c.requires c.find_component.ensures.found c.find_component.ensures.none
    ∙ ap (component_named c.args.lib.now) c.in-Ok.ensures.cases.0
