use Rattle.std.proofs.Common.{◌<◌, length, get_or, sym, arith, ap, below_more, ◌∙◌}
use Rattle.arch_model.proofs.Ranges.{blank_component}
use Rattle.template.proofs.NameLaws.{component_numbers, written_name}
use Rattle.template.proofs.IndexLaws.{names_instance, names_another}
use Rattle.template.proofs.finding.find_component.Goals as goal

pub bounds-types-component : goal.bounds-types-component
bounds-types-component c =
    let short : c.loop-c.c < length c.args.lib.now.components = omega (arith, ap length c.components-components.ensures.rows) in
    rw (c.components-components.ensures.rows, c.types-types.ensures.rows) (component_numbers c.args.lib.now c.components-components.ensures.library c.loop-c.c blank_component short).0

pub returns-then-eq-clause-found : goal.returns-then-eq-clause-found
returns-then-eq-clause-found c =
    let short : c.loop-c.c < length c.args.lib.now.components = omega (arith, ap length c.components-components.ensures.rows) in
    let index = (get_or c.components-components.result.now c.loop-c.c blank_component).index in
    let written = written_name c.args.lib.now c.components-components.result.now c.types-types.result.now c.loop-c.c c.index-types-component.result c.text.result.now c.components-components.ensures.library short c.components-components.ensures.rows c.types-types.ensures.rows c.index-types-component.is c.text.ensures.text in
    (short, sym written ∙ sym (names_instance c.index_in.result c.text.result.now c.args.name.now index c.index_in.ensures.is c.if-eq.ensures))

pub loop-c-preserved : goal.loop-c-preserved
loop-c-preserved c =
    let short : c.loop-c.c < length c.args.lib.now.components = omega (arith, ap length c.components-components.ensures.rows) in
    let index = (get_or c.components-components.result.now c.loop-c.c blank_component).index in
    let written = written_name c.args.lib.now c.components-components.result.now c.types-types.result.now c.loop-c.c c.index-types-component.result c.text.result.now c.components-components.ensures.library short c.components-components.ensures.rows c.types-types.ensures.rows c.index-types-component.is c.text.ensures.text in
    let numbers = (component_numbers c.args.lib.now c.components-components.ensures.library c.loop-c.c blank_component short) in
    let same = ap (λ cs. (get_or cs c.loop-c.c blank_component).index) c.components-components.ensures.rows in
    below_more _ _ c.loop-c.invariant (λ e. names_another c.index_in.result c.text.result.now c.args.name.now index (omega (arith, numbers.1, same)) (omega (arith, numbers.2, same)) c.index_in.ensures.is c.index_in.ensures.none c.if-eq.ensures (sym e ∙ sym written))
