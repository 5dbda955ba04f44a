use Rattle.std.proofs.Common.{get_or, string_bytes, ◌∙◌}
use Rattle.arch_model.proofs.Ranges.{blank_component}
use Rattle.template.specs.Names.{component_name}
use Rattle.report.specs.Template.{component_line}
use Rattle.report.proofs.TextLaws.{three_pieces}
use Rattle.report.proofs.LineLaws.{component_line_is, component_begin, component_end, component_is}
use Rattle.report.proofs.template_lines.push_component.Goals as goal

pub returns : goal.returns
returns c =
    let lib = c.args.lib.now in
    let row = get_or c.components.result.now c.args.c.0 blank_component in
    three_pieces (string_bytes c.args.text.now) (string_bytes c.write.new.self) (string_bytes c.push_name.new.out) (string_bytes c.write-2.new.self)
    (component_begin c.args.c.0) (component_name lib c.args.c.0) (component_end c.role_text-role.result.now row) (component_line lib c.args.c.0)
    c.in_ok-write.ensures.bytes c.in_ok-push_name.ensures.bytes c.in_ok-write-2.ensures.bytes
    (component_line_is lib c.args.c.0 c.components.result.now blank_component c.components.ensures.rows c.requires ∙ component_is lib c.args.c.0 row c.role_text-role.result.now c.role_text-role.ensures)
