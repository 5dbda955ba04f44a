use Rattle.std.proofs.Common.{codes, string_bytes, map}
use Rattle.std.specs.Fmt.{decimal}
use Rattle.std.specs.List.{flat_map}
use Rattle.arch_model.specs.declared.sets.VarId.{VarId}
use Rattle.report.specs.Sets.{spaced_name, set_line}
use Rattle.report.proofs.TextLaws.{three_pieces}
use Rattle.report.proofs.LineLaws.{set_is}
use Rattle.report.proofs.set_lines.push_set.Goals as goal

pub returns : goal.returns
returns c =
    let lib = c.args.lib.now in
    let members = map (λ (m : VarId). m.0) c.args.members.now in
    three_pieces (string_bytes c.args.text.now) (string_bytes c.write.new.self) (string_bytes c.push_members.new.text) (string_bytes c.push_str.new.self)
    (decimal c.product-product.result) (flat_map (spaced_name lib) members) (codes "\n") (set_line lib members)
    c.in_ok-write.ensures.bytes c.in_ok-push_members.ensures c.in_ok-push_str.ensures.bytes
    (set_is lib members c.product-product.result c.product-product.ensures.value)
