use Rattle.std.proofs.Common.{◌++◌, codes, string_bytes}
use Rattle.std.specs.Fmt.{decimal, signed_decimal}
use Rattle.std.specs.List.{flat_map}
use Rattle.report.specs.Rows.{term_text, row_line}
use Rattle.report.proofs.TextLaws.{five_pieces}
use Rattle.report.proofs.LineLaws.{row_is}
use Rattle.report.proofs.row_lines.push_row.Goals as goal

pub returns : goal.returns
returns c =
    five_pieces (string_bytes c.args.text.now) (string_bytes c.write.new.self) (string_bytes c.push_terms.new.text) (string_bytes c.push_str.new.self) (string_bytes c.push_least.new.text) (string_bytes c.push_str-2.new.self)
    (codes "b" ++ decimal c.args.number) (flat_map term_text c.terms.result.now) (codes " >= ") (signed_decimal c.args.row.now.least) (codes "\n") (row_line c.args.number c.args.row.now)
    c.in_ok-write.ensures.bytes c.in_ok-push_terms.ensures c.in_ok-push_str.ensures.bytes c.in_ok-push_least.ensures c.in_ok-push_str-2.ensures.bytes
    (row_is c.args.number c.args.row.now c.terms.result.now c.terms.ensures.terms)
