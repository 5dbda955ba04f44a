use Rattle.std.proofs.Common.{◌++◌, codes, string_bytes}
use Rattle.std.specs.Fmt.{decimal}
use Rattle.report.specs.Rows.{term_text}
use Rattle.report.proofs.TextLaws.{two_pieces}
use Rattle.report.proofs.LineLaws.{term_is}
use Rattle.report.proofs.row_lines.push_term.Goals as goal

pub returns : goal.returns
returns c =
    two_pieces (string_bytes c.args.text.now) (string_bytes c.push_str.new.self) (string_bytes c.write.new.self)
    c.sign_text.result.now (decimal c.size-size.result ++ (codes "*" ++ decimal c.args.term.now.var.0)) (term_text c.args.term.now) c.in_ok-push_str.ensures.bytes c.in_ok-write.ensures.bytes
    (term_is c.args.term.now c.sign_text.result.now c.size-size.result c.sign_text.ensures c.size-size.ensures)
