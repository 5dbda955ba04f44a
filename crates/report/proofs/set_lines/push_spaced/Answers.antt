use Rattle.std.proofs.Common.{codes, string_bytes, refl}
use Rattle.report.specs.Sets.{member_name, spaced_name}
use Rattle.report.proofs.TextLaws.{two_pieces}
use Rattle.report.proofs.set_lines.push_spaced.Goals as goal

pub returns : goal.returns
unfolding spaced_name
returns c =
    two_pieces (string_bytes c.args.text.now) (string_bytes c.push_str.new.self) (string_bytes c.push_member.new.text) (codes " ") (member_name c.args.lib.now c.args.member.0) (spaced_name c.args.lib.now c.args.member.0)
    c.in_ok-push_str.ensures.bytes c.in_ok-push_member.ensures refl
