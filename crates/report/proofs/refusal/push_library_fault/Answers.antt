use Rattle.std.proofs.Common.{codes, string_bytes}
use Rattle.report.specs.Refusal.{key_text, refused_library_text}
use Rattle.report.proofs.TextLaws.{three_pieces}
use Rattle.report.proofs.RefusalLaws.{before_key, library_is}
use Rattle.report.proofs.refusal.push_library_fault.Goals as goal

pub returns : goal.returns
returns c =
    let fault = c.args.fault.now in
    let class = c.class_text-class.result.now in
    let table = c.table_text-table.result.now in
    let key = c.bytes.result.now in
    three_pieces (string_bytes c.args.text.now) (string_bytes c.write.new.self) (string_bytes c.push_key.new.text) (string_bytes c.push_str.new.self)
    (before_key class table fault.position) (key_text key) (codes "\n") (refused_library_text fault) c.in_ok-write.ensures.bytes c.in_ok-push_key.ensures c.in_ok-push_str.ensures.bytes
    (library_is fault class table key c.class_text-class.ensures c.table_text-table.ensures c.bytes.ensures)
