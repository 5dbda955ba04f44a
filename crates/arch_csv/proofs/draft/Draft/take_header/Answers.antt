use Rattle.std.proofs.Common.{refl, sym}
use Rattle.csv.specs.Records.{fields_of}
use Rattle.arch_csv.proofs.DraftLemmas.{header_taken}
use Rattle.arch_csv.proofs.draft.Draft.take_header.Goals as goal

pub returns : goal.returns
returns c = λ rows before. header_taken c.args.lib.now rows (fields_of c.args.row.now) c.args.self.now _ before c.requires (sym c.in_default.ensures) refl refl refl
