use Rattle.std.proofs.Common.{refl}
use Rattle.csv.specs.Records.{fields_of}
use Rattle.arch_csv.specs.Inner.Draft.{draft_members}
use Rattle.arch_csv.proofs.DraftLemmas.{added_fits, item_taken}
use Rattle.arch_csv.proofs.draft.Draft.take_item.Goals as goal

pub put-requires : goal.put-requires
put-requires c = added_fits c.args.lib.now c.requires.library (draft_members c.args.self.now) (fields_of c.args.row.now) c.in-Ok.item c.in-Ok.ensures

pub returns : goal.returns
returns c = λ rows before.
    item_taken c.args.lib.now rows (fields_of c.args.row.now) c.args.self.now _ c.in-Ok.item before c.requires.later c.in-Ok.ensures refl c.in_ok-put-in-Ok.ensures.members c.in_ok-put-in-Ok.ensures.edges
