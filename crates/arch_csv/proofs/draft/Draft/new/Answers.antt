use Rattle.arch_csv.proofs.DraftLemmas.{empty_draft}
use Rattle.std.proofs.Common.{refl}
use Rattle.arch_csv.proofs.draft.Draft.new.Goals as goal

pub returns-clause-empty : goal.returns-clause-empty
returns-clause-empty c = empty_draft c.args.lib.now _ refl c.new.ensures c.new-2.ensures c.in_ok-edge_records.ensures.items
