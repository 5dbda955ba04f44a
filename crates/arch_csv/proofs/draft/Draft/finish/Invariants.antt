use Rattle.arch_csv.specs.Inner.Draft.{EndsThere, draft_members}
use Rattle.arch_csv.proofs.draft.Draft.finish.Given as goal

abbrev pub invariant-loop-place : goal.invariant-loop-place
invariant-loop-place l = EndsThere l.lib (draft_members l.fn.self) l.place-items l.place-index
