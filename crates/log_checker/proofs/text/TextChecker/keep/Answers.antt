use Rattle.std.proofs.Common.{ℕ, ◌+◌, List, ◌++◌, length, take, ap, ◌∙◌}
use Rattle.std.proofs.lemmas.List.{take_min}
use Rattle.log_checker.specs.Reading.{TextParts}
use Rattle.log_checker.proofs.TextPieces.{kept_added}
use Rattle.log_checker.proofs.ReaderSteps.{grown}
use Rattle.log_checker.proofs.text.TextChecker.keep.Goals as goal

pub returns-clause-adds : goal.returns-clause-adds
returns-clause-adds c text x =
    let part : List ℕ = c.args.part.now in
    let new : TextParts = record { checker = c.self.inside.checker; kept = c.extend_from_slice.new.self.items; bytes = c.self.inside.bytes + length part } in
    kept_added c.args.self.now text x new part (take c.min.result part) c.requires.free c.requires.fits (ap (λ (v : TextParts). v.checker) c.self.view_is)
    (ap (λ n. take n part) c.min.ensures ∙ take_min c.room.result part ∙ ap (λ n. take n part) c.room.ensures)
    (grown c.extend_from_slice.result c.is_err.result c.self.inside.kept.items c.extend_from_slice.new.self.items (take c.min.result part) c.is_err.ensures.negation c.if-is_err.false c.extend_from_slice.ensures.items
    ∙ ap (λ (v : TextParts). v.kept ++ take c.min.result part) c.self.view_is)
    (ap (λ (v : TextParts). v.bytes + length part) c.self.view_is)
