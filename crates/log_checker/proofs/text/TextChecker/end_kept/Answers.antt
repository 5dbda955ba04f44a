use Rattle.std.proofs.Common.{◌+◌, ap, ◌∙◌}
use Rattle.std.proofs.lemmas.Result.{err_from_is_err_and}
use Rattle.log_checker.specs.Reading.{TextParts}
use Rattle.log_checker.proofs.ReaderSteps.{end_kept_adds, end_kept_breaks}
use Rattle.log_checker.proofs.text.TextChecker.end_kept.Goals as goal

pub returns-in_err-feed-clause-no : goal.returns-in_err-feed-clause-no
returns-in_err-feed-clause-no c =
    let p = err_from_is_err_and c.from_residual.result c.from_residual.ensures.1 in
    rw (p.1, p.2)
    (end_kept_breaks c.args.self.now c.self.inside.checker (ap (λ (v : TextParts). v.checker) c.self.view_is) c.deref.result.now c.in_err-feed.field-0.0
    (c.deref.ensures.value ∙ ap (λ (v : TextParts). v.kept) c.self.view_is) c.requires c.in_err-feed.ensures.no c.in_err-feed.ensures.number)

pub returns-clause-adds : goal.returns-clause-adds
returns-clause-adds c =
    let new : TextParts = record { checker = c.feed.new.self; kept = c.clear.new.self.items; bytes = c.self.inside.bytes + 1 } in
    end_kept_adds c.args.self.now c.self.inside.checker (ap (λ (v : TextParts). v.checker) c.self.view_is) new c.deref.result.now
    (c.deref.ensures.value ∙ ap (λ (v : TextParts). v.kept) c.self.view_is) c.requires c.in_ok-feed.ensures.leads c.feed.ensures.problem c.in_ok-feed.ensures.counted
    c.clear.ensures.items (ap (λ (v : TextParts). v.bytes + 1) c.self.view_is)
