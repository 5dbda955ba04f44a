use Rattle.std.proofs.Common.{ap, subst}
use Rattle.std.proofs.lemmas.Result.{IfOk-weaker}
use Rattle.search_core.specs.declared.rule.Rule.TheVariants as rule
use Rattle.log_checker.specs.Phase.{IsClosedWith}
use Rattle.log_checker.specs.Reading.{TextParts}
use Rattle.log_checker.proofs.TextPieces.{end_passes, end_long, end_short}
use Rattle.log_checker.proofs.ReaderSteps.{told, none_missing}
use Rattle.log_checker.proofs.text.TextChecker.end.Goals as goal

pub returns-then-is_between_lines-clause-yes : goal.returns-then-is_between_lines-clause-yes
returns-then-is_between_lines-clause-yes c =
    IfOk-weaker c.finish.result _ _
    (λ answer closed text x.
    let P : TextParts → Type 0 = λ v. IsClosedWith answer v.checker.phase in
    end_passes c.args.self.now text x answer (c.is_between_lines.ensures.yes c.if-is_between_lines.true) (subst P c.self.view_is closed))
    c.finish.ensures.ok

pub returns-then-is_between_lines-clause-no : goal.returns-then-is_between_lines-clause-no
returns-then-is_between_lines-clause-no c =
    none_missing c.args.self.now c.self.inside.checker (ap (λ (v : TextParts). v.checker) c.self.view_is) c.finish.result (c.is_between_lines.ensures.yes c.if-is_between_lines.true) c.finish.ensures.no c.finish.ensures.end

pub returns-then-is_too_long-clause-no : goal.returns-then-is_too_long-clause-no
returns-then-is_too_long-clause-no c text x =
    told c.args.self.now c.refused.result rule.TooLong c.refused.ensures text (λ number is. end_long c.args.self.now text x number (c.is_too_long.ensures.yes c.if-is_too_long.true) is)

pub returns-clause-no : goal.returns-clause-no
returns-clause-no c text x =
    told c.args.self.now c.refused-2.result rule.End c.refused-2.ensures text (λ number is.
    end_short c.args.self.now text x number (c.is_between_lines.ensures.not c.if-is_between_lines.false) (c.is_too_long.ensures.not c.if-is_too_long.false) is)
