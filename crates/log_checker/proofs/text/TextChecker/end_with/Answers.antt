use Rattle.std.proofs.Common.{◌∷◌, [], ap}
use Rattle.search_core.specs.declared.rule.Rule.TheVariants as rule
use Rattle.std.proofs.lemmas.Result.{on_ok_weaker, on_err_weaker}
use Rattle.log_checker.specs.Text.{LINE_FEED}
use Rattle.log_checker.specs.Phase.{CheckerParts}
use Rattle.log_checker.proofs.TextPieces.{line_past}
use Rattle.log_checker.proofs.ReaderSteps.{on_err_holds, if_err_weaker, adds_then, breaks_then, no_front, first_front, told}
use Rattle.log_checker.proofs.text.TextChecker.end_with.Goals as goal

pub returns-then-is_past-clause-no : goal.returns-then-is_past-clause-no
returns-then-is_past-clause-no c text more x =
    told c.args.self.now c.refused.result rule.TooLarge c.refused.ensures _ (λ number is. line_past c.args.self.now text x c.args.part.now more number c.requires (c.is_past.ensures.past c.if-is_past.true) is)

pub returns-in_err-keep-clause-front : goal.returns-in_err-keep-clause-front
returns-in_err-keep-clause-front c = on_err_holds c.from_residual.result (no_front c.args.self.now c.keep.new.self _ c.in_err-keep.ensures.unchanged)

pub returns-clause-adds : goal.returns-clause-adds
returns-clause-adds c =
    on_ok_weaker c.end_kept.result (λ next. adds_then c.args.self.now c.keep.new.self c.end_kept.new.self c.args.part.now (LINE_FEED ∷ []) c.in_ok-keep.ensures.adds next) c.end_kept.ensures.adds

pub returns-clause-no : goal.returns-clause-no
returns-clause-no c =
    if_err_weaker c.end_kept.result _ _
    (λ e breaks. breaks_then c.args.self.now c.keep.new.self c.args.part.now (LINE_FEED ∷ []) e c.in_ok-keep.ensures.adds (ap (λ (v : CheckerParts). v.problem) c.keep.ensures.checker) breaks) c.end_kept.ensures.no

pub returns-clause-front : goal.returns-clause-front
returns-clause-front c =
    on_err_weaker c.end_kept.result (λ same. first_front c.args.self.now c.keep.new.self c.end_kept.new.self c.args.part.now (LINE_FEED ∷ []) c.in_ok-keep.ensures.adds same) c.end_kept.ensures.unchanged
