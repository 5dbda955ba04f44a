use Rattle.search_core.specs.declared.rule.Rule.TheVariants as rule
use Rattle.log_checker.proofs.TextPieces.{part_past}
use Rattle.log_checker.proofs.ReaderSteps.{told}
use Rattle.log_checker.proofs.text.TextChecker.go_on.Goals as goal

pub returns-then-is_past-clause-no : goal.returns-then-is_past-clause-no
returns-then-is_past-clause-no c text more x =
    told c.args.self.now c.refused.result rule.TooLarge c.refused.ensures _ (λ number is. part_past c.args.self.now text x c.args.part.now more number c.requires (c.is_past.ensures.past c.if-is_past.true) is)
