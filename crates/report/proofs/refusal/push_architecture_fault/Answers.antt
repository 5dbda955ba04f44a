use Rattle.std.proofs.Common.{List, ℕ, ◌++◌, string_bytes, ap, sym, ◌∙◌}
use Rattle.report.proofs.RefusalLaws.{architecture_is}
use Rattle.report.proofs.refusal.push_architecture_fault.Goals as goal

pub returns : goal.returns
returns c =
    c.in_ok-write.ensures.bytes
    ∙ ap (λ (t : List ℕ). string_bytes c.args.text.now ++ t) (sym (architecture_is c.args.fault.now c.arch_class_text-class.result.now c.arch_class_text-class.ensures))
