use Rattle.std.proofs.Common.{codes, sym, ◌∙◌}
use Rattle.std.specs.Fmt.{decimal}
use Rattle.std.proofs.lemmas.List.{append_assoc}
use Rattle.std.proofs.lemmas.Result.{IfOk-weaker}
use Rattle.template.proofs.names.instance_name.Goals as goal

pub returns : goal.returns
returns c = IfOk-weaker c.format.result _ _ (λ s e. e ∙ sym (append_assoc c.args.type_name.now (codes ".") (decimal c.args.index))) c.format.ensures.ok
