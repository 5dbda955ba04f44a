use Rattle.std.proofs.Common.{ap, ◌∙◌, map, option_map, Ok}
use Rattle.proof_log.specs.Value.{named_pair}
use Rattle.proof_log.proofs.Reasons.{reason_is}
use Rattle.proof_log.proofs.fields.reason_field.Goals as goal

pub reason-requires : goal.reason-requires
reason-requires c = λ x e. reason_is x.items c.in_ok-bytes.bytes.now c.in_ok-pairs.rest.now (c.in_ok-pairs.ensures ∙ ap (λ o. Ok (option_map (λ v. map named_pair v.items) o, c.in_ok-pairs.rest.now)) e)
