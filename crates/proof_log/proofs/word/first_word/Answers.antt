use Rattle.std.proofs.Common.{◌∙◌, ap}
use Rattle.proof_log.specs.Inner.Reading.{word_among, all_words}
use Rattle.proof_log.proofs.FirstWords.{named_is}
use Rattle.proof_log.proofs.word.first_word.Goals as goal

pub returns-clause-word : goal.returns-clause-word
returns-clause-word c = named_is _ c.named.result c.named.ensures.some c.named.ensures.none ∙ ap (λ text. word_among all_words text) (c.split_at.ensures.front ∙ c.word_len.ensures.front)
