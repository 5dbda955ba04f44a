use Rattle.std.proofs.Common.{◌≡◌, ◌+◌, drop}
use Rattle.archex_app.specs.Words.{texts, empty_word}
use Rattle.archex_app.proofs.words.check_words.Given as goal

abbrev pub invariant-loop-k : goal.invariant-loop-k
invariant-loop-k l = empty_word 2 (texts l.args) ≡ empty_word (l.k + 2) (texts (drop l.k l.args))
