use Rattle.std.proofs.Common.{◌≡◌, ◌++◌, map, length, string_bytes}
use Rattle.report.specs.Refusal.{shown}
use Rattle.report.proofs.KeyLaws.{seen}
use Rattle.report.proofs.refusal.push_key.Given as goal

abbrev pub invariant-loop-byte : goal.invariant-loop-byte
invariant-loop-byte l = record {
  count : l.count ≡ length (seen l.key l.byte-index);
  text : string_bytes l.text ≡ string_bytes l.fn.text ++ map shown (seen l.key l.byte-index);
}
