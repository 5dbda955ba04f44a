use Rattle.std.proofs.Common.{◌≡◌, ◌-◌, ◌^◌, ◌++◌, min, take, drop}
use Rattle.std.specs.Str.Parse.{digits_value}
use Rattle.proof_log.specs.Inner.Reading.{digits_front}
use Rattle.proof_log.proofs.scan.digits.Given as goal

-- the digits so far and those of the rest are all in front
abbrev pub invariant-loop-len : goal.invariant-loop-len
invariant-loop-len l = record {
  front : digits_front l.bytes ≡ take l.len l.bytes ++ digits_front (drop l.len l.bytes);
  value : l.value ≡ min (digits_value 10 (take l.len l.bytes)) (2 ^ 64 - 1);
}
