use Rattle.std.proofs.Math.Utf8.{encode}
use Rattle.std.proofs.lemmas.Str.{encode_ascii}
use Rattle.std.proofs.Common.{◌<◌, ◌≤◌, [], ◌∷◌, length, string_bytes, ap, sym, ◌∙◌, get_or, arith}
use Rattle.report.proofs.KeyLaws.{seen, step_shown, step_skipped, seen_skip, seen_full, shown-small}
use Rattle.report.proofs.refusal.push_key.Goals as goal
use Rattle.report.proofs.refusal.push_key.Goals.{then-count-lt-SHOWN+then-starts_character+in_ok-push, else-count-lt-SHOWN, else-count-lt-SHOWN-via-then-count-lt-SHOWN+else-starts_character, else-count-lt-SHOWN-via-else-count-lt-SHOWN}

pub loop-byte-preserved : goal.loop-byte-preserved
loop-byte-preserved c =
    let key = c.args.key.now in
    let i = c.loop-byte.byte-index in
    let here : i < length key = omega arith in
    elim c.if-count-lt-SHOWN.branch [
      | then-count-lt-SHOWN+then-starts_character+in_ok-push w ↦
          let p = w.in_ok-push.ensures in
          let is = w.from.ensures ∙ w.shown.ensures in
          let small : w.from.result < 128 = omega (arith, is, shown-small (get_or key i 0)) in
          let both = step_shown key i _ _ (string_bytes c.args.text.now) _ _ (encode w.from.result) here (sym w.starts_character.ensures ∙ w.if-starts_character.true) w.if-count-lt-SHOWN.true c.loop-byte.invariant.count
          c.loop-byte.invariant.text (ap string_bytes w.text-is ∙ p.bytes) (encode_ascii w.from.result small ∙ ap (λ x. x ∷ []) is) w.count-is in
          record { count = both.0; text = both.1 }
      | else-count-lt-SHOWN w ↦ elim w.else-count-lt-SHOWN.branch [
        | else-count-lt-SHOWN-via-then-count-lt-SHOWN+else-starts_character v ↦
            let both = step_skipped key i _ _ (string_bytes c.args.text.now) _ _ (seen_skip key i here (sym v.starts_character.ensures ∙ v.if-starts_character.false)) c.loop-byte.invariant.count c.loop-byte.invariant.text
            w.count-is (ap string_bytes w.text-is) in
            record { count = both.0; text = both.1 }
        | else-count-lt-SHOWN-via-else-count-lt-SHOWN v ↦
            let full : 40 ≤ length (seen key i) = omega (arith, c.loop-byte.invariant.count, v.if-count-lt-SHOWN.false) in
            let both = step_skipped key i _ _ (string_bytes c.args.text.now) _ _ (seen_full key i here full) c.loop-byte.invariant.count c.loop-byte.invariant.text w.count-is (ap string_bytes w.text-is) in
            record { count = both.0; text = both.1 }
      ]
    ]
