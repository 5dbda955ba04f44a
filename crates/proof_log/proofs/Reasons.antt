-- Pairs that were read make a reason.
use Rattle.std.proofs.Common.{◌≡◌, ℕ, ◌^◌, ◌≤◌, List, [], ◌∷◌, length, map, Option, Some, sym, ap, ◌∙◌, arith, ⊎_elim}
use Rattle.std.specs.Prelude.{Ok, Err}
use Rattle.std.specs.List.{AllByRecursion}
use Rattle.std.specs.Fmt.{decimal}
use Rattle.std.proofs.lemmas.List.{length-map}
use Rattle.std.proofs.lemmas.List.Elements.{All-from_recursion}
use Rattle.rows.specs.declared.known.Pair.{Pair}
use Rattle.rows.specs.Reason.{IsReason}
use Rattle.proof_log.specs.declared.log_line.LineFault.TheVariants.{Form}
use Rattle.proof_log.specs.Field.{RowName, pair_text}
use Rattle.proof_log.specs.Value.{named_pair}
use Rattle.proof_log.specs.Inner.Reading.{Read, pair_at, items_at}
use Rattle.proof_log.proofs.ReadLaws.{as_it_is, IsPair, pair_of, reads_pair}
use Rattle.proof_log.proofs.Lists.{all_of, Items, items_found}
use Rattle.proof_log.proofs.Numbers.{PairInRange, pair_fits, items_sound, SameItems}

at_least : (ps : List Pair) → AllByRecursion PairInRange (map named_pair ps) → AllByRecursion (λ p. 1 ≤ p.times) ps
at_least [] r = tt
at_least (p ∷ ps) r = (r.0.1.0, at_least ps r.1)

at_most : (ps : List Pair) → AllByRecursion PairInRange (map named_pair ps) → AllByRecursion (λ p. p.times ≤ 10 ^ 12) ps
at_most [] r = tt
at_most (p ∷ ps) r = (omega (arith, r.0.1.1), at_most ps r.1)

abbrev done : Option (List (RowName ℕ × ℕ)) × List ℕ → Read (Option (List (RowName ℕ × ℕ)))
done x = Ok x

pub reason_is : (ps : List Pair) (bytes rest : List ℕ) → items_at pair_at 64 bytes ≡ Ok (Some (map named_pair ps), rest) → IsReason ps
reason_is ps bytes rest e = ⊎_elim yes (λ (n : items_at pair_at 64 bytes ≡ Err Form). absurd (differ (sym e ∙ n))) (items_found pair_at (pair_text as_it_is) IsPair pair_of reads_pair 64 bytes)
  where
    differ : {x : Option (List (RowName ℕ × ℕ)) × List ℕ} → done x ≡ Err Form → ⊥
    differ h = cc

    first : {x y : Option (List (RowName ℕ × ℕ)) × List ℕ} → done x ≡ done y → x ≡ y
    first h = cc

    yes : Items pair_at (pair_text as_it_is) IsPair pair_of 64 bytes → IsReason ps
    yes i =
        let same : all_of (map pair_of i.0) ≡ Some (map named_pair ps) = ap (λ (x : Option (List (RowName ℕ × ℕ)) × List ℕ). x.0) (first (sym i.4 ∙ e)) in
        let t : SameItems (pair_text as_it_is) (pair_text decimal) PairInRange i.0 (map named_pair ps) = items_sound (pair_text as_it_is) IsPair pair_of (pair_text decimal) PairInRange pair_fits i.0 (map named_pair ps) i.2.good same in
        let n : length ps ≡ length i.0 = sym (length-map ps named_pair) ∙ t.1 in
        record {
          some = omega (arith, i.2.some);
          few = omega (arith, i.2.few);
          positive = All-from_recursion (λ p. 1 ≤ p.times) ps (at_least ps t.0);
          sized = All-from_recursion (λ p. p.times ≤ 10 ^ 12) ps (at_most ps t.0);
        }
