-- The lines of cut sets, one after another.
use Rattle.std.proofs.Common.{◌≡◌, ℕ, ◌+◌, ◌*◌, ◌^◌, ◌≤◌, Bool, true, false, cond, nat_lt, List, [], ◌∷◌, ◌++◌, filter, length, sum_by, refl, sym, ap, ◌∙◌, append_assoc, append-nil, arith}
use Rattle.std.specs.List.{flat_map}
use Rattle.std.proofs.lemmas.Bool.{ltb-true}
use Rattle.std.proofs.lemmas.List.Sums.{sum_by-cons}
use Rattle.arch_model.specs.Parts.{LibraryParts, ArchitectureParts}
use Rattle.arch_model.specs.Library.{IsLibrary}
use Rattle.arch_model.specs.CutSet.{minimal_cut_sets}
use Rattle.arch_model.specs.Weight.{product_of}
use Rattle.arch_model.proofs.WeightBound.{weight-le}
use Rattle.cut_sets.specs.CutSets.{cut_sets_of}
use Rattle.sink_weight.proofs.Sums.{weight_listed}
use Rattle.report.specs.Sets.{set_line, sets_end, sets_text}
use Rattle.report.proofs.TextLaws.{next_written}

-- the line of the next set is written
pub next_set : (lib : LibraryParts) (m : List ℕ) (now rest : List (List ℕ)) (text grown : List ℕ) {whole : List ℕ} → now ≡ m ∷ rest → grown ≡ text ++ set_line lib m →
    text ++ flat_map (set_line lib) now ≡ whole → grown ++ flat_map (set_line lib) rest ≡ whole
next_set lib m now rest text grown e is before =
    next_written text grown (set_line lib m) (flat_map (set_line lib) rest) is (ap (λ s. text ++ flat_map (set_line lib) s) (sym e) ∙ before)

-- and it is counted
pub next_count : (sets : ℕ) (m : List ℕ) (now rest : List (List ℕ)) {whole : ℕ} → now ≡ m ∷ rest → sets + length now ≡ whole → sets + 1 + length rest ≡ whole
next_count sets m now rest e before = let n = ap length e in omega (arith, n, before)

one_counted : (f : List ℕ → ℕ) (m : List ℕ) (b : Bool) (kept : List (List ℕ)) → nat_lt 0 (f m) ≡ b → length kept ≤ sum_by f kept → length (cond b (m ∷ kept) kept) ≤ sum_by f (cond b (m ∷ kept) kept)
one_counted f m true kept some fewer = let s = sum_by-cons f m kept in let p = ltb-true 0 (f m) some in omega (arith, s, p, fewer)
one_counted f m false kept some fewer = fewer

counted : (f : List ℕ → ℕ) (ms : List (List ℕ)) → length (filter (λ m. nat_lt 0 (f m)) ms) ≤ sum_by f (filter (λ m. nat_lt 0 (f m)) ms)
counted f [] = omega arith
counted f (m ∷ ms) = one_counted f m (nat_lt 0 (f m)) (filter (λ l. nat_lt 0 (f l)) ms) refl (counted f ms)

-- each set adds 1 at least to the sum, so there are no more sets than a sink may weigh
pub sets_few : (lib : LibraryParts) → IsLibrary lib → (arch : ArchitectureParts) (sink : ℕ) → length (cut_sets_of lib arch sink) ≤ 2 ^ 64 * 10 ^ 18
unfolding cut_sets_of
sets_few lib is arch sink =
    let most = weight-le lib is arch sink in
    let all = weight_listed lib arch sink in
    let fewer = counted (product_of lib) (minimal_cut_sets lib arch sink) in
    omega (arith, most, all, fewer)

-- where no set is to come, all is told
pub all_told : (lib : LibraryParts) (all rest : List (List ℕ)) (sets sum : ℕ) (old text final : List ℕ) → rest ≡ [] → text ++ flat_map (set_line lib) rest ≡ old ++ flat_map (set_line lib) all →
    sets + length rest ≡ length all → sum + sum_by (product_of lib) rest ≡ sum_by (product_of lib) all → final ≡ text ++ sets_end sets sum → final ≡ old ++ sets_text lib all
all_told lib all rest sets sum old text final e lines count total ends =
    let lines_of = flat_map (set_line lib) all in
    let a : text ≡ old ++ lines_of = sym (append-nil text) ∙ ap (λ r. text ++ flat_map (set_line lib) r) (sym e) ∙ lines in
    let n = ap length e in
    let s = ap (sum_by (product_of lib)) e in
    let b : sets ≡ length all = omega (arith, n, count) in
    let d : sum ≡ sum_by (product_of lib) all = omega (arith, s, total) in
    ends
    ∙ ap (λ t. t ++ sets_end sets sum) a
    ∙ ap (λ k. (old ++ lines_of) ++ sets_end k sum) b
    ∙ ap (λ k. (old ++ lines_of) ++ sets_end (length all) k) d
    ∙ append_assoc old lines_of (sets_end (length all) (sum_by (product_of lib) all))
