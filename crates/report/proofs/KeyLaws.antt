-- The first characters of a key, byte by byte.
use Rattle.std.proofs.Common.{◌≡◌, ℕ, ◌+◌, ◌<◌, ◌≤◌, Bool, true, false, cond, List, [], ◌∷◌, ◌++◌, map, filter, take, length, get_or, refl, sym, ap, ◌∙◌, arith, append_assoc, length-append, append-nil}
use Rattle.std.proofs.lemmas.List.{take_more, take-append-le, take_all, length-take, map-append}
use Rattle.std.proofs.lemmas.List.Elements.{filter-append}
use Rattle.std.specs.Prelude.{nat_le, ◌&&◌}
use Rattle.std.proofs.lemmas.Bool.{leb-true}
use Rattle.arch_model.proofs.Members.{and_right}
use Rattle.report.specs.Refusal.{starts_character, shown}

-- the first 40 characters of what was seen so far
abbrev pub seen : List ℕ → ℕ → List ℕ
seen key i = take 40 (filter starts_character (take i key))

filter_one : (x : ℕ) (b : Bool) → starts_character x ≡ b → filter starts_character (x ∷ []) ≡ cond b (x ∷ []) []
filter_one x b h = ap (λ t. cond t (x ∷ []) []) h

filter_more : (key : List ℕ) (i : ℕ) (b : Bool) → i < length key → starts_character (get_or key i 0) ≡ b → filter starts_character (take (i + 1) key) ≡ filter starts_character (take i key) ++ cond b (get_or key i 0 ∷ []) []
filter_more key i b here h =
    ap (filter starts_character) (take_more key i 0 here)
    ∙ filter-append starts_character (take i key) (get_or key i 0 ∷ [])
    ∙ ap (λ l. filter starts_character (take i key) ++ l) (filter_one (get_or key i 0) b h)

-- a byte that begins no character
pub seen_skip : (key : List ℕ) (i : ℕ) → i < length key → starts_character (get_or key i 0) ≡ false → seen key (i + 1) ≡ seen key i
seen_skip key i here h = ap (take 40) (filter_more key i false here h ∙ append-nil (filter starts_character (take i key)))

-- one more character, and room for it
pub seen_more : (key : List ℕ) (i : ℕ) → i < length key → starts_character (get_or key i 0) ≡ true → length (seen key i) < 40 → seen key (i + 1) ≡ seen key i ++ get_or key i 0 ∷ []
seen_more key i here h room =
    let ys = filter starts_character (take i key) in
    let short : length ys < 40 = omega (arith, length-take 40 ys) in
    let few : length ys ≤ 40 = omega arith in
    let fits : length (ys ++ get_or key i 0 ∷ []) ≤ 40 = omega (arith, length-append ys (get_or key i 0 ∷ [])) in
    ap (take 40) (filter_more key i true here h) ∙ take_all 40 (ys ++ get_or key i 0 ∷ []) fits ∙ ap (λ l. l ++ get_or key i 0 ∷ []) (sym (take_all 40 ys few))

full_by : (key : List ℕ) (i : ℕ) (b : Bool) → i < length key → starts_character (get_or key i 0) ≡ b → 40 ≤ length (seen key i) → seen key (i + 1) ≡ seen key i
full_by key i b here h full =
    let ys = filter starts_character (take i key) in
    let enough : 40 ≤ length ys = omega (arith, length-take 40 ys) in
    ap (take 40) (filter_more key i b here h) ∙ take-append-le 40 ys (cond b (get_or key i 0 ∷ []) []) enough

-- no room is left
pub seen_full : (key : List ℕ) (i : ℕ) → i < length key → 40 ≤ length (seen key i) → seen key (i + 1) ≡ seen key i
seen_full key i here full = full_by key i (starts_character (get_or key i 0)) here refl full

-- a step of the loop over a key's bytes: a character is printed, a byte begins none, or no room is left
pub step_shown : (key : List ℕ) (i count count' : ℕ) (old text text' piece : List ℕ) → i < length key → starts_character (get_or key i 0) ≡ true → count < 40 → count ≡ length (seen key i) → text ≡ old ++ map shown (seen key i)
    → text' ≡ text ++ piece → piece ≡ shown (get_or key i 0) ∷ [] → count' ≡ count + 1 → (count' ≡ length (seen key (i + 1))) × (text' ≡ old ++ map shown (seen key (i + 1)))
step_shown key i count count' old text text' piece here starts room counted is grows new more =
    let fits : length (seen key i) < 40 = omega arith in
    let e = seen_more key i here starts fits in (
      omega (arith, ap length e, length-append (seen key i) (get_or key i 0 ∷ [])),
      grows ∙ ap (λ t. t ++ piece) is ∙ ap (λ p. (old ++ map shown (seen key i)) ++ p) new ∙ append_assoc old (map shown (seen key i)) (shown (get_or key i 0) ∷ [])
          ∙ ap (λ l. old ++ l) (sym (ap (map shown) e ∙ map-append shown (seen key i) (get_or key i 0 ∷ []))),
    )

pub step_skipped : (key : List ℕ) (i count count' : ℕ) (old text text' : List ℕ) → seen key (i + 1) ≡ seen key i → count ≡ length (seen key i) → text ≡ old ++ map shown (seen key i) → count' ≡ count → text' ≡ text
    → (count' ≡ length (seen key (i + 1))) × (text' ≡ old ++ map shown (seen key (i + 1)))
step_skipped key i count count' old text text' same counted is kept stays = (kept ∙ counted ∙ ap length (sym same), stays ∙ is ∙ ap (λ l. old ++ map shown l) (sym same))

small_if : (b : ℕ) (t : Bool) → (t ≡ true → b ≤ 126) → cond t b 63 < 128
small_if b true h = let le = h refl in omega arith
small_if b false h = omega arith

-- what is printed is ASCII
pub shown-small : (b : ℕ) → shown b < 128
shown-small b = small_if b (nat_le 33 b && nat_le b 126) (λ h. leb-true b 126 (and_right (nat_le 33 b) (nat_le b 126) h))
