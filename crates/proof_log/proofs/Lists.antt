-- Lists of items: what reading them finds, and that it finds again what was written.
use Rattle.std.proofs.Common.{◌≡◌, ℕ, zero, suc, ◌≤◌, List, [], ◌∷◌, ◌++◌, length, map, codes, Option, Some, None, refl, sym, ap, ◌∙◌, append_assoc, arith, inl, inr, ⊎_elim, ◌⊎◌}
use Rattle.std.specs.Prelude.{Ok, Err}
use Rattle.std.specs.List.{flat_map, AllByRecursion}
use Rattle.std.proofs.lemmas.List.{append-nil, length-append}
use Rattle.proof_log.specs.declared.log_line.LineFault.TheVariants.{Form}
use Rattle.proof_log.specs.Field.{list_text}
use Rattle.proof_log.specs.Inner.Reading.{Read, after, in_front, items_at, list_at}
use Rattle.proof_log.proofs.Runs.{NoDigit}
use Rattle.proof_log.proofs.ReadLaws.{Found, Reads, in_words}

-- no comma stands in front
abbrev pub NoComma : List ℕ → Type 0
NoComma rest = after (codes ",") rest ≡ None

-- all items, where there are all
abbrev pub all_of : {A : Type 0} → List (Option A) → Option (List A)
all_of [] = Some []
all_of (x ∷ xs) = in_front x (all_of xs)

-- items that are written, at least one and no more than there is room for
pub record AreItems {W : Type 0} (Good : W → Type 0) (room : ℕ) (ws : List W) : Type 0 where
  pub good : AllByRecursion Good ws
  pub some : 1 ≤ length ws
  pub few : length ws ≤ room

abbrev pub Items : {W A : Type 0} → (List ℕ → Read (Option A)) → (W → List ℕ) → (W → Type 0) → (W → Option A) → ℕ → List ℕ → Type 0
Items {W} read text Good value room bytes = (ws : List W) × (rest : List ℕ) × AreItems Good room ws × (bytes ≡ list_text text ws ++ rest) × (items_at read room bytes ≡ Ok (all_of (map value ws), rest))

list_text-cons : {W : Type 0} (text : W → List ℕ) (w v : W) (ws : List W) (rest : List ℕ) → list_text text (w ∷ v ∷ ws) ++ rest ≡ text w ++ (codes "," ++ (list_text text (v ∷ ws) ++ rest))
list_text-cons text w v ws rest = append_assoc (text w) ((codes "," ++ text v) ++ flat_map (λ y. codes "," ++ text y) ws) rest

pub items_found : {W A : Type 0} (read : List ℕ → Read (Option A)) (text : W → List ℕ) (Good : W → Type 0) (value : W → Option A) → Reads read text Good value NoDigit → (room : ℕ) (bytes : List ℕ)
    → Items read text Good value room bytes ⊎ (items_at read room bytes ≡ Err Form)
unfolding items_at
items_found read text Good value reads zero bytes = inr refl
items_found {W} {A} read text Good value reads (suc room) bytes = ⊎_elim (first (λ b. items_found read text Good value reads room b)) (λ (e : read bytes ≡ Err Form). inr (rw e refl)) (reads.found bytes)
  where
    more : (f : Found read text Good value bytes) (s : (rest : List ℕ) × (after (codes ",") f.1 ≡ Some rest) × (f.1 ≡ codes "," ++ rest)) → Items read text Good value room s.0 → Items read text Good value (suc room) bytes
    more f s i = grow f s i.0 i.1 i.2 i.3 i.4
      where
        grow : (f : Found read text Good value bytes) (s : (rest : List ℕ) × (after (codes ",") f.1 ≡ Some rest) × (f.1 ≡ codes "," ++ rest)) (ws : List W) (rest : List ℕ) → AreItems Good room ws → s.0 ≡ list_text text ws ++ rest
            → items_at read room s.0 ≡ Ok (all_of (map value ws), rest) → Items read text Good value (suc room) bytes
        grow f s [] rest are parts e = absurd (omega (arith, are.some))
        grow f s (v ∷ ws) rest are parts e = (
          f.0 ∷ v ∷ ws,
          rest,
          record { good = (f.2, are.good); some = omega arith; few = omega (arith, are.few) },
          f.3 ∙ ap (λ (l : List ℕ). text f.0 ++ l) (s.2 ∙ ap (λ (l : List ℕ). codes "," ++ l) parts) ∙ sym (list_text-cons text f.0 v ws rest),
          rw (f.4, s.1, e) refl,
        )

    last : (f : Found read text Good value bytes) → after (codes ",") f.1 ≡ None → Items read text Good value (suc room) bytes
    last f n = (f.0 ∷ [], f.1, record { good = (f.2, tt); some = omega arith; few = omega arith }, f.3 ∙ ap (λ (l : List ℕ). l ++ f.1) (sym (append-nil (text f.0))), rw (f.4, n) refl)

    first : ((b : List ℕ) → Items read text Good value room b ⊎ (items_at read room b ≡ Err Form)) → Found read text Good value bytes → Items read text Good value (suc room) bytes ⊎ (items_at read (suc room) bytes ≡ Err Form)
    first others f = ⊎_elim
        (λ s. ⊎_elim (λ i. inl (more f s i)) (λ (e : items_at read room s.0 ≡ Err Form). inr (rw (f.4, s.1, e) refl)) (others s.0))
        (λ n. inl (last f n))
        (in_words (codes ",") f.1)

pub items_again : {W A : Type 0} (read : List ℕ → Read (Option A)) (text : W → List ℕ) (Good : W → Type 0) (value : W → Option A) → Reads read text Good value NoDigit → (room : ℕ) (ws : List W) (rest : List ℕ)
    → AreItems Good room ws → NoDigit rest → NoComma rest → items_at read room (list_text text ws ++ rest) ≡ Ok (all_of (map value ws), rest)
unfolding items_at
items_again read text Good value reads room [] rest are d c = absurd (omega (arith, are.some))
items_again read text Good value reads zero (w ∷ ws) rest are d c = absurd (omega (arith, are.few))
items_again read text Good value reads (suc room) (w ∷ []) rest are d c =
    let e : list_text text (w ∷ []) ++ rest ≡ text w ++ rest = ap (λ (l : List ℕ). l ++ rest) (append-nil (text w)) in
    rw (e, reads.again w rest are.good.0 d, c) refl
items_again read text Good value reads (suc room) (w ∷ v ∷ ws) rest are d c =
    let next = items_again read text Good value reads room (v ∷ ws) rest (record { good = are.good.1; some = omega arith; few = omega (arith, are.few) }) d c in
    rw (list_text-cons text w v ws rest, reads.again w (codes "," ++ (list_text text (v ∷ ws) ++ rest)) are.good.0 refl, next) refl

-- ---- a list, or a hyphen

-- what is read as a list
abbrev pub Listed : {W A : Type 0} → (List ℕ → Read (Option A)) → (W → List ℕ) → (W → Type 0) → (W → Option A) → List ℕ → Type 0
Listed {W} read text Good value bytes = (ws : List W) × (rest : List ℕ) × AllByRecursion Good ws × (bytes ≡ list_text text ws ++ rest) × (list_at read bytes ≡ Ok (all_of (map value ws), rest))

pub list_found : {W A : Type 0} (read : List ℕ → Read (Option A)) (text : W → List ℕ) (Good : W → Type 0) (value : W → Option A) → Reads read text Good value NoDigit → (bytes : List ℕ)
    → Listed read text Good value bytes ⊎ (list_at read bytes ≡ Err Form)
list_found read text Good value reads bytes = ⊎_elim
    (λ h. inl ([], h.0, tt, h.2, rw h.1 refl))
    (λ n. ⊎_elim (λ i. inl (i.0, i.1, i.2.good, i.3, rw n i.4)) (λ (e : items_at read (length bytes) bytes ≡ Err Form). inr (rw n e)) (items_found read text Good value reads (length bytes) bytes))
    (in_words (codes "-") bytes)

long_enough : {W A : Type 0} (read : List ℕ → Read (Option A)) (text : W → List ℕ) (Good : W → Type 0) (value : W → Option A) → Reads read text Good value NoDigit → (w : W) (ws : List W)
    → AllByRecursion Good (w ∷ ws) → length (w ∷ ws) ≤ length (list_text text (w ∷ ws))
long_enough {W} read text Good value reads w ws g = omega (arith, length-append (text w) (flat_map (λ y. codes "," ++ text y) ws), reads.some w g.0, rest ws)
  where
    rest : (ws : List W) → length ws ≤ length (flat_map (λ y. codes "," ++ text y) ws)
    rest [] = omega arith
    rest (v ∷ vs) = omega (arith, length-append (codes "," ++ text v) (flat_map (λ y. codes "," ++ text y) vs), rest vs)

plain_list : {W A : Type 0} (read : List ℕ → Read (Option A)) (text : W → List ℕ) (Good : W → Type 0) (value : W → Option A) → Reads read text Good value NoDigit → (w : W) (ws : List W) (rest : List ℕ) → Good w
    → after (codes "-") (list_text text (w ∷ ws) ++ rest) ≡ None
plain_list read text Good value reads w ws rest g = rw (append_assoc (text w) (flat_map (λ y. codes "," ++ text y) ws) rest) (reads.plain w (flat_map (λ y. codes "," ++ text y) ws ++ rest) g)

pub list_again : {W A : Type 0} (read : List ℕ → Read (Option A)) (text : W → List ℕ) (Good : W → Type 0) (value : W → Option A) → Reads read text Good value NoDigit → (ws : List W) (rest : List ℕ)
    → AllByRecursion Good ws → NoDigit rest → NoComma rest → list_at read (list_text text ws ++ rest) ≡ Ok (all_of (map value ws), rest)
list_again read text Good value reads [] rest g d c = refl
list_again read text Good value reads (w ∷ ws) rest g d c =
    let room : length (w ∷ ws) ≤ length (list_text text (w ∷ ws) ++ rest) = omega (arith, length-append (list_text text (w ∷ ws)) rest, long_enough read text Good value reads w ws g) in
    let are : AreItems Good (length (list_text text (w ∷ ws) ++ rest)) (w ∷ ws) = record { good = g; some = omega arith; few = room } in
    rw (plain_list read text Good value reads w ws rest g.0) (items_again read text Good value reads (length (list_text text (w ∷ ws) ++ rest)) (w ∷ ws) rest are d c)
