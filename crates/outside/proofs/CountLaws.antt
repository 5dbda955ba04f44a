-- Counts of faults by name: one change at a time.
use Rattle.std.proofs.Common.{◌≡◌, ◌≢◌, ℕ, ◌≤◌, ◌⊎◌, inl, inr, [], ◌∷◌, Bool, true, false, cond, refl, arith, option_map, unwrap_or, List, get_or, set, Option, Some, None, position, sym, ap, ◌∙◌, is_some, subst}
use Rattle.std.specs.Str.{bytes_eq}
use Rattle.outside.specs.declared.counts.Counts.{Counts}
use Rattle.outside.specs.Named.{item_of, changed_at}
use Rattle.std.proofs.lemmas.Iterator.Adapters.{option_map_id}
use Rattle.std.proofs.lemmas.Slice.Eq.{bytes_eq-Decides}
use Rattle.outside.specs.Faults.{Rose, ChangesOnly}
use Rattle.outside.specs.Counts.{FaultCounts, one_more, after_failed_read, after_failed_write, counts_of, counts_after}
use Rattle.outside.proofs.NamedLaws.{item_of-place, changed_at-place, item_of-missing, item_of-changed_same, item_of-changed_other, item_of-changed_related}

-- a table of its two parts
abbrev pub table : List (List ℕ × Counts) → Counts → FaultCounts
table rows others = record { named = rows; others = others }

own_place : (change : Counts → Counts) (name : List ℕ) (rows : List (List ℕ × Counts)) (others : Counts) (i : ℕ) (old new : List ℕ × Counts) → position (λ row. bytes_eq row.0 name) rows ≡ Some i → old ≡ get_or rows i old → new ≡ (old.0, change old.1) → table (set rows i new) others ≡ counts_after change (table rows others) name
own_place change name rows others i old new h at is =
    let own : item_of name rows ≡ Some (get_or rows i old).1 = item_of-place name rows i old h in
    let written : set rows i ((get_or rows i old).0, change (get_or rows i old).1) ≡ changed_at name change rows = changed_at-place name change rows i old h in
    let here : new ≡ ((get_or rows i old).0, change (get_or rows i old).1) = is ∙ ap (λ (r : List ℕ × Counts). (r.0, change r.1)) at in
    let named : set rows i new ≡ changed_at name change rows = ap (set rows i) here ∙ written in
    let T : Option Counts → Type 0 = λ o. table (set rows i new) others ≡ cond (is_some o) (table (changed_at name change rows) others) (table rows (change others)) in
    subst T (sym own) (ap (λ (l : List (List ℕ × Counts)). table l others) named)

pub counts_after-own : (change : Counts → Counts) (name : List ℕ) (rows : List (List ℕ × Counts)) (others : Counts) (i : ℕ) (old new : List ℕ × Counts) (v : FaultCounts) → table rows others ≡ v → Some i ≡ position (λ row. bytes_eq row.0 name) v.named → old ≡ get_or rows i old → new ≡ (old.0, change old.1) → table (set rows i new) others ≡ counts_after change v name
counts_after-own change name rows others i old new v is h at step =
    let T : FaultCounts → Type 0 = λ w. Some i ≡ position (λ row. bytes_eq row.0 name) w.named → table (set rows i new) others ≡ counts_after change w name in
    subst T is (λ p. own_place change name rows others i old new (sym p) at step) h

pub counts_after-shared : (change : Counts → Counts) (name : List ℕ) (rows : List (List ℕ × Counts)) (others new : Counts) (v : FaultCounts) → table rows others ≡ v → None ≡ position (λ row. bytes_eq row.0 name) v.named → new ≡ change others → table rows new ≡ counts_after change v name
counts_after-shared change name rows others new v is h step =
    let T : FaultCounts → Type 0 = λ w. None ≡ position (λ row. bytes_eq row.0 name) w.named → table rows new ≡ counts_after change w name in
    let U : Option Counts → Type 0 = λ o. table rows new ≡ cond (is_some o) (table (changed_at name change rows) others) (table rows (change others)) in
    subst T is (λ p. subst U (sym (item_of-missing name rows (sym p))) (ap (λ (c : Counts). table rows c) step)) h

-- a fact of both answers of a test
pub by_cases : {A : Type 0} (T : A → Type 0) (b : Bool) (y z : A) → (b ≡ true → T y) → (b ≡ false → T z) → T (cond b y z)
by_cases T true y z p q = p refl
by_cases T false y z p q = q refl

-- no count of a name fell
abbrev pub NoLess : Counts → Counts → Type 0
NoLess c d = (c.reads ≤ d.reads) × (c.writes ≤ d.writes)

pub same_counts : (c : Counts) → NoLess c c
same_counts c = (omega arith, omega arith)

pub read_raised : (c : Counts) → NoLess c (after_failed_read c)
read_raised c = (omega arith, omega arith)

pub write_raised : (c : Counts) → NoLess c (after_failed_write c)
write_raised c = (omega arith, omega arith)

-- a count that was raised rose
pub rose : (n m : ℕ) → m ≡ one_more n → Rose n m
rose n m e = omega arith

-- all names, after a fault of one
own_raised : (change : Counts → Counts) (o : Option Counts) (c : Counts) → is_some o ≡ true → unwrap_or (option_map change o) c ≡ change (unwrap_or o c)
own_raised change None c h = cc
own_raised change (Some x) c h = refl

shared_raised : (change : Counts → Counts) (o : Option Counts) (c : Counts) → is_some o ≡ false → unwrap_or o (change c) ≡ change (unwrap_or o c)
shared_raised change None c h = refl
shared_raised change (Some x) c h = cc

pub related_apart : (P : Counts → Counts → Type 0) → ((x : Counts) → P x x) → (o : Option Counts) (c d : Counts) → P c d → P (unwrap_or o c) (unwrap_or o d)
related_apart P same None c d h = h
related_apart P same (Some x) c d h = same x

pub differ : (b : Bool) → b ≡ true → b ≡ false → ⊥
differ b p q = cc

raised_of : (change : Counts → Counts) (c : FaultCounts) (name : List ℕ) → counts_of (counts_after change c name) name ≡ change (counts_of c name)
raised_of change c name =
    by_cases (λ (t : FaultCounts). counts_of t name ≡ change (counts_of c name)) (is_some (item_of name c.named)) _ _
    (λ own. ap (λ (o : Option Counts). unwrap_or o c.others) (item_of-changed_same name change c.named) ∙ own_raised change (item_of name c.named) c.others own)
    (λ missing. shared_raised change (item_of name c.named) c.others missing)

-- what a fault of one name leaves of every name's counts: a relation that holds of both ends of the one change
pub counts_related : (P : Counts → Counts → Type 0) → ((x : Counts) → P x x) → (change : Counts → Counts) → ((x : Counts) → P x (change x)) → (s t : FaultCounts) (name : List ℕ) → t ≡ counts_after change s name → (other : List ℕ) → P (counts_of s other) (counts_of t other)
counts_related P same change step s t name e other =
    subst (λ (w : FaultCounts). P (counts_of s other) (counts_of w other)) (sym e)
    (by_cases (λ (w : FaultCounts). P (counts_of s other) (counts_of w other)) (is_some (item_of name s.named)) _ _
    (λ _.
    let Q : Option Counts → Option Counts → Type 0 = λ o p. P (unwrap_or o s.others) (unwrap_or p s.others) in
    let before : Option Counts = item_of other s.named in
    let after : Option Counts = item_of other (changed_at name change s.named) in
    let seen : Q (option_map (λ x. x) before) (option_map (λ x. x) after) = item_of-changed_related P (λ x. x) change same step name other s.named s.others in
    subst (λ (o : Option Counts). Q o after) (option_map_id before) (subst (λ (p : Option Counts). Q (option_map (λ x. x) before) p) (option_map_id after) seen))
    (λ _. related_apart P same (item_of other s.named) s.others (change s.others) (step s.others)))

pub counts-raised : (change : Counts → Counts) → ((x : Counts) → NoLess x (change x)) → (s t : FaultCounts) (name : List ℕ) → t ≡ counts_after change s name → (other : List ℕ) → NoLess (counts_of s other) (counts_of t other)
counts-raised change step s t name e other = counts_related NoLess same_counts change step s t name e other

pub rose-reads : (s t : FaultCounts) (name : List ℕ) → t ≡ counts_after after_failed_read s name → Rose (counts_of s name).reads (counts_of t name).reads
rose-reads s t name e =
    rose _ _ (ap (λ (w : FaultCounts). (counts_of w name).reads) e ∙ ap (λ (c : Counts). c.reads) (raised_of after_failed_read s name))

pub rose-writes : (s t : FaultCounts) (name : List ℕ) → t ≡ counts_after after_failed_write s name → Rose (counts_of s name).writes (counts_of t name).writes
rose-writes s t name e =
    rose _ _ (ap (λ (w : FaultCounts). (counts_of w name).writes) e ∙ ap (λ (c : Counts). c.writes) (raised_of after_failed_write s name))

-- one name's counts may have changed, and those that are one with them: another's stayed, or stood where these stood and stand where these stand
abbrev pub OneWith : (List ℕ → Counts) → (List ℕ → Counts) → List ℕ → List ℕ → Type 0
OneWith before now name other = (now other ≡ before other) ⊎ ((before other ≡ before name) × (now other ≡ now name))

pub only_one : (part : Counts → ℕ) (before now : List ℕ → Counts) (name : List ℕ) → ((other : List ℕ) → OneWith before now name other) → ChangesOnly (name ∷ []) (λ o. part (before o)) (λ o. part (now o))
only_one part before now name h other = elim (h other) [ inl same ↦ inl (ap part same) | inr one ↦ inr (name, (0, omega arith, refl), ap part one.0, ap part one.1) ]

-- a name that is the one of a fault, or another
pub one_or_other : {P : Type 0} (name other : List ℕ) → (other ≡ name → P) → (other ≢ name → P) → P
one_or_other {P = P} name other same apart =
    elim (bytes_eq other name) as (λ b. bytes_eq other name ≡ b → P) [
      | true ↦ λ e. same ((bytes_eq-Decides other name).0 e)
      | false ↦ λ e. apart (λ h. differ (bytes_eq other name) ((bytes_eq-Decides other name).1 h) e)
    ] refl

-- names that share their counts before a fault of one of them share them after it
shared_alike : (o p : Option Counts) (c d : Counts) → is_some p ≡ false → (unwrap_or o d ≡ unwrap_or o c) ⊎ ((unwrap_or o c ≡ unwrap_or p c) × (unwrap_or o d ≡ unwrap_or p d))
shared_alike (Some x) p c d h = inl refl
shared_alike None None c d h = inr (refl, refl)
shared_alike None (Some x) c d h = cc

counts_alone : (change : Counts → Counts) (s : FaultCounts) (name other : List ℕ) → OneWith (counts_of s) (counts_of (counts_after change s name)) name other
counts_alone change s name other =
    by_cases (λ (w : FaultCounts). OneWith (counts_of s) (counts_of w) name other) (is_some (item_of name s.named)) _ _
    (λ _. one_or_other name other
    (λ e. inr (ap (counts_of s) e, ap (counts_of (table (changed_at name change s.named) s.others)) e))
    (λ ne. inl (ap (λ (o : Option Counts). unwrap_or o s.others) (item_of-changed_other name other change s.named ne))))
    (λ missing. shared_alike (item_of other s.named) (item_of name s.named) s.others (change s.others) missing)

pub counts-alone : (change : Counts → Counts) (s t : FaultCounts) (name : List ℕ) → t ≡ counts_after change s name → (other : List ℕ) → OneWith (counts_of s) (counts_of t) name other
counts-alone change s t name e other =
    subst (λ (w : FaultCounts). OneWith (counts_of s) (counts_of w) name other) (sym e) (counts_alone change s name other)
