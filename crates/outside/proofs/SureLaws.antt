-- How the code of a shelf that never fails finds and forgets a file, and what is told then.
use Rattle.std.proofs.Common.{◌≡◌, ◌≢◌, ℕ, ◌-◌, List, [], ◌∷◌, ◌++◌, length, take, drop, min, get_or, set, Option, Some, None, position, refl, sym, ap, ◌∙◌, arith, option_map, unwrap_or, Result, Ok, false, is_some}
use Rattle.std.specs.Option.{option_flatten}
use Rattle.std.specs.Str.{bytes_eq}
use Rattle.outside.specs.Told.{Finds}
use Rattle.outside.specs.Named.{item_of}
use Rattle.outside.specs.Sure.{SureFiles, was_put, sure_told, sure_put, written_to}
use Rattle.outside.proofs.NamedLaws.{item_of-place, item_of-missing, changed_at-place, changed_at-missing, item_of-changed_same, item_of-changed_other, item_of-append, item_of-append_new}

abbrev pub Placed : SureFiles → List ℕ → Option ℕ → Type 0
Placed files name o = position (λ row. bytes_eq row.0 name) files ≡ o

pub placed : (files list v : SureFiles) (name : List ℕ) (o : Option ℕ) → o ≡ position (λ row. bytes_eq row.0 name) list → list ≡ files → files ≡ v → Placed v name o
placed files list v name o h e is = ap (position (λ row. bytes_eq row.0 name)) (sym (e ∙ is)) ∙ sym h

pub read_at_place : (v files : SureFiles) (name : List ℕ) (i : ℕ) (old : List ℕ × Option (List ℕ)) (bytes : List ℕ) → Placed v name (Some i) → files ≡ v → old ≡ get_or files i old → bytes ≡ unwrap_or old.1 [] → bytes ≡ unwrap_or (sure_told v name) []
read_at_place v files name i old bytes h is at b =
    let here : old ≡ get_or v i old = at ∙ ap (λ (l : SureFiles). get_or l i old) is in
    let own : item_of name v ≡ Some (get_or v i old).1 = item_of-place name v i old h in
    b ∙ ap (λ (r : List ℕ × Option (List ℕ)). unwrap_or r.1 []) here ∙ sym (ap (λ (o : Option (Option (List ℕ))). unwrap_or (option_flatten o) []) own)

pub read_nowhere : (v : SureFiles) (name bytes : List ℕ) → Placed v name None → bytes ≡ [] → bytes ≡ unwrap_or (sure_told v name) []
read_nowhere v name bytes h b = b ∙ sym (ap (λ (o : Option (Option (List ℕ))). unwrap_or (option_flatten o) []) (item_of-missing name v h))

pub written_at : (v files : SureFiles) (name : List ℕ) (i : ℕ) (old new : List ℕ × Option (List ℕ)) → Placed v name (Some i) → files ≡ v → old ≡ get_or files i old → new ≡ (old.0, None) → set files i new ≡ written_to v name
written_at v files name i old new h is at step =
    let here : old ≡ get_or v i old = at ∙ ap (λ (l : SureFiles). get_or l i old) is in
    let same : new ≡ ((get_or v i old).0, None) = step ∙ ap (λ (r : List ℕ × Option (List ℕ)). (r.0, None)) here in
    ap (λ (l : SureFiles). set l i new) is ∙ ap (set v i) same ∙ changed_at-place name (λ _. None) v i old h

pub written_nowhere : (v : SureFiles) (name : List ℕ) → Placed v name None → v ≡ written_to v name
written_nowhere v name h = sym (changed_at-missing name (λ _. None) v (item_of-missing name v h))

forgotten : (o : Option (Option (List ℕ))) → ◌≡◌ {A = Option (List ℕ)} (option_flatten (option_map (λ _. None) o)) None
forgotten None = refl
forgotten (Some b) = refl

pub told-written : (v w : SureFiles) (name : List ℕ) → w ≡ written_to v name → sure_told w name ≡ None
told-written v w name e = ap (λ (l : SureFiles). sure_told l name) e ∙ ap option_flatten (item_of-changed_same name (λ _. None) v) ∙ forgotten (item_of name v)

pub others-written : (v w : SureFiles) (name : List ℕ) → w ≡ written_to v name → (other : List ℕ) → other ≢ name → sure_told w other ≡ sure_told v other
others-written v w name e other ne = ap (λ (l : SureFiles). sure_told l other) e ∙ ap option_flatten (item_of-changed_other name other (λ _. None) v ne)

missing : (o : Option (Option (List ℕ))) → is_some o ≡ false → o ≡ None
missing None h = refl
missing (Some b) h = cc

pub told-put : (v w : SureFiles) (name bytes : List ℕ) → was_put v name ≡ false → w ≡ sure_put v name bytes → sure_told w name ≡ Some bytes
told-put v w name bytes new e = ap (λ (l : SureFiles). sure_told l name) e ∙ ap option_flatten (item_of-append_new name (Some bytes) v (missing (item_of name v) new))

pub others-put : (v w : SureFiles) (name bytes : List ℕ) → w ≡ sure_put v name bytes → (other : List ℕ) → other ≢ name → sure_told w other ≡ sure_told v other
others-put v w name bytes e other ne = ap (λ (l : SureFiles). sure_told l other) e ∙ ap option_flatten (item_of-append other name (Some bytes) v ne)

-- a read of what is read under a name
pub read_found : (told : Option (List ℕ)) (bytes before into : List ℕ) (place n : ℕ) → bytes ≡ unwrap_or told [] → n ≡ min (length before) (length bytes - place) → take n into ≡ take n (drop place bytes) → length into ≡ length before → Finds told place into n
read_found None bytes before into place n b count copied same = tt
read_found (Some own) bytes before into place n b count copied same =
    let longer : length bytes ≡ length own = ap length b in
    let same_part : take n (drop place bytes) ≡ take n (drop place own) = ap (λ l. take n (drop place l)) b in
    (omega arith, copied ∙ same_part, λ none some. omega arith)

pub read_empty : {E : Type 0} (told : Option (List ℕ)) (bytes : List ℕ) (len place n : ℕ) → bytes ≡ unwrap_or told [] → n ≡ min len (length bytes - place) → told ≡ None → ◌≡◌ {A = Result ℕ E} (Ok n) (Ok 0)
read_empty told bytes len place n b count none =
    let nothing : bytes ≡ [] = b ∙ ap (λ (o : Option (List ℕ)). unwrap_or o []) none in
    let zero : n ≡ 0 = omega (arith, ap length nothing) in
    ap Ok zero

pub put_in : (v files after : SureFiles) (name bytes : List ℕ) (row : List ℕ × Option (List ℕ)) → files ≡ v → after ≡ files ++ row ∷ [] → row ≡ (name, Some bytes) → after ≡ sure_put v name bytes
put_in v files after name bytes row is more new =
    more ∙ ap (λ (l : SureFiles). l ++ row ∷ []) is ∙ ap (λ (r : List ℕ × Option (List ℕ)). v ++ r ∷ []) new
