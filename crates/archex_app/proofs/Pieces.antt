-- A file read, and a text printed, piece by piece.
use Rattle.std.proofs.Common.{◌≡◌, ℕ, ◌+◌, ◌-◌, ◌≤◌, Option, Some, None, List, [], ◌++◌, take, drop, length, sym, ap, subst, ◌∙◌, arith, append_assoc, IfSome, OnOk, OnErr, Result, Ok, Err, append-nil, length-drop, length-append}
use Rattle.std.proofs.Math.Seq.{take-add}
use Rattle.std.proofs.lemmas.List.{take_all, length-take-le}
use Rattle.outside.specs.Told.{Finds, Appends}
use Rattle.archex_app.specs.Inner.Reading.{IsFront, IsWhole}

-- one more piece of a file
pub read_more : (told : Option (List ℕ)) (read into : List ℕ) (place n : ℕ) → place ≡ length read
    → IfSome told (λ all. read ≡ take (length read) all) → Finds told place into n
    → IfSome told (λ all. read ++ take n into ≡ take (length read + n) all)
read_more None read into place n at so_far found = tt
read_more (Some all) read into place n at so_far found =
    ap (λ p. read ++ p) (found.1 ∙ ap (λ k. take n (drop k all)) at)
    ∙ ap (λ p. p ++ take n (drop (length read) all)) so_far
    ∙ sym (take-add (length read) n all)

-- the front of a file grows by what a read found
pub front_grows : (told : Option (List ℕ)) (read into grown : List ℕ) (place n : ℕ) → place ≡ length read → n ≤ length into → grown ≡ read ++ take n into
    → IsFront told read → Finds told place into n → IsFront told grown
front_grows None read into grown place n at fits grows so_far found = tt
front_grows (Some all) read into grown place n at fits grows so_far found =
    let long : length grown ≡ length read + n = ap length grows ∙ length-append read (take n into) ∙ ap (λ k. length read + k) (length-take-le n into fits) in
    grows ∙ read_more (Some all) read into place n at so_far found ∙ ap (λ k. take k all) (sym long)

-- the end of a file was found, or as much as the limit was read
pub read_whole : (told : Option (List ℕ)) (read : List ℕ) (limit : ℕ) → length read ≤ limit → IsFront told read → IsWhole told read
    → IfSome told (λ all. read ≡ take limit all)
read_whole None read limit within front whole = tt
read_whole (Some all) read limit within front whole =
    let far : length all ≤ limit = omega arith in
    front ∙ take_all (length read) all whole ∙ sym (take_all limit all far)

pub read_full : (told : Option (List ℕ)) (read : List ℕ) (limit : ℕ) → length read ≤ limit → limit ≤ length read → IsFront told read
    → IfSome told (λ all. read ≡ take limit all)
read_full None read limit within full front = tt
read_full (Some all) read limit within full front = let e : length read ≡ limit = omega arith in front ∙ ap (λ k. take k all) e

none_some : (x : List ℕ) → None ≡ Some x → ⊥
none_some x e = cc

same_some : (x y : List ℕ) → Some x ≡ Some y → x ≡ y
same_some x y e = cc

-- one piece was added after another
pub appends_then : (before mid now : Option (List ℕ)) (p q : List ℕ) → Appends before mid p → Appends mid now q → Appends before now (p ++ q)
appends_then before mid None p q first second = tt
appends_then before None (Some z) p q first second = absurd (none_some second.0 second.1)
appends_then before (Some y) (Some z) p q first second =
    (first.0, first.1, second.2 ∙ ap (λ f. f ++ q) (sym (same_some y second.0 second.1) ∙ first.2) ∙ append_assoc first.0 p q)

-- a piece was added, and then a call failed
pub appends_no_more : (before mid now : Option (List ℕ)) (p : List ℕ) → Appends before mid p → Appends mid now [] → Appends before now p
appends_no_more before mid now p first second = let P : List ℕ → Type 0 = Appends before now in subst P (append-nil p) (appends_then before mid now p [] first second)

pub on_err_holds : {T E P : Type 0} (r : Result T E) → P → OnErr r P
on_err_holds (Ok x) p = tt
on_err_holds (Err e) p = p

pub on_ok_map : {T E P Q : Type 0} (r : Result T E) → (P → Q) → OnOk r P → OnOk r Q
on_ok_map (Ok x) f p = f p
on_ok_map (Err e) f p = tt

pub on_err_map : {T E P Q : Type 0} (r : Result T E) → (P → Q) → OnErr r P → OnErr r Q
on_err_map (Ok x) f p = tt
on_err_map (Err e) f p = f p

-- the rest of a text, as a slice to its end
pub rest_is : (n : ℕ) (text : List ℕ) → take (length text - n) (drop n text) ≡ drop n text
rest_is n text = let fits : length (drop n text) ≤ length text - n = omega (arith, length-drop n text) in take_all (length text - n) (drop n text) fits

-- one more piece of a text is printed
pub print_more : (before mid now : Option (List ℕ)) (n k : ℕ) (text rest : List ℕ) → rest ≡ take (length text - n) (drop n text)
    → Appends before mid (take n text) → Appends mid now (take k rest) → Appends before now (take (n + k) text)
print_more before mid now n k text rest e first second =
    let P : List ℕ → Type 0 = Appends before now in
    subst P (ap (λ r. take n text ++ take k r) (e ∙ rest_is n text) ∙ sym (take-add n k text)) (appends_then before mid now (take n text) (take k rest) first second)

pub print_within : (n k : ℕ) (text : List ℕ) → n ≤ length text → k ≤ length (take (length text - n) (drop n text)) → n + k ≤ length text
print_within n k text h f = let e = ap length (rest_is n text) in omega (arith, e, length-drop n text)

-- what is told of the file stays the same, so its front was read
pub same_front : (told now : Option (List ℕ)) (read grown : List ℕ) → now ≡ told → (IsFront now read → IsFront now grown) → IsFront told read → IsFront told grown
same_front told now read grown e step front =
    let P : Option (List ℕ) → Type 0 = λ t. IsFront t read in
    let Q : Option (List ℕ) → Type 0 = λ t. IsFront t grown in
    subst Q e (step (subst P (sym e) front))

pub same_whole : (told now : Option (List ℕ)) (read : List ℕ) → now ≡ told → IsWhole now read → IsWhole told read
same_whole told now read e whole = let P : Option (List ℕ) → Type 0 = λ t. IsWhole t read in subst P e whole
