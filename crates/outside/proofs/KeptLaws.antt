-- What each call makes of what is told by a shelf in memory, and of its counts.
use Rattle.std.proofs.Common.{◌≡◌, ◌≢◌, ℕ, ◌⊎◌, inl, inr, Bool, true, false, cond, List, [], ◌∷◌, ◌++◌, length, take, Option, Some, None, refl, sym, ap, ◌∙◌, is_some, option_map, unwrap_or, subst, Result, Ok, Err, is_ok, IfOk, OnOk, OnErr, MatchResult, IfSome}
use Rattle.std.specs.Str.{bytes_eq}
use Rattle.std.proofs.lemmas.Slice.Eq.{bytes_eq-Decides}
use Rattle.outside.specs.declared.counts.Counts.{Counts}
use Rattle.outside.specs.Faults.{Rose, Stay, ChangesOnly}
use Rattle.outside.specs.Named.{item_of}
use Rattle.outside.specs.Told.{Appends, KeptOrEmpty}
use Rattle.outside.specs.Counts.{after_failed_read, after_failed_write}
use Rattle.outside.specs.Inner.Kept.{Kept, KeptFile, told_of, counts_of_kept, read_faults_of, write_faults_of, call_passes, append_passes, with_counts, with_bytes, with_piece, file_put, after_put, after_change, after_fault, after_read, after_fresh, after_append}
use Rattle.outside.proofs.CountLaws.{by_cases, NoLess, same_counts, read_raised, write_raised, rose, related_apart, differ, OneWith, only_one, one_or_other}
use Rattle.outside.proofs.NamedLaws.{item_of-changed_same, item_of-changed_other, item_of-changed_kept, item_of-changed_related, item_of-append, item_of-append_new}

-- what is told
told_after_fault : (change : Counts → Counts) (s : Kept) (name other : List ℕ) → told_of (after_fault change s name) other ≡ told_of s other
told_after_fault change s name other =
    by_cases (λ (t : Kept). told_of t other ≡ told_of s other) (is_some (item_of name s.files)) _ _
    (λ _. item_of-changed_kept (λ (f : KeptFile). f.bytes) (with_counts change) (λ f. refl) name other s.files)
    (λ _. refl)

told_after_change : (change : KeptFile → KeptFile) (s : Kept) (name other : List ℕ) → other ≢ name → told_of (after_change change s name) other ≡ told_of s other
told_after_change change s name other ne = ap (option_map (λ (f : KeptFile). f.bytes)) (item_of-changed_other name other change s.files ne)

pub told-after_read : (s t : Kept) (name : List ℕ) → t ≡ after_read s name → (other : List ℕ) → told_of t other ≡ told_of s other
told-after_read s t name e other =
    ap (λ (w : Kept). told_of w other) e ∙ by_cases (λ (w : Kept). told_of w other ≡ told_of s other) (call_passes s name) _ _ (λ _. refl) (λ _. told_after_fault after_failed_read s name other)

pub told-after_fresh : (s t : Kept) (name : List ℕ) → t ≡ after_fresh s name → (other : List ℕ) → other ≢ name → told_of t other ≡ told_of s other
told-after_fresh s t name e other ne =
    ap (λ (w : Kept). told_of w other) e ∙ by_cases (λ (w : Kept). told_of w other ≡ told_of s other) (call_passes s name) _ _ (λ _. told_after_change (with_bytes []) s name other ne) (λ _. told_after_fault after_failed_write s name other)

pub told-after_append : (s t : Kept) (name piece : List ℕ) → t ≡ after_append s name piece → (other : List ℕ) → other ≢ name → told_of t other ≡ told_of s other
told-after_append s t name piece e other ne =
    ap (λ (w : Kept). told_of w other) e ∙ by_cases (λ (w : Kept). told_of w other ≡ told_of s other) (append_passes s name piece) _ _ (λ _. told_after_change (with_piece piece) s name other ne) (λ _. told_after_fault after_failed_write s name other)

-- the file itself
cond_true : {A : Type 0} (b : Bool) (y z : A) → b ≡ true → cond b y z ≡ y
cond_true {A = A} b y z e = let T : Bool → Type 0 = λ w. cond w y z ≡ y in subst T (sym e) refl

cond_false : {A : Type 0} (b : Bool) (y z : A) → b ≡ false → cond b y z ≡ z
cond_false {A = A} b y z e = let T : Bool → Type 0 = λ w. cond w y z ≡ z in subst T (sym e) refl

emptied : (o : Option KeptFile) → IfSome (option_map (λ (f : KeptFile). f.bytes) (option_map (with_bytes []) o)) (λ bytes. bytes ≡ [])
emptied None = tt
emptied (Some f) = refl

pub emptied-after_fresh : {T E : Type 0} (r : Result T E) (s t : Kept) (name : List ℕ) → is_ok r ≡ call_passes s name → t ≡ after_fresh s name → OnOk r (IfSome (told_of t name) (λ bytes. bytes ≡ []))
emptied-after_fresh (Err x) s t name go e = tt
emptied-after_fresh (Ok x) s t name go e =
    let T : Option (List ℕ) → Type 0 = λ o. IfSome o (λ bytes. bytes ≡ []) in
    let there : told_of t name ≡ option_map (λ (f : KeptFile). f.bytes) (option_map (with_bytes []) (item_of name s.files)) =
    ap (λ (w : Kept). told_of w name) (e ∙ cond_true (call_passes s name) _ _ (sym go)) ∙ ap (option_map (λ (f : KeptFile). f.bytes)) (item_of-changed_same name (with_bytes []) s.files) in
    subst T (sym there) (emptied (item_of name s.files))

pub left-after_fresh : {T E : Type 0} (r : Result T E) (s t : Kept) (name : List ℕ) → is_ok r ≡ call_passes s name → t ≡ after_fresh s name → OnErr r (KeptOrEmpty (told_of s name) (told_of t name))
left-after_fresh (Ok x) s t name go e = tt
left-after_fresh (Err x) s t name go e = inl (ap (λ (w : Kept). told_of w name) (e ∙ cond_false (call_passes s name) _ _ (sym go)) ∙ told_after_fault after_failed_write s name name)

longer : (o : Option KeptFile) (piece : List ℕ) → Appends (option_map (λ (f : KeptFile). f.bytes) o) (option_map (λ (f : KeptFile). f.bytes) (option_map (with_piece piece) o)) piece
longer None piece = tt
longer (Some f) piece = (f.bytes, refl, refl)

append_nil : (xs : List ℕ) → xs ++ [] ≡ xs
append_nil [] = refl
append_nil (x ∷ xs) = ap (λ l. x ∷ l) (append_nil xs)

same_still : (o : Option (List ℕ)) → Appends o o []
same_still None = tt
same_still (Some bytes) = (bytes, refl, sym (append_nil bytes))

take_all : (xs : List ℕ) → take (length xs) xs ≡ xs
take_all [] = refl
take_all (x ∷ xs) = ap (λ l. x ∷ l) (take_all xs)

take_whole : (n : ℕ) (xs : List ℕ) → n ≡ length xs → take n xs ≡ xs
take_whole n xs e = ap (λ k. take k xs) e ∙ take_all xs

pub appended-after_append : {E : Type 0} (r : Result ℕ E) (s t : Kept) (name piece : List ℕ) → is_ok r ≡ append_passes s name piece → IfOk r (λ n. n ≡ length piece) → t ≡ after_append s name piece → MatchResult r (λ n. Appends (told_of s name) (told_of t name) (take n piece)) (λ _. Appends (told_of s name) (told_of t name) [])
appended-after_append (Ok n) s t name piece go whole e =
    let there : told_of t name ≡ option_map (λ (f : KeptFile). f.bytes) (option_map (with_piece piece) (item_of name s.files)) =
    ap (λ (w : Kept). told_of w name) (e ∙ cond_true (append_passes s name piece) _ _ (sym go)) ∙ ap (option_map (λ (f : KeptFile). f.bytes)) (item_of-changed_same name (with_piece piece) s.files) in
    let T : Option (List ℕ) → Type 0 = λ o. Appends (told_of s name) o (take n piece) in
    let U : List ℕ → Type 0 = λ p. Appends (told_of s name) (option_map (λ (f : KeptFile). f.bytes) (option_map (with_piece piece) (item_of name s.files))) p in
    subst T (sym there) (subst U (sym (take_whole n piece whole)) (longer (item_of name s.files) piece))
appended-after_append (Err x) s t name piece go whole e =
    let there : told_of t name ≡ told_of s name = ap (λ (w : Kept). told_of w name) (e ∙ cond_false (append_passes s name piece) _ _ (sym go)) ∙ told_after_fault after_failed_write s name name in
    let T : Option (List ℕ) → Type 0 = λ o. Appends (told_of s name) o [] in
    subst T (sym there) (same_still (told_of s name))

-- counts: no count falls, and that of a call that failed rose
related_after_fault : (P : Counts → Counts → Type 0) → ((c : Counts) → P c c) → (change : Counts → Counts) → ((c : Counts) → P c (change c)) → (s : Kept) (name other : List ℕ) → P (counts_of_kept s other) (counts_of_kept (after_fault change s name) other)
related_after_fault P same change step s name other =
    by_cases (λ (t : Kept). P (counts_of_kept s other) (counts_of_kept t other)) (is_some (item_of name s.files)) _ _
    (λ _. item_of-changed_related P (λ (f : KeptFile). f.counts) (with_counts change) same (λ f. step f.counts) name other s.files s.others)
    (λ _. related_apart P same (option_map (λ (f : KeptFile). f.counts) (item_of other s.files)) s.others (change s.others) (step s.others))

counts_after_fault : (change : Counts → Counts) → ((c : Counts) → NoLess c (change c)) → (s : Kept) (name other : List ℕ) → NoLess (counts_of_kept s other) (counts_of_kept (after_fault change s name) other)
counts_after_fault change step s name other = related_after_fault NoLess same_counts change step s name other

counts_kept : (change : KeptFile → KeptFile) → ((f : KeptFile) → (change f).counts ≡ f.counts) → (s : Kept) (name other : List ℕ) → counts_of_kept (after_change change s name) other ≡ counts_of_kept s other
counts_kept change keeps s name other =
    ap (λ (o : Option Counts). unwrap_or o s.others) (item_of-changed_kept (λ (f : KeptFile). f.counts) change keeps name other s.files)

counts_after_change : (change : KeptFile → KeptFile) → ((f : KeptFile) → (change f).counts ≡ f.counts) → (s : Kept) (name other : List ℕ) → NoLess (counts_of_kept s other) (counts_of_kept (after_change change s name) other)
counts_after_change change keeps s name other =
    let T : Counts → Type 0 = NoLess (counts_of_kept s other) in
    subst T (sym (counts_kept change keeps s name other)) (same_counts (counts_of_kept s other))

seen_after : (s t u : Kept) (other : List ℕ) → t ≡ u → NoLess (counts_of_kept s other) (counts_of_kept u other) → NoLess (counts_of_kept s other) (counts_of_kept t other)
seen_after s t u other e h = let T : Kept → Type 0 = λ w. NoLess (counts_of_kept s other) (counts_of_kept w other) in subst T (sym e) h

pub counts-after_read : (s t : Kept) (name : List ℕ) → t ≡ after_read s name → (other : List ℕ) → NoLess (counts_of_kept s other) (counts_of_kept t other)
counts-after_read s t name e other =
    seen_after s t (after_read s name) other e (by_cases (λ (w : Kept). NoLess (counts_of_kept s other) (counts_of_kept w other)) (call_passes s name) _ _ (λ _. same_counts (counts_of_kept s other)) (λ _. counts_after_fault after_failed_read read_raised s name other))

pub counts-after_fresh : (s t : Kept) (name : List ℕ) → t ≡ after_fresh s name → (other : List ℕ) → NoLess (counts_of_kept s other) (counts_of_kept t other)
counts-after_fresh s t name e other =
    seen_after s t (after_fresh s name) other e (by_cases (λ (w : Kept). NoLess (counts_of_kept s other) (counts_of_kept w other)) (call_passes s name) _ _ (λ _. counts_after_change (with_bytes []) (λ f. refl) s name other) (λ _. counts_after_fault after_failed_write write_raised s name other))

pub counts-after_append : (s t : Kept) (name piece : List ℕ) → t ≡ after_append s name piece → (other : List ℕ) → NoLess (counts_of_kept s other) (counts_of_kept t other)
counts-after_append s t name piece e other =
    seen_after s t (after_append s name piece) other e (by_cases (λ (w : Kept). NoLess (counts_of_kept s other) (counts_of_kept w other)) (append_passes s name piece) _ _ (λ _. counts_after_change (with_piece piece) (λ f. refl) s name other) (λ _. counts_after_fault after_failed_write write_raised s name other))

own_raised : (change : Counts → Counts) (o : Option KeptFile) (c : Counts) → is_some o ≡ true → unwrap_or (option_map (λ (f : KeptFile). f.counts) (option_map (with_counts change) o)) c ≡ change (unwrap_or (option_map (λ (f : KeptFile). f.counts) o) c)
own_raised change None c h = cc
own_raised change (Some f) c h = refl

shared_raised : (change : Counts → Counts) (o : Option KeptFile) (c : Counts) → is_some o ≡ false → unwrap_or (option_map (λ (f : KeptFile). f.counts) o) (change c) ≡ change (unwrap_or (option_map (λ (f : KeptFile). f.counts) o) c)
shared_raised change None c h = refl
shared_raised change (Some f) c h = cc

pub counts-after_fault : (change : Counts → Counts) (s : Kept) (name : List ℕ) → counts_of_kept (after_fault change s name) name ≡ change (counts_of_kept s name)
counts-after_fault change s name =
    by_cases (λ (t : Kept). counts_of_kept t name ≡ change (counts_of_kept s name)) (is_some (item_of name s.files)) _ _
    (λ own. ap (λ (o : Option KeptFile). unwrap_or (option_map (λ (f : KeptFile). f.counts) o) s.others) (item_of-changed_same name (with_counts change) s.files) ∙ own_raised change (item_of name s.files) s.others own)
    (λ missing. shared_raised change (item_of name s.files) s.others missing)

pub rose-after_read : {T E : Type 0} (r : Result T E) (s t : Kept) (name : List ℕ) → is_ok r ≡ call_passes s name → t ≡ after_read s name → OnErr r (Rose (read_faults_of s name) (read_faults_of t name))
rose-after_read (Ok x) s t name go e = tt
rose-after_read (Err x) s t name go e =
    rose _ _ (ap (λ (w : Kept). read_faults_of w name) (e ∙ cond_false (call_passes s name) _ _ (sym go)) ∙ ap (λ (c : Counts). c.reads) (counts-after_fault after_failed_read s name))

pub rose-after_fresh : {T E : Type 0} (r : Result T E) (s t : Kept) (name : List ℕ) → is_ok r ≡ call_passes s name → t ≡ after_fresh s name → OnErr r (Rose (write_faults_of s name) (write_faults_of t name))
rose-after_fresh (Ok x) s t name go e = tt
rose-after_fresh (Err x) s t name go e =
    rose _ _ (ap (λ (w : Kept). write_faults_of w name) (e ∙ cond_false (call_passes s name) _ _ (sym go)) ∙ ap (λ (c : Counts). c.writes) (counts-after_fault after_failed_write s name))

pub rose-after_append : {T E : Type 0} (r : Result T E) (s t : Kept) (name piece : List ℕ) → is_ok r ≡ append_passes s name piece → t ≡ after_append s name piece → OnErr r (Rose (write_faults_of s name) (write_faults_of t name))
rose-after_append (Ok x) s t name piece go e = tt
rose-after_append (Err x) s t name piece go e =
    rose _ _ (ap (λ (w : Kept). write_faults_of w name) (e ∙ cond_false (append_passes s name piece) _ _ (sym go)) ∙ ap (λ (c : Counts). c.writes) (counts-after_fault after_failed_write s name))

-- a file that is put
none_told : (o : Option KeptFile) → option_map (λ (f : KeptFile). f.bytes) o ≡ None → o ≡ None
none_told None h = refl
none_told (Some f) h = cc

pub told-after_put : (s t : Kept) (name bytes : List ℕ) → told_of s name ≡ None → t ≡ after_put s name bytes → told_of t name ≡ Some bytes
told-after_put s t name bytes new e =
    ap (λ (w : Kept). told_of w name) e ∙ ap (option_map (λ (f : KeptFile). f.bytes)) (item_of-append_new name (file_put s bytes) s.files (none_told (item_of name s.files) new))

pub others-after_put : (s t : Kept) (name bytes : List ℕ) → t ≡ after_put s name bytes → (other : List ℕ) → other ≢ name → told_of t other ≡ told_of s other
others-after_put s t name bytes e other ne =
    ap (λ (w : Kept). told_of w other) e ∙ ap (option_map (λ (f : KeptFile). f.bytes)) (item_of-append other name (file_put s bytes) s.files ne)

counts_after_put : (s : Kept) (name bytes other : List ℕ) → item_of name s.files ≡ None → counts_of_kept (after_put s name bytes) other ≡ counts_of_kept s other
counts_after_put s name bytes other new =
    elim (bytes_eq name other) as (λ b. bytes_eq name other ≡ b → counts_of_kept (after_put s name bytes) other ≡ counts_of_kept s other) [
      | true ↦ λ e.
          let same : name ≡ other = (bytes_eq-Decides name other).0 e in
          let T : List ℕ → Type 0 = λ o. counts_of_kept (after_put s name bytes) o ≡ counts_of_kept s o in
          let there : item_of name (after_put s name bytes).files ≡ Some (file_put s bytes) = item_of-append_new name (file_put s bytes) s.files new in
          subst T same (ap (λ (o : Option KeptFile). unwrap_or (option_map (λ (f : KeptFile). f.counts) o) s.others) there ∙ sym (ap (λ (o : Option KeptFile). unwrap_or (option_map (λ (f : KeptFile). f.counts) o) s.others) new))
      | false ↦ λ e.
          let ne : other ≢ name = λ h. differ (bytes_eq name other) ((bytes_eq-Decides name other).1 (sym h)) e in
          ap (λ (o : Option KeptFile). unwrap_or (option_map (λ (f : KeptFile). f.counts) o) s.others) (item_of-append other name (file_put s bytes) s.files ne)
    ] refl

pub counts-after_put : (s t : Kept) (name bytes : List ℕ) → told_of s name ≡ None → t ≡ after_put s name bytes → (other : List ℕ) → counts_of_kept t other ≡ counts_of_kept s other
counts-after_put s t name bytes new e other =
    ap (λ (w : Kept). counts_of_kept w other) e ∙ counts_after_put s name bytes other (none_told (item_of name s.files) new)

-- counts of the other kind stay, those of this kind where the call went through
same_part_after_fault : (part : Counts → ℕ) (change : Counts → Counts) → ((c : Counts) → part (change c) ≡ part c) → (s : Kept) (name other : List ℕ) → part (counts_of_kept (after_fault change s name) other) ≡ part (counts_of_kept s other)
same_part_after_fault part change keeps s name other = related_after_fault (λ c d. part d ≡ part c) (λ c. refl) change keeps s name other

pub writes-after_read : (s t : Kept) (name : List ℕ) → t ≡ after_read s name → Stay (write_faults_of s) (write_faults_of t)
writes-after_read s t name e other =
    ap (λ (w : Kept). write_faults_of w other) e ∙ by_cases (λ (w : Kept). write_faults_of w other ≡ write_faults_of s other) (call_passes s name) _ _ (λ _. refl) (λ _. same_part_after_fault (λ c. c.writes) after_failed_read (λ c. refl) s name other)

pub reads-after_fresh : (s t : Kept) (name : List ℕ) → t ≡ after_fresh s name → Stay (read_faults_of s) (read_faults_of t)
reads-after_fresh s t name e other =
    ap (λ (w : Kept). read_faults_of w other) e ∙ by_cases (λ (w : Kept). read_faults_of w other ≡ read_faults_of s other) (call_passes s name) _ _ (λ _. ap (λ (c : Counts). c.reads) (counts_kept (with_bytes []) (λ f. refl) s name other)) (λ _. same_part_after_fault (λ c. c.reads) after_failed_write (λ c. refl) s name other)

pub reads-after_append : (s t : Kept) (name piece : List ℕ) → t ≡ after_append s name piece → Stay (read_faults_of s) (read_faults_of t)
reads-after_append s t name piece e other =
    ap (λ (w : Kept). read_faults_of w other) e ∙ by_cases (λ (w : Kept). read_faults_of w other ≡ read_faults_of s other) (append_passes s name piece) _ _ (λ _. ap (λ (c : Counts). c.reads) (counts_kept (with_piece piece) (λ f. refl) s name other)) (λ _. same_part_after_fault (λ c. c.reads) after_failed_write (λ c. refl) s name other)

pub stay-after_read : {T E : Type 0} (r : Result T E) (s t : Kept) (name : List ℕ) → is_ok r ≡ call_passes s name → t ≡ after_read s name → OnOk r (Stay (read_faults_of s) (read_faults_of t))
stay-after_read (Err x) s t name go e = tt
stay-after_read (Ok x) s t name go e = λ other. ap (λ (w : Kept). read_faults_of w other) (e ∙ cond_true (call_passes s name) _ _ (sym go))

pub stay-after_fresh : {T E : Type 0} (r : Result T E) (s t : Kept) (name : List ℕ) → is_ok r ≡ call_passes s name → t ≡ after_fresh s name → OnOk r (Stay (write_faults_of s) (write_faults_of t))
stay-after_fresh (Err x) s t name go e = tt
stay-after_fresh (Ok x) s t name go e =
    λ other. ap (λ (w : Kept). write_faults_of w other) (e ∙ cond_true (call_passes s name) _ _ (sym go)) ∙ ap (λ (c : Counts). c.writes) (counts_kept (with_bytes []) (λ f. refl) s name other)

pub stay-after_append : {T E : Type 0} (r : Result T E) (s t : Kept) (name piece : List ℕ) → is_ok r ≡ append_passes s name piece → t ≡ after_append s name piece → OnOk r (Stay (write_faults_of s) (write_faults_of t))
stay-after_append (Err x) s t name piece go e = tt
stay-after_append (Ok x) s t name piece go e =
    λ other. ap (λ (w : Kept). write_faults_of w other) (e ∙ cond_true (append_passes s name piece) _ _ (sym go)) ∙ ap (λ (c : Counts). c.writes) (counts_kept (with_piece piece) (λ f. refl) s name other)

-- at most the counts of the call's name change, and those that are one with them
shared_alike : (o p : Option KeptFile) (c d : Counts) → is_some p ≡ false → (unwrap_or (option_map (λ (f : KeptFile). f.counts) o) d ≡ unwrap_or (option_map (λ (f : KeptFile). f.counts) o) c) ⊎ ((unwrap_or (option_map (λ (f : KeptFile). f.counts) o) c ≡ unwrap_or (option_map (λ (f : KeptFile). f.counts) p) c) × (unwrap_or (option_map (λ (f : KeptFile). f.counts) o) d ≡ unwrap_or (option_map (λ (f : KeptFile). f.counts) p) d))
shared_alike (Some f) p c d h = inl refl
shared_alike None None c d h = inr (refl, refl)
shared_alike None (Some f) c d h = cc

alone_after_fault : (change : Counts → Counts) (s : Kept) (name other : List ℕ) → OneWith (counts_of_kept s) (counts_of_kept (after_fault change s name)) name other
alone_after_fault change s name other =
    by_cases (λ (w : Kept). OneWith (counts_of_kept s) (counts_of_kept w) name other) (is_some (item_of name s.files)) _ _
    (λ _. one_or_other name other
    (λ e. inr (ap (counts_of_kept s) e, ap (counts_of_kept (after_change (with_counts change) s name)) e))
    (λ ne. inl (ap (λ (o : Option KeptFile). unwrap_or (option_map (λ (f : KeptFile). f.counts) o) s.others) (item_of-changed_other name other (with_counts change) s.files ne))))
    (λ missing. shared_alike (item_of other s.files) (item_of name s.files) s.others (change s.others) missing)

alone_after : (s t u : Kept) (name other : List ℕ) → t ≡ u → OneWith (counts_of_kept s) (counts_of_kept u) name other → OneWith (counts_of_kept s) (counts_of_kept t) name other
alone_after s t u name other e h = let T : Kept → Type 0 = λ w. OneWith (counts_of_kept s) (counts_of_kept w) name other in subst T (sym e) h

pub alone-after_read : (s t : Kept) (name : List ℕ) → t ≡ after_read s name → ChangesOnly (name ∷ []) (read_faults_of s) (read_faults_of t)
alone-after_read s t name e =
    only_one (λ c. c.reads) (counts_of_kept s) (counts_of_kept t) name (λ other. alone_after s t (after_read s name) name other e (by_cases (λ (w : Kept). OneWith (counts_of_kept s) (counts_of_kept w) name other) (call_passes s name) _ _ (λ _. inl refl) (λ _. alone_after_fault after_failed_read s name other)))

pub alone-after_fresh : (s t : Kept) (name : List ℕ) → t ≡ after_fresh s name → ChangesOnly (name ∷ []) (write_faults_of s) (write_faults_of t)
alone-after_fresh s t name e =
    only_one (λ c. c.writes) (counts_of_kept s) (counts_of_kept t) name (λ other. alone_after s t (after_fresh s name) name other e (by_cases (λ (w : Kept). OneWith (counts_of_kept s) (counts_of_kept w) name other) (call_passes s name) _ _ (λ _. inl (counts_kept (with_bytes []) (λ f. refl) s name other)) (λ _. alone_after_fault after_failed_write s name other)))

pub alone-after_append : (s t : Kept) (name piece : List ℕ) → t ≡ after_append s name piece → ChangesOnly (name ∷ []) (write_faults_of s) (write_faults_of t)
alone-after_append s t name piece e =
    only_one (λ c. c.writes) (counts_of_kept s) (counts_of_kept t) name (λ other. alone_after s t (after_append s name piece) name other e (by_cases (λ (w : Kept). OneWith (counts_of_kept s) (counts_of_kept w) name other) (append_passes s name piece) _ _ (λ _. inl (counts_kept (with_piece piece) (λ f. refl) s name other)) (λ _. alone_after_fault after_failed_write s name other)))
