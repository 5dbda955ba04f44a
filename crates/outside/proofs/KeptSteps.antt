-- How the code of a shelf in memory takes a step: from places in the list of files to names.
use Rattle.std.proofs.Common.{◌≡◌, ℕ, ◌-◌, Bool, true, false, cond, ◌&&◌, List, [], ◌∷◌, ◌++◌, length, take, drop, min, max, Bor, get_or, set, Option, Some, None, position, refl, sym, ap, ◌∙◌, arith, is_some, option_map, unwrap_or, subst}
use Rattle.std.specs.Str.{bytes_eq}
use Rattle.outside.specs.declared.counts.Counts.{Counts}
use Rattle.outside.specs.Named.{item_of, changed_at}
use Rattle.outside.specs.Told.{Finds}
use Rattle.outside.specs.Inner.Failing.{FailingCalls, passes, after_call}
use Rattle.outside.specs.Inner.Kept.{Kept, KeptFile, told_of, call_passes, append_passes, has_room, with_counts, after_put, after_change, after_fault, after_read}
use Rattle.outside.proofs.NamedLaws.{item_of-place, changed_at-place, item_of-missing}

-- a shelf of its parts
abbrev pub shelf : List (List ℕ × KeptFile) → Counts → FailingCalls → ℕ → Kept
shelf files others failing room = record { files = files; others = others; failing = failing; room = room }

-- a look-up of a name's place, in the list or a copy of it
abbrev pub Placed : List (List ℕ × KeptFile) → List ℕ → Option ℕ → Type 0
Placed files name o = position (λ row. bytes_eq row.0 name) files ≡ o

pub placed : (files list : List (List ℕ × KeptFile)) (name : List ℕ) (o : Option ℕ) → o ≡ position (λ row. bytes_eq row.0 name) list → list ≡ files → Placed files name o
placed files list name o h e = ap (position (λ row. bytes_eq row.0 name)) (sym e) ∙ sym h

choose_true : {A : Type 0} (b : Bool) (x y z : A) → b ≡ true → x ≡ y → x ≡ cond b y z
choose_true {A = A} b x y z e h = let T : Bool → Type 0 = λ w. x ≡ cond w y z in subst T (sym e) h

choose_false : {A : Type 0} (b : Bool) (x y z : A) → b ≡ false → x ≡ z → x ≡ cond b y z
choose_false {A = A} b x y z e h = let T : Bool → Type 0 = λ w. x ≡ cond w y z in subst T (sym e) h

-- the files with the one at a place changed
files_changed : (change : KeptFile → KeptFile) (files : List (List ℕ × KeptFile)) (name : List ℕ) (i : ℕ) (old new : List ℕ × KeptFile) → Placed files name (Some i) → old ≡ get_or files i old → new ≡ (old.0, change old.1) → set files i new ≡ changed_at name change files
files_changed change files name i old new h at is =
    let here : new ≡ ((get_or files i old).0, change (get_or files i old).1) = is ∙ ap (λ (r : List ℕ × KeptFile). (r.0, change r.1)) at in
    ap (set files i) here ∙ changed_at-place name change files i old h

change_own : (change : KeptFile → KeptFile) (files : List (List ℕ × KeptFile)) (others : Counts) (failing f : FailingCalls) (room : ℕ) (name : List ℕ) (i : ℕ) (old new : List ℕ × KeptFile) → Placed files name (Some i) → old ≡ get_or files i old → new ≡ (old.0, change old.1) → f ≡ after_call failing → shelf (set files i new) others f room ≡ after_change change (shelf files others failing room) name
change_own change files others failing f room name i old new h at is e =
    ap (λ (l : List (List ℕ × KeptFile)). shelf l others f room) (files_changed change files name i old new h at is) ∙ ap (λ (g : FailingCalls). shelf (changed_at name change files) others g room) e

is_own : (files : List (List ℕ × KeptFile)) (name : List ℕ) (i : ℕ) (d : List ℕ × KeptFile) → Placed files name (Some i) → is_some (item_of name files) ≡ true
is_own files name i d h = ap is_some (item_of-place name files i d h)

no_own : (files : List (List ℕ × KeptFile)) (name : List ℕ) → Placed files name None → is_some (item_of name files) ≡ false
no_own files name h = ap is_some (item_of-missing name files h)

fault_own : (change : Counts → Counts) (files : List (List ℕ × KeptFile)) (others : Counts) (failing f : FailingCalls) (room : ℕ) (name : List ℕ) (i : ℕ) (old new : List ℕ × KeptFile) → Placed files name (Some i) → old ≡ get_or files i old → new ≡ (old.0, with_counts change old.1) → f ≡ after_call failing → shelf (set files i new) others f room ≡ after_fault change (shelf files others failing room) name
fault_own change files others failing f room name i old new h at is e =
    choose_true (is_some (item_of name files)) _ _ _ (is_own files name i old h) (change_own (with_counts change) files others failing f room name i old new h at is e)

fault_missing : (change : Counts → Counts) (files : List (List ℕ × KeptFile)) (others new : Counts) (failing f : FailingCalls) (room : ℕ) (name : List ℕ) → Placed files name None → new ≡ change others → f ≡ after_call failing → shelf files new f room ≡ after_fault change (shelf files others failing room) name
fault_missing change files others new failing f room name h is e =
    choose_false (is_some (item_of name files)) _ _ _ (no_own files name h) (ap (λ (c : Counts). shelf files c f room) is ∙ ap (λ (g : FailingCalls). shelf files (change others) g room) e)

and_true : (b : Bool) → b ≡ (b && true)
and_true true = refl
and_true false = refl

and_false : (b : Bool) → false ≡ (b && false)
and_false true = refl
and_false false = refl

passes_own : (files : List (List ℕ × KeptFile)) (others : Counts) (failing : FailingCalls) (room : ℕ) (name : List ℕ) (i : ℕ) (d : List ℕ × KeptFile) (b : Bool) → Placed files name (Some i) → b ≡ passes failing → b ≡ call_passes (shelf files others failing room) name
passes_own files others failing room name i d b h e =
    let T : Bool → Type 0 = λ w. b ≡ (passes failing && w) in
    subst T (sym (is_own files name i d h)) (e ∙ and_true (passes failing))

passes_missing : (files : List (List ℕ × KeptFile)) (others : Counts) (failing : FailingCalls) (room : ℕ) (name : List ℕ) → Placed files name None → false ≡ call_passes (shelf files others failing room) name
passes_missing files others failing room name h =
    let T : Bool → Type 0 = λ w. false ≡ (passes failing && w) in
    subst T (sym (no_own files name h)) (and_false (passes failing))

appends_own : (files : List (List ℕ × KeptFile)) (others : Counts) (failing : FailingCalls) (room : ℕ) (name piece : List ℕ) (i : ℕ) (old : List ℕ × KeptFile) → Placed files name (Some i) → old ≡ get_or files i old → append_passes (shelf files others failing room) name piece ≡ (passes failing && has_room old.1 piece)
appends_own files others failing room name piece i old h at =
    let own : item_of name files ≡ Some (get_or files i old).1 = item_of-place name files i old h in
    let here : item_of name files ≡ Some old.1 = own ∙ ap (λ (r : List ℕ × KeptFile). Some r.1) (sym at) in
    ap (λ (o : Option KeptFile). passes failing && unwrap_or (option_map (λ f. has_room f piece) o) false) here

appends_missing : (files : List (List ℕ × KeptFile)) (others : Counts) (failing : FailingCalls) (room : ℕ) (name piece : List ℕ) → Placed files name None → append_passes (shelf files others failing room) name piece ≡ false
appends_missing files others failing room name piece h =
    ap (λ (o : Option KeptFile). passes failing && unwrap_or (option_map (λ f. has_room f piece) o) false) (item_of-missing name files h) ∙ sym (and_false (passes failing))

-- whether a call goes through
pub passes_at : (files : List (List ℕ × KeptFile)) (others : Counts) (failing : FailingCalls) (room : ℕ) (name : List ℕ) (i : ℕ) (d : List ℕ × KeptFile) (b r : Bool) (v : Kept) → shelf files others failing room ≡ v → Placed files name (Some i) → r ≡ passes failing → r ≡ b → b ≡ call_passes v name
passes_at files others failing room name i d b r v is h e here =
    let T : Kept → Type 0 = λ w. b ≡ call_passes w name in
    subst T is (sym here ∙ passes_own files others failing room name i d r h e)

pub passes_nowhere : (files : List (List ℕ × KeptFile)) (others : Counts) (failing : FailingCalls) (room : ℕ) (name : List ℕ) (v : Kept) → shelf files others failing room ≡ v → Placed files name None → false ≡ call_passes v name
passes_nowhere files others failing room name v is h =
    let T : Kept → Type 0 = λ w. false ≡ call_passes w name in
    subst T is (passes_missing files others failing room name h)

pub appends_at : (files : List (List ℕ × KeptFile)) (others : Counts) (failing : FailingCalls) (room : ℕ) (name piece : List ℕ) (i : ℕ) (old : List ℕ × KeptFile) (b : Bool) (v : Kept) → shelf files others failing room ≡ v → Placed files name (Some i) → old ≡ get_or files i old → b ≡ (passes failing && has_room old.1 piece) → b ≡ append_passes v name piece
appends_at files others failing room name piece i old b v is h at e =
    let T : Kept → Type 0 = λ w. b ≡ append_passes w name piece in
    subst T is (e ∙ sym (appends_own files others failing room name piece i old h at))

pub appends_nowhere : (files : List (List ℕ × KeptFile)) (others : Counts) (failing : FailingCalls) (room : ℕ) (name piece : List ℕ) (v : Kept) → shelf files others failing room ≡ v → Placed files name None → false ≡ append_passes v name piece
appends_nowhere files others failing room name piece v is h =
    let T : Kept → Type 0 = λ w. false ≡ append_passes w name piece in
    subst T is (sym (appends_missing files others failing room name piece h))

-- the shelf after a call: the case that its code took, once it is known whether the call goes through
pub read_through : (files : List (List ℕ × KeptFile)) (others : Counts) (failing f : FailingCalls) (room : ℕ) (name : List ℕ) (v : Kept) → shelf files others failing room ≡ v → f ≡ after_call failing → true ≡ call_passes v name → shelf files others f room ≡ after_read v name
read_through files others failing f room name v is e go =
    let T : Kept → Type 0 = λ w. shelf files others f room ≡ record w { failing = after_call w.failing } in
    choose_true (call_passes v name) _ _ _ (sym go) (subst T is (ap (λ (g : FailingCalls). shelf files others g room) e))

pub changed_in : (change : KeptFile → KeptFile) (files : List (List ℕ × KeptFile)) (others : Counts) (failing f : FailingCalls) (room : ℕ) (name : List ℕ) (i : ℕ) (old new : List ℕ × KeptFile) (v : Kept) → shelf files others failing room ≡ v → Placed files name (Some i) → old ≡ get_or files i old → new ≡ (old.0, change old.1) → f ≡ after_call failing → shelf (set files i new) others f room ≡ after_change change v name
changed_in change files others failing f room name i old new v is h at step e =
    let T : Kept → Type 0 = λ w. shelf (set files i new) others f room ≡ after_change change w name in
    subst T is (change_own change files others failing f room name i old new h at step e)

pub fault_in : (change : Counts → Counts) (files : List (List ℕ × KeptFile)) (others : Counts) (failing f : FailingCalls) (room : ℕ) (name : List ℕ) (i : ℕ) (old new : List ℕ × KeptFile) (v : Kept) → shelf files others failing room ≡ v → Placed files name (Some i) → old ≡ get_or files i old → new ≡ (old.0, with_counts change old.1) → f ≡ after_call failing → shelf (set files i new) others f room ≡ after_fault change v name
fault_in change files others failing f room name i old new v is h at step e =
    let T : Kept → Type 0 = λ w. shelf (set files i new) others f room ≡ after_fault change w name in
    subst T is (fault_own change files others failing f room name i old new h at step e)

pub fault_out : (change : Counts → Counts) (files : List (List ℕ × KeptFile)) (others new : Counts) (failing f : FailingCalls) (room : ℕ) (name : List ℕ) (v : Kept) → shelf files others failing room ≡ v → Placed files name None → new ≡ change others → f ≡ after_call failing → shelf files new f room ≡ after_fault change v name
fault_out change files others new failing f room name v is h step e =
    let T : Kept → Type 0 = λ w. shelf files new f room ≡ after_fault change w name in
    subst T is (fault_missing change files others new failing f room name h step e)

pub gone_through : (b : Bool) (x y z : Kept) → true ≡ b → x ≡ y → x ≡ cond b y z
gone_through b x y z go h = choose_true b x y z (sym go) h

pub held_up : (b : Bool) (x y z : Kept) → false ≡ b → x ≡ z → x ≡ cond b y z
held_up b x y z stop h = choose_false b x y z (sym stop) h

-- what a read finds in the file at a place
pub read_finds : (files : List (List ℕ × KeptFile)) (others : Counts) (failing : FailingCalls) (room : ℕ) (name : List ℕ) (i : ℕ) (old : List ℕ × KeptFile) (place n : ℕ) (before into bytes : List ℕ) (v : Kept) → shelf files others failing room ≡ v → Placed files name (Some i) → old ≡ get_or files i old → bytes ≡ old.1.bytes → n ≡ min (length before) (length bytes - place) → take n into ≡ take n (drop place bytes) → length into ≡ length before → Finds (told_of v name) place into n
read_finds files others failing room name i old place n before into bytes v is h at b count copied same =
    let T : Kept → Type 0 = λ w. Finds (told_of w name) place into n in
    let own : item_of name files ≡ Some (get_or files i old).1 = item_of-place name files i old h in
    let here : told_of (shelf files others failing room) name ≡ Some bytes = ap (option_map (λ f. f.bytes)) (own ∙ ap (λ (r : List ℕ × KeptFile). Some r.1) (sym at)) ∙ ap Some (sym b) in
    let U : Option (List ℕ) → Type 0 = λ o. Finds o place into n in
    subst T is (subst U (sym here) (omega arith, copied, λ none some. omega arith))

-- two tests of an append
pub both : (r h : Bool) (p q : Bool) → r ≡ p → h ≡ q → r ≡ true → h ≡ true → true ≡ (p && q)
both r h true q e f x y = sym y ∙ f
both r h false q e f x y = sym x ∙ e

pub first_fails : (r p q : Bool) → r ≡ p → r ≡ false → false ≡ (p && q)
first_fails r true q e x = cc
first_fails r false q e x = refl

pub second_fails : (h p q : Bool) → h ≡ q → h ≡ false → false ≡ (p && q)
second_fails h true q f y = sym y ∙ f
second_fails h false q f y = refl

-- what is lent of a file
pub told_at : (files : List (List ℕ × KeptFile)) (others : Counts) (failing : FailingCalls) (room : ℕ) (name : List ℕ) (i : ℕ) (old : List ℕ × KeptFile) (bytes : List ℕ) (v : Kept) → shelf files others failing room ≡ v → Placed files name (Some i) → old ≡ get_or files i old → bytes ≡ old.1.bytes → Some bytes ≡ told_of v name
told_at files others failing room name i old bytes v is h at b =
    let T : Kept → Type 0 = λ w. Some bytes ≡ told_of w name in
    let own : item_of name files ≡ Some (get_or files i old).1 = item_of-place name files i old h in
    subst T is (ap Some b ∙ sym (ap (option_map (λ f. f.bytes)) (own ∙ ap (λ (r : List ℕ × KeptFile). Some r.1) (sym at))))

pub told_nowhere : (files : List (List ℕ × KeptFile)) (others : Counts) (failing : FailingCalls) (room : ℕ) (name : List ℕ) (r : Option (Bor (List ℕ))) (v : Kept) → shelf files others failing room ≡ v → Placed files name None → r ≡ None → option_map (λ bytes. bytes.now) r ≡ told_of v name
told_nowhere files others failing room name r v is h e =
    let T : Kept → Type 0 = λ w. option_map (λ (bytes : Bor (List ℕ)). bytes.now) r ≡ told_of w name in
    subst T is (ap (option_map (λ (bytes : Bor (List ℕ)). bytes.now)) e ∙ sym (ap (option_map (λ f. f.bytes)) (item_of-missing name files h)))

-- a file that is put
pub put_in : (files after : List (List ℕ × KeptFile)) (others : Counts) (failing : FailingCalls) (room : ℕ) (name bytes : List ℕ) (row : List ℕ × KeptFile) (v : Kept) → shelf files others failing room ≡ v → after ≡ files ++ row ∷ [] → row ≡ (name, record { bytes = bytes; room = max room (length bytes); counts = others }) → shelf after others failing room ≡ after_put v name bytes
put_in files after others failing room name bytes row v is more new =
    let T : Kept → Type 0 = λ w. shelf after others failing room ≡ after_put w name bytes in
    subst T is (ap (λ (l : List (List ℕ × KeptFile)). shelf l others failing room) (more ∙ ap (λ (r : List ℕ × KeptFile). files ++ r ∷ []) new))
