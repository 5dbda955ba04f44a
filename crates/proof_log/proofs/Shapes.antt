-- Lines of one shape: their judgement, and that they are read again.
use Rattle.std.proofs.Common.{◌≡◌, ℕ, List, [], ◌∷◌, ◌++◌, codes, Option, Some, None, refl, sym, ap, subst, ◌∙◌, inl, inr, ⊎_elim, ◌⊎◌}
use Rattle.std.specs.Prelude.{Result, Ok, Err}
use Rattle.std.specs.Fmt.{decimal}
use Rattle.std.proofs.lemmas.List.{append-nil}
use Rattle.proof_log.specs.declared.log_line.LineFault.{LineFault}
use Rattle.proof_log.specs.declared.log_line.LineFault.TheVariants.{Form, Number, Order}
use Rattle.proof_log.specs.Line.{Line, line_text}
use Rattle.proof_log.specs.Fault.{IsWritten, IsInRange, ListsAscend, HasForm, HasNumbers}
use Rattle.proof_log.specs.Inner.Reading.{◌>>=◌, Kind, Got, Seen, end_at, fits, all_fit, fields_at}
use Rattle.proof_log.specs.Inner.Reading as reading
use Rattle.proof_log.proofs.ReadLaws.{as_it_is}
use Rattle.proof_log.proofs.KindLaws.{Values, got, gots, AreGood, tail_text, fields_again, fields_found, FoundAll, HaveNoForm}
use Rattle.proof_log.proofs.Numbers.{IsSized, InRangeAt, from, Sound, kind_sound, Whole, kind_whole}

abbrev pub Judgement : Type 0
Judgement = Result (Line ℕ) LineFault

abbrev pub AreSized : List Kind → Type 0
AreSized [] = Unit {0}
AreSized (k ∷ ks) = IsSized k × (AreSized ks)

abbrev pub AreInRange : (ks : List Kind) → Values ℕ ks → Type 0
AreInRange [] vs = Unit {0}
AreInRange (k ∷ ks) vs = InRangeAt k vs.0 × (AreInRange ks vs.1)

abbrev pub froms : (ks : List Kind) → Values ℕ ks → reading.Values ks
froms [] vs = tt
froms (k ∷ ks) vs = (from k vs.0, froms ks vs.1)

-- all numbers are in range
abbrev pub AllFit : (ks : List Kind) → Values (List ℕ) ks → Values ℕ ks → Type 0
AllFit ks ws vs = (next : reading.Values ks → Judgement) → all_fit ks (gots ks ws) next ≡ next (froms ks vs)

-- values in range with the same text
abbrev pub SameValues : (ks : List Kind) → Values (List ℕ) ks → Type 0
SameValues ks ws = (vs : Values ℕ ks) × AreInRange ks vs × (tail_text decimal ks vs ≡ tail_text as_it_is ks ws) × AllFit ks ws vs

-- some number isn't in its range
abbrev pub SomeMisfits : (ks : List Kind) → Values (List ℕ) ks → Type 0
SomeMisfits ks ws = (next : reading.Values ks → Judgement) → all_fit ks (gots ks ws) next ≡ Err Number

pub fit_all : (ks : List Kind) (ws : Values (List ℕ) ks) → AreSized ks → AreGood ks ws → SameValues ks ws ⊎ SomeMisfits ks ws
fit_all [] ws s g = inl (tt, tt, refl, λ next. refl)
fit_all (k ∷ ks) ws s g = by (got k ws.0) refl (fit_all ks ws.1 s.1 g.1)
  where
    by : (o : Option (Got k)) → got k ws.0 ≡ o → SameValues ks ws.1 ⊎ SomeMisfits ks ws.1 → SameValues (k ∷ ks) ws ⊎ SomeMisfits (k ∷ ks) ws
    by None e rest = inr (λ next. rw e refl)
    by (Some x) e rest =
        let t : Sound k ws.0 x = kind_sound k ws.0 x s.0 g.0 e in
        let same : got k ws.0 ≡ Some (from k t.0) = e ∙ ap (λ (y : Got k). Some y) (sym t.2) in
        ⊎_elim
        (λ (r : SameValues ks ws.1). inl ((t.0, r.0), (t.1, r.1), (λ i. (codes " " ++ t.3 i) ++ r.2 i), λ next. rw same (r.3 (λ xs. next (from k t.0, xs)))))
        (λ (r : SomeMisfits ks ws.1). inr (λ next. rw same (r (λ xs. next (from k t.0, xs)))))
        rest

-- what is written for values in range, and it is read as those values
abbrev pub WrittenSo : (ks : List Kind) → Values ℕ ks → Type 0
WrittenSo ks vs = (ws : Values (List ℕ) ks) × AreGood ks ws × (tail_text as_it_is ks ws ≡ tail_text decimal ks vs) × AllFit ks ws vs

pub whole_all : (ks : List Kind) (vs : Values ℕ ks) → AreSized ks → AreInRange ks vs → WrittenSo ks vs
whole_all [] vs s r = (tt, tt, refl, λ next. refl)
whole_all (k ∷ ks) vs s r =
    let t : Whole k vs.0 = kind_whole k vs.0 s.0 r.0 in
    let rest : WrittenSo ks vs.1 = whole_all ks vs.1 s.1 r.1 in
    ((t.0, rest.0), (t.1, rest.1), (λ i. (codes " " ++ t.2 i) ++ rest.2 i), λ next. rw t.3 (rest.3 (λ xs. next (from k vs.0, xs))))

-- ---- shapes

-- what stands in front of a line's last fields: its first word, some fields, and another word
abbrev pub front_text : {N : Type 0} → (N → List ℕ) → List ℕ → (ks : List Kind) → List ℕ → Values N ks → List ℕ
front_text digits p ks m vs = p ++ (tail_text digits ks vs ++ m)

-- the rest of a line: its last fields up to the end, all numbers in range, and what is made of them
abbrev pub rest_at : (ks ls : List Kind) → (reading.Values ks → reading.Values ls → Judgement) → Seen ks → List ℕ → Judgement
rest_at ks ls made head bytes = fields_at ls bytes (λ seen rest. end_at rest >>= λ _. all_fit ks head (λ h. all_fit ls seen (λ x. made h x)))

-- what is made of values: the line, or that a list doesn't ascend
abbrev pub Makes : Judgement → Line ℕ → Type 0
Makes made line = ((made ≡ Ok line) × ListsAscend line) ⊎ ((made ≡ Err Order) × (ListsAscend line → ⊥))

-- a shape of lines: a first word, some fields, another word and the last fields
pub record Shape (p : List ℕ) (ks : List Kind) (m : List ℕ) (ls : List Kind) (made : reading.Values ks → reading.Values ls → Judgement) : Type 0 where
  pub sized : AreSized ks × AreSized ls
  pub written : Values (List ℕ) ks → Values (List ℕ) ls → Line (List ℕ)
  pub valued : Values ℕ ks → Values ℕ ls → Line ℕ
  pub written_text : (a : Values (List ℕ) ks) (b : Values (List ℕ) ls) → line_text as_it_is (written a b) ≡ front_text as_it_is p ks m a ++ tail_text as_it_is ls b
  pub valued_text : (a : Values ℕ ks) (b : Values ℕ ls) → line_text decimal (valued a b) ≡ front_text decimal p ks m a ++ tail_text decimal ls b
  pub good : (a : Values (List ℕ) ks) (b : Values (List ℕ) ls) → AreGood ks a → AreGood ls b → IsWritten (written a b)
  pub range : (a : Values ℕ ks) (b : Values ℕ ls) → AreInRange ks a → AreInRange ls b → IsInRange (valued a b)
  pub makes : (a : Values ℕ ks) (b : Values ℕ ls) → AreInRange ks a → AreInRange ls b → Makes (made (froms ks a) (froms ls b)) (valued a b)

-- what may be said of bytes: they have no form, or a number isn't in range, or a list doesn't ascend, or they are a line
abbrev pub Judges : List ℕ → Judgement → Type 0
Judges bytes (Ok line) = HasForm bytes × IsInRange line × ListsAscend line × (bytes ≡ line_text decimal line)
Judges bytes (Err Form) = Unit {0}
Judges bytes (Err Number) = HasForm bytes
Judges bytes (Err Order) = HasForm bytes × HasNumbers bytes
Judges bytes (Err f) = ⊥

judges_ended : (p : List ℕ) (ks : List Kind) (m : List ℕ) (ls : List Kind) (made : reading.Values ks → reading.Values ls → Judgement) (shape : Shape p ks m ls made) (a : Values (List ℕ) ks) (b : Values (List ℕ) ls)
    → AreGood ks a → AreGood ls b → Judges (line_text as_it_is (shape.written a b)) (all_fit ks (gots ks a) (λ h. all_fit ls (gots ls b) (λ x. made h x)))
judges_ended p ks m ls made shape a b ga gb = ⊎_elim heads (λ (n : SomeMisfits ks a). bad (n (λ h. all_fit ls (gots ls b) (λ x. made h x)))) (fit_all ks a shape.sized.0 ga)
  where
    form : HasForm (line_text as_it_is (shape.written a b))
    form = (shape.written a b, shape.good a b ga gb, refl)

    bad : {r : Judgement} → r ≡ Err Number → Judges (line_text as_it_is (shape.written a b)) r
    bad e = let P : Judgement → Type 0 = Judges (line_text as_it_is (shape.written a b)) in subst P (sym e) form

    both_parts : (va : Values ℕ ks) (vb : Values ℕ ls) → AreInRange ks va → AreInRange ls vb → tail_text decimal ks va ≡ tail_text as_it_is ks a → tail_text decimal ls vb ≡ tail_text as_it_is ls b
        → {r : Judgement} → r ≡ made (froms ks va) (froms ls vb) → Judges (line_text as_it_is (shape.written a b)) r
    both_parts va vb ra rb ta tb e =
        let text : line_text as_it_is (shape.written a b) ≡ line_text decimal (shape.valued va vb) = shape.written_text a b ∙ sym (shape.valued_text va vb ∙ λ i. (p ++ (ta i ++ m)) ++ tb i) in
        let P : Judgement → Type 0 = Judges (line_text as_it_is (shape.written a b)) in
        ⊎_elim
        (λ (o : (made (froms ks va) (froms ls vb) ≡ Ok (shape.valued va vb)) × ListsAscend (shape.valued va vb)). subst P (sym (e ∙ o.0)) (form, shape.range va vb ra rb, o.1, text))
        (λ (o : (made (froms ks va) (froms ls vb) ≡ Err Order) × (ListsAscend (shape.valued va vb) → ⊥)). subst P (sym (e ∙ o.0)) (form, (shape.valued va vb, shape.range va vb ra rb, text)))
        (shape.makes va vb ra rb)

    heads : SameValues ks a → Judges (line_text as_it_is (shape.written a b)) (all_fit ks (gots ks a) (λ h. all_fit ls (gots ls b) (λ x. made h x)))
    heads v = ⊎_elim
        (λ (u : SameValues ls b). both_parts v.0 u.0 v.1 u.1 v.2 u.2 (v.3 (λ h. all_fit ls (gots ls b) (λ x. made h x)) ∙ u.3 (λ x. made (froms ks v.0) x)))
        (λ (n : SomeMisfits ls b). bad (v.3 (λ h. all_fit ls (gots ls b) (λ x. made h x)) ∙ n (λ x. made (froms ks v.0) x)))
        (fit_all ls b shape.sized.1 gb)

-- the judgement of the rest of a line of a shape
pub rest_judges : (p : List ℕ) (ks : List Kind) (m : List ℕ) (ls : List Kind) (made : reading.Values ks → reading.Values ls → Judgement) (shape : Shape p ks m ls made) (a : Values (List ℕ) ks) (bytes : List ℕ)
    → AreGood ks a → Judges (front_text as_it_is p ks m a ++ bytes) (rest_at ks ls made (gots ks a) bytes)
rest_judges p ks m ls made shape a bytes ga = ⊎_elim found (λ (n : HaveNoForm ls bytes). no_form (n next)) (fields_found ls bytes)
  where
    next : Seen ls → List ℕ → Judgement
    next seen rest = end_at rest >>= λ _. all_fit ks (gots ks a) (λ h. all_fit ls seen (λ x. made h x))

    no_form : {r : Judgement} → r ≡ Err Form → Judges (front_text as_it_is p ks m a ++ bytes) r
    no_form e = let P : Judgement → Type 0 = Judges (front_text as_it_is p ks m a ++ bytes) in subst P (sym e) tt

    ended : (b : Values (List ℕ) ls) (rest : List ℕ) → AreGood ls b → bytes ≡ tail_text as_it_is ls b ++ rest → (r : Judgement) → r ≡ (end_at rest >>= λ _. all_fit ks (gots ks a) (λ h. all_fit ls (gots ls b) (λ x. made h x)))
        → Judges (front_text as_it_is p ks m a ++ bytes) r
    ended b (c ∷ rest) gb parts r e = no_form e
    ended b [] gb parts r e =
        let text : line_text as_it_is (shape.written a b) ≡ front_text as_it_is p ks m a ++ bytes = shape.written_text a b ∙ ap (λ (l : List ℕ). front_text as_it_is p ks m a ++ l) (sym (parts ∙ append-nil (tail_text as_it_is ls b))) in
        let P : List ℕ → Judgement → Type 0 = Judges in
        subst (λ (t : List ℕ). P t r) text (subst (λ (q : Judgement). P (line_text as_it_is (shape.written a b)) q) (sym e) (judges_ended p ks m ls made shape a b ga gb))

    found : FoundAll ls bytes → Judges (front_text as_it_is p ks m a ++ bytes) (rest_at ks ls made (gots ks a) bytes)
    found f = ended f.0 f.1 f.2 f.3 (rest_at ks ls made (gots ks a) bytes) (f.4 next)

-- numbers out of range aren't a matter of form
never_form : (ks : List Kind) (seen : Seen ks) (next : reading.Values ks → Judgement) → ((x : reading.Values ks) → next x ≡ Err Form → ⊥) → all_fit ks seen next ≡ Err Form → ⊥
never_form [] seen next never e = never tt e
never_form (k ∷ ks) seen next never e = by (λ x h. never_form ks seen.1 (λ xs. next (x, xs)) (λ xs. never (x, xs)) h) seen.0 e
  where
    by : ((x : Got k) → all_fit ks seen.1 (λ xs. next (x, xs)) ≡ Err Form → ⊥) → (o : Option (Got k)) → (fits o >>= λ x. all_fit ks seen.1 (λ xs. next (x, xs))) ≡ Err Form → ⊥
    by others None e = absurd cc
    by others (Some x) e = others x e

-- a written line of a shape has form
pub rest_has_form : (ks ls : List Kind) (made : reading.Values ks → reading.Values ls → Judgement) (head : Seen ks) (b : Values (List ℕ) ls) → ((h : reading.Values ks) (x : reading.Values ls) → made h x ≡ Err Form → ⊥)
    → AreGood ls b → rest_at ks ls made head (tail_text as_it_is ls b) ≡ Err Form → ⊥
rest_has_form ks ls made head b never gb e =
    let next : Seen ls → List ℕ → Judgement = λ seen rest. end_at rest >>= λ _. all_fit ks head (λ h. all_fit ls seen (λ x. made h x)) in
    let again : fields_at ls (tail_text as_it_is ls b) next ≡ next (gots ls b) [] = ap (λ l. fields_at ls l next) (sym (append-nil (tail_text as_it_is ls b))) ∙ fields_again ls b [] next gb refl in
    never_form ks head (λ h. all_fit ls (gots ls b) (λ x. made h x)) (λ h. never_form ls (gots ls b) (λ x. made h x) (λ x. never h x)) (sym again ∙ e)

-- a line in range is read as what is made of its values
pub rest_again : (ks ls : List Kind) (made : reading.Values ks → reading.Values ls → Judgement) (a : Values (List ℕ) ks) (va : Values ℕ ks) (vb : Values ℕ ls) → AreSized ls → AllFit ks a va → AreInRange ls vb
    → rest_at ks ls made (gots ks a) (tail_text decimal ls vb) ≡ made (froms ks va) (froms ls vb)
rest_again ks ls made a va vb s fa rb =
    let w : WrittenSo ls vb = whole_all ls vb s rb in
    let next : Seen ls → List ℕ → Judgement = λ seen rest. end_at rest >>= λ _. all_fit ks (gots ks a) (λ h. all_fit ls seen (λ x. made h x)) in
    ap (λ (l : List ℕ). fields_at ls l next) (sym w.2 ∙ sym (append-nil (tail_text as_it_is ls w.0)))
    ∙ fields_again ls w.0 [] next w.1 refl
    ∙ fa (λ h. all_fit ls (gots ls w.0) (λ x. made h x))
    ∙ w.3 (λ x. made (froms ks va) x)
