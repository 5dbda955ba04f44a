-- What reading a line answers is the line, or the first rule that it breaks.
use Rattle.std.proofs.Common.{◌≡◌, ℕ, ◌≤◌, ◌<◌, true, ltb, List, length, refl, sym, ap, subst, ◌∙◌, arith, ⊎_elim}
use Rattle.std.specs.Prelude.{Ok, Err}
use Rattle.std.proofs.lemmas.Bool.{cases_lt, le-ltb}
use Rattle.proof_log.specs.declared.log_line.TheConstants.{LINE_BYTES}
use Rattle.proof_log.specs.declared.log_line.LineFault.{LineFault}
use Rattle.proof_log.specs.declared.log_line.LineFault.TheVariants.{Form, Number, Order, TooLong}
use Rattle.proof_log.specs.Line.{Line}
use Rattle.proof_log.specs.Fault.{IsInRange, ListsAscend, HasForm, HasNumbers, HasOrder, BreaksNone, LineBreaksFirst}
use Rattle.proof_log.specs.Value.{text_of}
use Rattle.proof_log.specs.Inner.Reading.{whole_line_at, line_of}
use Rattle.proof_log.proofs.Shapes.{Judgement, Judges}
use Rattle.proof_log.proofs.WholeLines.{whole_judges, whole_has_form, whole_again}

long_line : (bytes : List ℕ) → LINE_BYTES < length bytes → line_of bytes ≡ Err TooLong
unfolding line_of
long_line bytes h = let e : ltb LINE_BYTES (length bytes) ≡ true = grind arith in rw e refl

short_line : (bytes : List ℕ) → length bytes ≤ LINE_BYTES → line_of bytes ≡ whole_line_at bytes
unfolding line_of
short_line bytes h = rw (le-ltb LINE_BYTES (length bytes) h) refl

judged : (bytes : List ℕ) (r : Judgement) → whole_line_at bytes ≡ r → Judges bytes r
judged bytes r e = let P : Judgement → Type 0 = Judges bytes in subst P e (whole_judges bytes)

-- an answer of the judgement's type
abbrev ok : Line ℕ → Judgement
ok line = Ok line

abbrev err : LineFault → Judgement
err f = Err f

no_line : {f : LineFault} (line : Line ℕ) (r : Judgement) → r ≡ Err f → r ≡ Ok line → ⊥
no_line {f} line r e o = let h : err f ≡ ok line = sym e ∙ o in cc

-- a line that is read is in range, its lists ascend, and its text is what was read
pub read_is : (bytes : List ℕ) (line : Line ℕ) → line_of bytes ≡ Ok line → (length bytes ≤ LINE_BYTES) × IsInRange line × ListsAscend line × (bytes ≡ text_of line)
read_is bytes line e = ⊎_elim (λ (h : LINE_BYTES < length bytes). absurd (no_line line (line_of bytes) (long_line bytes h) e)) short (cases_lt LINE_BYTES (length bytes))
  where
    short : length bytes ≤ LINE_BYTES → (length bytes ≤ LINE_BYTES) × IsInRange line × ListsAscend line × (bytes ≡ text_of line)
    short h = let j : Judges bytes (Ok line) = judged bytes (Ok line) (sym (short_line bytes h) ∙ e) in (h, j.1, j.2, j.3)

pub read_breaks_none : (bytes : List ℕ) (line : Line ℕ) → line_of bytes ≡ Ok line → BreaksNone bytes
read_breaks_none bytes line e = let t = read_is bytes line e in (t.0, (line, t.1, t.2, t.3))

-- a line in range whose lists ascend is read from its text
pub read_again : (bytes : List ℕ) (line : Line ℕ) → length bytes ≤ LINE_BYTES → IsInRange line → ListsAscend line → bytes ≡ text_of line → line_of bytes ≡ Ok line
read_again bytes line h r up parts = short_line bytes h ∙ ap whole_line_at parts ∙ ⊎_elim (λ (o : (whole_line_at (text_of line) ≡ Ok line) × ListsAscend line). o.0) (λ (o : (whole_line_at (text_of line) ≡ Err Order) × (ListsAscend line → ⊥)). absurd (o.1 up)) (whole_again line r)

apart : (f g : LineFault) (r : Judgement) → r ≡ Err f → r ≡ Err g → f ≡ g
apart f g r a b = let h : err f ≡ err g = sym a ∙ b in cc

whole_fault : (bytes : List ℕ) (f : LineFault) → length bytes ≤ LINE_BYTES → whole_line_at bytes ≡ Err f → LineBreaksFirst bytes f
whole_fault bytes TooLong h e = absurd (judged bytes (Err TooLong) e)
whole_fault bytes Form h e = (h, λ w. whole_has_form w.0 w.1 (ap whole_line_at (sym w.2) ∙ e))
whole_fault bytes Number h e = (
  h,
  judged bytes (Err Number) e,
  λ x. ⊎_elim
      (λ (o : (whole_line_at (text_of x.0) ≡ Ok x.0) × ListsAscend x.0). no_line x.0 (whole_line_at bytes) e (ap whole_line_at x.2 ∙ o.0))
      (λ (o : (whole_line_at (text_of x.0) ≡ Err Order) × (ListsAscend x.0 → ⊥)). let d : Number ≡ Order = apart Number Order (whole_line_at bytes) e (ap whole_line_at x.2 ∙ o.0) in cc)
      (whole_again x.0 x.1),
)
whole_fault bytes Order h e = (
  h,
  (judged bytes (Err Order) e).1,
  λ x. ⊎_elim
      (λ (o : (whole_line_at (text_of x.0) ≡ Ok x.0) × ListsAscend x.0). no_line x.0 (whole_line_at bytes) e (ap whole_line_at x.3 ∙ o.0))
      (λ (o : (whole_line_at (text_of x.0) ≡ Err Order) × (ListsAscend x.0 → ⊥)). o.1 x.2)
      (whole_again x.0 x.1),
)

-- a fault is the first rule that is broken
pub fault_is_first : (bytes : List ℕ) (f : LineFault) → line_of bytes ≡ Err f → LineBreaksFirst bytes f
fault_is_first bytes f e = ⊎_elim long (λ (h : length bytes ≤ LINE_BYTES). whole_fault bytes f h (sym (short_line bytes h) ∙ e)) (cases_lt LINE_BYTES (length bytes))
  where
    long : LINE_BYTES < length bytes → LineBreaksFirst bytes f
    long h = let d : TooLong ≡ f = apart TooLong f (line_of bytes) (long_line bytes h) e in let P : LineFault → Type 0 = LineBreaksFirst bytes in subst P d h

-- ---- no rule or one

in_range_has_form : (x : Line ℕ) → IsInRange x → HasForm (text_of x)
in_range_has_form x r = ⊎_elim
    (λ (o : (whole_line_at (text_of x) ≡ Ok x) × ListsAscend x). let j : Judges (text_of x) (Ok x) = judged (text_of x) (Ok x) o.0 in j.0)
    (λ (o : (whole_line_at (text_of x) ≡ Err Order) × (ListsAscend x → ⊥)). let j : Judges (text_of x) (Err Order) = judged (text_of x) (Err Order) o.0 in j.0)
    (whole_again x r)

numbers_have_form : (bytes : List ℕ) → HasNumbers bytes → HasForm bytes
numbers_have_form bytes x = let P : List ℕ → Type 0 = HasForm in subst P (sym x.2) (in_range_has_form x.0 x.1)

order_has_numbers : (bytes : List ℕ) → HasOrder bytes → HasNumbers bytes
order_has_numbers bytes x = (x.0, x.1, x.3)

pub one_first : (bytes : List ℕ) (f g : LineFault) → LineBreaksFirst bytes f → LineBreaksFirst bytes g → f ≡ g
one_first bytes TooLong TooLong a b = refl
one_first bytes TooLong Form a b = absurd (omega (arith, a, b.0))
one_first bytes TooLong Number a b = absurd (omega (arith, a, b.0))
one_first bytes TooLong Order a b = absurd (omega (arith, a, b.0))
one_first bytes Form TooLong a b = absurd (omega (arith, b, a.0))
one_first bytes Form Form a b = refl
one_first bytes Form Number a b = absurd (a.1 b.1)
one_first bytes Form Order a b = absurd (a.1 (numbers_have_form bytes b.1))
one_first bytes Number TooLong a b = absurd (omega (arith, b, a.0))
one_first bytes Number Form a b = absurd (b.1 a.1)
one_first bytes Number Number a b = refl
one_first bytes Number Order a b = absurd (a.2 b.1)
one_first bytes Order TooLong a b = absurd (omega (arith, b, a.0))
one_first bytes Order Form a b = absurd (b.1 (numbers_have_form bytes a.1))
one_first bytes Order Number a b = absurd (b.2 a.1)
one_first bytes Order Order a b = refl

pub none_or_first : (bytes : List ℕ) (f : LineFault) → BreaksNone bytes → LineBreaksFirst bytes f → ⊥
none_or_first bytes TooLong n b = omega (arith, b, n.0)
none_or_first bytes Form n b = b.1 (numbers_have_form bytes (order_has_numbers bytes n.1))
none_or_first bytes Number n b = b.2 (order_has_numbers bytes n.1)
none_or_first bytes Order n b = b.2 n.1

pub none_unless_first : (bytes : List ℕ) → ((f : LineFault) → LineBreaksFirst bytes f → ⊥) → BreaksNone bytes
none_unless_first bytes never = by (line_of bytes) refl
  where
    by : (r : Judgement) → line_of bytes ≡ r → BreaksNone bytes
    by (Ok line) e = read_breaks_none bytes line e
    by (Err f) e = absurd (never f (fault_is_first bytes f e))

-- each line has one spelling
pub one_spelling : (x y : Line ℕ) → IsInRange x → ListsAscend x → IsInRange y → ListsAscend y → text_of x ≡ text_of y → x ≡ y
one_spelling x y rx ux ry uy same =
    let a = ⊎_elim (λ (o : (whole_line_at (text_of x) ≡ Ok x) × ListsAscend x). o.0) (λ (o : (whole_line_at (text_of x) ≡ Err Order) × (ListsAscend x → ⊥)). absurd (o.1 ux)) (whole_again x rx) in
    let b = ⊎_elim (λ (o : (whole_line_at (text_of y) ≡ Ok y) × ListsAscend y). o.0) (λ (o : (whole_line_at (text_of y) ≡ Err Order) × (ListsAscend y → ⊥)). absurd (o.1 uy)) (whole_again y ry) in
    let h : whole_line_at (text_of x) ≡ Ok y = ap whole_line_at same ∙ b in
    first x y (whole_line_at (text_of x)) a h
  where
    first : (x y : Line ℕ) (r : Judgement) → r ≡ Ok x → r ≡ Ok y → x ≡ y
    first x y r a b = let h : ok x ≡ ok y = sym a ∙ b in cc
