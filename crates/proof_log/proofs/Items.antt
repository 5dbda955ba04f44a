-- Items that are read one after another, as a loop reads them.
use Rattle.std.proofs.Common.{◌≡◌, Bool, true, false, ◌&&◌, ℕ, suc, ◌+◌, ◌-◌, ◌≤◌, ◌<◌, List, [], ◌∷◌, ◌++◌, map, codes, Option, Some, None, option_map, Ok, Err, refl, sym, ap, ◌∙◌, append_assoc, arith}
use Rattle.proof_log.specs.declared.log_line.LineFault.TheVariants.{Form}
use Rattle.proof_log.specs.declared.log_line.LineError.{LineError}
use Rattle.proof_log.specs.declared.log_line.LineError.TheVariants as errors
use Rattle.proof_log.specs.Inner.Reading.{◌>>=◌, Fails, Read, after, both, in_front, pushed, items_at, folded_at, number_at, with_number, set_of, set_read, ascend_from}
use Rattle.arch_model.specs.Set.{Set, empty, put}
use Rattle.std.specs.Prelude.{nat_le}
use Rattle.std.proofs.lemmas.List.{append-nil, map_push}

-- what is made of the rest of the items by a loop that has a state; one item more goes into the state
pub record Steps {A B S : Type 0} (run : S → Option (List A) → Option B) (step : S → Option A → S) : Type 0 where
  pub one : (s : S) (x : Option A) (xs : Option (List A)) → run s (in_front x xs) ≡ run (step s x) xs

abbrev pub left : {A B S : Type 0} → (S → Option (List A) → Option B) → (List ℕ → Read (Option A)) → S → ℕ → List ℕ → Read (Option B)
left run item s room bytes = folded_at item (run s) room bytes

comma_some : {A B S : Type 0} (run : S → Option (List A) → Option B) (step : S → Option A → S) → Steps run step → (s : S) (x : Option A) (rest : Read (Option (List A)))
    → ◌>>=◌ {A = Option (List A) × List ℕ} {B = Option B × List ℕ} (◌>>=◌ {A = Option (List A) × List ℕ} {B = Option (List A) × List ℕ} rest (λ y. Ok (in_front x y.0, y.1))) (λ y. Ok (run s y.0, y.1)) ≡ (rest >>= λ y. Ok (run (step s x) y.0, y.1))
comma_some run step steps s x (Ok y) = ap (λ o. Ok (o, y.1)) (steps.one s x y.0)
comma_some run step steps s x (Err e) = refl

-- a comma stands behind an item: the loop goes on
pub goes_on : {A B S : Type 0} (run : S → Option (List A) → Option B) (step : S → Option A → S) → Steps run step → (item : List ℕ → Read (Option A)) (count i : ℕ) (s : S) (bytes behind next : List ℕ) (x : Option A) (total : Read (Option B))
    → i < count → item bytes ≡ Ok (x, behind) → after (codes ",") behind ≡ Some next → left run item s (count - i) bytes ≡ total → left run item (step s x) (count - (i + 1)) next ≡ total
unfolding items_at
goes_on run step steps item count i s bytes behind next x total lt read comma so_far =
    let k : count - i ≡ suc (count - (i + 1)) = omega arith in
    let one : left run item s (count - i) bytes ≡ left run item (step s x) (count - (i + 1)) next = rw (k, read, comma) (comma_some run step steps s x (items_at item (count - (i + 1)) next)) in
    sym one ∙ so_far

-- no comma stands behind an item: it was the last
pub is_last : {A B S : Type 0} (run : S → Option (List A) → Option B) (step : S → Option A → S) → Steps run step → (item : List ℕ → Read (Option A)) (count i : ℕ) (s : S) (bytes behind : List ℕ) (x : Option A) (total : Read (Option B))
    → i < count → item bytes ≡ Ok (x, behind) → after (codes ",") behind ≡ None → left run item s (count - i) bytes ≡ total → total ≡ Ok (run (step s x) (Some []), behind)
unfolding items_at
is_last run step steps item count i s bytes behind x total lt read comma so_far =
    let k : count - i ≡ suc (count - (i + 1)) = omega arith in
    let one : left run item s (count - i) bytes ≡ Ok (run (step s x) (Some []), behind) = rw (k, read, comma) (ap (λ o. Ok (o, behind)) (steps.one s x (Some []))) in
    sym so_far ∙ one

-- an item can't be read
pub fails_at : {A B S : Type 0} (run : S → Option (List A) → Option B) (item : List ℕ → Read (Option A)) (e : LineError) (count i : ℕ) (s : S) (bytes : List ℕ) (total : Read (Option B))
    → i < count → Fails e (item bytes) → left run item s (count - i) bytes ≡ total → Fails e total
unfolding items_at
fails_at run item errors.Memory count i s bytes total lt f so_far = tt
fails_at run item (errors.Fault f) count i s bytes total lt read so_far =
    let k : count - i ≡ suc (count - (i + 1)) = omega arith in
    let one : left run item s (count - i) bytes ≡ Err f = rw (k, read) refl in
    sym so_far ∙ one

-- no room is left
pub no_room : {A B S : Type 0} (run : S → Option (List A) → Option B) (item : List ℕ → Read (Option A)) (count i : ℕ) (s : S) (bytes : List ℕ) (total : Read (Option B))
    → count ≤ i → left run item s (count - i) bytes ≡ total → total ≡ Err Form
unfolding items_at
no_room run item count i s bytes total le so_far =
    let k : count - i ≡ 0 = omega arith in
    let one : left run item s (count - i) bytes ≡ Err Form = rw k refl in
    sym so_far ∙ one

-- ---- lists that grow

abbrev pub joined : {A : Type 0} → Option (List A) → Option (List A) → Option (List A)
joined s xs = option_map (λ p. p.0 ++ p.1) (both s xs)

pub joined_steps : {A : Type 0} → Steps {A = A} joined pushed
joined_steps = record { one = one_joined }
  where
    one_joined : {A : Type 0} (s : Option (List A)) (x : Option A) (xs : Option (List A)) → joined s (in_front x xs) ≡ joined (pushed s x) xs
    one_joined None x xs = refl
    one_joined (Some s) None xs = refl
    one_joined (Some s) (Some x) None = refl
    one_joined (Some s) (Some x) (Some xs) = ap (λ l. Some l) (sym (append_assoc s (x ∷ []) xs))

joined_none : {A : Type 0} (xs : Option (List A)) → joined (Some []) xs ≡ xs
joined_none None = refl
joined_none (Some xs) = refl

starts_by : {A : Type 0} (r : Read (Option (List A))) → (r >>= λ x. Ok (joined (Some []) x.0, x.1)) ≡ r
starts_by (Ok x) = ap (λ o. Ok (o, x.1)) (joined_none x.0)
starts_by (Err e) = refl

pub starts : {A : Type 0} (item : List ℕ → Read (Option A)) (room : ℕ) (bytes : List ℕ) → left joined item (Some []) room bytes ≡ items_at item room bytes
starts item room bytes = starts_by (items_at item room bytes)

pub joined_last : {A : Type 0} (s : Option (List A)) → joined s (Some []) ≡ s
joined_last None = refl
joined_last (Some s) = ap (λ l. Some l) (append-nil s)

-- what is pushed, seen through f
pub pushed_seen : {A B V : Type 0} (f : A → B) (items : V → List A) (s r : Option V) (x : Option A) → option_map items r ≡ pushed (option_map items s) x
    → option_map (λ v. map f (items v)) r ≡ pushed (option_map (λ v. map f (items v)) s) (option_map f x)
pushed_seen {A = A} f items s r x e = twice f items r ∙ ap (λ (o : Option (List A)). option_map (map f) o) e ∙ seen f (option_map items s) x ∙ ap (λ o. pushed o (option_map f x)) (sym (twice f items s))
  where
    twice : {A B V : Type 0} (f : A → B) (items : V → List A) (o : Option V) → option_map (λ v. map f (items v)) o ≡ option_map (map f) (option_map items o)
    twice f items None = refl
    twice f items (Some v) = refl

    seen : {A B : Type 0} (f : A → B) (s : Option (List A)) (x : Option A) → option_map (map f) (pushed s x) ≡ pushed (option_map (map f) s) (option_map f x)
    seen f None x = refl
    seen f (Some s) None = refl
    seen f (Some s) (Some x) = ap (λ l. Some l) (map_push f s x)

-- ---- sets that grow

abbrev pub added : Option (Set × ℕ × Bool) → Option (List ℕ) → Option (Set × Bool)
added s ns = option_map (λ p. (set_of p.0.0 p.1, p.0.2 && ascend_from p.0.1 p.1)) (both s ns)

and_assoc : (a b c : Bool) → (a && (b && c)) ≡ ((a && b) && c)
and_assoc true b c = refl
and_assoc false b c = refl

and_true : (a : Bool) → (a && true) ≡ a
and_true true = refl
and_true false = refl

pub added_steps : Steps added with_number
added_steps = record { one = one_added }
  where
    one_added : (s : Option (Set × ℕ × Bool)) (x : Option ℕ) (xs : Option (List ℕ)) → added s (in_front x xs) ≡ added (with_number s x) xs
    one_added None x xs = refl
    one_added (Some s) None xs = refl
    one_added (Some s) (Some x) None = refl
    one_added (Some s) (Some x) (Some xs) = ap (λ b. Some (set_of (put s.0 x) xs, b)) (and_assoc s.2 (nat_le s.1 x) (ascend_from (x + 1) xs))

added_none : (ns : Option (List ℕ)) → added (Some (empty, 0, true)) ns ≡ option_map set_read ns
added_none None = refl
added_none (Some ns) = refl

pub set_starts : (limit room : ℕ) (bytes : List ℕ) → left added (number_at 0 limit) (Some (empty, 0, true)) room bytes ≡ folded_at (number_at 0 limit) (option_map set_read) room bytes
set_starts limit room bytes = by (items_at (number_at 0 limit) room bytes)
  where
    by : (r : Read (Option (List ℕ))) → ◌>>=◌ {A = Option (List ℕ) × List ℕ} {B = Option (Set × Bool) × List ℕ} r (λ x. Ok (added (Some (empty, 0, true)) x.0, x.1)) ≡ (r >>= λ x. Ok (option_map set_read x.0, x.1))
    by (Ok x) = ap (λ o. Ok (o, x.1)) (added_none x.0)
    by (Err e) = refl

pub set_last : (s : Option (Set × ℕ × Bool)) → added s (Some []) ≡ option_map (λ p. (p.0, p.2)) s
set_last None = refl
set_last (Some s) = ap (λ b. Some (s.0, b)) (and_true s.2)

pub set_begins : (limit room all : ℕ) (bytes : List ℕ) (s : Set) → s ≡ empty → room ≡ all → left added (number_at 0 limit) (Some (s, 0, true)) room bytes ≡ folded_at (number_at 0 limit) (option_map set_read) all bytes
set_begins limit room all bytes s e r = ap (λ (t : Set). left added (number_at 0 limit) (Some (t, 0, true)) room bytes) e ∙ set_starts limit room bytes ∙ ap (λ k. folded_at (number_at 0 limit) (option_map set_read) k bytes) r
