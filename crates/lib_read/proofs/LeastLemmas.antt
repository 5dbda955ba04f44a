-- The least of a list of faults, as passes meet it: part by part, each before the next.
use Rattle.std.proofs.Common.{◌≡◌, ℕ, ◌+◌, ◌<◌, ◌≤◌, Bool, true, false, cond, nat_lt, List, [], ◌∷◌, ◌++◌, map, drop, length, get_or, Option, Some, None, option_map, refl, sym, ap, subst, ◌∙◌, arith}
use Rattle.std.specs.List.{AllByRecursion, best_of, flat_map, enumerate_from}
use Rattle.std.specs.List.Sorted.{IsStrictlySortedBy}
use Rattle.std.specs.Ordering.{nat_cmp, is_lt}
use Rattle.std.specs.declared.cmp.Ordering.TheVariants.{Less, Equal, Greater}
use Rattle.std.proofs.lemmas.Cmp.{nat_list_cmp_total}
use Rattle.std.proofs.lemmas.Bool.{le-ltb}
use Rattle.std.proofs.lemmas.List.{at_drop_more}
use Rattle.std.proofs.lemmas.List.Sums.{fold-append}
use Rattle.lib_read.specs.declared.fault.LibClass.{LibClass}
use Rattle.lib_read.specs.declared.fault.TableName.{TableName}
use Rattle.lib_read.specs.declared.fault.LibFault.{LibFault}
use Rattle.lib_read.specs.declared.fault.Stop.{Stop}
use Rattle.lib_read.specs.declared.fault.Stop.TheVariants.{Memory, Fault as Found}
use Rattle.lib_read.specs.Fault.{class_rank, table_rank, text_cmp, fault_cmp, least}
use Rattle.lib_read.specs.Inner.Passes.{first}
use Rattle.lib_read.specs.Inner.Keys.{fault_view, StopsAt}
use Rattle.lib_read.specs.Faults.{fault}

-- g doesn't come before f
abbrev pub NotBefore : LibFault → LibFault → Type 0
NotBefore f g = is_lt (fault_cmp g f) ≡ false

-- no fault of the second list comes before one of the first
abbrev pub AreBefore : List LibFault → List LibFault → Type 0
AreBefore fs gs = AllByRecursion (λ f. AllByRecursion (NotBefore f) gs) fs

abbrev beats : LibFault → LibFault → Bool
beats a b = is_lt (fault_cmp a b)

best_keeps : (P : LibFault → Type 0) (f : LibFault) (fs : List LibFault) → P f → AllByRecursion P fs → P (best_of beats f fs)
best_keeps P f [] h all = h
best_keeps P f (g ∷ fs) h all = elim (beats g f) as (λ b. P (best_of beats (cond b g f) fs)) [
  | true ↦ best_keeps P g fs all.0 all.1
  | false ↦ best_keeps P f fs h all.1
]

best_stays : (f : LibFault) (fs : List LibFault) → AllByRecursion (NotBefore f) fs → best_of beats f fs ≡ f
best_stays f [] h = refl
best_stays f (g ∷ fs) h = ap (λ b. best_of beats (cond b g f) fs) h.0 ∙ best_stays f fs h.1

-- what holds of each fault holds of the least
pub least_keeps : (P : LibFault → Type 0) (fs : List LibFault) (f : LibFault) → AllByRecursion P fs → Some f ≡ least fs → P f
least_keeps P [] f h e = absurd (cc)
least_keeps P (x ∷ fs) f h e =
    let is : best_of beats x fs ≡ f = cc in
    subst P is (best_keeps P x fs h.0 h.1)

pub least-none : (fs : List LibFault) → None ≡ least fs → fs ≡ []
least-none [] e = refl
least-none (f ∷ fs) e = absurd (cc)

-- a part without faults is passed over, and the least of a part is the least of all where the others come later
pub least-past : (fs gs : List LibFault) → None ≡ least fs → least (fs ++ gs) ≡ least gs
least-past fs gs e = ap (λ l. least (l ++ gs)) (least-none fs e)

pub least-here : (fs gs : List LibFault) (f : LibFault) → AreBefore fs gs → Some f ≡ least fs → least (fs ++ gs) ≡ Some f
least-here [] gs f before e = absurd (cc)
least-here (x ∷ fs) gs f before e =
    let is : best_of beats x fs ≡ f = cc in
    let all = best_keeps (λ g. AllByRecursion (NotBefore g) gs) x fs before.0 before.1 in
    ap Some (fold-append (λ b y. cond (beats y b) y b) x fs gs ∙ best_stays (best_of beats x fs) gs all ∙ is)

-- facts of each fault of a part, and of each of another, that set the first before the second
pub apart : (P Q : LibFault → Type 0) → ((f g : LibFault) → P f → Q g → NotBefore f g) → (fs gs : List LibFault) → AllByRecursion P fs → AllByRecursion Q gs → AreBefore fs gs
apart P Q each [] gs h k = tt
apart P Q each (f ∷ fs) gs h k = (all_after gs k, apart P Q each fs gs h.1 k)
  where
    all_after : (gs : List LibFault) → AllByRecursion Q gs → AllByRecursion (NotBefore f) gs
    all_after [] k = tt
    all_after (g ∷ gs) k = (each f g h.0 k.0, all_after gs k.1)

-- what the order says of two numbers
above : (m n : ℕ) → m < n → nat_cmp n m ≡ Greater
above m n h =
    let no : nat_lt n m ≡ false = le-ltb n m (omega arith) in
    grind (arith, no)

level : (n : ℕ) → nat_cmp n n ≡ Equal
level n = let no : nat_lt n n ≡ false = le-ltb n n (omega arith) in grind (arith, no)

pub later_class : (f g : LibFault) → class_rank f.class < class_rank g.class → NotBefore f g
later_class f g h = rw (above (class_rank f.class) (class_rank g.class) h)

pub later_table : (f g : LibFault) → g.class ≡ f.class → table_rank f.table < table_rank g.table → NotBefore f g
later_table f g same h = rw (same, level (class_rank f.class), above (table_rank f.table) (table_rank g.table) h)

pub later_position : (f g : LibFault) → g.class ≡ f.class → g.table ≡ f.table → f.position < g.position → NotBefore f g
later_position f g same table h = rw (same, table, level (class_rank f.class), level (table_rank f.table), above f.position g.position h)

later_key : (c : LibClass) (t : TableName) (n : ℕ) (k l : List ℕ) → text_cmp k l ≡ Less → NotBefore (fault c t n k) (fault c t n l)
later_key c t n k l h =
    let over : text_cmp l k ≡ Greater = nat_list_cmp_total.antisymm l k ∙ rw h in
    rw (level (class_rank c), level (table_rank t), level n, over)

-- a row's faults of a class stand as its keys do
keys_after : (c : LibClass) (t : TableName) (n : ℕ) (k : List ℕ) (ks : List (List ℕ)) → AllByRecursion (λ l. text_cmp k l ≡ Less) ks → AllByRecursion (NotBefore (fault c t n k)) (map (fault c t n) ks)
keys_after c t n k [] h = tt
keys_after c t n k (l ∷ ks) h = (later_key c t n k l h.0, keys_after c t n k ks h.1)

pub least-row : (c : LibClass) (t : TableName) (n : ℕ) (ks : List (List ℕ)) → IsStrictlySortedBy text_cmp ks → least (map (fault c t n) ks) ≡ option_map (fault c t n) (first ks)
unfolding IsStrictlySortedBy
least-row c t n [] h = refl
least-row c t n (k ∷ ks) h = ap Some (best_stays (fault c t n k) (map (fault c t n) ks) (keys_after c t n k ks h.0))

-- the faults of a row, of a table from a position on, of a class from a table on, up to a class, and from a class on
pub record InRow (c : LibClass) (t : TableName) (n : ℕ) (f : LibFault) : Type 0 where
  pub class : f.class ≡ c
  pub table : f.table ≡ t
  pub position : f.position ≡ n

pub record InTable (c : LibClass) (t : TableName) (n : ℕ) (f : LibFault) : Type 0 where
  pub class : f.class ≡ c
  pub table : f.table ≡ t
  pub position : n ≤ f.position

pub record InTables (c : LibClass) (n : ℕ) (f : LibFault) : Type 0 where
  pub class : f.class ≡ c
  pub table : n ≤ table_rank f.table

abbrev pub UpTo : ℕ → LibFault → Type 0
UpTo n f = class_rank f.class ≤ n

abbrev pub From : ℕ → LibFault → Type 0
From n f = n ≤ class_rank f.class

row_then_table : (c : LibClass) (t : TableName) (n : ℕ) (f g : LibFault) → InRow c t n f → InTable c t (n + 1) g → NotBefore f g
row_then_table c t n f g a b = later_position f g (b.class ∙ sym a.class) (b.table ∙ sym a.table) (omega (arith, a.position, b.position))

row_then_tables : (c : LibClass) (t : TableName) (n : ℕ) (f g : LibFault) → InRow c t n f → InTables c (table_rank t + 1) g → NotBefore f g
row_then_tables c t n f g a b = later_table f g (b.class ∙ sym a.class) (omega (arith, ap table_rank a.table, b.table))

table_then_tables : (c : LibClass) (t : TableName) (n : ℕ) (f g : LibFault) → InTable c t n f → InTables c (table_rank t + 1) g → NotBefore f g
table_then_tables c t n f g a b = later_table f g (b.class ∙ sym a.class) (omega (arith, ap table_rank a.table, b.table))

pub all_weaker : {X : Type 0} (P Q : X → Type 0) → ((x : X) → P x → Q x) → (xs : List X) → AllByRecursion P xs → AllByRecursion Q xs
all_weaker P Q each [] h = tt
all_weaker P Q each (x ∷ xs) h = (each x h.0, all_weaker P Q each xs h.1)

pub all_both : {X : Type 0} (P : X → Type 0) (xs ys : List X) → AllByRecursion P xs → AllByRecursion P ys → AllByRecursion P (xs ++ ys)
all_both P [] ys h k = k
all_both P (x ∷ xs) ys h k = (h.0, all_both P xs ys h.1 k)

pub row_faults_in : (c : LibClass) (t : TableName) (n : ℕ) (ks : List (List ℕ)) → AllByRecursion (InRow c t n) (map (fault c t n) ks)
row_faults_in c t n [] = tt
row_faults_in c t n (k ∷ ks) = (record { class = refl; table = refl; position = refl }, row_faults_in c t n ks)

-- the faults of a table's rows, from a position on, where each row has its own
module _ {X : Type 0} (c : LibClass) (t : TableName) (f : ℕ × X → List LibFault) (own : (p : ℕ × X) → AllByRecursion (InRow c t p.0) (f p)) where
  pub rest_in : (n : ℕ) (xs : List X) → AllByRecursion (InTable c t n) (flat_map f (enumerate_from n xs))
  rest_in n [] = tt
  rest_in n (x ∷ xs) =
      all_both (InTable c t n) (f (n, x)) (flat_map f (enumerate_from (n + 1) xs))
      (all_weaker (InRow c t n) (InTable c t n) (λ g h. record { class = h.class; table = h.table; position = omega (arith, h.position) }) (f (n, x)) (own (n, x)))
      (all_weaker (InTable c t (n + 1)) (InTable c t n) (λ g h. record { class = h.class; table = h.table; position = omega (arith, h.position) }) (flat_map f (enumerate_from (n + 1) xs)) (rest_in (n + 1) xs))

  row_before : (n : ℕ) (x : X) (xs : List X) → AreBefore (f (n, x)) (flat_map f (enumerate_from (n + 1) xs))
  row_before n x xs = apart (InRow c t n) (InTable c t (n + 1)) (row_then_table c t n) (f (n, x)) (flat_map f (enumerate_from (n + 1) xs)) (own (n, x)) (rest_in (n + 1) xs)

  -- one turn of a loop over numbered items, each seen through a view
  module _ {V : Type 0} (view : V → X) where
    pub turn_past : (vs : List V) (n i : ℕ) (d : V) (all : Option LibFault) → i < length vs → None ≡ least (f (n, view (get_or vs i d)))
        → least (flat_map f (enumerate_from n (map view (drop i vs)))) ≡ all
        → least (flat_map f (enumerate_from (n + 1) (map view (drop (i + 1) vs)))) ≡ all
    turn_past vs n i d all here none before =
        sym (least-past (f (n, view (get_or vs i d))) (flat_map f (enumerate_from (n + 1) (map view (drop (i + 1) vs)))) none)
        ∙ sym (at_drop_more (λ l. least (flat_map f (enumerate_from n (map view l)))) vs i d here)
        ∙ before

    pub turn_here : (vs : List V) (n i : ℕ) (d : V) (all : Option LibFault) (y : LibFault) → i < length vs → Some y ≡ least (f (n, view (get_or vs i d)))
        → least (flat_map f (enumerate_from n (map view (drop i vs)))) ≡ all
        → Some y ≡ all
    turn_here vs n i d all y here some before =
        sym (least-here (f (n, view (get_or vs i d))) (flat_map f (enumerate_from (n + 1) (map view (drop (i + 1) vs)))) y (row_before n (view (get_or vs i d)) (map view (drop (i + 1) vs))) some)
        ∙ sym (at_drop_more (λ l. least (flat_map f (enumerate_from n (map view l)))) vs i d here)
        ∙ before

-- parts of the faults of one class, by tables
pub row_before_tables : (c : LibClass) (t : TableName) (n : ℕ) (fs gs : List LibFault) → AllByRecursion (InRow c t n) fs → AllByRecursion (InTables c (table_rank t + 1)) gs → AreBefore fs gs
row_before_tables c t n = apart (InRow c t n) (InTables c (table_rank t + 1)) (row_then_tables c t n)

pub table_before_tables : (c : LibClass) (t : TableName) (n : ℕ) (fs gs : List LibFault) → AllByRecursion (InTable c t n) fs → AllByRecursion (InTables c (table_rank t + 1)) gs → AreBefore fs gs
table_before_tables c t n = apart (InTable c t n) (InTables c (table_rank t + 1)) (table_then_tables c t n)

-- parts by classes
pub classes_apart : (n : ℕ) (fs gs : List LibFault) → AllByRecursion (UpTo n) fs → AllByRecursion (From (n + 1)) gs → AreBefore fs gs
classes_apart n = apart (UpTo n) (From (n + 1)) (λ f g a b. later_class f g (omega (arith, a, b)))

-- where a reading stops at the least fault of a part, it does so for the whole, once the parts before are clear
pub stops_here : (fs gs : List LibFault) (s : Stop) → AreBefore fs gs → StopsAt (least fs) s → StopsAt (least (fs ++ gs)) s
stops_here fs gs Memory before h = tt
stops_here fs gs (Found f) before h = sym (least-here fs gs (fault_view f) before h)

pub stops_past : (fs gs : List LibFault) (s : Stop) → fs ≡ [] → StopsAt (least gs) s → StopsAt (least (fs ++ gs)) s
stops_past fs gs s none h = subst (λ l. StopsAt (least (l ++ gs)) s) (sym none) h
