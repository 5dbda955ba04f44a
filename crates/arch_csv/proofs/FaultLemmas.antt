-- Faults of records, one record after the other.
use Rattle.std.proofs.Common.{◌≡◌, ◌+◌, ◌<◌, ℕ, zero, suc, List, [], ◌∷◌, ◌++◌, length, get_or, Option, Some, None, Ok, Err, option_map, refl, sym, ap, ◌∙◌, arith, append_assoc}
use Rattle.std.specs.List.{enumerate_from, filter_map, fold}
use Rattle.std.specs.Option.{option_to_list}
use Rattle.std.specs.Result.{result_ok}
use Rattle.std.proofs.lemmas.List.{append-nil}
use Rattle.std.proofs.lemmas.List.Elements.{filter_map-append}
use Rattle.std.proofs.lemmas.List.Sums.{fold-append}
use Rattle.arch_model.specs.Parts.{LibraryParts}
use Rattle.arch_model.specs.declared.sets.EdgeId.{EdgeId}
use Rattle.arch_csv.specs.declared.fault.ArchClass.{ArchClass}
use Rattle.arch_csv.specs.declared.fault.ArchFault.{ArchFault}
use Rattle.arch_csv.specs.declared.item.Item.{Item}
use Rattle.arch_csv.specs.Records.{Record, item_of}
use Rattle.arch_csv.specs.ArchitectureOf.{architecture_of_records, edge_only, edge_records, fault_after, fault_at, faults_after, items_of, members_of, missing_ends, no_record, nothing, unless_faulty, with_item}

-- the faults of some records and of those that follow them
pub faults-append : (lib : LibraryParts) (earlier xs ys : List Record) → faults_after lib earlier (xs ++ ys) ≡ faults_after lib earlier xs ++ faults_after lib (earlier ++ xs) ys
unfolding faults_after
faults-append lib earlier [] ys = ap (λ rows. faults_after lib rows ys) (sym (append-nil earlier))
faults-append lib earlier (x ∷ xs) ys =
    let one = option_to_list (option_map (fault_at (length earlier + 1)) (fault_after lib earlier x)) in
    ap (λ more. one ++ more) (faults-append lib (earlier ++ x ∷ []) xs ys ∙ ap (λ rows. faults_after lib (earlier ++ x ∷ []) xs ++ faults_after lib rows ys) (append_assoc earlier (x ∷ []) xs))
    ∙ sym (append_assoc one (faults_after lib (earlier ++ x ∷ []) xs) (faults_after lib (earlier ++ x ∷ xs) ys))

-- a record without a fault, after others without one
pub clear_more : (lib : LibraryParts) (rows : List Record) (row : Record) → faults_after lib [] rows ≡ [] → fault_after lib rows row ≡ None → faults_after lib [] (rows ++ row ∷ []) ≡ []
unfolding faults_after
clear_more lib rows row clear none = faults-append lib [] rows (row ∷ []) ∙ rw (clear, none) refl

no_record-append : (rows : List Record) (row : Record) (more : List Record) → no_record ((rows ++ row ∷ []) ++ more) ≡ []
no_record-append [] row more = refl
no_record-append (x ∷ rows) row more = refl

-- a record at fault, after others without one
pub stops_there : (lib : LibraryParts) (rows : List Record) (row : Record) (more : List Record) (class : ArchClass) → faults_after lib [] rows ≡ [] → fault_after lib rows row ≡ Some class
    → architecture_of_records lib ((rows ++ row ∷ []) ++ more) ≡ Err (fault_at (length rows + 1) class)
unfolding faults_after architecture_of_records
stops_there lib rows row more class clear is =
    let later = faults_after lib (rows ++ row ∷ []) more in
    let front : faults_after lib [] (rows ++ row ∷ []) ≡ fault_at (length rows + 1) class ∷ [] = faults-append lib [] rows (row ∷ []) ∙ rw (clear, is) refl in
    let faults : faults_after lib [] ((rows ++ row ∷ []) ++ more) ≡ fault_at (length rows + 1) class ∷ later =
    faults-append lib [] (rows ++ row ∷ []) more ∙ ap (λ (fs : List ArchFault). fs ++ later) front in
    let whole = (rows ++ row ∷ []) ++ more in
    ap (λ (fs : List ArchFault). unless_faulty (members_of lib whole) (fs ++ (faults_after lib [] whole ++ missing_ends lib whole))) (no_record-append rows row more)
    ∙ ap (λ (fs : List ArchFault). unless_faulty (members_of lib whole) (fs ++ missing_ends lib whole)) faults

-- what is left of one more record
items-more : (lib : LibraryParts) (rows : List Record) (row : Record) → items_of lib (rows ++ row ∷ []) ≡ items_of lib rows ++ option_to_list (result_ok (item_of lib row))
items-more lib rows row = filter_map-append (λ (r : Record). result_ok (item_of lib r)) rows (row ∷ []) ∙ ap (λ more. items_of lib rows ++ more) (alone (result_ok (item_of lib row)))
  where
    alone : (o : Option Item) → filter_map {X = Option Item} (λ x. x) (o ∷ []) ≡ option_to_list o
    alone None = refl
    alone (Some x) = refl

-- the members of the records with one more
pub members_more : (lib : LibraryParts) (rows : List Record) (row : Record) (item : Item) → item_of lib row ≡ Ok item → members_of lib (rows ++ row ∷ []) ≡ with_item (members_of lib rows) item
unfolding members_of
members_more lib rows row item is =
    ap (fold with_item nothing) (items-more lib rows row ∙ ap (λ r. items_of lib rows ++ option_to_list (result_ok r)) is)
    ∙ fold-append with_item nothing (items_of lib rows) (item ∷ [])

pub members_same : (lib : LibraryParts) (rows : List Record) (row : Record) (class : ArchClass) → item_of lib row ≡ Err class → members_of lib (rows ++ row ∷ []) ≡ members_of lib rows
unfolding members_of
members_same lib rows row class is =
    ap (fold with_item nothing) (items-more lib rows row ∙ ap (λ r. items_of lib rows ++ option_to_list (result_ok r)) is ∙ append-nil (items_of lib rows))

enumerate-append : {X : Type 0} (n : ℕ) (xs : List X) (x : X) → enumerate_from n (xs ++ x ∷ []) ≡ enumerate_from n xs ++ (length xs + n, x) ∷ []
enumerate-append n [] x = ap (λ k. (k, x) ∷ []) (omega arith)
enumerate-append n (y ∷ xs) x =
    ap (λ more. (n, y) ∷ more) (enumerate-append (n + 1) xs x ∙ ap (λ k. enumerate_from (n + 1) xs ++ (k, x) ∷ []) (omega arith))

-- the edges that the records name, with one record more
pub edges_more : (lib : LibraryParts) (rows : List Record) (row : Record) → edge_records lib (rows ++ row ∷ []) ≡ edge_records lib rows ++ option_to_list (edge_only (length rows + 1) (item_of lib row))
unfolding edge_records
edges_more lib rows row =
    let named = λ (p : ℕ × Record). edge_only p.0 (item_of lib p.1) in
    ap (filter_map named) (enumerate-append 1 rows row) ∙ filter_map-append named (enumerate_from 1 rows) ((length rows + 1, row) ∷ [])
    ∙ ap (λ more. edge_records lib rows ++ more) (alone (edge_only (length rows + 1) (item_of lib row)))
  where
    alone : (o : Option (ℕ × EdgeId)) → filter_map {X = Option (ℕ × EdgeId)} (λ x. x) (o ∷ []) ≡ option_to_list o
    alone None = refl
    alone (Some x) = refl

-- the first item that a `filter_map` keeps
pub first_kept : {X Y : Type 0} (f : X → Option Y) (xs : List X) (i : ℕ) (d : X) (y : Y) → i < length xs → ((k : ℕ) → k < i → f (get_or xs k d) ≡ None) → f (get_or xs i d) ≡ Some y
    → (more : List Y) × (filter_map f xs ≡ y ∷ more)
first_kept f [] i d y short before here = absurd (omega arith)
first_kept f (x ∷ xs) zero d y short before here = (filter_map f xs, rw here refl)
first_kept f (x ∷ xs) (suc i) d y short before here =
    let none = before 0 (omega arith) in
    let rest = first_kept f xs i d y (omega arith) (λ k low. before (suc k) (omega arith)) here in
    (rest.0, rw none rest.1)

pub none_kept : {X Y : Type 0} (f : X → Option Y) (xs : List X) (d : X) → ((k : ℕ) → k < length xs → f (get_or xs k d) ≡ None) → filter_map f xs ≡ []
none_kept f [] d none = refl
none_kept f (x ∷ xs) d none = let here = none 0 (omega arith) in rw here (none_kept f xs d (λ k low. none (suc k) (omega arith)))
