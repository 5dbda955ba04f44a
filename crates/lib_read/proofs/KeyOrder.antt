-- Keys in byte order: of each table, and of each row.
use Rattle.std.proofs.Common.{◌≡◌, ◌≢◌, codes, ℕ, Bool, true, false, cond, List, [], ◌∷◌, map, filter, Option, Some, None, String, Global, string_bytes, refl}
use Rattle.std.specs.List.{AllByRecursion}
use Rattle.std.specs.List.Sorted.{IsStrictlySortedBy}
use Rattle.std.specs.Map.{keys_of as entry_keys}
use Rattle.std.specs.Option.{option_map_or}
use Rattle.std.specs.String.{string_cmp}
use Rattle.std.specs.declared.cmp.Ordering.TheVariants.{Less}
use Rattle.toml.specs.Data.{Data, string, integer, float, boolean, datetime, array, table, Members, as_table}
use Rattle.toml.specs.View.{members_view}
use Rattle.toml.specs.declared.value.Value.{Value}
use Rattle.lib_read.specs.declared.fault.TableName.{TableName}
use Rattle.lib_read.specs.declared.fault.LibClass.{LibClass}
use Rattle.lib_read.specs.declared.fault.LibClass.TheVariants.{TooLarge, NotToml, UnknownKey, MissingKey, WrongKind, BadName, Duplicate, UnknownName, Range, TooMany}
use Rattle.lib_read.specs.declared.fault.TableName.TheVariants.{Library, Types, Links, Patterns, Requires}
use Rattle.lib_read.specs.declared.schema.Kind.{Kind}
use Rattle.lib_read.specs.declared.schema.Kind.TheVariants.{Count, InDegree, OutDegree, InNeedsOut, Exclusive, Implies, Forbid, TotalSupply, LocalSupply, CostCap}
use Rattle.lib_read.specs.Fault.{text_cmp}
use Rattle.lib_read.specs.Tree.{keys_of}
use Rattle.lib_read.specs.Schema.{KeyRow, kind_keys, any_keys, row_kind, table_keys, is_faulty}
use Rattle.lib_read.specs.Faults.{faulty_keys}

abbrev pub Ascend : List (List ℕ) → Type 0
Ascend ks = IsStrictlySortedBy text_cmp ks

pub ascend_none : Ascend []
unfolding IsStrictlySortedBy
ascend_none = tt

pub ascend_one : (k : List ℕ) → Ascend (k ∷ [])
unfolding IsStrictlySortedBy
ascend_one k = (tt, tt)

-- some of ascending keys
after_some : {X : Type 0} (P : X → Type 0) (p : X → Bool) (xs : List X) → AllByRecursion P xs → AllByRecursion P (filter p xs)
after_some P p [] h = tt
after_some P p (x ∷ xs) h = elim (p x) as (λ b. AllByRecursion P (cond b (x ∷ filter p xs) (filter p xs))) [
  | true ↦ (h.0, after_some P p xs h.1)
  | false ↦ after_some P p xs h.1
]

pub ascend_some : (p : List ℕ → Bool) (ks : List (List ℕ)) → Ascend ks → Ascend (filter p ks)
unfolding IsStrictlySortedBy
ascend_some p [] h = tt
ascend_some p (k ∷ ks) h = elim (p k) as (λ b. Ascend (cond b (k ∷ filter p ks) (filter p ks))) [
  | true ↦ (after_some (λ l. text_cmp k l ≡ Less) p ks h.0, ascend_some p ks h.1)
  | false ↦ ascend_some p ks h.1
]

all_under : {X Y : Type 0} (P : Y → Type 0) (f : X → Y) (xs : List X) → AllByRecursion P (map f xs) → AllByRecursion (λ x. P (f x)) xs
all_under P f [] h = tt
all_under P f (x ∷ xs) h = (h.0, all_under P f xs h.1)

all_over : {X Y : Type 0} (P : Y → Type 0) (f : X → Y) (xs : List X) → AllByRecursion (λ x. P (f x)) xs → AllByRecursion P (map f xs)
all_over P f [] h = tt
all_over P f (x ∷ xs) h = (h.0, all_over P f xs h.1)

abbrev pub named : KeyRow → List ℕ
named key = key.name

pub ascend_names : (p : KeyRow → Bool) (keys : List KeyRow) → Ascend (map named keys) → Ascend (map named (filter p keys))
unfolding IsStrictlySortedBy
ascend_names p [] h = tt
ascend_names p (key ∷ keys) h = elim (p key) as (λ b. Ascend (map named (cond b (key ∷ filter p keys) (filter p keys)))) [
  | true ↦ (
    all_over (λ l. text_cmp key.name l ≡ Less) named (filter p keys) (after_some (λ k. text_cmp key.name k.name ≡ Less) p keys (all_under (λ l. text_cmp key.name l ≡ Less) named keys h.0)),
    ascend_names p keys h.1,
  )
  | false ↦ ascend_names p keys h.1
]

-- the keys of a map that is in order
abbrev Entry : Type 0
Entry = String Global × Value

keys_under : (k : String Global) (es : List Entry) → AllByRecursion (λ l. string_cmp k l ≡ Less) (entry_keys es) → AllByRecursion (λ l. text_cmp (string_bytes k) l ≡ Less) (keys_of (members_view es))
keys_under k [] h = tt
keys_under k (e ∷ es) h = (h.0, keys_under k es h.1)

pub ascend_entries : (es : List Entry) → IsStrictlySortedBy string_cmp (entry_keys es) → Ascend (keys_of (members_view es))
unfolding IsStrictlySortedBy
ascend_entries [] h = tt
ascend_entries (e ∷ es) h = (keys_under e.0 es h.0, ascend_entries es h.1)

-- the keys at which a row has a fault, beside the keys that the code looks at
pub of_table : (top : Data) (names : List (List ℕ)) (class : LibClass) (keys : List KeyRow) (row : Data) (ms : Members) → Some ms ≡ as_table row → class ≢ UnknownKey
    → faulty_keys top names class keys row ≡ map named (filter (is_faulty top names class row) keys)
of_table top names class keys (table ns) ms is other = by_class class other
  where
    by_class : (k : LibClass) → k ≢ UnknownKey → faulty_keys top names k keys (table ns) ≡ map named (filter (is_faulty top names k (table ns)) keys)
    by_class TooLarge other = refl
    by_class NotToml other = refl
    by_class UnknownKey other = absurd (other refl)
    by_class MissingKey other = refl
    by_class WrongKind other = refl
    by_class BadName other = refl
    by_class Duplicate other = refl
    by_class UnknownName other = refl
    by_class Range other = refl
    by_class TooMany other = refl
of_table top names class keys (string s) ms is other = absurd (cc)
of_table top names class keys (integer z) ms is other = absurd (cc)
of_table top names class keys (float x) ms is other = absurd (cc)
of_table top names class keys (boolean b) ms is other = absurd (cc)
of_table top names class keys (datetime dt) ms is other = absurd (cc)
of_table top names class keys (array ds) ms is other = absurd (cc)

pub wrong_kind : (top : Data) (names : List (List ℕ)) (keys : List KeyRow) (row : Data) → None ≡ as_table row → faulty_keys top names WrongKind keys row ≡ codes "-" ∷ []
wrong_kind top names keys (table ns) is = absurd (cc)
wrong_kind top names keys (string s) is = refl
wrong_kind top names keys (integer z) is = refl
wrong_kind top names keys (float x) is = refl
wrong_kind top names keys (boolean b) is = refl
wrong_kind top names keys (datetime dt) is = refl
wrong_kind top names keys (array ds) is = refl

pub no_keys : (top : Data) (names : List (List ℕ)) (class : LibClass) (keys : List KeyRow) (row : Data) → None ≡ as_table row → class ≢ WrongKind → faulty_keys top names class keys row ≡ []
no_keys top names class keys (table ns) is other = absurd (cc)
no_keys top names TooLarge keys (string s) is other = refl
no_keys top names NotToml keys (string s) is other = refl
no_keys top names UnknownKey keys (string s) is other = refl
no_keys top names MissingKey keys (string s) is other = refl
no_keys top names BadName keys (string s) is other = refl
no_keys top names Duplicate keys (string s) is other = refl
no_keys top names UnknownName keys (string s) is other = refl
no_keys top names Range keys (string s) is other = refl
no_keys top names TooMany keys (string s) is other = refl
no_keys top names WrongKind keys (string s) is other = absurd (other refl)
no_keys top names TooLarge keys (integer z) is other = refl
no_keys top names NotToml keys (integer z) is other = refl
no_keys top names UnknownKey keys (integer z) is other = refl
no_keys top names MissingKey keys (integer z) is other = refl
no_keys top names BadName keys (integer z) is other = refl
no_keys top names Duplicate keys (integer z) is other = refl
no_keys top names UnknownName keys (integer z) is other = refl
no_keys top names Range keys (integer z) is other = refl
no_keys top names TooMany keys (integer z) is other = refl
no_keys top names WrongKind keys (integer z) is other = absurd (other refl)
no_keys top names TooLarge keys (float x) is other = refl
no_keys top names NotToml keys (float x) is other = refl
no_keys top names UnknownKey keys (float x) is other = refl
no_keys top names MissingKey keys (float x) is other = refl
no_keys top names BadName keys (float x) is other = refl
no_keys top names Duplicate keys (float x) is other = refl
no_keys top names UnknownName keys (float x) is other = refl
no_keys top names Range keys (float x) is other = refl
no_keys top names TooMany keys (float x) is other = refl
no_keys top names WrongKind keys (float x) is other = absurd (other refl)
no_keys top names TooLarge keys (boolean b) is other = refl
no_keys top names NotToml keys (boolean b) is other = refl
no_keys top names UnknownKey keys (boolean b) is other = refl
no_keys top names MissingKey keys (boolean b) is other = refl
no_keys top names BadName keys (boolean b) is other = refl
no_keys top names Duplicate keys (boolean b) is other = refl
no_keys top names UnknownName keys (boolean b) is other = refl
no_keys top names Range keys (boolean b) is other = refl
no_keys top names TooMany keys (boolean b) is other = refl
no_keys top names WrongKind keys (boolean b) is other = absurd (other refl)
no_keys top names TooLarge keys (datetime dt) is other = refl
no_keys top names NotToml keys (datetime dt) is other = refl
no_keys top names UnknownKey keys (datetime dt) is other = refl
no_keys top names MissingKey keys (datetime dt) is other = refl
no_keys top names BadName keys (datetime dt) is other = refl
no_keys top names Duplicate keys (datetime dt) is other = refl
no_keys top names UnknownName keys (datetime dt) is other = refl
no_keys top names Range keys (datetime dt) is other = refl
no_keys top names TooMany keys (datetime dt) is other = refl
no_keys top names WrongKind keys (datetime dt) is other = absurd (other refl)
no_keys top names TooLarge keys (array ds) is other = refl
no_keys top names NotToml keys (array ds) is other = refl
no_keys top names UnknownKey keys (array ds) is other = refl
no_keys top names MissingKey keys (array ds) is other = refl
no_keys top names BadName keys (array ds) is other = refl
no_keys top names Duplicate keys (array ds) is other = refl
no_keys top names UnknownName keys (array ds) is other = refl
no_keys top names Range keys (array ds) is other = refl
no_keys top names TooMany keys (array ds) is other = refl
no_keys top names WrongKind keys (array ds) is other = absurd (other refl)

-- the keys of each table
kind_ascends : (kind : Kind) → Ascend (map named (kind_keys kind))
unfolding IsStrictlySortedBy
kind_ascends Count = ((refl, (refl, (refl, tt))), ((refl, (refl, tt)), ((refl, tt), (tt, tt))))
kind_ascends InDegree = ((refl, (refl, (refl, (refl, tt)))), ((refl, (refl, (refl, tt))), ((refl, (refl, tt)), ((refl, tt), (tt, tt)))))
kind_ascends OutDegree = ((refl, (refl, (refl, (refl, tt)))), ((refl, (refl, (refl, tt))), ((refl, (refl, tt)), ((refl, tt), (tt, tt)))))
kind_ascends InNeedsOut = ((refl, (refl, (refl, tt))), ((refl, (refl, tt)), ((refl, tt), (tt, tt))))
kind_ascends Exclusive = ((refl, (refl, (refl, tt))), ((refl, (refl, tt)), ((refl, tt), (tt, tt))))
kind_ascends Implies = ((refl, (refl, tt)), ((refl, tt), (tt, tt)))
kind_ascends Forbid = ((refl, (refl, tt)), ((refl, tt), (tt, tt)))
kind_ascends TotalSupply = (tt, tt)
kind_ascends LocalSupply = ((refl, tt), (tt, tt))
kind_ascends CostCap = ((refl, tt), (tt, tt))

either_ascends : (o : Option Kind) → Ascend (map named (option_map_or kind_keys o any_keys))
unfolding IsStrictlySortedBy
either_ascends None = ((refl, (refl, (refl, (refl, (refl, (refl, (refl, tt))))))), ((refl, (refl, (refl, (refl, (refl, (refl, tt)))))), ((refl, (refl, (refl, (refl, (refl, tt))))), ((refl, (refl, (refl, (refl, tt)))), ((refl, (refl, (refl, tt))), ((refl, (refl, tt)), ((refl, tt), (tt, tt))))))))
either_ascends (Some kind) = kind_ascends kind

pub keys_ascend : (t : TableName) (row : Data) → Ascend (map named (table_keys t row))
unfolding IsStrictlySortedBy
keys_ascend Library row = ((refl, (refl, (refl, tt))), ((refl, (refl, tt)), ((refl, tt), (tt, tt))))
keys_ascend Types row = ((refl, (refl, (refl, (refl, (refl, (refl, tt)))))), ((refl, (refl, (refl, (refl, (refl, tt))))), ((refl, (refl, (refl, (refl, tt)))), ((refl, (refl, (refl, tt))), ((refl, (refl, tt)), ((refl, tt), (tt, tt)))))))
keys_ascend Links row = ((refl, (refl, tt)), ((refl, tt), (tt, tt)))
keys_ascend Patterns row = either_ascends (row_kind row)
keys_ascend Requires row = ((refl, tt), (tt, tt))
