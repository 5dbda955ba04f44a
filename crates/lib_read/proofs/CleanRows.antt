-- What a row without a fault says.
use Rattle.std.proofs.Common.{◌≡◌, ◌≢◌, codes, ℕ, ℤ, pos, negsuc, suc, ◌+◌, ◌^◌, ◌<◌, ◌≤◌, Bool, true, false, cond, ◌&&◌, ◌||◌, not, nat_le, List, [], ◌∷◌, map, filter, length, get_or, Option, Some, None, is_some, is_none, unwrap_or, option_map, IfSome, refl, sym, ap, subst, ◌∙◌, arith, lt-ltb, lit≤}
use Rattle.std.specs.Option.{option_map_or, option_and_then}
use Rattle.std.specs.List.{AllByRecursion, list_any, list_all, position, prefix_len}
use Rattle.std.specs.Str.{bytes_eq}
use Rattle.std.specs.Cmp.Lexicographic.{bytes_decides}
use Rattle.std.proofs.lemmas.Bool.{leb-true}
use Rattle.toml.specs.Data.{Data, string, integer, float, boolean, datetime, array, table, Members, get, as_str}
use Rattle.arch_model.specs.Name.{IsTypeName, begins_lower, is_name_byte}
use Rattle.arch_model.specs.Library.{IsTypeRow, IsLinkRow, IsPatternRow}
use Rattle.lib_read.specs.declared.fault.LibClass.TheVariants.{MissingKey, WrongKind, BadName, UnknownName, Range}
use Rattle.lib_read.specs.declared.schema.Kind.{Kind}
use Rattle.lib_read.specs.declared.schema.Kind.TheVariants.{Count, InDegree, OutDegree, InNeedsOut, Exclusive, Implies, Forbid, TotalSupply, LocalSupply, CostCap}
use Rattle.lib_read.specs.Tree.{text_at, integer_at}
use Rattle.lib_read.specs.Schema.{KeyRow, type_keys, link_keys, require_keys, kind_keys, any_keys, is_sink, row_kind, is_faulty, is_named, is_type_name, is_between}
use Rattle.lib_read.specs.Faults.{faulty_keys, link_ends}
use Rattle.lib_read.specs.Components.{number, number_or, component_names}
use Rattle.lib_read.specs.Rows.{type_at, type_row, link_row, kind_row, pattern_row}
use Rattle.lib_read.specs.Inner.Building.{KindFits, PatternFits}
use Rattle.arch_model.proofs.Members.{and_left, and_right}
use Rattle.lib_read.proofs.ListFacts.{map_nil, filter_nil}

not_false : (b : Bool) → not b ≡ false → b ≡ true
not_false true e = refl
not_false false e = absurd (cc)

-- a key that is required is there, with a value of its kind
pub text_there : (o : Option Data) → is_none o ≡ false → option_map_or (λ value. not (is_some (as_str value))) o false ≡ false → (s : List ℕ) × (Some s ≡ option_and_then as_str o)
text_there None here kind = absurd (cc)
text_there (Some (string s)) here kind = (s, refl)
text_there (Some (integer z)) here kind = absurd (cc)
text_there (Some (float x)) here kind = absurd (cc)
text_there (Some (boolean b)) here kind = absurd (cc)
text_there (Some (datetime dt)) here kind = absurd (cc)
text_there (Some (array ds)) here kind = absurd (cc)
text_there (Some (table ms)) here kind = absurd (cc)

-- a text that doesn't fail a test passes it
pub text_passes : (test : List ℕ → Bool) (o : Option (List ℕ)) (s : List ℕ) → Some s ≡ o → option_map_or (λ text. not (test text)) o false ≡ false → test s ≡ true
text_passes test None s is fails = absurd (cc)
text_passes test (Some text) s is fails = let same : s ≡ text = cc in ap test same ∙ not_false (test text) fails

-- an integer that isn't out of range
pub number_within : (low high absent : ℕ) (o : Option ℤ) → low ≤ absent → absent ≤ high → option_map_or (λ z. not (is_between low high z)) o false ≡ false
    → (low ≤ unwrap_or (option_map number o) absent) × (unwrap_or (option_map number o) absent ≤ high)
number_within low high absent None least most fails = (least, most)
number_within low high absent (Some (pos n)) least most fails =
    let both = not_false (nat_le low n && nat_le n high) fails in
    (leb-true low n (and_left (nat_le low n) (nat_le n high) both), leb-true n high (and_right (nat_le low n) (nat_le n high) both))
number_within low high absent (Some (negsuc n)) least most fails = absurd (cc)

pub number_few : (low high : ℕ) (o : Option ℤ) → option_map_or (λ z. not (is_between low high z)) o false ≡ false → IfSome (option_map number o) (λ m. m ≤ high)
number_few low high None fails = tt
number_few low high (Some (pos n)) fails =
    let both = not_false (nat_le low n && nat_le n high) fails in
    leb-true n high (and_right (nat_le low n) (nat_le n high) both)
number_few low high (Some (negsuc n)) fails = absurd (cc)

pub type_name : (s : List ℕ) → is_type_name s ≡ true → IsTypeName s
type_name s h =
    let rest = and_right (begins_lower s) (list_all is_name_byte s && nat_le (length s) 24) h in
    record {
      first = and_left (begins_lower s) (list_all is_name_byte s && nat_le (length s) 24) h;
      rest = and_left (list_all is_name_byte s) (nat_le (length s) 24) rest;
      short = leb-true (length s) 24 (and_right (list_all is_name_byte s) (nat_le (length s) 24) rest);
    }

-- no key of a row has a fault of a class
pub none_faulty : (p : KeyRow → Bool) (keys : List KeyRow) → map (λ key. key.name) (filter p keys) ≡ [] → AllByRecursion (λ key. p key ≡ false) keys
none_faulty p keys e = filter_nil p keys (map_nil (λ key. key.name) (filter p keys) e)

-- a row without a wrong kind is a table
pub for_table : (top : Data) (P : Data → Type 0) (names : List (List ℕ)) (keys : List KeyRow) → ((ms : Members) → P (table ms)) → (row : Data) → faulty_keys top names WrongKind keys row ≡ [] → P row
for_table top P names keys each (string s) e = absurd (cc)
for_table top P names keys each (integer z) e = absurd (cc)
for_table top P names keys each (float x) e = absurd (cc)
for_table top P names keys each (boolean b) e = absurd (cc)
for_table top P names keys each (datetime dt) e = absurd (cc)
for_table top P names keys each (array ds) e = absurd (cc)
for_table top P names keys each (table ms) e = each ms

-- a type's row
pub record CleanType (row : Data) : Type 0 where
  pub fits : IsTypeRow (type_row row)
  pub named : Some (type_row row).name ≡ text_at (codes "name") row

named_so : (o : Option (List ℕ)) (s : List ℕ) → Some s ≡ o → (unwrap_or o [] ≡ s) × (Some (unwrap_or o []) ≡ o)
named_so None s e = absurd (cc)
named_so (Some t) s e = let same : t ≡ s = cc in (same, refl)

clean_table : (top : Data) (names : List (List ℕ)) (ms : Members) → faulty_keys top [] MissingKey type_keys (table ms) ≡ [] → faulty_keys top [] WrongKind type_keys (table ms) ≡ []
    → faulty_keys top [] BadName type_keys (table ms) ≡ [] → faulty_keys top names Range type_keys (table ms) ≡ [] → CleanType (table ms)
clean_table top names ms missing kind bad range =
    let row : Data = table ms in
    let m = none_faulty (is_faulty top [] MissingKey row) type_keys missing in
    let k = none_faulty (is_faulty top [] WrongKind row) type_keys kind in
    let b = none_faulty (is_faulty top [] BadName row) type_keys bad in
    let r = none_faulty (is_faulty top names Range row) type_keys range in
    let name = text_there (get (codes "name") row) m.1.1.1.1.0 k.1.1.1.1.0 in
    let so = named_so (text_at (codes "name") row) name.0 name.1 in
    let form = text_passes is_type_name (text_at (codes "name") row) name.0 name.1 b.1.1.1.1.0 in
    record {
      fits = record {
        name = subst IsTypeName (sym so.0) (type_name name.0 form);
        some = (number_within 1 64 1 (integer_at (codes "max") row) (lit≤ tt) (lit≤ tt) r.1.1.1.0).0;
        few = (number_within 1 64 1 (integer_at (codes "max") row) (lit≤ tt) (lit≤ tt) r.1.1.1.0).1;
        cost = (number_within 0 (10 ^ 12) 0 (integer_at (codes "cost") row) (lit≤ tt) (lit≤ tt) r.0).1;
        supply = (number_within 0 (10 ^ 12) 0 (integer_at (codes "supply") row) (lit≤ tt) (lit≤ tt) r.1.1.1.1.1.1.0).1;
        demand = (number_within 0 (10 ^ 12) 0 (integer_at (codes "demand") row) (lit≤ tt) (lit≤ tt) r.1.0).1;
        fail = (number_within 0 (10 ^ 6) 0 (integer_at (codes "fail") row) (lit≤ tt) (lit≤ tt) r.1.1.0).1;
      };
      named = so.1;
    }

pub clean_type : (top : Data) (names : List (List ℕ)) (row : Data) → faulty_keys top [] MissingKey type_keys row ≡ [] → faulty_keys top [] WrongKind type_keys row ≡ []
    → faulty_keys top [] BadName type_keys row ≡ [] → faulty_keys top names Range type_keys row ≡ [] → CleanType row
clean_type top names row missing kind bad range =
    for_table top (λ d. faulty_keys top [] MissingKey type_keys d ≡ [] → faulty_keys top [] WrongKind type_keys d ≡ [] → faulty_keys top [] BadName type_keys d ≡ [] → faulty_keys top names Range type_keys d ≡ [] → CleanType d)
    [] type_keys (clean_table top names) row kind missing kind bad range

-- a name's number, and the name at that number
pub found_below : (p : List ℕ → Bool) (names : List (List ℕ)) → list_any p names ≡ true → (prefix_len (λ x. not (p x)) names < length names) × ((d : List ℕ) → p (get_or names (prefix_len (λ x. not (p x)) names) d) ≡ true)
found_below p [] h = absurd (cc)
found_below p (x ∷ xs) h =
    elim (p x) as (λ b. ((b || list_any p xs) ≡ true) → p x ≡ b → (cond (not b) (1 + prefix_len (λ y. not (p y)) xs) 0 < suc (length xs))
    × ((d : List ℕ) → p (get_or (x ∷ xs) (cond (not b) (1 + prefix_len (λ y. not (p y)) xs) 0) d) ≡ true)) [
      | true ↦ λ found is. (omega arith, λ d. is)
      | false ↦ λ found is. let rest = found_below p xs found in (omega (arith, rest.0), λ d. rw (one_more (prefix_len (λ y. not (p y)) xs)) (rest.1 d))
    ] h refl
  where
    one_more : (n : ℕ) → 1 + n ≡ suc n
    one_more n = omega arith

numbered : (names : List (List ℕ)) (s : List ℕ) (o : Option (List ℕ)) → Some s ≡ o → is_named names s ≡ true
    → (unwrap_or (option_and_then (λ text. position (bytes_eq text) names) o) 0 < length names)
    × (get_or names (unwrap_or (option_and_then (λ text. position (bytes_eq text) names) o) 0) [] ≡ s)
numbered names s None is known = absurd (cc)
numbered names s (Some text) is known =
    let same : s ≡ text = cc in
    let found = found_below (bytes_eq text) names (ap (λ t. is_named names t) (sym same) ∙ known) in
    rw (lt-ltb (prefix_len (λ x. not (bytes_eq text x)) names) (length names) found.0) (found.0, sym ((bytes_decides text _).0 (found.1 [])) ∙ sym same)

-- a link's row
pub record CleanLink (names : List (List ℕ)) (row : Data) : Type 0 where
  pub fits : IsLinkRow (length names) (link_row names row)
  pub ends : Some (get_or names (link_row names row).from [], get_or names (link_row names row).to []) ≡ link_ends row

abbrev pair : List ℕ → List ℕ → List ℕ × List ℕ
pair a b = (a, b)

both_ends : (o p : Option (List ℕ)) (a b : List ℕ) → Some a ≡ o → Some b ≡ p → Some (pair a b) ≡ option_and_then (λ from. option_map (pair from) p) o
both_ends o p a b e f = rw (← e, ← f)

clean_link_table : (top : Data) (names : List (List ℕ)) (ms : Members) → faulty_keys top [] MissingKey link_keys (table ms) ≡ [] → faulty_keys top [] WrongKind link_keys (table ms) ≡ []
    → faulty_keys top names UnknownName link_keys (table ms) ≡ [] → faulty_keys top names Range link_keys (table ms) ≡ [] → CleanLink names (table ms)
clean_link_table top names ms missing kind unknown range =
    let row : Data = table ms in
    let m = none_faulty (is_faulty top [] MissingKey row) link_keys missing in
    let k = none_faulty (is_faulty top [] WrongKind row) link_keys kind in
    let u = none_faulty (is_faulty top names UnknownName row) link_keys unknown in
    let r = none_faulty (is_faulty top names Range row) link_keys range in
    let from = text_there (get (codes "from") row) m.1.0 k.1.0 in
    let to = text_there (get (codes "to") row) m.1.1.0 k.1.1.0 in
    let tail = numbered names from.0 (text_at (codes "from") row) from.1 (text_passes (is_named names) (text_at (codes "from") row) from.0 from.1 u.1.0) in
    let head = numbered names to.0 (text_at (codes "to") row) to.1 (text_passes (is_named names) (text_at (codes "to") row) to.0 to.1 u.1.1.0) in
    record {
      fits = record {
        from = tail.0;
        to = head.0;
        cost = (number_within 0 (10 ^ 12) 0 (integer_at (codes "cost") row) (lit≤ tt) (lit≤ tt) r.0).1;
        fail = lit≤ tt;
      };
      ends = ap (λ a. Some (pair a (get_or names (link_row names row).to []))) tail.1 ∙ ap (λ b. Some (pair from.0 b)) head.1 ∙ both_ends (text_at (codes "from") row) (text_at (codes "to") row) from.0 to.0 from.1 to.1;
    }

pub clean_link : (top : Data) (names : List (List ℕ)) (row : Data) → faulty_keys top [] MissingKey link_keys row ≡ [] → faulty_keys top [] WrongKind link_keys row ≡ []
    → faulty_keys top names UnknownName link_keys row ≡ [] → faulty_keys top names Range link_keys row ≡ [] → CleanLink names row
clean_link top names row missing kind unknown range =
    for_table top (λ d. faulty_keys top [] MissingKey link_keys d ≡ [] → faulty_keys top [] WrongKind link_keys d ≡ [] → faulty_keys top names UnknownName link_keys d ≡ [] → faulty_keys top names Range link_keys d ≡ [] → CleanLink names d)
    [] link_keys (clean_link_table top names) row kind missing kind unknown range

-- a pattern's row
pub record CleanPattern (top : Data) (names : List (List ℕ)) (row : Data) : Type 0 where
  pub row_fits : IfSome (pattern_row names (component_names top) row) (IsPatternRow (length names) (length (component_names top)))
  pub fits : PatternFits row

-- a type that a key names
record TypeFound (names : List (List ℕ)) (key : List ℕ) (row : Data) : Type 0 where
  below : type_at names key row < length names
  text : List ℕ
  there : Some text ≡ text_at key row
  named : get_or names (type_at names key row) [] ≡ text

type_found : (names : List (List ℕ)) (key : List ℕ) (row : Data) → is_none (get key row) ≡ false → option_map_or (λ value. not (is_some (as_str value))) (get key row) false ≡ false
    → option_map_or (λ text. not (is_named names text)) (text_at key row) false ≡ false → TypeFound names key row
type_found names key row here kind known =
    let of = text_there (get key row) here kind in
    let at = numbered names of.0 (text_at key row) of.1 (text_passes (is_named names) (text_at key row) of.0 of.1 known) in
    record { below = at.0; text = of.0; there = of.1; named = at.1 }

-- two keys that name different types
unlike : (first : List ℕ) (o p : Option (List ℕ)) (a b : List ℕ) → Some a ≡ o → Some b ≡ p → option_map_or (λ x. option_map_or (bytes_eq x) p false) o false ≡ false → a ≢ b
unlike first None p a b e f fails same = absurd (cc)
unlike first (Some x) None a b e f fails same = absurd (cc)
unlike first (Some x) (Some y) a b e f fails same =
    let yes : bytes_eq x y ≡ true = (bytes_decides x y).1 (cc) in
    absurd (cc)

other_types : (names : List (List ℕ)) (row : Data) → TypeFound names (codes "a") row → TypeFound names (codes "b") row
    → option_map_or (λ x. option_map_or (bytes_eq x) (text_at (codes "b") row) false) (text_at (codes "a") row) false ≡ false → type_at names (codes "a") row ≢ type_at names (codes "b") row
other_types names row a b fails same =
    unlike [] (text_at (codes "a") row) (text_at (codes "b") row) a.text b.text a.there b.there fails (sym a.named ∙ ap (λ n. get_or names n []) same ∙ b.named)

clean_count : (top : Data) (names : List (List ℕ)) (ms : Members) → faulty_keys top [] MissingKey (kind_keys Count) (table ms) ≡ [] → faulty_keys top [] WrongKind (kind_keys Count) (table ms) ≡ []
    → faulty_keys top names UnknownName (kind_keys Count) (table ms) ≡ [] → faulty_keys top names Range (kind_keys Count) (table ms) ≡ [] → IsPatternRow (length names) (length (component_names top)) (kind_row names (component_names top) (table ms) Count) × KindFits (table ms) Count
clean_count top names ms missing kind unknown range =
    let row : Data = table ms in
    let m = none_faulty (is_faulty top [] MissingKey row) (kind_keys Count) missing in
    let k = none_faulty (is_faulty top [] WrongKind row) (kind_keys Count) kind in
    let u = none_faulty (is_faulty top names UnknownName row) (kind_keys Count) unknown in
    let r = none_faulty (is_faulty top names Range row) (kind_keys Count) range in
    let of = type_found names (codes "type") row m.1.1.1.0 k.1.1.1.0 u.1.1.1.0 in
    let min = (number_within 0 512 0 (integer_at (codes "min") row) (lit≤ tt) (lit≤ tt) r.1.1.0).1 in
    let max = number_few 0 512 (integer_at (codes "max") row) r.1.0 in
    ((of.below, (min, max)), (min, max))

clean_indegree : (top : Data) (names : List (List ℕ)) (ms : Members) → faulty_keys top [] MissingKey (kind_keys InDegree) (table ms) ≡ [] → faulty_keys top [] WrongKind (kind_keys InDegree) (table ms) ≡ []
    → faulty_keys top names UnknownName (kind_keys InDegree) (table ms) ≡ [] → faulty_keys top names Range (kind_keys InDegree) (table ms) ≡ [] → IsPatternRow (length names) (length (component_names top)) (kind_row names (component_names top) (table ms) InDegree) × KindFits (table ms) InDegree
clean_indegree top names ms missing kind unknown range =
    let row : Data = table ms in
    let m = none_faulty (is_faulty top [] MissingKey row) (kind_keys InDegree) missing in
    let k = none_faulty (is_faulty top [] WrongKind row) (kind_keys InDegree) kind in
    let u = none_faulty (is_faulty top names UnknownName row) (kind_keys InDegree) unknown in
    let r = none_faulty (is_faulty top names Range row) (kind_keys InDegree) range in
    let of = type_found names (codes "type") row m.1.1.1.1.0 k.1.1.1.1.0 u.1.1.1.1.0 in
    let from = type_found names (codes "from") row m.0 k.0 u.0 in
    let min = (number_within 0 512 0 (integer_at (codes "min") row) (lit≤ tt) (lit≤ tt) r.1.1.1.0).1 in
    let max = number_few 0 512 (integer_at (codes "max") row) r.1.1.0 in
    ((of.below, from.below, (min, max)), (min, max))

clean_outdegree : (top : Data) (names : List (List ℕ)) (ms : Members) → faulty_keys top [] MissingKey (kind_keys OutDegree) (table ms) ≡ [] → faulty_keys top [] WrongKind (kind_keys OutDegree) (table ms) ≡ []
    → faulty_keys top names UnknownName (kind_keys OutDegree) (table ms) ≡ [] → faulty_keys top names Range (kind_keys OutDegree) (table ms) ≡ [] → IsPatternRow (length names) (length (component_names top)) (kind_row names (component_names top) (table ms) OutDegree) × KindFits (table ms) OutDegree
clean_outdegree top names ms missing kind unknown range =
    let row : Data = table ms in
    let m = none_faulty (is_faulty top [] MissingKey row) (kind_keys OutDegree) missing in
    let k = none_faulty (is_faulty top [] WrongKind row) (kind_keys OutDegree) kind in
    let u = none_faulty (is_faulty top names UnknownName row) (kind_keys OutDegree) unknown in
    let r = none_faulty (is_faulty top names Range row) (kind_keys OutDegree) range in
    let of = type_found names (codes "type") row m.1.1.1.1.0 k.1.1.1.1.0 u.1.1.1.1.0 in
    let to = type_found names (codes "to") row m.1.1.1.0 k.1.1.1.0 u.1.1.1.0 in
    let min = (number_within 0 512 0 (integer_at (codes "min") row) (lit≤ tt) (lit≤ tt) r.1.1.0).1 in
    let max = number_few 0 512 (integer_at (codes "max") row) r.1.0 in
    ((of.below, to.below, (min, max)), (min, max))

clean_in_needs_out : (top : Data) (names : List (List ℕ)) (ms : Members) → faulty_keys top [] MissingKey (kind_keys InNeedsOut) (table ms) ≡ [] → faulty_keys top [] WrongKind (kind_keys InNeedsOut) (table ms) ≡ []
    → faulty_keys top names UnknownName (kind_keys InNeedsOut) (table ms) ≡ [] → faulty_keys top names Range (kind_keys InNeedsOut) (table ms) ≡ [] → IsPatternRow (length names) (length (component_names top)) (kind_row names (component_names top) (table ms) InNeedsOut) × KindFits (table ms) InNeedsOut
clean_in_needs_out top names ms missing kind unknown range =
    let row : Data = table ms in
    let m = none_faulty (is_faulty top [] MissingKey row) (kind_keys InNeedsOut) missing in
    let k = none_faulty (is_faulty top [] WrongKind row) (kind_keys InNeedsOut) kind in
    let u = none_faulty (is_faulty top names UnknownName row) (kind_keys InNeedsOut) unknown in
    let of = type_found names (codes "type") row m.1.1.1.0 k.1.1.1.0 u.1.1.1.0 in
    let from = type_found names (codes "from") row m.0 k.0 u.0 in
    let to = type_found names (codes "to") row m.1.1.0 k.1.1.0 u.1.1.0 in
    ((of.below, from.below, to.below), tt)

clean_exclusive : (top : Data) (names : List (List ℕ)) (ms : Members) → faulty_keys top [] MissingKey (kind_keys Exclusive) (table ms) ≡ [] → faulty_keys top [] WrongKind (kind_keys Exclusive) (table ms) ≡ []
    → faulty_keys top names UnknownName (kind_keys Exclusive) (table ms) ≡ [] → faulty_keys top names Range (kind_keys Exclusive) (table ms) ≡ [] → IsPatternRow (length names) (length (component_names top)) (kind_row names (component_names top) (table ms) Exclusive) × KindFits (table ms) Exclusive
clean_exclusive top names ms missing kind unknown range =
    let row : Data = table ms in
    let m = none_faulty (is_faulty top [] MissingKey row) (kind_keys Exclusive) missing in
    let k = none_faulty (is_faulty top [] WrongKind row) (kind_keys Exclusive) kind in
    let u = none_faulty (is_faulty top names UnknownName row) (kind_keys Exclusive) unknown in
    let r = none_faulty (is_faulty top names Range row) (kind_keys Exclusive) range in
    let of = type_found names (codes "type") row m.1.1.1.0 k.1.1.1.0 u.1.1.1.0 in
    let a = type_found names (codes "a") row m.0 k.0 u.0 in
    let b = type_found names (codes "b") row m.1.0 k.1.0 u.1.0 in
    ((of.below, a.below, b.below, other_types names row a b r.1.0), tt)

clean_implies : (top : Data) (names : List (List ℕ)) (ms : Members) → faulty_keys top [] MissingKey (kind_keys Implies) (table ms) ≡ [] → faulty_keys top [] WrongKind (kind_keys Implies) (table ms) ≡ []
    → faulty_keys top names UnknownName (kind_keys Implies) (table ms) ≡ [] → faulty_keys top names Range (kind_keys Implies) (table ms) ≡ [] → IsPatternRow (length names) (length (component_names top)) (kind_row names (component_names top) (table ms) Implies) × KindFits (table ms) Implies
clean_implies top names ms missing kind unknown range =
    let row : Data = table ms in
    let m = none_faulty (is_faulty top [] MissingKey row) (kind_keys Implies) missing in
    let k = none_faulty (is_faulty top [] WrongKind row) (kind_keys Implies) kind in
    let u = none_faulty (is_faulty top names UnknownName row) (kind_keys Implies) unknown in
    let a = type_found names (codes "a") row m.0 k.0 u.0 in
    let b = type_found names (codes "b") row m.1.0 k.1.0 u.1.0 in
    ((a.below, b.below), tt)

clean_forbid : (top : Data) (names : List (List ℕ)) (ms : Members) → faulty_keys top [] MissingKey (kind_keys Forbid) (table ms) ≡ [] → faulty_keys top [] WrongKind (kind_keys Forbid) (table ms) ≡ []
    → faulty_keys top names UnknownName (kind_keys Forbid) (table ms) ≡ [] → faulty_keys top names Range (kind_keys Forbid) (table ms) ≡ [] → IsPatternRow (length names) (length (component_names top)) (kind_row names (component_names top) (table ms) Forbid) × KindFits (table ms) Forbid
clean_forbid top names ms missing kind unknown range =
    let row : Data = table ms in
    let m = none_faulty (is_faulty top [] MissingKey row) (kind_keys Forbid) missing in
    let k = none_faulty (is_faulty top [] WrongKind row) (kind_keys Forbid) kind in
    let u = none_faulty (is_faulty top names UnknownName row) (kind_keys Forbid) unknown in
    let from = type_found (component_names top) (codes "from") row m.0 k.0 u.0 in
    let to = type_found (component_names top) (codes "to") row m.1.1.0 k.1.1.0 u.1.1.0 in
    ((from.below, to.below), tt)

clean_total_supply : (top : Data) (names : List (List ℕ)) (ms : Members) → faulty_keys top [] MissingKey (kind_keys TotalSupply) (table ms) ≡ [] → faulty_keys top [] WrongKind (kind_keys TotalSupply) (table ms) ≡ []
    → faulty_keys top names UnknownName (kind_keys TotalSupply) (table ms) ≡ [] → faulty_keys top names Range (kind_keys TotalSupply) (table ms) ≡ [] → IsPatternRow (length names) (length (component_names top)) (kind_row names (component_names top) (table ms) TotalSupply) × KindFits (table ms) TotalSupply
clean_total_supply top names ms missing kind unknown range =
    let row : Data = table ms in
    (tt, tt)

clean_local_supply : (top : Data) (names : List (List ℕ)) (ms : Members) → faulty_keys top [] MissingKey (kind_keys LocalSupply) (table ms) ≡ [] → faulty_keys top [] WrongKind (kind_keys LocalSupply) (table ms) ≡ []
    → faulty_keys top names UnknownName (kind_keys LocalSupply) (table ms) ≡ [] → faulty_keys top names Range (kind_keys LocalSupply) (table ms) ≡ [] → IsPatternRow (length names) (length (component_names top)) (kind_row names (component_names top) (table ms) LocalSupply) × KindFits (table ms) LocalSupply
clean_local_supply top names ms missing kind unknown range =
    let row : Data = table ms in
    let m = none_faulty (is_faulty top [] MissingKey row) (kind_keys LocalSupply) missing in
    let k = none_faulty (is_faulty top [] WrongKind row) (kind_keys LocalSupply) kind in
    let u = none_faulty (is_faulty top names UnknownName row) (kind_keys LocalSupply) unknown in
    let of = type_found names (codes "type") row m.1.0 k.1.0 u.1.0 in
    (of.below, tt)

clean_cost_cap : (top : Data) (names : List (List ℕ)) (ms : Members) → faulty_keys top [] MissingKey (kind_keys CostCap) (table ms) ≡ [] → faulty_keys top [] WrongKind (kind_keys CostCap) (table ms) ≡ []
    → faulty_keys top names UnknownName (kind_keys CostCap) (table ms) ≡ [] → faulty_keys top names Range (kind_keys CostCap) (table ms) ≡ [] → IsPatternRow (length names) (length (component_names top)) (kind_row names (component_names top) (table ms) CostCap) × KindFits (table ms) CostCap
clean_cost_cap top names ms missing kind unknown range =
    let row : Data = table ms in
    let r = none_faulty (is_faulty top names Range row) (kind_keys CostCap) range in
    ((number_within 0 (10 ^ 15) 0 (integer_at (codes "max") row) (lit≤ tt) (lit≤ tt) r.1.0).1, tt)

clean_kind : (top : Data) (names : List (List ℕ)) (ms : Members) (o : Option Kind)
    → faulty_keys top [] MissingKey (option_map_or kind_keys o any_keys) (table ms) ≡ [] → faulty_keys top [] WrongKind (option_map_or kind_keys o any_keys) (table ms) ≡ []
    → faulty_keys top names UnknownName (option_map_or kind_keys o any_keys) (table ms) ≡ [] → faulty_keys top names Range (option_map_or kind_keys o any_keys) (table ms) ≡ []
    → IfSome (option_map (kind_row names (component_names top) (table ms)) o) (IsPatternRow (length names) (length (component_names top))) × IfSome o (KindFits (table ms))
clean_kind top names ms None missing kind unknown range = (tt, tt)
clean_kind top names ms (Some Count) missing kind unknown range = clean_count top names ms missing kind unknown range
clean_kind top names ms (Some InDegree) missing kind unknown range = clean_indegree top names ms missing kind unknown range
clean_kind top names ms (Some OutDegree) missing kind unknown range = clean_outdegree top names ms missing kind unknown range
clean_kind top names ms (Some InNeedsOut) missing kind unknown range = clean_in_needs_out top names ms missing kind unknown range
clean_kind top names ms (Some Exclusive) missing kind unknown range = clean_exclusive top names ms missing kind unknown range
clean_kind top names ms (Some Implies) missing kind unknown range = clean_implies top names ms missing kind unknown range
clean_kind top names ms (Some Forbid) missing kind unknown range = clean_forbid top names ms missing kind unknown range
clean_kind top names ms (Some TotalSupply) missing kind unknown range = clean_total_supply top names ms missing kind unknown range
clean_kind top names ms (Some LocalSupply) missing kind unknown range = clean_local_supply top names ms missing kind unknown range
clean_kind top names ms (Some CostCap) missing kind unknown range = clean_cost_cap top names ms missing kind unknown range

abbrev pub pattern_keys : Data → List KeyRow
pattern_keys row = option_map_or kind_keys (row_kind row) any_keys

clean_pattern_table : (top : Data) (names : List (List ℕ)) (ms : Members) → faulty_keys top [] MissingKey (pattern_keys (table ms)) (table ms) ≡ [] → faulty_keys top [] WrongKind (pattern_keys (table ms)) (table ms) ≡ []
    → faulty_keys top names UnknownName (pattern_keys (table ms)) (table ms) ≡ [] → faulty_keys top names Range (pattern_keys (table ms)) (table ms) ≡ [] → CleanPattern top names (table ms)
clean_pattern_table top names ms missing kind unknown range =
    let both = clean_kind top names ms (row_kind (table ms)) missing kind unknown range in
    record { row_fits = both.0; fits = both.1 }

pub clean_pattern : (top : Data) (names : List (List ℕ)) (row : Data) → faulty_keys top [] MissingKey (pattern_keys row) row ≡ [] → faulty_keys top [] WrongKind (pattern_keys row) row ≡ []
    → faulty_keys top names UnknownName (pattern_keys row) row ≡ [] → faulty_keys top names Range (pattern_keys row) row ≡ [] → CleanPattern top names row
clean_pattern top names row missing kind unknown range =
    for_table top (λ d. faulty_keys top [] MissingKey (pattern_keys d) d ≡ [] → faulty_keys top [] WrongKind (pattern_keys d) d ≡ [] → faulty_keys top names UnknownName (pattern_keys d) d ≡ [] → faulty_keys top names Range (pattern_keys d) d ≡ [] → CleanPattern top names d)
    [] (pattern_keys row) (clean_pattern_table top names) row kind missing kind unknown range

-- a requirement's row
pub record CleanRequirement (top : Data) (row : Data) : Type 0 where
  pub name : List ℕ
  pub there : Some name ≡ text_at (codes "sink") row
  pub known : is_named (component_names top) name ≡ true
  pub sink : is_sink top name ≡ true
  pub bound : number_or 0 (codes "bound") row ≤ 10 ^ 18

clean_requirement_table : (top : Data) (names : List (List ℕ)) (ms : Members) → faulty_keys top [] MissingKey require_keys (table ms) ≡ [] → faulty_keys top [] WrongKind require_keys (table ms) ≡ []
    → faulty_keys top names UnknownName require_keys (table ms) ≡ [] → faulty_keys top names Range require_keys (table ms) ≡ [] → CleanRequirement top (table ms)
clean_requirement_table top names ms missing kind unknown range =
    let row : Data = table ms in
    let m = none_faulty (is_faulty top [] MissingKey row) require_keys missing in
    let k = none_faulty (is_faulty top [] WrongKind row) require_keys kind in
    let u = none_faulty (is_faulty top names UnknownName row) require_keys unknown in
    let r = none_faulty (is_faulty top names Range row) require_keys range in
    let name = text_there (get (codes "sink") row) m.1.0 k.1.0 in
    record {
      name = name.0;
      there = name.1;
      known = text_passes (is_named (component_names top)) (text_at (codes "sink") row) name.0 name.1 u.1.0;
      sink = text_passes (is_sink top) (text_at (codes "sink") row) name.0 name.1 r.1.0;
      bound = (number_within 0 (10 ^ 18) 0 (integer_at (codes "bound") row) (lit≤ tt) (lit≤ tt) r.0).1;
    }

pub clean_requirement : (top : Data) (names : List (List ℕ)) (row : Data) → faulty_keys top [] MissingKey require_keys row ≡ [] → faulty_keys top [] WrongKind require_keys row ≡ []
    → faulty_keys top names UnknownName require_keys row ≡ [] → faulty_keys top names Range require_keys row ≡ [] → CleanRequirement top row
clean_requirement top names row missing kind unknown range =
    for_table top (λ d. faulty_keys top [] MissingKey require_keys d ≡ [] → faulty_keys top [] WrongKind require_keys d ≡ [] → faulty_keys top names UnknownName require_keys d ≡ [] → faulty_keys top names Range require_keys d ≡ [] → CleanRequirement top d)
    [] require_keys (clean_requirement_table top names) row kind missing kind unknown range
