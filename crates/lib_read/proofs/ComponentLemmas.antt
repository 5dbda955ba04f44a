-- Names of components: a type's name, a dot and an index.
use Rattle.std.proofs.Common.{◌≡◌, ◌≢◌, ℕ, ◌+◌, ◌^◌, ◌<◌, ◌≤◌, Bool, true, false, ◌||◌, nat_le, List, [], ◌∷◌, ◌++◌, map, drop, length, get_or, Option, Some, None, IfSome, IfNone, MatchOption, is_some, option_map, cond, refl, sym, ap, ◌∙◌, arith, inl, inr, ◌-◌, le-leb, String, Global, string_bytes}
use Rattle.std.specs.List.{list_any, flat_map, range_with_len, find}
use Rattle.std.specs.Str.{bytes_eq}
use Rattle.std.specs.Cmp.Lexicographic.{bytes_decides}
use Rattle.std.proofs.lemmas.Bool.{cases_Bool, cases_lt, lt-leb}
use Rattle.std.proofs.lemmas.List.{append_assoc, at_drop_more, map-append}
use Rattle.std.proofs.lemmas.List.Folds.{list_any_at, list_any_none, list_any-append, flat_map-map}
use Rattle.std.proofs.lemmas.List.FromFn.{map-range_with_len_more, get_or-range_with_len, length-range_with_len}
use Rattle.toml.specs.Data.{Data}
use Rattle.toml.specs.View.{view}
use Rattle.toml.specs.declared.value.Value.{Value}
use Rattle.template.specs.Names.{instance_name}
use Rattle.template.proofs.IndexLaws.{alike}
use Rattle.lib_read.specs.Components.{instance_names}
use Rattle.lib_read.specs.Inner.Building.{names_of_type}
use Rattle.lib_read.specs.Schema.{is_named}
use Rattle.lib_read.specs.Rows.{type_row}

-- a test among the numbers from a on
range_has : (p : ℕ → Bool) (a n i : ℕ) → a ≤ i → i < a + n → p i ≡ true → list_any p (range_with_len a n) ≡ true
range_has p a n i low high h =
    list_any_at p (range_with_len a n) (i - a) 0 (omega (arith, length-range_with_len a n)) (ap p (get_or-range_with_len a n (i - a) 0 (omega arith) ∙ (omega arith)) ∙ h)

range_lacks : (p : ℕ → Bool) (a n : ℕ) → ((i : ℕ) → a ≤ i → i < a + n → p i ≡ false) → list_any p (range_with_len a n) ≡ false
range_lacks p a n none =
    list_any_none p (range_with_len a n) (λ k d here.
    let small : k < n = omega (arith, here, length-range_with_len a n) in
    ap p (get_or-range_with_len a n k d small) ∙ none (a + k) (omega arith) (omega arith))

any_of_map : {X Y : Type 0} (p : Y → Bool) (f : X → Y) (xs : List X) → list_any p (map f xs) ≡ list_any (λ x. p (f x)) xs
any_of_map p f [] = refl
any_of_map p f (x ∷ xs) = ap (λ b. p (f x) || b) (any_of_map p f xs)

not_equal : (a b : List ℕ) → a ≢ b → bytes_eq a b ≡ false
not_equal a b ne = elim (cases_Bool (bytes_eq a b)) [
  | inl same ↦ absurd (ne ((bytes_decides a b).0 same))
  | inr other ↦ other
]

-- whether the instances of a type up to a number have a text for a name
pub named_index : (name text : List ℕ) (i max : ℕ) → max < 2 ^ 64 → text ≡ instance_name name i → 1 ≤ i → i < 2 ^ 64
    → nat_le i max ≡ is_named (map (instance_name name) (range_with_len 1 max)) text
named_index name text i max few is some small =
    sym (any_of_map (bytes_eq text) (instance_name name) (range_with_len 1 max) ∙ elim (cases_lt max i) [
      | inr within ↦ range_has (λ k. bytes_eq text (instance_name name k)) 1 max i some (omega arith) ((bytes_decides text (instance_name name i)).1 is) ∙ sym (le-leb i max within)
      | inl beyond ↦
          range_lacks (λ k. bytes_eq text (instance_name name k)) 1 max
          (λ k low high. not_equal text (instance_name name k) (λ e. let same = alike name i k small (omega arith) (sym is ∙ e) in absurd (omega (arith, same))))
          ∙ sym (lt-leb i max beyond)
    ])

pub named_by_none : (name text : List ℕ) (max : ℕ) → max < 2 ^ 64 → ((i : ℕ) → 1 ≤ i → i < 2 ^ 64 → text ≢ instance_name name i)
    → false ≡ is_named (map (instance_name name) (range_with_len 1 max)) text
named_by_none name text max few none =
    sym (any_of_map (bytes_eq text) (instance_name name) (range_with_len 1 max) ∙ range_lacks (λ k. bytes_eq text (instance_name name k)) 1 max
    (λ k low high. not_equal text (instance_name name k) (none k low (omega arith))))

-- both in one, where an answer for an index says P, and P that it is the test
pub named_where : (name text : List ℕ) (found : Option ℕ) (max : ℕ) (answer : Bool) → max < 2 ^ 64 → IfSome found (λ i. (text ≡ instance_name name i) × (1 ≤ i) × (i < 2 ^ 64))
    → IfNone found ((i : ℕ) → 1 ≤ i → i < 2 ^ 64 → text ≢ instance_name name i) → (P : ℕ → Type 0) → MatchOption found (answer ≡ false) P → ((i : ℕ) → P i → answer ≡ nat_le i max)
    → answer ≡ is_named (map (instance_name name) (range_with_len 1 max)) text
named_where name text (Some i) max answer few is none P said tells = tells i said ∙ named_index name text i max few is.0 is.1 is.2
named_where name text None max answer few is none P said tells = said ∙ named_by_none name text max few none

-- the names by the types that were read
pub same_names : (rs : List Data) → flat_map names_of_type (map type_row rs) ≡ flat_map instance_names rs
same_names rs = flat_map-map names_of_type type_row rs

-- whether a row has an instance of a name
abbrev pub owns : List ℕ → Data → Bool
owns text row = is_named (instance_names row) text

-- what a look-up finds at the row that a loop is at
pub found_here : (text : List ℕ) (vs : List Value) (i : ℕ) (d : Value) (all : Option Data) → i < length vs → true ≡ owns text (view (get_or vs i d)) → find (owns text) (map view (drop i vs)) ≡ all → Some (view (get_or vs i d)) ≡ all
found_here text vs i d all here found before =
    ap (λ b. cond b (Some (view (get_or vs i d))) (find (owns text) (map view (drop (i + 1) vs)))) found
    ∙ sym (at_drop_more (λ l. find (owns text) (map view l)) vs i d here)
    ∙ before

-- a name is that of a component where some row has an instance of it
pub owned_or_not : (text : List ℕ) (rs : List Data) → is_some (find (owns text) rs) ≡ is_named (flat_map instance_names rs) text
owned_or_not text [] = refl
owned_or_not text (row ∷ rs) = chosen (owns text row) (owned_or_not text rs) ∙ sym (list_any-append (bytes_eq text) (instance_names row) (flat_map instance_names rs))
  where
    chosen : (b : Bool) → is_some (find (owns text) rs) ≡ is_named (flat_map instance_names rs) text → is_some (cond b (Some row) (find (owns text) rs)) ≡ (b || is_named (flat_map instance_names rs) text)
    chosen true rest = refl
    chosen false rest = rest

pub still_some : {X Y : Type 0} (f : X → Y) (o : Option X) → is_some o ≡ is_some (option_map f o)
still_some f None = refl
still_some f (Some x) = refl

-- one more instance's name
pub one_more : (names : List (String Global)) (before : List (List ℕ)) (name : List ℕ) (i : ℕ) (s : String Global) → map string_bytes names ≡ before ++ map (instance_name name) (range_with_len 1 i) → string_bytes s ≡ instance_name name (i + 1)
    → map string_bytes (names ++ s ∷ []) ≡ before ++ map (instance_name name) (range_with_len 1 (i + 1))
one_more names before name i s so_far is =
    map-append string_bytes names (s ∷ [])
    ∙ ap (λ l. l ++ string_bytes s ∷ []) so_far
    ∙ append_assoc before (map (instance_name name) (range_with_len 1 i)) (string_bytes s ∷ [])
    ∙ ap (λ t. before ++ (map (instance_name name) (range_with_len 1 i) ++ t ∷ [])) is
    ∙ ap (λ l. before ++ l) (sym (map-range_with_len_more (instance_name name) 1 i (i + 1) (omega arith)))
