-- The faults of a document stand at positions of 32 bits.
use Rattle.std.proofs.Common.{◌≡◌, codes, ℕ, ◌+◌, ◌-◌, ◌*◌, ◌^◌, ◌<◌, ◌≤◌, Bool, true, false, cond, nat_lt, List, [], ◌∷◌, ◌++◌, take, length, Option, Some, None, option_map, IfSome, subst, arith}
use Rattle.std.specs.Str.{is_utf8, bytes_eq}
use Rattle.std.specs.List.{AllByRecursion, enumerate_from}
use Rattle.toml.specs.Data.{Data, Members, table}
use Rattle.toml.specs.Parse.{parse_document}
use Rattle.arch_model.specs.declared.limits.TheConstants.{COMPONENTS, EDGES}
use Rattle.arch_model.specs.Template.{components_of, edges_of}
use Rattle.lib_read.specs.declared.fault.LibClass.{LibClass}
use Rattle.lib_read.specs.declared.fault.LibClass.TheVariants.{UnknownKey, MissingKey, WrongKind, BadName, Duplicate, UnknownName, Range, TooMany}
use Rattle.lib_read.specs.declared.fault.TableName.{TableName}
use Rattle.lib_read.specs.declared.fault.TableName.TheVariants.{Library, Types, Links, Patterns, Requires}
use Rattle.lib_read.specs.declared.fault.LibFault.{LibFault}
use Rattle.lib_read.specs.Fault.{least}
use Rattle.lib_read.specs.Tree.{tree_of, text_at, rows_of, table_key}
use Rattle.lib_read.specs.Schema.{table_keys}
use Rattle.lib_read.specs.Faults.{fault, faulty_keys, row_faults, table_faults, class_faults, is_repeat, repeat_faults, repeated_names, repeated_links, link_ends, same_ends, plain_faults, judged_faults, limit_faults, faults_of}
use Rattle.lib_read.specs.Rows.{type_names, types_of, links_of}
use Rattle.lib_read.proofs.LeastLemmas.{all_both, least_keeps}
use Rattle.lib_read.proofs.ListFacts.{all_flat, all_of_map}
use Rattle.lib_read.proofs.RowLemmas.{FewAtKeys, document_few}

-- numbers from n on of some items
numbered : {X : Type 0} (n m : ℕ) (xs : List X) → n + length xs ≤ m + 1 → AllByRecursion (λ (p : ℕ × X). p.0 ≤ m) (enumerate_from n xs)
numbered n m [] h = tt
numbered n m (x ∷ xs) h = (omega arith, numbered (n + 1) m xs (omega arith))

-- a position of at most n
abbrev Within : ℕ → LibFault → Type 0
Within n f = f.position ≤ n

-- no fault stands past the rows of its table
module _ (n : ℕ) (top : Data) (few : (t : TableName) → length (rows_of t top) ≤ n) where
  row_within : (names : List (List ℕ)) (c : LibClass) (t : TableName) (k : ℕ) (row : Data) → k ≤ n → AllByRecursion (Within n) (row_faults top names c t k row)
  row_within names c t k row h = all_of_map (Within n) (fault c t k) (λ key. h) (faulty_keys top names c (table_keys t row) row)

  table_within : (names : List (List ℕ)) (c : LibClass) (t : TableName) → AllByRecursion (Within n) (table_faults names c t top)
  table_within names c t =
      all_flat (λ p. p.0 ≤ n) (Within n) (λ p. row_faults top names c t p.0 p.1) (λ p h. row_within names c t p.0 p.1 h) (enumerate_from 1 (rows_of t top))
      (numbered 1 n (rows_of t top) (omega (arith, few t)))

  class_within : (names : List (List ℕ)) (c : LibClass) → AllByRecursion (Within n) (class_faults names c top)
  class_within names c =
      let requirements = table_faults names c Requires top in
      let patterns = table_faults names c Patterns top ++ requirements in
      let links = table_faults names c Links top ++ patterns in
      all_both (Within n) (row_faults top names c Library 0 top) (table_faults names c Types top ++ links) (row_within names c Library 0 top (omega arith))
      (all_both (Within n) (table_faults names c Types top) links (table_within names c Types)
      (all_both (Within n) (table_faults names c Links top) patterns (table_within names c Links)
      (all_both (Within n) (table_faults names c Patterns top) requirements (table_within names c Patterns) (table_within names c Requires))))

  repeat_within : {X : Type 0} (same : X → X → Bool) (value : Data → Option X) (t : TableName) (key : List ℕ) → AllByRecursion (Within n) (repeat_faults same value t key top)
  repeat_within same value t key =
      all_flat (λ p. p.0 ≤ n) (Within n) (λ p. cond (is_repeat same value (take (p.0 - 1) (rows_of t top)) p.1) (fault Duplicate t p.0 key ∷ []) [])
      (λ p h. at_most_one p.0 h (is_repeat same value (take (p.0 - 1) (rows_of t top)) p.1)) (enumerate_from 1 (rows_of t top))
      (numbered 1 n (rows_of t top) (omega (arith, few t)))
    where
      at_most_one : (k : ℕ) → k ≤ n → (b : Bool) → AllByRecursion (Within n) (cond b (fault Duplicate t k key ∷ []) [])
      at_most_one k h true = (h, tt)
      at_most_one k h false = tt

  limit_within : AllByRecursion (Within n) (limit_faults top)
  limit_within =
      of_four (nat_lt COMPONENTS (length (components_of (types_of top)))) (nat_lt EDGES (length (edges_of (components_of (types_of top)) (links_of top)))) (nat_lt 200 (length (rows_of Patterns top))) (nat_lt 16 (length (rows_of Requires top)))
    where
      of_four : (a b c d : Bool) → AllByRecursion (Within n) (cond a (fault TooMany Library 0 (codes "type") ∷ []) (cond b (fault TooMany Library 0 (codes "link") ∷ []) (cond c (fault TooMany Library 0 (codes "pattern") ∷ []) (cond d (fault TooMany Library 0 (codes "require") ∷ []) []))))
      of_four true b c d = (omega arith, tt)
      of_four false true c d = (omega arith, tt)
      of_four false false true d = (omega arith, tt)
      of_four false false false true = (omega arith, tt)
      of_four false false false false = tt

  plain_within : AllByRecursion (Within n) (plain_faults top)
  plain_within =
      all_both (Within n) (class_faults [] UnknownKey top) (class_faults [] MissingKey top ++ (class_faults [] WrongKind top ++ class_faults [] BadName top)) (class_within [] UnknownKey)
      (all_both (Within n) (class_faults [] MissingKey top) (class_faults [] WrongKind top ++ class_faults [] BadName top) (class_within [] MissingKey)
      (all_both (Within n) (class_faults [] WrongKind top) (class_faults [] BadName top) (class_within [] WrongKind) (class_within [] BadName)))

  faults_within : AllByRecursion (Within n) (faults_of top)
  faults_within =
      let last = class_faults (type_names top) UnknownName top ++ class_faults (type_names top) Range top in
      all_both (Within n) (judged_faults top) (limit_faults top)
      (all_both (Within n) (plain_faults top) (repeated_names top ++ (repeated_links top ++ last)) plain_within
      (all_both (Within n) (repeated_names top) (repeated_links top ++ last) (repeat_within bytes_eq (text_at (codes "name")) Types (codes "name"))
      (all_both (Within n) (repeated_links top) last (repeat_within same_ends link_ends Links (codes "to"))
      (all_both (Within n) (class_faults (type_names top) UnknownName top) (class_faults (type_names top) Range top) (class_within (type_names top) UnknownName) (class_within (type_names top) Range)))))
      limit_within

-- no table of a file has more rows than twice its bytes, and one
tree_few : (bytes : List ℕ) → IfSome (tree_of bytes) (λ top. (t : TableName) → length (rows_of t top) ≤ 2 * length bytes + 1)
unfolding tree_of
tree_few bytes = read (is_utf8 bytes) (parse_document bytes) (document_few bytes)
  where
    read : (b : Bool) (o : Option Members) → IfSome o (FewAtKeys (2 * length bytes + 1)) → IfSome (cond b (option_map table o) None) (λ top. (t : TableName) → length (rows_of t top) ≤ 2 * length bytes + 1)
    read true (Some ms) h = λ t. h (table_key t)
    read true None h = tt
    read false o h = tt

-- the first fault of a document that isn't too large has a position of 32 bits
pub position_fits : (bytes : List ℕ) (top : Data) (f : LibFault) → length bytes ≤ 1048576 → tree_of bytes ≡ Some top → Some f ≡ least (faults_of top) → f.position < 2 ^ 32
position_fits bytes top f few tree found =
    let rows = subst (λ o. IfSome o (λ d. (t : TableName) → length (rows_of t d) ≤ 2 * length bytes + 1)) tree (tree_few bytes) in
    let within = least_keeps (Within (2 * length bytes + 1)) (faults_of top) f (faults_within (2 * length bytes + 1) top rows) found in
    omega arith
