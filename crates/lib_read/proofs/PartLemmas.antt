-- The parts of a document's faults, each before the next.
use Rattle.std.proofs.Common.{◌≡◌, codes, ℕ, ◌-◌, ◌≤◌, Bool, true, false, cond, nat_lt, List, [], ◌∷◌, ◌++◌, take, length, Option, Some, None, refl, sym, ap, ◌∙◌, arith}
use Rattle.std.specs.List.{AllByRecursion}
use Rattle.std.specs.Str.{bytes_eq}
use Rattle.toml.specs.Data.{Data}
use Rattle.arch_model.specs.declared.limits.TheConstants.{COMPONENTS, EDGES}
use Rattle.arch_model.specs.Template.{components_of, edges_of}
use Rattle.lib_read.specs.declared.fault.LibClass.{LibClass}
use Rattle.lib_read.specs.declared.fault.LibClass.TheVariants.{UnknownKey, MissingKey, WrongKind, BadName, Duplicate, UnknownName, Range, TooMany}
use Rattle.lib_read.specs.declared.fault.TableName.{TableName}
use Rattle.lib_read.specs.declared.fault.TableName.TheVariants.{Library, Types, Links, Patterns, Requires}
use Rattle.lib_read.specs.declared.fault.LibFault.{LibFault}
use Rattle.lib_read.specs.Fault.{class_rank, table_rank, least}
use Rattle.lib_read.specs.Tree.{text_at, rows_of}
use Rattle.lib_read.specs.Schema.{table_keys}
use Rattle.lib_read.specs.Faults.{fault, faulty_keys, row_faults, table_faults, class_faults, is_repeat, repeat_faults, repeated_names, repeated_links, link_ends, same_ends, plain_faults, judged_faults, limit_faults}
use Rattle.lib_read.specs.Rows.{type_names, types_of, links_of}
use Rattle.lib_read.proofs.LeastLemmas.{NotBefore, AreBefore, InRow, InTable, InTables, UpTo, From, all_weaker, all_both, apart, later_table, row_faults_in, rest_in, row_before_tables, table_before_tables, classes_apart, least-here, least-past}

-- the tables of one class
module _ (names : List (List ℕ)) (c : LibClass) (top : Data) where
  table_in : (t : TableName) → AllByRecursion (InTable c t 1) (table_faults names c t top)
  table_in t = rest_in c t (λ p. row_faults top names c t p.0 p.1) (λ p. row_faults_in c t p.0 (faulty_keys top names c (table_keys t p.1) p.1)) 1 (rows_of t top)

  as_tables : (t : TableName) (n : ℕ) → n ≤ table_rank t → AllByRecursion (InTables c n) (table_faults names c t top)
  as_tables t n low = all_weaker (InTable c t 1) (InTables c n) (λ f h. record { class = h.class; table = omega (arith, ap table_rank h.table) }) (table_faults names c t top) (table_in t)

  -- the faults of the tables that come later
  abbrev after_links : List LibFault
  after_links = table_faults names c Patterns top ++ table_faults names c Requires top

  abbrev after_types : List LibFault
  after_types = table_faults names c Links top ++ after_links

  abbrev after_library : List LibFault
  after_library = table_faults names c Types top ++ after_types

  from_patterns : (n : ℕ) → n ≤ 3 → AllByRecursion (InTables c n) after_links
  from_patterns n low = all_both (InTables c n) (table_faults names c Patterns top) (table_faults names c Requires top) (as_tables Patterns n low) (as_tables Requires n (omega arith))

  from_links : (n : ℕ) → n ≤ 2 → AllByRecursion (InTables c n) after_types
  from_links n low = all_both (InTables c n) (table_faults names c Links top) after_links (as_tables Links n low) (from_patterns n (omega arith))

  from_types : AllByRecursion (InTables c 1) after_library
  from_types = all_both (InTables c 1) (table_faults names c Types top) after_types (as_tables Types 1 (omega arith)) (from_links 1 (omega arith))

  library_first : AreBefore (row_faults top names c Library 0 top) after_library
  library_first = row_before_tables c Library 0 (row_faults top names c Library 0 top) after_library (row_faults_in c Library 0 (faulty_keys top names c (table_keys Library top) top)) from_types

  types_next : AreBefore (table_faults names c Types top) after_types
  types_next = table_before_tables c Types 1 (table_faults names c Types top) after_types (table_in Types) (from_links 2 (omega arith))

  links_next : AreBefore (table_faults names c Links top) after_links
  links_next = table_before_tables c Links 1 (table_faults names c Links top) after_links (table_in Links) (from_patterns 3 (omega arith))

  patterns_next : AreBefore (table_faults names c Patterns top) (table_faults names c Requires top)
  patterns_next = table_before_tables c Patterns 1 (table_faults names c Patterns top) (table_faults names c Requires top) (table_in Patterns) (as_tables Requires 4 (omega arith))

  -- where the first table with a fault is found
  pub in_library : (f : LibFault) → Some f ≡ least (row_faults top names c Library 0 top) → Some f ≡ least (class_faults names c top)
  in_library f e = sym (least-here (row_faults top names c Library 0 top) after_library f library_first e)

  pub past_library : None ≡ least (row_faults top names c Library 0 top) → least (class_faults names c top) ≡ least after_library
  past_library e = least-past (row_faults top names c Library 0 top) after_library e

  pub in_types : (f : LibFault) → None ≡ least (row_faults top names c Library 0 top) → Some f ≡ least (table_faults names c Types top) → Some f ≡ least (class_faults names c top)
  in_types f e g = sym (past_library e ∙ least-here (table_faults names c Types top) after_types f types_next g)

  pub past_types : None ≡ least (row_faults top names c Library 0 top) → None ≡ least (table_faults names c Types top) → least (class_faults names c top) ≡ least after_types
  past_types e g = past_library e ∙ least-past (table_faults names c Types top) after_types g

  pub in_links : (f : LibFault) → None ≡ least (row_faults top names c Library 0 top) → None ≡ least (table_faults names c Types top) → Some f ≡ least (table_faults names c Links top) → Some f ≡ least (class_faults names c top)
  in_links f e g h = sym (past_types e g ∙ least-here (table_faults names c Links top) after_links f links_next h)

  pub past_links : None ≡ least (row_faults top names c Library 0 top) → None ≡ least (table_faults names c Types top) → None ≡ least (table_faults names c Links top) → least (class_faults names c top) ≡ least after_links
  past_links e g h = past_types e g ∙ least-past (table_faults names c Links top) after_links h

  pub in_patterns : (f : LibFault) → None ≡ least (row_faults top names c Library 0 top) → None ≡ least (table_faults names c Types top) → None ≡ least (table_faults names c Links top) → Some f ≡ least (table_faults names c Patterns top)
      → Some f ≡ least (class_faults names c top)
  in_patterns f e g h i = sym (past_links e g h ∙ least-here (table_faults names c Patterns top) (table_faults names c Requires top) f patterns_next i)

  pub past_patterns : None ≡ least (row_faults top names c Library 0 top) → None ≡ least (table_faults names c Types top) → None ≡ least (table_faults names c Links top) → None ≡ least (table_faults names c Patterns top)
      → least (class_faults names c top) ≡ least (table_faults names c Requires top)
  past_patterns e g h i = past_links e g h ∙ least-past (table_faults names c Patterns top) (table_faults names c Requires top) i

  of_class : AllByRecursion (λ f. f.class ≡ c) (class_faults names c top)
  of_class = all_both (λ f. f.class ≡ c) (row_faults top names c Library 0 top) after_library
      (all_weaker (InRow c Library 0) (λ f. f.class ≡ c) (λ f h. h.class) (row_faults top names c Library 0 top) (row_faults_in c Library 0 (faulty_keys top names c (table_keys Library top) top)))
      (all_weaker (InTables c 1) (λ f. f.class ≡ c) (λ f h. h.class) after_library from_types)

  class_up : (n : ℕ) → class_rank c ≤ n → AllByRecursion (UpTo n) (class_faults names c top)
  class_up n low = all_weaker (λ f. f.class ≡ c) (UpTo n) (λ f h. omega (arith, ap class_rank h)) (class_faults names c top) of_class

  class_from : (n : ℕ) → n ≤ class_rank c → AllByRecursion (From n) (class_faults names c top)
  class_from n low = all_weaker (λ f. f.class ≡ c) (From n) (λ f h. omega (arith, ap class_rank h)) (class_faults names c top) of_class

-- a table's repeats
repeat_in : {X : Type 0} (same : X → X → Bool) (value : Data → Option X) (t : TableName) (key : List ℕ) (top : Data) → AllByRecursion (InTable Duplicate t 1) (repeat_faults same value t key top)
repeat_in same value t key top = rest_in Duplicate t (λ p. cond (is_repeat same value (take (p.0 - 1) (rows_of t top)) p.1) (fault Duplicate t p.0 key ∷ []) [])
    (λ p. at_most_one p.0 (is_repeat same value (take (p.0 - 1) (rows_of t top)) p.1)) 1 (rows_of t top)
  where
    at_most_one : (n : ℕ) (b : Bool) → AllByRecursion (InRow Duplicate t n) (cond b (fault Duplicate t n key ∷ []) [])
    at_most_one n true = (record { class = refl; table = refl; position = refl }, tt)
    at_most_one n false = tt

names_in : (top : Data) → AllByRecursion (InTable Duplicate Types 1) (repeated_names top)
names_in top = repeat_in bytes_eq (text_at (codes "name")) Types (codes "name") top

links_in : (top : Data) → AllByRecursion (InTable Duplicate Links 1) (repeated_links top)
links_in top = repeat_in same_ends link_ends Links (codes "to") top

table_up : (t : TableName) (fs : List LibFault) → AllByRecursion (InTable Duplicate t 1) fs → AllByRecursion (UpTo 7) fs
table_up t fs h = all_weaker (InTable Duplicate t 1) (UpTo 7) (λ f k. omega (arith, ap class_rank k.class)) fs h

table_from : (t : TableName) (fs : List LibFault) → AllByRecursion (InTable Duplicate t 1) fs → AllByRecursion (From 7) fs
table_from t fs h = all_weaker (InTable Duplicate t 1) (From 7) (λ f k. omega (arith, ap class_rank k.class)) fs h

-- the classes in their order
abbrev names_and_ranges : Data → List LibFault
names_and_ranges top = class_faults (type_names top) UnknownName top ++ class_faults (type_names top) Range top

last_from : (top : Data) (n : ℕ) → n ≤ 8 → AllByRecursion (From n) (names_and_ranges top)
last_from top n low = all_both (From n) (class_faults (type_names top) UnknownName top) (class_faults (type_names top) Range top) (class_from (type_names top) UnknownName top n low) (class_from (type_names top) Range top n (omega arith))

last_up : (top : Data) → AllByRecursion (UpTo 9) (names_and_ranges top)
last_up top = all_both (UpTo 9) (class_faults (type_names top) UnknownName top) (class_faults (type_names top) Range top) (class_up (type_names top) UnknownName top 9 (omega arith)) (class_up (type_names top) Range top 9 (omega arith))

pub unknown_before : (top : Data) → AreBefore (class_faults (type_names top) UnknownName top) (class_faults (type_names top) Range top)
unknown_before top = classes_apart 8 (class_faults (type_names top) UnknownName top) (class_faults (type_names top) Range top) (class_up (type_names top) UnknownName top 8 (omega arith)) (class_from (type_names top) Range top 9 (omega arith))

pub links_before : (top : Data) → AreBefore (repeated_links top) (names_and_ranges top)
links_before top = classes_apart 7 (repeated_links top) (names_and_ranges top) (table_up Links (repeated_links top) (links_in top)) (last_from top 8 (omega arith))

before_both : (fs gs hs : List LibFault) → AreBefore fs gs → AreBefore fs hs → AreBefore fs (gs ++ hs)
before_both [] gs hs h k = tt
before_both (f ∷ fs) gs hs h k = (all_both (NotBefore f) gs hs h.0 k.0, before_both fs gs hs h.1 k.1)

types_then_links : (f g : LibFault) → InTable Duplicate Types 1 f → InTable Duplicate Links 1 g → NotBefore f g
types_then_links f g a b = later_table f g (b.class ∙ sym a.class) (omega (arith, ap table_rank a.table, ap table_rank b.table))

pub names_before : (top : Data) → AreBefore (repeated_names top) (repeated_links top ++ names_and_ranges top)
names_before top =
    before_both (repeated_names top) (repeated_links top) (names_and_ranges top)
    (apart (InTable Duplicate Types 1) (InTable Duplicate Links 1) types_then_links (repeated_names top) (repeated_links top) (names_in top) (links_in top))
    (classes_apart 7 (repeated_names top) (names_and_ranges top) (table_up Types (repeated_names top) (names_in top)) (last_from top 8 (omega arith)))

pub kind_before : (top : Data) → AreBefore (class_faults [] WrongKind top) (class_faults [] BadName top)
kind_before top = classes_apart 5 (class_faults [] WrongKind top) (class_faults [] BadName top) (class_up [] WrongKind top 5 (omega arith)) (class_from [] BadName top 6 (omega arith))

pub missing_before : (top : Data) → AreBefore (class_faults [] MissingKey top) (class_faults [] WrongKind top ++ class_faults [] BadName top)
missing_before top = classes_apart 4 (class_faults [] MissingKey top) (class_faults [] WrongKind top ++ class_faults [] BadName top) (class_up [] MissingKey top 4 (omega arith))
    (all_both (From 5) (class_faults [] WrongKind top) (class_faults [] BadName top) (class_from [] WrongKind top 5 (omega arith)) (class_from [] BadName top 5 (omega arith)))

pub key_before : (top : Data) → AreBefore (class_faults [] UnknownKey top) (class_faults [] MissingKey top ++ (class_faults [] WrongKind top ++ class_faults [] BadName top))
key_before top = classes_apart 3 (class_faults [] UnknownKey top) (class_faults [] MissingKey top ++ (class_faults [] WrongKind top ++ class_faults [] BadName top)) (class_up [] UnknownKey top 3 (omega arith))
    (all_both (From 4) (class_faults [] MissingKey top) (class_faults [] WrongKind top ++ class_faults [] BadName top) (class_from [] MissingKey top 4 (omega arith))
    (all_both (From 4) (class_faults [] WrongKind top) (class_faults [] BadName top) (class_from [] WrongKind top 4 (omega arith)) (class_from [] BadName top 4 (omega arith))))

plain_up : (top : Data) (n : ℕ) → 6 ≤ n → AllByRecursion (UpTo n) (plain_faults top)
plain_up top n low =
    all_both (UpTo n) (class_faults [] UnknownKey top) (class_faults [] MissingKey top ++ (class_faults [] WrongKind top ++ class_faults [] BadName top)) (class_up [] UnknownKey top n (omega arith))
    (all_both (UpTo n) (class_faults [] MissingKey top) (class_faults [] WrongKind top ++ class_faults [] BadName top) (class_up [] MissingKey top n (omega arith))
    (all_both (UpTo n) (class_faults [] WrongKind top) (class_faults [] BadName top) (class_up [] WrongKind top n (omega arith)) (class_up [] BadName top n (omega arith))))

pub plain_before : (top : Data) → AreBefore (plain_faults top) (repeated_names top ++ (repeated_links top ++ names_and_ranges top))
plain_before top = classes_apart 6 (plain_faults top) (repeated_names top ++ (repeated_links top ++ names_and_ranges top)) (plain_up top 6 (omega arith))
    (all_both (From 7) (repeated_names top) (repeated_links top ++ names_and_ranges top) (table_from Types (repeated_names top) (names_in top))
    (all_both (From 7) (repeated_links top) (names_and_ranges top) (table_from Links (repeated_links top) (links_in top)) (last_from top 7 (omega arith))))

limit_from : (top : Data) → AllByRecursion (From 10) (limit_faults top)
limit_from top =
    of_four (nat_lt COMPONENTS (length (components_of (types_of top)))) (nat_lt EDGES (length (edges_of (components_of (types_of top)) (links_of top)))) (nat_lt 200 (length (rows_of Patterns top))) (nat_lt 16 (length (rows_of Requires top)))
  where
    one : (key : List ℕ) → AllByRecursion (From 10) (fault TooMany Library 0 key ∷ [])
    one key = (omega arith, tt)

    of_four : (a b c d : Bool) → AllByRecursion (From 10) (cond a (fault TooMany Library 0 (codes "type") ∷ []) (cond b (fault TooMany Library 0 (codes "link") ∷ []) (cond c (fault TooMany Library 0 (codes "pattern") ∷ []) (cond d (fault TooMany Library 0 (codes "require") ∷ []) []))))
    of_four true b c d = one (codes "type")
    of_four false true c d = one (codes "link")
    of_four false false true d = one (codes "pattern")
    of_four false false false true = one (codes "require")
    of_four false false false false = tt

pub judged_before : (top : Data) → AreBefore (judged_faults top) (limit_faults top)
judged_before top = classes_apart 9 (judged_faults top) (limit_faults top)
    (all_both (UpTo 9) (plain_faults top) (repeated_names top ++ (repeated_links top ++ names_and_ranges top)) (plain_up top 9 (omega arith))
    (all_both (UpTo 9) (repeated_names top) (repeated_links top ++ names_and_ranges top) (up_two Types (repeated_names top) (names_in top))
    (all_both (UpTo 9) (repeated_links top) (names_and_ranges top) (up_two Links (repeated_links top) (links_in top)) (last_up top))))
    (limit_from top)
  where
    up_two : (t : TableName) (fs : List LibFault) → AllByRecursion (InTable Duplicate t 1) fs → AllByRecursion (UpTo 9) fs
    up_two t fs h = all_weaker (InTable Duplicate t 1) (UpTo 9) (λ f k. omega (arith, ap class_rank k.class)) fs h
