-- How many elements the arrays have that stand at a TOML document's own keys.
use Rattle.std.proofs.Common.{◌≡◌, ℕ, zero, suc, ◌+◌, ◌*◌, ◌≤◌, Bool, true, false, cond, ◌&&◌, ◌==◌, List, [], ◌∷◌, ◌++◌, length, drop, slice_index, Option, Some, None, option_map, IfSome, refl, arith}
use Rattle.std.specs.Option.{option_and_then, option_map_or}
use Rattle.std.specs.Ordering.{nat_cmp, match_ordering}
use Rattle.std.specs.Cmp.Lexicographic.{slice_cmp}
use Rattle.std.specs.declared.cmp.Ordering.{Ordering}
use Rattle.std.specs.declared.cmp.Ordering.TheVariants.{Less, Equal, Greater}
use Rattle.toml_parser.specs.Lexical.{Read, first, skip_ws, skip_blank}
use Rattle.toml_parser.specs.Strings.{Key, starts_string, quoted, recursion_limit}
use Rattle.toml_parser.specs.Numbers.{unquoted}
use Rattle.toml_parser.specs.declared.scalar.Scalar.{Scalar}
use Rattle.toml_parser.specs.declared.scalar.Scalar.TheVariants.{Boolean, Integer, Float, Datetime}
use Rattle.toml.specs.Data.{Data, string, array, table, Items, no_items, item, Members, no_members, same_key, get_member, push_item}
use Rattle.toml.specs.Tables.{Origin, implicit, dotted, header, Node, value, open_table, open_array, Nodes, no_nodes, node, get_node, insert, replace, close_node, close, Edit, header_node, dot_node, by_header, by_dot, along_header, along_dots, Definition, key_value, std_table, array_table, Expression, new_node, redefine, at_found, at_key, put, Document, define_as, define}
use Rattle.toml.specs.Parse.{read_map, items, members, keyval, key_equals, after_byte, atom, scalar_data, val, header_key, expression, ends_line, line, lines, skip_bom, parse_document}
use Rattle.lib_read.proofs.RestLemmas.{Leaves, key_equals_rest, line_rest, skip_from_rest, skip_bom_rest}
use Rattle.lib_read.specs.Tree.{items_list, elements}

-- how many elements a value has: none where it is no array
abbrev rows : Data → ℕ
rows d = length (elements d)

length-push_item : (ds : Items) (d : Data) → length (items_list (push_item ds d)) ≡ length (items_list ds) + 1
length-push_item no_items d = refl
length-push_item (item e ds) d = omega (arith, length-push_item ds d)

-- each value that stands at a key has at most n elements
abbrev Few : ℕ → Nodes → Type 0
Few n no_nodes = Unit {0}
Few n (node k x ns) = (rows (close_node x) ≤ n) × Few n ns

few_more : (n m : ℕ) → n ≤ m → (ns : Nodes) → Few n ns → Few m ns
few_more n m le no_nodes h = tt
few_more n m le (node k x ns) h = (omega (arith, h.0), few_more n m le ns h.1)

-- which stays so where a key gets a node with at most n elements
few_chosen : (n : ℕ) (b : Bool) (x y : Nodes) → Few n x → Few n y → Few n (cond b x y)
few_chosen n true x y h k = h
few_chosen n false x y h k = k

few_ordered : (n : ℕ) (o : Ordering) (x y z : Nodes) → Few n x → Few n y → Few n z → Few n (match_ordering o x y z)
few_ordered n Less x y z h k l = h
few_ordered n Equal x y z h k l = k
few_ordered n Greater x y z h k l = l

few_inserted : (n : ℕ) (k : List ℕ) (x : Node) (ns : Nodes) → rows (close_node x) ≤ n → Few n ns → Few n (insert k x ns)
few_inserted n k x no_nodes few h = (few, tt)
few_inserted n k x (node l y ns) few h =
    few_ordered n (slice_cmp nat_cmp k l) (node k x (node l y ns)) (node l x ns) (node l y (insert k x ns))
    (few, h) (few, h.1) (h.0, few_inserted n k x ns few h.1)

few_replaced : (n : ℕ) (k : List ℕ) (x : Node) (ns : Nodes) → rows (close_node x) ≤ n → Few n ns → Few n (replace k x ns)
few_replaced n k x no_nodes few h = tt
few_replaced n k x (node l y ns) few h =
    few_chosen n (same_key k l) (node l x ns) (node l y (replace k x ns)) (few, h.1) (h.0, few_replaced n k x ns few h.1)

-- a look-up finds a node with at most n elements
few_found : (n : ℕ) (k : List ℕ) (ns : Nodes) → Few n ns → IfSome (get_node k ns) (λ x. rows (close_node x) ≤ n)
few_found n k no_nodes h = tt
few_found n k (node l x ns) h = here (same_key k l) h.0 (few_found n k ns h.1)
  where
    here : (b : Bool) → rows (close_node x) ≤ n → IfSome (get_node k ns) (λ y. rows (close_node y) ≤ n) → IfSome (cond b (Some x) (get_node k ns)) (λ y. rows (close_node y) ≤ n)
    here true few rest = few
    here false few rest = rest

-- a new table, or a node with at most m elements in place of another
module _ (m : ℕ) (k : List ℕ) (ns : Nodes) (few : Few m ns) where
  few_opened : (origin : Origin) (o : Option Nodes) → IfSome (option_map (λ new. insert k (open_table origin new) ns) o) (Few m)
  few_opened origin None = tt
  few_opened origin (Some new) = few_inserted m k (open_table origin new) ns (omega arith) few

  few_placed : (o : Option Node) → IfSome o (λ x. rows (close_node x) ≤ m) → IfSome (option_map (λ new. replace k new ns) o) (Few m)
  few_placed None h = tt
  few_placed (Some x) h = few_replaced m k x ns h few

few_table : (m : ℕ) (origin : Origin) (o : Option Nodes) → IfSome (option_map (open_table origin) o) (λ x. rows (close_node x) ≤ m)
few_table m origin None = tt
few_table m origin (Some ns) = omega arith

few_array : (m : ℕ) (done : Items) (o : Option Nodes) → length (items_list done) + 1 ≤ m → IfSome (option_map (open_array done) o) (λ x. rows (close_node x) ≤ m)
few_array m done None h = tt
few_array m done (Some ns) h = omega (arith, length-push_item done (table (close ns)))

-- a change below a key leaves the number of its elements as it is
few_by_header : (m : ℕ) (edit : Edit) (x : Node) → rows (close_node x) ≤ m → IfSome (header_node edit x) (λ y. rows (close_node y) ≤ m)
few_by_header m edit (value d) h = tt
few_by_header m edit (open_table origin inner) h = few_table m origin (edit inner)
few_by_header m edit (open_array done last) h = few_array m done (edit last) (omega (arith, length-push_item done (table (close last))))

few_by_dot : (m : ℕ) (edit : Edit) (x : Node) → IfSome (dot_node edit x) (λ y. rows (close_node y) ≤ m)
few_by_dot m edit (value d) = tt
few_by_dot m edit (open_table header inner) = tt
few_by_dot m edit (open_table implicit inner) = few_table m dotted (edit inner)
few_by_dot m edit (open_table dotted inner) = few_table m dotted (edit inner)
few_by_dot m edit (open_array done last) = tt

-- so a change of the table at the end of a path keeps the bound, or is one of this table
few_header_step : (m : ℕ) (k : List ℕ) (edit : Edit) (ns : Nodes) (o : Option Node) → Few m ns → IfSome o (λ x. rows (close_node x) ≤ m) → IfSome (by_header k edit ns o) (Few m)
few_header_step m k edit ns None few h = few_opened m k ns few implicit (edit no_nodes)
few_header_step m k edit ns (Some x) few h = few_placed m k ns few (header_node edit x) (few_by_header m edit x h)

few_dot_step : (m : ℕ) (k : List ℕ) (edit : Edit) (ns : Nodes) (o : Option Node) → Few m ns → IfSome (by_dot k edit ns o) (Few m)
few_dot_step m k edit ns None few = few_opened m k ns few dotted (edit no_nodes)
few_dot_step m k edit ns (Some x) few = few_placed m k ns few (dot_node edit x) (few_by_dot m edit x)

few_along_header : (m : ℕ) (path : List (List ℕ)) (edit : Edit) (ns : Nodes) → Few m ns → IfSome (edit ns) (Few m) → IfSome (along_header path edit ns) (Few m)
unfolding along_header
few_along_header m [] edit ns few h = h
few_along_header m (k ∷ path) edit ns few h = few_header_step m k (along_header path edit) ns (get_node k ns) few (few_found m k ns few)

few_along_dots : (m : ℕ) (path : List (List ℕ)) (edit : Edit) (ns : Nodes) → Few m ns → IfSome (edit ns) (Few m) → IfSome (along_dots path edit ns) (Few m)
unfolding along_dots
few_along_dots m [] edit ns few h = h
few_along_dots m (k ∷ path) edit ns few h = few_dot_step m k (along_dots path edit) ns (get_node k ns) few

-- a definition whose value has at most m elements
abbrev FewDefined : ℕ → Definition → Type 0
FewDefined m (key_value d) = rows d ≤ m
FewDefined m std_table = Unit {0}
FewDefined m array_table = Unit {0}

-- a definition adds at most one element to those that a key has
few_new : (m : ℕ) (what : Definition) → 1 ≤ m → FewDefined m what → rows (close_node (new_node what)) ≤ m
few_new m (key_value d) some h = h
few_new m std_table some h = omega arith
few_new m array_table some h = some

few_again : (n : ℕ) (what : Definition) (x : Node) → rows (close_node x) ≤ n → IfSome (redefine what x) (λ y. rows (close_node y) ≤ n + 1)
few_again n (key_value d) x h = tt
few_again n std_table (value d) h = tt
few_again n std_table (open_table implicit inner) h = omega arith
few_again n std_table (open_table dotted inner) h = tt
few_again n std_table (open_table header inner) h = tt
few_again n std_table (open_array done last) h = tt
few_again n array_table (value d) h = tt
few_again n array_table (open_table origin inner) h = tt
few_again n array_table (open_array done last) h =
    omega (arith, length-push_item done (table (close last)), length-push_item (push_item done (table (close last))) (table no_members))

few_at_found : (n : ℕ) (k : List ℕ) (what : Definition) (ns : Nodes) (o : Option Node) → Few n ns → FewDefined (n + 1) what → IfSome o (λ x. rows (close_node x) ≤ n) → IfSome (at_found k what ns o) (Few (n + 1))
few_at_found n k what ns None few h found = few_inserted (n + 1) k (new_node what) ns (few_new (n + 1) what (omega arith) h) (few_more n (n + 1) (omega arith) ns few)
few_at_found n k what ns (Some x) few h found = few_placed (n + 1) k ns (few_more n (n + 1) (omega arith) ns few) (redefine what x) (few_again n what x found)

few_at_key : (n : ℕ) (k : List ℕ) (what : Definition) (ns : Nodes) → Few n ns → FewDefined (n + 1) what → IfSome (at_key k what ns) (Few (n + 1))
unfolding at_key
few_at_key n k what ns few h = few_at_found n k what ns (get_node k ns) few h (few_found n k ns few)

few_root : (m : ℕ) (path : List (List ℕ)) (o : Option Nodes) → IfSome o (Few m) → IfSome {T = Document} (option_map (λ root. (root, path)) o) (λ doc. Few m doc.0)
few_root m path None h = tt
few_root m path (Some ns) h = h

few_headed : (n : ℕ) (path : List (List ℕ)) (edit : Edit) (ns : Nodes) → Few n ns → IfSome (edit ns) (Few (n + 1)) → IfSome (along_header path edit ns) (Few (n + 1))
few_headed n path edit ns few h = few_along_header (n + 1) path edit ns (few_more n (n + 1) (omega arith) ns few) h

few_put : (n : ℕ) (key : Key) (d : Data) (ns : Nodes) → Few n ns → rows d ≤ n + 1 → IfSome (put key d ns) (Few (n + 1))
few_put n key d ns few h = few_along_dots (n + 1) key.0 (at_key key.1 (key_value d)) ns (few_more n (n + 1) (omega arith) ns few) (few_at_key n key.1 (key_value d) ns few h)

few_define_as : (n : ℕ) (doc : Document) (key : Key) (what : Definition) → Few n doc.0 → FewDefined (n + 1) what → IfSome (define_as doc key what) (λ next. Few (n + 1) next.0)
few_define_as n doc key (key_value d) few h =
    few_root (n + 1) doc.1 (along_header doc.1 (put key d) doc.0) (few_headed n doc.1 (put key d) doc.0 few (few_put n key d doc.0 few h))
few_define_as n doc key std_table few h =
    few_root (n + 1) (key.0 ++ key.1 ∷ []) (along_header key.0 (at_key key.1 std_table) doc.0) (few_headed n key.0 (at_key key.1 std_table) doc.0 few (few_at_key n key.1 std_table doc.0 few h))
few_define_as n doc key array_table few h =
    few_root (n + 1) (key.0 ++ key.1 ∷ []) (along_header key.0 (at_key key.1 array_table) doc.0) (few_headed n key.0 (at_key key.1 array_table) doc.0 few (few_at_key n key.1 array_table doc.0 few h))

-- an expression adds at most one element to an array
few_define : (n : ℕ) (doc : Document) (e : Expression) → Few n doc.0 → FewDefined (n + 1) e.1 → IfSome (define doc e) (λ next. Few (n + 1) next.0)
unfolding define
few_define n doc e few h = few_define_as n doc e.0 e.1 few h

-- a fact of what was read, where something was
record Reads {A : Type 0} (P : A → Type 0) (r : Read A) : Type 0 where
  fact : IfSome r (λ p. P p.0)

-- which is told from the parts of what was read
reads_none : {A : Type 0} (P : A → Type 0) → Reads P None
reads_none P = record { fact = tt }

reads_some : {A : Type 0} (P : A → Type 0) (a : A) (text : List ℕ) → P a → Reads P (Some (a, text))
reads_some P a text h = record { fact = h }

reads_chosen : {A : Type 0} (P : A → Type 0) (b : Bool) (x y : Read A) → Reads P x → Reads P y → Reads P (cond b x y)
reads_chosen P true x y h k = h
reads_chosen P false x y h k = k

reads_then : {A B : Type 0} (P : B → Type 0) (f : A → Read B) (o : Option A) → ((a : A) → Reads P (f a)) → Reads P (option_and_then f o)
reads_then P f None each = reads_none P
reads_then P f (Some a) each = each a

reads_after : {A B : Type 0} (P : B → Type 0) (m : ℕ) (f : A × List ℕ → Read B) (r : Read A) → Leaves m r → ((p : A × List ℕ) → length p.1 ≤ m → Reads P (f p)) → Reads P (option_and_then f r)
reads_after P m f None h each = reads_none P
reads_after P m f (Some p) h each = each p h.rest

reads_mapped : {A B : Type 0} (P : A → Type 0) (Q : B → Type 0) (f : A → B) (r : Read A) → Reads P r → ((a : A) → P a → Q (f a)) → Reads Q (option_map (λ p. (f p.0, p.1)) r)
reads_mapped P Q f None h each = reads_none Q
reads_mapped P Q f (Some p) h each = reads_some Q (f p.0) p.1 (each p.0 h.fact)

reads_as : {A B : Type 0} (Q : B → Type 0) (f : A → B) (r : Read A) → ((a : A) → Q (f a)) → Reads Q (option_map (λ p. (f p.0, p.1)) r)
reads_as Q f None each = reads_none Q
reads_as Q f (Some p) each = reads_some Q (f p.0) p.1 (each p.0)

-- at most m elements
abbrev AtMost : ℕ → Items → Type 0
AtMost m ds = length (items_list ds) ≤ m

-- an array has at most as many elements as the text has bytes, so any value has
items_few : (val : List ℕ → Read Data) (n m : ℕ) (found : Items) (text : List ℕ) → length (items_list found) + n ≤ m → Reads (AtMost m) (items val n found text)
unfolding items
items_few val zero m found text h = reads_none (AtMost m)
items_few val (suc n) m found text h =
    let few : length (items_list found) ≤ m = omega arith in
    let more : (d : Data) (t : List ℕ) → Reads (AtMost m) (items val n (push_item found d) t) = λ d t. items_few val n m (push_item found d) t (omega (arith, length-push_item found d)) in
    search (reads_some, reads_chosen, reads_then, more)

scalar_few : (m : ℕ) (x : Scalar) → rows (scalar_data x) ≤ m
scalar_few m (Boolean b) = omega arith
scalar_few m (Integer z) = omega arith
scalar_few m (Float x) = omega arith
scalar_few m (Datetime dt) = omega arith

abbrev FewRows : ℕ → Data → Type 0
FewRows m d = rows d ≤ m

atom_few : (text : List ℕ) (m : ℕ) → Reads (FewRows m) (atom text)
unfolding atom
atom_few text m =
    reads_chosen (FewRows m) (starts_string text) (read_map string (quoted text)) (read_map scalar_data (unquoted text))
    (reads_as (FewRows m) string (quoted text) (λ s. omega arith)) (reads_as (FewRows m) scalar_data (unquoted text) (scalar_few m))

val_few : (depth : ℕ) (text : List ℕ) (m : ℕ) → length text ≤ m → Reads (FewRows m) (val depth text)
unfolding val
val_few zero text m h = atom_few text m
val_few (suc depth) text m h =
    let an_array = items (val depth) (length text) no_items (drop 1 text) in
    let a_table = members (val depth) (length text) no_nodes (drop 1 text) in
    reads_chosen (FewRows m) (first text == 91) (read_map array an_array) (cond (first text == 123) (read_map table a_table) (atom text))
    (reads_mapped (AtMost m) (FewRows m) array an_array (items_few (val depth) (length text) m no_items (drop 1 text) (omega arith)) (λ ds h. h))
    (reads_chosen (FewRows m) (first text == 123) (read_map table a_table) (atom text) (reads_as (FewRows m) table a_table (λ ms. omega arith)) (atom_few text m))

-- an expression whose value has at most m elements
abbrev FewInLine : ℕ → Expression → Type 0
FewInLine m e = FewDefined m e.1

keyval_few : (depth : ℕ) (text : List ℕ) (m : ℕ) → length text ≤ m → Reads {A = Key × Data} (λ e. rows e.1 ≤ m) (keyval (val depth) text)
keyval_few depth text m h =
    reads_after (λ e. rows e.1 ≤ m) m (λ k. read_map (λ d. (k.0, d)) (val depth k.1)) (key_equals text) (key_equals_rest text m h)
    (λ k l. reads_mapped (FewRows m) (λ e. rows e.1 ≤ m) (λ d. (k.0, d)) (val depth k.1) (val_few depth k.1 m l) (λ d few. few))

expression_few : (text : List ℕ) (m : ℕ) → length text ≤ m → Reads (FewInLine m) (expression text)
unfolding expression
expression_few text m h =
    let after = λ (k : Key × List ℕ). option_map (λ (rest : List ℕ). ((k.0, array_table), rest)) (after_byte 93 k.1) in
    let heads = option_and_then after (header_key (drop 2 text)) in
    let head = read_map (λ k. (k, std_table)) (header_key (drop 1 text)) in
    let pair = read_map (λ p. (p.0, key_value p.1)) (keyval (val recursion_limit) text) in
    reads_chosen (FewInLine m) (first text == 91 && slice_index text 1 == 91) heads (cond (first text == 91) head pair)
    (reads_then (FewInLine m) after (header_key (drop 2 text)) (λ k. at_header k.0 (after_byte 93 k.1)))
    (reads_chosen (FewInLine m) (first text == 91) head pair
    (reads_as (FewInLine m) (λ k. (k, std_table)) (header_key (drop 1 text)) (λ k. tt))
    (reads_mapped (λ e. rows e.1 ≤ m) (FewInLine m) (λ p. (p.0, key_value p.1)) (keyval (val recursion_limit) text) (keyval_few recursion_limit text m h) (λ p few. few)))
  where
    at_header : (k : Key) (o : Option (List ℕ)) → Reads (FewInLine m) (option_map (λ rest. ((k, array_table), rest)) o)
    at_header k None = reads_none (FewInLine m)
    at_header k (Some rest) = reads_some (FewInLine m) (k, array_table) rest tt

-- an expression and its rest, with no more than m bytes or elements
abbrev LineFits : ℕ → Expression × List ℕ → Type 0
LineFits m e = (length e.1 ≤ m) × FewInLine m e.0

both_hold : {A : Type 0} (m : ℕ) (P : A → Type 0) (r : Read A) → Leaves m r → Reads P r → IfSome r (λ p. (length p.1 ≤ m) × P p.0)
both_hold m P None h k = tt
both_hold m P (Some p) h k = (h.rest, k.fact)

line_few : (text : List ℕ) (m : ℕ) → length text ≤ m → Reads (FewInLine m) (line text)
unfolding line
line_few text m h = in_line (expression text) (expression_few text m h)
  where
    kept : (b : Bool) (e : Expression × List ℕ) → FewInLine m e.0 → Reads (FewInLine m) (cond b (Some e) None)
    kept true e few = reads_some (FewInLine m) e.0 e.1 few
    kept false e few = reads_none (FewInLine m)

    in_line : (r : Read Expression) → Reads (FewInLine m) r → Reads (FewInLine m) (option_and_then (λ e. cond (ends_line (skip_ws e.1)) (Some e) None) r)
    in_line None k = reads_none (FewInLine m)
    in_line (Some e) k = kept (ends_line (skip_ws e.1)) e k.fact

line_fits : (text : List ℕ) (m : ℕ) → length text ≤ m → IfSome (line text) (LineFits m)
line_fits text m h = both_hold m (FewInLine m) (line text) (line_rest text m h) (line_few text m h)

some_then : {A B : Type 0} (P : A → Type 0) (Q : B → Type 0) (f : A → Option B) (o : Option A) → IfSome o P → ((a : A) → P a → IfSome (f a) Q) → IfSome (option_and_then f o) Q
some_then P Q f None h each = tt
some_then P Q f (Some a) h each = each a h

some_chosen : {A : Type 0} (P : A → Type 0) (b : Bool) (x y : Option A) → IfSome x P → IfSome y P → IfSome (cond b x y) P
some_chosen P true x y h k = h
some_chosen P false x y h k = k

-- each line adds at most one element, and no value of a line has more than the text has bytes
lines_few : (n k m : ℕ) (doc : Document) (text : List ℕ) → Few k doc.0 → length text ≤ k → k + n ≤ m → IfSome (lines n doc text) (λ d. Few m d.0)
unfolding lines
lines_few zero k m doc text few h room = tt
lines_few (suc n) k m doc text few h room =
    let start = skip_blank text in
    let short : length start ≤ k + 1 = skip_from_rest true false text (k + 1) (omega arith) in
    let more = λ (e : Expression × List ℕ). option_and_then (λ next. lines n next e.1) (define doc e.0) in
    some_chosen (λ d. Few m d.0) (length start == 0) (Some doc) (option_and_then more (line start))
    (few_more k m (omega arith) doc.0 few)
    (some_then (LineFits (k + 1)) (λ d. Few m d.0) more (line start) (line_fits start (k + 1) short)
    (λ e fits. some_then (λ next. Few (k + 1) next.0) (λ d. Few m d.0) (λ next. lines n next e.1) (define doc e.0) (few_define k doc e.0 few fits.1)
    (λ next now. lines_few n (k + 1) m next e.1 now fits.0 (omega arith))))

-- at most n elements in what stands at each key
abbrev pub FewAtKeys : ℕ → Members → Type 0
FewAtKeys n ms = (k : List ℕ) → length (option_map_or elements (get_member k ms) []) ≤ n

found_few : (n : ℕ) (o : Ordering) (x y z : Option Data) → length (option_map_or elements x []) ≤ n → length (option_map_or elements y []) ≤ n → length (option_map_or elements z []) ≤ n
    → length (option_map_or elements (match_ordering o x y z) []) ≤ n
found_few n Less x y z h k l = h
found_few n Equal x y z h k l = k
found_few n Greater x y z h k l = l

-- the members that nodes stand for
closed_few : (n : ℕ) (ns : Nodes) → Few n ns → FewAtKeys n (close ns)
closed_few n no_nodes few k = omega arith
closed_few n (node l x ns) few k =
    let rest = closed_few n ns few.1 k in
    found_few n (slice_cmp nat_cmp k l) (get_member k (close ns)) (Some (close_node x)) (get_member k (close ns)) rest few.0 rest

-- no array at a key of a document has more elements than twice the bytes of its text, and one
pub document_few : (text : List ℕ) → IfSome (parse_document text) (FewAtKeys (2 * length text + 1))
unfolding parse_document
document_few text =
    closed (lines (suc (length text)) (no_nodes, []) (skip_bom text))
    (lines_few (suc (length text)) (length text) (2 * length text + 1) (no_nodes, []) (skip_bom text) tt (skip_bom_rest text (length text) (omega arith)) (omega arith))
  where
    closed : (o : Option Document) → IfSome o (λ d. Few (2 * length text + 1) d.0) → IfSome (option_map (λ d. close d.0) o) (FewAtKeys (2 * length text + 1))
    closed None h = tt
    closed (Some d) h = closed_few (2 * length text + 1) d.0 h
