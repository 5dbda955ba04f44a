-- What is left of a TOML text, where a piece of it was read, is no longer than the text.
use Rattle.std.proofs.Common.{ℕ, zero, suc, ◌≤◌, Bool, true, false, cond, List, [], ◌∷◌, length, drop, Option, Some, None, is_some, unwrap_or, option_map, IfSome, arith, length-drop}
use Rattle.std.specs.Option.{option_and_then}
use Rattle.toml_parser.specs.declared.scalar.Scalar.{Scalar}
use Rattle.toml_parser.specs.Lexical.{Read, first, skip_ws, skip_turn, skip_from}
use Rattle.toml_parser.specs.Strings.{hex_escape, escape_char, escape, special, at_delims, after_piece, body, trim_newline, one_line, quoted, simple_key, key_after, key}
use Rattle.toml_parser.specs.Numbers.{unquoted}
use Rattle.toml.specs.Data.{Data, Items}
use Rattle.toml.specs.Tables.{Nodes}
use Rattle.toml.specs.Parse.{after_element, key_equals, keyval, items, members, atom, val, header_key, expression, line, skip_bom}

-- at most m bytes are left where something was read
pub record Leaves {A : Type 0} (m : ℕ) (r : Read A) : Type 0 where
  pub rest : IfSome r (λ p. length p.1 ≤ m)

-- a reading that is put together from others leaves no more than they do
leaves_none : {A : Type 0} (m : ℕ) → Leaves {A = A} m None
leaves_none m = record { rest = tt }

leaves_some : {A : Type 0} (m : ℕ) (a : A) (text : List ℕ) → length text ≤ m → Leaves m (Some (a, text))
leaves_some m a text h = record { rest = h }

leaves_chosen : {A : Type 0} (m : ℕ) (b : Bool) (x y : Read A) → Leaves m x → Leaves m y → Leaves m (cond b x y)
leaves_chosen m true x y h k = h
leaves_chosen m false x y h k = k

leaves_mapped : {A B : Type 0} (m : ℕ) (f : A × List ℕ → B) (r : Read A) → Leaves m r → Leaves m (option_map (λ p. (f p, p.1)) r)
leaves_mapped m f None h = leaves_none m
leaves_mapped m f (Some p) h = leaves_some m (f p) p.1 h.rest

leaves_then : {A B : Type 0} (m : ℕ) (f : A × List ℕ → Read B) (r : Read A) → Leaves m r → ((p : A × List ℕ) → length p.1 ≤ m → Leaves m (f p)) → Leaves m (option_and_then f r)
leaves_then m f None h each = leaves_none m
leaves_then m f (Some p) h each = each p h.rest

-- what is left of a text after some bytes is no longer, nor is one of two texts that aren't
dropped : (k : ℕ) (text : List ℕ) (m : ℕ) → length text ≤ m → length (drop k text) ≤ m
dropped k text m h = omega (arith, length-drop k text)

chosen : (b : Bool) (xs ys : List ℕ) (m : ℕ) → length xs ≤ m → length ys ≤ m → length (cond b xs ys) ≤ m
chosen true xs ys m x y = x
chosen false xs ys m x y = y

-- after white space, newlines and comments no more is left
skip_ws_rest : (text : List ℕ) (m : ℕ) → length text ≤ m → length (skip_ws text) ≤ m
unfolding skip_ws
skip_ws_rest text m h = dropped _ text m h

pub skip_from_rest : (comments inside : Bool) (text : List ℕ) (m : ℕ) → length text ≤ m → length (skip_from comments inside text) ≤ m
unfolding skip_from
skip_from_rest comments inside [] m h = h
skip_from_rest comments inside (c ∷ cs) m h =
    let turn = skip_turn comments inside c (first cs) in
    chosen (is_some turn) (skip_from comments (unwrap_or turn false) cs) (c ∷ cs) m (skip_from_rest comments (unwrap_or turn false) cs m (omega arith)) h

ruleset leaving = (leaves_none, leaves_some, leaves_chosen, leaves_mapped, leaves_then, dropped, chosen, skip_ws_rest, skip_from_rest)

-- after a string, or a piece of one
hex_escape_rest : (n : ℕ) (text : List ℕ) (m : ℕ) → length text ≤ m → Leaves m (hex_escape n text)
unfolding hex_escape
hex_escape_rest n text m h = search leaving

simple_rest : (o : Option ℕ) (text : List ℕ) (m : ℕ) → length text ≤ m → Leaves m (option_map (λ c. (c, text)) o)
simple_rest None text m h = leaves_none m
simple_rest (Some c) text m h = leaves_some m c text h

escape_char_rest : (text : List ℕ) (m : ℕ) → length text ≤ m → Leaves m (escape_char text)
unfolding escape_char
escape_char_rest text m h = search (leaving, hex_escape_rest, simple_rest)

escape_rest : (multi : Bool) (text : List ℕ) (m : ℕ) → length text ≤ m → Leaves m (escape multi text)
unfolding escape
escape_rest multi text m h = search (leaving, escape_char_rest)

at_delims_rest : (delim : ℕ) (text : List ℕ) (m : ℕ) → length text ≤ m → Leaves m (at_delims delim text)
at_delims_rest delim text m h = search leaving

special_rest : (delim : ℕ) (multi : Bool) (text : List ℕ) (m : ℕ) → length text ≤ m → Leaves m (special delim multi text)
unfolding special
special_rest delim multi text m h = search (leaving, at_delims_rest, escape_rest) depth 8

after_piece_rest : (more : List ℕ → Read (List ℕ)) (piece : Option (List ℕ)) (rest : List ℕ) (m : ℕ) → length rest ≤ m → Leaves m (more rest) → Leaves m (after_piece more piece rest)
after_piece_rest more None rest m h k = leaves_some m [] rest h
after_piece_rest more (Some bytes) rest m h k = search leaving

body_rest : (delim : ℕ) (multi : Bool) (n : ℕ) (text : List ℕ) (m : ℕ) → length text ≤ m → Leaves m (body delim multi n text)
unfolding body
body_rest delim multi zero text m h = leaves_none m
body_rest delim multi (suc n) text m h =
    let more : (t : List ℕ) → length t ≤ m → Leaves m (body delim multi n t) = λ t k. body_rest delim multi n t m k in
    search (leaving, special_rest, after_piece_rest, more)

trim_newline_rest : (text : List ℕ) (m : ℕ) → length text ≤ m → length (trim_newline text) ≤ m
trim_newline_rest text m h = search leaving

one_line_rest : (text : List ℕ) (m : ℕ) → length text ≤ m → Leaves m (one_line text)
unfolding one_line
one_line_rest text m h = search (leaving, body_rest)

quoted_rest : (text : List ℕ) (m : ℕ) → length text ≤ m → Leaves m (quoted text)
unfolding quoted
quoted_rest text m h = search (leaving, body_rest, trim_newline_rest, one_line_rest)

-- after a key
simple_key_rest : (text : List ℕ) (m : ℕ) → length text ≤ m → Leaves m (simple_key text)
unfolding simple_key
simple_key_rest text m h = search (leaving, one_line_rest)

key_after_rest : (n : ℕ) (path : List (List ℕ)) (text : List ℕ) (m : ℕ) → length text ≤ m → Leaves m (key_after n path text)
unfolding key_after
key_after_rest zero path text m h = leaves_none m
key_after_rest (suc n) path text m h =
    let more : (front : List (List ℕ)) (t : List ℕ) → length t ≤ m → Leaves m (key_after n front t) = λ front t k. key_after_rest n front t m k in
    search (leaving, simple_key_rest, more) depth 8

key_rest : (text : List ℕ) (m : ℕ) → length text ≤ m → Leaves m (key text)
key_rest text m h = key_after_rest _ [] text m h

-- after a string or a scalar
scalar_rest : (o : Option Scalar) (text : List ℕ) (m : ℕ) → length text ≤ m → Leaves m (option_map (λ d. (d, text)) o)
scalar_rest None text m h = leaves_none m
scalar_rest (Some d) text m h = leaves_some m d text h

unquoted_rest : (text : List ℕ) (m : ℕ) → length text ≤ m → Leaves m (unquoted text)
unfolding unquoted
unquoted_rest text m h = search (leaving, scalar_rest)

atom_rest : (text : List ℕ) (m : ℕ) → length text ≤ m → Leaves m (atom text)
unfolding atom
atom_rest text m h = search (leaving, quoted_rest, unquoted_rest)

-- at most m bytes are left where a byte was passed
pub record Passes (m : ℕ) (o : Option (List ℕ)) : Type 0 where
  pub rest : IfSome o (λ text. length text ≤ m)

-- and so in what is put together with it
passes_byte : (b : Bool) (text : List ℕ) (m : ℕ) → length text ≤ m → Passes m (cond b (Some text) None)
passes_byte true text m h = record { rest = h }
passes_byte false text m h = record { rest = tt }

passes_chosen : (b : Bool) (text : List ℕ) (o : Option (List ℕ)) (m : ℕ) → length text ≤ m → Passes m o → Passes m (cond b (Some text) o)
passes_chosen true text o m h k = record { rest = h }
passes_chosen false text o m h k = k

passes_then : {A : Type 0} (m : ℕ) (f : List ℕ → Read A) (o : Option (List ℕ)) → Passes m o → ((t : List ℕ) → length t ≤ m → Leaves m (f t)) → Leaves m (option_and_then f o)
passes_then m f None h each = leaves_none m
passes_then m f (Some t) h each = each t h.rest

passes_mapped : {A : Type 0} (m : ℕ) (a : A) (f : List ℕ → List ℕ) (o : Option (List ℕ)) → Passes m o → ((t : List ℕ) → length t ≤ m → length (f t) ≤ m) → Leaves m (option_map (λ t. (a, f t)) o)
passes_mapped m a f None h each = leaves_none m
passes_mapped m a f (Some t) h each = leaves_some m a (f t) (each t h.rest)

same_mapped : {A : Type 0} (m : ℕ) (a : A) (o : Option (List ℕ)) → Passes m o → Leaves m (option_map (λ t. (a, t)) o)
same_mapped m a None h = leaves_none m
same_mapped m a (Some t) h = leaves_some m a t h.rest

any_then : {A B : Type 0} (m : ℕ) (f : A → Read B) (o : Option A) → ((a : A) → Leaves m (f a)) → Leaves m (option_and_then f o)
any_then m f None each = leaves_none m
any_then m f (Some a) each = each a

after_element_rest : (closing : ℕ) (text : List ℕ) (m : ℕ) → length text ≤ m → Passes m (after_element closing text)
unfolding after_element
after_element_rest closing text m h = search (leaving, passes_byte, passes_chosen)

pub key_equals_rest : (text : List ℕ) (m : ℕ) → length text ≤ m → Leaves m (key_equals text)
unfolding key_equals
key_equals_rest text m h = search (leaving, key_rest, passes_byte, passes_mapped)

-- after the elements of an array, a pair and the members of an inline table, if each value leaves no more
module _ (val : List ℕ → Read Data) (m : ℕ) (val_rest : (t : List ℕ) → length t ≤ m → Leaves m (val t)) where
  items_rest : (n : ℕ) (found : Items) (text : List ℕ) → length text ≤ m → Leaves m (items val n found text)
  unfolding items
  items_rest zero found text h = leaves_none m
  items_rest (suc n) found text h =
      let more : (front : Items) (t : List ℕ) → length t ≤ m → Leaves m (items val n front t) = λ front t k. items_rest n front t k in
      search (leaving, val_rest, after_element_rest, passes_then, more)

  keyval_rest : (text : List ℕ) → length text ≤ m → Leaves m (keyval val text)
  keyval_rest text h = search (leaving, val_rest, key_equals_rest)

  members_rest : (n : ℕ) (found : Nodes) (text : List ℕ) → length text ≤ m → Leaves m (members val n found text)
  unfolding members
  members_rest zero found text h = leaves_none m
  members_rest (suc n) found text h =
      let more : (front : Nodes) (t : List ℕ) → length t ≤ m → Leaves m (members val n front t) = λ front t k. members_rest n front t k in
      search (leaving, keyval_rest, any_then, after_element_rest, passes_then, more) depth 8

-- after a value
val_rest : (depth : ℕ) (text : List ℕ) (m : ℕ) → length text ≤ m → Leaves m (val depth text)
unfolding val
val_rest zero text m h = atom_rest text m h
val_rest (suc depth) text m h =
    let inner : (t : List ℕ) → length t ≤ m → Leaves m (val depth t) = λ t k. val_rest depth t m k in
    search (leaving, atom_rest, items_rest, members_rest, inner)

-- after a header, an expression and its line
header_key_rest : (text : List ℕ) (m : ℕ) → length text ≤ m → Leaves m (header_key text)
unfolding header_key
header_key_rest text m h = search (leaving, key_rest, passes_byte, same_mapped)

expression_rest : (text : List ℕ) (m : ℕ) → length text ≤ m → Leaves m (expression text)
unfolding expression
expression_rest text m h = search (leaving, header_key_rest, keyval_rest, val_rest, passes_byte, same_mapped) depth 9

pub line_rest : (text : List ℕ) (m : ℕ) → length text ≤ m → Leaves m (line text)
unfolding line
line_rest text m h = search (leaving, expression_rest)

-- after a byte order mark
pub skip_bom_rest : (text : List ℕ) (m : ℕ) → length text ≤ m → length (skip_bom text) ≤ m
unfolding skip_bom
skip_bom_rest text m h = search leaving
