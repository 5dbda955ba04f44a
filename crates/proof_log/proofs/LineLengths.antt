-- How many bytes a line has at most.
use Rattle.std.proofs.Common.{◌≡◌, ℕ, suc, ◌+◌, ◌*◌, ◌^◌, ◌≤◌, ◌<◌, List, [], ◌∷◌, ◌++◌, length, codes, Option, Some, None, arith, suc-mul, mul-le-mul_right}
use Rattle.std.specs.List.{flat_map, AllByRecursion}
use Rattle.std.specs.Fmt.{decimal}
use Rattle.std.proofs.lemmas.List.{length-append}
use Rattle.std.proofs.lemmas.Fmt.{length-decimal-le}
use Rattle.arch_model.specs.declared.limits.TheConstants.{COMPONENTS, MEMBERS}
use Rattle.proof_log.specs.Field.{RowName, base_row, cut_row, cost_row, Field, word, optional, trace, reason, members, AMOUNTS, TIMES, row_text, pair_text, list_text, field_text, fields_text, RowNumber, OptionalNumber}
use Rattle.proof_log.specs.Line.{version, vars, limits, takes, branches, prunes, offers, studies, redundancy, no_good, accepts, parks, reopens, optimal, infeasible, node_limit, SET_NUMBERS, small, amount}
use Rattle.proof_log.specs.Fault.{IsInRange}
use Rattle.proof_log.specs.Value.{text_of}
use Rattle.proof_log.proofs.Numbers.{IsFrom, PairInRange}

-- ---- numbers

small_length : (n : ℕ) → n < 2 ^ 32 → length (decimal n) ≤ 10
small_length n h = length-decimal-le 10 n (omega arith) (omega arith) (omega arith)

amount_length : (n : ℕ) → n < AMOUNTS → length (decimal n) ≤ 19
amount_length n h = length-decimal-le 19 n (omega arith) (omega arith) (omega arith)

times_length : (n : ℕ) → n < TIMES → length (decimal n) ≤ 13
times_length n h = length-decimal-le 13 n (omega arith) (omega arith) (omega arith)

member_length : (n : ℕ) → n < MEMBERS → length (decimal n) ≤ 3
member_length n h = length-decimal-le 3 n (omega arith) (omega arith) (omega arith)

optional_length : (o : Option ℕ) → OptionalNumber IsFrom o → length (field_text decimal (optional o)) ≤ 19
optional_length None h = omega arith
optional_length (Some n) h = amount_length n h.1

row_length : (r : RowName ℕ) → RowNumber IsFrom r → length (row_text decimal r) ≤ 11
row_length (base_row n) h = omega (arith, length-append (codes "b") (decimal n), small_length n h.1)
row_length (cut_row n) h = omega (arith, length-append (codes "c") (decimal n), small_length n h.1)
row_length cost_row h = omega arith

pair_length : (p : RowName ℕ × ℕ) → PairInRange p → length (pair_text decimal p) ≤ 25
pair_length p h = omega (arith, length-append (row_text decimal p.0) (codes "*" ++ decimal p.1), length-append (codes "*") (decimal p.1), row_length p.0 h.0, times_length p.1 h.1.1)

-- ---- lists

one_more : (a b n c : ℕ) → a ≤ c → b ≤ n * suc c → suc a + b ≤ suc n * suc c
one_more a b n c h k = omega (arith, suc-mul n (suc c))

-- the most that a list of at most k items has, where an item has at most c bytes
abbrev pub list_most : ℕ → ℕ → ℕ
list_most k c = 1 + k * suc c

module _ {A : Type 0} (text : A → List ℕ) (Good : A → Type 0) (c : ℕ) (short : (x : A) → Good x → length (text x) ≤ c) where
  others_length : (xs : List A) → AllByRecursion Good xs → length (flat_map (λ y. codes "," ++ text y) xs) ≤ length xs * suc c
  others_length [] good = omega arith
  others_length (x ∷ xs) good =
      let all : length (text x ++ flat_map (λ y. codes "," ++ text y) xs) ≡ length (text x) + length (flat_map (λ y. codes "," ++ text y) xs) = length-append (text x) (flat_map (λ y. codes "," ++ text y) xs) in
      let more = one_more (length (text x)) (length (flat_map (λ y. codes "," ++ text y) xs)) (length xs) c (short x good.0) (others_length xs good.1) in
      omega (arith, all, more)

  list_length : (k : ℕ) (xs : List A) → AllByRecursion Good xs → length xs ≤ k → length (list_text text xs) ≤ list_most k c
  list_length k [] good few = omega arith
  list_length k (x ∷ xs) good few =
      let all : length (text x ++ flat_map (λ y. codes "," ++ text y) xs) ≡ length (text x) + length (flat_map (λ y. codes "," ++ text y) xs) = length-append (text x) (flat_map (λ y. codes "," ++ text y) xs) in
      let more = one_more (length (text x)) (length (flat_map (λ y. codes "," ++ text y) xs)) (length xs) c (short x good.0) (others_length xs good.1) in
      let most : suc (length xs) * suc c ≤ k * suc c = mul-le-mul_right (suc c) few in
      omega (arith, all, more, most)

-- ---- fields

-- a field that is written with at most some number of bytes
abbrev pub IsShort : Field ℕ → ℕ → Type 0
IsShort f most = length (field_text decimal f) ≤ most

pub small_short : (n : ℕ) → IsFrom 0 (2 ^ 32) n → IsShort (small n) 10
small_short n h = small_length n h.1

pub amount_short : (n : ℕ) → IsFrom 0 AMOUNTS n → IsShort (amount n) 19
amount_short n h = amount_length n h.1

pub trace_short : (rows : List (RowName ℕ)) → AllByRecursion (RowNumber IsFrom) rows → length rows ≤ MEMBERS → IsShort (trace rows) (list_most MEMBERS 11)
trace_short rows h few = list_length (row_text decimal) (RowNumber IsFrom) 11 row_length MEMBERS rows h few

pub reason_short : (pairs : List (RowName ℕ × ℕ)) → AllByRecursion PairInRange pairs → length pairs ≤ 64 → IsShort (reason pairs) (list_most 64 25)
reason_short pairs h few = list_length (pair_text decimal) PairInRange 25 pair_length 64 pairs h few

pub members_short : (limit k : ℕ) (ns : List ℕ) → limit ≤ MEMBERS → AllByRecursion (IsFrom 0 limit) ns → length ns ≤ k → IsShort (members limit ns) (list_most k 3)
members_short limit k ns le h few = list_length decimal (IsFrom 0 limit) 3 (λ n r. member_length n (omega (arith, r.1))) k ns h few

-- each field is written with at most the bytes that are named for it
abbrev pub AreShort : List (Field ℕ) → List ℕ → Type 0
AreShort [] [] = Unit {0}
AreShort [] (n ∷ ns) = ⊥
AreShort (f ∷ fs) [] = ⊥
AreShort (f ∷ fs) (n ∷ ns) = IsShort f n × AreShort fs ns

-- a space stands behind each field, or a line feed
abbrev pub all_of_them : List ℕ → ℕ
all_of_them [] = 0
all_of_them (n ∷ ns) = suc n + all_of_them ns

next_field : (a b c n s : ℕ) → a ≤ n → b ≤ s → c ≡ suc a + b → c ≤ suc n + s
next_field a b c n s h k e = omega arith

tail_short : (fs : List (Field ℕ)) (ns : List ℕ) → AreShort fs ns → length (flat_map (λ g. codes " " ++ field_text decimal g) fs) ≤ all_of_them ns
tail_short [] [] h = omega arith
tail_short [] (n ∷ ns) h = absurd h
tail_short (f ∷ fs) [] h = absurd h
tail_short (f ∷ fs) (n ∷ ns) h =
    let rest = flat_map (λ g. codes " " ++ field_text decimal g) fs in
    let all : length ((codes " " ++ field_text decimal f) ++ rest) ≡ suc (length (field_text decimal f)) + length rest = omega (arith, length-append (codes " " ++ field_text decimal f) rest, length-append (codes " ") (field_text decimal f)) in
    next_field (length (field_text decimal f)) (length rest) (length ((codes " " ++ field_text decimal f) ++ rest)) n (all_of_them ns) h.0 (tail_short fs ns h.1) all

ended_fields : (a b c n s : ℕ) → a ≤ n → b ≤ s → c ≡ a + b → suc c ≤ suc n + s
ended_fields a b c n s h k e = omega arith

-- fields and the line feed behind them
pub fields_short : (f : Field ℕ) (fs : List (Field ℕ)) (n : ℕ) (ns : List ℕ) → IsShort f n → AreShort fs ns → suc (length (fields_text decimal (f ∷ fs))) ≤ all_of_them (n ∷ ns)
fields_short f fs n ns h k =
    let rest = flat_map (λ g. codes " " ++ field_text decimal g) fs in
    ended_fields (length (field_text decimal f)) (length rest) (length (field_text decimal f ++ rest)) n (all_of_them ns) h (tail_short fs ns k) (length-append (field_text decimal f) rest)

-- ---- lines with the line feed behind them

pub version_bytes : suc (length (text_of version)) ≤ 100
version_bytes = omega arith

pub vars_bytes : (a b : ℕ) → IsInRange (vars a b) → suc (length (text_of (vars a b))) ≤ 100
vars_bytes a b r =
    let h = fields_short (word (codes "vars")) (small a ∷ small b ∷ []) 4 (10 ∷ 10 ∷ []) (omega arith) (small_short a r.1.0.0, (small_short b r.1.1.0.0, tt)) in omega (arith, h)

pub limits_bytes : (a : ℕ) → IsInRange (limits a) → suc (length (text_of (limits a))) ≤ 100
limits_bytes a r =
    let h = fields_short (word (codes "limit")) (small a ∷ []) 5 (10 ∷ []) (omega arith) (small_short a r.1.0.0, tt) in omega (arith, h)

pub takes_bytes : (a b c : ℕ) (o : Option ℕ) → IsInRange (takes a b c o) → suc (length (text_of (takes a b c o))) ≤ 100
takes_bytes a b c o r =
    let h = fields_short (word (codes "take")) (small a ∷ small b ∷ small c ∷ optional o ∷ []) 4 (10 ∷ 10 ∷ 10 ∷ 19 ∷ []) (omega arith)
    (small_short a r.1.0.0, (small_short b r.1.1.0.0, (small_short c r.1.1.1.0.0, (optional_length o r.1.1.1.1.0.0, tt)))) in omega (arith, h)

pub branches_bytes : (a b : ℕ) (t : List (RowName ℕ)) (v : ℕ) → IsInRange (branches a b t v) → length t ≤ MEMBERS → suc (length (text_of (branches a b t v))) ≤ 9000
branches_bytes a b t v r few =
    let h = fields_short (word (codes "branch")) (small a ∷ small b ∷ trace t ∷ small v ∷ []) 6 (10 ∷ 10 ∷ list_most MEMBERS 11 ∷ 10 ∷ []) (omega arith)
    (small_short a r.1.0.0, (small_short b r.1.1.0.0, (trace_short t r.1.1.1.0.0 few, (small_short v r.1.1.1.1.0.0, tt)))) in omega (arith, h)

pub prunes_bytes : (a b : ℕ) (t : List (RowName ℕ)) (ps : List (RowName ℕ × ℕ)) → IsInRange (prunes a b t ps) → length t ≤ MEMBERS → suc (length (text_of (prunes a b t ps))) ≤ 9000
prunes_bytes a b t ps r few =
    let h = fields_short (word (codes "prune")) (small a ∷ small b ∷ trace t ∷ reason ps ∷ []) 5 (10 ∷ 10 ∷ list_most MEMBERS 11 ∷ list_most 64 25 ∷ []) (omega arith)
    (small_short a r.1.0.0, (small_short b r.1.1.0.0, (trace_short t r.1.1.1.0.0 few, (reason_short ps r.1.1.1.1.0.0 r.1.1.1.1.0.1.1, tt)))) in omega (arith, h)

pub offers_bytes : (a b : ℕ) (t : List (RowName ℕ)) → IsInRange (offers a b t) → length t ≤ MEMBERS → suc (length (text_of (offers a b t))) ≤ 7000
offers_bytes a b t r few =
    let h = fields_short (word (codes "offer")) (small a ∷ small b ∷ trace t ∷ []) 5 (10 ∷ 10 ∷ list_most MEMBERS 11 ∷ []) (omega arith)
    (small_short a r.1.0.0, (small_short b r.1.1.0.0, (trace_short t r.1.1.1.0.0 few, tt))) in omega (arith, h)

pub studies_bytes : (a b : ℕ) → IsInRange (studies a b) → suc (length (text_of (studies a b))) ≤ 100
studies_bytes a b r =
    let h = fields_short (word (codes "study")) (small a ∷ small b ∷ []) 5 (10 ∷ 10 ∷ []) (omega arith) (small_short a r.1.0.0, (small_short b r.1.1.0.0, tt)) in omega (arith, h)

pub redundancy_bytes : (a b q : ℕ) (set far : List ℕ) → IsInRange (redundancy a b q set far) → length set ≤ MEMBERS → length far ≤ COMPONENTS → suc (length (text_of (redundancy a b q set far))) ≤ 3000
redundancy_bytes a b q set far r fs ff =
    let h = fields_short (word (codes "publish")) (small a ∷ small b ∷ word (codes "redundancy") ∷ small q ∷ members SET_NUMBERS set ∷ members COMPONENTS far ∷ []) 7 (10 ∷ 10 ∷ 10 ∷ 10 ∷ list_most MEMBERS 3 ∷ list_most COMPONENTS 3 ∷ []) (omega arith)
    (small_short a r.1.0.0, (small_short b r.1.1.0.0, (omega arith, (small_short q r.1.1.1.1.0.0, (members_short SET_NUMBERS MEMBERS set (omega arith) r.1.1.1.1.1.0.0 fs, (members_short COMPONENTS COMPONENTS far (omega arith) r.1.1.1.1.1.1.0.0 ff, tt)))))) in omega (arith, h)

pub no_good_bytes : (a b q : ℕ) (cone : List ℕ) → IsInRange (no_good a b q cone) → length cone ≤ COMPONENTS → suc (length (text_of (no_good a b q cone))) ≤ 3000
no_good_bytes a b q cone r few =
    let h = fields_short (word (codes "publish")) (small a ∷ small b ∷ word (codes "nogood") ∷ small q ∷ members COMPONENTS cone ∷ []) 7 (10 ∷ 10 ∷ 6 ∷ 10 ∷ list_most COMPONENTS 3 ∷ []) (omega arith)
    (small_short a r.1.0.0, (small_short b r.1.1.0.0, (omega arith, (small_short q r.1.1.1.1.0.0, (members_short COMPONENTS COMPONENTS cone (omega arith) r.1.1.1.1.1.0.0 few, tt))))) in omega (arith, h)

pub accepts_bytes : (a b c : ℕ) → IsInRange (accepts a b c) → suc (length (text_of (accepts a b c))) ≤ 100
accepts_bytes a b c r =
    let h = fields_short (word (codes "accept")) (small a ∷ small b ∷ amount c ∷ []) 6 (10 ∷ 10 ∷ 19 ∷ []) (omega arith) (small_short a r.1.0.0, (small_short b r.1.1.0.0, (amount_short c r.1.1.1.0.0, tt))) in omega (arith, h)

pub parks_bytes : (a b : ℕ) → IsInRange (parks a b) → suc (length (text_of (parks a b))) ≤ 100
parks_bytes a b r =
    let h = fields_short (word (codes "park")) (small a ∷ small b ∷ []) 4 (10 ∷ 10 ∷ []) (omega arith) (small_short a r.1.0.0, (small_short b r.1.1.0.0, tt)) in omega (arith, h)

pub reopens_bytes : (a : ℕ) → IsInRange (reopens a) → suc (length (text_of (reopens a))) ≤ 100
reopens_bytes a r = let h = fields_short (word (codes "reopen")) (small a ∷ []) 6 (10 ∷ []) (omega arith) (small_short a r.1.0.0, tt) in omega (arith, h)

pub optimal_bytes : (c a b : ℕ) → IsInRange (optimal c a b) → suc (length (text_of (optimal c a b))) ≤ 100
optimal_bytes c a b r =
    let h = fields_short (word (codes "answer")) (word (codes "optimal") ∷ amount c ∷ small a ∷ small b ∷ []) 6 (7 ∷ 19 ∷ 10 ∷ 10 ∷ []) (omega arith)
    (omega arith, (amount_short c r.1.1.0.0, (small_short a r.1.1.1.0.0, (small_short b r.1.1.1.1.0.0, tt)))) in omega (arith, h)

pub infeasible_bytes : (a b : ℕ) → IsInRange (infeasible a b) → suc (length (text_of (infeasible a b))) ≤ 100
infeasible_bytes a b r =
    let h = fields_short (word (codes "answer")) (word (codes "infeasible") ∷ word (codes "none") ∷ small a ∷ small b ∷ []) 6 (10 ∷ 4 ∷ 10 ∷ 10 ∷ []) (omega arith)
    (omega arith, (omega arith, (small_short a r.1.1.1.0.0, (small_short b r.1.1.1.1.0.0, tt)))) in omega (arith, h)

pub node_limit_bytes : (o : Option ℕ) (a b : ℕ) → IsInRange (node_limit o a b) → suc (length (text_of (node_limit o a b))) ≤ 100
node_limit_bytes o a b r =
    let h = fields_short (word (codes "answer")) (word (codes "nodelimit") ∷ optional o ∷ small a ∷ small b ∷ []) 6 (9 ∷ 19 ∷ 10 ∷ 10 ∷ []) (omega arith)
    (omega arith, (optional_length o r.1.1.0.0, (small_short a r.1.1.1.0.0, (small_short b r.1.1.1.1.0.0, tt)))) in omega (arith, h)
