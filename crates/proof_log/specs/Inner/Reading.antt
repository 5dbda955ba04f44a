-- Reading a line from left to right: first its form, then its numbers, then the order of its lists.
use Rattle.std.specs.Prelude.{◌≡◌, ℕ, zero, suc, ◌+◌, ◌^◌, Bool, true, false, not, ◌&&◌, nat_lt, nat_le, ◌==◌, if◌then◌else◌, List, [], ◌∷◌, ◌++◌, length, slice_index, codes, Option, Some, None, option_map, Result, Ok, Err}
use Rattle.std.specs.Char.{is_ascii_digit}
use Rattle.std.specs.Str.{bytes_eq}
use Rattle.std.specs.Str.Parse.{digits_value}
use Rattle.arch_model.specs.declared.limits.TheConstants.{COMPONENTS, MEMBERS}
use Rattle.arch_model.specs.Set.{Set, empty, put, members_below}
use Rattle.proof_log.specs.declared.log_line.TheConstants.{LINE_BYTES}
use Rattle.proof_log.specs.declared.log_line.LineFault.{LineFault}
use Rattle.proof_log.specs.declared.log_line.LineFault.TheVariants.{Form, Number, Order, TooLong}
use Rattle.proof_log.specs.declared.log_line.LineError.{LineError}
use Rattle.proof_log.specs.declared.log_line.LineError.TheVariants as errors
use Rattle.proof_log.specs.declared.word.Word.{Word}
use Rattle.proof_log.specs.declared.word.Word.TheVariants as words
use Rattle.proof_log.specs.declared.log_line.LogLine.{LogLine}
use Rattle.proof_log.specs.Value.{log_line, HasSmallSets}
use Rattle.proof_log.specs.Field.{RowName, base_row, cut_row, cost_row, AMOUNTS, TIMES}
use Rattle.proof_log.specs.Line.{Line, SET_NUMBERS, version, vars, limits, takes, branches, prunes, offers, studies, redundancy, no_good, accepts, parks, reopens, optimal, infeasible, node_limit}

infixl 10 ◌>>=◌
abbrev pub ◌>>=◌ : {A B : Type 0} → Result A LineFault → (A → Result B LineFault) → Result B LineFault
(Ok x) >>= f = f x
(Err e) >>= f = Err e

-- what a function failed with is what reading fails with, unless memory ran out
abbrev pub Fails : {Y : Type 0} → LineError → Result Y LineFault → Type 0
Fails errors.Memory read = Unit {0}
Fails (errors.Fault f) read = read ≡ Err f

-- what a function returned, seen by view, is what reading gives, unless memory ran out
abbrev pub Gives : {X Y : Type 0} → (X → Y) → Result X LineError → Result Y LineFault → Type 0
Gives view (Ok x) read = read ≡ Ok (view x)
Gives view (Err e) read = Fails e read

-- the line that a function returned is the one that reading gives, and its sets are small, unless memory ran out
abbrev pub Says : Result LogLine LineError → Result (Line ℕ) LineFault → Type 0
Says (Ok x) read = (read ≡ Ok (log_line x)) × HasSmallSets x
Says (Err e) read = Fails e read

-- what a reader of bytes gives: a value, and the bytes behind it
abbrev pub Read : Type 0 → Type 0
Read A = Result (A × List ℕ) LineFault

-- the bytes behind a word that stands in front
abbrev pub after : List ℕ → List ℕ → Option (List ℕ)
after [] bytes = Some bytes
after (w ∷ ws) [] = None
after (w ∷ ws) (b ∷ bytes) = if b == w then after ws bytes else None

-- goes on behind a word, or otherwise
abbrev pub whichever : {A : Type 0} → Option (List ℕ) → (List ℕ → A) → A → A
whichever None found other = other
whichever (Some rest) found other = found rest

-- the bytes behind a word that has to stand in front
abbrev pub behind : List ℕ → List ℕ → Result (List ℕ) LineFault
behind w bytes = whichever (after w bytes) (λ rest. Ok rest) (Err Form)

-- nothing may be left
abbrev pub end_at : List ℕ → Result (Unit {0}) LineFault
end_at [] = Ok tt
end_at (b ∷ bytes) = Err Form

-- the digits in front
unfoldable pub digits_front : List ℕ → List ℕ
digits_front [] = []
digits_front (c ∷ cs) = if is_ascii_digit c then c ∷ digits_front cs else []

-- the bytes behind the digits in front
unfoldable pub digits_rest : List ℕ → List ℕ
digits_rest [] = []
digits_rest (c ∷ cs) = if is_ascii_digit c then digits_rest cs else c ∷ cs

-- a zero leads more digits
abbrev pub leads_with_zero : List ℕ → Bool
leads_with_zero ds = nat_lt 1 (length ds) && (slice_index ds 0 == 48)

-- the number that digits stand for, where it is from one number to below another, and no zero leads
unfoldable pub number_of : ℕ → ℕ → List ℕ → Option ℕ
number_of low limit ds = if not (leads_with_zero ds) && nat_le low (digits_value 10 ds) && nat_lt (digits_value 10 ds) limit then Some (digits_value 10 ds) else None

-- a run of digits, as a number in a range
unfoldable pub number_at : ℕ → ℕ → List ℕ → Read (Option ℕ)
number_at low limit bytes = if length (digits_front bytes) == 0 then Err Form else Ok (number_of low limit (digits_front bytes), digits_rest bytes)

-- a number or none
unfoldable pub optional_at : List ℕ → Read (Option (Option ℕ))
optional_at bytes = whichever (after (codes "none") bytes) (λ rest. Ok (Some None, rest)) (number_at 0 AMOUNTS bytes >>= λ x. Ok (option_map (λ n. Some n) x.0, x.1))

-- the name of a row
unfoldable pub row_at : List ℕ → Read (Option (RowName ℕ))
row_at bytes =
    whichever (after (codes "b") bytes) (λ rest. number_at 0 (2 ^ 32) rest >>= λ x. Ok (option_map base_row x.0, x.1))
    (whichever (after (codes "c") bytes) (λ rest. number_at 0 (2 ^ 32) rest >>= λ x. Ok (option_map cut_row x.0, x.1))
    (behind (codes "u") bytes >>= λ rest. Ok (Some cost_row, rest)))

-- both, where there are both
abbrev pub both : {A B : Type 0} → Option A → Option B → Option (A × B)
both None b = None
both (Some a) None = None
both (Some a) (Some b) = Some (a, b)

-- a row's name and its multiplier
unfoldable pub pair_at : List ℕ → Read (Option (RowName ℕ × ℕ))
pair_at bytes = do
  row ← row_at bytes
  rest ← behind (codes "*") row.1
  times ← number_at 1 TIMES rest
  Ok (both row.0 times.0, times.1)

-- one item more in front
abbrev pub in_front : {A : Type 0} → Option A → Option (List A) → Option (List A)
in_front x xs = option_map (λ p. p.0 ∷ p.1) (both x xs)

-- items behind commas, at most so many
unfoldable pub items_at : {A : Type 0} → (List ℕ → Read (Option A)) → ℕ → List ℕ → Read (Option (List A))
items_at item zero bytes = Err Form
items_at item (suc room) bytes = do
  first ← item bytes
  whichever (after (codes ",") first.1) (λ rest. items_at item room rest >>= λ x. Ok (in_front first.0 x.0, x.1)) (Ok (in_front first.0 (Some []), first.1))

-- items parted by commas, or a hyphen
abbrev pub list_at : {A : Type 0} → (List ℕ → Read (Option A)) → List ℕ → Read (Option (List A))
list_at item bytes = whichever (after (codes "-") bytes) (λ rest. Ok (Some [], rest)) (items_at item (length bytes) bytes)

-- the kinds of fields
pub data Kind : Type 0 where
  a_number : ℕ → Kind
  an_optional : Kind
  a_trace : Kind
  a_reason : Kind
  a_list : ℕ → Kind

-- the set of some numbers, added one after another to what there is
abbrev pub set_of : Set → List ℕ → Set
set_of s [] = s
set_of s (n ∷ ns) = set_of (put s n) ns

-- numbers ascend from one on
abbrev pub ascend_from : ℕ → List ℕ → Bool
ascend_from low [] = true
ascend_from low (n ∷ ns) = nat_le low n && ascend_from (n + 1) ns

-- what a list of members is read as: the set of them, and whether they ascend
abbrev pub set_read : List ℕ → Set × Bool
set_read ns = (set_of empty ns, ascend_from 0 ns)

-- what a field of a kind is read as
abbrev pub Got : Kind → Type 0
Got (a_number limit) = ℕ
Got an_optional = Option ℕ
Got a_trace = List (RowName ℕ)
Got a_reason = List (RowName ℕ × ℕ)
Got (a_list limit) = Set × Bool

-- a field of a kind, or none where a number isn't in its range
abbrev pub value_at : (k : Kind) → List ℕ → Read (Option (Got k))
value_at (a_number limit) bytes = number_at 0 limit bytes
value_at an_optional bytes = optional_at bytes
value_at a_trace bytes = list_at row_at bytes
value_at a_reason bytes = items_at pair_at 64 bytes
value_at (a_list limit) bytes = list_at (number_at 0 limit) bytes >>= λ x. Ok (option_map set_read x.0, x.1)

-- the same behind a space
abbrev pub field_at : (k : Kind) → List ℕ → Read (Option (Got k))
field_at k bytes = behind (codes " ") bytes >>= λ rest. value_at k rest

-- what some fields are read as
abbrev pub Values : List Kind → Type 0
Values [] = Unit {0}
Values (k ∷ ks) = Got k × (Values ks)

-- the same, each none where a number isn't in its range
abbrev pub Seen : List Kind → Type 0
Seen [] = Unit {0}
Seen (k ∷ ks) = Option (Got k) × (Seen ks)

-- fields one after another, and what is done with them and the bytes behind them
abbrev pub fields_at : (ks : List Kind) → List ℕ → (Seen ks → List ℕ → Result (Line ℕ) LineFault) → Result (Line ℕ) LineFault
fields_at [] bytes next = next tt bytes
fields_at (k ∷ ks) bytes next = field_at k bytes >>= λ x. fields_at ks x.1 (λ seen rest. next (x.0, seen) rest)

-- a number isn't in its range where there is none
abbrev pub fits : {A : Type 0} → Option A → Result A LineFault
fits None = Err Number
fits (Some x) = Ok x

-- all numbers have to be in their ranges
abbrev pub all_fit : (ks : List Kind) → Seen ks → (Values ks → Result (Line ℕ) LineFault) → Result (Line ℕ) LineFault
all_fit [] seen next = next tt
all_fit (k ∷ ks) seen next = fits seen.0 >>= λ x. all_fit ks seen.1 (λ xs. next (x, xs))

-- fields up to the end of the line, all numbers in range
abbrev pub line_at : (ks : List Kind) → List ℕ → (Values ks → Result (Line ℕ) LineFault) → Result (Line ℕ) LineFault
line_at ks bytes next = fields_at ks bytes (λ seen rest. end_at rest >>= λ _. all_fit ks seen next)

-- a number that fits 32 bits
abbrev pub a_small : Kind
a_small = a_number (2 ^ 32)

-- a cost
abbrev pub an_amount : Kind
an_amount = a_number AMOUNTS

-- a list has to ascend
abbrev pub ascends_at : Bool → Result (Unit {0}) LineFault
ascends_at true = Ok tt
ascends_at false = Err Order

abbrev pub vars_at : List ℕ → Result (Line ℕ) LineFault
vars_at bytes = line_at (a_small ∷ a_small ∷ []) bytes (λ x. Ok (vars x.0 x.1.0))

abbrev pub limit_at : List ℕ → Result (Line ℕ) LineFault
limit_at bytes = line_at (a_small ∷ []) bytes (λ x. Ok (limits x.0))

abbrev pub take_at : List ℕ → Result (Line ℕ) LineFault
take_at bytes = line_at (a_small ∷ a_small ∷ a_small ∷ an_optional ∷ []) bytes (λ x. Ok (takes x.0 x.1.0 x.1.1.0 x.1.1.1.0))

abbrev pub branch_at : List ℕ → Result (Line ℕ) LineFault
branch_at bytes = line_at (a_small ∷ a_small ∷ a_trace ∷ a_small ∷ []) bytes (λ x. Ok (branches x.0 x.1.0 x.1.1.0 x.1.1.1.0))

abbrev pub prune_at : List ℕ → Result (Line ℕ) LineFault
prune_at bytes = line_at (a_small ∷ a_small ∷ a_trace ∷ a_reason ∷ []) bytes (λ x. Ok (prunes x.0 x.1.0 x.1.1.0 x.1.1.1.0))

abbrev pub offer_at : List ℕ → Result (Line ℕ) LineFault
offer_at bytes = line_at (a_small ∷ a_small ∷ a_trace ∷ []) bytes (λ x. Ok (offers x.0 x.1.0 x.1.1.0))

abbrev pub study_at : List ℕ → Result (Line ℕ) LineFault
study_at bytes = line_at (a_small ∷ a_small ∷ []) bytes (λ x. Ok (studies x.0 x.1.0))

abbrev pub accept_at : List ℕ → Result (Line ℕ) LineFault
accept_at bytes = line_at (a_small ∷ a_small ∷ an_amount ∷ []) bytes (λ x. Ok (accepts x.0 x.1.0 x.1.1.0))

abbrev pub park_at : List ℕ → Result (Line ℕ) LineFault
park_at bytes = line_at (a_small ∷ a_small ∷ []) bytes (λ x. Ok (parks x.0 x.1.0))

abbrev pub reopen_at : List ℕ → Result (Line ℕ) LineFault
reopen_at bytes = line_at (a_small ∷ []) bytes (λ x. Ok (reopens x.0))

-- the rest of a line that publishes a redundancy cut
abbrev pub redundancy_at : Option ℕ → Option ℕ → List ℕ → Result (Line ℕ) LineFault
redundancy_at worker node bytes =
    fields_at (a_small ∷ a_list SET_NUMBERS ∷ a_list COMPONENTS ∷ []) bytes
    (λ seen rest. end_at rest >>= λ _. all_fit (a_small ∷ a_small ∷ a_small ∷ a_list SET_NUMBERS ∷ a_list COMPONENTS ∷ []) (worker, (node, seen))
    (λ x. ascends_at (x.1.1.1.0.1 && x.1.1.1.1.0.1) >>= λ _. Ok (redundancy x.0 x.1.0 x.1.1.0 (members_below x.1.1.1.0.0 MEMBERS) (members_below x.1.1.1.1.0.0 COMPONENTS))))

-- the rest of a line that publishes a no-good
abbrev pub no_good_at : Option ℕ → Option ℕ → List ℕ → Result (Line ℕ) LineFault
no_good_at worker node bytes =
    fields_at (a_small ∷ a_list COMPONENTS ∷ []) bytes
    (λ seen rest. end_at rest >>= λ _. all_fit (a_small ∷ a_small ∷ a_small ∷ a_list COMPONENTS ∷ []) (worker, (node, seen))
    (λ x. ascends_at x.1.1.1.0.1 >>= λ _. Ok (no_good x.0 x.1.0 x.1.1.0 (members_below x.1.1.1.0.0 COMPONENTS))))

abbrev pub publish_at : List ℕ → Result (Line ℕ) LineFault
publish_at bytes =
    fields_at (a_small ∷ a_small ∷ []) bytes
    (λ head rest. whichever (after (codes " redundancy") rest) (λ next. redundancy_at head.0 head.1.0 next)
    (behind (codes " nogood") rest >>= λ next. no_good_at head.0 head.1.0 next))

abbrev pub optimal_at : List ℕ → Result (Line ℕ) LineFault
optimal_at bytes = line_at (an_amount ∷ a_small ∷ a_small ∷ []) bytes (λ x. Ok (optimal x.0 x.1.0 x.1.1.0))

abbrev pub infeasible_at : List ℕ → Result (Line ℕ) LineFault
infeasible_at bytes = line_at (a_small ∷ a_small ∷ []) bytes (λ x. Ok (infeasible x.0 x.1.0))

abbrev pub node_limit_at : List ℕ → Result (Line ℕ) LineFault
node_limit_at bytes = line_at (an_optional ∷ a_small ∷ a_small ∷ []) bytes (λ x. Ok (node_limit x.0 x.1.0 x.1.1.0))

abbrev pub answer_at : List ℕ → Result (Line ℕ) LineFault
answer_at bytes =
    whichever (after (codes " optimal") bytes) optimal_at
    (whichever (after (codes " infeasible none") bytes) infeasible_at
    (behind (codes " nodelimit") bytes >>= λ rest. node_limit_at rest))

abbrev pub version_at : List ℕ → Result (Line ℕ) LineFault
version_at bytes = behind (codes " 1") bytes >>= λ rest. end_at rest >>= λ _. Ok version

-- the bytes before the first space
unfoldable pub word_front : List ℕ → List ℕ
word_front [] = []
word_front (c ∷ cs) = if c == 32 then [] else c ∷ word_front cs

-- the bytes from the first space on
unfoldable pub word_rest : List ℕ → List ℕ
word_rest [] = []
word_rest (c ∷ cs) = if c == 32 then c ∷ cs else word_rest cs

-- the text of a word
abbrev pub word_text : Word → List ℕ
word_text words.Version = codes "archex-log"
word_text words.Vars = codes "vars"
word_text words.Limit = codes "limit"
word_text words.Take = codes "take"
word_text words.Branch = codes "branch"
word_text words.Prune = codes "prune"
word_text words.Offer = codes "offer"
word_text words.Study = codes "study"
word_text words.Publish = codes "publish"
word_text words.Accept = codes "accept"
word_text words.Park = codes "park"
word_text words.Reopen = codes "reopen"
word_text words.Answer = codes "answer"

-- the first of some words that has that text
abbrev pub word_among : List Word → List ℕ → Option Word
word_among [] text = None
word_among (w ∷ ws) text = if bytes_eq text (word_text w) then Some w else word_among ws text

-- all words with which a line may begin
abbrev pub all_words : List Word
all_words =
    words.Version
    ∷ words.Vars
    ∷ words.Limit
    ∷ words.Take
    ∷ words.Branch
    ∷ words.Prune
    ∷ words.Offer
    ∷ words.Study
    ∷ words.Publish
    ∷ words.Accept
    ∷ words.Park
    ∷ words.Reopen
    ∷ words.Answer
    ∷ []

-- what a line says behind its first word
abbrev pub line_behind : Word → List ℕ → Result (Line ℕ) LineFault
line_behind words.Version rest = version_at rest
line_behind words.Vars rest = vars_at rest
line_behind words.Limit rest = limit_at rest
line_behind words.Take rest = take_at rest
line_behind words.Branch rest = branch_at rest
line_behind words.Prune rest = prune_at rest
line_behind words.Offer rest = offer_at rest
line_behind words.Study rest = study_at rest
line_behind words.Publish rest = publish_at rest
line_behind words.Accept rest = accept_at rest
line_behind words.Park rest = park_at rest
line_behind words.Reopen rest = reopen_at rest
line_behind words.Answer rest = answer_at rest

-- the same behind any first word
abbrev pub line_named : Option Word → List ℕ → Result (Line ℕ) LineFault
line_named None rest = Err Form
line_named (Some w) rest = line_behind w rest

-- a line of no more bytes than are allowed
unfoldable pub whole_line_at : List ℕ → Result (Line ℕ) LineFault
whole_line_at bytes = line_named (word_among all_words (word_front bytes)) (word_rest bytes)

-- a line
unfoldable pub line_of : List ℕ → Result (Line ℕ) LineFault
line_of bytes = if nat_lt LINE_BYTES (length bytes) then Err TooLong else whole_line_at bytes

-- one item more behind what there is, where there are both
abbrev pub pushed : {A : Type 0} → Option (List A) → Option A → Option (List A)
pushed xs x = option_map (λ p. p.0 ++ p.1 ∷ []) (both xs x)

-- a set that is read number by number: the numbers so far, what the next one has to be at least, and whether all ascend
abbrev pub with_number : Option (Set × ℕ × Bool) → Option ℕ → Option (Set × ℕ × Bool)
with_number None n = None
with_number (Some s) None = None
with_number (Some s) (Some n) = Some (put s.0 n, n + 1, s.2 && nat_le s.1 n)

-- the same of sets that are seen by their numbers
abbrev pub seen_by : {S : Type 0} → (S → Set) → Option (S × ℕ × Bool) → Option (Set × ℕ × Bool)
seen_by numbers so_far = option_map (λ p. (numbers p.0, p.1, p.2)) so_far

-- a set and whether its list ascends, seen by its numbers
abbrev pub set_by : {S : Type 0} → (S → Set) → Option (S × Bool) → Option (Set × Bool)
set_by numbers read = option_map (λ p. (numbers p.0, p.1)) read

-- items parted by commas, at most so many, and what is made of them
abbrev pub folded_at : {A B : Type 0} → (List ℕ → Read (Option A)) → (Option (List A) → Option B) → ℕ → List ℕ → Read (Option B)
folded_at item made room bytes = items_at item room bytes >>= λ x. Ok (made x.0, x.1)
