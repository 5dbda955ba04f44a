-- The words of a command.
use Rattle.std.specs.Prelude.{◌≡◌, ℕ, ◌+◌, ◌-◌, ◌^◌, ◌⊎◌, nat_le, nat_lt, ◌&&◌, ◌||◌, not, List, [], ◌∷◌, map, length, codes, String, string_bytes, Option, Some, None, Result, Ok, Err, if◌then◌else◌}
use Rattle.std.specs.Option.{option_map_or}
use Rattle.std.specs.Str.{bytes_eq}
use Rattle.std.specs.Str.Parse.{digits_value}
use Rattle.std.specs.Fmt.{decimal}
use Rattle.generate.specs.declared.text.TheConstants.{LARGEST_SIZE}
use Rattle.search_core.specs.declared.limits.TheConstants.{BRANCHINGS, WORKERS}
use Rattle.std.specs.declared.alloc.Global.{Global}

-- the bytes of each word
abbrev pub texts : List (String Global) → List (List ℕ)
texts words = map (λ (w : String Global). string_bytes w) words

-- what the words after `solve` say: the names of a library and of a log, the limit of branchings, and how many workers there are, of whom so many are analysts
pub record SolveWords : Type 0 where
  pub lib : List ℕ
  pub log : List ℕ
  pub branchings : ℕ
  pub workers : ℕ
  pub analysts : ℕ

-- what the words after `generate` say: the number and the size of a library, the name of the file that it is written to, and that of the log
pub record GenerateWords : Type 0 where
  pub number : ℕ
  pub size : ℕ
  pub file : List ℕ
  pub log : List ℕ

-- what the words may ask for
pub data Asked : Type 0 where
  -- to solve a library
  solve : SolveWords → Asked
  -- to check a log against a library: their names
  check : List ℕ → List ℕ → Asked
  -- what an architecture of a library comes to: their names
  weigh : List ℕ → List ℕ → Asked
  -- the minimal cut sets: of a library's and an architecture's name, and of a component's
  cuts : List ℕ → List ℕ → List ℕ → Asked
  -- the failure mass: of a library's and an architecture's name, and of a component's
  probability : List ℕ → List ℕ → List ℕ → Asked
  -- the template of a library: its name
  template : List ℕ → Asked
  -- the base rows of a library: its name
  rows : List ℕ → Asked
  -- to make a library from a number, and to solve it
  generate : GenerateWords → Asked

-- the place of the leftmost word, from this place on, that is empty
abbrev pub empty_word : ℕ → List (List ℕ) → Option ℕ
empty_word place [] = None
empty_word place (word ∷ words) = if nat_lt 0 (length word) then empty_word (place + 1) words else Some place

-- what the words after a command ask for, unless one of them is empty
abbrev pub unless_empty : List (List ℕ) → Asked → Result Asked ℕ
unless_empty args asked = option_map_or Err (empty_word 2 args) (Ok asked)

-- the place of the fault of words that aren't as many as a command takes: one past the last where a word is missing, else the first word too many
abbrev pub miscounted : ℕ → List (List ℕ) → ℕ
miscounted wanted args = if nat_lt (length args) wanted then length args + 2 else wanted + 2

-- the number of which a word is the decimal text, so without sign or leading zero, where it lies from a least to a greatest one
abbrev pub numeral : ℕ → ℕ → List ℕ → Option ℕ
numeral least most word =
    let n = digits_value 10 word in
    if bytes_eq (decimal n) word && (nat_le least n && nat_le n most) then Some n else None

-- goes on with a number, or names the place of the word that isn't one
abbrev pub numbered : ℕ → Option ℕ → (ℕ → Result Asked ℕ) → Result Asked ℕ
numbered place None next = Err place
numbered place (Some n) next = next n

-- the numbers after the names: the limit of branchings, the workers, and the analysts, of whom there are no more than workers
abbrev pub solve_numbers : List ℕ → List ℕ → List ℕ → List ℕ → List ℕ → Result Asked ℕ
solve_numbers lib log branchings workers analysts =
    numbered 4 (numeral 0 BRANCHINGS branchings) (λ b.
    numbered 5 (numeral 1 WORKERS workers) (λ w.
    numbered 6 (numeral 0 w analysts) (λ a.
    Ok (solve (record { lib = lib; log = log; branchings = b; workers = w; analysts = a })))))

-- the place of the first bad one of two names, of which the first stands at a place: neither is empty, and the log's is another than the first
abbrev pub bad_name : ℕ → List ℕ → List ℕ → Option ℕ
bad_name place first log =
    if not (nat_lt 0 (length first)) then Some place
    else if not (nat_lt 0 (length log)) || bytes_eq log first then Some (place + 1)
    else None

-- the words after `solve`: the names of a library and of a log, and three numbers
abbrev pub solve_of : List (List ℕ) → Result Asked ℕ
solve_of (lib ∷ log ∷ branchings ∷ workers ∷ analysts ∷ []) =
    option_map_or Err (bad_name 2 lib log) (solve_numbers lib log branchings workers analysts)
solve_of args = Err (miscounted 5 args)

-- the words after `check`: the names of a library and of a log, which may be one
abbrev pub check_of : List (List ℕ) → Result Asked ℕ
check_of (lib ∷ log ∷ []) = unless_empty (lib ∷ log ∷ []) (check lib log)
check_of args = Err (miscounted 2 args)

-- the words after `weigh`: the names of a library and of an architecture
abbrev pub weigh_of : List (List ℕ) → Result Asked ℕ
weigh_of (lib ∷ arch ∷ []) = unless_empty (lib ∷ arch ∷ []) (weigh lib arch)
weigh_of args = Err (miscounted 2 args)

-- the words after `cuts`: the names of a library, of an architecture and of a component
abbrev pub cuts_of : List (List ℕ) → Result Asked ℕ
cuts_of (lib ∷ arch ∷ sink ∷ []) = unless_empty (lib ∷ arch ∷ sink ∷ []) (cuts lib arch sink)
cuts_of args = Err (miscounted 3 args)

-- the words after `probability`: the names of a library, of an architecture and of a component
abbrev pub probability_of : List (List ℕ) → Result Asked ℕ
probability_of (lib ∷ arch ∷ sink ∷ []) = unless_empty (lib ∷ arch ∷ sink ∷ []) (probability lib arch sink)
probability_of args = Err (miscounted 3 args)

-- the word after `template`: the name of a library
abbrev pub template_of : List (List ℕ) → Result Asked ℕ
template_of (lib ∷ []) = unless_empty (lib ∷ []) (template lib)
template_of args = Err (miscounted 1 args)

-- the word after `rows`: the name of a library
abbrev pub rows_of : List (List ℕ) → Result Asked ℕ
rows_of (lib ∷ []) = unless_empty (lib ∷ []) (rows lib)
rows_of args = Err (miscounted 1 args)

-- the greatest number of a generated library
abbrev pub LARGEST_NUMBER : ℕ
LARGEST_NUMBER = 2 ^ 64 - 1

-- the words after `generate`: a number, a size, and the names of the library's file and of the log
abbrev pub generate_of : List (List ℕ) → Result Asked ℕ
generate_of (number ∷ size ∷ file ∷ log ∷ []) =
    numbered 2 (numeral 0 LARGEST_NUMBER number) (λ n.
    numbered 3 (numeral 1 LARGEST_SIZE size) (λ s.
    option_map_or Err (bad_name 4 file log) (Ok (generate (record { number = n; size = s; file = file; log = log })))))
generate_of args = Err (miscounted 4 args)

-- what the words ask for, or the place, counted from 1, of the first that isn't as it should be: the command comes first
abbrev pub command_of : List (List ℕ) → Result Asked ℕ
command_of [] = Err 1
command_of (command ∷ args) =
    if bytes_eq command (codes "solve") then solve_of args
    else if bytes_eq command (codes "check") then check_of args
    else if bytes_eq command (codes "weigh") then weigh_of args
    else if bytes_eq command (codes "cuts") then cuts_of args
    else if bytes_eq command (codes "probability") then probability_of args
    else if bytes_eq command (codes "template") then template_of args
    else if bytes_eq command (codes "rows") then rows_of args
    else if bytes_eq command (codes "generate") then generate_of args
    else Err 1

-- the words ask to solve a library
abbrev pub AskToSolve : List (List ℕ) → SolveWords → Type 0
AskToSolve words ask = command_of words ≡ Ok (solve ask)

-- the words ask to check a log against a library
abbrev pub AskToCheck : List (List ℕ) → List ℕ → List ℕ → Type 0
AskToCheck words lib log = command_of words ≡ Ok (check lib log)

-- the words ask what an architecture of a library comes to
abbrev pub AskToWeigh : List (List ℕ) → List ℕ → List ℕ → Type 0
AskToWeigh words lib arch = command_of words ≡ Ok (weigh lib arch)

-- the words ask for the minimal cut sets of a component in an architecture of a library
abbrev pub AskForCuts : List (List ℕ) → List ℕ → List ℕ → List ℕ → Type 0
AskForCuts words lib arch sink = command_of words ≡ Ok (cuts lib arch sink)

-- the words ask for the failure mass of a component in an architecture of a library
abbrev pub AskForMass : List (List ℕ) → List ℕ → List ℕ → List ℕ → Type 0
AskForMass words lib arch sink = command_of words ≡ Ok (probability lib arch sink)

-- the words ask for the template of a library
abbrev pub AskForTemplate : List (List ℕ) → List ℕ → Type 0
AskForTemplate words lib = command_of words ≡ Ok (template lib)

-- the words ask for the base rows of a library
abbrev pub AskForRows : List (List ℕ) → List ℕ → Type 0
AskForRows words lib = command_of words ≡ Ok (rows lib)

-- the words ask for a library from a number
abbrev pub AskToGenerate : List (List ℕ) → GenerateWords → Type 0
AskToGenerate words ask = command_of words ≡ Ok (generate ask)

-- the words ask for something of a sink of an architecture: its cut sets or its failure mass
abbrev pub AskOfSink : List (List ℕ) → List ℕ → List ℕ → List ℕ → Type 0
AskOfSink words lib arch sink = AskForCuts words lib arch sink ⊎ AskForMass words lib arch sink

-- of an architecture: what it comes to, or something of one of its sinks
abbrev pub AskOfArchitecture : List (List ℕ) → List ℕ → List ℕ → Type 0
AskOfArchitecture words lib arch = AskToWeigh words lib arch ⊎ ((sink : List ℕ) × AskOfSink words lib arch sink)

-- for a list of what a library has: its template or its base rows
abbrev pub AskForList : List (List ℕ) → List ℕ → Type 0
AskForList words lib = AskForTemplate words lib ⊎ AskForRows words lib

-- the files that a command reads, its library first
abbrev pub files_read : Asked → List (List ℕ)
files_read (solve ask) = ask.lib ∷ []
files_read (check lib log) = lib ∷ log ∷ []
files_read (weigh lib arch) = lib ∷ arch ∷ []
files_read (cuts lib arch sink) = lib ∷ arch ∷ []
files_read (probability lib arch sink) = lib ∷ arch ∷ []
files_read (template lib) = lib ∷ []
files_read (rows lib) = lib ∷ []
files_read (generate ask) = []

-- the files that a command writes, in order
abbrev pub files_written : Asked → List (List ℕ)
files_written (solve ask) = ask.log ∷ []
files_written (check lib log) = []
files_written (weigh lib arch) = []
files_written (cuts lib arch sink) = []
files_written (probability lib arch sink) = []
files_written (template lib) = []
files_written (rows lib) = []
files_written (generate ask) = ask.file ∷ ask.log ∷ []

-- those of the command that words are; of refused words none
abbrev pub files_of : (Asked → List (List ℕ)) → Result Asked ℕ → List (List ℕ)
files_of files (Ok asked) = files asked
files_of files (Err place) = []

-- the command that words are reads a library of this name
abbrev pub ReadsLibrary : Result Asked ℕ → List ℕ → Type 0
ReadsLibrary command lib = (rest : List (List ℕ)) × (files_of files_read command ≡ lib ∷ rest)
