-- Worked rows: the numbers that the code names, and what the definitions compute on small words.
use Rattle.std.proofs.Common.{◌≡◌, ℕ, ◌&&◌, nat_le, Option, Some, None, List, [], ◌∷◌, ◌++◌, codes, Ok, Err, ap, refl, inl, arith, ◌∙◌, if◌then◌else◌}
use Rattle.std.specs.Str.{bytes_eq}
use Rattle.std.proofs.lemmas.Fmt.{decimal_digit}
use Rattle.archex_app.specs.declared.status.TheConstants as constants
use Rattle.archex_app.specs.declared.reading.TheConstants.{READ_LIMIT}
use Rattle.lib_read.specs.declared.reader.TheConstants as lib_read
use Rattle.arch_csv.specs.declared.reader.TheConstants as arch_csv
use Rattle.archex_app.specs.Status.{number_of, status_of, done, infeasible, node_limit, library_refused, words_refused, read_fault, write_fault, no_memory, log_refused, architecture_refused}
use Rattle.archex_app.specs.Due.{ends, unread}
use Rattle.search_core.specs.declared.limits.TheConstants.{BRANCHINGS, WORKERS}
use Rattle.archex_app.specs.Words.{SolveWords, solve, probability, numeral, numbered, command_of, files_of, files_read, files_written}
use Rattle.report.specs.Refusal.{refused_words_text, refused_architecture_text}
use Rattle.report.specs.Report.{infeasible_text}
use Rattle.archex_app.specs.ComesTo.{ComesTo}
use Rattle.arch_csv.specs.declared.fault.ArchClass.TheVariants.{Fields}

-- the number of each ending
numbers_0_to_4 : (number_of done ≡ 0) × (number_of infeasible ≡ 1) × (number_of node_limit ≡ 2) × (number_of library_refused ≡ 3) × (number_of words_refused ≡ 4)
numbers_0_to_4 = (refl, refl, refl, refl, refl)

numbers_5_to_9 : (number_of read_fault ≡ 5) × (number_of write_fault ≡ 6) × (number_of no_memory ≡ 7) × (number_of log_refused ≡ 8) × (number_of architecture_refused ≡ 9)
numbers_5_to_9 = (refl, refl, refl, refl, refl)

-- the code's names of statuses
answers : (constants.Status.DONE ≡ status_of done) × (constants.Status.INFEASIBLE ≡ status_of infeasible) × (constants.Status.NODE_LIMIT ≡ status_of node_limit)
answers = (refl, refl, refl)

refusals : (constants.Status.LIBRARY_REFUSED ≡ status_of library_refused) × (constants.Status.WORDS_REFUSED ≡ status_of words_refused)
refusals = (refl, refl)

architecture : constants.Status.ARCHITECTURE_REFUSED ≡ status_of architecture_refused
architecture = refl

faults : (constants.Status.READ_FAULT ≡ status_of read_fault) × (constants.Status.WRITE_FAULT ≡ status_of write_fault) × (constants.Status.NO_MEMORY ≡ status_of no_memory)
faults = (refl, refl, refl)

-- one byte more than a library or an architecture file may have is read of it
limit : (READ_LIMIT ≡ 1048577) × (lib_read.LARGEST ≡ 1048576) × (arch_csv.LARGEST ≡ 1048576)
limit = (refl, refl, refl)

-- numbers among the words
five : numeral 0 BRANCHINGS (codes "5") ≡ Some 5
five = ap (λ (d : List ℕ). if bytes_eq d (codes "5") && (nat_le 0 5 && nat_le 5 BRANCHINGS) then Some 5 else None) (decimal_digit 5 (omega arith))

two : numeral 1 WORKERS (codes "2") ≡ Some 2
two = ap (λ (d : List ℕ). if bytes_eq d (codes "2") && (nat_le 1 2 && nat_le 2 WORKERS) then Some 2 else None) (decimal_digit 2 (omega arith))

one : numeral 0 2 (codes "1") ≡ Some 1
one = ap (λ (d : List ℕ). if bytes_eq d (codes "1") && (nat_le 0 1 && nat_le 1 2) then Some 1 else None) (decimal_digit 1 (omega arith))

three_of_two : numeral 0 2 (codes "3") ≡ None
three_of_two = ap (λ (d : List ℕ). if bytes_eq d (codes "3") && (nat_le 0 3 && nat_le 3 2) then Some 3 else None) (decimal_digit 3 (omega arith))

leading_zero : numeral 0 BRANCHINGS (codes "05") ≡ None
leading_zero = ap (λ (d : List ℕ). if bytes_eq d (codes "05") && (nat_le 0 5 && nat_le 5 BRANCHINGS) then Some 5 else None) (decimal_digit 5 (omega arith))

-- words, their command and its files
abbrev ask_of : ℕ → ℕ → ℕ → SolveWords
ask_of branchings workers analysts = record { lib = codes "a"; log = codes "b"; branchings = branchings; workers = workers; analysts = analysts }

abbrev words_of : List ℕ → List ℕ → List (List ℕ)
words_of branchings analysts = codes "solve" ∷ codes "a" ∷ codes "b" ∷ branchings ∷ codes "2" ∷ analysts ∷ []

with_workers : (analysts : List ℕ) → command_of (words_of (codes "5") analysts) ≡ numbered 6 (numeral 0 2 analysts) (λ a. Ok (solve (ask_of 5 2 a)))
with_workers analysts =
    ap (λ o. numbered 4 o (λ b. numbered 5 (numeral 1 WORKERS (codes "2")) (λ w. numbered 6 (numeral 0 w analysts) (λ a. Ok (solve (ask_of b w a)))))) five
    ∙ ap (λ o. numbered 5 o (λ w. numbered 6 (numeral 0 w analysts) (λ a. Ok (solve (ask_of 5 w a))))) two

solve_a : command_of (words_of (codes "5") (codes "1")) ≡ Ok (solve (ask_of 5 2 1))
solve_a = with_workers (codes "1") ∙ ap (λ o. numbered 6 o (λ a. Ok (solve (ask_of 5 2 a)))) one

solve_more_analysts : command_of (words_of (codes "5") (codes "3")) ≡ Err 6
solve_more_analysts = with_workers (codes "3") ∙ ap (λ o. numbered 6 o (λ a. Ok (solve (ask_of 5 2 a)))) three_of_two

solve_leading_zero : command_of (words_of (codes "05") (codes "1")) ≡ Err 4
solve_leading_zero = ap (λ o. numbered 4 o (λ b. numbered 5 (numeral 1 WORKERS (codes "2")) (λ w. numbered 6 (numeral 0 w (codes "1")) (λ a. Ok (solve (ask_of b w a)))))) leading_zero

check_a : command_of (codes "check" ∷ codes "a" ∷ []) ≡ Err 3
check_a = refl

solve_only : command_of (codes "solve" ∷ []) ≡ Err 2
solve_only = refl

solve_lib : command_of (codes "solve" ∷ codes "a" ∷ []) ≡ Err 3
solve_lib = refl

solve_empty : command_of (codes "solve" ∷ [] ∷ [] ∷ [] ∷ [] ∷ [] ∷ []) ≡ Err 2
solve_empty = refl

solve_same : command_of (codes "solve" ∷ codes "a" ∷ codes "a" ∷ codes "5" ∷ codes "1" ∷ codes "0" ∷ []) ≡ Err 3
solve_same = refl

solve_seven : command_of (codes "solve" ∷ [] ∷ [] ∷ [] ∷ [] ∷ [] ∷ [] ∷ []) ≡ Err 7
solve_seven = refl

mass_of_c : command_of (codes "probability" ∷ codes "a" ∷ codes "b" ∷ codes "c" ∷ []) ≡ Ok (probability (codes "a") (codes "b") (codes "c"))
mass_of_c = refl

mass_of_none : command_of (codes "probability" ∷ codes "a" ∷ codes "b" ∷ []) ≡ Err 4
mass_of_none = refl

mass_of_empty : command_of (codes "probability" ∷ codes "a" ∷ [] ∷ [] ∷ []) ≡ Err 3
mass_of_empty = refl

mass_of_more : command_of (codes "probability" ∷ codes "a" ∷ codes "b" ∷ codes "c" ∷ [] ∷ []) ≡ Err 5
mass_of_more = refl

reads_a : files_of files_read (Ok (solve (ask_of 5 2 1))) ≡ codes "a" ∷ []
reads_a = refl

writes_b : files_of files_written (Ok (solve (ask_of 5 2 1))) ≡ codes "b" ∷ []
writes_b = refl

reads_both : files_of files_read (command_of (codes "probability" ∷ codes "a" ∷ codes "b" ∷ codes "c" ∷ [])) ≡ codes "a" ∷ codes "b" ∷ []
reads_both = refl

-- what refused words come to, and that `solve` reads its library first
abbrev untold : List ℕ → Option (List ℕ)
untold name = None

refused : ComesTo untold (command_of (codes "check" ∷ [])) (ends words_refused [] (refused_words_text 2))
refused = refl

reads_first : ComesTo untold (Ok (solve (ask_of 5 2 1))) (unread (codes "a"))
reads_first = inl refl

-- the line that refuses an architecture file with the header `kind,from`
refuses_fields : refused_architecture_text (record { class = Fields; place = 1 }) ≡ codes "refused architecture 1 Fields\n"
refuses_fields = ap (λ (n : List ℕ). codes "refused architecture " ++ n ++ codes " " ++ codes "Fields" ++ codes "\n") (decimal_digit 1 (omega arith))

-- the report that nothing is admissible, before a branching and without a cut
none_at_once : infeasible_text 0 0 ≡ codes "status infeasible\nbranchings 0\ncuts 0\n"
none_at_once = ap (λ (d : List ℕ). codes "status infeasible\n" ++ (codes "branchings " ++ d ++ codes "\ncuts " ++ d ++ codes "\n")) (decimal_digit 0 (omega arith))
