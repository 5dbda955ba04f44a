-- How a run of each command may end.
use Rattle.std.specs.Prelude.{◌≡◌, ℕ, List, [], ◌∷◌, ◌++◌, Contains, Result, Ok, Err}
use Rattle.archex_app.specs.declared.status.Status.{Status}
use Rattle.archex_app.specs.Status.{Ending, status_of, done, infeasible, node_limit, library_refused, words_refused, read_fault, write_fault, no_memory, log_refused, architecture_refused}
use Rattle.archex_app.specs.Words.{Asked, solve, check, weigh, cuts, probability, template, rows, generate}

-- the endings that may be due of a command
abbrev pub endings_of : Asked → List Ending
endings_of (solve ask) = done ∷ infeasible ∷ node_limit ∷ library_refused ∷ []
endings_of (check lib log) = done ∷ library_refused ∷ log_refused ∷ []
endings_of (weigh lib arch) = done ∷ library_refused ∷ architecture_refused ∷ []
endings_of (cuts lib arch sink) = done ∷ library_refused ∷ words_refused ∷ architecture_refused ∷ []
endings_of (probability lib arch sink) = done ∷ library_refused ∷ words_refused ∷ architecture_refused ∷ []
endings_of (template lib) = done ∷ library_refused ∷ []
endings_of (rows lib) = done ∷ library_refused ∷ []
endings_of (generate ask) = done ∷ infeasible ∷ node_limit ∷ []

-- those of a run of words: a command may also end with a fault of the outside, or for want of memory; refused words end with their refusal, or with a fault of the sink
abbrev pub endings_for : Result Asked ℕ → List Ending
endings_for (Ok asked) = endings_of asked ++ read_fault ∷ write_fault ∷ no_memory ∷ []
endings_for (Err place) = words_refused ∷ write_fault ∷ []

-- the words may end a run with that status
abbrev pub MayEnd : Result Asked ℕ → Status → Type 0
MayEnd command status = (ending : Ending) × Contains (endings_for command) ending × (status ≡ status_of ending)
