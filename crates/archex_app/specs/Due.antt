-- What is due of a run.
use Rattle.std.specs.Prelude.{ℕ, List}
use Rattle.archex_app.specs.Status.{Ending, read_fault, write_fault, no_memory}

-- what may be due of a run
pub data Due : Type 0 where
  -- to end so, with these bytes under each name of a file that is written, in the order of writing, and with this text on the sink
  ends : Ending → List (List ℕ × List ℕ) → List ℕ → Due
  -- to end since this file couldn't be read
  unread : List ℕ → Due

-- an ending that is due: no fault of the outside, and no want of memory
abbrev pub IsSettled : Ending → Type 0
IsSettled read_fault = ⊥
IsSettled write_fault = ⊥
IsSettled no_memory = ⊥
IsSettled other = Unit {0}
