-- What a shelf in memory keeps, and what each call makes of it.
use Rattle.std.specs.Prelude.{ℕ, ◌+◌, Bool, cond, ◌&&◌, false, nat_le, max, List, [], ◌∷◌, ◌++◌, length, Option, is_some, option_map, unwrap_or}
use Rattle.outside.specs.declared.counts.Counts.{Counts}
use Rattle.outside.specs.Named.{item_of, changed_at}
use Rattle.outside.specs.Counts.{after_failed_read, after_failed_write}
use Rattle.outside.specs.Inner.Failing.{FailingCalls, passes, after_call}

-- a file that was put: its bytes, the bytes that it has room for, and its own counts of faults
pub record KeptFile : Type 0 where
  pub bytes : List ℕ
  pub room : ℕ
  pub counts : Counts

-- the files by name, the counts that all other names share, the calls that fail, and the room of a new file
pub record Kept : Type 0 where
  pub files : List (List ℕ × KeptFile)
  pub others : Counts
  pub failing : FailingCalls
  pub room : ℕ

-- a shelf at first: no file, no fault, no call
abbrev pub new_shelf : ℕ → List ℕ → Kept
new_shelf room failing = record { files = []; others = record { reads = 0; writes = 0 }; failing = record { numbers = failing; calls = 0 }; room = room }

-- the bytes under a name; nothing where it wasn't put
abbrev pub told_of : Kept → List ℕ → Option (List ℕ)
told_of s name = option_map (λ f. f.bytes) (item_of name s.files)

-- the counts of faults of a name: its own where it was put, and else the shared ones
abbrev pub counts_of_kept : Kept → List ℕ → Counts
counts_of_kept s name = unwrap_or (option_map (λ f. f.counts) (item_of name s.files)) s.others

-- how many reads of a name failed
abbrev pub read_faults_of : Kept → List ℕ → ℕ
read_faults_of s name = (counts_of_kept s name).reads

-- how many writes of a name failed
abbrev pub write_faults_of : Kept → List ℕ → ℕ
write_faults_of s name = (counts_of_kept s name).writes

-- a file as it is put: with a room, or its own length where that is more
abbrev pub new_file : ℕ → Counts → List ℕ → KeptFile
new_file room counts bytes = record { bytes = bytes; room = max room (length bytes); counts = counts }

-- a file as it is put on a shelf: its counts start at the shared ones
abbrev pub file_put : Kept → List ℕ → KeptFile
file_put s bytes = new_file s.room s.others bytes

-- the shelf once a file was put
abbrev pub after_put : Kept → List ℕ → List ℕ → Kept
after_put s name bytes = record s { files = s.files ++ (name, file_put s bytes) ∷ [] }

-- whether the next call goes through where it reads this name or makes it fresh
abbrev pub call_passes : Kept → List ℕ → Bool
call_passes s name = passes s.failing && is_some (item_of name s.files)

-- whether a file has room for a piece
abbrev pub has_room : KeptFile → List ℕ → Bool
has_room f piece = nat_le (length f.bytes + length piece) f.room

-- whether the next call goes through where it appends a piece
abbrev pub append_passes : Kept → List ℕ → List ℕ → Bool
append_passes s name piece = passes s.failing && unwrap_or (option_map (λ f. has_room f piece) (item_of name s.files)) false

-- a call that changed nothing but one file
abbrev pub after_change : (KeptFile → KeptFile) → Kept → List ℕ → Kept
after_change change s name = record s { files = changed_at name change s.files; failing = after_call s.failing }

-- a file with other counts
abbrev pub with_counts : (Counts → Counts) → KeptFile → KeptFile
with_counts change f = record { bytes = f.bytes; room = f.room; counts = change f.counts }

-- a file with other bytes
abbrev pub with_bytes : List ℕ → KeptFile → KeptFile
with_bytes bytes f = record { bytes = bytes; room = f.room; counts = f.counts }

-- a file with a piece added at its end
abbrev pub with_piece : List ℕ → KeptFile → KeptFile
with_piece piece f = record { bytes = f.bytes ++ piece; room = f.room; counts = f.counts }

-- a call of a name that failed: the name's counts rose, or the shared ones where it wasn't put
abbrev pub after_fault : (Counts → Counts) → Kept → List ℕ → Kept
after_fault change s name =
    cond (is_some (item_of name s.files))
    (after_change (with_counts change) s name)
    (record s { others = change s.others; failing = after_call s.failing })

-- the shelf after a read of a name
abbrev pub after_read : Kept → List ℕ → Kept
after_read s name = cond (call_passes s name) (record s { failing = after_call s.failing }) (after_fault after_failed_read s name)

-- the shelf after a name was made fresh, or wasn't
abbrev pub after_fresh : Kept → List ℕ → Kept
after_fresh s name = cond (call_passes s name) (after_change (with_bytes []) s name) (after_fault after_failed_write s name)

-- the shelf after an append to a name: the whole piece was added, or nothing
abbrev pub after_append : Kept → List ℕ → List ℕ → Kept
after_append s name piece = cond (append_passes s name piece) (after_change (with_piece piece) s name) (after_fault after_failed_write s name)
