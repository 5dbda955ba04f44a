-- Counts of faults by name.
use Rattle.std.specs.Prelude.{ℕ, ◌+◌, ◌-◌, ◌^◌, cond, min, max, is_some, map, List, ◌∷◌, ◌++◌, [], unwrap_or}
use Rattle.outside.specs.declared.counts.Counts.{Counts}
use Rattle.outside.specs.Named.{item_of, changed_at}

-- the counts of the names that have their own, and those that all other names share
pub record FaultCounts : Type 0 where
  pub named : List (List ℕ × Counts)
  pub others : Counts

-- one more, up to 2^64 - 1, where it stays
abbrev pub one_more : ℕ → ℕ
one_more n = min (n + 1) (max n (2 ^ 64 - 1))

-- counts after a failed read
abbrev pub after_failed_read : Counts → Counts
after_failed_read c = record { reads = one_more c.reads; writes = c.writes }

-- counts after a failed write
abbrev pub after_failed_write : Counts → Counts
after_failed_write c = record { reads = c.reads; writes = one_more c.writes }

-- the counts of a name
abbrev pub counts_of : FaultCounts → List ℕ → Counts
counts_of c name = unwrap_or (item_of name c.named) c.others

-- how many reads of a name failed
abbrev pub reads_of : FaultCounts → List ℕ → ℕ
reads_of c name = (counts_of c name).reads

-- how many writes of a name failed
abbrev pub writes_of : FaultCounts → List ℕ → ℕ
writes_of c name = (counts_of c name).writes

-- all counts after a change of those of one name: its own, or the shared ones where it has none
abbrev pub counts_after : (Counts → Counts) → FaultCounts → List ℕ → FaultCounts
counts_after change c name =
    cond (is_some (item_of name c.named))
    (record { named = changed_at name change c.named; others = c.others })
    (record { named = c.named; others = change c.others })

-- all counts once a name has its own, which start at the shared ones
abbrev pub counts_with : FaultCounts → List ℕ → FaultCounts
counts_with c name = record { named = c.named ++ (name, c.others) ∷ []; others = c.others }

-- no fault yet, with counts of their own for these names
abbrev pub no_faults : List (List ℕ) → FaultCounts
no_faults names = record { named = map (λ name. (name, record { reads = 0; writes = 0 })) names; others = record { reads = 0; writes = 0 } }
