-- Whether a member can still be the only failed one on some path.
use Rattle.std.specs.Prelude.{◌≡◌, ℕ, ◌-◌, Bool, false, ◌&&◌, ◌||◌, nat_eq, nat_lt, List, ◌∷◌, length, slice_get, IsTrue, ◌⊎◌, if◌then◌else◌}
use Rattle.std.specs.Option.{option_map_or}
use Rattle.arch_model.specs.Set.{Set, has}
use Rattle.arch_model.specs.Parts.{LibraryParts, ArchitectureParts}
use Rattle.arch_model.specs.Member.{is_in}
use Rattle.arch_model.specs.Path.{is_source, is_up, live_edges, joins, LeadsTo}
use Rattle.arch_model.specs.Inner.Walks.{IsWalk}
use Rattle.cut_sets.specs.declared.useful.Sides.{Sides}

module _ (lib : LibraryParts) (arch : ArchitectureParts) where
  -- a walk from a source to component c on which nothing has failed, the last component first
  abbrev pub LeadsFrom : (ℕ → Bool) → ℕ → List ℕ → Type 0
  LeadsFrom failed c rest = IsWalk (is_source lib) (is_up arch failed) (joins (live_edges lib arch failed)) c rest

  -- component c is reached, or follows one that is
  abbrev pub IsFar : (ℕ → Bool) → ℕ → Type 0
  IsFar failed c = ((rest : List ℕ) × LeadsFrom failed c rest) ⊎ ((b : ℕ) × (rest : List ℕ) × LeadsFrom failed b rest × IsTrue (joins (live_edges lib arch failed) b c))

  -- component c leads to the sink, or to one that does
  abbrev pub IsNear : ℕ → (ℕ → Bool) → ℕ → Type 0
  IsNear sink failed c = ((rest : List ℕ) × LeadsTo lib arch sink failed (c ∷ rest)) ⊎ ((d : ℕ) × (rest : List ℕ) × LeadsTo lib arch sink failed (d ∷ rest) × IsTrue (joins (live_edges lib arch failed) c d))

  -- where paths run on which a chosen member can be the only failed one: nothing before it is near the sink, and nothing after it far from it, where all that may be chosen has failed
  pub record AreSides (sink : ℕ) (chosen wide : ℕ → Bool) (s : Sides) : Type 0 where
    pub before : (c : ℕ) (rest : List ℕ) → LeadsFrom chosen c rest → ((x : ℕ) → IsTrue (is_in (c ∷ rest) x) → IsNear sink wide x → ⊥) → IsTrue (has s.before c)
    pub after : (c : ℕ) (rest : List ℕ) → LeadsTo lib arch sink chosen (c ∷ rest) → ((x : ℕ) → IsTrue (is_in (c ∷ rest) x) → IsFar wide x → ⊥) → IsTrue (has s.after c)
    pub entered : (b c : ℕ) → IsTrue (has s.before b) → IsTrue (joins (live_edges lib arch chosen) b c) → IsTrue (has s.entered c)
    pub left : (c d : ℕ) → IsTrue (has s.after d) → IsTrue (joins (live_edges lib arch chosen) c d) → IsTrue (has s.left c)

-- whether such a path can lead through member v
abbrev pub is_passed : LibraryParts → ℕ → Sides → ℕ → Bool
is_passed lib sink s v =
    if nat_lt v (length lib.components)
    then (is_source lib v || has s.entered v) && (nat_eq v sink || has s.left v)
    else option_map_or (λ e. has s.before e.tail.0 && has s.after e.head.0) (slice_get lib.edges (v - length lib.components)) false

-- member v can't be the only failed one on any path, where all that may be chosen has failed
abbrev pub IsUseless : LibraryParts → ArchitectureParts → ℕ → Set → Set → ℕ → Type 0
IsUseless lib arch sink members wide v = (s : Sides) × AreSides lib arch sink (has members) (has wide) s × (is_passed lib sink s v ≡ false)
