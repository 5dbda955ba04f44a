-- From which components a sink is reached.
use Rattle.std.specs.Prelude.{ℕ, Bool, ◌&&◌, not, nat_eq, nat_lt, length}
use Rattle.std.specs.List.{range_with_len}
use Rattle.arch_model.specs.Parts.{LibraryParts, ArchitectureParts}
use Rattle.arch_model.specs.Member.{is_in}
use Rattle.arch_model.specs.Path.{live_edges, joins, reached_within}

-- whether the sink is reached from component c over edges that are present and not failed, and components that are not failed: the test of `LeadsTo`
unfoldable pub reaches : LibraryParts → ArchitectureParts → ℕ → (ℕ → Bool) → ℕ → Bool
reaches lib arch sink failed c =
    let n = length lib.components in
    let edges = live_edges lib arch failed in
    is_in (reached_within (nat_eq sink) (λ d. nat_lt d n && not (failed d)) (λ b a. joins edges a b) (range_with_len 0 n) n) c
