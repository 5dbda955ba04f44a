-- Tables of edges.
use Rattle.std.proofs.Common.{◌≡◌, ℕ, ◌+◌, ◌<◌, Bool, true, not, ◌&&◌, length, ap, sym, ◌∙◌, arith}
use Rattle.arch_model.specs.Set.{Set, has, empty}
use Rattle.arch_model.specs.Parts.{LibraryParts, ArchitectureParts}
use Rattle.arch_model.specs.Architecture.{present}
use Rattle.arch_model.specs.Path.{live_edges, joins}
use Rattle.arch_model.proofs.Members.{false_if}
use Rattle.arch_model.proofs.SetLaws.{has-empty}
use Rattle.paths.specs.Links.{LinksParts, AreLinks}

-- a table of edges is one where the same edges have failed
pub links_beside : (lib : LibraryParts) (arch : ArchitectureParts) (f g : ℕ → Bool) (table : LinksParts) → AreLinks lib arch f table → ((e : ℕ) → f (length lib.components + e) ≡ g (length lib.components + e)) → AreLinks lib arch g table
links_beside lib arch f g table right same =
    let edges : live_edges lib arch f ≡ live_edges lib arch g = ap (λ (p : ℕ → Bool). present p lib.edges) (λ i e. has arch.edges e && not (same e i)) in record {
      sources = right.sources;
      joined = λ a c. right.joined a c ∙ ap (λ es. joins es a c) edges;
    }

-- where no edge has failed, a table of all edges is one of those that haven't
pub links_of_all : (lib : LibraryParts) (arch : ArchitectureParts) (table : LinksParts) (failed : Set) → AreLinks lib arch (has empty) table → ((v : ℕ) → has failed v ≡ true → v < length lib.components) → AreLinks lib arch (has failed) table
links_of_all lib arch table failed all small = links_beside lib arch (has empty) (has failed) table all
    (λ e. has-empty (length lib.components + e) ∙ sym (false_if (has failed (length lib.components + e)) (λ h. let low = small (length lib.components + e) h in absurd (omega (arith, low)))))
