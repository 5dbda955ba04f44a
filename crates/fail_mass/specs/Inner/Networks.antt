-- What conditioning knows of the network that it asks, and what it asks of it.
use Rattle.std.specs.Prelude.{ℕ, ◌<◌, Bool, IsTrue}
use Rattle.arch_model.specs.Set.{Set, has, empty}
use Rattle.arch_model.specs.Inner.Sets.{members_from}
use Rattle.arch_model.specs.Library.{IsLibrary}
use Rattle.arch_model.specs.Architecture.{IsArchitecture}
use Rattle.arch_model.specs.Member.{member_count}
use Rattle.arch_model.specs.Path.{parts}
use Rattle.paths.specs.Links.{AreLinks}
use Rattle.fail_mass.specs.declared.network.Network.{Network}
use Rattle.fail_mass.specs.Inner.Cases.{enclosure_with}

-- an architecture of a library, with a table of all its edges
pub record IsNetwork (net : Network) : Type 0 where
  pub library : IsLibrary net.lib.now
  pub architecture : IsArchitecture net.lib.now net.arch.now
  pub links : AreLinks net.lib.now net.arch.now (has empty) net.links

-- a set of members of the template
abbrev pub AreMembers : Network → Set → Type 0
AreMembers net members = (v : ℕ) → IsTrue (has members v) → v < member_count net.lib.now

-- whether some failed members part the sink
abbrev pub is_parted : Network → Set → Bool
is_parted net failed = parts net.lib.now net.arch.now net.sink.0 (has failed)

-- the enclosure over the failures of the undecided members from number i on, where some others have failed
abbrev pub enclosure_from : Network → Set → Set → ℕ → ℕ × ℕ
enclosure_from net failed undecided i = enclosure_with net.lib.now net.arch.now net.sink.0 failed (members_from undecided i (member_count net.lib.now))
