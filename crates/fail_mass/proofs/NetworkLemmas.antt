-- Numbers of members.
use Rattle.std.proofs.Common.{ℕ, ◌<◌, arith}
use Rattle.arch_model.specs.declared.limits.TheConstants.{MEMBERS}
use Rattle.arch_model.specs.Parts.{LibraryParts}
use Rattle.arch_model.specs.Library.{IsLibrary}
use Rattle.arch_model.specs.Member.{member_count}

-- a member's number is below the limit
pub member_low : (lib : LibraryParts) → IsLibrary lib → (v : ℕ) → v < member_count lib → v < MEMBERS
member_low lib right v low = let few = right.few_components in let few_too = right.few_edges in omega (arith, low, few, few_too)
