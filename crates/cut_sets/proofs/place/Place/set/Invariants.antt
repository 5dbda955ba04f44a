use Rattle.std.proofs.Common.{◌≡◌, ℕ, map, take}
use Rattle.arch_model.specs.Set.{has}
use Rattle.arch_model.specs.Member.{is_in}
use Rattle.arch_model.specs.declared.sets.VarId.{VarId}
use Rattle.cut_sets.proofs.place.Place.set.Given as goal

abbrev pub invariant-loop-v : goal.invariant-loop-v
invariant-loop-v l = (c : ℕ) → has l.members c ≡ is_in (map (λ (v : VarId). v.0) (take l.v-index l.v-items)) c
