-- Worked rows: the library of the number 0 with two groups.
use Rattle.std.proofs.Common.{◌≡◌, [], ◌∷◌, codes, map, refl}
use Rattle.std.specs.Fmt.{digits}
use Rattle.rand_core.specs.Steps.{first_words}
use Rattle.arch_model.specs.declared.template.Role.TheVariants.{Source, Sink}
use Rattle.generated.specs.GeneratedLibrary.{generated_library}

names_of_0 : map (λ t. t.name) (generated_library 0 2).types ≡ codes "s0" ∷ codes "l0" ∷ codes "s1" ∷ codes "l1" ∷ []
unfolding first_words digits
names_of_0 = refl

roles_of_0 : map (λ t. t.role) (generated_library 0 2).types ≡ Source ∷ Sink ∷ Source ∷ Sink ∷ []
unfolding first_words
roles_of_0 = refl

costs_of_0 : map (λ c. c.cost) (generated_library 0 2).components ≡ 45 ∷ 45 ∷ 0 ∷ 10 ∷ 10 ∷ 0 ∷ []
unfolding first_words
costs_of_0 = refl

tails_of_0 : map (λ e. e.tail.0) (generated_library 0 2).edges ≡ 0 ∷ 1 ∷ 3 ∷ 4 ∷ []
unfolding first_words
tails_of_0 = refl

heads_of_0 : map (λ e. e.head.0) (generated_library 0 2).edges ≡ 2 ∷ 2 ∷ 5 ∷ 5 ∷ []
unfolding first_words
heads_of_0 = refl

sinks_of_0 : map (λ r. r.sink.0) (generated_library 0 2).requirements ≡ 2 ∷ 5 ∷ []
unfolding first_words
sinks_of_0 = refl

bounds_of_0 : map (λ r. r.bound) (generated_library 0 2).requirements ≡ 1000000000000 ∷ 1000000000000 ∷ []
unfolding first_words
bounds_of_0 = refl
