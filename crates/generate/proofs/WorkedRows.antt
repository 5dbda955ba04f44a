-- Worked rows: the words, costs, bounds and text of the number 0.
use Rattle.std.proofs.Common.{◌≡◌, [], ◌∷◌, codes, map, refl}
use Rattle.std.specs.Fmt.{digits}
use Rattle.rand_core.specs.Steps.{first_words}
use Rattle.generate.specs.Generated.{words_of, groups_of, types_text, link_text, requirement_text, library_text}

words_of_0 : words_of 0 5 ≡ 16294208416658607535 ∷ 7960286522194355700 ∷ 487617019471545679 ∷ 17909611376780542444 ∷ 1961750202426094747 ∷ []
unfolding first_words
words_of_0 = refl

costs_of_0 : map (λ g. g.cost) (groups_of 0 5) ≡ 45 ∷ 10 ∷ 89 ∷ 54 ∷ 57 ∷ []
unfolding first_words
costs_of_0 = refl

bounds_of_0 : map (λ g. g.bound) (groups_of 0 5) ≡ 1000000000000 ∷ 1000000000000 ∷ 1000000000000000 ∷ 1000000000000000 ∷ 1000000000000 ∷ []
unfolding first_words
bounds_of_0 = refl

one_group_of_0 : library_text 0 1 ≡ codes "[[type]]\nname = \"s0\"\nrole = \"source\"\nmax = 2\ncost = 45\nfail = 1000\n[[type]]\nname = \"l0\"\nrole = \"sink\"\n[[link]]\nfrom = \"s0\"\nto = \"l0\"\ncost = 1\n[[require]]\nsink = \"l0.1\"\nbound = 1000000000000\n"
unfolding first_words digits types_text link_text requirement_text
one_group_of_0 = refl
