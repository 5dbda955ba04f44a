-- The library of a number, as text.
use Rattle.std.specs.Prelude.{ℕ, ◌+◌, ◌/◌, ◌%◌, List, [], ◌∷◌, ◌++◌, codes, ◌==◌, if◌then◌else◌}
use Rattle.std.specs.Fmt.{decimal}
use Rattle.std.specs.List.{flat_map}
use Rattle.rand_core.specs.Steps.{first_words}
use Rattle.rand_xoshiro.specs.SplitMix64.{mix_u64}
use Rattle.generate.specs.declared.group.Group.{Group}

-- the words of a number: the first of SplitMix64, whose state begins as the number
abbrev pub words_of : ℕ → ℕ → List ℕ
words_of number size = first_words mix_u64 size number

-- group i of a word: its cost, 10 to 109 cost units, and its bound, 10^12 or 10^15 in units of 10^-18
abbrev pub group_of : ℕ → ℕ → Group
group_of i word = record {
  number = i;
  cost = 10 + word % 100;
  bound = if word / 100 % 2 == 1 then 1000000000000 else 1000000000000000;
}

-- the groups of some words, numbered from i on
abbrev pub groups_from : ℕ → List ℕ → List Group
groups_from i [] = []
groups_from i (word ∷ words) = group_of i word ∷ groups_from (i + 1) words

-- the groups of a number, as many as the size says
abbrev pub groups_of : ℕ → ℕ → List Group
groups_of number size = groups_from 0 (words_of number size)

-- a group's two types: a source that may stand twice, costs and may fail, and a sink
unfoldable pub types_text : Group → List ℕ
types_text g =
    codes "[[type]]\nname = \"s" ++ decimal g.number ++ codes "\"\nrole = \"source\"\nmax = 2\ncost = " ++ decimal g.cost
    ++ codes "\nfail = 1000\n[[type]]\nname = \"l" ++ decimal g.number ++ codes "\"\nrole = \"sink\"\n"

-- a group's link, from its source to its sink
unfoldable pub link_text : Group → List ℕ
link_text g =
    codes "[[link]]\nfrom = \"s" ++ decimal g.number ++ codes "\"\nto = \"l" ++ decimal g.number ++ codes "\"\ncost = 1\n"

-- a group's requirement: how much its sink may weigh
unfoldable pub requirement_text : Group → List ℕ
requirement_text g =
    codes "[[require]]\nsink = \"l" ++ decimal g.number ++ codes ".1\"\nbound = " ++ decimal g.bound ++ codes "\n"

-- all types, then all links, then all requirements
abbrev pub text_of : List Group → List ℕ
text_of groups = flat_map types_text groups ++ flat_map link_text groups ++ flat_map requirement_text groups

-- the library of a number, of so many groups
abbrev pub library_text : ℕ → ℕ → List ℕ
library_text number size = text_of (groups_of number size)
