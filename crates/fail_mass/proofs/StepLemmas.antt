-- What conditioning answers, as the pair of its two roundings.
use Rattle.std.proofs.Common.{◌≡◌, ℕ, ◌+◌, ◌/◌, ◌^◌, ◌<◌, ◌≤◌, true, false, cond, ◌||◌, [], sym, ap, ◌∙◌, List, inl, inr}
use Rattle.arch_model.specs.Set.{Set, has, empty, put, minus}
use Rattle.arch_model.specs.Inner.Sets.{members_from}
use Rattle.arch_model.specs.Parts.{LibraryParts, ArchitectureParts}
use Rattle.arch_model.specs.Library.{IsLibrary}
use Rattle.arch_model.specs.Architecture.{IsArchitecture}
use Rattle.arch_model.specs.Member.{is_in, fail_of}
use Rattle.arch_model.specs.Path.{parts}
use Rattle.arch_model.specs.Weight.{ceil_div}
use Rattle.arch_model.specs.Mass.{mixed, over_failures}
use Rattle.arch_model.proofs.Members.{false_if, or_cases}
use Rattle.arch_model.proofs.NextMember.{members_none}
use Rattle.arch_model.proofs.Reaching.{parts_more}
use Rattle.arch_model.specs.Set.{union}
use Rattle.fail_mass.specs.Inner.Cases.{value_with, enclosure_with}
use Rattle.fail_mass.proofs.CaseLemmas.{down_whole, up_whole, all_same, always_fails}
use Rattle.fail_mass.proofs.PartingLemmas.{surely, never, both_cases}

abbrev down : ℕ → ℕ
down m = m / 10 ^ 6

abbrev up : ℕ → ℕ
up m = ceil_div m (10 ^ 6)

pub paired : (a b : ℕ) (p : ℕ × ℕ) → a ≡ p.0 → b ≡ p.1 → let q : ℕ × ℕ = (a, b) in q ≡ p
paired a b p x y = λ i. (x i, y i)

module _ (lib : LibraryParts) (right : IsLibrary lib) (arch : ArchitectureParts) (fits : IsArchitecture lib arch) (sink : ℕ) (failed undecided : Set) (i n : ℕ) where
  abbrev left : ℕ × ℕ
  left = enclosure_with lib arch sink failed (members_from undecided i n)

  abbrev value : List ℕ → ℕ
  value = value_with lib arch sink failed

  -- the ends
  module _ (end : ℕ × ℕ) where
    pub where_cut : end.0 ≡ 10 ^ 18 → end.1 ≡ 10 ^ 18 → parts lib arch sink (has failed) ≡ true → end ≡ left
    where_cut lower upper cut = paired end.0 end.1 left
        (lower ∙ sym (all_same lib right down down_whole value (10 ^ 18) (members_from undecided i n) (surely lib arch fits sink failed (members_from undecided i n) cut)))
        (upper ∙ sym (all_same lib right up up_whole value (10 ^ 18) (members_from undecided i n) (surely lib arch fits sink failed (members_from undecided i n) cut)))

    pub where_safe : end.0 ≡ 0 → end.1 ≡ 0 → parts lib arch sink (has (union failed undecided)) ≡ false → end ≡ left
    where_safe lower upper uncut = paired end.0 end.1 left
        (lower ∙ sym (all_same lib right down down_whole value 0 (members_from undecided i n) (never lib arch fits sink failed undecided i n uncut)))
        (upper ∙ sym (all_same lib right up up_whole value 0 (members_from undecided i n) (never lib arch fits sink failed undecided i n uncut)))

    -- no undecided member is left
    pub where_done : end.0 ≡ 0 → end.1 ≡ 0 → parts lib arch sink (has failed) ≡ false → ((k : ℕ) → i ≤ k → has undecided k ≡ false) → end ≡ left
    where_done lower upper uncut none =
        let zero_here : value [] ≡ 0 = ap (λ b. cond b (10 ^ 18) 0) (false_if (parts lib arch sink (λ v. has failed v || is_in [] v)) (λ cut.
        let all = parts_more lib arch fits sink (λ v. has failed v || is_in [] v) (has failed) (λ v here h. elim (or_cases (has failed v) (is_in [] v) h) [ inl old ↦ old | inr new ↦ absurd (let e : false ≡ true = new in cc) ]) cut in
        let e : true ≡ false = sym all ∙ uncut in cc)) in
        paired end.0 end.1 left
        (lower ∙ sym (ap (over_failures lib down value) (members_none undecided i n none) ∙ zero_here))
        (upper ∙ sym (ap (over_failures lib up value) (members_none undecided i n none) ∙ zero_here))

  module _ (v : ℕ) (low : i ≤ v) (high : v < n) (none : (j : ℕ) → i ≤ j → j < v → has undecided j ≡ false) (here : has undecided v ≡ true)
      (more rest : Set) (put_in : more ≡ put failed v) (taken : rest ≡ minus undecided (put empty v)) where
    -- one round of the two cases
    stepped : (round : ℕ → ℕ) → over_failures lib round value (members_from undecided i n)
        ≡ round (mixed (fail_of lib v) (over_failures lib round (value_with lib arch sink more) (members_from rest (v + 1) n)) (over_failures lib round value (members_from rest (v + 1) n)))
    stepped round =
        both_cases lib arch fits sink round failed undecided i v n low high none here
        ∙ ap (λ (s : Set). round (mixed (fail_of lib v) (over_failures lib round (value_with lib arch sink s) (members_from (minus undecided (put empty v)) (v + 1) n)) (over_failures lib round value (members_from (minus undecided (put empty v)) (v + 1) n)))) (sym put_in)
        ∙ ap (λ (s : Set). round (mixed (fail_of lib v) (over_failures lib round (value_with lib arch sink more) (members_from s (v + 1) n)) (over_failures lib round value (members_from s (v + 1) n)))) (sym taken)

    -- a member that always fails
    pub where_certain : (failing : ℕ × ℕ) → failing ≡ enclosure_with lib arch sink more (members_from rest (v + 1) n) → fail_of lib v ≡ 10 ^ 6 → failing ≡ left
    where_certain failing is rate =
        is ∙ sym (paired (over_failures lib down value (members_from undecided i n)) (over_failures lib up value (members_from undecided i n)) (enclosure_with lib arch sink more (members_from rest (v + 1) n))
        (stepped down ∙ always_fails lib right down down_whole v (over_failures lib down (value_with lib arch sink more) (members_from rest (v + 1) n)) (over_failures lib down value (members_from rest (v + 1) n)) rate)
        (stepped up ∙ always_fails lib right up up_whole v (over_failures lib up (value_with lib arch sink more) (members_from rest (v + 1) n)) (over_failures lib up value (members_from rest (v + 1) n)) rate))

    -- both cases
    pub where_open : (failing working mixture : ℕ × ℕ) (ppm : ℕ) → failing ≡ enclosure_with lib arch sink more (members_from rest (v + 1) n) → working ≡ enclosure_with lib arch sink failed (members_from rest (v + 1) n)
        → ppm ≡ fail_of lib v → mixture.0 ≡ mixed ppm failing.0 working.0 / 10 ^ 6 → mixture.1 ≡ ceil_div (mixed ppm failing.1 working.1) (10 ^ 6) → mixture ≡ left
    where_open failing working mixture ppm is_failing is_working is_ppm is_lower is_upper = paired mixture.0 mixture.1 left
        (is_lower ∙ ap (λ p. down (mixed p failing.0 working.0)) is_ppm ∙ ap (λ (q : ℕ × ℕ). down (mixed (fail_of lib v) q.0 working.0)) is_failing
        ∙ ap (λ (q : ℕ × ℕ). down (mixed (fail_of lib v) (over_failures lib down (value_with lib arch sink more) (members_from rest (v + 1) n)) q.0)) is_working ∙ sym (stepped down))
        (is_upper ∙ ap (λ p. up (mixed p failing.1 working.1)) is_ppm ∙ ap (λ (q : ℕ × ℕ). up (mixed (fail_of lib v) q.1 working.1)) is_failing
        ∙ ap (λ (q : ℕ × ℕ). up (mixed (fail_of lib v) (over_failures lib up (value_with lib arch sink more) (members_from rest (v + 1) n)) q.1)) is_working ∙ sym (stepped up))
