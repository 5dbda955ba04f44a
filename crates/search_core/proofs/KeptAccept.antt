-- What an accepted candidate and a published cut keep.
use Rattle.std.proofs.Common.{◌≡◌, ℕ, ◌+◌, ◌-◌, ◌*◌, ◌^◌, ◌<◌, ◌≤◌, Bool, true, false, [], ◌∷◌, ◌++◌, length, Option, Some, None, IfSome, refl, sym, ap, ◌∙◌, arith, if◌then◌else◌}
use Rattle.std.specs.Prelude.{sum_by}
use Rattle.std.specs.Option.{IsSomeAnd}
use Rattle.std.specs.FinMap.{get, remove, len, values}
use Rattle.std.proofs.lemmas.Bool.{ltb-true, ltb-false}
use Rattle.std.proofs.lemmas.List.{length-append}
use Rattle.std.proofs.lemmas.List.Elements.{All-append, All-from_recursion}
use Rattle.arch_model.specs.Parts.{LibraryParts, ArchitectureParts}
use Rattle.arch_model.specs.Architecture.{cost_of}
use Rattle.arch_model.specs.Admissible.{IsAdmissible}
use Rattle.arch_model.specs.Member.{is_present, member_count}
use Rattle.rows.specs.Parts.{CutParts, ProblemParts}
use Rattle.rows.specs.Cut.{IsCut}
use Rattle.rows.specs.Known.{IsCutBelow}
use Rattle.rows.specs.Cube.{IsCube, IsCubeBelow, LiesIn}
use Rattle.incumbent.specs.declared.best.Best.{Best}
use Rattle.incumbent.specs.Best.{IsCheaper, is_cheaper, best_after}
use Rattle.search_core.specs.Node.{Node, Open, Held, Pending, Studied, Parked, node_cube}
use Rattle.search_core.specs.State.{SearchState}
use Rattle.search_core.specs.Step.{accepted, published}
use Rattle.search_core.specs.Invariant.{IsOldBound, KnowsOld, HasCandidate, ParkedAtLimit, IsAdmissibleBest, HoldsInAll, space_of}
use Rattle.search_core.proofs.NodeMap.{total-remove, len-take_out}
use Rattle.search_core.proofs.KeptNodes.{each_remove, covered_remove}
use Rattle.search_core.proofs.Kept.{IsKept, HasNoneWanted, less_without, fewer_without}

-- the best after an offer, by whether it is cheaper
module _ (best : Option Best) (cost : ℕ) (arch : ArchitectureParts) where
  abbrev pub new_best : Best
  new_best = record { cost = cost; architecture = arch }

  after_by : (P : Option Best → Type 0) (b : Bool) → (b ≡ true → P (Some new_best)) → (b ≡ false → P best) → P (if b then Some new_best else best)
  after_by P true taken left = taken refl
  after_by P false taken left = left refl

  pub best_by : (P : Option Best → Type 0) → (is_cheaper cost best ≡ true → P (Some new_best)) → (is_cheaper cost best ≡ false → P best) → P (best_after best cost arch)
  best_by P taken left = after_by P (is_cheaper cost best) taken left

-- a bound that was the best cost once still is one
older : (best : Option Best) (cost : ℕ) (arch : ArchitectureParts) (u : Option ℕ) → IsOldBound best u → IsOldBound (best_after best cost arch) u
older best cost arch None h = tt
older None cost arch (Some u) h = absurd h
older (Some b) cost arch (Some u) h =
    best_by (Some b) cost arch (λ o. IsSomeAnd o (λ c. c.cost ≤ u)) (λ less. let lt : cost < b.cost = ltb-true cost b.cost less in let le : b.cost ≤ u = h in omega arith) (λ same. h)

-- what is cheaper than the best after an offer is cheaper than the best before, and than what was offered
cheaper_before : (best : Option Best) (cost : ℕ) (arch : ArchitectureParts) (c : ℕ) → IsCheaper c (best_after best cost arch) → IsCheaper c best
cheaper_before None cost arch c h = tt
cheaper_before (Some b) cost arch c h =
    best_by (Some b) cost arch (λ o. IsCheaper c o → c < b.cost) (λ less h. let lt : cost < b.cost = ltb-true cost b.cost less in let le : c < cost = h in omega arith) (λ same h. h) h

cheaper_than : (best : Option Best) (cost : ℕ) (arch : ArchitectureParts) (c : ℕ) → IsCheaper c (best_after best cost arch) → c < cost
cheaper_than None cost arch c h = h
cheaper_than (Some b) cost arch c h =
    best_by (Some b) cost arch (λ o. IsCheaper c o → c < cost) (λ less h. h) (λ same h. let le : b.cost ≤ cost = ltb-false cost b.cost same in let lt : c < b.cost = h in omega arith) h

admissible_after : (lib : LibraryParts) (best : Option Best) (cost : ℕ) (arch : ArchitectureParts) → IsAdmissible lib arch → cost ≡ cost_of lib arch → IfSome best (IsAdmissibleBest lib) → IfSome (best_after best cost arch) (IsAdmissibleBest lib)
admissible_after lib best cost arch is costs h = best_by best cost arch (λ o. IfSome o (IsAdmissibleBest lib)) (λ less. record { admissible = is; cost = costs }) (λ same. h)

-- what a node knows stays known
knows_after : (old new : SearchState) (node : Node) → length old.cuts ≤ length new.cuts → ((u : Option ℕ) → IsOldBound old.best u → IsOldBound new.best u) → KnowsOld old node → KnowsOld new node
knows_after old new (Open cube) cuts bounds h = tt
knows_after old new (Held cube worker k u) cuts bounds h = let le : k ≤ length old.cuts = h.0 in (omega arith, bounds u h.1)
knows_after old new (Pending cube) cuts bounds h = tt
knows_after old new (Studied cube worker) cuts bounds h = tt
knows_after old new (Parked cube) cuts bounds h = tt

module _ (problem : ProblemParts) (old : SearchState) (kept : IsKept problem old) (i : ℕ) (node : Node) (there : get old.nodes i ≡ Some node) where
  -- an admissible candidate was offered as the best, and no cheaper one lies in the cube that is gone
  pub accepted_keeps : (cost : ℕ) (arch : ArchitectureParts) → IsAdmissible problem.library arch → cost ≡ cost_of problem.library arch
      → ((other : ArchitectureParts) → IsAdmissible problem.library other → LiesIn (is_present problem.library other) (node_cube node) → other ≡ arch)
      → IsKept problem (accepted old i cost arch)
  accepted_keeps cost arch is costs alone =
      let n = member_count problem.library in
      let inv = kept.holds in record {
        over = record {
          cubes = each_remove old.nodes i (λ j other. IsCube (node_cube other) × IsCubeBelow n (node_cube other)) kept.over.cubes;
          cuts = kept.over.cuts;
        };
        holds = record {
          knowledge_is_old = each_remove old.nodes i (λ j other. KnowsOld (accepted old i cost arch) other) (λ j other at. knows_after old (accepted old i cost arch) other (omega arith) (older old.best cost arch) (inv.knowledge_is_old j other at));
          candidates_meet_rows = each_remove old.nodes i (λ j other. HasCandidate problem other) inv.candidates_meet_rows;
          best_is_admissible = admissible_after problem.library old.best cost arch is costs inv.best_is_admissible;
          cuts_hold = inv.cuts_hold;
          nothing_is_lost = λ other can cheap.
              covered_remove old.nodes i (is_present problem.library other) node (inv.nothing_is_lost other can (cheaper_before old.best cost arch (cost_of problem.library other) cheap)) there
              (λ lies.
              let less : cost_of problem.library other < cost = cheaper_than old.best cost arch (cost_of problem.library other) cheap in
              let same : cost_of problem.library other ≡ cost_of problem.library arch = ap (cost_of problem.library) (alone other can lies) in
              not_less (cost_of problem.library other) cost less (same ∙ sym costs));
          within_limit = record {
            at_most = inv.within_limit.at_most;
            parked = each_remove old.nodes i (λ j other. ParkedAtLimit old other) inv.within_limit.parked;
          };
          space_is_bounded = less_without old.branchings (space_of n node) (sum_by (space_of n) (values old.nodes)) (sum_by (space_of n) (values (remove old.nodes i))) (2 ^ n - 1)
              (total-remove (space_of n) old.nodes i node there) inv.space_is_bounded;
          numbers_are_bounded = record {
            numbers = each_remove old.nodes i (λ j other. j ≤ 2 * old.branchings) inv.numbers_are_bounded.numbers;
            together = fewer_without (len (remove old.nodes i)) (len old.nodes) (length old.cuts) (old.branchings + 1) (len-take_out old.nodes i node there) inv.numbers_are_bounded.together;
          };
        };
      } where
        not_less : (a b : ℕ) → a < b → a ≡ b → ⊥
        not_less a b h e = omega arith

  -- a cut that holds in every admissible architecture was published, and none that is looked for lies in the cube that is gone
  pub published_keeps : (row : CutParts) → IsCut row × IsCutBelow (member_count problem.library) row → HoldsInAll problem.library row → HasNoneWanted problem old (node_cube node) → IsKept problem (published old i row)
  published_keeps row over holds none =
      let n = member_count problem.library in
      let inv = kept.holds in
      let more : length (old.cuts ++ row ∷ []) ≡ length old.cuts + 1 = length-append old.cuts (row ∷ []) in record {
        over = record {
          cubes = each_remove old.nodes i (λ j other. IsCube (node_cube other) × IsCubeBelow n (node_cube other)) kept.over.cubes;
          cuts = All-append (λ cut. IsCut cut × IsCutBelow n cut) old.cuts (row ∷ []) kept.over.cuts (All-from_recursion (λ cut. IsCut cut × IsCutBelow n cut) (row ∷ []) (over, tt));
        };
        holds = record {
          knowledge_is_old = each_remove old.nodes i (λ j other. KnowsOld (published old i row) other) (λ j other at. knows_after old (published old i row) other (omega (arith, more)) (λ u h. h) (inv.knowledge_is_old j other at));
          candidates_meet_rows = each_remove old.nodes i (λ j other. HasCandidate problem other) inv.candidates_meet_rows;
          best_is_admissible = inv.best_is_admissible;
          cuts_hold = All-append (HoldsInAll problem.library) old.cuts (row ∷ []) inv.cuts_hold (All-from_recursion (HoldsInAll problem.library) (row ∷ []) (holds, tt));
          nothing_is_lost = λ arch is cheap. covered_remove old.nodes i (is_present problem.library arch) node (inv.nothing_is_lost arch is cheap) there (none arch is cheap);
          within_limit = record {
            at_most = inv.within_limit.at_most;
            parked = each_remove old.nodes i (λ j other. ParkedAtLimit old other) inv.within_limit.parked;
          };
          space_is_bounded = less_without old.branchings (space_of n node) (sum_by (space_of n) (values old.nodes)) (sum_by (space_of n) (values (remove old.nodes i))) (2 ^ n - 1)
              (total-remove (space_of n) old.nodes i node there) inv.space_is_bounded;
          numbers_are_bounded = record {
            numbers = each_remove old.nodes i (λ j other. j ≤ 2 * old.branchings) inv.numbers_are_bounded.numbers;
            together = one_for_one (len (remove old.nodes i)) (len old.nodes) (length old.cuts) (length (old.cuts ++ row ∷ [])) (old.branchings + 1) (len-take_out old.nodes i node there) more inv.numbers_are_bounded.together;
          };
        };
      } where
        one_for_one : (a b c d e : ℕ) → 1 + a ≡ b → d ≡ c + 1 → b + c ≤ e → a + d ≤ e
        one_for_one a b c d e h k l = omega arith
