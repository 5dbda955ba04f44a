-- The lines of a history without a change of the limit are together short.
use Rattle.std.proofs.Common.{◌≡◌, ℕ, suc, ◌+◌, ◌*◌, ◌≤◌, true, false, List, [], ◌∷◌, ◌++◌, length, codes, Option, Some, refl, sym, ap, subst, ◌∙◌, arith}
use Rattle.std.specs.Prelude.{sum_by}
use Rattle.std.specs.List.{AllByRecursion, flat_map}
use Rattle.std.specs.Ordering.{nat_cmp}
use Rattle.std.specs.FinMap.{FinMap, get, insert, remove, values, empty, get-empty}
use Rattle.std.proofs.lemmas.List.{length-append}
use Rattle.arch_model.specs.Library.{IsLibrary}
use Rattle.rows.specs.Parts.{CubeParts, ProblemParts}
use Rattle.rows.specs.Cube.{fixed_at, whole}
use Rattle.rows.specs.Problem.{IsProblem}
use Rattle.search_core.specs.declared.limits.TheConstants.{BRANCHINGS}
use Rattle.search_core.specs.declared.entry.Entry.{Entry}
use Rattle.search_core.specs.declared.entry.Entry.TheVariants.{Take, Branch, Prune, Offer, Study, Publish, Accept, Park, Reopen}
use Rattle.search_core.specs.Node.{Node, Open, Held, Pending, Studied, Parked, EachNode}
use Rattle.search_core.specs.State.{SearchState, start_of}
use Rattle.search_core.specs.Step.{Takes, Branches, Prunes, Offers, Studies, Accepts, Publishes, Parks, Case, with_node, without_node, branched}
use Rattle.search_core.specs.History.{Steps, is_reopen}
use Rattle.search_core.proofs.CutRows.{RightCutsHold}
use Rattle.search_core.proofs.NodeMap.{total-insert_new, total-remove, total-replace, total-empty}
use Rattle.search_core.proofs.KeptNodes.{first_is_new, second_is_new}
use Rattle.search_core.proofs.Kept.{IsKept}
use Rattle.search_core.proofs.Counts.{case_keeps_limit}
use Rattle.search_core.proofs.Moves.{step_keeps}
use Rattle.proof_log.specs.Value.{ended, entry_text}
use Rattle.proof_log.specs.Log.{NoEdgeFails}
use Rattle.proof_log.proofs.EntryRanges.{CanBeLogged, most_bytes, step_logged}

-- how many bytes a node's lines can still have before it is gone or parked
abbrev pub bytes_left : Node → ℕ
bytes_left (Open cube) = 12000
bytes_left (Held cube worker cuts bound) = 11900
bytes_left (Pending cube) = 3200
bytes_left (Studied cube worker) = 3100
bytes_left (Parked cube) = 0

abbrev pub room_of : SearchState → ℕ
room_of state = sum_by bytes_left (values state.nodes)

-- a line of at most n bytes takes them from the room, but for a branching, which adds that of its two nodes
abbrev pub TakesRoom : ℕ → SearchState → SearchState → Type 0
TakesRoom n old new = (n + room_of new) + 24000 * old.branchings ≤ room_of old + 24000 * new.branchings

replaced_room : (n a b s t k : ℕ) → a + t ≡ b + s → n + b ≤ a → (n + t) + k ≤ s + k
replaced_room n a b s t k e h = omega arith

removed_room : (n a s t k : ℕ) → a + t ≡ s → n ≤ a → (n + t) + k ≤ s + k
removed_room n a s t k e h = omega arith

branched_room : (s0 s1 s2 s3 b : ℕ) → 11900 + s1 ≡ s0 → s2 ≡ 12000 + s1 → s3 ≡ 12000 + s2 → (9000 + s3) + 24000 * b ≤ s0 + 24000 * (b + 1)
branched_room s0 s1 s2 s3 b e1 e2 e3 = omega arith

module _ (old : SearchState) (i : ℕ) (node : Node) (there : get old.nodes i ≡ Some node) (n : ℕ) where
  room_replaced : (next : Node) (new : SearchState) → n + bytes_left next ≤ bytes_left node → new ≡ with_node old i next → TakesRoom n old new
  room_replaced next new less is =
      subst (TakesRoom n old) (sym is)
      (replaced_room n (bytes_left node) (bytes_left next) (room_of old) (sum_by bytes_left (values (insert old.nodes i next))) (24000 * old.branchings) (total-replace bytes_left old.nodes i node next there) less)

  room_removed : (k new : SearchState) → n ≤ bytes_left node → k.nodes ≡ remove old.nodes i → k.branchings ≡ old.branchings → new ≡ k → TakesRoom n old new
  room_removed k new some nodes same is =
      let gone : (n + sum_by bytes_left (values (remove old.nodes i))) + 24000 * old.branchings ≤ room_of old + 24000 * old.branchings =
      removed_room n (bytes_left node) (room_of old) (sum_by bytes_left (values (remove old.nodes i))) (24000 * old.branchings) (total-remove bytes_left old.nodes i node there) some in
      let at_nodes : (n + sum_by bytes_left (values k.nodes)) + 24000 * old.branchings ≤ room_of old + 24000 * old.branchings =
      subst (λ (m : FinMap nat_cmp Node). (n + sum_by bytes_left (values m)) + 24000 * old.branchings ≤ room_of old + 24000 * old.branchings) (sym nodes) gone in
      subst (TakesRoom n old) (sym is) (subst (λ (b : ℕ). (n + room_of k) + 24000 * old.branchings ≤ room_of old + 24000 * b) (sym same) at_nodes)

room_branched : (old : SearchState) (i : ℕ) (cube : CubeParts) (worker k : ℕ) (u : Option ℕ) (after : CubeParts) (v : ℕ) (new : SearchState) → get old.nodes i ≡ Some (Held cube worker k u)
    → EachNode (λ j node. j ≤ 2 * old.branchings) old.nodes → new ≡ branched old i after v → TakesRoom 9000 old new
room_branched old i cube worker k u after v new held low is =
    let j = old.branchings in
    let left = remove old.nodes i in
    let one = Open (fixed_at after v true) in
    let other = Open (fixed_at after v false) in
    let with_one = insert left (2 * j + 1) one in
    subst (TakesRoom 9000 old) (sym is)
    (branched_room (room_of old) (sum_by bytes_left (values left)) (sum_by bytes_left (values with_one)) (sum_by bytes_left (values (insert with_one (2 * j + 2) other))) j
    (total-remove bytes_left old.nodes i (Held cube worker k u) held) (total-insert_new bytes_left left (2 * j + 1) one (first_is_new old.nodes i j low))
    (total-insert_new bytes_left with_one (2 * j + 2) other (second_is_new old.nodes i j one low)))

room_of_case : (problem : ProblemParts) (old : SearchState) (entry : Entry) (new : SearchState) → IsKept problem old → is_reopen entry ≡ false → Case problem old entry new → TakesRoom (most_bytes entry) old new
room_of_case problem old (Take worker node cuts bound) new kept keeps step =
    let s : Takes old worker node cuts bound new = step in room_replaced old node (Open s.cube) s.opened 100 (Held s.cube worker cuts bound) new (omega arith) s.next
room_of_case problem old (Branch worker node trace var) new kept keeps step =
    let s : Branches problem old worker node trace var.0 new = step in
    room_branched old node s.traced.cube worker s.traced.cuts s.traced.bound s.traced.after var.0 new s.traced.held kept.holds.numbers_are_bounded.numbers s.next
room_of_case problem old (Prune worker node trace reason) new kept keeps step =
    let s : Prunes problem old worker node trace reason new = step in
    room_removed old node (Held s.traced.cube worker s.traced.cuts s.traced.bound) s.traced.held 9000 (without_node old node) new (omega arith) refl refl s.next
room_of_case problem old (Offer worker node trace) new kept keeps step =
    let s : Offers problem old worker node trace new = step in
    room_replaced old node (Held s.traced.cube worker s.traced.cuts s.traced.bound) s.traced.held 7000 (Pending s.traced.after) new (omega arith) s.next
room_of_case problem old (Study worker node) new kept keeps step = let s : Studies old worker node new = step in room_replaced old node (Pending s.cube) s.pending 100 (Studied s.cube worker) new (omega arith) s.next
room_of_case problem old (Publish worker node cut) new kept keeps step =
    let s : Publishes problem old worker node cut new = step in
    room_removed old node (Studied s.study.cube worker) s.study.studied 3000 new new (omega arith) (ap (λ (n : SearchState). n.nodes) s.next) (ap (λ (n : SearchState). n.branchings) s.next) refl
room_of_case problem old (Accept worker node cost) new kept keeps step =
    let s : Accepts problem old worker node cost new = step in
    room_removed old node (Studied s.study.cube worker) s.study.studied 100 new new (omega arith) (ap (λ (n : SearchState). n.nodes) s.next) (ap (λ (n : SearchState). n.branchings) s.next) refl
room_of_case problem old (Park worker node) new kept keeps step = let s : Parks old worker node new = step in room_replaced old node (Held s.cube worker s.cuts s.bound) s.held 100 (Parked s.cube) new (omega arith) s.next
room_of_case problem old (Reopen limit) new kept keeps step = absurd (let f : true ≡ false = keeps in cc)

-- the lines of some entries
abbrev pub entries_bytes : List Entry → ℕ
entries_bytes entries = length (flat_map (λ e. ended (entry_text e)) entries)

no_entry : (w b : ℕ) → 0 + w + 24000 * b ≤ w + 24000 * b
no_entry w b = omega arith

next_entry : (n most l all w0 w1 w2 b0 b1 b2 : ℕ) → suc n ≤ most → all ≡ suc n + l → (most + w1) + 24000 * b0 ≤ w0 + 24000 * b1 → l + w2 + 24000 * b1 ≤ w1 + 24000 * b2 → all + w2 + 24000 * b0 ≤ w0 + 24000 * b2
next_entry n most l all w0 w1 w2 b0 b1 b2 short e h k = omega arith

-- each entry can be logged, and the bytes are taken from the room
pub record AreLogged (entries : List Entry) (old new : SearchState) : Type 0 where
  pub each : AllByRecursion CanBeLogged entries
  pub bytes : entries_bytes entries + room_of new + 24000 * old.branchings ≤ room_of old + 24000 * new.branchings

module _ (problem : ProblemParts) (right : IsLibrary problem.library) (is : IsProblem problem) (sound : RightCutsHold problem.library) (never : NoEdgeFails problem.library) where
  pub steps_logged : (entries : List Entry) (old new : SearchState) → IsKept problem old → old.limit ≤ BRANCHINGS → AllByRecursion (λ entry. is_reopen entry ≡ false) entries → Steps problem old entries new → AreLogged entries old new
  steps_logged [] old new kept few none steps = record {
    each = tt;
    bytes = let P : SearchState → Type 0 = λ s. 0 + room_of s + 24000 * old.branchings ≤ room_of old + 24000 * s.branchings in subst P (sym steps) (no_entry (room_of old) old.branchings);
  }
  steps_logged (entry ∷ entries) old new kept few none steps =
      let mid = steps.0 in
      let here = step_logged problem right is never old kept few entry mid steps.1 in
      let room = room_of_case problem old entry mid kept none.0 steps.1.fits in
      let limit : mid.limit ≡ old.limit = case_keeps_limit problem old entry mid none.0 steps.1.fits in
      let later = steps_logged entries mid new (step_keeps problem right is sound old entry mid kept steps.1) (omega (arith, limit, few)) none.1 steps.2 in
      let text = entry_text entry in
      let rest = flat_map (λ e. ended (entry_text e)) entries in
      let all : length (ended text ++ rest) ≡ suc (length text) + length rest = omega (arith, length-append (ended text) rest, length-append text (codes "\n")) in
      record {
        each = (here, later.each);
        bytes = next_entry (length text) (most_bytes entry) (entries_bytes entries) (length (ended text ++ rest)) (room_of old) (room_of mid) (room_of new) old.branchings mid.branchings new.branchings here.bytes all room later.bytes;
      }

-- the room at the start
pub room_at_start : (limit : ℕ) → room_of (start_of limit) ≡ 12000
room_at_start limit = total-insert_new bytes_left (empty {X = Node} {R = nat_cmp}) 0 (Open whole) (get-empty nat_cmp 0) ∙ ap (λ n. 12000 + n) (total-empty bytes_left)
