use Rattle.std.proofs.Common.{ℕ, ◌<◌, refl, sym, subst, ◌∙◌, arith, rules, Option, List}
use Rattle.std.proofs.lemmas.Result.{err_from_is_err_and}
use Rattle.archex_app.specs.Inner.Checking.{FeedsOn}
use Rattle.archex_app.proofs.LogReading.{none_fed, fed_on, halts_on, reads_on, fewer, ends_yes, ends_no}
use Rattle.archex_app.proofs.check.judge.Goals as goal
use Rattle.archex_app.proofs.check.judge.Goals.{in-Ok, in-Err}

pub loop-piece-init : goal.loop-piece-init
loop-piece-init g c = record {
  fed = none_fed (g.F.Shelf.told c.args.shelf.now c.args.name.now) c.in_ok-reader.reader c.in_ok-reader.ensures.begun;
  problem = c.in_ok-reader.ensures.problem;
  room = let P : ℕ → Type 0 = λ n. 0 < n in subst P (sym c.in_ok-piece.ensures.len) (omega arith);
  told_stays = λ other. refl;
  reads_never_fall = λ other. omega arith;
  reads_stay = λ other. refl;
  writes_stay = λ other. refl;
}

pub returns-in_err-feed_piece-clause-halt : goal.returns-in_err-feed_piece-clause-halt
returns-in_err-feed_piece-clause-halt g c =
    let p = err_from_is_err_and c.from_residual-in_err-feed_piece.result c.from_residual-in_err-feed_piece.ensures.1 in
    rw (p.1, p.2) (halts_on (g.F.Shelf.told c.args.shelf.now c.args.name.now) (g.F.Shelf.told c.loop-piece.shelf c.args.name.now) c.loop-piece.reader c.args.problem.now _ (c.loop-piece.invariant.told_stays c.args.name.now) c.loop-piece.invariant.problem c.in_err-feed_piece.ensures.halt c.loop-piece.invariant.fed)

pub returns-in_err-feed_piece-clause-reads : goal.returns-in_err-feed_piece-clause-reads
returns-in_err-feed_piece-clause-reads g c =
    let p = err_from_is_err_and c.from_residual-in_err-feed_piece.result c.from_residual-in_err-feed_piece.ensures.1 in
    rw (p.1, p.2) (reads_on _ c.args.name.now (g.F.Shelf.read_faults c.args.shelf.now) (g.F.Shelf.read_faults c.loop-piece.shelf) (g.F.Shelf.read_faults c.feed_piece.new.shelf) c.loop-piece.invariant.reads_stay c.in_err-feed_piece.ensures.reads)

pub returns-in_err-feed_piece-clause-told_stays : goal.returns-in_err-feed_piece-clause-told_stays
returns-in_err-feed_piece-clause-told_stays g c = λ other. c.feed_piece.ensures.told_stays other ∙ c.loop-piece.invariant.told_stays other

pub returns-then-branch-eq0-clause-yes : goal.returns-then-branch-eq0-clause-yes
returns-then-branch-eq0-clause-yes g c =
    let told : Option (List ℕ) = g.F.Shelf.told c.args.shelf.now c.args.name.now in
    let feeds : FeedsOn told c.loop-piece.reader c.feed_piece.new.reader c.in_ok-feed_piece.field-0 = fed_on told (g.F.Shelf.told c.loop-piece.shelf c.args.name.now) c.loop-piece.reader c.feed_piece.new.reader _ (c.loop-piece.invariant.told_stays c.args.name.now) c.in_ok-feed_piece.ensures.fed c.loop-piece.invariant.fed in
    elim c.match-end.branch [
      | in-Ok w ↦ rw w.result-is (ends_yes told c.feed_piece.new.reader c.args.problem.now _ (c.in_ok-feed_piece.ensures.problem ∙ c.loop-piece.invariant.problem) (feeds.end c.if-branch-eq0.true) w.in-Ok.ensures.yes)
      | in-Err w ↦ rw w.result-is tt
    ]

pub returns-then-branch-eq0-clause-halt : goal.returns-then-branch-eq0-clause-halt
returns-then-branch-eq0-clause-halt g c =
    let told : Option (List ℕ) = g.F.Shelf.told c.args.shelf.now c.args.name.now in
    let feeds : FeedsOn told c.loop-piece.reader c.feed_piece.new.reader c.in_ok-feed_piece.field-0 = fed_on told (g.F.Shelf.told c.loop-piece.shelf c.args.name.now) c.loop-piece.reader c.feed_piece.new.reader _ (c.loop-piece.invariant.told_stays c.args.name.now) c.in_ok-feed_piece.ensures.fed c.loop-piece.invariant.fed in
    elim c.match-end.branch [
      | in-Ok w ↦ rw w.result-is tt
      | in-Err w ↦ rw w.result-is (ends_no told c.feed_piece.new.reader c.args.problem.now _ (c.in_ok-feed_piece.ensures.problem ∙ c.loop-piece.invariant.problem) (feeds.end c.if-branch-eq0.true) w.in-Err.ensures.no)
    ]

pub returns-then-branch-eq0-clause-reads_stay : goal.returns-then-branch-eq0-clause-reads_stay
returns-then-branch-eq0-clause-reads_stay g c = elim c.match-end.branch [
  | in-Ok w ↦ rw w.result-is (λ other. c.in_ok-feed_piece.ensures.reads_stay other ∙ c.loop-piece.invariant.reads_stay other)
  | in-Err w ↦ rw w.result-is tt
]

pub returns-then-branch-eq0-clause-reads : goal.returns-then-branch-eq0-clause-reads
returns-then-branch-eq0-clause-reads g c = elim c.match-end.branch [
  | in-Ok w ↦ rw w.result-is tt
  | in-Err w ↦ rw w.result-is (λ other. c.in_ok-feed_piece.ensures.reads_stay other ∙ c.loop-piece.invariant.reads_stay other)
]

pub returns-then-branch-eq0-clause-told_stays : goal.returns-then-branch-eq0-clause-told_stays
returns-then-branch-eq0-clause-told_stays g c = λ other. c.feed_piece.ensures.told_stays other ∙ c.loop-piece.invariant.told_stays other

pub loop-piece-smaller : goal.loop-piece-smaller
loop-piece-smaller g c =
    let told : Option (List ℕ) = g.F.Shelf.told c.args.shelf.now c.args.name.now in
    let feeds : FeedsOn told c.loop-piece.reader c.feed_piece.new.reader c.in_ok-feed_piece.field-0 = fed_on told (g.F.Shelf.told c.loop-piece.shelf c.args.name.now) c.loop-piece.reader c.feed_piece.new.reader _ (c.loop-piece.invariant.told_stays c.args.name.now) c.in_ok-feed_piece.ensures.fed c.loop-piece.invariant.fed in
    fewer told c.loop-piece.reader c.feed_piece.new.reader c.in_ok-feed_piece.field-0 feeds c.if-branch-eq0.false

pub loop-piece-preserved : goal.loop-piece-preserved
loop-piece-preserved g c =
    let told : Option (List ℕ) = g.F.Shelf.told c.args.shelf.now c.args.name.now in
    let feeds : FeedsOn told c.loop-piece.reader c.feed_piece.new.reader c.in_ok-feed_piece.field-0 = fed_on told (g.F.Shelf.told c.loop-piece.shelf c.args.name.now) c.loop-piece.reader c.feed_piece.new.reader _ (c.loop-piece.invariant.told_stays c.args.name.now) c.in_ok-feed_piece.ensures.fed c.loop-piece.invariant.fed in
    record {
      fed = feeds.fed;
      problem = c.in_ok-feed_piece.ensures.problem ∙ c.loop-piece.invariant.problem;
      room = search rules;
      told_stays = λ other. c.feed_piece.ensures.told_stays other ∙ c.loop-piece.invariant.told_stays other;
      reads_never_fall = λ other. search rules;
      reads_stay = λ other. c.in_ok-feed_piece.ensures.reads_stay other ∙ c.loop-piece.invariant.reads_stay other;
      writes_stay = λ other. c.feed_piece.ensures.writes_stay other ∙ c.loop-piece.invariant.writes_stay other;
    }
