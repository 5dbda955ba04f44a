-- From what came of a job and what was written to a run, for a command that writes files before it prints.
use Rattle.std.proofs.Common.{◌≡◌, ◌≢◌, ℕ, ◌≤◌, Option, List, [], ◌∷◌, IfSome, refl, sym, subst, ◌∙◌, arith, inl, inr}
use Rattle.std.specs.Prelude.{Contains, Result, Ok, Err, OnOk, OnErr, IsErrOf}
use Rattle.std.specs.List.{All}
use Rattle.std.specs.Cow.{cow_slice_items}
use Rattle.std.proofs.lemmas.List.Elements.{All-from_recursion}
use Rattle.outside.specs.Faults.{Rose, NeverFall, Stay, ChangesOnly}
use Rattle.archex_app.specs.declared.status.Status.{Status}
use Rattle.archex_app.specs.declared.outcome.Outcome.{Outcome}
use Rattle.archex_app.specs.declared.writing.WriteError.{WriteError}
use Rattle.archex_app.specs.declared.writing.WriteError.TheVariants.{Memory, Failed}
use Rattle.archex_app.specs.Status.{Ending, status_of}
use Rattle.archex_app.specs.Due.{Due, ends, IsSettled}
use Rattle.archex_app.specs.Files.{names_of, IsWhole, IsFrontOf}
use Rattle.archex_app.specs.Run.{Seen, OthersKeep, IsRun}
use Rattle.archex_app.specs.Inner.Outcome.{Printed}
use Rattle.archex_app.specs.Inner.Log.{HoldBoth, IsCut, Concludes}
use Rattle.archex_app.proofs.RunLaws.{Ended}
use Rattle.archex_app.proofs.Within.{at_0, at_1, only_one}
use Rattle.archex_app.proofs.Pieces.{on_ok_map, on_err_map}

-- after steps in which no count changed
pub alone_from : (names : List (List ℕ)) (before mid now : List ℕ → ℕ) → Stay before mid → ChangesOnly names mid now → ChangesOnly names before now
alone_from names before mid now stay alone = λ other. elim (alone other) [
  | inl same ↦ inl (same ∙ stay other)
  | inr one ↦ inr (one.0, one.1, sym (stay other) ∙ one.2 ∙ stay one.0, one.3)
]

rise_from : (before mid now : List ℕ → ℕ) → Stay before mid → NeverFall mid now → NeverFall before now
rise_from before mid now stay rise = λ other. let e = stay other in let le = rise other in omega arith

stay_from : (before mid now : List ℕ → ℕ) → Stay before mid → Stay mid now → Stay before now
stay_from before mid now first second = λ other. second other ∙ first other

-- files were written one after another, or weren't
pub record WroteAll {T : Type 0} (written : Result T WriteError) (files : List (List ℕ × List ℕ)) (before now : Seen) : Type 0 where
  pub others : OthersKeep (names_of files) before now
  pub reads : Stay before.reads now.reads
  pub rise : NeverFall before.writes now.writes
  pub whole : OnOk written (All (λ (file : List ℕ × List ℕ). IfSome (now.told file.0) (λ bytes. bytes ≡ file.1)) files × Stay before.writes now.writes)
  pub part : OnErr written (IsCut (IsErrOf written Failed) files before.told now.told before.writes now.writes)
  pub short : IsErrOf written Memory → Stay before.writes now.writes

on_ok_both : {T E Q R : Type 0} (P : Type 0) (r : Result T E) → (Q → R) → OnOk r P → OnOk r Q → OnOk r (P × R)
on_ok_both P (Ok x) f p q = (p, f q)
on_ok_both P (Err e) f p q = tt

-- other names than one keep their bytes
not_one : (name other : List ℕ) → (Contains (name ∷ []) other → ⊥) → other ≢ name
not_one name other none = λ is. none (subst (λ (n : List ℕ). Contains (name ∷ []) n) (sym is) (at_0 name []))

-- a file was written under a name, or wasn't, over a shelf that stayed as it was
pub file_after : {T : Type 0} (written : Result T WriteError) (name file : List ℕ) (before now : Seen) (told : List ℕ → Option (List ℕ)) (reads writes : List ℕ → ℕ) → ((n : List ℕ) → told n ≡ before.told n) → Stay before.reads reads → Stay before.writes writes
    → OnOk written (IfSome (now.told name) (λ bytes. bytes ≡ file)) → OnErr written (IsFrontOf (told name) (now.told name) file) → (IsErrOf written Failed → Rose (writes name) (now.writes name)) → ((other : List ℕ) → other ≢ name → now.told other ≡ told other)
    → Stay reads now.reads → NeverFall writes now.writes → OnOk written (Stay writes now.writes) → (IsErrOf written Memory → Stay writes now.writes) → ChangesOnly (name ∷ []) writes now.writes → WroteAll written ((name, file) ∷ []) before now
file_after written name file before now told reads writes same_told same_reads same_writes whole part rose others stay rise calm short alone = record {
  others = λ other none. others other (not_one name other none) ∙ same_told other;
  reads = stay_from before.reads reads now.reads same_reads stay;
  rise = rise_from before.writes writes now.writes same_writes rise;
  whole = on_ok_both (All (λ (f : List ℕ × List ℕ). IfSome (now.told f.0) (λ bytes. bytes ≡ f.1)) ((name, file) ∷ [])) written (stay_from before.writes writes now.writes same_writes)
      (on_ok_map written (λ w. All-from_recursion (λ (f : List ℕ × List ℕ). IfSome (now.told f.0) (λ bytes. bytes ≡ f.1)) ((name, file) ∷ []) (w, tt)) whole) calm;
  part = on_err_map written (λ p. record {
    name = name;
    due = at_0 name [];
    cut = inl (refl, subst (λ (o : Option (List ℕ)). IsFrontOf o (now.told name) file) (same_told name) p, λ k d short. absurd (omega arith));
    rose = λ failed. subst (λ (n : ℕ). Rose n (now.writes name)) (same_writes name) (rose failed);
    alone = λ failed. alone_from (name ∷ []) before.writes writes now.writes same_writes alone;
  }) part;
  short = λ wanting. stay_from before.writes writes now.writes same_writes (short wanting);
}

-- two files were, or weren't
pub both_after : {T : Type 0} (written : Result T WriteError) (file text log entries : List ℕ) (before now : Seen) → OnOk written (HoldBoth now.told file text log entries) → OnErr written (IsCut (IsErrOf written Failed) ((file, text) ∷ (log, entries) ∷ []) before.told now.told before.writes now.writes)
    → ((other : List ℕ) → other ≢ file → other ≢ log → now.told other ≡ before.told other) → Stay before.reads now.reads → NeverFall before.writes now.writes
    → OnOk written (Stay before.writes now.writes) → (IsErrOf written Memory → Stay before.writes now.writes) → WroteAll written ((file, text) ∷ (log, entries) ∷ []) before now
both_after written file text log entries before now whole part others reads rise calm short = record {
  others = λ other none. others other (λ is. none (0, omega arith, sym is)) (λ is. none (1, omega arith, sym is));
  reads = reads;
  rise = rise;
  whole = on_ok_both (All (λ (f : List ℕ × List ℕ). IfSome (now.told f.0) (λ bytes. bytes ≡ f.1)) ((file, text) ∷ (log, entries) ∷ [])) written (λ s. s)
      (on_ok_map written (λ w. All-from_recursion (λ (f : List ℕ × List ℕ). IfSome (now.told f.0) (λ bytes. bytes ≡ f.1)) ((file, text) ∷ (log, entries) ∷ []) (w.0, (w.1, tt))) whole) calm;
  part = part;
  short = short;
}

-- the second of two files couldn't be written
pub second_cut : {Q : Type 0} (file text slice log entries : List ℕ) (before mid now : List ℕ → Option (List ℕ)) (faults_before faults_mid faults_now : List ℕ → ℕ) → file ≢ log → slice ≡ text → IsWhole (mid file) slice → ((other : List ℕ) → other ≢ file → mid other ≡ before other) → Stay faults_before faults_mid
    → IsFrontOf (mid log) (now log) entries → ((other : List ℕ) → other ≢ log → now other ≡ mid other) → (Q → Rose (faults_mid log) (faults_now log)) → ChangesOnly (log ∷ []) faults_mid faults_now → IsCut Q ((file, text) ∷ (log, entries) ∷ []) before now faults_before faults_now
second_cut file text slice log entries before mid now faults_before faults_mid faults_now apart same whole first stay front second rose alone = record {
  name = log;
  due = at_1 file log [];
  cut = inr (
    subst (λ (o : Option (List ℕ)). IsWhole o text) (sym (second file apart)) (subst (λ (t : List ℕ). IsWhole (mid file) t) same whole),
    inl (refl, subst (λ (o : Option (List ℕ)). IsFrontOf o (now log) entries) (first log (λ is. apart (sym is))) front, λ k d short. absurd (omega arith)),
  );
  rose = λ failed. subst (λ (n : ℕ). Rose n (faults_now log)) (stay log) (rose failed);
  alone = λ failed. alone_from (log ∷ []) faults_before faults_mid faults_now stay alone;
}

-- a write fault changes the count of one name, and other ends none
changes_among : (names : List (List ℕ)) (before now : List ℕ → ℕ) (name : List ℕ) → Contains names name → ChangesOnly (name ∷ []) before now → ChangesOnly names before now
changes_among names before now name due alone = λ other. elim (alone other) [
  | inl same ↦ inl same
  | inr one ↦ let P : List ℕ → Type 0 = Contains names in inr (one.0, subst P (sym (only_one name one.0 one.1)) due, one.2, one.3)
]

writes_alone : {T : Type 0} (written : Result T WriteError) (files : List (List ℕ × List ℕ)) (before now : Seen) → WroteAll written files before now → ChangesOnly (names_of files) before.writes now.writes
writes_alone (Ok x) files before now wrote = λ other. inl (wrote.whole.1 other)
writes_alone (Err Failed) files before now wrote = changes_among (names_of files) before.writes now.writes wrote.part.name wrote.part.due (wrote.part.alone refl)
writes_alone (Err Memory) files before now wrote = λ other. inl (wrote.short refl other)

module _ (Comes : Due → Type 0) (files : List (List ℕ × List ℕ)) (outcome : Outcome) (ending : Ending) (status : Status) (before now : Seen) (settled : IsSettled ending) (ended_so : outcome.status ≡ status_of ending) (comes : Comes (ends ending files (cow_slice_items outcome.text))) where
  -- the files are whole, and the text was printed, or a front of it
  printed_after : {T : Type 0} (x : T) → WroteAll (Ok x) files before now → Printed outcome.status (cow_slice_items outcome.text) status before.printed now.printed before.prints now.prints → Ended Comes status before now
  printed_after x wrote printed = elim printed [
    | inl all ↦ inl (record {
      ending = ending;
      settled = settled;
      ended_so = all.0 ∙ ended_so;
      files = files;
      text = cow_slice_items outcome.text;
      due = comes;
      printed = all.1;
      holds = record { whole = wrote.whole.0; others = wrote.others };
      calm = record { reads = wrote.reads; writes = wrote.whole.1; prints = all.2 };
    })
    | inr part ↦ inr (inr (inl (record {
      ended_so = part.0;
      ending = ending;
      files = files;
      text = cow_slice_items outcome.text;
      due = comes;
      cause = inr (record { rose = part.1; writes = wrote.whole.1; printed = part.2; holds = record { whole = wrote.whole.0; others = wrote.others } });
      reads = wrote.reads;
    })))
  ]

  ended_after : {T : Type 0} (written : Result T WriteError) → WroteAll written files before now → Concludes written outcome status before.printed now.printed before.prints now.prints → Ended Comes status before now
  ended_after (Ok x) wrote concludes = printed_after x wrote concludes
  ended_after (Err Failed) wrote concludes =
      inr (inr (inl (record {
        ended_so = concludes.0;
        ending = ending;
        files = files;
        text = cow_slice_items outcome.text;
        due = comes;
        cause = inl (record {
          name = wrote.part.name;
          due = wrote.part.due;
          rose = wrote.part.rose refl;
          writes = wrote.part.alone refl;
          prints = concludes.2;
          printed = concludes.1;
          holds = record { cut = wrote.part.cut; others = wrote.others };
        });
        reads = wrote.reads;
      })))
  ended_after (Err Memory) wrote concludes = inr (inr (inr (record {
    ended_so = concludes.0;
    printed = concludes.1;
    holds = inr (ending, files, cow_slice_items outcome.text, comes, wrote.part.name, record { cut = wrote.part.cut; others = wrote.others });
    calm = record { reads = wrote.reads; writes = wrote.short refl; prints = concludes.2 };
  })))

  -- a run that wrote its files, or didn't, and then printed, or didn't
  pub concluded_run : {T : Type 0} (read : List (List ℕ)) (written : Result T WriteError) → WroteAll written files before now → Concludes written outcome status before.printed now.printed before.prints now.prints → before.prints ≤ now.prints
      → IsRun Comes read (names_of files) status before now
  concluded_run read written wrote concludes prints = record {
    ended = ended_after written wrote concludes;
    reads_alone = λ other. inl (wrote.reads other);
    writes_alone = writes_alone written files before now wrote;
    kept = wrote.others;
    reads_never_fall = λ other. let e = wrote.reads other in omega arith;
    writes_never_fall = wrote.rise;
    never_falls = prints;
  }
