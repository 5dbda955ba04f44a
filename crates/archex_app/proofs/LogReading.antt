-- A log that is read in pieces and judged as it is read.
use Rattle.std.proofs.Common.{◌≡◌, ℕ, zero, suc, ◌+◌, ◌-◌, ◌≤◌, ◌<◌, Option, Some, None, List, [], ◌++◌, take, drop, length, IfSome, refl, sym, ap, subst, ◌∙◌, arith, inl, inr}
use Rattle.std.proofs.lemmas.List.{take_all, length-take-le, length-append, take-append-drop}
use Rattle.outside.specs.Faults.{Rose, Stay}
use Rattle.outside.specs.Told.{Finds}
use Rattle.rows.specs.Parts.{ProblemParts}
use Rattle.search_core.specs.declared.answer.Answer.{Answer}
use Rattle.proof_log.specs.Log.{LOG_BYTES, Accepts}
use Rattle.log_checker.specs.declared.error.No.{No}
use Rattle.log_checker.specs.declared.error.CheckError.{CheckError}
use Rattle.log_checker.specs.declared.error.CheckError.TheVariants as error
use Rattle.log_checker.specs.Text.{FirstBrokenLine}
use Rattle.log_checker.specs.Reading.{TextParts, IsReading, Adds, BreaksBehind}
use Rattle.archex_app.specs.declared.check.Halt.{Halt}
use Rattle.archex_app.specs.declared.check.Halt.TheVariants.{Memory, Failed, No as Refusing}
use Rattle.archex_app.specs.Inner.Reading.{IsFront}
use Rattle.archex_app.specs.Inner.Checking.{halt_of, HasFed, HasFedAll, FeedsOn, OfBytes, HaltsRight, HaltReads}
use Rattle.archex_app.proofs.Pieces.{front_grows}

-- nothing was read yet
pub none_fed : (told : Option (List ℕ)) (reader : TextParts) → IsReading reader [] → HasFed told reader
none_fed None reader reading = record { text = []; reading = reading; front = tt }
none_fed (Some all) reader reading = record { text = []; reading = reading; front = refl }

-- of what is told this was read
front_part : (told : Option (List ℕ)) (text : List ℕ) (P : List ℕ → Type 0) → IsFront told text → ((more : List ℕ) → P (text ++ more)) → OfBytes told P
front_part None text P front holds = (text ++ [], tt, holds [])
front_part (Some all) text P front holds =
    (all, refl, subst P (ap (λ (l : List ℕ). l ++ drop (length text) all) front ∙ take-append-drop (length text) all) (holds (drop (length text) all)))

-- all of it was
whole_part : (told : Option (List ℕ)) (text : List ℕ) (P : List ℕ → Type 0) → IfSome told (λ all. text ≡ all) → P text → OfBytes told P
whole_part None text P whole holds = (text, tt, holds)
whole_part (Some all) text P whole holds = (all, refl, subst P whole holds)

-- the end was reached
at_end : (told : Option (List ℕ)) (text : List ℕ) → IsFront told text → IfSome told (λ all. length all ≤ length text) → IfSome told (λ all. text ≡ all)
at_end None text front end = tt
at_end (Some all) text front end = front ∙ take_all (length text) all end

found_end : (told : Option (List ℕ)) (place n : ℕ) (into : List ℕ) (long : ℕ) → place ≤ long → n ≡ 0 → 0 < length into → Finds told place into n → IfSome told (λ all. length all ≤ long)
found_end None place n into long le none some found = tt
found_end (Some all) place n into long le none some found = let short : length all ≤ place = found.2 none some in omega (arith, short, le)

-- one more piece of a log, which was fed
module _ (told : Option (List ℕ)) (old : TextParts) (into : List ℕ) (place n : ℕ) (at : place ≡ old.bytes) (within : n ≤ length into) (found : Finds told place into n) (fed : HasFed told old) where
  more_front : IsFront told (fed.text ++ take n into)
  more_front = front_grows told fed.text into (fed.text ++ take n into) place n (at ∙ fed.reading.bytes) within refl fed.front found

  pub feeds_on : (new : TextParts) → 0 < length into → Adds old (take n into) new → FeedsOn told old new n
  feeds_on new some adds =
      let text : List ℕ = fed.text ++ take n into in
      let reading : IsReading new text = adds fed.text fed.reading in
      let long : length text ≡ length fed.text + n = length-append fed.text (take n into) ∙ ap (λ k. length fed.text + k) (length-take-le n into within) in
      let before : place ≤ length text = omega (arith, at, fed.reading.bytes, long) in
      record {
        fed = record { text = text; reading = reading; front = more_front };
        counted = omega (arith, reading.bytes, fed.reading.bytes, long);
        end = λ none. record { text = text; reading = reading; whole = at_end told text more_front (found_end told place n into (length text) before none some found) };
      }

  pub push_halts : (e : CheckError) → BreaksBehind old (take n into) e → HaltsRight old.checker.problem told (halt_of e)
  push_halts error.Memory breaks = tt
  push_halts (error.No refused) breaks =
      front_part told (fed.text ++ take n into) (λ bytes. FirstBrokenLine old.checker.problem bytes refused.line refused.rule) more_front (λ more. breaks fed.text more fed.reading)

-- a reader that stops changes no count
pub push_reads : (e : CheckError) (name : List ℕ) (before now : List ℕ → ℕ) → Stay before now → HaltReads (halt_of e) name before now
push_reads error.Memory name before now stay = stay
push_reads (error.No refused) name before now stay = stay

-- a log that was read to its end
pub ends_yes : (told : Option (List ℕ)) (reader : TextParts) (problem : ProblemParts) (answer : Answer) → reader.checker.problem ≡ problem → HasFedAll told reader → ((text : List ℕ) → IsReading reader text → Accepts reader.checker.problem text answer)
    → OfBytes told (λ bytes. Accepts problem bytes answer)
ends_yes told reader problem answer same fed passes =
    let P : ProblemParts → Type 0 = λ p. OfBytes told (λ bytes. Accepts p bytes answer) in
    subst P same (whole_part told fed.text (λ bytes. Accepts reader.checker.problem bytes answer) fed.whole (passes fed.text fed.reading))

pub ends_no : (told : Option (List ℕ)) (reader : TextParts) (problem : ProblemParts) (refused : No) → reader.checker.problem ≡ problem → HasFedAll told reader
    → ((text : List ℕ) → IsReading reader text → FirstBrokenLine reader.checker.problem text refused.line refused.rule) → OfBytes told (λ bytes. FirstBrokenLine problem bytes refused.line refused.rule)
ends_no told reader problem refused same fed breaks =
    let P : ProblemParts → Type 0 = λ p. OfBytes told (λ bytes. FirstBrokenLine p bytes refused.line refused.rule) in
    subst P same (whole_part told fed.text (λ bytes. FirstBrokenLine reader.checker.problem bytes refused.line refused.rule) fed.whole (breaks fed.text fed.reading))

-- what is told of the log stays from call to call
pub fed_on : (told now : Option (List ℕ)) (old new : TextParts) (n : ℕ) → now ≡ told → (HasFed now old → FeedsOn now old new n) → HasFed told old → FeedsOn told old new n
fed_on told now old new n same step fed =
    let P : Option (List ℕ) → Type 0 = λ t. HasFed t old in
    let Q : Option (List ℕ) → Type 0 = λ t. FeedsOn t old new n in
    subst Q same (step (subst P (sym same) fed))

pub halts_on : (told now : Option (List ℕ)) (old : TextParts) (problem : ProblemParts) (halt : Halt) → now ≡ told → old.checker.problem ≡ problem → (HasFed now old → HaltsRight old.checker.problem now halt) → HasFed told old → HaltsRight problem told halt
halts_on told now old problem halt same about step fed =
    let P : Option (List ℕ) → Type 0 = λ t. HasFed t old in
    let Q : Option (List ℕ) → Type 0 = λ t. HaltsRight old.checker.problem t halt in
    let R : ProblemParts → Type 0 = λ p. HaltsRight p told halt in
    subst R about (subst Q same (step (subst P (sym same) fed)))

-- and so do the counts, until a read fails
pub reads_on : (halt : Halt) (name : List ℕ) (before mid now : List ℕ → ℕ) → Stay before mid → HaltReads halt name mid now → HaltReads halt name before now
reads_on Memory name before mid now stay w = λ other. w other ∙ stay other
reads_on Failed name before mid now stay w =
    let P : ℕ → Type 0 = λ n. Rose n (now name) in
    (subst P (stay name) w.0, λ other. elim (w.1 other) [ inl same ↦ inl (same ∙ stay other) | inr one ↦ inr (one.0, one.1, sym (stay other) ∙ one.2 ∙ stay one.0, one.3) ])
reads_on (Refusing refused) name before mid now stay w = λ other. w other ∙ stay other

above : (n : ℕ) → (n ≡ 0 → ⊥) → 0 < n
above zero some = absurd (some refl)
above (suc n) some = omega arith

-- each piece leaves fewer bytes that a log may have
pub fewer : (told : Option (List ℕ)) (old new : TextParts) (n : ℕ) → FeedsOn told old new n → (n ≡ 0 → ⊥) → LOG_BYTES - new.bytes < LOG_BYTES - old.bytes
fewer told old new n feeds some =
    let few : new.bytes ≤ LOG_BYTES = omega (arith, feeds.fed.reading.bytes, feeds.fed.reading.few) in
    omega (arith, few, feeds.counted, above n some)
