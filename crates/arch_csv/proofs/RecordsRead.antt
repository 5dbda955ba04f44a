-- One turn of the loop over a file's records.
use Rattle.std.proofs.Common.{◌≡◌, ◌+◌, ◌<◌, ◌≤◌, ℕ, true, false, Bor, List, [], ◌∷◌, ◌++◌, length, Option, Some, None, Result, Ok, Err, IfOk, IfErr, refl, sym, ap, subst, ◌∙◌, arith, inl, inr, ltb}
use Rattle.std.proofs.Common.{lt-ltb}
use Rattle.std.proofs.lemmas.Bool.{cases_Bool}
use Rattle.std.proofs.lemmas.Bool.Decides.{nat_tests}
use Rattle.csv.specs.Reading.{ExplainsRead, FlexibleStep, RowStep, Reached, Ready, default_config, is_bom, is_flexible, source_of, stops_reader, strip_bom}
use Rattle.csv.specs.Records.{Row, fields_of}
use Rattle.csv.specs.declared.reader.Reader.{Reader}
use Rattle.csv.specs.declared.error.ErrorKind.{ErrorKind}
use Rattle.csv.specs.declared.error.ErrorKind.TheVariants as kind
use Rattle.csv.specs.declared.parser.State.TheVariants as st
use Rattle.csv.specs.declared.reader.Trim.TheVariants as trim
use Rattle.csv.proofs.ReadFacts.{rows-end, rows-more}
use Rattle.arch_model.specs.Parts.{ArchitectureParts, LibraryParts}
use Rattle.arch_csv.specs.declared.fault.ArchError.{ArchError}
use Rattle.arch_csv.specs.declared.fault.ArchError.TheVariants as error
use Rattle.arch_csv.specs.declared.draft.Draft.{Draft}
use Rattle.arch_csv.specs.Records.{Record}
use Rattle.arch_csv.specs.declared.fault.ArchClass.TheVariants.{TooLarge}
use Rattle.arch_csv.specs.ArchitectureOf.{FaultOf, architecture_of_bytes, architecture_of_records, fault_at, records_of}
use Rattle.arch_csv.specs.Inner.Draft.{FileFault, IsDraft, StopsAt}
use Rattle.arch_csv.proofs.ReadingFacts.{reached_short, records_begin, records_end}
use Rattle.arch_csv.proofs.FaultLemmas.{stops_there}

-- what is left of bytes
abbrev pub rest_of : Bor (List ℕ) → Option (List ℕ)
rest_of s = Some s.now

-- between two records: a reader that has given some records of a text and goes on, and what is known of them
pub record Goes (lib : LibraryParts) (text : List ℕ) (reader : Reader (Bor (List ℕ))) (known : Draft) : Type 0 where
  pub trim : reader.trim ≡ trim.None
  pub ready : Ready reader
  pub config : reader.config ≡ default_config
  pub flexible : is_flexible reader ≡ true
  pub rest : List ℕ
  pub source : source_of rest_of reader ≡ Some rest
  pub rows : List Record
  pub reached : Reached default_config st.StartRecord text rows reader.state rest
  pub draft : IsDraft lib rows known

strip_short : (xs : List ℕ) → length (strip_bom xs) ≤ length xs
unfolding strip_bom
strip_short [] = omega arith
strip_short (a ∷ []) = omega arith
strip_short (a ∷ b ∷ []) = omega arith
strip_short (a ∷ b ∷ c ∷ xs) = elim (cases_Bool (is_bom a b c)) [
  | inl mark ↦ rw mark (omega arith)
  | inr other ↦ rw other (omega arith)
]

-- there are no more records than bytes
pub few_records : (lib : LibraryParts) (bytes : List ℕ) (reader : Reader (Bor (List ℕ))) (known : Draft) → Goes lib (strip_bom bytes) reader known → known.records ≤ length bytes
few_records lib bytes reader known h =
    let short = (reached_short st.StartRecord (strip_bom bytes) h.rows reader.state h.rest (inl refl) h.reached).0 in
    omega (arith, short, strip_short bytes, h.draft.records)

-- one more record was read and taken
pub goes_on : (lib : LibraryParts) (text : List ℕ) (old new : Reader (Bor (List ℕ))) (known after : Draft) (row : Row) (left : ℕ) → Goes lib text old known → RowStep rest_of old new left (Some (Ok row)) → FlexibleStep old new (Some (Ok row))
    → ((rows : List Record) → IsDraft lib rows known → IsDraft lib (rows ++ fields_of row ∷ []) after) → Goes lib text new after
goes_on lib text old new known after row left h step same taken =
    let more = rows-more rest_of old new (fields_of row) default_config st.StartRecord text h.rest h.rows h.config h.source h.reached step.0 in
    record {
      trim = step.0.3 ∙ h.trim;
      ready = inl step.1;
      config = step.0.2 ∙ h.config;
      flexible = same ∙ h.flexible;
      rest = more.0;
      source = more.1;
      rows = h.rows ++ fields_of row ∷ [];
      reached = more.2;
      draft = taken h.rows h.draft;
    }

-- within the limit, the records decide
pub within : (lib : LibraryParts) (bytes : List ℕ) → length bytes ≤ 1048576 → architecture_of_bytes lib bytes ≡ architecture_of_records lib (records_of bytes)
unfolding architecture_of_bytes
within lib bytes few = rw (not_less 1048576 (length bytes) few) refl
  where
    not_less : (a b : ℕ) → b ≤ a → ltb a b ≡ false
    not_less a b h = grind (arith, nat_tests)

-- the record that was read is at fault
pub stopped : (lib : LibraryParts) (bytes : List ℕ) (old new : Reader (Bor (List ℕ))) (known : Draft) (row : Row) (left : ℕ) (e : ArchError) → length bytes ≤ 1048576 → Goes lib (strip_bom bytes) old known
    → RowStep rest_of old new left (Some (Ok row)) → ((rows : List Record) → IsDraft lib rows known → StopsAt lib rows (fields_of row) e) → FaultOf lib bytes e
stopped lib bytes old new known row left error.Memory few h step stops = tt
stopped lib bytes old new known row left (error.Fault f) few h step stops =
    let read = rows-more rest_of old new (fields_of row) default_config st.StartRecord (strip_bom bytes) h.rest h.rows h.config h.source h.reached step.0 in
    let all = records_begin (strip_bom bytes) (h.rows ++ fields_of row ∷ []) new.state read.0 read.2 in
    let at = stops h.rows h.draft in
    let place : f ≡ record { class = f.class; place = length h.rows + 1 } = λ i. record { class = f.class; place = at.1 i } in
    within lib bytes few ∙ ap (architecture_of_records lib) all.1 ∙ stops_there lib h.rows (fields_of row) all.0 f.class h.draft.clear at.0 ∙ ap Err (sym place)

-- no record is left
pub all_read : (lib : LibraryParts) (bytes : List ℕ) (old new : Reader (Bor (List ℕ))) (known : Draft) (left : ℕ) → Goes lib (strip_bom bytes) old known → RowStep rest_of old new left None → IsDraft lib (records_of bytes) known
all_read lib bytes old new known left h step =
    let end = rows-end rest_of old new [] default_config h.rest h.config h.source step in
    subst (λ rows. IsDraft lib rows known) (sym (records_end (strip_bom bytes) h.rows old.state h.rest h.reached end)) h.draft

-- a flexible reader of bytes stops only for itself or for memory
pub only_stops : (old new : Reader (Bor (List ℕ))) (k : ErrorKind) → is_flexible old ≡ true → ExplainsRead rest_of old new false k → stops_reader k ≡ true
only_stops old new (kind.Io e) flexible why = refl
only_stops old new kind.OutOfMemory flexible why = refl
only_stops old new (kind.UnequalLengths pos expected len) flexible why = let clash : true ≡ false = sym flexible ∙ why.0 in cc
only_stops old new (kind.Utf8 pos err) flexible why = let clash : false ≡ true = why.0 in cc
only_stops old new (kind.Serialize text) flexible why = absurd why
only_stops old new (kind.Deserialize pos err) flexible why = absurd why

-- too many bytes
pub too_large : (lib : LibraryParts) (bytes : List ℕ) → 1048576 < length bytes → architecture_of_bytes lib bytes ≡ Err (fault_at 0 TooLarge)
unfolding architecture_of_bytes
too_large lib bytes many = rw (lt-ltb 1048576 (length bytes) many) refl

-- what the records come to is what the bytes do
pub bytes_refused : (lib : LibraryParts) (bytes : List ℕ) (known : Draft) (r : Result ArchitectureParts ArchError) → length bytes ≤ 1048576 → IsDraft lib (records_of bytes) known
    → IfErr r (λ e. (rows : List Record) → IsDraft lib rows known → FileFault lib rows e) → IfErr r (FaultOf lib bytes)
bytes_refused lib bytes known (Ok arch) few h told = tt
bytes_refused lib bytes known (Err error.Memory) few h told = tt
bytes_refused lib bytes known (Err (error.Fault f)) few h told = within lib bytes few ∙ told (records_of bytes) h

pub bytes_read : (lib : LibraryParts) (bytes : List ℕ) (known : Draft) (r : Result ArchitectureParts ArchError) → length bytes ≤ 1048576 → IsDraft lib (records_of bytes) known
    → IfOk r (λ arch. (rows : List Record) → IsDraft lib rows known → architecture_of_records lib rows ≡ Ok arch) → IfOk r (λ arch. architecture_of_bytes lib bytes ≡ Ok arch)
bytes_read lib bytes known (Ok arch) few h told = within lib bytes few ∙ told (records_of bytes) h
bytes_read lib bytes known (Err e) few h told = tt
