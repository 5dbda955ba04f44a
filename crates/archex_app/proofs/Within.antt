-- What may come of a command stays within its endings and its files. One law for each form in which a command is said, so that a command's own is a line.
use Rattle.std.proofs.Common.{◌≡◌, ℕ, zero, suc, ◌<◌, Option, List, [], ◌∷◌, Ok, Err, Result, refl, sym, subst, inl, inr, ◌⊎◌, arith}
use Rattle.std.specs.Prelude.{MatchResult, Contains, slice_index_or}
use Rattle.arch_model.specs.Parts.{LibraryParts, ArchitectureParts}
use Rattle.lib_read.specs.LibraryOf.{library_of}
use Rattle.arch_model.specs.Mass.{enclosure_of}
use Rattle.arch_csv.specs.ArchitectureOf.{architecture_of_bytes}
use Rattle.search_core.specs.Rules.{weights_of}
use Rattle.search_core.specs.declared.answer.Answer.{Answer}
use Rattle.report.specs.Weighing.{IsFirstBroken, weigh_text}
use Rattle.report.specs.Sets.{cuts_text}
use Rattle.report.specs.Template.{template_text}
use Rattle.report.specs.Rows.{rows_text}
use Rattle.search_core.specs.declared.answer.Answer.TheVariants.{Optimal, Infeasible, NodeLimit}
use Rattle.archex_app.specs.Status.{Ending, done, infeasible, node_limit, library_refused, words_refused, log_refused, architecture_refused, ending_of}
use Rattle.archex_app.specs.Due.{Due, ends, unread}
use Rattle.archex_app.specs.Words.{Asked, GenerateWords, solve, check, weigh, cuts, probability, template, rows, generate, files_of, files_read, files_written}
use Rattle.report.specs.Refusal.{refused_words_text, refused_library_text, refused_architecture_text}
use Rattle.log_checker.specs.declared.error.No.{No}
use Rattle.archex_app.specs.Verdict.{IsPassing, IsBroken}
use Rattle.report.specs.Verdict.{yes_text, no_text}
use Rattle.archex_app.specs.Mass.{IsSinkNamed}
use Rattle.report.specs.Mass.{mass_text}
use Rattle.archex_app.specs.Endings.{endings_of}
use Rattle.archex_app.specs.ComesTo.{ComesTo, CommandComesTo, EndsWith, Reads, ReadsAs, OverLibrary, OverArchitecture, OverSink, SearchComesTo, VerdictComesTo, WeighingComesTo, GenerationComesTo}
use Rattle.archex_app.specs.Search.{base_problem}
use Rattle.archex_app.specs.Files.{names_of}

-- it ends with one of these endings, and reads and writes none but these files
pub record Within (Comes : Due → Type 0) (endings : List Ending) (reads writes : List (List ℕ)) : Type 0 where
  pub ending : (ending : Ending) (files : List (List ℕ × List ℕ)) (text : List ℕ) → Comes (ends ending files text) → Contains endings ending
  pub written : (ending : Ending) (files : List (List ℕ × List ℕ)) (text name : List ℕ) → Comes (ends ending files text) → Contains (names_of files) name → Contains writes name
  pub read : (name : List ℕ) → Comes (unread name) → Contains reads name

-- the one name of a list
only_at : (x y : List ℕ) (k : ℕ) → k < 1 → slice_index_or (x ∷ []) k y ≡ y → y ≡ x
only_at x y zero within is = sym is
only_at x y (suc k) within is = absurd (omega arith)

pub only_one : (x y : List ℕ) → Contains (x ∷ []) y → y ≡ x
only_one x y has = only_at x y has.0 has.1 has.2

-- one of two
either_at : (x y z : List ℕ) (k : ℕ) → k < 2 → slice_index_or (x ∷ y ∷ []) k z ≡ z → (z ≡ x) ⊎ (z ≡ y)
either_at x y z zero within is = inl (sym is)
either_at x y z (suc zero) within is = inr (sym is)
either_at x y z (suc (suc k)) within is = absurd (omega arith)

pub either_name : (x y z : List ℕ) → Contains (x ∷ y ∷ []) z → (z ≡ x) ⊎ (z ≡ y)
either_name x y z has = either_at x y z has.0 has.1 has.2

-- the parts of what is due
pub same_ending : {e e' : Ending} {f f' : List (List ℕ × List ℕ)} {t t' : List ℕ} → ends e f t ≡ ends e' f' t' → e ≡ e'
same_ending h = cc

pub same_files : {e e' : Ending} {f f' : List (List ℕ × List ℕ)} {t t' : List ℕ} → ends e f t ≡ ends e' f' t' → f ≡ f'
same_files h = cc

pub same_text : {e e' : Ending} {f f' : List (List ℕ × List ℕ)} {t t' : List ℕ} → ends e f t ≡ ends e' f' t' → t ≡ t'
same_text h = cc

pub same_name : {m n : List ℕ} → unread m ≡ unread n → m ≡ n
same_name h = cc

pub no_read : {n : List ℕ} {e : Ending} {f : List (List ℕ × List ℕ)} {t : List ℕ} → unread n ≡ ends e f t → ⊥
no_read h = cc

nothing_in : (name : List ℕ) → Contains (names_of []) name → ⊥
nothing_in name has = absurd (omega (arith, has.1))

pub ends_within : (ending : Ending) (text : List ℕ) (endings : List Ending) (read written : List (List ℕ)) → Contains endings ending → Within (EndsWith ending text) endings read written
ends_within ending text endings read written has = record {
  ending = λ e f t is. let P : Ending → Type 0 = Contains endings in subst P (sym (same_ending is)) has;
  written = λ e f t name is in_files. let P : List (List ℕ × List ℕ) → Type 0 = λ l. Contains (names_of l) name in absurd (nothing_in name (subst P (same_files is) in_files));
  read = λ name is. absurd (no_read is);
}

pub either_within : (A B : Due → Type 0) (endings : List Ending) (read written : List (List ℕ)) → Within A endings read written → Within B endings read written → Within (λ due. A due ⊎ B due) endings read written
either_within A B endings read written a b = record {
  ending = λ e f t is. elim is [ inl w ↦ a.ending e f t w | inr w ↦ b.ending e f t w ];
  written = λ e f t name is has. elim is [ inl w ↦ a.written e f t name w has | inr w ↦ b.written e f t name w has ];
  read = λ name is. elim is [ inl w ↦ a.read name w | inr w ↦ b.read name w ];
}

-- under a condition
pub given_within : {X : Type 0} (A : Due → Type 0) (endings : List Ending) (read written : List (List ℕ)) → Within A endings read written → Within (λ due. X × A due) endings read written
given_within A endings read written a = record {
  ending = λ e f t is. a.ending e f t is.1;
  written = λ e f t name is has. a.written e f t name is.1 has;
  read = λ name is. a.read name is.1;
}

-- for something that meets a condition
pub some_within : {X : Type 0} (P : X → Type 0) (A : X → Due → Type 0) (endings : List Ending) (read written : List (List ℕ)) → ((x : X) → Within (A x) endings read written) → Within (λ due. (x : X) × P x × A x due) endings read written
some_within P A endings read written a = record {
  ending = λ e f t is. (a is.0).ending e f t is.2;
  written = λ e f t name is has. (a is.0).written e f t name is.2 has;
  read = λ name is. (a is.0).read name is.2;
}

pub reads_within : (told : List ℕ → Option (List ℕ)) (name : List ℕ) (Then : List ℕ → Due → Type 0) (endings : List Ending) (read written : List (List ℕ)) → Contains read name → ((bytes : List ℕ) → Within (Then bytes) endings read written)
    → Within (Reads told name Then) endings read written
reads_within told name Then endings read written has a = record {
  ending = λ e f t is. elim is [ inl w ↦ absurd (no_read (sym w)) | inr w ↦ (a w.0).ending e f t w.2 ];
  written = λ e f t n is in_files. elim is [ inl w ↦ absurd (no_read (sym w)) | inr w ↦ (a w.0).written e f t n w.2 in_files ];
  read = λ n is. let P : List ℕ → Type 0 = Contains read in elim is [ inl w ↦ subst P (sym (same_name w)) has | inr w ↦ (a w.0).read n w.2 ];
}

-- of an answer or a fault
pub match_within : {T E : Type 0} (r : Result T E) (A : T → Due → Type 0) (B : E → Due → Type 0) (endings : List Ending) (read written : List (List ℕ)) → ((x : T) → Within (A x) endings read written) → ((x : E) → Within (B x) endings read written)
    → Within (λ due. MatchResult r (λ x. A x due) (λ x. B x due)) endings read written
match_within (Ok x) A B endings read written a b = a x
match_within (Err x) A B endings read written a b = b x

pub reads_as_within : {T E : Type 0} (of : List ℕ → Result T E) (ending : Ending) (refusal : E → List ℕ) (told : List ℕ → Option (List ℕ)) (name : List ℕ) (Job : T → Due → Type 0) (endings : List Ending) (read written : List (List ℕ)) → Contains read name → Contains endings ending
    → ((x : T) → Within (Job x) endings read written) → Within (ReadsAs of ending refusal told name Job) endings read written
reads_as_within of ending refusal told name Job endings read written has refused job =
    reads_within told name _ endings read written has (λ bytes. match_within (of bytes) Job (λ fault. EndsWith ending (refusal fault)) endings read written job (λ fault. ends_within ending (refusal fault) endings read written refused))

-- the commands
abbrev Its : (List ℕ → Option (List ℕ)) → Asked → Type 0
Its told asked = Within (CommandComesTo told asked) (endings_of asked) (files_read asked) (files_written asked)

pub at_0 : {X : Type 0} (x : X) (xs : List X) → Contains (x ∷ xs) x
at_0 x xs = (0, omega arith, refl)

pub at_1 : {X : Type 0} (w x : X) (xs : List X) → Contains (w ∷ x ∷ xs) x
at_1 w x xs = (1, omega arith, refl)

at_2 : {X : Type 0} (v w x : X) (xs : List X) → Contains (v ∷ w ∷ x ∷ xs) x
at_2 v w x xs = (2, omega arith, refl)

at_3 : {X : Type 0} (u v w x : X) (xs : List X) → Contains (u ∷ v ∷ w ∷ x ∷ xs) x
at_3 u v w x xs = (3, omega arith, refl)

-- what a search comes to: one of three endings, and its log
ending_is_its_own : (answer : Answer) → Contains (done ∷ infeasible ∷ node_limit ∷ library_refused ∷ []) (ending_of answer)
ending_is_its_own (Optimal cost) = at_0 done (infeasible ∷ node_limit ∷ library_refused ∷ [])
ending_is_its_own Infeasible = at_1 done infeasible (node_limit ∷ library_refused ∷ [])
ending_is_its_own (NodeLimit incumbent) = at_2 done infeasible node_limit (library_refused ∷ [])

search_within : (log : List ℕ) (limit workers analysts : ℕ) (l : LibraryParts) (reads : List (List ℕ)) → Within (λ due. SearchComesTo log limit workers analysts l due) (done ∷ infeasible ∷ node_limit ∷ library_refused ∷ []) reads (log ∷ [])
search_within log limit workers analysts l reads = record {
  ending = λ e f t is. let P : Ending → Type 0 = Contains (done ∷ infeasible ∷ node_limit ∷ library_refused ∷ []) in subst P (sym (same_ending is.4)) (ending_is_its_own is.2);
  written = λ e f t name is has. let P : List (List ℕ × List ℕ) → Type 0 = λ l. Contains (names_of l) name in subst P (same_files is.4) has;
  read = λ name is. absurd (no_read is.4);
}

verdict_within : (l : LibraryParts) (bytes : List ℕ) (read written : List (List ℕ)) → Within (λ due. VerdictComesTo l bytes due) (done ∷ library_refused ∷ log_refused ∷ []) read written
verdict_within l bytes read written =
    either_within (λ due. (answer : Answer) × IsPassing l bytes answer × EndsWith done (yes_text answer) due) (λ due. (refused : No) × IsBroken l bytes refused × EndsWith log_refused (no_text refused.line refused.rule) due) _ _ _
    (some_within (IsPassing l bytes) (λ (answer : Answer). EndsWith done (yes_text answer)) _ _ _ (λ answer. ends_within done _ _ _ _ (at_0 done (library_refused ∷ log_refused ∷ []))))
    (some_within (IsBroken l bytes) (λ (refused : No). EndsWith log_refused (no_text refused.line refused.rule)) _ _ _ (λ refused. ends_within log_refused _ _ _ _ (at_2 done library_refused log_refused [])))

sink_within : (name : List ℕ) (text : ℕ → List ℕ) (l : LibraryParts) (read written : List (List ℕ)) → Within (λ due. OverSink l name 4 (λ s. EndsWith done (text s)) due) (done ∷ library_refused ∷ words_refused ∷ architecture_refused ∷ []) read written
sink_within name text l read written =
    either_within (λ due. (s : ℕ) × IsSinkNamed l name s × EndsWith done (text s) due) (λ due. ((s : ℕ) → IsSinkNamed l name s → ⊥) × EndsWith words_refused (refused_words_text 4) due) _ _ _
    (some_within (IsSinkNamed l name) (λ (s : ℕ). EndsWith done (text s)) _ _ _ (λ s. ends_within done _ _ _ _ (at_0 done (library_refused ∷ words_refused ∷ architecture_refused ∷ []))))
    (given_within (EndsWith words_refused (refused_words_text 4)) _ _ _ (ends_within words_refused _ _ _ _ (at_2 done library_refused words_refused (architecture_refused ∷ []))))

-- a text of a sink of an architecture
of_sink_within : (told : List ℕ → Option (List ℕ)) (lib arch name : List ℕ) (text : LibraryParts → ArchitectureParts → ℕ → List ℕ)
    → Within (OverArchitecture told lib arch (λ l a. OverSink l name 4 (λ s. EndsWith done (text l a s)))) (done ∷ library_refused ∷ words_refused ∷ architecture_refused ∷ []) (lib ∷ arch ∷ []) []
of_sink_within told lib arch name text =
    reads_as_within library_of library_refused refused_library_text told lib (λ l. ReadsAs (architecture_of_bytes l) architecture_refused refused_architecture_text told arch (λ a. OverSink l name 4 (λ s. EndsWith done (text l a s)))) _ _ _ (at_0 lib (arch ∷ []))
    (at_1 done library_refused (words_refused ∷ architecture_refused ∷ []))
    (λ l. reads_as_within (architecture_of_bytes l) architecture_refused refused_architecture_text told arch (λ a. OverSink l name 4 (λ s. EndsWith done (text l a s))) _ _ _ (at_1 lib arch []) (at_3 done library_refused words_refused architecture_refused [])
    (λ a. sink_within name (text l a) l _ _))

weighing_within : (l : LibraryParts) (a : ArchitectureParts) (read written : List (List ℕ)) → Within (λ due. WeighingComesTo l a due) (done ∷ library_refused ∷ architecture_refused ∷ []) read written
weighing_within l a read written =
    some_within (IsFirstBroken l a) (λ (broken : Option ℕ). EndsWith done (weigh_text l a (weights_of l a) broken)) _ _ _ (λ broken. ends_within done _ _ _ _ (at_0 done (library_refused ∷ architecture_refused ∷ [])))

-- a text of a library
of_library_within : (told : List ℕ → Option (List ℕ)) (lib : List ℕ) (text : LibraryParts → List ℕ) → Within (OverLibrary told lib (λ l. EndsWith done (text l))) (done ∷ library_refused ∷ []) (lib ∷ []) []
of_library_within told lib text =
    reads_as_within library_of library_refused refused_library_text told lib (λ l. EndsWith done (text l)) _ _ _ (at_0 lib []) (at_1 done library_refused []) (λ l. ends_within done _ _ _ _ (at_0 done (library_refused ∷ [])))

answer_ends : (answer : Answer) → Contains (done ∷ infeasible ∷ node_limit ∷ []) (ending_of answer)
answer_ends (Optimal cost) = at_0 done (infeasible ∷ node_limit ∷ [])
answer_ends Infeasible = at_1 done infeasible (node_limit ∷ [])
answer_ends (NodeLimit incumbent) = at_2 done infeasible node_limit []

generation_within : (ask : GenerateWords) → Within (λ due. GenerationComesTo ask due) (done ∷ infeasible ∷ node_limit ∷ []) [] (ask.file ∷ ask.log ∷ [])
generation_within ask = record {
  ending = λ e f t is. let P : Ending → Type 0 = Contains (done ∷ infeasible ∷ node_limit ∷ []) in subst P (sym (same_ending is.5)) (answer_ends is.3);
  written = λ e f t name is has. let P : List (List ℕ × List ℕ) → Type 0 = λ l. Contains (names_of l) name in subst P (same_files is.5) has;
  read = λ name is. absurd (no_read is.5);
}

pub command_within : (told : List ℕ → Option (List ℕ)) (asked : Asked) → Its told asked
command_within told (solve ask) =
    reads_as_within library_of library_refused refused_library_text told ask.lib (SearchComesTo ask.log ask.branchings ask.workers ask.analysts) _ _ _ (at_0 ask.lib []) (at_3 done infeasible node_limit library_refused [])
    (λ l. search_within ask.log ask.branchings ask.workers ask.analysts l (ask.lib ∷ []))
command_within told (check lib log) =
    reads_as_within library_of library_refused refused_library_text told lib (λ l. Reads told log (VerdictComesTo l)) _ _ _ (at_0 lib (log ∷ [])) (at_1 done library_refused (log_refused ∷ []))
    (λ l. reads_within told log (VerdictComesTo l) _ _ _ (at_1 lib log []) (λ bytes. verdict_within l bytes _ _))
command_within told (weigh lib arch) =
    reads_as_within library_of library_refused refused_library_text told lib (λ l. ReadsAs (architecture_of_bytes l) architecture_refused refused_architecture_text told arch (WeighingComesTo l)) _ _ _ (at_0 lib (arch ∷ [])) (at_1 done library_refused (architecture_refused ∷ []))
    (λ l. reads_as_within (architecture_of_bytes l) architecture_refused refused_architecture_text told arch (WeighingComesTo l) _ _ _ (at_1 lib arch []) (at_2 done library_refused architecture_refused []) (λ a. weighing_within l a _ _))
command_within told (cuts lib arch sink) = of_sink_within told lib arch sink cuts_text
command_within told (probability lib arch sink) = of_sink_within told lib arch sink (λ l a s. mass_text (enclosure_of l a s))
command_within told (template lib) = of_library_within told lib template_text
command_within told (rows lib) = of_library_within told lib (λ l. rows_text (base_problem l))
command_within told (generate ask) = generation_within ask

-- the words
pub words_read : (told : List ℕ → Option (List ℕ)) (command : Result Asked ℕ) (name : List ℕ) → ComesTo told command (unread name) → Contains (files_of files_read command) name
words_read told (Ok asked) name comes = (command_within told asked).read name comes
words_read told (Err place) name comes = absurd (no_read comes)

pub words_written : (told : List ℕ → Option (List ℕ)) (command : Result Asked ℕ) (ending : Ending) (files : List (List ℕ × List ℕ)) (text name : List ℕ) → ComesTo told command (ends ending files text) → Contains (names_of files) name → Contains (files_of files_written command) name
words_written told (Ok asked) ending files text name comes has = (command_within told asked).written ending files text name comes has
words_written told (Err place) ending files text name comes has = let P : List (List ℕ × List ℕ) → Type 0 = λ l. Contains (names_of l) name in absurd (nothing_in name (subst P (same_files comes) has))
