-- From what was read of a file, or wasn't, to what comes of a command.
use Rattle.std.proofs.Common.{◌≡◌, ℕ, Option, List, [], Ok, Err, Result, refl, sym, ap, subst, ◌∙◌, inl, inr}
use Rattle.std.specs.Cow.{cow_slice_items}
use Rattle.std.specs.Prelude.{MatchResult}
use Rattle.arch_model.specs.Parts.{LibraryParts, ArchitectureParts}
use Rattle.lib_read.specs.LibraryOf.{library_of}
use Rattle.arch_csv.specs.ArchitectureOf.{architecture_of_bytes}
use Rattle.archex_app.specs.Mass.{IsSinkNamed}
use Rattle.report.specs.Refusal.{refused_library_text, refused_architecture_text}
use Rattle.outside.specs.Faults.{Rose, Stay}
use Rattle.archex_app.specs.declared.outcome.Outcome.{Outcome}
use Rattle.archex_app.specs.declared.outcome.Stop.{Stop}
use Rattle.archex_app.specs.declared.outcome.Stop.TheVariants.{NoMemory, Unread, Refused}
use Rattle.archex_app.specs.Status.{Ending, status_of, done, words_refused, library_refused, architecture_refused}
use Rattle.archex_app.specs.Due.{Due, ends, unread, IsSettled}
use Rattle.archex_app.specs.ComesTo.{ReadsAs, OverLibrary, OverArchitecture, OverSink, WeighingComesTo, EndsWith}
use Rattle.archex_app.specs.Inner.Outcome.{IsOutcome, IsWeighing, Settles, IsRead, StopsAt, StopsAtSink}

-- of a job over what was read
pub job_over : {T E : Type 0} (of : List ℕ → Result T E) (ending : Ending) (refusal : E → List ℕ) (told : List ℕ → Option (List ℕ)) (name : List ℕ) (Job : T → Due → Type 0) (x : T) (outcome : Outcome) → IsRead of (told name) (Ok x) → IsOutcome (Job x) outcome → IsOutcome (ReadsAs of ending refusal told name Job) outcome
job_over {T = T} {E = E} of ending refusal told name Job x outcome read is =
    let due : Due = ends is.ending [] (cow_slice_items outcome.text) in
    let P : Result T E → Type 0 = λ r. MatchResult r (λ y. Job y due) (λ fault. EndsWith ending (refusal fault) due) in
    record { ending = is.ending; settled = is.settled; ended_so = is.ended_so; due = inr (read.bytes, read.read, subst P (sym read.is) is.due) }

refused : {T E : Type 0} (of : List ℕ → Result T E) (ending : Ending) (refusal : E → List ℕ) (told : List ℕ → Option (List ℕ)) (name : List ℕ) (Job : T → Due → Type 0) (outcome : Outcome) (fault : E) → IsRead of (told name) (Err fault) → cow_slice_items outcome.text ≡ refusal fault
    → ReadsAs of ending refusal told name Job (ends ending [] (cow_slice_items outcome.text))
refused {T = T} {E = E} of ending refusal told name Job outcome fault read text =
    let due : Due = ends ending [] (cow_slice_items outcome.text) in
    let P : Result T E → Type 0 = λ r. MatchResult r (λ y. Job y due) (λ f. EndsWith ending (refusal f) due) in
    inr (read.bytes, read.read, subst P (sym read.is) (ap (ends ending []) text))

-- where there is nothing to do it over
pub stops_at : {T E : Type 0} (of : List ℕ → Result T E) (ending : Ending) (refusal : E → List ℕ) (told : List ℕ → Option (List ℕ)) (name : List ℕ) (Job : T → Due → Type 0) (stop : Stop) (before now : List ℕ → ℕ) → IsSettled ending
    → StopsAt of ending refusal (told name) name stop before now → Settles (ReadsAs of ending refusal told name Job) (Err stop) before now
stops_at of ending refusal told name Job (Refused outcome) before now settled w =
    (record { ending = ending; settled = settled; ended_so = w.0.2; due = refused of ending refusal told name Job outcome w.0.0 w.0.1 w.0.3 }, w.1)
stops_at of ending refusal told name Job Unread before now settled w = (name, inl refl, w.0, w.1)
stops_at of ending refusal told name Job NoMemory before now settled w = w

-- over read counts that stayed
settles_from : (Comes : Due → Type 0) (r : Result Outcome Stop) (before mid now : List ℕ → ℕ) → Stay before mid → Settles Comes r mid now → Settles Comes r before now
settles_from Comes (Ok outcome) before mid now stay w = (w.0, λ other. w.1 other ∙ stay other)
settles_from Comes (Err (Refused outcome)) before mid now stay w = (w.0, λ other. w.1 other ∙ stay other)
settles_from Comes (Err Unread) before mid now stay w =
    let P : ℕ → Type 0 = λ n. Rose n (now w.0) in
    (w.0, w.1, subst P (stay w.0) w.2, λ other. elim (w.3 other) [ inl same ↦ inl (same ∙ stay other) | inr one ↦ inr (one.0, one.1, sym (stay other) ∙ one.2 ∙ stay one.0, one.3) ])
settles_from Comes (Err NoMemory) before mid now stay w = λ other. w other ∙ stay other

-- what comes of the job over what was read comes of the whole
pub settles_over : {T E : Type 0} (of : List ℕ → Result T E) (ending : Ending) (refusal : E → List ℕ) (told : List ℕ → Option (List ℕ)) (name : List ℕ) (Job : T → Due → Type 0) (x : T) (r : Result Outcome Stop) (before mid now : List ℕ → ℕ) → IsRead of (told name) (Ok x) → Stay before mid
    → Settles (Job x) r mid now → Settles (ReadsAs of ending refusal told name Job) r before now
settles_over of ending refusal told name Job x (Ok outcome) before mid now read stay w =
    let here : Settles (ReadsAs of ending refusal told name Job) (Ok outcome) mid now = (job_over of ending refusal told name Job x outcome read w.0, w.1) in
    settles_from (ReadsAs of ending refusal told name Job) (Ok outcome) before mid now stay here
settles_over of ending refusal told name Job x (Err (Refused outcome)) before mid now read stay w =
    let here : Settles (ReadsAs of ending refusal told name Job) (Err (Refused outcome)) mid now = (job_over of ending refusal told name Job x outcome read w.0, w.1) in
    settles_from (ReadsAs of ending refusal told name Job) (Err (Refused outcome)) before mid now stay here
settles_over {T = T} {E = E} of ending refusal told name Job x (Err Unread) before mid now read stay w =
    let P : Result T E → Type 0 = λ r. MatchResult r (λ y. Job y (unread w.0)) (λ fault. EndsWith ending (refusal fault) (unread w.0)) in
    let here : Settles (ReadsAs of ending refusal told name Job) (Err Unread) mid now = (w.0, inr (read.bytes, read.read, subst P (sym read.is) w.1), w.2, w.3) in
    settles_from (ReadsAs of ending refusal told name Job) (Err Unread) before mid now stay here
settles_over of ending refusal told name Job x (Err NoMemory) before mid now read stay w = settles_from (ReadsAs of ending refusal told name Job) (Err NoMemory) before mid now stay w

-- a job over an architecture, which was read after its library
pub settles_over_both : (told mid : List ℕ → Option (List ℕ)) (lib arch : List ℕ) (Job : LibraryParts → ArchitectureParts → Due → Type 0) (l : LibraryParts) (a : ArchitectureParts) (r : Result Outcome Stop) (before between now : List ℕ → ℕ) → IsRead library_of (told lib) (Ok l) → Stay before between
    → mid arch ≡ told arch → IsRead (architecture_of_bytes l) (mid arch) (Ok a) → Stay between now → Settles (Job l a) r now now → Settles (OverArchitecture told lib arch Job) r before now
settles_over_both told mid lib arch Job l a r before between now lib_read stay same arch_read stays w =
    let P : Option (List ℕ) → Type 0 = λ t. IsRead (architecture_of_bytes l) t (Ok a) in
    settles_over library_of library_refused refused_library_text told lib (λ k. ReadsAs (architecture_of_bytes k) architecture_refused refused_architecture_text told arch (Job k)) l r before between now lib_read stay
    (settles_over (architecture_of_bytes l) architecture_refused refused_architecture_text told arch (Job l) a r between now now (subst P same arch_read) stays w)

pub stops_at_architecture : (told mid : List ℕ → Option (List ℕ)) (lib arch : List ℕ) (Job : LibraryParts → ArchitectureParts → Due → Type 0) (l : LibraryParts) (stop : Stop) (before between now : List ℕ → ℕ) → IsRead library_of (told lib) (Ok l) → Stay before between
    → mid arch ≡ told arch → StopsAt (architecture_of_bytes l) architecture_refused refused_architecture_text (mid arch) arch stop between now → Settles (OverArchitecture told lib arch Job) (Err stop) before now
stops_at_architecture told mid lib arch Job l stop before between now lib_read stay same stops =
    let P : Option (List ℕ) → Type 0 = λ t. StopsAt (architecture_of_bytes l) architecture_refused refused_architecture_text t arch stop between now in
    settles_over library_of library_refused refused_library_text told lib (λ k. ReadsAs (architecture_of_bytes k) architecture_refused refused_architecture_text told arch (Job k)) l (Err stop) before between now lib_read stay
    (stops_at (architecture_of_bytes l) architecture_refused refused_architecture_text told arch (Job l) stop between now tt (subst P same stops))

pub stops_at_library : (told : List ℕ → Option (List ℕ)) (lib arch : List ℕ) (Job : LibraryParts → ArchitectureParts → Due → Type 0) (stop : Stop) (before now : List ℕ → ℕ) → StopsAt library_of library_refused refused_library_text (told lib) lib stop before now
    → Settles (OverArchitecture told lib arch Job) (Err stop) before now
stops_at_library told lib arch Job stop before now stops =
    stops_at library_of library_refused refused_library_text told lib (λ k. ReadsAs (architecture_of_bytes k) architecture_refused refused_architecture_text told arch (Job k)) stop before now tt stops

-- a name that is no sink's
pub stops_at_sink : (lib : LibraryParts) (name : List ℕ) (place : ℕ) (Job : ℕ → Due → Type 0) (stop : Stop) (now : List ℕ → ℕ) → StopsAtSink lib name place stop → Settles (OverSink lib name place Job) (Err stop) now now
stops_at_sink lib name place Job (Refused outcome) now w = (record { ending = words_refused; settled = tt; ended_so = w.1; due = inr (w.0, ap (ends words_refused []) w.2) }, λ other. refl)
stops_at_sink lib name place Job Unread now w = absurd w
stops_at_sink lib name place Job NoMemory now w = λ other. refl

-- a text of a sink of an architecture, once both files were read
abbrev pub OfSink : List ℕ → (LibraryParts → ArchitectureParts → ℕ → List ℕ) → LibraryParts → ArchitectureParts → Due → Type 0
OfSink name text lib arch due = OverSink lib name 4 (λ s. EndsWith done (text lib arch s)) due

pub sink_unnamed : (told mid : List ℕ → Option (List ℕ)) (lib arch name : List ℕ) (text : LibraryParts → ArchitectureParts → ℕ → List ℕ) (l : LibraryParts) (a : ArchitectureParts) (stop : Stop) (before between now : List ℕ → ℕ) → IsRead library_of (told lib) (Ok l) → Stay before between
    → mid arch ≡ told arch → IsRead (architecture_of_bytes l) (mid arch) (Ok a) → Stay between now → StopsAtSink l name 4 stop → Settles (OverArchitecture told lib arch (OfSink name text)) (Err stop) before now
sink_unnamed told mid lib arch name text l a stop before between now lib_read stay same arch_read stays stops =
    settles_over_both told mid lib arch (OfSink name text) l a (Err stop) before between now lib_read stay same arch_read stays (stops_at_sink l name 4 (λ s. EndsWith done (text l a s)) stop now stops)

pub sink_found : (told mid : List ℕ → Option (List ℕ)) (lib arch name : List ℕ) (text : LibraryParts → ArchitectureParts → ℕ → List ℕ) (l : LibraryParts) (a : ArchitectureParts) (s : ℕ) (outcome : Outcome) (before between now : List ℕ → ℕ) → IsRead library_of (told lib) (Ok l) → Stay before between
    → mid arch ≡ told arch → IsRead (architecture_of_bytes l) (mid arch) (Ok a) → Stay between now → IsSinkNamed l name s → outcome.status ≡ status_of done → cow_slice_items outcome.text ≡ text l a s
    → Settles (OverArchitecture told lib arch (OfSink name text)) (Ok outcome) before now
sink_found told mid lib arch name text l a s outcome before between now lib_read stay same arch_read stays named ended is_text =
    let is : IsOutcome (OfSink name text l a) outcome = record { ending = done; settled = tt; ended_so = ended; due = inl (s, named, ap (ends done []) is_text) } in
    settles_over_both told mid lib arch (OfSink name text) l a (Ok outcome) before between now lib_read stay same arch_read stays (is, λ other. refl)

-- what comes of `weigh` once both files were read
pub weighed : (told mid : List ℕ → Option (List ℕ)) (lib arch : List ℕ) (l : LibraryParts) (a : ArchitectureParts) (outcome : Outcome) (before between now : List ℕ → ℕ) → IsRead library_of (told lib) (Ok l) → Stay before between → mid arch ≡ told arch
    → IsRead (architecture_of_bytes l) (mid arch) (Ok a) → Stay between now → outcome.status ≡ status_of done → IsWeighing l a (cow_slice_items outcome.text) → Settles (OverArchitecture told lib arch WeighingComesTo) (Ok outcome) before now
weighed told mid lib arch l a outcome before between now lib_read stay same arch_read stays ended text =
    let is : IsOutcome (WeighingComesTo l a) outcome = record { ending = done; settled = tt; ended_so = ended; due = (text.0, text.1, ap (ends done []) text.2) } in
    settles_over_both told mid lib arch WeighingComesTo l a (Ok outcome) before between now lib_read stay same arch_read stays (is, λ other. refl)

-- a text of a library, once this was read
pub listed : (told : List ℕ → Option (List ℕ)) (lib : List ℕ) (text : LibraryParts → List ℕ) (l : LibraryParts) (outcome : Outcome) (before now : List ℕ → ℕ) → IsRead library_of (told lib) (Ok l) → Stay before now → outcome.status ≡ status_of done → cow_slice_items outcome.text ≡ text l
    → Settles (OverLibrary told lib (λ k. EndsWith done (text k))) (Ok outcome) before now
listed told lib text l outcome before now read stay ended is_text =
    let is : IsOutcome (EndsWith done (text l)) outcome = record { ending = done; settled = tt; ended_so = ended; due = ap (ends done []) is_text } in
    settles_over library_of library_refused refused_library_text told lib (λ k. EndsWith done (text k)) l (Ok outcome) before now now read stay (is, λ other. refl)

pub unlisted : (told : List ℕ → Option (List ℕ)) (lib : List ℕ) (text : LibraryParts → List ℕ) (stop : Stop) (before now : List ℕ → ℕ) → StopsAt library_of library_refused refused_library_text (told lib) lib stop before now → Settles (OverLibrary told lib (λ k. EndsWith done (text k))) (Err stop) before now
unlisted told lib text stop before now stops = stops_at library_of library_refused refused_library_text told lib (λ k. EndsWith done (text k)) stop before now tt stops
