-- What a command that was read asks for.
use Rattle.std.specs.Prelude.{◌≤◌, ◌≢◌}
use Rattle.generate.specs.declared.text.TheConstants.{LARGEST_SIZE}
use Rattle.search_core.specs.declared.limits.TheConstants.{BRANCHINGS, WORKERS}
use Rattle.archex_app.specs.declared.words.Command.{Command}
use Rattle.archex_app.specs.declared.words.Command.TheVariants.{Solve, Check, Weigh, Cuts, Probability, Template, Rows, Generate}
use Rattle.archex_app.specs.Words.{Asked, solve, check, weigh, cuts, probability, template, rows, generate, LARGEST_NUMBER}

-- a command asks for what its names and numbers say
abbrev pub asked : Command → Asked
asked (Solve lib log branchings workers analysts) =
    solve (record { lib = lib.now; log = log.now; branchings = branchings; workers = workers; analysts = analysts })
asked (Check lib log) = check lib.now log.now
asked (Weigh lib arch) = weigh lib.now arch.now
asked (Cuts lib arch sink) = cuts lib.now arch.now sink.now
asked (Probability lib arch sink) = probability lib.now arch.now sink.now
asked (Template lib) = template lib.now
asked (Rows lib) = rows lib.now
asked (Generate number size file log) = generate (record { number = number; size = size; file = file.now; log = log.now })

-- its numbers are in their ranges, and the files that it writes have different names
abbrev pub IsInRange : Command → Type 0
IsInRange (Solve lib log branchings workers analysts) = (branchings ≤ BRANCHINGS) × ((1 ≤ workers) × ((workers ≤ WORKERS) × (analysts ≤ workers)))
IsInRange (Check lib log) = Unit {0}
IsInRange (Weigh lib arch) = Unit {0}
IsInRange (Cuts lib arch sink) = Unit {0}
IsInRange (Probability lib arch sink) = Unit {0}
IsInRange (Template lib) = Unit {0}
IsInRange (Rows lib) = Unit {0}
IsInRange (Generate number size file log) = (number ≤ LARGEST_NUMBER) × ((1 ≤ size) × ((size ≤ LARGEST_SIZE) × (file.now ≢ log.now)))
