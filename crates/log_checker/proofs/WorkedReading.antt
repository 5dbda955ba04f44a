-- A worked row: a text of which a line and two bytes of the next were read.
use Rattle.std.proofs.Common.{lit≤, [], ◌∷◌, codes, refl}
use Rattle.search_core.proofs.WorkedRows.{problem_p}
use Rattle.log_checker.specs.Phase.{Versioned}
use Rattle.log_checker.specs.Reading.{TextParts, IsReading}
use Rattle.log_checker.proofs.WorkedTexts.{none_feeds, version_leads}

-- behind a line that states the version and two bytes
behind_two_bytes : TextParts
behind_two_bytes = record { checker = record { problem = problem_p; lines = 1; phase = Versioned }; kept = codes "va"; bytes = 15 }

a_line_and_two_bytes : IsReading behind_two_bytes (codes "archex-log 1\nva")
unfolding behind_two_bytes
a_line_and_two_bytes = record {
  lines = codes "archex-log 1" ∷ [];
  tail = codes "va";
  read = record { parts = refl; few = lit≤ tt; leads = (Versioned, version_leads, refl) };
  none = none_feeds (codes "va") (refl, (refl, tt));
  few = lit≤ tt;
  counted = refl;
  kept = refl;
  bytes = refl;
}
