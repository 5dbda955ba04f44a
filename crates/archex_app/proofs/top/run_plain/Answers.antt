use Rattle.archex_app.specs.Words.{texts, solve, check, weigh, cuts, probability, template, rows, generate}
use Rattle.archex_app.specs.Team.{alone, by_team}
use Rattle.archex_app.proofs.AllRuns.{prints_nothing, unwritten, reads_stay, writes_stay, prints_stay}
use Rattle.archex_app.proofs.TeamLaws.{its_run, same_library, first_refused, words_are_refused, ends_so, read_rose_among, write_rose_among, reads_alone, writes_alone, others_keep}
use Rattle.archex_app.proofs.Headline.{optimal, none_meets, limit_met, read_rose, cut_short, searched, leaves_log, logged, log_stays, completes, enough}
use Rattle.archex_app.proofs.CheckHeadline as judged
use Rattle.archex_app.proofs.FilesHeadline as files
use Rattle.archex_app.proofs.GenerateHeadline as made
use Rattle.archex_app.proofs.top.run_plain.Goals as goal

pub returns-clause-optimal : goal.returns-clause-optimal
returns-clause-optimal g c ask asked is = optimal (by_team alone ask) _ _ _ (its_run alone _ _ _ _ c.run_words_alone.ensures.run (solve ask) asked) is

pub returns-clause-infeasible : goal.returns-clause-infeasible
returns-clause-infeasible g c ask asked is = none_meets (by_team alone ask) _ _ _ (its_run alone _ _ _ _ c.run_words_alone.ensures.run (solve ask) asked) is

pub returns-clause-limit_met : goal.returns-clause-limit_met
returns-clause-limit_met g c ask asked is = limit_met (by_team alone ask) _ _ _ (its_run alone _ _ _ _ c.run_words_alone.ensures.run (solve ask) asked) is

pub returns-clause-read_fault : goal.returns-clause-read_fault
returns-clause-read_fault g c ask asked is = read_rose (by_team alone ask) _ _ _ (its_run alone _ _ _ _ c.run_words_alone.ensures.run (solve ask) asked) is

pub returns-clause-cut_short : goal.returns-clause-cut_short
returns-clause-cut_short g c ask asked is = cut_short (by_team alone ask) _ _ _ (its_run alone _ _ _ _ c.run_words_alone.ensures.run (solve ask) asked) is

pub returns-clause-searched : goal.returns-clause-searched
returns-clause-searched g c ask asked is = searched (by_team alone ask) _ _ _ (its_run alone _ _ _ _ c.run_words_alone.ensures.run (solve ask) asked) is

pub returns-clause-stopped : goal.returns-clause-stopped
returns-clause-stopped g c ask asked is = leaves_log (by_team alone ask) _ _ _ (its_run alone _ _ _ _ c.run_words_alone.ensures.run (solve ask) asked) is

pub returns-clause-logged : goal.returns-clause-logged
returns-clause-logged g c ask asked is calm = logged (by_team alone ask) _ _ _ (its_run alone _ _ _ _ c.run_words_alone.ensures.run (solve ask) asked) is calm

pub returns-clause-log_stays : goal.returns-clause-log_stays
returns-clause-log_stays g c ask asked is = log_stays (by_team alone ask) _ _ _ (its_run alone _ _ _ _ c.run_words_alone.ensures.run (solve ask) asked) is

pub returns-clause-complete : goal.returns-clause-complete
returns-clause-complete g c ask bytes asked tells reads writes prints = completes (by_team alone ask) bytes _ _ _ (its_run alone _ _ _ _ c.run_words_alone.ensures.run (solve ask) asked) tells reads writes prints

pub returns-clause-enough : goal.returns-clause-enough
returns-clause-enough g c ask bytes lib asked tells read far is = enough (by_team alone ask) bytes lib _ _ _ (its_run alone _ _ _ _ c.run_words_alone.ensures.run (solve ask) asked) tells read far is

pub returns-clause-words_first : goal.returns-clause-words_first
returns-clause-words_first g c err = first_refused alone _ _ _ _ c.run_words_alone.ensures.run err

pub returns-clause-refused_words : goal.returns-clause-refused_words
returns-clause-refused_words g c place is four = words_are_refused alone _ _ _ _ c.run_words_alone.ensures.run place is four

pub returns-clause-statuses : goal.returns-clause-statuses
returns-clause-statuses g c = ends_so alone _ _ _ _ c.run_words_alone.ensures.run

pub returns-clause-unread : goal.returns-clause-unread
returns-clause-unread g c is = read_rose_among alone _ _ _ _ c.run_words_alone.ensures.run is

pub returns-clause-write_fault : goal.returns-clause-write_fault
returns-clause-write_fault g c is = write_rose_among alone _ _ _ _ c.run_words_alone.ensures.run is

pub returns-clause-nothing_printed : goal.returns-clause-nothing_printed
returns-clause-nothing_printed g c is = prints_nothing _ _ _ _ c.run_words_alone.ensures.run is

pub returns-clause-reads_stay : goal.returns-clause-reads_stay
returns-clause-reads_stay g c calm = reads_stay _ _ _ _ c.run_words_alone.ensures.run calm

pub returns-clause-writes_stay : goal.returns-clause-writes_stay
returns-clause-writes_stay g c calm = writes_stay _ _ _ _ c.run_words_alone.ensures.run calm

pub returns-clause-prints_stay : goal.returns-clause-prints_stay
returns-clause-prints_stay g c calm = prints_stay _ _ _ _ c.run_words_alone.ensures.run calm

pub returns-clause-yes : goal.returns-clause-yes
returns-clause-yes g c lib log asked is = judged.yes lib log _ _ _ (its_run alone _ _ _ _ c.run_words_alone.ensures.run (check lib log) asked) is

pub returns-clause-no : goal.returns-clause-no
returns-clause-no g c lib log asked is = judged.no lib log _ _ _ (its_run alone _ _ _ _ c.run_words_alone.ensures.run (check lib log) asked) is

pub returns-clause-check_complete : goal.returns-clause-check_complete
returns-clause-check_complete g c lib log lib_bytes log_bytes asked lib_tells log_tells lib_reads log_reads prints = judged.completes lib log lib_bytes log_bytes _ _ _ (its_run alone _ _ _ _ c.run_words_alone.ensures.run (check lib log) asked) lib_tells log_tells lib_reads log_reads prints

pub returns-clause-weighed : goal.returns-clause-weighed
returns-clause-weighed g c lib arch asked is = files.weighed lib arch _ _ _ (its_run alone _ _ _ _ c.run_words_alone.ensures.run (weigh lib arch) asked) is

pub returns-clause-cuts : goal.returns-clause-cuts
returns-clause-cuts g c lib arch sink asked is = files.cuts_listed lib arch sink _ _ _ (its_run alone _ _ _ _ c.run_words_alone.ensures.run (cuts lib arch sink) asked) is

pub returns-clause-mass : goal.returns-clause-mass
returns-clause-mass g c lib arch sink asked is = files.mass lib arch sink _ _ _ (its_run alone _ _ _ _ c.run_words_alone.ensures.run (probability lib arch sink) asked) is

pub returns-clause-template : goal.returns-clause-template
returns-clause-template g c lib asked is = files.template_listed lib _ _ _ (its_run alone _ _ _ _ c.run_words_alone.ensures.run (template lib) asked) is

pub returns-clause-rows : goal.returns-clause-rows
returns-clause-rows g c lib asked is = files.rows_listed lib _ _ _ (its_run alone _ _ _ _ c.run_words_alone.ensures.run (rows lib) asked) is

pub returns-clause-weigh_complete : goal.returns-clause-weigh_complete
returns-clause-weigh_complete g c lib arch lib_bytes arch_bytes asked lib_tells arch_tells lib_reads arch_reads prints = files.weigh_completes alone (texts c.args.words.now) _ _ _ c.run_words_alone.ensures.run lib arch lib_bytes arch_bytes asked lib_tells arch_tells lib_reads arch_reads prints

pub returns-clause-sink_complete : goal.returns-clause-sink_complete
returns-clause-sink_complete g c lib arch sink lib_bytes arch_bytes asked lib_tells arch_tells lib_reads arch_reads prints = files.sink_completes alone (texts c.args.words.now) _ _ _ c.run_words_alone.ensures.run lib arch sink lib_bytes arch_bytes asked lib_tells arch_tells lib_reads arch_reads prints

pub returns-clause-list_complete : goal.returns-clause-list_complete
returns-clause-list_complete g c lib bytes asked tells reads prints = files.list_completes alone (texts c.args.words.now) _ _ _ c.run_words_alone.ensures.run lib bytes asked tells reads prints

pub returns-clause-refused_library : goal.returns-clause-refused_library
returns-clause-refused_library g c lib reads is = files.refused_library _ lib _ _ _ c.run_words_alone.ensures.run (same_library alone _ lib reads) is

pub returns-clause-always_refused : goal.returns-clause-always_refused
returns-clause-always_refused g c lib bytes fault reads tells bad calm prints = files.always_refused _ lib bytes fault _ _ _ c.run_words_alone.ensures.run (same_library alone _ lib reads) tells bad calm prints

pub returns-clause-refused_architecture : goal.returns-clause-refused_architecture
returns-clause-refused_architecture g c lib arch asked is = files.refused_architecture alone (texts c.args.words.now) _ _ _ c.run_words_alone.ensures.run lib arch asked is

pub returns-clause-refused_sink : goal.returns-clause-refused_sink
returns-clause-refused_sink g c lib arch sink asked is = files.refused_sink alone (texts c.args.words.now) _ _ _ c.run_words_alone.ensures.run lib arch sink asked is

pub returns-clause-generated : goal.returns-clause-generated
returns-clause-generated g c ask asked is = made.generated ask _ _ _ (its_run alone _ _ _ _ c.run_words_alone.ensures.run (generate ask) asked) is

pub returns-clause-generate_stopped : goal.returns-clause-generate_stopped
returns-clause-generate_stopped g c ask asked is = made.stopped ask _ _ _ (its_run alone _ _ _ _ c.run_words_alone.ensures.run (generate ask) asked) is

pub returns-clause-generate_written : goal.returns-clause-generate_written
returns-clause-generate_written g c ask asked is file_calm log_calm = made.written ask _ _ _ (its_run alone _ _ _ _ c.run_words_alone.ensures.run (generate ask) asked) is file_calm log_calm

pub returns-clause-generate_complete : goal.returns-clause-generate_complete
returns-clause-generate_complete g c ask asked file_calm log_calm prints = made.completes ask _ _ _ (its_run alone _ _ _ _ c.run_words_alone.ensures.run (generate ask) asked) file_calm log_calm prints

pub returns-clause-unwritten : goal.returns-clause-unwritten
returns-clause-unwritten g c is calm = unwritten _ _ _ _ c.run_words_alone.ensures.run is calm

pub returns-clause-reads_alone : goal.returns-clause-reads_alone
returns-clause-reads_alone g c = reads_alone alone _ _ _ _ c.run_words_alone.ensures.run

pub returns-clause-writes_alone : goal.returns-clause-writes_alone
returns-clause-writes_alone g c = writes_alone alone _ _ _ _ c.run_words_alone.ensures.run

pub returns-clause-told_stays : goal.returns-clause-told_stays
returns-clause-told_stays g c name others = others_keep alone _ _ _ _ c.run_words_alone.ensures.run name others
