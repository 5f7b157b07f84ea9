-- 'unfolding all' opens every definition of the rules, so that closed cases compute. Nothing but such cases stands on it.
use Rattle.laws.specs.Tests.{any_of, all_of}
use Rattle.laws.specs.Search.{lowest, up_to_last, number_of}
use Rattle.laws.specs.Sums.{total}
use Rattle.laws.specs.Lists.{pad}
use Rattle.rules.specs.Table.{check, largest_lower_C, keeps_rules, out_of_range}
use Rattle.rules.specs.Common.{earliest, projection, breaks, breaker}
use Rattle.rules.specs.Judge.{malformed, over_bound, late, class, new_O, least_progress, start_of, largest_start, in_set, back_runner, new_B, new_W, majority}
use Rattle.rules.specs.Insert.{place, insert, release, release_all}
use Rattle.rules.specs.Close.{close, ill_listed, ill_formed, too_early, judged, applied, verdict}
use Rattle.rules.specs.Node.{fresh_node, beyond_lock, broken_now, start, finish, next_soon, report_of, report, node_close}
use Rattle.rules.specs.Numbers.{groups_after, groups}
use Rattle.rules.specs.Written.{times, read_record, read_into, numbers_of, record_bytes, write_number, write_record}
use Rattle.rules.specs.Session.{output, session, rounds, read_table, printed, ascii, digits, jobs_from}

unfoldable pub all : Unit {0}
unfolding any_of all_of lowest up_to_last number_of total pad check largest_lower_C keeps_rules out_of_range earliest projection breaks breaker malformed over_bound late class new_O least_progress start_of largest_start in_set back_runner new_B new_W majority place insert release release_all close ill_listed ill_formed too_early judged applied verdict fresh_node beyond_lock broken_now start finish next_soon report_of report node_close groups_after groups times read_record read_into numbers_of record_bytes write_number write_record output session rounds read_table printed ascii digits jobs_from
all = tt
