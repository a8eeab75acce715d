use Rattle.std.proofs.Common.{refl}
use Rattle.std.specs.Fmt.{digits}
use Rattle.std.specs.Str.{is_utf8, chars}
use Rattle.std.proofs.Math.Utf8.{encode}
use Rattle.sql_lex.specs.Bytes.{is_digit}
use Rattle.sql_lex.specs.Reserved.{is_reserved}
use Rattle.sql_lex.specs.Written.{begins_bare, in_bare, is_bare, doubled, quoted, written_name}
use Rattle.restore_runs.specs.Reports.{report}
use Rattle.restore_runs.proofs.laws.worked_reports.Goals as goal

pub returns : goal.returns
unfolding report digits is_utf8 chars encode is_digit is_reserved begins_bare in_bare is_bare doubled quoted written_name
returns c = record {
  refused = refl;
  skipped = refl;
  owners = refl;
  stopped = refl;
  nothing = refl;
}
