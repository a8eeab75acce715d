-- Reports of the worked examples, computed.
use Rattle.std.proofs.Common.{◌≡◌, List, [], refl}
use Rattle.std.specs.Fmt.{digits}
use Rattle.std.specs.Str.{is_utf8, chars}
use Rattle.std.proofs.Math.Utf8.{encode}
use Rattle.sql_lex.specs.Bytes.{is_digit}
use Rattle.sql_lex.specs.Reserved.{is_reserved}
use Rattle.sql_lex.specs.Written.{begins_bare, in_bare, is_bare, doubled, quoted, written_name}
use Rattle.restore_runs.specs.Reports.{report}
use Rattle.restore_runs.specs.Examples.{tool, two_archived, second_refused, second_told, parents_archived, key_refused, key_told}

pub second : report tool two_archived second_refused [] ≡ second_told
unfolding report digits is_utf8 chars encode is_digit is_reserved begins_bare in_bare is_bare doubled quoted written_name
second = refl

pub key : report tool parents_archived key_refused [] ≡ key_told
unfolding report digits is_utf8 chars encode is_digit is_reserved begins_bare in_bare is_bare doubled quoted written_name
key = refl
