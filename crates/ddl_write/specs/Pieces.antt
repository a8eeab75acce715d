-- What a piece of a statement's text stands for.
use Rattle.std.specs.{Prelude.ℕ, Prelude.List, Prelude.◌++◌, Prelude.map, List.flat_map, Fmt.signed_decimal}
use Rattle.sql_lex.specs.Written.{written_name, written_literal}
use Rattle.ddl_write.specs.declared.words.Piece.{Piece}
use Rattle.ddl_write.specs.declared.words.Piece.TheVariants as pieces
use Rattle.ddl_spelling.specs.{Paths.path, Paths.listed, Paths.some_listed, Paths.only_if, Sequences.type_words, Sequences.truth_word, Sequences.min_text, Sequences.max_text, Keys.rest_text, RightsText.remark_text, RightsText.rights_text, RightsText.granted_words, RightsText.granted_name, RightsText.grantee_text, Roles.flag_text, Roles.limit_text, Roles.given_literal, Roles.given_name, Roles.truth, Roles.inherit_text, Roles.encoding_text, Views.space_before, Tables.type_text, Tables.given_default, Tables.check_text, Tables.in_lines}

abbrev pub text_of : Piece → List ℕ
text_of (pieces.Words words) = words.now
text_of (pieces.OnlyIf condition words) = only_if condition words.now
text_of (pieces.Text text) = text.now
text_of (pieces.Rest rest) = rest_text rest.now
text_of (pieces.Body body) = space_before body.now ++ body.now
text_of (pieces.Name name) = written_name name.now
text_of (pieces.GivenName words name) = given_name words.now name.now
text_of (pieces.Names names) = listed names.now
text_of (pieces.SomeNames names) = some_listed names.now
text_of (pieces.Path q) = path q.now
text_of (pieces.PathLiteral q) = written_literal (path q.now)
text_of (pieces.Literal words text) = words.now ++ written_literal text.now
text_of (pieces.GivenLiteral words text) = given_literal words.now text.now
text_of (pieces.Number n) = signed_decimal n.now
text_of (pieces.Min kind step n) = min_text kind step.now n.now
text_of (pieces.Max kind step n) = max_text kind step.now n.now
text_of (pieces.Flag word flag) = flag_text word.now flag
text_of (pieces.Limit limit) = limit_text limit
text_of (pieces.Remark text) = remark_text text.now
text_of (pieces.Called called) = truth_word called
text_of (pieces.Kind kind) = type_words kind
text_of (pieces.Truth flag) = truth flag
text_of (pieces.Inherit inherit) = inherit_text inherit
text_of (pieces.Encoding encoding) = encoding_text encoding
text_of (pieces.Rights object rights) = rights_text object.now rights
text_of (pieces.On object) = granted_words object.now ++ granted_name object.now
text_of (pieces.Whom grantee) = grantee_text grantee.now
text_of (pieces.TypeName type_name) = type_text type_name.now
text_of (pieces.Default default) = given_default default.now
text_of (pieces.Check name text) = check_text name.now text.now
text_of (pieces.Checks words checks) = flat_map (λ c. words.now ++ check_text c.name c.text) checks.now
text_of (pieces.Labels labels) = in_lines (map written_literal labels.now)
