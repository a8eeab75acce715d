-- Parts of statements that are no syntax of other parts: which tokens spell a value, which can be written, and their text.
use Rattle.std.specs.{Prelude.ℕ, Prelude.ℤ, Prelude.Bool, Prelude.true, Prelude.false, Prelude.List, Prelude.[], Prelude.◌++◌, Prelude.map, Prelude.Option, Prelude.codes, List.AllByRecursion, Fmt.signed_decimal}
use Rattle.copy_text.specs.Texts.{IsName, IsText}
use Rattle.sql_lex.specs.Written.{written_name, written_literal}
use Rattle.cat_model.specs.{declared.object.QName.QName, declared.table.ColumnDef.ColumnDef, declared.table.CheckDef.CheckDef, declared.table.RoleChanges.RoleChanges, declared.constraint.Encoding.Encoding, declared.value.Sequence.Sequence, declared.type_name.TypeName.TypeName, declared.stmt.Stmt.Stmt}
use Rattle.cat_model.specs.declared.stmt.Stmt.TheVariants as stmt
use Rattle.ddl_spelling.specs.{Paths.path as path_text, Paths.listed, Paths.some_listed, Tables.in_lines, Tables.check_text, Tables.table_lines, Tables.domain_text, Views.space_before, Keys.rest_text, Sequences.clauses_text, Sequences.truth_word, Roles.attributes_text, Roles.encoding_text, Roles.member_text, RightsText.remark_text, RightsText.grant_text, RightsText.revoke_text}
use Rattle.ddl_parts.specs.{Parts.Part, Lists.listed as listed_part, Leaves.name as name_part, Leaves.literal as literal_part, Leaves.is_literal, Leaves.qualified, Expressions.expression as expression_part, Expressions.default_text, Numbers.whole_number, Texts.IsPath, Texts.IsInt, Texts.IsExpressionText, Texts.IsBracketText, Texts.IsDefaultText}
use Rattle.ddl_grammar.specs.{Columns.columns as columns_part, CopyGrammar.some_columns as some_columns_part, Rests.key_rest as key_rest_part, Rests.foreign_rest as foreign_rest_part, Rests.deferral, Rests.reactions, RelationGrammar.bracketed, TableGrammar.Attributes, TableGrammar.domain_rest, TableGrammar.table_elements, SequenceGrammar.sequence, Databases.options, Roles.role_changes, ValueGrammar.literal_path as literal_path_part, ValueGrammar.truth as truth_part, Clauses.equals_or_to, Clauses.named_check, Comments.remark as remark_part, Grants.granted as granted_part, Grants.revoked as revoked_part}
use Rattle.ddl_grammar.specs.{Writable.IsObject, Writable.AreRights, Writable.IsGrantee, Writable.IsGrantor, Writable.IsGivenText, Writable.AreChanges, Writable.AreColumns, Writable.IsRest, Writable.IsTyped, Writable.IsColumn, Writable.IsCheck, Writable.IsSequence}

pub data Leaf : Type 0 → Type 1 where
  name : Leaf (List ℕ)
  literal : Leaf (List ℕ)
  path : Leaf QName
  literal_path : Leaf QName
  number : Leaf ℤ
  truth : Leaf Bool
  expression : Leaf (List ℕ)
  given_default : Leaf (List ℕ)
  body : Leaf (List ℕ)
  brackets : Leaf (List ℕ)
  columns : Leaf (List (List ℕ))
  some_columns : Leaf (List (List ℕ))
  key_rest : Leaf (List ℕ)
  foreign_rest : Leaf (List ℕ)
  labels : Leaf (List (List ℕ))
  domain : Leaf ((TypeName × Attributes) × List CheckDef)
  elements : Leaf (List ColumnDef × List CheckDef)
  clauses : Leaf Sequence
  changes : Leaf RoleChanges
  encoding : Leaf (Option Encoding)
  equals : Leaf (Unit {0})
  remark : Leaf (Option (List ℕ))
  check : Leaf CheckDef
  granted : Leaf Stmt
  revoked : Leaf Stmt

unfoldable pub leaf_part : {A : Type 0} → Leaf A → Part A
leaf_part name = name_part
leaf_part literal = literal_part
leaf_part path = qualified
leaf_part literal_path = literal_path_part
leaf_part number = whole_number
leaf_part truth = truth_part
leaf_part expression = expression_part
leaf_part given_default = default_text
leaf_part body = expression_part
leaf_part brackets = bracketed
leaf_part columns = columns_part
leaf_part some_columns = some_columns_part
leaf_part key_rest = key_rest_part
leaf_part foreign_rest = foreign_rest_part
leaf_part labels = listed_part is_literal literal_part
leaf_part domain = domain_rest
leaf_part elements = table_elements
leaf_part clauses = sequence
leaf_part changes = role_changes
leaf_part encoding = options
leaf_part equals = equals_or_to
leaf_part remark = remark_part
leaf_part check = named_check
leaf_part granted = granted_part
leaf_part revoked = revoked_part

abbrev pub is_granted : Stmt → Bool
is_granted (stmt.Grant object rights who option) = true
is_granted (stmt.GrantRole role member grantor admin inherit may_set) = true
is_granted _ = false

abbrev pub is_revoked : Stmt → Bool
is_revoked (stmt.Revoke object rights who) = true
is_revoked _ = false

unfoldable pub leaf_has : {A : Type 0} → Leaf A → A → Bool
leaf_has granted s = is_granted s
leaf_has revoked s = is_revoked s
leaf_has l v = true

abbrev pub IsGranted : Stmt → Type 0
IsGranted (stmt.Grant object rights who option) = IsObject object × AreRights object rights × IsGrantee who
IsGranted (stmt.GrantRole role member grantor admin inherit may_set) = IsName role × IsName member × IsGrantor grantor
IsGranted _ = ⊥

abbrev pub IsRevoked : Stmt → Type 0
IsRevoked (stmt.Revoke object rights who) = IsObject object × AreRights object rights × IsGrantee who
IsRevoked _ = ⊥

unfoldable pub LeafFits : {A : Type 0} → Leaf A → A → Type 0
LeafFits name n = IsName n
LeafFits literal t = IsText t
LeafFits path q = IsPath q
LeafFits literal_path q = IsPath q
LeafFits number n = IsInt n
LeafFits truth b = Unit {0}
LeafFits expression t = IsExpressionText t
LeafFits given_default t = IsDefaultText t
LeafFits body t = IsExpressionText t
LeafFits brackets t = IsBracketText t
LeafFits columns ns = AreColumns ns
LeafFits some_columns ns = AllByRecursion IsName ns
LeafFits key_rest t = IsRest deferral t
LeafFits foreign_rest t = IsRest reactions t
LeafFits labels ls = AllByRecursion IsText ls
LeafFits domain x = IsTyped x.0 × AllByRecursion IsCheck x.1
LeafFits elements x = AllByRecursion IsColumn x.0 × AllByRecursion IsCheck x.1
LeafFits clauses v = IsSequence v
LeafFits changes c = AreChanges c
LeafFits encoding e = Unit {0}
LeafFits equals u = Unit {0}
LeafFits remark t = IsGivenText t
LeafFits check c = IsCheck c
LeafFits granted s = IsGranted s
LeafFits revoked s = IsRevoked s

abbrev pub granted_words : Stmt → List ℕ
granted_words (stmt.Grant object rights who option) = grant_text object rights who option
granted_words (stmt.GrantRole role member grantor admin inherit may_set) = member_text role member grantor admin inherit may_set
granted_words _ = []

abbrev pub revoked_words : Stmt → List ℕ
revoked_words (stmt.Revoke object rights who) = revoke_text object rights who
revoked_words _ = []

unfoldable pub leaf_text : {A : Type 0} → Leaf A → A → List ℕ
leaf_text name n = written_name n
leaf_text literal t = written_literal t
leaf_text path q = path_text q
leaf_text literal_path q = written_literal (path_text q)
leaf_text number n = signed_decimal n
leaf_text truth b = truth_word b
leaf_text expression t = t
leaf_text given_default t = t
leaf_text body t = space_before t ++ t
leaf_text brackets t = t
leaf_text columns ns = listed ns
leaf_text some_columns ns = some_listed ns
leaf_text key_rest t = rest_text t
leaf_text foreign_rest t = rest_text t
leaf_text labels ls = in_lines (map written_literal ls)
leaf_text domain x = domain_text x.0.0 x.0.1.1 x.0.1.0 x.1
leaf_text elements x = in_lines (table_lines x.0 x.1)
leaf_text clauses v = clauses_text v
leaf_text changes c = attributes_text c
leaf_text encoding e = encoding_text e
leaf_text equals u = codes "="
leaf_text remark t = remark_text t
leaf_text check c = check_text c.name c.text
leaf_text granted s = granted_words s
leaf_text revoked s = revoked_words s
