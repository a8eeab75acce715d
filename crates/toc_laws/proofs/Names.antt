-- What entries are called, their kinds and their owners are texts.
use Rattle.std.proofs.Common.{◌≡◌, ℕ, true, List, [], ◌∷◌, ◌++◌, Option, Some, None, refl, inl, inr, codes}
use Rattle.std.specs.Option.{ForSome, option_and_then, option_map}
use Rattle.std.specs.Str.{is_utf8, IsUtf8, chars}
use Rattle.std.proofs.Math.Utf8.{encode}
use Rattle.std.proofs.lemmas.Bool.{cases_Bool}
use Rattle.std.proofs.lemmas.Str.{IsUtf8-nil, IsUtf8-append, IsUtf8-from_is_utf8}
use Rattle.sql_lex.specs.Written.{written_name}
use Rattle.copy_text.specs.Texts.{IsName}
use Rattle.cat_model.specs.declared.grant.Commented.{Commented}
use Rattle.cat_model.specs.declared.grant.Commented.TheVariants as commented
use Rattle.cat_model.specs.declared.grant.Granted.{Granted}
use Rattle.cat_model.specs.declared.grant.Granted.TheVariants as granted
use Rattle.cat_model.specs.declared.stmt.Stmt.TheVariants as stmt
use Rattle.cat_rows.specs.declared.catalogue.Catalogue.{Catalogue}
use Rattle.cat_rows.specs.declared.constraints.ConstraintRow.{ConstraintRow}
use Rattle.cat_rows.specs.declared.relations.AttrdefRow.{AttrdefRow}
use Rattle.cat_rows.specs.declared.roles.AuthidRow.{AuthidRow}
use Rattle.cat_rows.specs.declared.table.SysTable.TheVariants as table
use Rattle.cat_rows.specs.declared.types.TypeRow.{TypeRow}
use Rattle.cat_rows.specs.RowCells.{authid_cells, attribute_cells, class_cells}
use Rattle.cat_names.specs.Kinds.{class_of}
use Rattle.cat_names.specs.Lookups.{same_oid, role_name}
use Rattle.cat_book.specs.Chains.{type_of, is_domain_letter}
use Rattle.cat_book.specs.Leads.{constraint_of}
use Rattle.ddl_laws.specs.Respelling.{IsWritable}
use Rattle.ddl_laws.proofs.Paths.{name_utf8}
use Rattle.ddl_laws.specs.Writable.{IsObject}
use Rattle.graph_parts.specs.declared.object.Obj.{Obj}
use Rattle.graph_parts.specs.declared.object.ObjKind.{ObjKind}
use Rattle.graph_parts.specs.declared.object.ObjKind.TheVariants as kind
use Rattle.dump_rows.specs.Rows.{default_of, column_at}
use Rattle.dump_toc.specs.Owners.{owner_oid, owner_of}
use Rattle.dump_toc.specs.Tags.{name_bytes, two_words, column_of, table_of, tag_of_kind, tag_of, type_desc, desc_of_kind, desc_of, comment_tag, grants_tag}
use Rattle.stmt_laws.specs.Named.{HoldsCells, IsNamed}
use Rattle.ddl_grammar.proofs.Spelled.{by_syntax}
use Rattle.stmt_laws.proofs.Lists.{Known, known_so, so_known, known_map, found_has}
use Rattle.stmt_laws.proofs.Rows.{IsOf, All, rows_hold}
use Rattle.stmt_laws.proofs.Objects.{column_found}

-- ---- names

name_text : (o : Option (List ℕ)) → Known IsName o → IsUtf8 (name_bytes o)
name_text None k = IsUtf8-nil
name_text (Some n) k = k.utf8

blank : IsUtf8 (codes " ")
unfolding is_utf8 chars encode
blank = IsUtf8-from_is_utf8 _ refl

two_texts : (a b : List ℕ) → IsUtf8 a → IsUtf8 b → IsUtf8 (two_words a b)
two_texts a b h k = IsUtf8-append (a ++ codes " ") b (IsUtf8-append a (codes " ") h blank) k

column_known : (cat : Catalogue) → HoldsCells cat → (oid : ℕ) → Known IsName (column_of cat oid)
column_known cat holds oid = by (default_of cat oid)
  where
    by : (r : Option AttrdefRow) → Known IsName (option_and_then (λ d. option_map (λ a. a.attname) (column_at cat d.adrelid d.adnum)) r)
    by None = tt
    by (Some d) = known_map (IsOf table.PgAttribute attribute_cells) IsName (λ a. a.attname) (column_at cat d.adrelid d.adnum) (column_found cat holds d.adrelid d.adnum) (λ a is. is.cells.1.1.0)

table_known : (cat : Catalogue) → HoldsCells cat → (oid : ℕ) → Known IsName (table_of cat oid)
table_known cat holds oid = by (constraint_of cat oid)
  where
    by : (r : Option ConstraintRow) → Known IsName (option_and_then (λ c. option_map (λ r. r.relname) (class_of cat.pg_class c.conrelid)) r)
    by None = tt
    by (Some c) =
        known_map (IsOf table.PgClass class_cells) IsName (λ r. r.relname) (class_of cat.pg_class c.conrelid)
        (found_has (IsOf table.PgClass class_cells) (λ r. same_oid c.conrelid r.oid) cat.pg_class (rows_hold cat holds table.PgClass class_cells cat.pg_class refl))
        (λ r is. is.cells.1.0)

-- ---- tags and kinds

return_text : IsUtf8 (codes "_RETURN")
unfolding is_utf8 chars encode
return_text = IsUtf8-from_is_utf8 _ refl

kind_tag : (cat : Catalogue) → HoldsCells cat → (o : Obj) → Known IsName o.name → (k : ObjKind) → IsUtf8 (tag_of_kind cat o k)
kind_tag cat holds o name kind.Default = two_texts (name_bytes o.name) (name_bytes (column_of cat o.id.oid)) (name_text o.name name) (name_text (column_of cat o.id.oid) (column_known cat holds o.id.oid))
kind_tag cat holds o name kind.Constraint = two_texts (name_bytes (table_of cat o.id.oid)) (name_bytes o.name) (name_text (table_of cat o.id.oid) (table_known cat holds o.id.oid)) (name_text o.name name)
kind_tag cat holds o name kind.Foreign = two_texts (name_bytes (table_of cat o.id.oid)) (name_bytes o.name) (name_text (table_of cat o.id.oid) (table_known cat holds o.id.oid)) (name_text o.name name)
kind_tag cat holds o name kind.Rule = two_texts (name_bytes o.name) (codes "_RETURN") (name_text o.name name) return_text
kind_tag cat holds o name other = name_text o.name name

pub tag_text : (cat : Catalogue) → HoldsCells cat → (o : Obj) → IsNamed o → IsUtf8 (tag_of cat o)
unfolding tag_of
tag_text cat holds o named = kind_tag cat holds o (known_so IsName o.name named.1) o.kind

type_desc_text : (r : Option TypeRow) → IsUtf8 (type_desc r)
unfolding is_utf8 chars encode
type_desc_text None = IsUtf8-from_is_utf8 _ refl
type_desc_text (Some row) = elim (cases_Bool (is_domain_letter row.typtype)) [ inl is ↦ rw is (IsUtf8-from_is_utf8 (codes "DOMAIN") refl) | inr isnt ↦ rw isnt (IsUtf8-from_is_utf8 (codes "TYPE") refl) ]

kind_desc : (cat : Catalogue) (o : Obj) (k : ObjKind) → IsUtf8 (desc_of_kind cat o k)
unfolding is_utf8 chars encode
kind_desc cat o kind.UserType = type_desc_text (type_of cat.pg_type o.id.oid)
kind_desc cat o kind.PreData = IsUtf8-nil
kind_desc cat o kind.PostData = IsUtf8-nil
kind_desc cat o other = IsUtf8-from_is_utf8 _ refl

pub desc_text : (cat : Catalogue) (o : Obj) → IsUtf8 (desc_of cat o)
unfolding desc_of
desc_text cat o = kind_desc cat o o.kind

-- ---- owners

roles_known : (roles : List AuthidRow) (oid : ℕ) → All table.PgAuthid authid_cells roles → Known IsName (role_name roles oid)
unfolding role_name
roles_known [] oid all = tt
roles_known (role ∷ roles) oid all = elim (cases_Bool (same_oid oid role.oid)) [ inl is ↦ rw is all.0.cells.1.0 | inr isnt ↦ rw isnt (roles_known roles oid all.1) ]

pub role_known : (cat : Catalogue) → HoldsCells cat → (oid : ℕ) → Known IsName (role_name cat.pg_authid oid)
role_known cat holds oid = roles_known cat.pg_authid oid (rows_hold cat holds table.PgAuthid authid_cells cat.pg_authid refl)

owner_known : (cat : Catalogue) → HoldsCells cat → (o : Obj) → Known IsName (owner_of cat o)
unfolding owner_of
owner_known cat holds o = by (owner_oid cat o o.kind)
  where
    by : (oid : Option ℕ) → Known IsName (option_and_then (role_name cat.pg_authid) oid)
    by None = tt
    by (Some oid) = role_known cat holds oid

-- a name that may not be there
pub names_text : (o : Option (List ℕ)) → Known IsName o → ForSome o IsUtf8
names_text o k = λ n e. (so_known IsName o n k e).utf8

pub owner_text : (cat : Catalogue) → HoldsCells cat → (o : Obj) → ForSome (owner_of cat o) IsUtf8
owner_text cat holds o = names_text (owner_of cat o) (owner_known cat holds o)

-- ---- tags of comments and grants

known_text : (words n : List ℕ) → is_utf8 words ≡ true → IsName n → IsUtf8 (words ++ written_name n)
known_text words n e is = IsUtf8-append words (written_name n) (IsUtf8-from_is_utf8 words e) (name_utf8 n is)

pub comment_text : (what : Commented) (text : List ℕ) → IsWritable (stmt.Comment what (Some text)) → IsUtf8 (comment_tag what)
unfolding is_utf8 chars encode by_syntax
comment_text (commented.Schema n) text is = known_text (codes "SCHEMA ") n refl is.0.0
comment_text (commented.Type q) text is = known_text (codes "TYPE ") q.name refl is.0.0.1
comment_text (commented.Domain q) text is = known_text (codes "DOMAIN ") q.name refl is.0.0.1
comment_text (commented.Table q) text is = known_text (codes "TABLE ") q.name refl is.0.0.1
comment_text (commented.View q) text is = known_text (codes "VIEW ") q.name refl is.0.0.1
comment_text (commented.Sequence q) text is = known_text (codes "SEQUENCE ") q.name refl is.0.0.1
comment_text (commented.Index q) text is = known_text (codes "INDEX ") q.name refl is.0.0.1
comment_text (commented.Column q n) text is = IsUtf8-append (codes "COLUMN " ++ written_name q.name) (codes "." ++ written_name n) (known_text (codes "COLUMN ") q.name refl is.0.0.1) (known_text (codes ".") n refl is.0.1.0)
comment_text (commented.Constraint q n) text is = IsUtf8-append (codes "CONSTRAINT " ++ written_name n) (codes " ON " ++ written_name q.name) (known_text (codes "CONSTRAINT ") n refl is.0.0) (known_text (codes " ON ") q.name refl is.0.1.0.1)

pub grants_text : (what : Granted) → IsObject what → IsUtf8 (grants_tag what)
unfolding is_utf8 chars encode
grants_text (granted.Table q) is = known_text (codes "TABLE ") q.name refl is.1
grants_text (granted.Sequence q) is = known_text (codes "SEQUENCE ") q.name refl is.1
grants_text (granted.Schema n) is = known_text (codes "SCHEMA ") n refl is
grants_text (granted.Type q) is = known_text (codes "TYPE ") q.name refl is.1
