-- Worked examples: what the comparison of two catalogues comes to.
use Rattle.std.specs.Prelude.{◌≢◌, pos, Bool, true, false, List, [], ◌∷◌, Option, Some, None, codes}
use Rattle.std.specs.FinMap.{get}
use Rattle.acl_text.specs.declared.list.AclItem.{AclItem}
use Rattle.acl_text.specs.declared.rights.Privilege.TheVariants as privilege
use Rattle.cat_rows.specs.declared.catalogue.Catalogue.{Catalogue}
use Rattle.cat_rows.specs.declared.schemas.NamespaceRow.{NamespaceRow}
use Rattle.cat_model.specs.declared.key.Key.TheVariants as key
use Rattle.cat_model.specs.declared.object.Object.TheVariants as object
use Rattle.cat_model.specs.Values.{Bytes}
use Rattle.cat_names.specs.Examples.{bob, schema, member, postgres, main, public, catalogue, with_schemas, owner_item}
use Rattle.cat_naming.specs.Relations.{RowsByOid}
use Rattle.cat_naming.specs.Entries.{catalogue_named}
use Rattle.cat_naming.specs.Examples.{one, path, rows}
use Rattle.cat_same.specs.declared.compare.Verdict.{Verdict}
use Rattle.cat_same.specs.declared.compare.Verdict.TheVariants.{Same, Differs}
use Rattle.cat_same.specs.Verdicts.{IsVerdict}

-- no table has rows
abbrev pub nothing : RowsByOid
nothing oid = []

abbrev pub Verdicts : Catalogue → Catalogue → Verdict → Type 0
Verdicts a b verdict = IsVerdict (catalogue_named a nothing) (catalogue_named b nothing) verdict

-- a schema `a` of postgres, and rights on it
abbrev pub with_rights : Option (List AclItem) → Catalogue
with_rights acl = with_schemas (schema 16384 (codes "a") 10 acl ∷ [])

-- two roles, of which the second has this name and may be a member of the first
abbrev pub with_role : List NamespaceRow → Bool → Catalogue
with_role schemas inherits = catalogue (postgres ∷ record bob { rolinherit = inherits } ∷ []) (member 1 10 16400 10 ∷ []) (main ∷ []) schemas

-- Other oids of roles, schemas and memberships tell no catalogues apart, nor does another current database.
-- Null is the default list of rights, and no rights are another.
pub record SameByNames : Type 0 where
  pub other_schema_oid : Verdicts (with_schemas (schema 16384 (codes "a") 10 None ∷ [])) (with_schemas (schema 20000 (codes "a") 10 None ∷ [])) Same
  pub other_role_oid : Verdicts (catalogue (postgres ∷ bob ∷ []) (member 1 10 16400 10 ∷ []) (main ∷ []) []) (catalogue (postgres ∷ record bob { oid = 17 } ∷ []) (member 2 10 17 10 ∷ []) (main ∷ []) []) Same
  pub other_current : Verdicts (catalogue (postgres ∷ []) [] (main ∷ []) []) (catalogue (postgres ∷ []) [] (record main { datcurrent = false } ∷ []) []) Same
  pub rights_written_out : Verdicts (with_rights None) (with_rights (Some (owner_item (privilege.Usage ∷ privilege.Create ∷ []) ∷ []))) Same
  pub no_rights : get (catalogue_named (with_rights None) nothing) (key.Acl (object.Schema (codes "a"))) ≢ get (catalogue_named (with_rights (Some [])) nothing) (key.Acl (object.Schema (codes "a")))

-- Other oids of a table, and other numbers of its columns, tell no catalogues apart.
pub record SameTables : Type 0 where
  pub other_table_oid : IsVerdict (catalogue_named (one 16384 (pos 1)) rows) (catalogue_named (one 20000 (pos 1)) rows) Same
  pub other_number : IsVerdict (catalogue_named (one 16384 (pos 1)) rows) (catalogue_named (one 16384 (pos 7)) rows) Same

-- One schema more is a difference at that schema's key, unless a lesser key tells the catalogues apart.
pub record LeastKeys : Type 0 where
  pub one_more : Verdicts (with_schemas (public ∷ schema 16384 (codes "a") 10 None ∷ [])) (with_schemas (public ∷ [])) (Differs (key.Schema (codes "a")))
  pub role_first : Verdicts (with_role (public ∷ []) true) (with_role [] false) (Differs (key.Role (codes "bob")))
  pub schema_not_first : Verdicts (with_role (public ∷ []) true) (with_role [] false) (Differs (key.Schema (codes "public"))) → ⊥

-- one table with a column, and in it one row with this value
abbrev pub row_of : Bytes → RowsByOid
row_of text oid = (Some text ∷ []) ∷ []

-- Tables with other rows differ at the key of the rows.
pub record TableRows : Type 0 where
  pub other_row : IsVerdict (catalogue_named (one 16384 (pos 1)) (row_of (codes "1"))) (catalogue_named (one 16384 (pos 1)) (row_of (codes "2"))) (Differs (key.Rows (path (codes "t"))))
