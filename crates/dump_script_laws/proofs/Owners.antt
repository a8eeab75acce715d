-- What gives an object to its owner, told by the object and by its entry.
use Rattle.std.proofs.Common.{◌≡◌, ℕ, Bool, true, false, cond, List, Option, Some, None, refl, ap, ◌∙◌, codes}
use Rattle.std.specs.Prelude.{◌↔◌, IsTrue}
use Rattle.std.specs.Option.{option_and_then, option_map}
use Rattle.copy_text.specs.Texts.{IsName, is_name}
use Rattle.cat_model.specs.declared.grant.Owned.{Owned}
use Rattle.cat_model.specs.declared.grant.Owned.TheVariants as owned
use Rattle.cat_model.specs.declared.object.QName.{QName}
use Rattle.cat_model.specs.Values.{Bytes}
use Rattle.cat_rows.specs.declared.catalogue.Catalogue.{Catalogue}
use Rattle.cat_rows.specs.declared.types.TypeRow.{TypeRow}
use Rattle.cat_book.specs.Chains.{type_of, is_domain_letter}
use Rattle.fmt_text.specs.Owners.{kind_of, name_in, joined, path_of as entry_path, object_of, owned_object}
use Rattle.graph_parts.specs.declared.object.Obj.{Obj}
use Rattle.graph_parts.specs.declared.object.ObjKind.{ObjKind}
use Rattle.graph_parts.specs.declared.object.ObjKind.TheVariants as kind
use Rattle.toc_entry.specs.declared.entry.Entry.{Entry}
use Rattle.dump_stmts.specs.Paths.{joined as dump_joined, path_of}
use Rattle.dump_toc.specs.Drafts.{object_draft}
use Rattle.dump_toc.specs.Numbers.{entry_of}
use Rattle.dump_toc.specs.Owners.{owner_of}
use Rattle.dump_toc.specs.Tags.{name_bytes, tag_of_kind, tag_of, type_desc, desc_of_kind, desc_of}
use Rattle.grant_laws.specs.Items.{IsRoleName}
use Rattle.script_laws.specs.Scripts.{given_to, owner_statements}
use Rattle.stmt_laws.proofs.Lists.{Known, known_so}
use Rattle.toc_laws.specs.Dumps.{IsDumpable}
use Rattle.dump_script_laws.specs.Statements.{type_owned, owned_as, given}

abbrev pub NameLaw : Type 0
NameLaw = (bytes : List ℕ) → IsTrue (is_name bytes) ↔ IsName bytes

-- ---- names stay as they are

name_stays : NameLaw → (n : Bytes) → IsName n → name_in n ≡ Some n
unfolding name_in
name_stays law n is = let yes : is_name n ≡ true = (law n).1 is in rw yes refl

names_stay : NameLaw → (o : Option Bytes) → Known IsName o → option_and_then name_in o ≡ o
names_stay law None k = refl
names_stay law (Some n) k = name_stays law n k

tag_stays : NameLaw → (o : Option Bytes) → Known IsName o → name_in (name_bytes o) ≡ o
unfolding name_in
tag_stays law None k = refl
tag_stays law (Some n) k = name_stays law n k

roles_named : (o : Option Bytes) → Known IsRoleName o → Known IsName o
roles_named None k = tt
roles_named (Some n) k = k.0

-- ---- what is given

same_joined : (a b c d : Option Bytes) → a ≡ c → b ≡ d → joined a b ≡ dump_joined c d
same_joined a b c d e f = ap (λ (x : Option Bytes). joined x b) e ∙ ap (joined c) f ∙ by c d
  where
    by : (c d : Option Bytes) → joined c d ≡ dump_joined c d
    by (Some c) (Some d) = refl
    by None d = refl
    by (Some c) None = refl

-- an entry that is called as an object of a kind
record IsCalled (cat : Catalogue) (o : Obj) (e : Entry) (k : ObjKind) : Type 0 where
  law : NameLaw
  schema : Known IsName o.schema
  name : Known IsName o.name
  namespace : e.namespace ≡ o.schema
  tag : e.tag ≡ tag_of_kind cat o k

path_is : (cat : Catalogue) (o : Obj) (e : Entry) (k : ObjKind) → tag_of_kind cat o k ≡ name_bytes o.name → IsCalled cat o e k → entry_path e ≡ path_of o
unfolding entry_path
path_is cat o e k plain is =
    same_joined (option_and_then name_in e.namespace) (name_in e.tag) o.schema o.name
    (ap (option_and_then name_in) is.namespace ∙ names_stay is.law o.schema is.schema) (ap name_in (is.tag ∙ plain) ∙ tag_stays is.law o.name is.name)

type_given : (e : Entry) (q : Option QName) → entry_path e ≡ q → (row : Option TypeRow) → object_of e (kind_of (type_desc row)) ≡ option_map (type_owned row) q
unfolding kind_of
type_given e q path None = ap (option_map owned.Type) path
type_given e q path (Some row) = by (is_domain_letter row.typtype)
  where
    by : (b : Bool) → object_of e (kind_of (cond b (codes "DOMAIN") (codes "TYPE"))) ≡ option_map (λ q. cond b (owned.Domain q) (owned.Type q)) q
    by true = ap (option_map owned.Domain) path
    by false = ap (option_map owned.Type) path

kind_given : (cat : Catalogue) (o : Obj) (e : Entry) (k : ObjKind) → IsCalled cat o e k → object_of e (kind_of (desc_of_kind cat o k)) ≡ owned_as cat o k
unfolding kind_of
kind_given cat o e kind.Schema is = ap (option_map owned.Schema) (ap name_in is.tag ∙ tag_stays is.law o.name is.name)
kind_given cat o e kind.UserType is = type_given e (path_of o) (path_is cat o e kind.UserType refl is) (type_of cat.pg_type o.id.oid)
kind_given cat o e kind.Table is = ap (option_map owned.Table) (path_is cat o e kind.Table refl is)
kind_given cat o e kind.View is = ap (option_map owned.View) (path_is cat o e kind.View refl is)
kind_given cat o e kind.Dummy is = ap (option_map owned.View) (path_is cat o e kind.Dummy refl is)
kind_given cat o e kind.Sequence is = ap (option_map owned.Sequence) (path_is cat o e kind.Sequence refl is)
kind_given cat o e other is = refl

-- what an object's entry gives is what the object gives
pub gives : NameLaw → (cat : Catalogue) (standing : List ℕ) (o : Obj) (needs : List ℕ) (ids : List (Option ℕ)) (id : ℕ) (owners : Bool) → IsDumpable cat o → owner_statements owners (entry_of ids id (object_draft cat standing o needs)) ≡ given owners cat o
unfolding object_draft owned_object tag_of desc_of
gives law cat standing o needs ids id false d = refl
gives law cat standing o needs ids id true d =
    let e = entry_of ids id (object_draft cat standing o needs) in
    let called : IsCalled cat o e o.kind = record { law = law; schema = known_so IsName o.schema d.named.0; name = known_so IsName o.name d.named.1; namespace = refl; tag = refl } in
    ap (λ (what : Option Owned). given_to what (option_and_then name_in (owner_of cat o))) (kind_given cat o e o.kind called)
    ∙ ap (given_to (owned_as cat o o.kind)) (names_stay law (owner_of cat o) (roles_named (owner_of cat o) (known_so IsRoleName (owner_of cat o) d.owner)))
