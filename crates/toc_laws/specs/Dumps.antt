-- What is known of what a dump takes, so that its script reads as its statements.
use Rattle.std.specs.Prelude.{◌≡◌, ◌++◌, Bool, true, false, List, map, Option, Some, codes}
use Rattle.std.specs.List.{AllByRecursion}
use Rattle.std.specs.Option.{ForSome}
use Rattle.cat_rows.specs.declared.catalogue.Catalogue.{Catalogue}
use Rattle.cat_model.specs.declared.object.QName.{QName}
use Rattle.cat_model.specs.Values.{Bytes}
use Rattle.ddl_laws.specs.Rows.{AreRows}
use Rattle.graph_parts.specs.declared.object.Obj.{Obj}
use Rattle.graph_parts.specs.declared.object.ObjKind.{ObjKind}
use Rattle.graph_parts.specs.declared.object.ObjKind.TheVariants as kind
use Rattle.dep_sort.specs.Ordering.{Sorted}
use Rattle.dump_stmts.specs.Paths.{path_of}
use Rattle.dump_toc.specs.Owners.{owner_of}
use Rattle.dump_toc.specs.Rights.{granted_as, acl_of}
use Rattle.grant_laws.specs.Items.{kind_on, IsRoleName, IsItem}
use Rattle.acl_text.specs.declared.list.AclItem.{AclItem}
use Rattle.cat_names.specs.declared.rights.GrantKind.{GrantKind}
use Rattle.toc_entry.specs.declared.entry.Entry.{Entry}
use Rattle.script_laws.specs.Scripts.{AllEntries, rows_of}
use Rattle.stmt_laws.specs.Named.{HoldsCells, IsNamed}

abbrev pub is_data : ObjKind → Bool
is_data kind.TableData = true
is_data other = false

-- a list of rights, where there is one and it isn't null, gives such as the kind has, to PUBLIC or to roles
abbrev pub AreRights : GrantKind → Option (Option (List AclItem)) → Type 0
AreRights kind acl = ForSome acl (λ list. ForSome list (λ items. AllByRecursion (IsItem kind) items))

-- An object's names are names, the rows that it is are those of a path, its owner is a role and the rights on it are such as its
-- kind has, as in any well-formed catalogue.
pub record IsDumpable (cat : Catalogue) (o : Obj) : Type 0 where
  pub named : IsNamed o
  pub path : is_data o.kind ≡ true → (q : QName) × (path_of o ≡ Some q)
  pub owner : ForSome (owner_of cat o) IsRoleName
  pub rights : ForSome (granted_as o o.kind) (λ what. AreRights (kind_on what) (acl_of cat o o.kind))

pub record IsDump (cat : Catalogue) (order : Sorted) : Type 0 where
  pub cells : HoldsCells cat
  pub objects : AllByRecursion (IsDumpable cat) order.objects

-- rows, and what ends them
abbrev pub ended : Bytes → Bytes
ended r = r ++ codes "\\.\n\n\n"

-- the rows of an entry that has rows
abbrev pub HasRows : Entry → Option Bytes → Type 0
HasRows e rows = e.has_rows ≡ true → (r : Bytes) × AreRows r × (rows ≡ Some (ended r))

abbrev pub HaveRows : AllEntries → Type 0
HaveRows entries = AllByRecursion (λ e. HasRows e.0 (rows_of e)) entries

abbrev pub entries_in : AllEntries → List Entry
entries_in entries = map (λ e. e.0) entries
