-- The rows of pg_database: they meet the table's conditions, and stand for the databases.
use Rattle.std.proofs.Common.{◌≡◌, ℕ, pos, true, false, not, List, [], ◌∷◌, Some, None, refl, ap, sym, subst, ◌∙◌, inl, inr}
use Rattle.std.specs.Ordering.{nat_cmp, eq_by_cmp}
use Rattle.std.specs.FinMap.{get}
use Rattle.std.specs.List.{AllByRecursion, flat_map, list_any}
use Rattle.cat_rows.specs.declared.catalogue.Catalogue.{Catalogue}
use Rattle.cat_rows.specs.declared.roles.DatabaseRow.{DatabaseRow}
use Rattle.cat_model.specs.declared.constraint.Encoding.TheVariants as encoding
use Rattle.cat_model.specs.declared.object.Object.{Object}
use Rattle.cat_model.specs.declared.object.Object.TheVariants as object
use Rattle.cat_model.specs.declared.key.Key.{Key}
use Rattle.cat_model.specs.declared.key.Key.TheVariants as key
use Rattle.cat_model.specs.declared.value.Value.{Value}
use Rattle.cat_model.specs.declared.value.Value.TheVariants as value
use Rattle.cat_model.specs.Values.{Bytes, Named}
use Rattle.cat_model.proofs.MarkLaws.{same_text-self, same_text-equal}
use Rattle.cat_names.specs.Lookups.{is_role, is_no_oid}
use Rattle.cat_names.specs.Naming.{Entry, database_entries}
use Rattle.plain_tables.specs.Meets.{Meets}
use Rattle.plain_tables.specs.Rules.{RowName, name_cmp, place_cmp}
use Rattle.plain_tables.specs.Roles.{encoding_left_out, database_rules}
use Rattle.cat_sound.specs.Asked.{Asked}
use Rattle.cat_sound.specs.Texts.{Texts}
use Rattle.cat_sound.specs.Sound.{IsMet, IsSound}
use Rattle.cat_sound.proofs.Changes.{value_met}
use Rattle.cat_sound.proofs.Lists.{IsIn}
use Rattle.named_tables.specs.Oids.{Oids, AreOids, IsStarted}
use Rattle.named_tables.specs.Standing.{AreRowsOf}
use Rattle.named_tables.specs.Cluster.{NamedDatabase, IsDatabase, database_row}
use Rattle.named_tables.specs.Kinds.{is_database, of_databases}
use Rattle.named_tables.proofs.Rows.{one_name, one_oid, among_in, any_its, each_row, distinct_keys, at_most_one, no_keys}
use Rattle.named_tables.proofs.Entries.{AreEntries, IsHeld, rows_give}
use Rattle.named_tables.proofs.Roles.{AreRoles, named_there, is_role_met}
use Rattle.named_tables.proofs.Owned.{owner_at, owner_of, owner_met, object_met}

abbrev pub AreDatabases : Named → Oids → Bytes → List DatabaseRow → Type 0
AreDatabases named oids current rows = AreRowsOf (IsDatabase named) (λ d row. row ≡ database_row oids current d) rows

module _ (texts : Texts) (named : Named) (sound : IsSound texts named) (oids : Oids) (own : AreOids named oids) (current : Bytes) (cat : Catalogue) (roles : AreRoles named oids cat.pg_authid) (are : AreDatabases named oids current cat.pg_database) where
  same_database : (t s : NamedDatabase) → IsDatabase named t → IsDatabase named s → t.name ≡ s.name → t ≡ s
  same_database t s is_t is_s names =
      let values : Some (value.Owner t.owner) ≡ Some (value.Owner s.owner) = sym is_t.owner ∙ ap (λ (n : Bytes). get named (key.Owner (object.Database n))) names ∙ is_s.owner in
      let owners : t.owner ≡ s.owner = cc in
      λ i. record { name = names i; owner = owners i }

  -- what stands at the key of a database is one
  database_at : (name : Bytes) (v : Value) → get named (key.Database name) ≡ Some v → v ≡ value.Database encoding.Utf8
  database_at name (value.Database encoding.Utf8) is = refl
  database_at name v is = elim (sound.each (key.Database name) v is).own [ ]

  -- a database that is there has an owner
  pub whole_database : (name : Bytes) → get named (key.Database name) ≡ Some (value.Database encoding.Utf8) → (owner : Bytes) × IsDatabase named (record { name = name; owner = owner })
  whole_database name is =
      let owner = owner_of texts named sound (object.Database name) (sound.each (key.Database name) (value.Database encoding.Utf8) is).others.0 in
      (owner.0, record { there = is; owner = owner.1 })

  owner_role : (t : NamedDatabase) → IsDatabase named t → IsMet named (key.Role t.owner, Asked.there)
  owner_role t is = owner_met texts named sound (object.Database t.name) t.owner is.owner

  same_key : (t s : NamedDatabase) (a b : DatabaseRow) (k l : ℕ) → IsDatabase named t → IsDatabase named s → a ≡ database_row oids current t → b ≡ database_row oids current s → Some a.oid ≡ Some k → Some b.oid ≡ Some l → eq_by_cmp nat_cmp l k ≡ true → t ≡ s
  same_key t s a b k l is_t is_s at_a at_b is_k is_l ties =
      let equal : oids (key.Database t.name) ≡ oids (key.Database s.name) = ap (λ (r : DatabaseRow). r.oid) (sym at_a) ∙ one_oid a.oid b.oid k l is_k is_l ties ∙ ap (λ (r : DatabaseRow). r.oid) at_b in
      let keys : key.Database t.name ≡ key.Database s.name = own.apart (key.Database t.name) (key.Database s.name) (value.Database encoding.Utf8) (value.Database encoding.Utf8) is_t.there is_s.there refl refl refl equal in
      same_database t s is_t is_s cc

  same_name : (t s : NamedDatabase) (a b : DatabaseRow) (k l : RowName) → IsDatabase named t → IsDatabase named s → a ≡ database_row oids current t → b ≡ database_row oids current s → Some (0, 0, pos 0, a.datname) ≡ Some k → Some (0, 0, pos 0, b.datname) ≡ Some l → eq_by_cmp name_cmp l k ≡ true → t ≡ s
  same_name t s a b k l is_t is_s at_a at_b is_k is_l ties =
      same_database t s is_t is_s (ap (λ (r : DatabaseRow). r.datname) (sym at_a) ∙ one_name a.datname b.datname k l is_k is_l ties ∙ ap (λ (r : DatabaseRow). r.datname) at_b)

  -- the current one has the name of the current one
  same_mark : (t s : NamedDatabase) (a b : DatabaseRow) → IsDatabase named t → IsDatabase named s → a ≡ database_row oids current t → b ≡ database_row oids current s → a.datcurrent ≡ true → b.datcurrent ≡ true → t ≡ s
  same_mark t s a b is_t is_s at_a at_b mark_a mark_b =
      let one : t.name ≡ current = same_text-equal t.name current (sym (ap (λ (r : DatabaseRow). r.datcurrent) at_a) ∙ mark_a) in
      let two : s.name ≡ current = same_text-equal s.name current (sym (ap (λ (r : DatabaseRow). r.datcurrent) at_b) ∙ mark_b) in
      same_database t s is_t is_s (one ∙ sym two)

  one_current : get named (key.Database current) ≡ Some (value.Database encoding.Utf8) → list_any (λ d. d.datcurrent) cat.pg_database ≡ true
  one_current is =
      let whole = whole_database current is in
      let at = are.each (record { name = current; owner = whole.0 }) whole.1 in
      any_its (λ (d : DatabaseRow). d.datcurrent) cat.pg_database at.0 (among_in cat.pg_database at.0 at.1) (ap (λ (r : DatabaseRow). r.datcurrent) at.2 ∙ same_text-self current)

  pub databases_meet : IsStarted named oids current → Meets database_rules cat cat.pg_database
  databases_meet started = record {
    oids = distinct_keys (IsDatabase named) (λ d row. row ≡ database_row oids current d) cat.pg_database are nat_cmp (λ r. Some r.oid) same_key;
    names = distinct_keys (IsDatabase named) (λ d row. row ≡ database_row oids current d) cat.pg_database are name_cmp (λ r. Some (0, 0, pos 0, r.datname)) same_name;
    places = no_keys place_cmp cat.pg_database;
    marks = at_most_one (IsDatabase named) (λ d row. row ≡ database_row oids current d) cat.pg_database are (λ r. r.datcurrent) same_mark;
    objects = each_row (IsDatabase named) (λ d row. row ≡ database_row oids current d) cat.pg_database are (λ row. is_no_oid row.oid ≡ false) (λ t row is at. ap (λ (r : DatabaseRow). is_no_oid r.oid) at ∙ own.some (key.Database t.name) (value.Database encoding.Utf8) is.there refl);
    there = each_row (IsDatabase named) (λ d row. row ≡ database_row oids current d) cat.pg_database are (λ row. not (is_role cat.pg_authid row.datdba) ≡ false) (λ t row is at. ap (λ (r : DatabaseRow). not (is_role cat.pg_authid r.datdba)) at ∙ ap not (is_role_met texts named sound oids own cat.pg_authid roles t.owner (owner_role t is)));
    texts = λ i row at. refl;
    inside = each_row (IsDatabase named) (λ d row. row ≡ database_row oids current d) cat.pg_database are (λ row. encoding_left_out row.encoding ≡ None) (λ t row is at. ap (λ (r : DatabaseRow). encoding_left_out r.encoding) at);
    needed = one_current started.current_there;
  }

  -- ---- by names

  abbrev given : NamedDatabase → List Entry
  given t = (key.Database t.name, value.Database encoding.Utf8) ∷ (key.Owner (object.Database t.name), value.Owner t.owner) ∷ []

  gives : (t : NamedDatabase) → IsDatabase named t → database_entries cat.pg_authid (database_row oids current t) ≡ given t
  gives t is = rw (named_there texts named sound oids own cat.pg_authid roles t.owner (owner_role t is)) refl

  row_gives : (t : NamedDatabase) (row : DatabaseRow) → IsDatabase named t → row ≡ database_row oids current t → given t ≡ database_entries cat.pg_authid row
  row_gives t row is at = sym (ap (database_entries cat.pg_authid) at ∙ gives t is)

  databases_held : (t : NamedDatabase) (row : DatabaseRow) → IsDatabase named t → row ≡ database_row oids current t → AllByRecursion (IsHeld named of_databases) (database_entries cat.pg_authid row)
  databases_held t row is at = subst (λ (es : List Entry). AllByRecursion (IsHeld named of_databases) es) (row_gives t row is at) ((is.there, refl), ((is.owner, refl), tt))

  owner_covers : (o : Object) (v : Value) → get named (key.Owner o) ≡ Some v → is_database o ≡ true → (t : NamedDatabase) × IsDatabase named t × ((row : DatabaseRow) → row ≡ database_row oids current t → IsIn (key.Owner o, v) (database_entries cat.pg_authid row))
  owner_covers (object.Database name) v is kind =
      let owner = owner_at texts named sound (object.Database name) v is in
      let owned : get named (key.Owner (object.Database name)) ≡ Some (value.Owner owner.0) = is ∙ ap Some owner.1 in
      let found = value_met named (key.Database name, Asked.ownable) (object_met texts named sound (object.Database name) owner.0 owned) in
      let whole : IsDatabase named (record { name = name; owner = owner.0 }) = record { there = found.1 ∙ ap Some (database_at name found.0 found.1); owner = owned } in (
        record { name = name; owner = owner.0 },
        whole,
        λ row at. subst (IsIn (key.Owner (object.Database name), v)) (row_gives (record { name = name; owner = owner.0 }) row whole at) (inr (inl (λ i. (key.Owner (object.Database name), sym owner.1 i)))),
      )
  owner_covers o v is kind = cc

  database_covers : (k : Key) (v : Value) → get named k ≡ Some v → of_databases k ≡ true → (t : NamedDatabase) × IsDatabase named t × ((row : DatabaseRow) → row ≡ database_row oids current t → IsIn (k, v) (database_entries cat.pg_authid row))
  database_covers (key.Database name) v is kind =
      let same = database_at name v is in
      let whole = whole_database name (is ∙ ap Some same) in (
        record { name = name; owner = whole.0 },
        whole.1,
        λ row at. subst (IsIn (key.Database name, v)) (row_gives (record { name = name; owner = whole.0 }) row whole.1 at) (inl (λ i. (key.Database name, sym same i))),
      )
  database_covers (key.Owner o) v is kind = owner_covers o v is kind
  database_covers k v is kind = cc

  pub databases_stand : AreEntries named of_databases (flat_map (database_entries cat.pg_authid) cat.pg_database)
  databases_stand = rows_give (IsDatabase named) (λ d row. row ≡ database_row oids current d) cat.pg_database are named of_databases (database_entries cat.pg_authid) databases_held database_covers
