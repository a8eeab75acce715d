-- What is loaded is sound, where the rows of tables fit them and the texts that rows may hold are good.
use Rattle.std.proofs.Common.{◌≡◌, ◌⊎◌, ℕ, Bool, true, false, cond, ◌||◌, ◌&&◌, List, [], ◌∷◌, ◌++◌, Option, Some, None, refl, sym, ap, subst, ◌∙◌, inl, inr}
use Rattle.std.proofs.lemmas.Bool.{and_parts, and_from}
use Rattle.std.specs.FinMap.{get}
use Rattle.std.specs.List.{filter_map, list_any}
use Rattle.std.specs.Option.{option_and_then}
use Rattle.std.specs.Prelude.{◌==◌, length}
use Rattle.cat_rows.specs.declared.catalogue.Catalogue.{Catalogue}
use Rattle.cat_rows.specs.declared.constraints.ConstraintRow.{ConstraintRow}
use Rattle.cat_rows.specs.declared.relations.IndexRow.{IndexRow}
use Rattle.cat_model.specs.declared.class.Class.TheVariants as class
use Rattle.cat_model.specs.declared.constraint.ConstraintKind.TheVariants as kinds
use Rattle.cat_model.specs.declared.key.Key.{Key}
use Rattle.cat_model.specs.declared.key.Key.TheVariants as key
use Rattle.cat_model.specs.declared.object.Object.{Object}
use Rattle.cat_model.specs.declared.object.Object.TheVariants as object
use Rattle.cat_model.specs.declared.object.QName.{QName}
use Rattle.cat_model.specs.declared.stmt.Stmt.{Stmt}
use Rattle.cat_model.specs.declared.stmt.Stmt.TheVariants as stmt
use Rattle.cat_model.specs.declared.value.Constraint.{Constraint}
use Rattle.cat_model.specs.declared.value.Value.{Value}
use Rattle.cat_model.specs.declared.value.Value.TheVariants as value
use Rattle.cat_model.specs.KeyEffects.{index_path, key_value, foreign_value}
use Rattle.cat_model.specs.RelationEffects.{check_value}
use Rattle.cat_model.specs.Tables.{same_set}
use Rattle.cat_model.specs.Trees.{of_class, is_on}
use Rattle.cat_model.specs.Values.{Bytes, Named}
use Rattle.cat_model.proofs.MarkLaws.{same_path-self}
use Rattle.cat_names.specs.Lookups.{same_oid, boot_oid}
use Rattle.cat_names.specs.Naming.{boot}
use Rattle.cat_book.specs.Leads.{is_key}
use Rattle.cat_book.specs.Paths.{class_path_of}
use Rattle.row_texts.specs.IndexTexts.{index_said}
use Rattle.row_texts.specs.declared.index_text.IndexText.{IndexText}
use Rattle.text_tables.specs.Agreeing.{is_path}
use Rattle.text_tables.specs.Indexes as indexes
use Rattle.constraint_table.specs.declared.constraint_text.ConstraintText.{ConstraintText}
use Rattle.constraint_table.specs.declared.constraint_text.ConstraintText.TheVariants.{Primary, Unique, Foreign, Check}
use Rattle.constraint_table.specs.Keys.{key_columns, unique_columns, on_table, columns_of_key, key_of_constraint, key_of_index, keys_of, has_key_on}
use Rattle.constraint_table.specs.Said.{statement_said, said_by, constraint_said}
use Rattle.constraint_table.specs.Table as constraints
use Rattle.well_formed.specs.Formed.{IsWellFormed}
use Rattle.cat_naming.specs.Constraints.{constraint_value}
use Rattle.cat_naming.specs.Entries.{catalogue_named}
use Rattle.cat_naming.specs.Relations.{RowsByOid}
use Rattle.cat_sound.specs.Texts.{Texts}
use Rattle.cat_sound.specs.Asked.{Asked}
use Rattle.cat_sound.specs.Beside.{HasKey, IsBeside}
use Rattle.cat_sound.specs.Sound.{IsMet, IsSoundAt, IsSound}
use Rattle.cat_sound.proofs.Lists.{IsIn}
use Rattle.sound_rows.specs.Rows.{IsAmong}
use Rattle.sound_rows.proofs.Among.{place_in}
use Rattle.sound_rows.proofs.Paths.{one_of_oid}
use Rattle.sound_rows.proofs.Roles.{same_oid-equal, role_is_named}
use Rattle.sound_loads.specs.InOrder.{AreFit}
use Rattle.sound_loads.specs.Origins.{Origin}
use Rattle.sound_loads.specs.Reads.{Reads}
use Rattle.sound_loads.proofs.Apart.{mapped_in}
use Rattle.sound_loads.proofs.Beside.{stated, one_oid, one_constraint, constraint_is_there, index_is_there, chains, primaries, indexes as indexes_beside}
use Rattle.sound_loads.proofs.Cluster.{role_sound, member_sound, database_sound, database_owner_sound, schema_sound, schema_owner_sound, schema_grants_sound}
use Rattle.sound_loads.proofs.Comments.{comment_sound}
use Rattle.sound_loads.proofs.Constraints.{constraint_sound, index_sound}
use Rattle.sound_loads.proofs.Defaults.{default_sound, type_sound}
use Rattle.sound_loads.proofs.Keys.{path_is, index_says, constraint_says}
use Rattle.sound_loads.proofs.Relations.{relation_owner_sound, relation_grants_sound, sequence_value_sound}
use Rattle.sound_loads.proofs.Rows.{rows_sound}
use Rattle.sound_loads.proofs.Standing.{IsThere, origin, is_met, role_of_oid}
use Rattle.sound_loads.proofs.Tables.{owning_sound, body_sound, relation_sound, type_owner_sound, type_grants_sound}

-- ---- the parents of foreign keys

any_found : {A : Type 0} (p : A → Bool) (xs : List A) → list_any p xs ≡ true → (x : A) × IsIn x xs × (p x ≡ true)
any_found p [] e = absurd cc
any_found {A} p (x ∷ xs) e = by (any_found p xs) (p x) refl e
  where
    by : (list_any p xs ≡ true → (y : A) × IsIn y xs × (p y ≡ true)) → (b : Bool) → p x ≡ b → (b || list_any p xs) ≡ true → (y : A) × IsIn y (x ∷ xs) × (p y ≡ true)
    by later true is h = (x, inl refl, is)
    by later false is h = let found = later h in (found.0, inr found.1, found.2)

in_either : {A : Type 0} (x : A) (xs ys : List A) → IsIn x (xs ++ ys) → IsIn x xs ⊎ IsIn x ys
in_either x [] ys among = inr among
in_either {A} x (y ∷ xs) ys (inl same) = inl (inl same)
in_either {A} x (y ∷ xs) ys (inr later) = by (in_either x xs ys later)
  where
    by : IsIn x xs ⊎ IsIn x ys → IsIn x (y ∷ xs) ⊎ IsIn x ys
    by (inl here) = inl (inr here)
    by (inr there) = inr there

module _ (cat : Catalogue) (rows : RowsByOid) (well : IsWellFormed cat) where
  abbrev named : Named
  named = catalogue_named cat rows

  module _ (parent : QName) (names : List Bytes) (oid : ℕ) (path : class_path_of cat oid ≡ Some parent) where
    abbrev IsOn : Key → Value → Type 0
    IsOn k v = of_class (class.KeysOn parent names) k v ≡ true

    has_at : (k : Key) → IsThere cat rows k → ((v : Value) → Origin cat rows k v → of_class (class.KeysOn parent names) k v ≡ true) → HasKey named parent names
    has_at k at on = (k, at.value, at.is, on at.value at.from)

    -- a key of this table on these columns
    of_constraint : (c : ConstraintRow) → IsAmong c cat.pg_constraint → (place : ℕ × List Bytes) → key_of_constraint c ≡ Some place → (same_oid oid place.0 && same_set names place.1) ≡ true → HasKey named parent names
    unfolding constraint_said
    of_constraint c among place e on =
        let says = constraint_says cat well c among in
        by (columns_of_key c) refl e says.statement says.stated says.text says.said says.agrees
      where
        both : (same_oid oid place.0 ≡ true) × (same_set names place.1 ≡ true)
        both = and_parts (same_oid oid place.0) (same_set names place.1) on

        value_on : (s : Stmt) (t : ConstraintText) → said_by s ≡ Some t → (ns : List Bytes) → key_columns t ≡ Some ns → same_set names ns ≡ true → (name : Bytes) (v : Value) → constraint_value s ≡ Some v → of_class (class.KeysOn parent names) (key.Con parent name) v ≡ true
        value_on (stmt.AddPrimary p n columns rest) t says ns is on name v held =
            let same : Primary columns ≡ t = cc in
            let cols : columns ≡ ns = let one = ap key_columns same ∙ is in cc in
            let w : key_value kinds.Primary columns rest ≡ v = cc in
            subst (λ x. of_class (class.KeysOn parent names) (key.Con parent name) x ≡ true) w (rw (same_path-self parent, ap (same_set names) cols ∙ on) refl)
        value_on (stmt.AddUnique p n columns rest) t says ns is on name v held =
            let same : Unique columns ≡ t = cc in
            let cols : columns ≡ ns = let one = ap key_columns same ∙ is in cc in
            let w : key_value kinds.Unique columns rest ≡ v = cc in
            subst (λ x. of_class (class.KeysOn parent names) (key.Con parent name) x ≡ true) w (rw (same_path-self parent, ap (same_set names) cols ∙ on) refl)
        value_on (stmt.AddForeign p n columns q ps rest) t says ns is on name v held = absurd (let same : Foreign columns q ps ≡ t = cc in let one = ap key_columns same ∙ is in cc)
        value_on (stmt.AddCheck p n text) t says ns is on name v held = absurd (let same : Check text ≡ t = cc in let one = ap key_columns same ∙ is in cc)
        value_on _ t says ns is on name v held = absurd cc

        columns_said : (s : Stmt) → statement_said c.condef ≡ Some s → (t : ConstraintText) → said_by s ≡ Some t → (ns : List Bytes) → (b : Bool) → cond {A = Option (List Bytes)} b (option_and_then key_columns (option_and_then said_by (statement_said c.condef))) None ≡ Some ns → key_columns t ≡ Some ns
        columns_said s stated t says ns true h = ap key_columns_of (sym (ap (option_and_then said_by) stated ∙ says)) ∙ h
          where
            key_columns_of : Option ConstraintText → Option (List Bytes)
            key_columns_of o = option_and_then key_columns o
        columns_said s stated t says ns false h = absurd cc

        by : (o : Option (List Bytes)) → columns_of_key c ≡ o → on_table c.conrelid o ≡ Some place → (s : Stmt) → statement_said c.condef ≡ Some s → (t : ConstraintText) → said_by s ≡ Some t → constraints.agrees cat c t ≡ true → HasKey named parent names
        by None is h s stated t says agrees = absurd cc
        by (Some ns) is h s stated t says agrees =
            let same : ◌≡◌ {A = ℕ × List Bytes} (c.conrelid, ns) place = cc in
            let oids : oid ≡ c.conrelid = same_oid-equal oid place.0 both.0 ∙ ap (λ (p : ℕ × List Bytes). p.0) (sym same) in
            let at : class_path_of cat c.conrelid ≡ Some parent = ap (class_path_of cat) (sym oids) ∙ path in
            let set : same_set names ns ≡ true = ap (λ (p : ℕ × List Bytes). same_set names p.1) same ∙ both.1 in
            let cols = columns_said s stated t says ns (is_key c) is in
            has_at (key.Con parent c.conname) (constraint_is_there cat rows well c among parent at) (λ v from.
            let one : from.row ≡ c = one_constraint cat rows well from.row c from.among among parent from.path at from.same in
            let held : constraint_value s ≡ Some v = ap (option_and_then constraint_value) (sym stated) ∙ ap (λ (r : ConstraintRow). option_and_then constraint_value (statement_said r.condef)) (sym one) ∙ from.said in
            value_on s t says ns cols set c.conname v held)

    -- a unique index of it
    of_index : (i : IndexRow) → IsAmong i cat.pg_index → (place : ℕ × List Bytes) → key_of_index i ≡ Some place → (same_oid oid place.0 && same_set names place.1) ≡ true → HasKey named parent names
    of_index i among place e on =
        let says = index_says cat well i among in
        by (unique_columns says.text) refl (ap (λ (o : Option IndexText). on_table i.indrelid (option_and_then unique_columns o)) (sym says.said) ∙ e)
      where
        both : (same_oid oid place.0 ≡ true) × (same_set names place.1 ≡ true)
        both = and_parts (same_oid oid place.0) (same_set names place.1) on

        by : (o : Option (List Bytes)) → unique_columns (index_says cat well i among).text ≡ o → on_table i.indrelid o ≡ Some place → HasKey named parent names
        by None is h = absurd cc
        by (Some ns) is h =
            let says = index_says cat well i among in
            let same : ◌≡◌ {A = ℕ × List Bytes} (i.indrelid, ns) place = cc in
            let oids : oid ≡ i.indrelid = same_oid-equal oid place.0 both.0 ∙ ap (λ (p : ℕ × List Bytes). p.0) (sym same) in
            let set : same_set names ns ≡ true = ap (λ (p : ℕ × List Bytes). same_set names p.1) same ∙ both.1 in
            let table : says.text.table ≡ parent = let whole = sym says.table ∙ ap (class_path_of cat) (sym oids) ∙ path in cc in
            has_at (key.Index parent says.text.name) (subst (λ (p : QName). IsThere cat rows (key.Index p says.text.name)) table (index_is_there cat rows well i among says.text says.said)) (λ v from.
            let other = index_says cat well from.row from.among in
            let said : other.text ≡ from.text = let whole = sym other.said ∙ from.said in cc in
            let here : class_path_of cat from.row.indexrelid ≡ Some (index_path parent says.text.name) = other.path ∙ ap (λ (t : IndexText). Some (index_path t.table t.name)) said ∙ ap (λ (p : QName). Some (index_path p from.text.name)) from.path ∙ ap (λ (n : Bytes). Some (index_path parent n)) from.same in
            let there : class_path_of cat i.indexrelid ≡ Some (index_path parent says.text.name) = says.path ∙ ap (λ (p : QName). Some (index_path p says.text.name)) table in
            let one : from.row ≡ i = one_of_oid (λ (r : IndexRow). r.indexrelid) cat.pg_index well.indexes.oids from.row i from.among among (one_oid cat rows well (index_path parent says.text.name) from.row.indexrelid i.indexrelid here there) in
            let texts : from.text ≡ says.text = let whole = sym from.said ∙ ap (λ (r : IndexRow). index_said r.indexdef) one ∙ says.said in cc in
            let columns : unique_columns from.text ≡ Some ns = ap unique_columns texts ∙ is in
            subst (λ x. of_class (class.KeysOn parent names) (key.Index parent says.text.name) x ≡ true) from.is (and_from _ _ (same_path-self parent) (ap (is_on names) columns ∙ set)))

    pub has_key : has_key_on cat oid names ≡ true → HasKey named parent names
    has_key e =
        let found = any_found (λ (k : ℕ × List Bytes). same_oid oid k.0 && same_set names k.1) (keys_of cat) e in
        by found.0 found.2 (in_either found.0 (filter_map key_of_constraint cat.pg_constraint) (filter_map key_of_index cat.pg_index) found.1)
      where
        by : (place : ℕ × List Bytes) → (same_oid oid place.0 && same_set names place.1) ≡ true → IsIn place (filter_map key_of_constraint cat.pg_constraint) ⊎ IsIn place (filter_map key_of_index cat.pg_index) → HasKey named parent names
        by place on (inl among) = let c = mapped_in key_of_constraint cat.pg_constraint place among in of_constraint c.0 (place_in cat.pg_constraint c.0 c.1) place c.2 on
        by place on (inr among) = let i = mapped_in key_of_index cat.pg_index place among in of_index i.0 (place_in cat.pg_index i.0 i.1) place i.2 on

  -- a foreign key's parent has a key on its columns
  parent_by : (c : ConstraintRow) (s : Stmt) (t : ConstraintText) → said_by s ≡ Some t → constraints.agrees cat c t ≡ true → (d : Constraint) → constraint_value s ≡ Some (value.Constraint d) → (parent : QName) (names : List Bytes) → d.parent ≡ Some (parent, names) → HasKey named parent names
  parent_by c (stmt.AddForeign p n columns q ps rest) t says agrees d is parent names e =
      let same : Foreign columns q ps ≡ t = cc in
      let good = and_parts (constraints.is_foreign c) (constraints.is_good_foreign cat c columns q ps) (ap (constraints.agrees cat c) same ∙ agrees) in
      let a = and_parts (is_path (class_path_of cat c.confrelid) q) _ good.1 in
      let b = and_parts (indexes.are_columns cat c.conrelid (Some columns)) _ a.1 in
      let f = and_parts (indexes.are_columns cat c.confrelid (Some ps)) _ b.1 in
      let g = and_parts (length columns == length ps) (has_key_on cat c.confrelid ps) f.1 in
      let held : foreign_value columns q ps rest ≡ value.Constraint d = cc in
      let parents : ◌≡◌ {A = Option (QName × List Bytes)} (Some (q, ps)) d.parent = parent_of held in
      let pair : ◌≡◌ {A = QName × List Bytes} (q, ps) (parent, names) = let whole = parents ∙ e in cc in
      let one : HasKey named q ps = has_key q ps c.confrelid (path_is (class_path_of cat c.confrelid) q a.0) g.1 in
      subst (λ (x : QName × List Bytes). HasKey named x.0 x.1) pair one
    where
      parent_in : Value → Option (QName × List Bytes)
      parent_in (value.Constraint x) = x.parent
      parent_in _ = None

      parent_of : foreign_value columns q ps rest ≡ value.Constraint d → ◌≡◌ {A = Option (QName × List Bytes)} (Some (q, ps)) d.parent
      parent_of held = ap parent_in held
  parent_by c (stmt.AddPrimary p n columns rest) t says agrees d is parent names e = absurd (let held : key_value kinds.Primary columns rest ≡ value.Constraint d = cc in let none : None ≡ d.parent = cc in cc)
  parent_by c (stmt.AddUnique p n columns rest) t says agrees d is parent names e = absurd (let held : key_value kinds.Unique columns rest ≡ value.Constraint d = cc in let none : None ≡ d.parent = cc in cc)
  parent_by c (stmt.AddCheck p n text) t says agrees d is parent names e = absurd (let held : check_value text ≡ value.Constraint d = cc in let none : None ≡ d.parent = cc in cc)
  parent_by c _ t says agrees d is parent names e = absurd cc

  parents : (q : QName) (name : Bytes) (c : Constraint) (parent : QName) (names : List Bytes) → get named (key.Con q name) ≡ Some (value.Constraint c) → c.parent ≡ Some (parent, names) → HasKey named parent names
  parents q name c parent names e p =
      let s = stated cat rows well q name (value.Constraint c) (origin cat rows (key.Con q name) (value.Constraint c) e) in
      parent_by s.row s.statement s.text s.says s.agrees c s.is parent names p

  pub loaded_beside : IsBeside (catalogue_named cat rows)
  loaded_beside = record { chains = chains cat rows well; primaries = primaries cat rows well; indexes = indexes_beside cat rows well; parents = parents }

  -- ---- the boot role

  pub boot_there : (name : Bytes) × (boot cat ≡ Some name) × IsMet (catalogue_named cat rows) (key.Role name, Asked.there)
  boot_there =
      let role = role_is_named cat.pg_authid boot_oid well.roles.needed in
      (role.0, role.1, is_met cat rows (key.Role role.0) (role_of_oid cat rows boot_oid role.0 role.1))

-- ---- all of it

module _ (texts : Texts) (reads : Reads texts) (cat : Catalogue) (rows : RowsByOid) (well : IsWellFormed cat) (fit : AreFit cat rows) where
  owners : (o : Object) (v : Value) → Origin cat rows (key.Owner o) v → IsSoundAt texts (catalogue_named cat rows) (key.Owner o) v
  owners (object.Schema name) v from = schema_owner_sound texts cat rows well name v from
  owners (object.Type q) v from = type_owner_sound texts cat rows well q v from
  owners (object.Relation q) v from = relation_owner_sound texts cat rows well q v from
  owners (object.Column q column) v from = absurd from
  owners (object.Constraint q name) v from = absurd from
  owners (object.Database name) v from = database_owner_sound texts cat rows well name v from

  grants : (o : Object) (v : Value) → Origin cat rows (key.Acl o) v → IsSoundAt texts (catalogue_named cat rows) (key.Acl o) v
  grants (object.Schema name) v from = schema_grants_sound texts cat rows well name v from
  grants (object.Type q) v from = type_grants_sound texts cat rows well q v from
  grants (object.Relation q) v from = relation_grants_sound texts cat rows well q v from
  grants (object.Column q column) v from = absurd from
  grants (object.Constraint q name) v from = absurd from
  grants (object.Database name) v from = absurd from

  each : (k : Key) (v : Value) → Origin cat rows k v → IsSoundAt texts (catalogue_named cat rows) k v
  each (key.Role name) v from = role_sound texts cat rows well name v from
  each (key.Member role member grantor) v from = member_sound texts cat rows well role member grantor v from
  each (key.Schema name) v from = schema_sound texts cat rows well name v from
  each (key.UserType q) v from = type_sound texts cat rows well reads q v from
  each (key.Rel q) v from = relation_sound texts cat rows well reads q v from
  each (key.Owner o) v from = owners o v from
  each (key.Default q column) v from = default_sound texts cat rows well reads q column v from
  each (key.Con q name) v from = constraint_sound texts cat rows well reads q name v from
  each (key.Index q name) v from = index_sound texts cat rows well reads q name v from
  each (key.Rows q) v from = rows_sound texts cat rows well fit q v from
  each (key.SeqVal q) v from = sequence_value_sound texts cat rows well q v from
  each (key.OwnedBy q) v from = owning_sound texts cat rows well q v from
  each (key.Acl o) v from = grants o v from
  each (key.Comment o) v from = comment_sound texts cat rows well o v from
  each (key.Body q) v from = body_sound texts cat rows well reads q v from
  each (key.Database name) v from = database_sound texts cat rows well name v from

  pub loaded_sound : IsSound texts (catalogue_named cat rows)
  loaded_sound = record {
    each = λ k v is. each k v (origin cat rows k v is);
    beside = loaded_beside cat rows well;
  }
