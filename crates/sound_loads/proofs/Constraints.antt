-- Constraints and indexes of a loaded catalogue are in order, and so are comments.
use Rattle.std.proofs.Common.{◌≡◌, ℕ, Bool, true, false, cond, not, ◌||◌, List, [], ◌∷◌, length, Option, Some, None, refl, sym, ap, subst, ◌∙◌}
use Rattle.std.proofs.lemmas.Bool.{and_parts, and_from}
use Rattle.std.specs.List.{AllByRecursion, list_all}
use Rattle.std.specs.Option.{option_and_then}
use Rattle.std.specs.Prelude.{◌==◌}
use Rattle.cat_rows.specs.declared.catalogue.Catalogue.{Catalogue}
use Rattle.cat_rows.specs.declared.constraints.ConstraintRow.{ConstraintRow}
use Rattle.cat_rows.specs.declared.relations.ClassRow.{ClassRow}
use Rattle.cat_rows.specs.declared.relations.IndexRow.{IndexRow}
use Rattle.cat_model.specs.declared.constraint.ConstraintKind.TheVariants as kinds
use Rattle.cat_model.specs.declared.key.Key.TheVariants as key
use Rattle.cat_model.specs.declared.object.QName.{QName}
use Rattle.cat_model.specs.declared.stmt.Stmt.{Stmt}
use Rattle.cat_model.specs.declared.stmt.Stmt.TheVariants as stmt
use Rattle.cat_model.specs.declared.value.Index.{Index as IndexValue}
use Rattle.cat_model.specs.declared.value.Value.{Value}
use Rattle.cat_model.specs.IndexColumns.{plain_columns}
use Rattle.cat_model.specs.KeyEffects.{index_path, key_value, foreign_value}
use Rattle.cat_model.specs.References.{expression_references}
use Rattle.cat_model.specs.RelationEffects.{check_value}
use Rattle.cat_model.specs.Tables.{column_there, distinct, columns_there}
use Rattle.cat_model.specs.Trees.{unique_on}
use Rattle.cat_model.specs.Values.{Bytes}
use Rattle.cat_names.specs.declared.relations.RelationKind.TheVariants.{Index}
use Rattle.cat_names.specs.Kinds.{relation_kind, kind_of, is_table, is_index}
use Rattle.cat_names.specs.Lookups.{is_no_oid}
use Rattle.cat_book.specs.Leads.{is_key, has_column, is_primary}
use Rattle.cat_book.specs.Paths.{class_path_of}
use Rattle.cat_book.specs.Rules.{is_nothing}
use Rattle.row_texts.specs.declared.index_text.IndexText.{IndexText}
use Rattle.text_tables.specs.Agreeing.{is_path, are_met}
use Rattle.text_tables.specs.Indexes as indexes
use Rattle.constraint_table.specs.declared.constraint_text.ConstraintText.{ConstraintText}
use Rattle.constraint_table.specs.declared.constraint_text.ConstraintText.TheVariants.{Primary, Unique, Foreign, Check}
use Rattle.constraint_table.specs.Keys.{has_key_on}
use Rattle.constraint_table.specs.Said.{statement_said, said_by}
use Rattle.constraint_table.specs.Table as constraints
use Rattle.well_formed.specs.Formed.{IsWellFormed}
use Rattle.cat_lookups.specs.Found.{table_of_index}
use Rattle.cat_naming.specs.Constraints.{constraint_value}
use Rattle.cat_naming.specs.Entries.{catalogue_named}
use Rattle.cat_naming.specs.Relations.{RowsByOid, columns_of}
use Rattle.cat_sound.specs.Texts.{Texts}
use Rattle.cat_sound.specs.Asked.{Asked, Meets}
use Rattle.cat_sound.specs.Asks.{names_or_none}
use Rattle.cat_sound.specs.Sound.{IsMet, IsSoundAt}
use Rattle.cat_sound.proofs.Asking.{expression_named}
use Rattle.sound_rows.specs.Rows.{IsAmong}
use Rattle.sound_rows.proofs.Among.{each_in}
use Rattle.sound_loads.specs.Origins.{Origin, IsRelation}
use Rattle.sound_loads.specs.Reads.{Reads}
use Rattle.sound_loads.proofs.Classes.{not_false, IsAtPath, at_path, of_kind, index_kind, relation_at, RelationAt, relation_there, constraint_there}
use Rattle.sound_loads.proofs.Columns.{column_named}
use Rattle.sound_loads.proofs.Keys.{path_is, index_says, constraint_says, key_says, table_of_own, table_of_own_key}
use Rattle.sound_loads.proofs.Needed.{references_there}
use Rattle.sound_loads.proofs.Standing.{met}
use Rattle.sound_loads.proofs.Tables.{column_met}

module _ (texts : Texts) (cat : Catalogue) (rows : RowsByOid) (well : IsWellFormed cat) where
  -- ---- tables and their columns

  -- where an oid leads to a relation it isn't 0
  some_oid : (oid : ℕ) (q : QName) → class_path_of cat oid ≡ Some q → is_no_oid oid ≡ false
  some_oid oid q path =
      let at = at_path cat oid q path in
      ap is_no_oid at.class.same ∙ each_in (λ (r : ClassRow). is_nothing (Some r.oid) ≡ false) cat.pg_class well.relations.objects at.class.row at.class.among

  -- so the relation of a constraint is a table
  pub constraint_table : (c : ConstraintRow) → IsAmong c cat.pg_constraint → (q : QName) → class_path_of cat c.conrelid ≡ Some q → is_table (kind_of cat.pg_class c.conrelid) ≡ true
  constraint_table c among q path = by (is_no_oid c.conrelid) (some_oid c.conrelid q path) (and_parts (constraints.is_table_or_none cat c.conrelid) _ (constraint_there cat well c among)).0
    where
      by : (b : Bool) → b ≡ false → (b || is_table (kind_of cat.pg_class c.conrelid)) ≡ true → is_table (kind_of cat.pg_class c.conrelid) ≡ true
      by true e h = absurd cc
      by false e h = h

  all_columns : (oid : ℕ) (names : List Bytes) → list_all (has_column cat oid) names ≡ true → list_all (column_there (columns_of cat oid)) names ≡ true
  all_columns oid [] e = refl
  all_columns oid (n ∷ ns) e =
      let both = and_parts (has_column cat oid n) (list_all (has_column cat oid) ns) e in
      and_from (column_there (columns_of cat oid) n) (list_all (column_there (columns_of cat oid)) ns) (column_named cat well oid n both.0) (all_columns oid ns both.1)

  pub columns_met : (oid : ℕ) (names : List Bytes) → indexes.are_columns cat oid (Some names) ≡ true → columns_there (columns_of cat oid) names ≡ true
  columns_met oid names e =
      let both = and_parts (list_all (has_column cat oid) names) (distinct names) e in
      and_from (list_all (column_there (columns_of cat oid)) names) (distinct names) (all_columns oid names both.0) both.1

  -- ---- indexes

  -- the relation of an index of this table
  pub index_met : (oid : ℕ) → is_index (kind_of cat.pg_class oid) ≡ true → (p : QName) → class_path_of cat oid ≡ Some p → (table : ℕ) → table_of_index cat oid ≡ Some table → (q : QName) → class_path_of cat table ≡ Some q → IsMet (catalogue_named cat rows) (key.Rel p, Asked.index_on q)
  index_met oid e p path table of q at =
      met cat rows (key.Rel p) (Asked.index_on q) (relation_there cat well rows c.class.row c.class.among p c.path) (λ v from.
      is_on v (subst (λ k. RelationAt cat well c.class.row k v) kind (relation_at cat well rows c.class.row c.class.among p c.path v from)))
    where
      c : IsAtPath cat oid p
      c = at_path cat oid p path

      kind : relation_kind (at_path cat oid p path).class.row.relkind ≡ Index
      kind =
          let one = of_kind cat is_index refl oid e in
          let same : c.class.row ≡ one.0.row = let both = sym c.class.found ∙ one.0.found in cc in
          ap (λ (r : ClassRow). relation_kind r.relkind) same ∙ index_kind (relation_kind one.0.row.relkind) one.1

      is_on : (v : Value) → IsRelation cat c.class.row Index v → Meets (Asked.index_on q) v
      is_on v is =
          let whole : option_and_then (class_path_of cat) (table_of_index cat c.class.row.oid) ≡ Some q = ap (λ (n : ℕ). option_and_then (class_path_of cat) (table_of_index cat n)) (sym c.class.same) ∙ ap (option_and_then (class_path_of cat)) of ∙ at in
          let same : is.0 ≡ q = let both = sym is.1 ∙ whole in cc in
          subst (Meets (Asked.index_on q)) is.2 same

  index_columns : (i : IndexRow) (text : IndexText) → indexes.has_its_columns cat i.indrelid text ≡ true → columns_there (columns_of cat i.indrelid) (names_or_none (unique_on (record { method = text.method; unique = text.unique; text = text.rest }))) ≡ true
  index_columns i text e = by text.unique e
    where
      plain : (o : Option (List Bytes)) → indexes.are_columns cat i.indrelid o ≡ true → columns_there (columns_of cat i.indrelid) (names_or_none o) ≡ true
      plain None h = refl
      plain (Some names) h = columns_met i.indrelid names h

      by : (b : Bool) → cond b (indexes.are_columns cat i.indrelid (plain_columns text.rest)) true ≡ true → columns_there (columns_of cat i.indrelid) (names_or_none (cond {A = Option (List Bytes)} b (plain_columns text.rest) None)) ≡ true
      by true h = plain (plain_columns text.rest) h
      by false h = refl

  module _ (reads : Reads texts) (q : QName) (name : Bytes) (v : Value) where
    pub index_sound : Origin cat rows (key.Index q name) v → IsSoundAt texts (catalogue_named cat rows) (key.Index q name) v
    index_sound from =
        let says = index_says cat well from.row from.among in
        let same : says.text ≡ from.text = let both = sym says.said ∙ from.said in cc in
        let table : class_path_of cat from.row.indrelid ≡ Some q = says.table ∙ ap (λ (t : IndexText). Some t.table) same ∙ ap (λ (p : QName). Some p) from.path in
        let path : class_path_of cat from.row.indexrelid ≡ Some (index_path q name) = says.path ∙ ap (λ (t : IndexText). Some (index_path t.table t.name)) same ∙ ap (λ (p : QName). Some (index_path p from.text.name)) from.path ∙ ap (λ (n : Bytes). Some (index_path q n)) from.same in
        let there = and_parts (is_index (kind_of cat.pg_class from.row.indexrelid)) (is_table (kind_of cat.pg_class from.row.indrelid)) (not_false _ (each_in (λ (r : IndexRow). not (indexes.is_there cat r) ≡ false) cat.pg_index well.indexes.there from.row from.among)) in
        let i : IndexValue = record { method = from.text.method; unique = from.text.unique; text = from.text.rest } in
        subst (IsSoundAt texts (catalogue_named cat rows) (key.Index q name)) from.is (record {
          own = ap (λ (p : QName). texts.index p name i) (sym from.path) ∙ ap (λ (n : Bytes). texts.index from.text.table n i) (sym from.same) ∙ reads.indexes from.row.indexdef from.text from.said;
          others = (
            column_met texts cat rows well from.row.indrelid there.1 q table (names_or_none (unique_on i)) (index_columns from.row from.text (ap (indexes.has_its_columns cat from.row.indrelid) (sym same) ∙ says.columns)),
            (index_met from.row.indexrelid there.0 (index_path q name) path from.row.indrelid (table_of_own cat well from.row from.among) q table, tt),
          );
        })

  -- ---- constraints

  module _ (reads : Reads texts) (c : ConstraintRow) (among : IsAmong c cat.pg_constraint) (q : QName) (path : class_path_of cat c.conrelid ≡ Some q) where
    abbrev IsGood : Value → Type 0
    IsGood v = IsSoundAt texts (catalogue_named cat rows) (key.Con q c.conname) v

    of_table : is_table (kind_of cat.pg_class c.conrelid) ≡ true
    of_table = constraint_table c among q path

    -- a key: its columns are there, and its index
    key_asks : is_key c ≡ true → (names : List Bytes) → constraints.is_good_key cat c names ≡ true → AllByRecursion (IsMet (catalogue_named cat rows)) ((key.Rel q, Asked.has_columns names) ∷ (key.Rel (index_path q c.conname), Asked.index_on q) ∷ [])
    key_asks key names e =
        let says = key_says cat well c names e in
        let same : says.table ≡ q = let both = sym says.at ∙ path in cc in
        let index = (and_parts (constraints.is_index_there cat c) _ (and_parts (constraints.is_domain_or_none cat c.contypid) _ (and_parts (constraints.is_table_or_none cat c.conrelid) _ (constraint_there cat well c among)).1).1).0 in (
          column_met texts cat rows well c.conrelid of_table q path names (columns_met c.conrelid names says.columns),
          (index_met c.conindid (by (is_key c) key index) (index_path q c.conname) (says.path ∙ ap (λ (p : QName). Some (index_path p c.conname)) same) c.conrelid (table_of_own_key cat well c among key) q path, tt),
        )
      where
        by : (b : Bool) → b ≡ true → cond b (is_index (kind_of cat.pg_class c.conindid)) (constraints.is_index_or_none cat c.conindid) ≡ true → is_index (kind_of cat.pg_class c.conindid) ≡ true
        by true e h = h
        by false e h = absurd cc

    primary_key : is_primary c ≡ true → is_key c ≡ true
    primary_key e = rw e refl

    unique_key : constraints.is_unique c ≡ true → is_key c ≡ true
    unique_key e = by (is_primary c) e
      where
        by : (b : Bool) → constraints.is_unique c ≡ true → (b || constraints.is_unique c) ≡ true
        by true h = refl
        by false h = h

    foreign_asks : (names : List Bytes) (parent : QName) (parents : List Bytes) → constraints.is_foreign c ≡ true → constraints.is_good_foreign cat c names parent parents ≡ true
        → AllByRecursion (IsMet (catalogue_named cat rows)) ((key.Rel q, Asked.has_columns names) ∷ (key.Rel parent, Asked.has_columns parents) ∷ []) × ((length names == length parents) ≡ true) × (has_key_on cat c.confrelid parents ≡ true) × (class_path_of cat c.confrelid ≡ Some parent)
    foreign_asks names parent parents foreign e =
        let a = and_parts (is_path (class_path_of cat c.confrelid) parent) _ e in
        let b = and_parts (indexes.are_columns cat c.conrelid (Some names)) _ a.1 in
        let d = and_parts (indexes.are_columns cat c.confrelid (Some parents)) _ b.1 in
        let f = and_parts (length names == length parents) (has_key_on cat c.confrelid parents) d.1 in
        let at = path_is (class_path_of cat c.confrelid) parent a.0 in
        let there = (and_parts (constraints.is_index_there cat c) (constraints.is_parent_there cat c) (and_parts (constraints.is_domain_or_none cat c.contypid) _ (and_parts (constraints.is_table_or_none cat c.conrelid) _ (constraint_there cat well c among)).1).1).1 in (
          (
            column_met texts cat rows well c.conrelid of_table q path names (columns_met c.conrelid names b.0),
            (column_met texts cat rows well c.confrelid (by (constraints.is_foreign c) foreign there) parent at parents (columns_met c.confrelid parents d.0), tt),
          ),
          f.0,
          f.1,
          at,
        )
      where
        by : (b : Bool) → b ≡ true → cond b (is_table (kind_of cat.pg_class c.confrelid)) (constraints.is_table_or_none cat c.confrelid) ≡ true → is_table (kind_of cat.pg_class c.confrelid) ≡ true
        by true e h = h
        by false e h = absurd cc

    by_statement : (s : Stmt) → statement_said c.condef ≡ Some s → (t : ConstraintText) → said_by s ≡ Some t → constraints.agrees cat c t ≡ true → (v : Value) → constraint_value s ≡ Some v → IsGood v
    by_statement (stmt.AddPrimary p name columns rest) stated t said agrees v is =
        let same : Primary columns ≡ t = cc in
        let good = and_parts (is_primary c) _ (ap (constraints.agrees cat c) same ∙ agrees) in
        let held : key_value kinds.Primary columns rest ≡ v = cc in
        subst IsGood held (record {
          own = record { text = reads.constraints c.condef (stmt.AddPrimary p name columns rest) _ stated refl; kind = refl };
          others = key_asks (primary_key good.0) columns (and_parts (constraints.is_good_key cat c columns) _ good.1).0;
        })
    by_statement (stmt.AddUnique p name columns rest) stated t said agrees v is =
        let same : Unique columns ≡ t = cc in
        let good = and_parts (constraints.is_unique c) (constraints.is_good_key cat c columns) (ap (constraints.agrees cat c) same ∙ agrees) in
        let held : key_value kinds.Unique columns rest ≡ v = cc in
        subst IsGood held (record {
          own = record { text = reads.constraints c.condef (stmt.AddUnique p name columns rest) _ stated refl; kind = refl };
          others = key_asks (unique_key good.0) columns good.1;
        })
    by_statement (stmt.AddForeign p name columns parent parents rest) stated t said agrees v is =
        let same : Foreign columns parent parents ≡ t = cc in
        let good = and_parts (constraints.is_foreign c) (constraints.is_good_foreign cat c columns parent parents) (ap (constraints.agrees cat c) same ∙ agrees) in
        let asks = foreign_asks columns parent parents good.0 good.1 in
        let held : foreign_value columns parent parents rest ≡ v = cc in
        subst IsGood held (record {
          own = record { text = reads.constraints c.condef (stmt.AddForeign p name columns parent parents rest) _ stated refl; kind = asks.1 };
          others = asks.0;
        })
    by_statement (stmt.AddCheck p name text) stated t said agrees v is =
        let same : Check text ≡ t = cc in
        let good = and_parts (constraints.is_check c) (are_met cat None text) (ap (constraints.agrees cat c) same ∙ agrees) in
        let held : check_value text ≡ v = cc in
        subst IsGood held (record {
          own = record { text = reads.constraints c.condef (stmt.AddCheck p name text) _ stated refl; kind = (refl, refl) };
          others = (column_met texts cat rows well c.conrelid of_table q path [] refl, references_there cat rows well None (expression_references text) (expression_named text) good.1);
        })
    by_statement _ stated t said agrees v is = absurd cc

  module _ (reads : Reads texts) (q : QName) (name : Bytes) (v : Value) where
    pub constraint_sound : Origin cat rows (key.Con q name) v → IsSoundAt texts (catalogue_named cat rows) (key.Con q name) v
    constraint_sound from =
        let says = constraint_says cat well from.row from.among in
        let held : constraint_value says.statement ≡ Some v = ap (option_and_then constraint_value) (sym says.stated) ∙ from.said in
        subst (λ (n : Bytes). IsSoundAt texts (catalogue_named cat rows) (key.Con q n) v) from.same (by_statement reads from.row from.among q from.path says.statement says.stated says.text says.said says.agrees v held)
