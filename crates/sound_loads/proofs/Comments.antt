-- Comments of a loaded catalogue are on objects that are there.
use Rattle.std.proofs.Common.{◌≡◌, ℕ, Bool, true, false, cond, not, [], ◌∷◌, Option, Some, None, refl, ap, subst, ◌∙◌, inl}
use Rattle.std.proofs.lemmas.Bool.{and_parts}
use Rattle.std.specs.List.{AllByRecursion}
use Rattle.std.specs.Option.{option_map, option_and_then}
use Rattle.std.specs.Prelude.{◌==◌}
use Rattle.cat_rows.specs.declared.catalogue.Catalogue.{Catalogue}
use Rattle.cat_rows.specs.declared.constraints.ConstraintRow.{ConstraintRow}
use Rattle.cat_rows.specs.declared.notes.DescriptionRow.{DescriptionRow}
use Rattle.cat_rows.specs.declared.schemas.NamespaceRow.{NamespaceRow}
use Rattle.cat_rows.specs.declared.types.TypeRow.{TypeRow}
use Rattle.cat_model.specs.declared.key.Key.TheVariants as key
use Rattle.cat_model.specs.declared.object.Object.{Object}
use Rattle.cat_model.specs.declared.object.Object.TheVariants as object
use Rattle.cat_model.specs.declared.object.QName.{QName}
use Rattle.cat_model.specs.declared.stmt.Stmt.{Stmt}
use Rattle.cat_model.specs.declared.stmt.Stmt.TheVariants as stmt
use Rattle.cat_model.specs.declared.value.Value.{Value}
use Rattle.cat_model.specs.KeyEffects.{key_value, foreign_value}
use Rattle.cat_model.specs.RelationEffects.{check_value}
use Rattle.cat_model.specs.declared.constraint.ConstraintKind.TheVariants as kinds
use Rattle.cat_model.specs.Values.{Bytes}
use Rattle.cat_names.specs.declared.relations.RelationKind.{RelationKind}
use Rattle.cat_names.specs.declared.relations.RelationKind.TheVariants.{Table, View, Sequence, Index, Other}
use Rattle.cat_names.specs.Kinds.{kind_of, is_table, is_view}
use Rattle.cat_names.specs.Lookups.{same_oid, is_role}
use Rattle.cat_book.specs.Chains.{type_of}
use Rattle.cat_book.specs.Leads.{has_columns, has_number}
use Rattle.cat_book.specs.Paths.{schema_of, type_path, path_of, class_path_of}
use Rattle.plain_tables.specs.Comments.{is_whole, comment_class, is_commented_there, is_left_out, comment_left_out}
use Rattle.constraint_table.specs.declared.constraint_text.ConstraintText.{ConstraintText}
use Rattle.constraint_table.specs.Said.{statement_said, said_by}
use Rattle.well_formed.specs.Formed.{IsWellFormed}
use Rattle.cat_lookups.specs.Found.{column_name, constraint_of}
use Rattle.cat_naming.specs.Comments.{commented_object, relation_object, constraint_object}
use Rattle.cat_naming.specs.Constraints.{constraint_value, constraint_entries}
use Rattle.cat_naming.specs.Entries.{catalogue_named}
use Rattle.cat_naming.specs.Relations.{RowsByOid}
use Rattle.cat_sound.specs.Texts.{Texts}
use Rattle.cat_sound.specs.Asks.{comment_asks}
use Rattle.cat_sound.specs.Itself.{has_comment}
use Rattle.cat_sound.specs.Sound.{IsMet, IsSoundAt}
use Rattle.sound_rows.specs.Rows.{IsAmong}
use Rattle.sound_rows.proofs.Among.{each_in, find_found, in_flat}
use Rattle.sound_rows.proofs.Roles.{role_is_named}
use Rattle.sound_loads.specs.Origins.{Origin}
use Rattle.sound_loads.proofs.Classes.{not_false, at_path, relation_there}
use Rattle.sound_loads.proofs.Columns.{column_numbered}
use Rattle.sound_loads.proofs.Entries.{path_in, value_in}
use Rattle.sound_loads.proofs.Keys.{constraint_says}
use Rattle.sound_loads.proofs.Standing.{there, is_met, of_constraints, schema_there}
use Rattle.sound_loads.proofs.Tables.{column_met, one_column}
use Rattle.sound_loads.proofs.Types.{type_found, type_is_there}

-- what a statement says of a constraint has a value
pub valued : (s : Stmt) (t : ConstraintText) → said_by s ≡ Some t → (v : Value) × (constraint_value s ≡ Some v)
valued (stmt.AddPrimary q name columns rest) t e = (key_value kinds.Primary columns rest, refl)
valued (stmt.AddUnique q name columns rest) t e = (key_value kinds.Unique columns rest, refl)
valued (stmt.AddForeign q name columns parent parents rest) t e = (foreign_value columns parent parents rest, refl)
valued (stmt.AddCheck q name text) t e = (check_value text, refl)
valued _ t e = absurd cc

-- a relation with columns that is no view is a table
pub tabled : (o : Option RelationKind) → has_columns o ≡ true → is_view o ≡ false → is_table o ≡ true
tabled None e f = absurd cc
tabled (Some Table) e f = refl
tabled (Some View) e f = absurd cc
tabled (Some Sequence) e f = absurd cc
tabled (Some Index) e f = absurd cc
tabled (Some (Other letter)) e f = absurd cc

module _ (texts : Texts) (cat : Catalogue) (rows : RowsByOid) (well : IsWellFormed cat) where
  -- what a comment's object asks for is there, and the object may have one
  record IsCommented (o : Object) : Type 0 where
    may : has_comment o ≡ true
    asked : AllByRecursion (IsMet (catalogue_named cat rows)) (comment_asks o)

  of_schema : (oid : ℕ) (s : NamespaceRow) → schema_of cat.pg_namespace oid ≡ Some s → IsCommented (object.Schema s.nspname)
  of_schema oid s is =
      let among = (find_found (λ (r : NamespaceRow). same_oid oid r.oid) cat.pg_namespace s is).0 in
      let owner = role_is_named cat.pg_authid s.nspowner (not_false _ (each_in (λ (r : NamespaceRow). not (is_role cat.pg_authid r.nspowner) ≡ false) cat.pg_namespace well.schemas.there s among)) in
      record { may = refl; asked = (is_met cat rows (key.Schema s.nspname) (schema_there cat rows s among owner.0 owner.1), tt) }

  of_type : (oid : ℕ) (q : QName) → path_of cat oid ≡ Some q → IsCommented (object.Type q)
  of_type oid q e = by (type_of cat.pg_type oid) refl e
    where
      by : (o : Option TypeRow) → type_of cat.pg_type oid ≡ o → option_and_then (type_path cat.pg_namespace) o ≡ Some q → IsCommented (object.Type q)
      by None is h = absurd cc
      by (Some t) is h = record { may = refl; asked = (is_met cat rows (key.UserType q) (type_is_there cat well rows t (type_found cat oid t is).among q h), tt) }

  of_relation : (oid : ℕ) (q : QName) → class_path_of cat oid ≡ Some q → IsCommented (object.Relation q)
  of_relation oid q e = let at = at_path cat oid q e in record { may = refl; asked = (is_met cat rows (key.Rel q) (relation_there cat well rows at.class.row at.class.among q at.path), tt) }

  of_constraint : (c : ConstraintRow) → IsAmong c cat.pg_constraint → (q : QName) → class_path_of cat c.conrelid ≡ Some q → IsCommented (object.Constraint q c.conname)
  of_constraint c among q path =
      let says = constraint_says cat well c among in
      let v = valued says.statement says.text says.said in
      let held = ap (option_and_then constraint_value) says.stated ∙ v.1 in
      record {
        may = refl;
        asked = (
          is_met cat rows (key.Con q c.conname) (there cat rows (key.Con q c.conname) v.0 (of_constraints cat rows _ (in_flat (constraint_entries cat) cat.pg_constraint c _ among
              (path_in _ (class_path_of cat c.conrelid) _ q path (value_in _ (option_and_then constraint_value (statement_said c.condef)) _ v.0 held (inl refl)))))),
          tt,
        );
      }

  module _ (d : DescriptionRow) (among : IsAmong d cat.pg_description) where
    found : is_commented_there cat (comment_class d.classoid) d ≡ true
    found = not_false _ (each_in (λ (r : DescriptionRow). not (is_commented_there cat (comment_class r.classoid) r) ≡ false) cat.pg_description well.comments.there d among)

    kept : is_left_out cat (comment_class d.classoid) d ≡ false
    kept = by (is_left_out cat (comment_class d.classoid) d) (each_in (λ (r : DescriptionRow). comment_left_out (is_left_out cat (comment_class r.classoid) r) ≡ None) cat.pg_description well.comments.inside d among)
      where
        by : (b : Bool) → comment_left_out b ≡ None → b ≡ false
        by true h = absurd cc
        by false h = refl

    -- the comment is on a relation or a column
    record IsRelationClass : Type 0 where
      schema : (d.classoid == 2615) ≡ false
      type : (d.classoid == 1247) ≡ false
      relation : (d.classoid == 1259) ≡ true

    -- a column is one of a table
    of_column : IsRelationClass → is_whole d.objsubid ≡ false → (q : QName) → class_path_of cat d.objoid ≡ Some q → (column : Bytes) → column_name cat d.objoid d.objsubid ≡ Some column → IsCommented (object.Column q column)
    of_column of part q path column named =
        let both = and_parts (has_columns (kind_of cat.pg_class d.objoid)) (has_number cat d.objoid d.objsubid) (rw (of.schema, of.type, of.relation, part) at found) in
        let no_view : is_view (kind_of cat.pg_class d.objoid) ≡ false = rw (of.schema, of.type, of.relation, part) at kept in
        record {
          may = refl;
          asked = (column_met texts cat rows well d.objoid (tabled (kind_of cat.pg_class d.objoid) both.0 no_view) q path (column ∷ []) (one_column texts cat rows well d.objoid column (column_numbered cat well d.objoid d.objsubid column named)), tt);
        }

    as_relation : IsRelationClass → (q : QName) → class_path_of cat d.objoid ≡ Some q → (o : Object) → relation_object cat d q ≡ Some o → IsCommented o
    as_relation of q path o e = by (is_whole d.objsubid) refl e
      where
        column : is_whole d.objsubid ≡ false → (n : Option Bytes) → column_name cat d.objoid d.objsubid ≡ n → option_map (λ column. object.Column q column) n ≡ Some o → IsCommented o
        column part None named h = absurd cc
        column part (Some name) named h = let same : object.Column q name ≡ o = cc in subst IsCommented same (of_column of part q path name named)

        by : (b : Bool) → is_whole d.objsubid ≡ b → cond {A = Option Object} b (Some (object.Relation q)) (option_map (λ column. object.Column q column) (column_name cat d.objoid d.objsubid)) ≡ Some o → IsCommented o
        by true whole h = let same : object.Relation q ≡ o = cc in subst IsCommented same (of_relation d.objoid q path)
        by false part h = column part (column_name cat d.objoid d.objsubid) refl h

    as_schema : (o : Object) (s : Option NamespaceRow) → schema_of cat.pg_namespace d.objoid ≡ s → option_map (λ s. object.Schema s.nspname) s ≡ Some o → IsCommented o
    as_schema o None is h = absurd cc
    as_schema o (Some s) is h = let same : object.Schema s.nspname ≡ o = cc in subst IsCommented same (of_schema d.objoid s is)

    as_type : (o : Object) (p : Option QName) → path_of cat d.objoid ≡ p → option_map object.Type p ≡ Some o → IsCommented o
    as_type o None is h = absurd cc
    as_type o (Some q) is h = let same : object.Type q ≡ o = cc in subst IsCommented same (of_type d.objoid q is)

    of_path : IsRelationClass → (o : Object) (p : Option QName) → class_path_of cat d.objoid ≡ p → option_and_then (relation_object cat d) p ≡ Some o → IsCommented o
    of_path of o None is h = absurd cc
    of_path of o (Some q) is h = as_relation of q is o h

    as_constraint : (o : Object) (c : Option ConstraintRow) → constraint_of cat d.objoid ≡ c → option_and_then (constraint_object cat) c ≡ Some o → IsCommented o
    as_constraint o None is h = absurd cc
    as_constraint o (Some c) is h = by (class_path_of cat c.conrelid) refl h
      where
        by : (p : Option QName) → class_path_of cat c.conrelid ≡ p → option_map (λ table. object.Constraint table c.conname) p ≡ Some o → IsCommented o
        by None path e = absurd cc
        by (Some q) path e = let same : object.Constraint q c.conname ≡ o = cc in subst IsCommented same (of_constraint c (find_found (λ (r : ConstraintRow). same_oid d.objoid r.oid) cat.pg_constraint c is).0 q path)

    commented : (o : Object) → commented_object cat d ≡ Some o → IsCommented o
    commented o e = by (d.classoid == 2615) (d.classoid == 1247) (d.classoid == 1259) (d.classoid == 2606) refl refl refl e
      where
        by : (a b c x : Bool) → (d.classoid == 2615) ≡ a → (d.classoid == 1247) ≡ b → (d.classoid == 1259) ≡ c
            → cond {A = Option Object} a (option_map (λ s. object.Schema s.nspname) (schema_of cat.pg_namespace d.objoid))
            (cond {A = Option Object} b (option_map object.Type (path_of cat d.objoid))
            (cond {A = Option Object} c (option_and_then (relation_object cat d) (class_path_of cat d.objoid))
            (cond {A = Option Object} x (option_and_then (constraint_object cat) (constraint_of cat d.objoid)) None))) ≡ Some o → IsCommented o
        by true b c x ea eb ec h = as_schema o (schema_of cat.pg_namespace d.objoid) refl h
        by false true c x ea eb ec h = as_type o (path_of cat d.objoid) refl h
        by false false true x ea eb ec h = of_path (record { schema = ea; type = eb; relation = ec }) o (class_path_of cat d.objoid) refl h
        by false false false true ea eb ec h = as_constraint o (constraint_of cat d.objoid) refl h
        by false false false false ea eb ec h = absurd cc

  pub comment_sound : (o : Object) (v : Value) → Origin cat rows (key.Comment o) v → IsSoundAt texts (catalogue_named cat rows) (key.Comment o) v
  comment_sound o v from = let is = commented from.row from.among o from.object in subst (IsSoundAt texts (catalogue_named cat rows) (key.Comment o)) from.is (record { own = is.may; others = is.asked })
