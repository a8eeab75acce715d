-- The tables and rows of tables that are made of a catalogue's entries stand for it.
use Rattle.std.proofs.Common.{◌≡◌, ℕ, Bool, true, List, Option, Some, None, unwrap_or, refl, sym, ap, subst, ◌∙◌, arith}
use Rattle.std.specs.FinMap.{empty, get, entries}
use Rattle.std.specs.List.{All, AllByRecursion, filter}
use Rattle.std.specs.Result.{is_ok}
use Rattle.data_rows.specs.Rows.{rows_of}
use Rattle.cat_rows.specs.declared.catalogue.Catalogue.{Catalogue}
use Rattle.cat_rows.specs.declared.relations.AttributeRow.{AttributeRow}
use Rattle.cat_model.specs.declared.key.Key.{Key}
use Rattle.cat_model.specs.declared.key.Key.TheVariants as key
use Rattle.cat_model.specs.declared.value.Value.{Value}
use Rattle.cat_model.specs.declared.value.Value.TheVariants as value
use Rattle.cat_model.specs.KeyLaws.{key_cmp_total, key_cmp-IsAntisymmetric}
use Rattle.cat_model.specs.Values.{Bytes, Named}
use Rattle.cat_names.specs.DataSets.{TextsByOid}
use Rattle.cat_names.specs.Kinds.{is_table, kind_of}
use Rattle.cat_names.specs.Lookups.{boot_oid}
use Rattle.cat_names.specs.Naming.{Entry}
use Rattle.cat_naming.specs.Entries.{catalogue_named}
use Rattle.cat_naming.specs.Texts.{rows_by_oid}
use Rattle.cat_sound.specs.Itself.{Itself}
use Rattle.cat_sound.specs.Sound.{IsSound}
use Rattle.cat_sound.proofs.Lists.{IsIn, of_each}
use Rattle.cat_sound.proofs.Maps.{of_entry}
use Rattle.column_numbers.specs.Numbers.{NumbersOf, number_of}
use Rattle.column_numbers.specs.Rule.{with_entries}
use Rattle.column_numbers.proofs.Rises.{rise}
use Rattle.entry_ids.specs.Entries.{HaveIds, slots_of}
use Rattle.entry_ids.specs.Ids.{of_keys}
use Rattle.entry_ids.proofs.Having.{are_oids, are_check_oids, are_label_oids}
use Rattle.map_export.proofs.Cluster as cluster
use Rattle.entry_ids.specs.Oids.{AreNumbers, AreCheckOids, AreLabelOids}
use Rattle.entry_ids.specs.Relations.{IsColumn, IsColumnRow}
use Rattle.entry_ids.specs.Standing.{AllStandFor}
use Rattle.entry_ids.specs.Views.{AreKept}
use Rattle.entry_ids.proofs.Formed.{all_formed}
use Rattle.entry_ids.proofs.Lookups.{AreLedTo, kind_found}
use Rattle.entry_ids.proofs.Whole.{whole_named}
use Rattle.named_tables.specs.Cluster.{StandsFor}
use Rattle.named_tables.specs.Oids.{AreOids, IsStarted}
use Rattle.named_tables.specs.Standing.{AreRowsOf}
use Rattle.object_loops.proofs.Listing.{place_of}
use Rattle.object_loops.proofs.Notes as notes
use Rattle.object_loops.proofs.Related.{related}
use Rattle.object_loops.proofs.Standing as parts
use Rattle.object_ids.specs.Ids.{IdsOf, AreApart, KeepIds}
use Rattle.object_ids.specs.Slots.{object}
use Rattle.object_loops.specs.Oids.{with_numbers}
use Rattle.object_loops.specs.Owning.{IsOwned, AreOwned}
use Rattle.relation_loops.proofs.Wholes as wholes
use Rattle.sound_texts.specs.Grammar.{grammar}
use Rattle.table_rows.specs.Tables.{table_oids, column_count}
use Rattle.table_rows.specs.Values.{text_of, values_fault}
use Rattle.well_formed.specs.Formed.{IsWellFormed}
use Rattle.whole_export.specs.Data.{with_all_rows, IsHeld}
use Rattle.whole_export.specs.Made.{other_columns, AreMade, Stands}
use Rattle.whole_export.proofs.Columns.{first_alone, others_alone, are_numbers}
use Rattle.whole_export.proofs.RowTexts.{AreRead, all_hold}
use Rattle.whole_export.proofs.Texts.{rows_there, text_there, held_there}

module _ (named : Named) (sound : IsSound grammar named) where
  all_itself : AllByRecursion (λ (e : Entry). Itself grammar e.0 e.1) (entries named)
  all_itself = of_each (λ (e : Entry). Itself grammar e.0 e.1) (entries named) (λ e among. (sound.each e.0 e.1 (of_entry key_cmp_total key_cmp-IsAntisymmetric named e.0 e.1 among)).own)

  are_owned : AreOwned named
  are_owned q = by (get named (key.OwnedBy q)) refl
    where
      by : (o : Option Value) → get named (key.OwnedBy q) ≡ o → IsOwned o
      by None at = tt
      by (Some v) at = (sound.each (key.OwnedBy q) v at).own

  module _ (ids : IdsOf) (numbers : NumbersOf) (own : AreOids named (of_keys ids)) (up : AreNumbers named (number_of numbers)) (checks : AreCheckOids named (with_numbers ids numbers)) (labels : AreLabelOids named (with_numbers ids numbers))
      (current : Bytes) (opening cat : Catalogue) (made : AreMade named (with_numbers ids numbers) current opening (entries named) cat) where
    in_cluster : StandsFor named (of_keys ids) current cat
    in_cluster = record {
      roles = cluster.roles_stand named (of_keys ids) own cat.pg_authid made.cluster.roles;
      members = cluster.members_stand named (of_keys ids) own cat.pg_auth_members made.cluster.members;
      databases = cluster.databases_stand named (of_keys ids) own current cat.pg_database made.cluster.databases;
      schemas = cluster.schemas_stand named (of_keys ids) own cat.pg_namespace made.cluster.schemas;
    }

    led : AreLedTo named (of_keys ids) cat
    led = record {
      roles = in_cluster.roles;
      schemas = in_cluster.schemas;
      relations = wholes.relations_stand grammar named sound (of_keys ids) own cat.pg_class (made.objects all_itself).relations;
      types = wholes.types_stand grammar named sound (of_keys ids) own cat.pg_type (made.objects all_itself).types;
    }

    columns : AreRowsOf (IsColumn named) (IsColumnRow (with_numbers ids numbers)) made.columns
    columns = parts.columns_stand named (with_numbers ids numbers) own up made.columns (made.objects all_itself).columns

    abbrev of_table : AttributeRow → Bool
    of_table a = is_table (kind_of cat.pg_class a.attrelid)

    each_of_table : (row : AttributeRow) → IsIn row made.columns → of_table row ≡ true
    each_of_table row among =
        let it = columns.only row (place_of made.columns row among) in
        ap (λ (n : ℕ). is_table (kind_of cat.pg_class n)) it.2.relation
        ∙ ap is_table (kind_found grammar named sound (of_keys ids) own cat led it.0.table (value.Table it.0.columns) it.1.there)

    alone : filter of_table cat.pg_attribute ≡ made.columns
    alone = ap (filter of_table) made.attributes ∙ first_alone of_table made.columns opening.pg_attribute each_of_table

    all_stand : (texts : TextsByOid) → texts ≡ with_all_rows ids (entries named) empty → AllByRecursion IsHeld (entries named) → AllStandFor named (with_numbers ids numbers) current opening.pg_depend cat (rows_by_oid texts)
    all_stand texts are all_held =
        let said = made.parts all_itself are_owned in
        let oids = with_numbers ids numbers in
        record {
          cluster = in_cluster;
          types = led.types;
          labels = parts.labels_stand named oids labels cat.pg_enum (made.objects all_itself).labels;
          relations = led.relations;
          columns = subst (AreRowsOf (IsColumn named) (IsColumnRow oids)) (sym alone) columns;
          defaults = parts.defaults_stand named oids own cat.pg_attrdef said.defaults;
          constraints = parts.constraints_stand named oids own checks cat.pg_constraint said.constraints;
          indexes = parts.indexes_stand named (of_keys ids) own (related grammar named sound) cat.pg_index said.indexes;
          sequences = parts.sequences_stand named oids own cat.pg_sequence said.sequences;
          bodies = parts.bodies_stand named (of_keys ids) own cat.pg_rewrite said.bodies;
          comments = notes.comments_stand grammar named sound oids own up cat.pg_description said.comments;
          dependencies = made.dependencies;
          rows_held = λ q held there. ap (λ (t : TextsByOid). rows_by_oid t (of_keys ids (key.Rel q))) are ∙ rows_there grammar named sound ids own all_held q held there;
        }

    stand : (texts : TextsByOid) → texts ≡ with_all_rows ids (entries named) empty → AllByRecursion IsHeld (entries named) → Stands named ids numbers current opening cat (rows_by_oid texts)
    stand texts are all_held = record {
      oids = own;
      rising = up;
      checks = checks;
      labels = labels;
      all = all_stand texts are all_held;
      others = ap (other_columns cat.pg_class) made.attributes ∙ others_alone of_table made.columns opening.pg_attribute each_of_table;
    }

pub export_stands : (named : Named) (ids : IdsOf) (had : NumbersOf) (current : Bytes) (opening cat : Catalogue) (texts : TextsByOid) (es : List Entry) (numbers : NumbersOf) → es ≡ entries named → HaveIds ids (slots_of (entries named)) → AreApart ids → numbers ≡ with_entries had es empty → AreMade named (with_numbers ids numbers) current opening es cat → texts ≡ with_all_rows ids es empty → AllByRecursion IsHeld es → IsSound grammar named → Stands named ids (with_entries had (entries named) empty) current opening cat (rows_by_oid texts)
export_stands named ids had current opening cat texts es numbers is_es have apart is_numbers made is_texts all_held sound =
    let all : NumbersOf = with_entries had (entries named) empty in
    let numbered : numbers ≡ all = is_numbers ∙ ap (λ (xs : List Entry). with_entries had xs empty) is_es in
    let of_all : AreMade named (with_numbers ids all) current opening (entries named) cat =
    subst (λ (n : NumbersOf). AreMade named (with_numbers ids n) current opening (entries named) cat) numbered (subst (λ (xs : List Entry). AreMade named (with_numbers ids numbers) current opening xs cat) is_es made) in
    stand named sound ids all
    (are_oids named ids apart have)
    (are_numbers named all (rise had named (λ q columns there. (sound.each (key.Rel q) (value.Table columns) there).own.names)))
    (are_check_oids named ids apart have (number_of all))
    (are_label_oids named ids apart have (number_of all))
    current opening cat of_all texts (is_texts ∙ ap (λ (xs : List Entry). with_all_rows ids xs empty) is_es) (subst (AllByRecursion IsHeld) is_es all_held)

-- the texts of its tables hold rows of them
pub export_values : AreRead → ((cat : Catalogue) (rows : TextsByOid) → All (λ oid. is_ok (rows_of (column_count cat oid) (text_of rows oid)) ≡ true) (table_oids cat) → values_fault cat rows ≡ None) → (named : Named) (ids : IdsOf) (numbers : NumbersOf) (current : Bytes) (opening cat : Catalogue) (texts : TextsByOid) (es : List Entry) → es ≡ entries named → texts ≡ with_all_rows ids es empty → AllByRecursion IsHeld es → IsSound grammar named → Stands named ids numbers current opening cat (rows_by_oid texts) → values_fault cat texts ≡ None
export_values read good named ids numbers current opening cat texts es is_es is_texts all_held sound stands =
    let are : texts ≡ with_all_rows ids (entries named) empty = is_texts ∙ ap (λ (xs : List Entry). with_all_rows ids xs empty) is_es in
    let held : AllByRecursion IsHeld (entries named) = subst (AllByRecursion IsHeld) is_es all_held in
    good cat texts
    (all_hold read grammar named sound (with_numbers ids numbers) stands.oids stands.rising current opening.pg_depend cat (rows_by_oid texts) stands.all texts
    (λ q rows there. (ap (λ (t : TextsByOid). get t (of_keys ids (key.Rel q))) are ∙ text_there grammar named sound ids stands.oids q rows there, held_there grammar named sound ids stands.oids held q rows there)))

-- the boot role keeps its oid
kept_oid : (old new : IdsOf) → KeepIds old new → (k : Key) → of_keys old k ≡ boot_oid → of_keys new k ≡ boot_oid
kept_oid old new keeps k is = by (get old.ids (object k)) refl
  where
    by : (o : Option ℕ) → get old.ids (object k) ≡ o → of_keys new k ≡ boot_oid
    by (Some n) at = ap (λ (o : Option ℕ). unwrap_or o 0) (keeps (object k) n at ∙ sym at) ∙ is
    by None at = absurd (not_boot (sym (ap (λ (o : Option ℕ). unwrap_or o 0) at) ∙ is))
      where
        not_boot : ◌≡◌ {A = ℕ} 0 boot_oid → ⊥
        not_boot same = omega arith

pub started : (named : Named) (old new : IdsOf) (current : Bytes) → KeepIds old new → IsStarted named (of_keys old) current → IsStarted named (of_keys new) current
started named old new current keeps is = record {
  boot = is.boot;
  role = is.role;
  boot_there = is.boot_there;
  boot_oid = kept_oid old new keeps (key.Role is.boot) is.boot_oid;
  current_there = is.current_there;
}

module _ (named : Named) (ids : IdsOf) (numbers : NumbersOf) (current : Bytes) (opening cat : Catalogue) (texts : TextsByOid) (sound : IsSound grammar named) (stands : Stands named ids numbers current opening cat (rows_by_oid texts)) where
  pub is_named : catalogue_named cat (rows_by_oid texts) ≡ named
  is_named = whole_named grammar named sound (with_numbers ids numbers) stands.oids stands.rising stands.checks current opening.pg_depend cat (rows_by_oid texts) stands.all

  pub is_formed : (old : IdsOf) → KeepIds old ids → IsStarted named (of_keys old) current → AreKept cat → IsWellFormed cat
  is_formed old keeps is kept = all_formed grammar named (with_numbers ids numbers) current opening.pg_depend cat (rows_by_oid texts) sound stands.oids (started named old ids current keeps is) stands.rising stands.checks stands.labels kept stands.all
