-- What is loaded is sound, and so is what a script leaves of it.
use Rattle.std.proofs.Common.{◌≡◌, ℕ, pos, List, [], ◌∷◌, map, Option, Some, None, Ok, refl, sym, ap, subst, ◌∙◌, inl, inr}
use Rattle.std.specs.List.{filter}
use Rattle.cat_rows.specs.declared.catalogue.Catalogue.{Catalogue}
use Rattle.cat_rows.specs.declared.relations.ClassRow.{ClassRow}
use Rattle.cat_model.specs.declared.cause.Cause.{Cause}
use Rattle.cat_model.specs.declared.key.Key.TheVariants as key
use Rattle.cat_model.specs.declared.value.Value.{Value}
use Rattle.cat_model.specs.declared.value.Value.TheVariants as value
use Rattle.cat_model.specs.Values.{Bytes, Named}
use Rattle.cat_names.specs.DataSets.{TextsByOid}
use Rattle.cat_names.specs.Naming.{boot}
use Rattle.cat_names.specs.declared.relations.RelationKind.TheVariants.{Table}
use Rattle.cat_names.specs.Kinds.{relation_kind, is_table}
use Rattle.well_formed.specs.Formed.{IsWellFormed}
use Rattle.well_formed.proofs.Formed.{well_formed}
use Rattle.table_rows.specs.Tables.{is_table_row, unsorted_oids, table_oids}
use Rattle.table_rows.specs.Values.{text_of}
use Rattle.cat_naming.specs.Entries.{catalogue_named}
use Rattle.cat_naming.specs.Relations.{columns_of}
use Rattle.cat_naming.specs.Texts.{rows_by_oid}
use Rattle.cat_load.specs.Loads.{table_cause, fault_of, path_fault, fault_at, or_later, first_fault, rows_fault}
use Rattle.cat_load.specs.declared.meeting.LoadFault.{LoadFault}
use Rattle.ddl_laws.specs.located.Located.{Located}
use Rattle.ddl_laws.specs.Reading.{statements_of}
use Rattle.ddl_laws.specs.Spellings.{said}
use Rattle.ddl_laws.proofs.Respelled.{read_is_writable}
use Rattle.model_laws.specs.Examples.{catalogue_after}
use Rattle.cat_sound.specs.Asked.{Asked}
use Rattle.cat_sound.specs.Sound.{IsMet, IsSound}
use Rattle.cat_sound.proofs.Lists.{IsIn}
use Rattle.cat_sound.proofs.Statements.{run-keeps}
use Rattle.sound_texts.specs.Grammar.{grammar}
use Rattle.sound_texts.proofs.Writable.{all_fit}
use Rattle.sound_rows.specs.Rows.{IsAmong}
use Rattle.sound_rows.proofs.Among.{in_place}
use Rattle.sound_loads.specs.InOrder.{AreFit}
use Rattle.sound_loads.proofs.Apart.{in_filter, in_sorted}
use Rattle.sound_loads.proofs.Classes.{RelationAt, own_path, path_of_class, relation_at, relation_there, entry_there}
use Rattle.sound_loads.proofs.Good.{grammar_reads}
use Rattle.sound_loads.proofs.Whole.{loaded_sound, boot_there}
use Rattle.sound_whole.specs.Loaded.{IsLoaded, loaded}
use Rattle.sound_whole.proofs.Copied.{met_fit}

-- ---- each table's rows are tried

first_none : (a b : Option LoadFault) → or_later a b ≡ None → (a ≡ None) × (b ≡ None)
first_none None b e = (refl, e)
first_none (Some fault) b e = absurd cc

each_none : (named : Named) (cat : Catalogue) (texts : TextsByOid) (tables : List ℕ) → first_fault named cat texts tables ≡ None → (table : ℕ) → IsIn table tables → fault_at named cat texts table ≡ None
each_none named cat texts [] e table among = elim among [ ]
each_none named cat texts (t ∷ tables) e table (inl same) = subst (λ (n : ℕ). fault_at named cat texts n ≡ None) same (first_none (fault_at named cat texts t) (first_fault named cat texts tables) e).0
each_none named cat texts (t ∷ tables) e table (inr later) = each_none named cat texts tables (first_none (fault_at named cat texts t) (first_fault named cat texts tables) e).1 table later

in_map : {A B : Type 0} (f : A → B) (xs : List A) (x : A) → IsIn x xs → IsIn (f x) (map f xs)
in_map f [] x among = elim among [ ]
in_map f (y ∷ ys) x (inl same) = inl (ap f same)
in_map f (y ∷ ys) x (inr later) = inr (in_map f ys x later)

table_among : (cat : Catalogue) (c : ClassRow) → IsAmong c cat.pg_class → relation_kind c.relkind ≡ Table → IsIn c.oid (table_oids cat)
unfolding table_oids is_table_row
table_among cat c among is =
    in_sorted (λ oid. pos oid) (unsorted_oids cat.pg_class) c.oid
    (in_map (λ (r : ClassRow). r.oid) (filter is_table_row cat.pg_class) c (in_filter is_table_row cat.pg_class c (in_place cat.pg_class c among) (ap (λ k. is_table (Some k)) is)))

no_cause : (table : ℕ) (because : Option Cause) → fault_of table because ≡ None → because ≡ None
no_cause table None e = refl
no_cause table (Some because) e = absurd cc

module _ (cat : Catalogue) (texts : TextsByOid) (is : IsLoaded cat texts) where
  well : IsWellFormed cat
  well = well_formed cat is.tables

  none_at : (c : ClassRow) → IsAmong c cat.pg_class → relation_kind c.relkind ≡ Table → fault_at (catalogue_named cat (rows_by_oid texts)) cat texts c.oid ≡ None
  unfolding rows_fault
  none_at c among table = each_none (catalogue_named cat (rows_by_oid texts)) cat texts (table_oids cat) is.rows c.oid (table_among cat c among table)

  pub rows_fit : AreFit cat (rows_by_oid texts)
  rows_fit c among table =
      let rows = rows_by_oid texts in
      let q = path_of_class cat well c among in
      let rel = relation_there cat well rows c among q.0 q.1 in
      let rel_is : value.Table (columns_of cat c.oid) ≡ rel.value = subst (λ k. RelationAt cat well c k rel.value) table (relation_at cat well rows c among q.0 q.1 rel.value rel.from) in
      let held = entry_there cat well rows c among q.0 q.1 Table table (key.Rows q.0, value.Rows (rows c.oid)) (inr (inl refl)) in
      let none : table_cause (catalogue_named cat rows) q.0 (text_of texts c.oid) ≡ None = no_cause c.oid _ (ap (path_fault (catalogue_named cat rows) c.oid (text_of texts c.oid)) (sym (own_path cat well c among q.0 q.1)) ∙ none_at c among table) in
      met_fit (catalogue_named cat rows) q.0 (text_of texts c.oid) (columns_of cat c.oid) (rows held.from.row.oid) (rel.is ∙ ap (λ (v : Value). Some v) (sym rel_is)) (held.is ∙ ap (λ (v : Value). Some v) (sym held.from.is.has)) none

  pub sound : IsSound grammar (loaded cat texts)
  sound = loaded_sound grammar grammar_reads cat (rows_by_oid texts) well rows_fit

  pub script_sound : (role : Bytes) (text : List ℕ) (found : List Located) → boot cat ≡ Some role → statements_of text ≡ Ok found → IsSound grammar (catalogue_after role (said found) (loaded cat texts))
  script_sound role text found e read =
      let at = boot_there cat (rows_by_oid texts) well in
      let same : at.0 ≡ role = let both = sym at.1 ∙ e in cc in
      run-keeps grammar role (said found) (loaded cat texts) sound (all_fit (said found) (read_is_writable text found read)) (subst (λ (n : Bytes). IsMet (loaded cat texts) (key.Role n, Asked.there)) same at.2)
