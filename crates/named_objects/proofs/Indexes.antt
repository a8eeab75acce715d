-- The rows of pg_index stand for the indexes that aren't a constraint's.
use Rattle.std.proofs.Common.{◌≡◌, Some, [], ◌∷◌, List, refl, ap, sym, subst, ◌∙◌, inl, true}
use Rattle.std.specs.FinMap.{get}
use Rattle.std.specs.List.{AllByRecursion, flat_map}
use Rattle.cat_rows.specs.declared.catalogue.Catalogue.{Catalogue}
use Rattle.cat_rows.specs.declared.relations.IndexRow.{IndexRow}
use Rattle.cat_model.specs.declared.object.QName.{QName}
use Rattle.cat_model.specs.declared.key.Key.{Key}
use Rattle.cat_model.specs.declared.key.Key.TheVariants as key
use Rattle.cat_model.specs.declared.value.Value.{Value}
use Rattle.cat_model.specs.declared.value.Value.TheVariants as value
use Rattle.cat_model.specs.declared.value.Index.{Index}
use Rattle.cat_model.specs.Values.{Bytes, Named}
use Rattle.cat_names.specs.Naming.{Entry}
use Rattle.cat_naming.specs.Constraints.{said_entries, index_entries}
use Rattle.cat_sound.specs.Texts.{Texts}
use Rattle.cat_sound.specs.Sound.{IsSound}
use Rattle.cat_sound.proofs.Lists.{IsIn}
use Rattle.named_tables.specs.Oids.{Oids}
use Rattle.named_tables.specs.Standing.{AreRowsOf}
use Rattle.named_tables.proofs.Entries.{AreEntries, IsHeld, rows_give}
use Rattle.named_objects.specs.Relations.{NamedIndex, IsIndex, IsIndexRow}
use Rattle.named_objects.specs.Kinds.{of_indexes}

module _ (texts : Texts) (named : Named) (sound : IsSound texts named) (oids : Oids) (cat : Catalogue) (are : AreRowsOf (IsIndex named) (IsIndexRow oids) cat.pg_index) where
  gives : (t : NamedIndex) (row : IndexRow) → IsIndexRow oids t row → (key.Index t.table t.name, value.Index t.index) ∷ [] ≡ index_entries row
  gives t row at = sym (ap said_entries at.said)

  indexes_held : (t : NamedIndex) (row : IndexRow) → IsIndex named t → IsIndexRow oids t row → AllByRecursion (IsHeld named of_indexes) (index_entries row)
  indexes_held t row is at = subst (λ (es : List Entry). AllByRecursion (IsHeld named of_indexes) es) (gives t row at) ((is, refl), tt)

  index_at : (q : QName) (name : Bytes) (v : Value) → get named (key.Index q name) ≡ Some v → (i : Index) × (v ≡ value.Index i)
  index_at q name (value.Index i) is = (i, refl)
  index_at q name v is = elim (sound.each (key.Index q name) v is).own [ ]

  index_covers : (k : Key) (v : Value) → get named k ≡ Some v → of_indexes k ≡ true → (t : NamedIndex) × IsIndex named t × ((row : IndexRow) → IsIndexRow oids t row → IsIn (k, v) (index_entries row))
  index_covers (key.Index q name) v is kind =
      let found = index_at q name v is in (
        record { table = q; name = name; index = found.0 },
        is ∙ ap Some found.1,
        λ row at. subst (IsIn (key.Index q name, v)) (gives (record { table = q; name = name; index = found.0 }) row at) (inl (λ i. (key.Index q name, sym found.1 i))),
      )
  index_covers k v is kind = cc

  pub indexes_stand : AreEntries named of_indexes (flat_map index_entries cat.pg_index)
  indexes_stand = rows_give (IsIndex named) (IsIndexRow oids) cat.pg_index are named of_indexes index_entries indexes_held index_covers
