-- The text of a table's rows is the one that spells them, where rows are read as they were written.
use Rattle.std.proofs.Common.{◌≡◌, ◌⊎◌, inl, inr, ℕ, Bool, true, false, cond, List, [], ◌∷◌, Option, Some, None, unwrap_or, refl, sym, ap, ◌∙◌}
use Rattle.std.specs.Cmp.{nat_cmp_total}
use Rattle.std.specs.FinMap.{empty, get, entries, get-empty, get-insert, nat_cmp-IsAntisymmetric}
use Rattle.std.specs.Ordering.{nat_cmp, eq_by_cmp}
use Rattle.copy_text.specs.Rows.{spell_rows}
use Rattle.copy_text.proofs.LineLemmas.{lines_nil}
use Rattle.cat_model.specs.declared.object.QName.{QName}
use Rattle.cat_model.specs.declared.key.Key.TheVariants as key
use Rattle.cat_model.specs.declared.value.Value.TheVariants as value
use Rattle.cat_model.specs.KeyLaws.{key_cmp_total, key_cmp-IsAntisymmetric}
use Rattle.cat_model.specs.RowTexts.{rows_held}
use Rattle.cat_model.specs.Values.{Bytes, Named, Row}
use Rattle.cat_names.specs.DataSets.{TextsByOid}
use Rattle.cat_names.specs.Naming.{Entry}
use Rattle.cat_naming.specs.Texts.{rows_by_oid}
use Rattle.cat_sound.proofs.Lists.{IsIn}
use Rattle.cat_sound.proofs.Maps.{of_entry, equal_of}
use Rattle.table_rows.specs.Values.{text_of}
use Rattle.object_ids.specs.Ids.{IdsOf}
use Rattle.whole_export.specs.Ids.{of_keys}
use Rattle.opening_written.specs.Export.{AreSpelled}
use Rattle.whole_export.specs.Data.{with_rows, with_all_rows}

module _ (ids : IdsOf) where
  -- a text is that of the rows of some entry
  pub record IsOf (es : List Entry) (oid : ℕ) (text : Bytes) : Type 0 where
    pub table : QName
    pub rows : List Row
    pub among : IsIn (key.Rows table, value.Rows rows) es
    pub same : of_keys ids (key.Rel table) ≡ oid
    pub spells : text ≡ spell_rows rows

  later : (e : Entry) (es : List Entry) (oid : ℕ) (text : Bytes) → IsOf es oid text → IsOf (e ∷ es) oid text
  later e es oid text is = record { table = is.table; rows = is.rows; among = inr is.among; same = is.same; spells = is.spells }

  -- one more entry
  one : (e : Entry) (es : List Entry) (texts : TextsByOid) (oid : ℕ) (text : Bytes) → get (with_rows ids e texts) oid ≡ Some text → IsOf (e ∷ es) oid text ⊎ (get texts oid ≡ Some text)
  one (key.Rows q, value.Rows rows) es texts oid text is =
      by (eq_by_cmp nat_cmp oid (of_keys ids (key.Rel q))) refl (sym (get-insert nat_cmp_total texts (of_keys ids (key.Rel q)) (spell_rows rows) oid) ∙ is)
    where
      by : (b : Bool) → eq_by_cmp nat_cmp oid (of_keys ids (key.Rel q)) ≡ b → cond b (Some (spell_rows rows)) (get texts oid) ≡ Some text → IsOf ((key.Rows q, value.Rows rows) ∷ es) oid text ⊎ (get texts oid ≡ Some text)
      by true so h =
          let equal : oid ≡ of_keys ids (key.Rel q) = equal_of nat_cmp-IsAntisymmetric oid (of_keys ids (key.Rel q)) (nat_cmp oid (of_keys ids (key.Rel q))) refl so in
          let spelled : spell_rows rows ≡ text = cc in
          inl (record { table = q; rows = rows; among = inl refl; same = sym equal; spells = sym spelled })
      by false so h = inr h
  one e es texts oid text is = inr is

  all : (es : List Entry) (texts : TextsByOid) (oid : ℕ) (text : Bytes) → get (with_all_rows ids es texts) oid ≡ Some text → IsOf es oid text ⊎ (get texts oid ≡ Some text)
  all [] texts oid text is = inr is
  all (e ∷ es) texts oid text is = by (all es (with_rows ids e texts) oid text is)
    where
      by : IsOf es oid text ⊎ (get (with_rows ids e texts) oid ≡ Some text) → IsOf (e ∷ es) oid text ⊎ (get texts oid ≡ Some text)
      by (inl found) = inl (later e es oid text found)
      by (inr there) = one e es texts oid text there

none_spelled : spell_rows (rows_held []) ≡ []
none_spelled = rw lines_nil refl

abbrev no_texts : TextsByOid
no_texts = empty

no_text : (oid : ℕ) (text : Bytes) → get no_texts oid ≡ Some text → ⊥
no_text oid text e = absurd (let none : None ≡ Some text = sym (get-empty {X = Bytes} nat_cmp oid) ∙ e in cc)

-- each text spells its rows, where the rows of each table are held by its text
pub are_spelled : (named : Named) (ids : IdsOf) (texts : TextsByOid) → texts ≡ with_all_rows ids (entries named) empty
    → ((q : QName) (held : List Row) → get named (key.Rows q) ≡ Some (value.Rows held) → rows_by_oid texts (of_keys ids (key.Rel q)) ≡ held) → AreSpelled texts
are_spelled named ids texts are held oid = by (get texts oid) refl
  where
    at : (text : Bytes) → get texts oid ≡ Some text → IsOf ids (entries named) oid text ⊎ (get no_texts oid ≡ Some text) → spell_rows (rows_by_oid texts oid) ≡ text
    at text is (inl found) =
        let there = of_entry key_cmp_total key_cmp-IsAntisymmetric named (key.Rows found.table) (value.Rows found.rows) found.among in
        ap (λ (n : ℕ). spell_rows (rows_by_oid texts n)) (sym found.same) ∙ ap spell_rows (held found.table found.rows there) ∙ sym found.spells
    at text is (inr none) = absurd (no_text oid text none)

    by : (o : Option Bytes) → get texts oid ≡ o → spell_rows (rows_by_oid texts oid) ≡ text_of texts oid
    by None is = rw is none_spelled
    by (Some text) is =
        at text is (all ids (entries named) no_texts oid text (ap (λ (t : TextsByOid). get t oid) (sym are) ∙ is))
        ∙ sym (ap (λ (o : Option Bytes). unwrap_or o []) is)
