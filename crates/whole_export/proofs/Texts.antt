-- The texts of rows, made entry by entry; and that the rows of each table are read from them, where its relation has an oid of
-- its own.
use Rattle.std.proofs.Common.{◌≡◌, ◌⊎◌, inl, inr, ℕ, ◌+◌, ◌<◌, ◌≤◌, length, map, take, drop, ◌++◌, Bool, true, false, cond, List, [], ◌∷◌, Option, Some, unwrap_or, refl, sym, ap, subst, ◌∙◌}
use Rattle.std.proofs.Math.ListN.{get_or}
use Rattle.std.proofs.lemmas.List.{at_drop_more, at_drop_all, map_more, take_all}
use Rattle.std.specs.Cmp.{nat_cmp_total, tied_itself}
use Rattle.std.specs.FinMap.{empty, get, insert, entries, get-insert, nat_cmp-IsAntisymmetric}
use Rattle.std.specs.List.{AllByRecursion}
use Rattle.std.specs.Ordering.{nat_cmp, eq_by_cmp, is_eq}
use Rattle.copy_text.specs.Rows.{spell_rows}
use Rattle.cat_model.specs.declared.object.QName.{QName}
use Rattle.cat_model.specs.declared.key.Key.TheVariants as key
use Rattle.cat_model.specs.declared.value.Value.{Value}
use Rattle.cat_model.specs.declared.value.Value.TheVariants as value
use Rattle.cat_model.specs.KeyLaws.{key_cmp_total, key_cmp-IsAntisymmetric}
use Rattle.cat_model.specs.RowTexts.{rows_held}
use Rattle.cat_model.specs.Values.{Bytes, Named, Row}
use Rattle.cat_names.specs.DataSets.{TextsByOid}
use Rattle.cat_names.specs.Naming.{Entry}
use Rattle.cat_naming.specs.Texts.{rows_by_oid}
use Rattle.cat_sound.specs.Asked.{Asked}
use Rattle.cat_sound.specs.Sound.{IsSound}
use Rattle.cat_sound.specs.Texts.{Texts}
use Rattle.cat_sound.proofs.Changes.{value_met}
use Rattle.cat_sound.proofs.Lists.{IsIn, of_member, all-append}
use Rattle.cat_sound.proofs.Maps.{entry_of, of_entry, equal_of}
use Rattle.cluster_loops.proofs.EntryLoops.{Read, seen, read_at, entry_at}
use Rattle.named_tables.specs.Oids.{AreOids}
use Rattle.object_ids.specs.Ids.{IdsOf}
use Rattle.entry_ids.specs.Ids.{of_keys}
use Rattle.whole_export.specs.Data.{with_rows, with_all_rows, IsHeld}

-- ---- one more entry

pub texts_more : (ids : IdsOf) (xs : List Read) (i : ℕ) (x y : Read) (texts after : TextsByOid) → i < length xs → x ≡ get_or xs i x → after ≡ with_rows ids (read_at xs i x y) texts → with_all_rows ids (map seen (drop (i + 1) xs)) after ≡ with_all_rows ids (map seen (drop i xs)) texts
texts_more ids xs i x y texts after within is put =
    ap (with_all_rows ids (map seen (drop (i + 1) xs))) (put ∙ ap (λ (e : Entry). with_rows ids e texts) (entry_at xs i x y within is))
    ∙ sym (at_drop_more (λ (ys : List Read). with_all_rows ids (map seen ys) texts) xs i x within ∙ ap (λ (z : Read). with_all_rows ids (map seen (z ∷ drop (i + 1) xs)) texts) (sym is))

pub texts_end : (ids : IdsOf) (xs : List Read) (i : ℕ) (texts : TextsByOid) → length xs ≤ i → with_all_rows ids (map seen (drop i xs)) texts ≡ texts
texts_end ids xs i texts past = at_drop_all (λ (ys : List Read). with_all_rows ids (map seen ys) texts) xs i past

pub held_more : (P : Entry → Type 0) (xs : List Read) (i : ℕ) (x y : Read) → i < length xs → x ≡ get_or xs i x → AllByRecursion P (map seen (take i xs)) → P (read_at xs i x y) → AllByRecursion P (map seen (take (i + 1) xs))
held_more P xs i x y within is all here =
    subst (AllByRecursion P) (sym (map_more seen xs i x within ∙ ap (λ (z : Read). map seen (take i xs) ++ seen z ∷ []) (sym is)))
    (all-append P (map seen (take i xs)) (seen x ∷ []) all (subst P (entry_at xs i x y within is) here, tt))

pub held_end : (P : Entry → Type 0) (xs : List Read) (i : ℕ) → length xs ≤ i → AllByRecursion P (map seen (take i xs)) → AllByRecursion P (map seen xs)
held_end P xs i past all = subst (λ (ys : List Read). AllByRecursion P (map seen ys)) (take_all i xs past) all

-- ---- the text of each table

put_same : (texts : TextsByOid) (k : ℕ) (text : Bytes) → get (insert texts k text) k ≡ Some text
put_same texts k text = get-insert nat_cmp_total texts k text k ∙ ap (λ (b : Bool). cond b (Some text) (get texts k)) (ap is_eq (tied_itself nat_cmp_total k))

module _ (texts : Texts) (named : Named) (sound : IsSound texts named) (ids : IdsOf) (own : AreOids named (of_keys ids)) where
  -- the relation of rows is there
  relation : (q : QName) (rows : List Row) → get named (key.Rows q) ≡ Some (value.Rows rows) → (v : Value) × (get named (key.Rel q) ≡ Some v)
  relation q rows there = value_met named (key.Rel q, Asked.holds rows) (sound.each (key.Rows q) (value.Rows rows) there).others.0

  module _ (q : QName) (held : List Row) (there : get named (key.Rows q) ≡ Some (value.Rows held)) where
    abbrev IsThere : TextsByOid → Type 0
    IsThere made = get made (of_keys ids (key.Rel q)) ≡ Some (spell_rows held)

    one_table : (p : QName) (rows : List Row) → get named (key.Rows p) ≡ Some (value.Rows rows) → of_keys ids (key.Rel q) ≡ of_keys ids (key.Rel p) → spell_rows rows ≡ spell_rows held
    one_table p rows at same =
        let v = relation q held there in
        let w = relation p rows at in
        let keys : key.Rel q ≡ key.Rel p = own.apart (key.Rel q) (key.Rel p) v.0 w.0 v.1 w.1 refl refl refl same in
        let paths : q ≡ p = cc in
        let values : Some (value.Rows held) ≡ Some (value.Rows rows) = sym there ∙ ap (λ (x : QName). get named (key.Rows x)) paths ∙ at in
        let lists : rows ≡ held = cc in
        ap spell_rows lists

    keeps : (e : Entry) (made : TextsByOid) → get named e.0 ≡ Some e.1 → IsThere made → IsThere (with_rows ids e made)
    keeps (key.Rows p, value.Rows rows) made at is =
        get-insert nat_cmp_total made (of_keys ids (key.Rel p)) (spell_rows rows) (of_keys ids (key.Rel q))
        ∙ by (eq_by_cmp nat_cmp (of_keys ids (key.Rel q)) (of_keys ids (key.Rel p))) refl
      where
        by : (b : Bool) → eq_by_cmp nat_cmp (of_keys ids (key.Rel q)) (of_keys ids (key.Rel p)) ≡ b → cond b (Some (spell_rows rows)) (get made (of_keys ids (key.Rel q))) ≡ Some (spell_rows held)
        by true so = ap Some (one_table p rows at (equal_of nat_cmp-IsAntisymmetric (of_keys ids (key.Rel q)) (of_keys ids (key.Rel p)) (nat_cmp (of_keys ids (key.Rel q)) (of_keys ids (key.Rel p))) refl so))
        by false so = is
    keeps e made at is = is

    through : (es : List Entry) (made : TextsByOid) → ((e : Entry) → IsIn e es → get named e.0 ≡ Some e.1) → IsIn (key.Rows q, value.Rows held) es ⊎ IsThere made → IsThere (with_all_rows ids es made)
    through [] made at (inl among) = absurd among
    through [] made at (inr is) = is
    through (e ∷ es) made at (inl (inl is)) =
        through es (with_rows ids e made) (λ f among. at f (inr among))
        (inr (subst (λ (f : Entry). IsThere (with_rows ids f made)) (sym is) (put_same made (of_keys ids (key.Rel q)) (spell_rows held))))
    through (e ∷ es) made at (inl (inr later)) = through es (with_rows ids e made) (λ f among. at f (inr among)) (inl later)
    through (e ∷ es) made at (inr is) = through es (with_rows ids e made) (λ f among. at f (inr among)) (inr (keeps e made (at e (inl refl)) is))

  pub text_there : (q : QName) (held : List Row) → get named (key.Rows q) ≡ Some (value.Rows held) → get (with_all_rows ids (entries named) empty) (of_keys ids (key.Rel q)) ≡ Some (spell_rows held)
  text_there q held there =
      through q held there (entries named) empty (λ e among. of_entry key_cmp_total key_cmp-IsAntisymmetric named e.0 e.1 among)
      (inl (entry_of key_cmp_total key_cmp-IsAntisymmetric named (key.Rows q) (value.Rows held) there))

  pub held_there : AllByRecursion IsHeld (entries named) → (q : QName) (held : List Row) → get named (key.Rows q) ≡ Some (value.Rows held) → rows_held (spell_rows held) ≡ held
  held_there all q held there =
      of_member IsHeld (entries named) all (key.Rows q, value.Rows held) (entry_of key_cmp_total key_cmp-IsAntisymmetric named (key.Rows q) (value.Rows held) there)

  pub rows_there : AllByRecursion IsHeld (entries named) → (q : QName) (held : List Row) → get named (key.Rows q) ≡ Some (value.Rows held) → rows_by_oid (with_all_rows ids (entries named) empty) (of_keys ids (key.Rel q)) ≡ held
  rows_there all q held there = ap (λ (o : Option Bytes). rows_held (unwrap_or o [])) (text_there q held there) ∙ held_there all q held there
