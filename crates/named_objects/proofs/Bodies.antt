-- The rows of pg_rewrite: they meet the table's conditions, and stand for the bodies of views.
use Rattle.std.proofs.Common.{◌≡◌, ℕ, pos, true, false, not, List, [], ◌∷◌, Option, Some, unwrap_or, refl, ap, sym, subst, ◌∙◌, inl}
use Rattle.std.specs.Ordering.{nat_cmp, eq_by_cmp}
use Rattle.std.specs.FinMap.{get}
use Rattle.std.specs.List.{AllByRecursion, flat_map}
use Rattle.cat_rows.specs.declared.catalogue.Catalogue.{Catalogue}
use Rattle.cat_rows.specs.declared.relations.RewriteRow.{RewriteRow}
use Rattle.cat_model.specs.declared.object.QName.{QName}
use Rattle.cat_model.specs.declared.key.Key.{Key}
use Rattle.cat_model.specs.declared.key.Key.TheVariants as key
use Rattle.cat_model.specs.declared.value.Value.{Value}
use Rattle.cat_model.specs.declared.value.Value.TheVariants as value
use Rattle.cat_model.specs.Conditions as conditions
use Rattle.cat_model.specs.References.{view_references}
use Rattle.cat_model.specs.Values.{Bytes, Named}
use Rattle.cat_names.specs.Kinds.{kind_of, is_view}
use Rattle.cat_names.specs.Lookups.{is_no_oid}
use Rattle.cat_names.specs.Naming.{Entry, under}
use Rattle.cat_book.specs.Meets.{Meets}
use Rattle.cat_book.specs.Paths.{class_path_of}
use Rattle.cat_book.specs.Rules.{RowName, name_cmp, place_cmp}
use Rattle.row_texts.specs.ViewTexts.{view_body}
use Rattle.well_formed.specs.Views.{is_good_body, view_rules}
use Rattle.cat_naming.specs.Types.{under_path}
use Rattle.cat_naming.specs.Relations.{body_entries}
use Rattle.cat_sound.specs.Asked.{Asked}
use Rattle.cat_sound.specs.Texts.{Texts}
use Rattle.cat_sound.specs.Sound.{IsSound}
use Rattle.cat_sound.proofs.Changes.{value_met}
use Rattle.cat_sound.proofs.Lists.{IsIn}
use Rattle.named_tables.specs.Oids.{Oids, AreOids}
use Rattle.named_tables.specs.Standing.{AreRowsOf}
use Rattle.named_tables.proofs.Owned.{met_by}
use Rattle.named_tables.proofs.Ties.{tie}
use Rattle.named_tables.proofs.Rows.{name_cmp-IsAntisymmetric, one_oid, each_row, distinct_keys, no_keys, no_marks}
use Rattle.named_tables.proofs.Entries.{AreEntries, IsHeld, rows_give}
use Rattle.named_objects.specs.Relations.{NamedBody, IsBody, IsBodyRow}
use Rattle.named_objects.specs.Kinds.{of_bodies}
use Rattle.named_objects.proofs.Lookups.{AreLedTo, class_path_found, kind_found, references_met}

view_only : (v : Value) → conditions.is_view v ≡ true → v ≡ value.View
view_only value.View e = refl
view_only v e = cc

module _ (texts : Texts) (named : Named) (sound : IsSound texts named) (oids : Oids) (own : AreOids named oids) (cat : Catalogue) (led : AreLedTo named oids cat) (are : AreRowsOf (IsBody named) (IsBodyRow oids) cat.pg_rewrite) where
  same_body : (t s : NamedBody) → IsBody named t → IsBody named s → t.view ≡ s.view → t ≡ s
  same_body t s is_t is_s views =
      let values : Some (value.Body t.body) ≡ Some (value.Body s.body) = sym is_t ∙ ap (λ (q : QName). get named (key.Body q)) views ∙ is_s in
      let bodies : t.body ≡ s.body = cc in
      λ i. record { view = views i; body = bodies i }

  -- it is the body of a view
  view_there : (t : NamedBody) → IsBody named t → get named (key.Rel t.view) ≡ Some value.View
  view_there t is =
      let met = (sound.each (key.Body t.view) (value.Body t.body) is).others.0 in
      let found = value_met named (key.Rel t.view, Asked.a_view) met in
      found.1 ∙ ap Some (view_only found.0 (met_by named (key.Rel t.view, Asked.a_view) found.0 found.1 met))

  same_key : (t s : NamedBody) (a b : RewriteRow) (k l : ℕ) → IsBody named t → IsBody named s → IsBodyRow oids t a → IsBodyRow oids s b → Some a.oid ≡ Some k → Some b.oid ≡ Some l → eq_by_cmp nat_cmp l k ≡ true → t ≡ s
  same_key t s a b k l is_t is_s at_a at_b is_k is_l ties =
      let equal : oids (key.Body t.view) ≡ oids (key.Body s.view) = sym at_a.oid ∙ one_oid a.oid b.oid k l is_k is_l ties ∙ at_b.oid in
      let keys : key.Body t.view ≡ key.Body s.view = own.apart (key.Body t.view) (key.Body s.view) (value.Body t.body) (value.Body s.body) is_t is_s refl refl refl equal in
      same_body t s is_t is_s cc

  same_name : (t s : NamedBody) (a b : RewriteRow) (k l : RowName) → IsBody named t → IsBody named s → IsBodyRow oids t a → IsBodyRow oids s b → Some (a.ev_class, 0, pos 0, []) ≡ Some k → Some (b.ev_class, 0, pos 0, []) ≡ Some l → eq_by_cmp name_cmp l k ≡ true → t ≡ s
  same_name t s a b k l is_t is_s at_a at_b is_k is_l ties =
      let names : l ≡ k = tie name_cmp-IsAntisymmetric l k ties in
      let first : (a.ev_class, 0, pos 0, []) ≡ k = ap (λ (o : Option RowName). unwrap_or o k) is_k in
      let second : (b.ev_class, 0, pos 0, []) ≡ l = ap (λ (o : Option RowName). unwrap_or o l) is_l in
      let equal : oids (key.Rel t.view) ≡ oids (key.Rel s.view) = sym at_a.view ∙ ap (λ (n : RowName). n.0) (first ∙ sym names ∙ sym second) ∙ at_b.view in
      let keys : key.Rel t.view ≡ key.Rel s.view = own.apart (key.Rel t.view) (key.Rel s.view) value.View value.View (view_there t is_t) (view_there s is_s) refl refl refl equal in
      same_body t s is_t is_s cc

  of_view : (t : NamedBody) (row : RewriteRow) → IsBody named t → IsBodyRow oids t row → is_view (kind_of cat.pg_class row.ev_class) ≡ true
  of_view t row is at = ap (λ (n : ℕ). is_view (kind_of cat.pg_class n)) at.view ∙ ap is_view (kind_found texts named sound oids own cat led t.view value.View (view_there t is))

  good_text : (t : NamedBody) (row : RewriteRow) → IsBody named t → IsBodyRow oids t row → is_good_body cat (view_body row.viewdef) ≡ true
  good_text t row is at = ap (is_good_body cat) at.said ∙ references_met texts named sound oids own cat led (view_references t.body) (sound.each (key.Body t.view) (value.Body t.body) is).others.1

  pub bodies_meet : Meets view_rules cat cat.pg_rewrite
  bodies_meet = record {
    oids = distinct_keys (IsBody named) (IsBodyRow oids) cat.pg_rewrite are nat_cmp (λ r. Some r.oid) same_key;
    names = distinct_keys (IsBody named) (IsBodyRow oids) cat.pg_rewrite are name_cmp (λ r. Some (r.ev_class, 0, pos 0, [])) same_name;
    places = no_keys place_cmp cat.pg_rewrite;
    marks = no_marks cat.pg_rewrite;
    objects = each_row (IsBody named) (IsBodyRow oids) cat.pg_rewrite are (λ row. is_no_oid row.oid ≡ false) (λ t row is at. ap is_no_oid at.oid ∙ own.some (key.Body t.view) (value.Body t.body) is refl);
    there = each_row (IsBody named) (IsBodyRow oids) cat.pg_rewrite are (λ row. not (is_view (kind_of cat.pg_class row.ev_class)) ≡ false) (λ t row is at. ap not (of_view t row is at));
    texts = each_row (IsBody named) (IsBodyRow oids) cat.pg_rewrite are (λ row. not (is_good_body cat (view_body row.viewdef)) ≡ false) (λ t row is at. ap not (good_text t row is at));
    inside = λ i row at. refl;
    needed = refl;
  }

  -- ---- by names

  gives : (t : NamedBody) (row : RewriteRow) → IsBody named t → IsBodyRow oids t row → (key.Body t.view, value.Body t.body) ∷ [] ≡ body_entries cat row
  gives t row is at =
      sym (
      ap (λ (o : Option QName). under_path o (λ path. under (view_body row.viewdef) (λ body. (key.Body path, value.Body body) ∷ []))) (ap (class_path_of cat) at.view ∙ class_path_found texts named sound oids own cat led t.view value.View (view_there t is))
      ∙ ap (λ (o : Option Bytes). under o (λ body. (key.Body t.view, value.Body body) ∷ [])) at.said)

  bodies_held : (t : NamedBody) (row : RewriteRow) → IsBody named t → IsBodyRow oids t row → AllByRecursion (IsHeld named of_bodies) (body_entries cat row)
  bodies_held t row is at = subst (λ (es : List Entry). AllByRecursion (IsHeld named of_bodies) es) (gives t row is at) ((is, refl), tt)

  body_at : (q : QName) (v : Value) → get named (key.Body q) ≡ Some v → (body : Bytes) × (v ≡ value.Body body)
  body_at q (value.Body body) is = (body, refl)
  body_at q v is = elim (sound.each (key.Body q) v is).own [ ]

  body_covers : (k : Key) (v : Value) → get named k ≡ Some v → of_bodies k ≡ true → (t : NamedBody) × IsBody named t × ((row : RewriteRow) → IsBodyRow oids t row → IsIn (k, v) (body_entries cat row))
  body_covers (key.Body q) v is kind =
      let found = body_at q v is in
      let there : get named (key.Body q) ≡ Some (value.Body found.0) = is ∙ ap Some found.1 in (
        record { view = q; body = found.0 },
        there,
        λ row at. subst (IsIn (key.Body q, v)) (gives (record { view = q; body = found.0 }) row there at) (inl (λ i. (key.Body q, sym found.1 i))),
      )
  body_covers k v is kind = cc

  pub bodies_stand : AreEntries named of_bodies (flat_map (body_entries cat) cat.pg_rewrite)
  bodies_stand = rows_give (IsBody named) (IsBodyRow oids) cat.pg_rewrite are named of_bodies (body_entries cat) bodies_held body_covers
