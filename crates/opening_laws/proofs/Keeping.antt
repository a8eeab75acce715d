-- What tables keep of an opening meets the conditions of its tables: relations and types that the opening's rows lead to are
-- what they were.
use Rattle.std.proofs.Common.{◌≡◌, ◌⊎◌, inl, inr, ℕ, zero, suc, ℤ, Bool, true, false, true≢false, cond, not, ◌&&◌, ◌||◌, List, [], ◌∷◌, Option, Some, None, unwrap_or, refl, sym, ap, ap₂, subst, ◌∙◌, arith}
use Rattle.std.proofs.lemmas.Bool.{and_parts, and_from}
use Rattle.std.specs.declared.cmp.Ordering.{Ordering}
use Rattle.std.specs.FinMap.{get}
use Rattle.std.specs.FinSet as set
use Rattle.std.specs.FinSet.{contains}
use Rattle.std.specs.List.{filter}
use Rattle.std.specs.Option.{option_map, option_and_then}
use Rattle.std.specs.Ordering.{nat_cmp}
use Rattle.cat_rows.specs.declared.catalogue.Catalogue.{Catalogue}
use Rattle.cat_rows.specs.declared.notes.DependRow.{DependRow}
use Rattle.cat_rows.specs.declared.relations.AttributeRow.{AttributeRow}
use Rattle.cat_rows.specs.declared.relations.ClassRow.{ClassRow}
use Rattle.cat_rows.specs.declared.types.TypeRow.{TypeRow}
use Rattle.cat_model.specs.declared.key.Key.TheVariants as key
use Rattle.cat_model.specs.declared.object.QName.{QName}
use Rattle.cat_model.specs.declared.type_name.TypeName.{TypeName}
use Rattle.cat_model.specs.declared.value.Value.{Value}
use Rattle.cat_model.specs.declared.words.What.{What}
use Rattle.cat_model.specs.Values.{Named}
use Rattle.cat_names.specs.declared.relations.RelationKind.{RelationKind}
use Rattle.cat_names.specs.declared.relations.RelationKind.TheVariants.{Table, View, Sequence, Index, Other}
use Rattle.cat_names.specs.Kinds.{relation_kind, class_of, kind_of, is_table}
use Rattle.cat_names.specs.Lookups.{same_oid, is_no_oid, has_oid}
use Rattle.cat_book.specs.Leads.{is_base_there, type_oids, has_columns}
use Rattle.cat_book.specs.Meets.{Meets, AreDistinct, EachRow}
use Rattle.cat_book.specs.Paths.{type_path, path_of}
use Rattle.cat_book.specs.Rules.{name_cmp, place_cmp}
use Rattle.sound_loads.specs.Entries.{catalogue_named}
use Rattle.sound_loads.specs.Relations.{RowsByOid}
use Rattle.cat_sound.specs.Asked.{Asked}
use Rattle.cat_sound.specs.Sound.{IsSound}
use Rattle.cat_sound.specs.Texts.{Texts}
use Rattle.cat_sound.proofs.Changes.{value_met}
use Rattle.cat_sound.proofs.Lists.{IsIn}
use Rattle.object_ids.specs.Slots.{object}
use Rattle.object_ids.specs.Ids.{IdsOf, avoiding}
use Rattle.object_ids.proofs.Apart.{used_stays, used_new}
use Rattle.named_tables.specs.Oids.{AreOids}
use Rattle.named_tables.proofs.Rows.{among_in, no_keys, no_marks}
use Rattle.entry_ids.specs.Views.{AreKept}
use Rattle.entry_ids.proofs.Found.{has_mapped}
use Rattle.entry_ids.proofs.Lookups as named_lookups
use Rattle.entry_ids.proofs.Lookups.{AreLedTo, kind_at, has_tie}
use Rattle.entry_ids.specs.Ids.{of_keys}
use Rattle.opening_ids.specs.Opening.{depends_avoided, parts_given, objects_given, cluster_given, opening_ids}
use Rattle.object_ids.specs.Ids.{none}
use Rattle.plain_tables.specs.Depends.{dependency_left_out, depend_left_out, depend_rules, class_of_relations}
use Rattle.text_tables.specs.Agreeing.{agrees_if_named, is_without_row, is_at, is_type_named}
use Rattle.text_tables.specs.Columns.{column_rules, is_column_number, is_column_there}
use Rattle.row_texts.specs.TypeTexts.{type_named}
use Rattle.sound_loads.specs.Formed.{IsWellFormed}
use Rattle.sound_rows.specs.Rows.{IsAmong}
use Rattle.sound_rows.proofs.Among.{each_in, in_place, place_in, of_filter, find_found}
use Rattle.sound_rows.proofs.Roles.{same_oid-equal}
use Rattle.sound_loads.proofs.Classes.{not_false, of_kind, path_of_class, own_class, RelationAt, relation_at, relation_there}
use Rattle.sound_loads.proofs.Standing.{is_met}
use Rattle.sound_loads.proofs.Types.{IsTypeOf, base_found, path_of_type, type_is_there}
use Rattle.opening_laws.specs.Growing.{Grows}
use Rattle.opening_laws.specs.Keeping.{other_columns, KeepRows, BeganAs}
use Rattle.opening_laws.proofs.Giving.{RelationOf, relation_of, relations_keep, types_keep}

-- ---- some of the rows of a table have keys that are apart

module _ {R K : Type 0} (cmp : K → K → Ordering) (key : R → Option K) (p : R → Bool) where
  front : (x : R) (xs ys : List R) → AreDistinct cmp key (x ∷ xs) → ((y : R) → IsIn y ys → IsIn y xs) → AreDistinct cmp key ys → AreDistinct cmp key (x ∷ ys)
  front x xs ys all within more zero zero earlier later k l less at_i at_j is_k is_l = absurd (omega arith)
  front x xs ys all within more zero (suc j) earlier later k l less at_i at_j is_k is_l =
      let place = place_in xs later (within later (in_place ys later (j, at_j))) in
      all zero (suc place.0) earlier later k l (omega arith) at_i place.1 is_k is_l
  front x xs ys all within more (suc i) zero earlier later k l less at_i at_j is_k is_l = absurd (omega arith)
  front x xs ys all within more (suc i) (suc j) earlier later k l less at_i at_j is_k is_l = more i j earlier later k l (omega arith) at_i at_j is_k is_l

  behind : (x : R) (xs : List R) → AreDistinct cmp key (x ∷ xs) → AreDistinct cmp key xs
  behind x xs all i j earlier later k l less at_i at_j is_k is_l = all (suc i) (suc j) earlier later k l (omega arith) at_i at_j is_k is_l

  some_distinct : (rows : List R) → AreDistinct cmp key rows → AreDistinct cmp key (filter p rows)
  some_distinct [] all = all
  some_distinct (x ∷ xs) all = by (p x) (some_distinct xs (behind x xs all))
    where
      by : (b : Bool) → AreDistinct cmp key (filter p xs) → AreDistinct cmp key (cond {A = List R} b (x ∷ filter p xs) (filter p xs))
      by false more = more
      by true more = front x xs (filter p xs) all (λ y among. (of_filter p xs y among).0) more

some_rows : {R : Type 0} (P : R → Type 0) (p : R → Bool) (rows : List R) → ((r : R) → IsAmong r rows → p r ≡ true → P r) → EachRow P (filter p rows)
some_rows P p rows each i row at =
    let kept = of_filter p rows row (in_place (filter p rows) row (i, at)) in
    each row (place_in rows row kept.0) kept.1

-- ---- oids that dependencies name are in use

used_still : (rows : List DependRow) (ids : IdsOf) (n : ℕ) → contains ids.used n ≡ true → contains (depends_avoided ids rows).used n ≡ true
used_still [] ids n h = h
used_still (r ∷ rows) ids n h = used_still rows (avoiding (avoiding ids r.objid) r.refobjid) n (used_stays (set.insert ids.used r.objid) r.refobjid n (used_stays ids.used r.objid n h))

named_used : (rows : List DependRow) (ids : IdsOf) (r : DependRow) → IsIn r rows → (contains (depends_avoided ids rows).used r.objid ≡ true) × (contains (depends_avoided ids rows).used r.refobjid ≡ true)
named_used [] ids r among = elim among [ ]
named_used (q ∷ rows) ids r (inl same) =
    subst (λ (d : DependRow). (contains (depends_avoided ids (q ∷ rows)).used d.objid ≡ true) × (contains (depends_avoided ids (q ∷ rows)).used d.refobjid ≡ true)) same (
      used_still rows (avoiding (avoiding ids q.objid) q.refobjid) q.objid (used_stays (set.insert ids.used q.objid) q.refobjid q.objid (used_new ids.used q.objid)),
      used_still rows (avoiding (avoiding ids q.objid) q.refobjid) q.refobjid (used_new (set.insert ids.used q.objid) q.refobjid),
    )
named_used (q ∷ rows) ids r (inr later) = named_used rows (avoiding (avoiding ids q.objid) q.refobjid) r later

-- ---- dependencies between relations

-- there is none of an oid, or one of the kind that was there
abbrev IsStill : Option RelationKind → Option RelationKind → Type 0
IsStill before after = (after ≡ None) ⊎ (after ≡ before)

none_referred : (a : Option RelationKind) (number : ℤ) (letter : ℕ) → dependency_left_out a None number letter ≡ None
none_referred None number letter = refl
none_referred (Some Table) number letter = refl
none_referred (Some View) number letter = refl
none_referred (Some Sequence) number letter = refl
none_referred (Some Index) number letter = refl
none_referred (Some (Other l)) number letter = refl

still_inside : (a b c d : Option RelationKind) (number : ℤ) (letter : ℕ) → IsStill a c → IsStill b d → dependency_left_out a b number letter ≡ None → dependency_left_out c d number letter ≡ None
still_inside a b c d number letter (inl gone) still inside = ap (λ (k : Option RelationKind). dependency_left_out k d number letter) gone
still_inside a b c d number letter (inr same) (inl gone) inside = ap (λ (k : Option RelationKind). dependency_left_out c k number letter) gone ∙ none_referred c number letter
still_inside a b c d number letter (inr same) (inr other) inside = ap₂ (λ (j k : Option RelationKind). dependency_left_out j k number letter) same other ∙ inside

module _ (texts : Texts) (opening : Catalogue) (rows : RowsByOid) (well : IsWellFormed opening) (named : Named) (sound : IsSound texts named) (grows : Grows (catalogue_named opening rows) named)
    (ids : IdsOf) (own : AreOids named (of_keys ids)) (began : BeganAs opening ids) (cat : Catalogue) (led : AreLedTo named (of_keys ids) cat) where
  -- ---- relations

  kind_as : (c : ClassRow) (k : RelationKind) (v : Value) → RelationAt opening well c k v → k ≡ kind_at v
  kind_as c Table v is = ap kind_at is
  kind_as c View v is = ap kind_at is
  kind_as c Sequence v is = ap kind_at is.is
  kind_as c Index v is = ap kind_at is.2
  kind_as c (Other letter) v is = absurd is

  -- a relation of the opening is what it was
  kind_kept : (c : ClassRow) → IsAmong c opening.pg_class → kind_of cat.pg_class c.oid ≡ Some (relation_kind c.relkind)
  kind_kept c among =
      let path = path_of_class opening well c among in
      let at = relation_there opening well rows c among path.0 path.1 in
      let kind = kind_as c (relation_kind c.relkind) at.value (relation_at opening well rows c among path.0 path.1 at.value at.from) in
      let oid : of_keys ids (key.Rel path.0) ≡ c.oid = ap (λ (o : Option ℕ). unwrap_or o 0) (began.keep (object (key.Rel path.0)) c.oid (relations_keep opening well c path.0 among path.1)) in
      ap (kind_of cat.pg_class) (sym oid)
      ∙ named_lookups.kind_found texts named sound (of_keys ids) own cat led path.0 at.value (grows.relations path.0 at.value at.is)
      ∙ ap (λ (k : RelationKind). Some k) (sym kind)

  -- an oid that the opening names leads to no relation but the one that it led to
  kind_still : (oid : ℕ) → contains (opening_ids opening).used oid ≡ true → IsStill (kind_of opening.pg_class oid) (kind_of cat.pg_class oid)
  kind_still oid used = by (class_of cat.pg_class oid) refl
    where
      -- the opening's relation of this path
      of_row : (q : QName) → RelationOf opening q oid → IsStill (kind_of opening.pg_class oid) (kind_of cat.pg_class oid)
      of_row q r =
          let here = kind_kept r.row r.among in
          let there : kind_of opening.pg_class r.row.oid ≡ Some (relation_kind r.row.relkind) = ap (option_map (λ (c : ClassRow). relation_kind c.relkind)) (own_class opening well r.row r.among) in
          subst (λ (n : ℕ). IsStill (kind_of opening.pg_class n) (kind_of cat.pg_class n)) r.same (inr (here ∙ sym there))

      had : (q : QName) (o : Option ℕ) → get (opening_ids opening).ids (object (key.Rel q)) ≡ o → get ids.ids (object (key.Rel q)) ≡ Some oid → IsStill (kind_of opening.pg_class oid) (kind_of cat.pg_class oid)
      had q None old new = absurd (true≢false (sym used ∙ began.unused (object (key.Rel q)) oid old new))
      had q (Some n) old new =
          let now : Some n ≡ Some oid = sym (began.keep (object (key.Rel q)) n old) ∙ new in
          of_row q (relation_of opening q oid (old ∙ now))

      with_oid : (q : QName) (v : Value) → get named (key.Rel q) ≡ Some v → of_keys ids (key.Rel q) ≡ oid → (o : Option ℕ) → get ids.ids (object (key.Rel q)) ≡ o → IsStill (kind_of opening.pg_class oid) (kind_of cat.pg_class oid)
      with_oid q v there is None at =
          let nothing : is_no_oid (of_keys ids (key.Rel q)) ≡ true = ap (λ (o : Option ℕ). is_no_oid (unwrap_or o 0)) at in
          absurd (true≢false (sym nothing ∙ own.some (key.Rel q) v there refl))
      with_oid q v there is (Some n) at =
          let same : n ≡ oid = ap (λ (o : Option ℕ). unwrap_or o 0) (sym at) ∙ is in
          had q (get (opening_ids opening).ids (object (key.Rel q))) refl (at ∙ ap Some same)

      by : (o : Option ClassRow) → class_of cat.pg_class oid ≡ o → IsStill (kind_of opening.pg_class oid) (kind_of cat.pg_class oid)
      by None is = inl (ap (option_map (λ (c : ClassRow). relation_kind c.relkind)) is)
      by (Some row) is =
          let found = find_found (λ (c : ClassRow). same_oid oid c.oid) cat.pg_class row is in
          let thing = led.relations.only row found.0 in
          let same : of_keys ids (key.Rel thing.0.path) ≡ oid = sym thing.2.oid ∙ sym (same_oid-equal oid row.oid found.1) in
          with_oid thing.0.path thing.0.relation thing.1 same (get ids.ids (object (key.Rel thing.0.path))) refl

  -- ---- types

  -- a type of the opening is there, at its path
  pub record IsStillThere (oid : ℕ) : Type 0 where
    pub there : is_base_there cat.pg_type oid ≡ true
    pub path : is_no_oid oid ≡ false → path_of cat oid ≡ path_of opening oid

  type_kept : (oid : ℕ) → is_no_oid oid ≡ false → IsTypeOf opening oid → IsStillThere oid
  type_kept oid some t =
      let path = path_of_type opening well t.row t.among in
      let at = type_is_there opening well rows t.row t.among path.0 path.1 in
      let value = value_met named (key.UserType path.0, Asked.there) (grows.there (key.UserType path.0) refl (is_met opening rows (key.UserType path.0) at)) in
      let had : of_keys ids (key.UserType path.0) ≡ t.row.oid = ap (λ (o : Option ℕ). unwrap_or o 0) (began.keep (object (key.UserType path.0)) t.row.oid (types_keep opening well t.row path.0 t.among path.1)) in
      let same : of_keys ids (key.UserType path.0) ≡ oid = had ∙ sym t.same in
      let found = named_lookups.type_found texts named sound (of_keys ids) own cat led path.0 value.0 value.1 in
      let has : has_oid (type_oids cat.pg_type) oid ≡ true = ap (has_oid (type_oids cat.pg_type)) (sym same ∙ sym found.oid) ∙ has_mapped nat_cmp (λ (r : TypeRow). r.oid) cat.pg_type found.row (has_tie found.row.oid found.row.oid refl) (among_in cat.pg_type found.row found.among) in
      record {
        there = rw some has;
        path = λ not_none. ap (path_of cat) (sym same) ∙ named_lookups.type_path_found texts named sound (of_keys ids) own cat led path.0 value.0 value.1 ∙ sym (ap (option_and_then (type_path opening.pg_namespace)) t.found ∙ path.1);
      }

  base_kept : (oid : ℕ) → is_base_there opening.pg_type oid ≡ true → IsStillThere oid
  base_kept oid was = by (is_no_oid oid) refl
    where
      by : (b : Bool) → is_no_oid oid ≡ b → IsStillThere oid
      by true is = record { there = rw is refl; path = λ some. absurd (true≢false (sym is ∙ some)) }
      by false is = type_kept oid is (base_found opening oid was is)

  still_agrees : (oid : ℕ) (o : Option TypeName) → (is_no_oid oid ≡ false → path_of cat oid ≡ path_of opening oid) → agrees_if_named cat oid o ≡ agrees_if_named opening oid o
  still_agrees oid None paths = refl
  still_agrees oid (Some name) paths = by (is_no_oid oid) refl
    where
      by : (b : Bool) → is_no_oid oid ≡ b → cond b (is_without_row name) (is_at (path_of cat oid) name) ≡ cond b (is_without_row name) (is_at (path_of opening oid) name)
      by true is = refl
      by false is = ap (λ (p : Option QName). is_at p name) (paths is)

  -- ---- columns of what is no table

  abbrev is_other : AttributeRow → Bool
  is_other a = not (is_table (kind_of cat.pg_class a.attrelid))

  -- what a column of the opening leads to
  pub record LeadsOn (a : AttributeRow) : Type 0 where
    pub relation : has_columns (kind_of cat.pg_class a.attrelid) ≡ true
    pub type : IsStillThere a.atttypid

  leads_on : (a : AttributeRow) → IsAmong a opening.pg_attribute → LeadsOn a
  leads_on a among =
      let there = not_false _ (each_in (λ (r : AttributeRow). not (is_column_there opening r) ≡ false) opening.pg_attribute well.columns.there a among) in
      let parts = and_parts (has_columns (kind_of opening.pg_class a.attrelid)) (is_base_there opening.pg_type a.atttypid) there in
      let c = of_kind opening has_columns refl a.attrelid parts.0 in
      let kind : kind_of cat.pg_class a.attrelid ≡ Some (relation_kind c.0.row.relkind) = ap (kind_of cat.pg_class) c.0.same ∙ kind_kept c.0.row c.0.among in
      record { relation = ap has_columns kind ∙ c.1; type = base_kept a.atttypid parts.1 }

  column_there : (a : AttributeRow) → IsAmong a opening.pg_attribute → not (is_column_there cat a) ≡ false
  column_there a among =
      let on = leads_on a among in
      ap not (and_from (has_columns (kind_of cat.pg_class a.attrelid)) (is_base_there cat.pg_type a.atttypid) on.relation on.type.there)

  column_good : (a : AttributeRow) → IsAmong a opening.pg_attribute → (not (is_column_number a.attnum) || not (is_type_named cat a.atttypid a.typtext)) ≡ false
  column_good a among =
      ap (λ (b : Bool). not (is_column_number a.attnum) || not b) (still_agrees a.atttypid (type_named a.typtext) (leads_on a among).type.path)
      ∙ each_in (λ (r : AttributeRow). (not (is_column_number r.attnum) || not (is_type_named opening r.atttypid r.typtext)) ≡ false) opening.pg_attribute well.columns.texts a among

  columns_meet : Meets column_rules cat (other_columns cat.pg_class opening.pg_attribute)
  columns_meet = record {
    oids = no_keys nat_cmp (other_columns cat.pg_class opening.pg_attribute);
    names = some_distinct name_cmp (λ r. (column_rules.keys r).name) is_other opening.pg_attribute well.columns.names;
    places = some_distinct place_cmp (λ r. (column_rules.keys r).place) is_other opening.pg_attribute well.columns.places;
    marks = no_marks (other_columns cat.pg_class opening.pg_attribute);
    objects = λ i row at. refl;
    there = some_rows (λ (a : AttributeRow). not (is_column_there cat a) ≡ false) is_other opening.pg_attribute (λ a among kept. column_there a among);
    texts = some_rows (λ (a : AttributeRow). (not (is_column_number a.attnum) || not (is_type_named cat a.atttypid a.typtext)) ≡ false) is_other opening.pg_attribute (λ a among kept. column_good a among);
    inside = λ i row at. refl;
    needed = refl;
  }

  -- ---- dependencies

  depend_inside : (r : DependRow) → IsAmong r opening.pg_depend → depend_left_out cat r ≡ None
  depend_inside r among = by (same_oid r.classid class_of_relations && same_oid r.refclassid class_of_relations) (each_in (λ (d : DependRow). depend_left_out opening d ≡ None) opening.pg_depend well.depends.inside r among)
    where
      by : (b : Bool) → cond {A = Option What} b (dependency_left_out (kind_of opening.pg_class r.objid) (kind_of opening.pg_class r.refobjid) r.objsubid r.deptype) None ≡ None → cond {A = Option What} b (dependency_left_out (kind_of cat.pg_class r.objid) (kind_of cat.pg_class r.refobjid) r.objsubid r.deptype) None ≡ None
      by false inside = refl
      by true inside =
          let used = named_used opening.pg_depend (parts_given opening (objects_given opening (cluster_given opening none))) r (in_place opening.pg_depend r among) in
          still_inside (kind_of opening.pg_class r.objid) (kind_of opening.pg_class r.refobjid) (kind_of cat.pg_class r.objid) (kind_of cat.pg_class r.refobjid) r.objsubid r.deptype (kind_still r.objid used.0) (kind_still r.refobjid used.1) inside

  depends_meet : Meets depend_rules cat opening.pg_depend
  depends_meet = record {
    oids = no_keys nat_cmp opening.pg_depend;
    names = no_keys name_cmp opening.pg_depend;
    places = no_keys place_cmp opening.pg_depend;
    marks = no_marks opening.pg_depend;
    objects = λ i row at. refl;
    there = λ i row at. refl;
    texts = λ i row at. refl;
    inside = λ i row at. depend_inside row (i, at);
    needed = refl;
  }

  pub are_kept : KeepRows opening cat → AreKept cat
  are_kept keeps = record {
    view_columns = subst (Meets column_rules cat) (sym keeps.columns) columns_meet;
    depends = subst (Meets depend_rules cat) (sym keeps.depends) depends_meet;
  }
