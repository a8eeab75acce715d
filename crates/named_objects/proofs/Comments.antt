-- The rows of pg_description: they meet the table's conditions, and stand for the comments.
use Rattle.std.proofs.Common.{◌≡◌, ℕ, zero, suc, ◌==◌, ℤ, pos, negsuc, Bool, true, false, not, ◌&&◌, List, [], ◌∷◌, Option, Some, None, is_some, option_map, option_and_then, unwrap_or, refl, ap, sym, subst, ◌∙◌, inl, arith}
use Rattle.std.proofs.lemmas.Bool.Decides.{Decides-eqb}
use Rattle.std.specs.Ordering.{nat_cmp, eq_by_cmp}
use Rattle.std.specs.FinMap.{get}
use Rattle.std.specs.List.{AllByRecursion, flat_map, filter}
use Rattle.cat_rows.specs.declared.catalogue.Catalogue.{Catalogue}
use Rattle.cat_rows.specs.declared.constraints.ConstraintRow.{ConstraintRow}
use Rattle.cat_rows.specs.declared.notes.DescriptionRow.{DescriptionRow}
use Rattle.cat_rows.specs.declared.schemas.NamespaceRow.{NamespaceRow}
use Rattle.cat_model.specs.declared.object.QName.{QName}
use Rattle.cat_model.specs.declared.object.Object.{Object}
use Rattle.cat_model.specs.declared.object.Object.TheVariants as object
use Rattle.cat_model.specs.declared.key.Key.{Key}
use Rattle.cat_model.specs.declared.key.Key.TheVariants as key
use Rattle.cat_model.specs.declared.value.Value.{Value}
use Rattle.cat_model.specs.declared.value.Value.TheVariants as value
use Rattle.cat_model.specs.declared.value.Constraint.{Constraint}
use Rattle.cat_model.specs.Values.{Bytes, Named}
use Rattle.cat_names.specs.Naming.{Entry}
use Rattle.cat_book.specs.Meets.{Meets}
use Rattle.cat_book.specs.Paths.{class_path_of}
use Rattle.cat_book.specs.Rules.{RowName, name_cmp, place_cmp}
use Rattle.plain_tables.specs.Comments as comments
use Rattle.plain_tables.specs.Comments.{comment_class, is_whole, is_commented_there, is_left_out, comment_left_out, comment_rules}
use Rattle.well_formed.specs.Columns.{is_column_number}
use Rattle.cat_naming.specs.Comments.{commented_object, constraint_object, relation_object, with_object, comment_entries}
use Rattle.cat_sound.specs.Asked.{Asked}
use Rattle.cat_sound.specs.Asks.{comment_asks}
use Rattle.cat_sound.specs.Itself.{has_comment}
use Rattle.cat_sound.specs.Texts.{Texts}
use Rattle.cat_sound.specs.Sound.{IsMet, IsSound}
use Rattle.cat_sound.proofs.Changes.{value_met}
use Rattle.cat_sound.proofs.Lists.{IsIn}
use Rattle.named_tables.specs.Oids.{AreOids}
use Rattle.named_tables.specs.Standing.{AreRowsOf}
use Rattle.named_tables.proofs.Ties.{tie}
use Rattle.named_tables.proofs.Rows.{name_cmp-IsAntisymmetric, each_row, distinct_keys, no_keys, no_marks}
use Rattle.named_tables.proofs.Entries.{AreEntries, IsHeld, rows_give}
use Rattle.named_objects.specs.Oids.{ObjectOids, AreNumbers, AreCheckOids}
use Rattle.named_objects.specs.Relations.{IsColumn, IsColumnRow}
use Rattle.named_objects.specs.Constraints.{IsConstrained, IsConstrainedRow, IsPlace, IsPlaceOf, NamedComment, IsComment, IsCommentRow}
use Rattle.named_objects.specs.Kinds.{of_comments}
use Rattle.named_objects.proofs.Lookups.{AreLedTo, schema_found, has_schema_oid, class_path_found, kind_found, type_found, type_path_found}
use Rattle.named_objects.proofs.Columns.{column_of, is_of_table, column_name_found, has_number_found}
use Rattle.named_objects.proofs.Constraints.{constraint_found, FoundConstraint}

-- a row's place alone
abbrev placed : ℕ → ℕ → ℤ → DescriptionRow → DescriptionRow
placed table oid number row = record { objoid = oid; classoid = table; objsubid = number; description = row.description }

at_place : {A : Type 0} (f : DescriptionRow → A) (row : DescriptionRow) (table oid : ℕ) (number : ℤ) → IsPlace row table oid number → f row ≡ f (placed table oid number row)
at_place f row table oid number place = λ i. f (record { objoid = place.of_oid i; classoid = place.in_table i; objsubid = place.of_number i; description = row.description })

-- the number of a column isn't that of a whole object
no_whole : (n : ℤ) → is_column_number n ≡ true → is_whole n ≡ false
no_whole (pos zero) e = cc
no_whole (pos (suc n)) e = by (suc n == 0) refl
  where
    by : (b : Bool) → (suc n == 0) ≡ b → b ≡ false
    by false h = refl
    by true h = let zero : suc n ≡ 0 = (Decides-eqb (suc n) 0).0 h in absurd (omega (arith, zero))
no_whole (negsuc n) e = refl

module _ (texts : Texts) (named : Named) (sound : IsSound texts named) (oids : ObjectOids) (own : AreOids named oids.of) (numbers : AreNumbers named oids.number) (checks : AreCheckOids named oids) (cat : Catalogue) (led : AreLedTo named oids.of cat) (columns : AreRowsOf (IsColumn named) (IsColumnRow oids) (filter (is_of_table cat) cat.pg_attribute)) (constraints : AreRowsOf (IsConstrained named) (IsConstrainedRow oids) cat.pg_constraint) (are : AreRowsOf (IsComment named) (IsCommentRow oids) cat.pg_description) where
  -- what a comment is on is there
  abbrev IsThere : Object → Type 0
  IsThere o = AllByRecursion (IsMet named) (comment_asks o)

  -- a constraint by its key
  record OfKey (q : QName) (name : Bytes) : Type 0 where
    constraint : Constraint
    there : get named (key.Con q name) ≡ Some (value.Constraint constraint)

  of_key : (q : QName) (name : Bytes) (v : Value) → get named (key.Con q name) ≡ Some v → OfKey q name
  of_key q name (value.Constraint c) is = record { constraint = c; there = is }
  of_key q name v is = elim (sound.each (key.Con q name) v is).own [ ]

  constraint_row : (q : QName) (name : Bytes) → IsMet named (key.Con q name, Asked.there) → (c : OfKey q name) × FoundConstraint texts named sound oids own cat led constraints (record { table = q; name = name; constraint = c.constraint })
  constraint_row q name met =
      let found = value_met named (key.Con q name, Asked.there) met in
      let c = of_key q name found.0 found.1 in
      (c, constraint_found texts named sound oids own cat led constraints checks (record { table = q; name = name; constraint = c.constraint }) c.there)

  -- ---- the object

  said_at : (o : Object) (row : DescriptionRow) → has_comment o ≡ true → IsThere o → IsPlaceOf oids o row → commented_object cat row ≡ Some o
  said_at (object.Schema name) row has there place =
      let at = schema_found texts named sound oids.of own cat led name there.0 in
      at_place (commented_object cat) row 2615 (oids.of (key.Schema name)) (pos 0) place
      ∙ ap (option_map (λ (s : NamespaceRow). object.Schema s.nspname)) at.found
      ∙ ap (λ (n : Bytes). Some (object.Schema n)) at.named_so
  said_at (object.Type q) row has there place =
      let found = value_met named (key.UserType q, Asked.there) there.0 in
      at_place (commented_object cat) row 1247 (oids.of (key.UserType q)) (pos 0) place
      ∙ ap (option_map object.Type) (type_path_found texts named sound oids.of own cat led q found.0 found.1)
  said_at (object.Relation q) row has there place =
      let found = value_met named (key.Rel q, Asked.there) there.0 in
      at_place (commented_object cat) row 1259 (oids.of (key.Rel q)) (pos 0) place
      ∙ ap (option_and_then (relation_object cat (placed 1259 (oids.of (key.Rel q)) (pos 0) row))) (class_path_found texts named sound oids.of own cat led q found.0 found.1)
  said_at (object.Column q name) row has there place =
      let c = column_of named q name there.0 in
      let whole : is_whole (oids.number q name) ≡ false = no_whole (oids.number q name) (ap (λ (n : Bytes). is_column_number (oids.number q n)) (sym c.named_so) ∙ numbers.from_one q c.columns c.place c.column c.there c.at) in
      at_place (commented_object cat) row 1259 (oids.of (key.Rel q)) (oids.number q name) place
      ∙ ap (option_and_then (relation_object cat (placed 1259 (oids.of (key.Rel q)) (oids.number q name) row))) (class_path_found texts named sound oids.of own cat led q (value.Table c.columns) c.there)
      ∙ rw (whole, column_name_found texts named sound oids own numbers cat led columns q name c) refl
  said_at (object.Constraint q name) row has there place =
      let at = constraint_row q name there.0 in
      let table = value_met named (key.Rel q, Asked.has_columns at.0.constraint.columns) (sound.each (key.Con q name) (value.Constraint at.0.constraint) at.0.there).others.0 in
      at_place (commented_object cat) row 2606 (oids.of (key.Con q name)) (pos 0) place
      ∙ ap (option_and_then (constraint_object cat)) at.1.found
      ∙ ap (λ (n : ℕ). option_map (λ (t : QName). object.Constraint t at.1.row.conname) (class_path_of cat n)) at.1.says.table
      ∙ ap (option_map (λ (t : QName). object.Constraint t at.1.row.conname)) (class_path_found texts named sound oids.of own cat led q table.0 table.1)
      ∙ ap (λ (n : Bytes). Some (object.Constraint q n)) at.1.says.name
  said_at (object.Database name) row has there place = elim place [ ]

  -- what is known of a comment that is there
  record Known (t : NamedComment) : Type 0 where
    kind : has_comment t.object ≡ true
    there : IsThere t.object

  known : (t : NamedComment) → IsComment named t → Known t
  known t is = let at = sound.each (key.Comment t.object) (value.Comment t.text) is in record { kind = at.own; there = at.others }

  said : (t : NamedComment) (row : DescriptionRow) → IsComment named t → IsCommentRow oids t row → commented_object cat row ≡ Some t.object
  said t row is at = let k = known t is in said_at t.object row k.kind k.there at.place

  -- ---- the conditions

  same_name : (t s : NamedComment) (a b : DescriptionRow) (k l : RowName) → IsComment named t → IsComment named s → IsCommentRow oids t a → IsCommentRow oids s b → Some (a.classoid, a.objoid, a.objsubid, []) ≡ Some k → Some (b.classoid, b.objoid, b.objsubid, []) ≡ Some l → eq_by_cmp name_cmp l k ≡ true → t ≡ s
  same_name t s a b k l is_t is_s at_a at_b is_k is_l ties =
      let names : l ≡ k = tie name_cmp-IsAntisymmetric l k ties in
      let first : (a.classoid, a.objoid, a.objsubid, []) ≡ k = ap (λ (o : Option RowName). unwrap_or o k) is_k in
      let second : (b.classoid, b.objoid, b.objsubid, []) ≡ l = ap (λ (o : Option RowName). unwrap_or o l) is_l in
      let all = first ∙ sym names ∙ sym second in
      let alike : commented_object cat a ≡ commented_object cat b = at_place (commented_object cat) a b.classoid b.objoid b.objsubid (record { in_table = ap (λ (n : RowName). n.0) all; of_oid = ap (λ (n : RowName). n.1) all; of_number = ap (λ (n : RowName). n.2) all }) in
      let both : Some t.object ≡ Some s.object = sym (said t a is_t at_a) ∙ alike ∙ said s b is_s at_b in
      let objects : t.object ≡ s.object = ap (λ (o : Option Object). unwrap_or o t.object) both in
      let values : Some (value.Comment t.text) ≡ Some (value.Comment s.text) = sym is_t ∙ ap (λ (o : Object). get named (key.Comment o)) objects ∙ is_s in
      let same : value.Comment t.text ≡ value.Comment s.text = ap (λ (o : Option Value). unwrap_or o (value.Comment t.text)) values in
      let words : t.text ≡ s.text = cc in
      λ i. record { object = objects i; text = words i }

  found_there : {A : Type 0} (o : Option A) (x : A) → o ≡ Some x → is_some o ≡ true
  found_there o x e = ap is_some e

  abbrev commented : DescriptionRow → Bool
  commented row = is_commented_there cat (comment_class row.classoid) row

  there_at : (o : Object) (row : DescriptionRow) → IsThere o → IsPlaceOf oids o row → commented row ≡ true
  there_at (object.Schema name) row there place = at_place commented row 2615 (oids.of (key.Schema name)) (pos 0) place ∙ has_schema_oid texts named sound oids.of own cat led name there.0
  there_at (object.Type q) row there place =
      let found = value_met named (key.UserType q, Asked.there) there.0 in
      at_place commented row 1247 (oids.of (key.UserType q)) (pos 0) place ∙ ap is_some (type_found texts named sound oids.of own cat led q found.0 found.1).found
  there_at (object.Relation q) row there place =
      let found = value_met named (key.Rel q, Asked.there) there.0 in
      at_place commented row 1259 (oids.of (key.Rel q)) (pos 0) place ∙ ap is_some (kind_found texts named sound oids.of own cat led q found.0 found.1)
  there_at (object.Column q name) row there place =
      let c = column_of named q name there.0 in
      let whole : is_whole (oids.number q name) ≡ false = no_whole (oids.number q name) (ap (λ (n : Bytes). is_column_number (oids.number q n)) (sym c.named_so) ∙ numbers.from_one q c.columns c.place c.column c.there c.at) in
      at_place commented row 1259 (oids.of (key.Rel q)) (oids.number q name) place
      ∙ rw (whole, kind_found texts named sound oids.of own cat led q (value.Table c.columns) c.there, has_number_found texts named sound oids own numbers cat led columns q name c) refl
  there_at (object.Constraint q name) row there place =
      let at = constraint_row q name there.0 in
      at_place commented row 2606 (oids.of (key.Con q name)) (pos 0) place ∙ ap is_some at.1.found
  there_at (object.Database name) row there place = elim place [ ]

  abbrev left_out : DescriptionRow → Bool
  left_out row = is_left_out cat (comment_class row.classoid) row

  inside_at : (o : Object) (row : DescriptionRow) → IsThere o → IsPlaceOf oids o row → left_out row ≡ false
  inside_at (object.Schema name) row there place = at_place left_out row 2615 (oids.of (key.Schema name)) (pos 0) place
  inside_at (object.Type q) row there place = at_place left_out row 1247 (oids.of (key.UserType q)) (pos 0) place
  inside_at (object.Relation q) row there place = at_place left_out row 1259 (oids.of (key.Rel q)) (pos 0) place
  inside_at (object.Column q name) row there place =
      let c = column_of named q name there.0 in
      at_place left_out row 1259 (oids.of (key.Rel q)) (oids.number q name) place
      ∙ rw (kind_found texts named sound oids.of own cat led q (value.Table c.columns) c.there) (and_false (not (is_whole (oids.number q name))))
    where
      and_false : (b : Bool) → b && false ≡ false
      and_false true = refl
      and_false false = refl
  inside_at (object.Constraint q name) row there place =
      let at = constraint_row q name there.0 in
      at_place left_out row 2606 (oids.of (key.Con q name)) (pos 0) place
      ∙ ap (λ (o : Option ConstraintRow). not (comments.is_of_table o)) at.1.found
      ∙ ap (λ (n : ℕ). not (n == 0)) at.1.says.no_domain
  inside_at (object.Database name) row there place = elim place [ ]

  pub comments_meet : Meets comment_rules cat cat.pg_description
  comments_meet = record {
    oids = no_keys nat_cmp cat.pg_description;
    names = distinct_keys (IsComment named) (IsCommentRow oids) cat.pg_description are name_cmp (λ r. Some (r.classoid, r.objoid, r.objsubid, [])) same_name;
    places = no_keys place_cmp cat.pg_description;
    marks = no_marks cat.pg_description;
    objects = λ i row at. refl;
    there = each_row (IsComment named) (IsCommentRow oids) cat.pg_description are (λ row. not (commented row) ≡ false) (λ t row is at. ap not (there_at t.object row (known t is).there at.place));
    texts = λ i row at. refl;
    inside = each_row (IsComment named) (IsCommentRow oids) cat.pg_description are (λ row. comment_left_out (left_out row) ≡ None) (λ t row is at. ap comment_left_out (inside_at t.object row (known t is).there at.place));
    needed = refl;
  }

  -- ---- by names

  gives : (t : NamedComment) (row : DescriptionRow) → IsComment named t → IsCommentRow oids t row → (key.Comment t.object, value.Comment t.text) ∷ [] ≡ comment_entries cat row
  gives t row is at =
      sym (
      ap (with_object row) (said t row is at)
      ∙ ap (λ (x : Bytes). (key.Comment t.object, value.Comment x) ∷ []) at.text)

  comments_held : (t : NamedComment) (row : DescriptionRow) → IsComment named t → IsCommentRow oids t row → AllByRecursion (IsHeld named of_comments) (comment_entries cat row)
  comments_held t row is at = subst (λ (es : List Entry). AllByRecursion (IsHeld named of_comments) es) (gives t row is at) ((is, refl), tt)

  comment_at : (o : Object) (v : Value) → get named (key.Comment o) ≡ Some v → (text : Bytes) × (v ≡ value.Comment text)
  comment_at o (value.Comment text) is = (text, refl)
  comment_at o v is = elim (sound.each (key.Comment o) v is).own [ ]

  comment_covers : (k : Key) (v : Value) → get named k ≡ Some v → of_comments k ≡ true → (t : NamedComment) × IsComment named t × ((row : DescriptionRow) → IsCommentRow oids t row → IsIn (k, v) (comment_entries cat row))
  comment_covers (key.Comment o) v is kind =
      let found = comment_at o v is in
      let met : get named (key.Comment o) ≡ Some (value.Comment found.0) = is ∙ ap Some found.1 in (
        record { object = o; text = found.0 },
        met,
        λ row at. subst (IsIn (key.Comment o, v)) (gives (record { object = o; text = found.0 }) row met at) (inl (λ i. (key.Comment o, sym found.1 i))),
      )
  comment_covers k v is kind = cc

  pub comments_stand : AreEntries named of_comments (flat_map (comment_entries cat) cat.pg_description)
  comments_stand = rows_give (IsComment named) (IsCommentRow oids) cat.pg_description are named of_comments (comment_entries cat) comments_held comment_covers
