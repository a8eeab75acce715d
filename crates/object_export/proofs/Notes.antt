-- Rows of what entries say of comments stand for the comments of a sound catalogue, where oids and numbers are apart.
use Rattle.std.proofs.Common.{◌≡◌, ◌⊎◌, inl, inr, ℕ, ◌<◌, ℤ, pos, true, false, true≢false, List, [], ◌∷◌, Some, filter_map, refl, sym, ap, ap₂, subst, ◌∙◌, arith}
use Rattle.std.proofs.lemmas.Option.{none-some}
use Rattle.std.proofs.lemmas.Cmp.{int_cmp_total}
use Rattle.std.specs.Cmp.{tied_itself}
use Rattle.std.specs.FinMap.{get, entries}
use Rattle.std.specs.List.{AllByRecursion, slice_get}
use Rattle.std.specs.Ordering.{int_cmp}
use Rattle.std.specs.declared.cmp.Ordering.TheVariants.{Less, Equal}
use Rattle.cat_rows.specs.declared.notes.DescriptionRow.{DescriptionRow}
use Rattle.cat_model.specs.declared.object.QName.{QName}
use Rattle.cat_model.specs.declared.object.Object.{Object}
use Rattle.cat_model.specs.declared.object.Object.TheVariants as object
use Rattle.cat_model.specs.declared.key.Key.TheVariants as key
use Rattle.cat_model.specs.declared.value.Value.TheVariants as value
use Rattle.cat_model.specs.declared.value.Column.{Column}
use Rattle.cat_model.specs.Values.{Bytes, Named}
use Rattle.cat_names.specs.Naming.{Entry}
use Rattle.text_tables.specs.Columns.{is_column_number}
use Rattle.cat_sound.specs.Asked.{Asked}
use Rattle.cat_sound.specs.Asks.{comment_asks}
use Rattle.cat_sound.specs.Itself.{has_comment}
use Rattle.cat_sound.specs.Sound.{IsMet, IsSound}
use Rattle.cat_sound.specs.Texts.{Texts}
use Rattle.cat_sound.proofs.Changes.{value_met}
use Rattle.named_tables.specs.Oids.{AreOids}
use Rattle.named_tables.specs.Standing.{AreRowsOf}
use Rattle.named_objects.specs.Oids.{ObjectOids, AreNumbers}
use Rattle.named_objects.specs.Constraints.{IsPlace, IsPlaceOf, NamedComment, IsComment, IsCommentRow}
use Rattle.named_objects.proofs.Columns.{ColumnOf, column_of}
use Rattle.named_objects.proofs.Found.{three_ways}
use Rattle.map_export.specs.Making.{AreSaid}
use Rattle.map_export.proofs.Named.{same_thing, stand_for}
use Rattle.object_export.specs.Parts.{comment_in}

-- a system table, an oid in it, and the number of a column
abbrev Mark : Type 0
Mark = ℕ × (ℕ × ℤ)

abbrev mark_of : ObjectOids → Object → Mark
mark_of oids (object.Schema name) = (2615, (oids.of (key.Schema name), pos 0))
mark_of oids (object.Type q) = (1247, (oids.of (key.UserType q), pos 0))
mark_of oids (object.Relation q) = (1259, (oids.of (key.Rel q), pos 0))
mark_of oids (object.Column q column) = (1259, (oids.of (key.Rel q), oids.number q column))
mark_of oids (object.Constraint q name) = (2606, (oids.of (key.Con q name), pos 0))
mark_of oids (object.Database name) = (0, (0, pos 0))

abbrev mark : DescriptionRow → Mark
mark row = (row.classoid, (row.objoid, row.objsubid))

of_place : (row : DescriptionRow) (table oid : ℕ) (number : ℤ) → IsPlace row table oid number → mark row ≡ (table, (oid, number))
of_place row table oid number place i = (place.in_table i, (place.of_oid i, place.of_number i))

marked : (oids : ObjectOids) (o : Object) (row : DescriptionRow) → IsPlaceOf oids o row → mark row ≡ mark_of oids o
marked oids (object.Schema name) row place = of_place row 2615 (oids.of (key.Schema name)) (pos 0) place
marked oids (object.Type q) row place = of_place row 1247 (oids.of (key.UserType q)) (pos 0) place
marked oids (object.Relation q) row place = of_place row 1259 (oids.of (key.Rel q)) (pos 0) place
marked oids (object.Column q column) row place = of_place row 1259 (oids.of (key.Rel q)) (oids.number q column) place
marked oids (object.Constraint q name) row place = of_place row 2606 (oids.of (key.Con q name)) (pos 0) place
marked oids (object.Database name) row place = absurd place

abbrev mark_at : ℕ → ℕ × ℤ → Mark
mark_at table place = (table, place)

-- marks of two system tables
tables_apart : (m n : ℕ) (a b : ℕ × ℤ) → (m ≡ n → ⊥) → mark_at m a ≡ mark_at n b → ⊥
tables_apart m n a b apart same = apart (ap (λ (x : Mark). x.0) same)

module _ (texts : Texts) (named : Named) (sound : IsSound texts named) (oids : ObjectOids) (own : AreOids named oids.of) (numbers : AreNumbers named oids.number) where
  -- what a comment is on is there
  abbrev IsThere : Object → Type 0
  IsThere o = AllByRecursion (IsMet named) (comment_asks o)

  -- the number of a column isn't 0
  no_zero : (q : QName) (name : Bytes) → ColumnOf named q name → oids.number q name ≡ pos 0 → ⊥
  no_zero q name c zero =
      let some : is_column_number (oids.number q name) ≡ true = ap (λ (n : Bytes). is_column_number (oids.number q n)) (sym c.named_so) ∙ numbers.from_one q c.columns c.place c.column c.there c.at in
      let none : is_column_number (oids.number q name) ≡ false = ap is_column_number zero in
      true≢false (sym some ∙ none)

  not_less : (m n : ℤ) → m ≡ n → int_cmp m n ≡ Less → ⊥
  not_less m n same less =
      let both : Less ≡ Equal = sym less ∙ ap (λ (x : ℤ). int_cmp x n) same ∙ tied_itself int_cmp_total n in
      cc

  -- columns of a table that have one number have one name
  one_name : (q : QName) (a b : Bytes) → ColumnOf named q a → ColumnOf named q b → oids.number q a ≡ oids.number q b → a ≡ b
  one_name q a b c d same =
      let tables : Some (value.Table c.columns) ≡ Some (value.Table d.columns) = sym c.there ∙ d.there in
      let columns : c.columns ≡ d.columns = cc in
      let at : slice_get c.columns d.place ≡ Some d.column = ap (λ (cs : List Column). slice_get cs d.place) columns ∙ d.at in
      let numbers_same : oids.number q c.column.name ≡ oids.number q d.column.name = ap (oids.number q) c.named_so ∙ same ∙ ap (oids.number q) (sym d.named_so) in
      by at numbers_same (three_ways c.place d.place)
    where
      by : slice_get c.columns d.place ≡ Some d.column → oids.number q c.column.name ≡ oids.number q d.column.name → (c.place < d.place) ⊎ ((d.place < c.place) ⊎ (c.place ≡ d.place)) → a ≡ b
      by at numbers_same (inl below) = absurd (not_less (oids.number q c.column.name) (oids.number q d.column.name) numbers_same (numbers.rises q c.columns c.place d.place c.column d.column c.there below c.at at))
      by at numbers_same (inr (inl below)) = absurd (not_less (oids.number q d.column.name) (oids.number q c.column.name) (sym numbers_same) (numbers.rises q c.columns d.place c.place d.column c.column c.there below at c.at))
      by at numbers_same (inr (inr e)) =
          let both : Some c.column ≡ Some d.column = sym c.at ∙ ap (slice_get c.columns) e ∙ at in
          sym c.named_so ∙ ap (λ (x : Column). x.name) (same_thing c.column d.column both) ∙ d.named_so

  -- objects of one mark

  one_schema : (a b : Bytes) → IsMet named (key.Schema a, Asked.there) → IsMet named (key.Schema b, Asked.there) → oids.of (key.Schema a) ≡ oids.of (key.Schema b) → object.Schema a ≡ object.Schema b
  one_schema a b one two same =
      let v = value_met named (key.Schema a, Asked.there) one in
      let w = value_met named (key.Schema b, Asked.there) two in
      let keys : key.Schema a ≡ key.Schema b = own.apart (key.Schema a) (key.Schema b) v.0 w.0 v.1 w.1 refl refl refl same in
      let names : a ≡ b = cc in
      ap object.Schema names

  one_type : (a b : QName) → IsMet named (key.UserType a, Asked.there) → IsMet named (key.UserType b, Asked.there) → oids.of (key.UserType a) ≡ oids.of (key.UserType b) → object.Type a ≡ object.Type b
  one_type a b one two same =
      let v = value_met named (key.UserType a, Asked.there) one in
      let w = value_met named (key.UserType b, Asked.there) two in
      let keys : key.UserType a ≡ key.UserType b = own.apart (key.UserType a) (key.UserType b) v.0 w.0 v.1 w.1 refl refl refl same in
      let paths : a ≡ b = cc in
      ap object.Type paths

  one_relation : (a b : QName) (ask ask_too : Asked) → IsMet named (key.Rel a, ask) → IsMet named (key.Rel b, ask_too) → oids.of (key.Rel a) ≡ oids.of (key.Rel b) → a ≡ b
  one_relation a b ask ask_too one two same =
      let v = value_met named (key.Rel a, ask) one in
      let w = value_met named (key.Rel b, ask_too) two in
      let keys : key.Rel a ≡ key.Rel b = own.apart (key.Rel a) (key.Rel b) v.0 w.0 v.1 w.1 refl refl refl same in
      cc

  one_constraint : (p q : QName) (a b : Bytes) → IsMet named (key.Con p a, Asked.there) → IsMet named (key.Con q b, Asked.there) → oids.of (key.Con p a) ≡ oids.of (key.Con q b) → object.Constraint p a ≡ object.Constraint q b
  one_constraint p q a b one two same =
      let v = value_met named (key.Con p a, Asked.there) one in
      let w = value_met named (key.Con q b, Asked.there) two in
      let keys : key.Con p a ≡ key.Con q b = own.apart (key.Con p a) (key.Con q b) v.0 w.0 v.1 w.1 refl refl refl same in
      let paths : p ≡ q = cc in
      let names : a ≡ b = cc in
      ap₂ object.Constraint paths names

  one_column : (p q : QName) (a b : Bytes) → IsMet named (key.Rel p, Asked.has_columns (a ∷ [])) → IsMet named (key.Rel q, Asked.has_columns (b ∷ [])) → oids.of (key.Rel p) ≡ oids.of (key.Rel q) → oids.number p a ≡ oids.number q b → object.Column p a ≡ object.Column q b
  one_column p q a b one two same number =
      let paths : p ≡ q = one_relation p q (Asked.has_columns (a ∷ [])) (Asked.has_columns (b ∷ [])) one two same in
      let two_there : IsMet named (key.Rel p, Asked.has_columns (b ∷ [])) = subst (λ (x : QName). IsMet named (key.Rel x, Asked.has_columns (b ∷ []))) (sym paths) two in
      let number_there : oids.number p a ≡ oids.number p b = number ∙ ap (λ (x : QName). oids.number x b) (sym paths) in
      ap₂ object.Column paths (one_name p a b (column_of named p a one) (column_of named p b two_there) number_there)

  abbrev oid_in : Mark → ℕ
  oid_in m = m.1.0

  abbrev number_in : Mark → ℤ
  number_in m = m.1.1

  one_object : (o p : Object) → has_comment o ≡ true → has_comment p ≡ true → IsThere o → IsThere p → mark_of oids o ≡ mark_of oids p → o ≡ p
  one_object (object.Schema a) (object.Schema b) has owns one two same = one_schema a b one.0 two.0 (ap oid_in same)
  one_object (object.Schema a) (object.Type b) has owns one two same = absurd (tables_apart 2615 1247 (oids.of (key.Schema a), pos 0) (oids.of (key.UserType b), pos 0) (λ e. omega (arith, e)) same)
  one_object (object.Schema a) (object.Relation b) has owns one two same = absurd (tables_apart 2615 1259 (oids.of (key.Schema a), pos 0) (oids.of (key.Rel b), pos 0) (λ e. omega (arith, e)) same)
  one_object (object.Schema a) (object.Column q b) has owns one two same = absurd (tables_apart 2615 1259 (oids.of (key.Schema a), pos 0) (oids.of (key.Rel q), oids.number q b) (λ e. omega (arith, e)) same)
  one_object (object.Schema a) (object.Constraint q b) has owns one two same = absurd (tables_apart 2615 2606 (oids.of (key.Schema a), pos 0) (oids.of (key.Con q b), pos 0) (λ e. omega (arith, e)) same)
  one_object (object.Type a) (object.Schema b) has owns one two same = absurd (tables_apart 1247 2615 (oids.of (key.UserType a), pos 0) (oids.of (key.Schema b), pos 0) (λ e. omega (arith, e)) same)
  one_object (object.Type a) (object.Type b) has owns one two same = one_type a b one.0 two.0 (ap oid_in same)
  one_object (object.Type a) (object.Relation b) has owns one two same = absurd (tables_apart 1247 1259 (oids.of (key.UserType a), pos 0) (oids.of (key.Rel b), pos 0) (λ e. omega (arith, e)) same)
  one_object (object.Type a) (object.Column q b) has owns one two same = absurd (tables_apart 1247 1259 (oids.of (key.UserType a), pos 0) (oids.of (key.Rel q), oids.number q b) (λ e. omega (arith, e)) same)
  one_object (object.Type a) (object.Constraint q b) has owns one two same = absurd (tables_apart 1247 2606 (oids.of (key.UserType a), pos 0) (oids.of (key.Con q b), pos 0) (λ e. omega (arith, e)) same)
  one_object (object.Relation a) (object.Schema b) has owns one two same = absurd (tables_apart 1259 2615 (oids.of (key.Rel a), pos 0) (oids.of (key.Schema b), pos 0) (λ e. omega (arith, e)) same)
  one_object (object.Relation a) (object.Type b) has owns one two same = absurd (tables_apart 1259 1247 (oids.of (key.Rel a), pos 0) (oids.of (key.UserType b), pos 0) (λ e. omega (arith, e)) same)
  one_object (object.Relation a) (object.Relation b) has owns one two same = ap object.Relation (one_relation a b Asked.there Asked.there one.0 two.0 (ap oid_in same))
  one_object (object.Relation a) (object.Column q b) has owns one two same = absurd (no_zero q b (column_of named q b two.0) (ap number_in (sym same)))
  one_object (object.Relation a) (object.Constraint q b) has owns one two same = absurd (tables_apart 1259 2606 (oids.of (key.Rel a), pos 0) (oids.of (key.Con q b), pos 0) (λ e. omega (arith, e)) same)
  one_object (object.Column p a) (object.Schema b) has owns one two same = absurd (tables_apart 1259 2615 (oids.of (key.Rel p), oids.number p a) (oids.of (key.Schema b), pos 0) (λ e. omega (arith, e)) same)
  one_object (object.Column p a) (object.Type b) has owns one two same = absurd (tables_apart 1259 1247 (oids.of (key.Rel p), oids.number p a) (oids.of (key.UserType b), pos 0) (λ e. omega (arith, e)) same)
  one_object (object.Column p a) (object.Relation b) has owns one two same = absurd (no_zero p a (column_of named p a one.0) (ap number_in same))
  one_object (object.Column p a) (object.Column q b) has owns one two same = one_column p q a b one.0 two.0 (ap oid_in same) (ap number_in same)
  one_object (object.Column p a) (object.Constraint q b) has owns one two same = absurd (tables_apart 1259 2606 (oids.of (key.Rel p), oids.number p a) (oids.of (key.Con q b), pos 0) (λ e. omega (arith, e)) same)
  one_object (object.Constraint p a) (object.Schema b) has owns one two same = absurd (tables_apart 2606 2615 (oids.of (key.Con p a), pos 0) (oids.of (key.Schema b), pos 0) (λ e. omega (arith, e)) same)
  one_object (object.Constraint p a) (object.Type b) has owns one two same = absurd (tables_apart 2606 1247 (oids.of (key.Con p a), pos 0) (oids.of (key.UserType b), pos 0) (λ e. omega (arith, e)) same)
  one_object (object.Constraint p a) (object.Relation b) has owns one two same = absurd (tables_apart 2606 1259 (oids.of (key.Con p a), pos 0) (oids.of (key.Rel b), pos 0) (λ e. omega (arith, e)) same)
  one_object (object.Constraint p a) (object.Column q b) has owns one two same = absurd (tables_apart 2606 1259 (oids.of (key.Con p a), pos 0) (oids.of (key.Rel q), oids.number q b) (λ e. omega (arith, e)) same)
  one_object (object.Constraint p a) (object.Constraint q b) has owns one two same = one_constraint p q a b one.0 two.0 (ap oid_in same)
  one_object (object.Database a) p has owns one two same = absurd (true≢false (sym has))
  one_object o (object.Database b) has owns one two same = absurd (true≢false (sym owns))

  is_comment : (e : Entry) (c : NamedComment) → get named e.0 ≡ Some e.1 → comment_in e ≡ Some c → IsComment named c × (key.Comment c.object ≡ e.0)
  is_comment (key.Comment o, value.Comment text) c there says =
      subst (λ (d : NamedComment). IsComment named d × (key.Comment d.object ≡ key.Comment o)) (same_thing (record { object = o; text = text }) c says) (there, refl)
  is_comment e c there says = absurd (none-some c says)

  pub comments_stand : (rows : List DescriptionRow) → AreSaid (IsCommentRow oids) (filter_map comment_in (entries named)) rows → AreRowsOf (IsComment named) (IsCommentRow oids) rows
  comments_stand rows said =
      stand_for named (IsComment named) (IsCommentRow oids) (λ c. key.Comment c.object) mark (λ c. mark_of oids c.object)
      (λ c row is. marked oids c.object row is.place)
      (λ c d one two same.
      let a = sound.each (key.Comment c.object) (value.Comment c.text) one in
      let b = sound.each (key.Comment d.object) (value.Comment d.text) two in
      ap key.Comment (one_object c.object d.object a.own b.own a.others b.others same))
      comment_in
      (λ c there. (value.Comment c.text, there, refl))
      is_comment rows said
