-- The rows of pg_sequence: they meet the table's conditions, and stand for the sequences, their values, and the columns
-- that own them.
use Rattle.std.proofs.Common.{◌≡◌, ℕ, ℤ, ◌==◌, Bool, true, false, not, ◌&&◌, List, [], ◌∷◌, Option, Some, None, option_map, refl, ap, sym, subst, ◌∙◌, inl, inr, if◌then◌else◌}
use Rattle.std.specs.Ordering.{nat_cmp, eq_by_cmp}
use Rattle.std.specs.FinMap.{get}
use Rattle.std.specs.List.{AllByRecursion, flat_map, filter}
use Rattle.cat_rows.specs.declared.catalogue.Catalogue.{Catalogue}
use Rattle.cat_rows.specs.declared.sequences.SequenceRow.{SequenceRow}
use Rattle.cat_model.specs.declared.object.QName.{QName}
use Rattle.cat_model.specs.declared.constraint.SequenceKind.{SequenceKind}
use Rattle.cat_model.specs.declared.key.Key.{Key}
use Rattle.cat_model.specs.declared.key.Key.TheVariants as key
use Rattle.cat_model.specs.declared.value.Value.{Value}
use Rattle.cat_model.specs.declared.value.Value.TheVariants as value
use Rattle.cat_model.specs.declared.value.Sequence.{Sequence}
use Rattle.cat_model.specs.Conditions as conditions
use Rattle.cat_model.specs.RelationEffects.{fits_sequence, within}
use Rattle.cat_model.specs.Values.{Bytes, Named}
use Rattle.cat_names.specs.Kinds.{kind_of, is_table, is_sequence}
use Rattle.cat_names.specs.Lookups.{is_no_oid}
use Rattle.cat_names.specs.Naming.{Entry, under}
use Rattle.cat_book.specs.Leads.{has_number}
use Rattle.cat_book.specs.Meets.{Meets}
use Rattle.cat_book.specs.Paths.{class_path_of}
use Rattle.cat_book.specs.Rules.{name_cmp, place_cmp}
use Rattle.cat_naming.specs.Found.{column_name}
use Rattle.row_texts.specs.SequenceTypes.{sequence_kind}
use Rattle.well_formed.specs.Sequences as sequences
use Rattle.well_formed.specs.Sequences.{numbers, has_good_numbers, is_owner_there, sequence_rules}
use Rattle.cat_naming.specs.Types.{under_path, with_value}
use Rattle.cat_naming.specs.Relations.{owner_entries, sequence_entries}
use Rattle.cat_sound.specs.Asked as asked
use Rattle.cat_sound.specs.Asked.{Asked}
use Rattle.cat_sound.specs.Texts.{Texts}
use Rattle.cat_sound.specs.Sound.{IsSound}
use Rattle.cat_sound.proofs.Changes.{value_met}
use Rattle.cat_sound.proofs.Lists.{IsIn}
use Rattle.named_tables.specs.Oids.{AreOids}
use Rattle.named_tables.specs.Standing.{AreRowsOf}
use Rattle.named_tables.proofs.Owned.{met_by}
use Rattle.named_tables.proofs.Rows.{one_oid, each_row, distinct_keys, no_keys, no_marks}
use Rattle.named_objects.specs.Oids.{ObjectOids, AreNumbers}
use Rattle.named_objects.specs.Relations.{IsColumn, IsColumnRow, NamedSequence, IsSequence, IsOwnerOf, IsSequenceRow}
use Rattle.named_objects.specs.Kinds.{of_sequences}
use Rattle.named_objects.proofs.Lookups.{AreLedTo, class_path_found, kind_found}
use Rattle.named_objects.proofs.Columns.{ColumnOf, column_of, is_of_table, column_name_found, has_number_found}
use Rattle.named_objects.proofs.Held.{AreEntriesAt, IsHeldAt, rows_give_at}

sequence_only : (v : Value) → conditions.is_sequence v ≡ true → (s : Sequence) × (v ≡ value.Sequence s)
sequence_only (value.Sequence s) e = (s, refl)
sequence_only v e = cc

either_way : (b c : Bool) → c ≡ true → (if b then true else c) ≡ true
either_way true c e = refl
either_way false c e = e

module _ (texts : Texts) (named : Named) (sound : IsSound texts named) (oids : ObjectOids) (own : AreOids named oids.of) (counted : AreNumbers named oids.number) (cat : Catalogue) (led : AreLedTo named oids.of cat) (columns : AreRowsOf (IsColumn named) (IsColumnRow oids) (filter (is_of_table cat) cat.pg_attribute)) (are : AreRowsOf (IsSequence named) (IsSequenceRow named oids) cat.pg_sequence) where
  same_sequence : (t s : NamedSequence) → IsSequence named t → IsSequence named s → t.path ≡ s.path → t ≡ s
  same_sequence t s is_t is_s paths =
      let there : Some (value.Sequence t.sequence) ≡ Some (value.Sequence s.sequence) = sym is_t.there ∙ ap (λ (q : QName). get named (key.Rel q)) paths ∙ is_s.there in
      let sequence : t.sequence ≡ s.sequence = cc in
      let values : Some (value.SequenceValue t.last t.called) ≡ Some (value.SequenceValue s.last s.called) = sym is_t.value ∙ ap (λ (q : QName). get named (key.SeqVal q)) paths ∙ is_s.value in
      let last : t.last ≡ s.last = cc in
      let called : t.called ≡ s.called = cc in
      λ i. record { path = paths i; sequence = sequence i; last = last i; called = called i }

  same_key : (t s : NamedSequence) (a b : SequenceRow) (k l : ℕ) → IsSequence named t → IsSequence named s → IsSequenceRow named oids t a → IsSequenceRow named oids s b → Some a.seqrelid ≡ Some k → Some b.seqrelid ≡ Some l → eq_by_cmp nat_cmp l k ≡ true → t ≡ s
  same_key t s a b k l is_t is_s at_a at_b is_k is_l ties =
      let equal : oids.of (key.Rel t.path) ≡ oids.of (key.Rel s.path) = sym at_a.relation ∙ one_oid a.seqrelid b.seqrelid k l is_k is_l ties ∙ at_b.relation in
      let keys : key.Rel t.path ≡ key.Rel s.path = own.apart (key.Rel t.path) (key.Rel s.path) (value.Sequence t.sequence) (value.Sequence s.sequence) is_t.there is_s.there refl refl refl equal in
      same_sequence t s is_t is_s cc

  -- ---- the column that owns a sequence

  owned_at : (q : QName) (v : Value) → get named (key.OwnedBy q) ≡ Some v → (table : QName) × (column : Bytes) × (v ≡ value.OwnedBy table column)
  owned_at q (value.OwnedBy table column) is = (table, column, refl)
  owned_at q v is = elim (sound.each (key.OwnedBy q) v is).own [ ]

  owning : (q : QName) (table : QName) (column : Bytes) → get named (key.OwnedBy q) ≡ Some (value.OwnedBy table column) → ColumnOf named table column
  owning q table column is = column_of named table column (sound.each (key.OwnedBy q) (value.OwnedBy table column) is).others.1.0

  owner_there : (q : QName) (row : SequenceRow) (o : Option Value) → get named (key.OwnedBy q) ≡ o → IsOwnerOf oids o row.ownrel row.owncol → is_owner_there cat row ≡ true
  owner_there q row None is at = ap (λ (n : ℕ). if n == 0 then true else (is_table (kind_of cat.pg_class n) && has_number cat n row.owncol)) at
  owner_there q row (Some (value.OwnedBy table column)) is at =
      let c = owning q table column is in
      (λ i. if at.0 i == 0 then true else (is_table (kind_of cat.pg_class (at.0 i)) && has_number cat (at.0 i) (at.1 i)))
      ∙ either_way (oids.of (key.Rel table) == 0) (is_table (kind_of cat.pg_class (oids.of (key.Rel table))) && has_number cat (oids.of (key.Rel table)) (oids.number table column))
      (rw (kind_found texts named sound oids.of own cat led table (value.Table c.columns) c.there, has_number_found texts named sound oids own counted cat led columns table column c) refl)
  owner_there q row (Some v) is at = elim at [ ]

  there : (t : NamedSequence) (row : SequenceRow) → IsSequence named t → IsSequenceRow named oids t row → sequences.is_there cat row ≡ true
  there t row is at =
      let of_kind : is_sequence (kind_of cat.pg_class row.seqrelid) ≡ true = ap (λ (n : ℕ). is_sequence (kind_of cat.pg_class n)) at.relation ∙ ap is_sequence (kind_found texts named sound oids.of own cat led t.path (value.Sequence t.sequence) is.there) in
      rw (of_kind, owner_there t.path row (get named (key.OwnedBy t.path)) refl at.owner) refl

  good : (t : NamedSequence) (row : SequenceRow) → IsSequence named t → IsSequenceRow named oids t row → has_good_numbers (sequence_kind row.seqtype) row ≡ true
  good t row is at =
      let fits : fits_sequence (numbers t.sequence.kind row) ≡ true = ap fits_sequence at.numbers ∙ (sound.each (key.Rel t.path) (value.Sequence t.sequence) is.there).own in
      let lies : within t.sequence.min t.sequence.max t.last ≡ true = met_by named (key.Rel t.path, Asked.counts t.last) (value.Sequence t.sequence) is.there (sound.each (key.SeqVal t.path) (value.SequenceValue t.last t.called) is.value).others.0 in
      let inside : within row.seqmin row.seqmax row.last_value ≡ true = (λ i. within (at.numbers i).min (at.numbers i).max (at.last i)) ∙ lies in
      ap (λ (o : Option SequenceKind). has_good_numbers o row) at.type ∙ rw (fits, inside) refl

  pub sequences_meet : Meets sequence_rules cat cat.pg_sequence
  sequences_meet = record {
    oids = distinct_keys (IsSequence named) (IsSequenceRow named oids) cat.pg_sequence are nat_cmp (λ r. Some r.seqrelid) same_key;
    names = no_keys name_cmp cat.pg_sequence;
    places = no_keys place_cmp cat.pg_sequence;
    marks = no_marks cat.pg_sequence;
    objects = each_row (IsSequence named) (IsSequenceRow named oids) cat.pg_sequence are (λ row. is_no_oid row.seqrelid ≡ false) (λ t row is at. ap is_no_oid at.relation ∙ own.some (key.Rel t.path) (value.Sequence t.sequence) is.there refl);
    there = each_row (IsSequence named) (IsSequenceRow named oids) cat.pg_sequence are (λ row. not (sequences.is_there cat row) ≡ false) (λ t row is at. ap not (there t row is at));
    texts = each_row (IsSequence named) (IsSequenceRow named oids) cat.pg_sequence are (λ row. not (has_good_numbers (sequence_kind row.seqtype) row) ≡ false) (λ t row is at. ap not (good t row is at));
    inside = λ i row at. refl;
    needed = refl;
  }

  -- ---- by names

  -- what its owner gives
  abbrev owned_by : QName → Option Value → List Entry
  owned_by q (Some (value.OwnedBy table column)) = (key.OwnedBy q, value.OwnedBy table column) ∷ []
  owned_by q _ = []

  owner_gives : (q : QName) (row : SequenceRow) (o : Option Value) → get named (key.OwnedBy q) ≡ o → IsOwnerOf oids o row.ownrel row.owncol → owner_entries cat row q ≡ owned_by q o
  owner_gives q row None is at = ap (λ (n : ℕ). if is_no_oid n then [] else under_path (class_path_of cat n) (λ table. under (column_name cat n row.owncol) (λ column. (key.OwnedBy q, value.OwnedBy table column) ∷ []))) at
  owner_gives q row (Some (value.OwnedBy table column)) is at =
      let c = owning q table column is in
      (λ i. if is_no_oid (at.0 i) then [] else under_path (class_path_of cat (at.0 i)) (λ table. under (column_name cat (at.0 i) (at.1 i)) (λ column. (key.OwnedBy q, value.OwnedBy table column) ∷ [])))
      ∙ rw (own.some (key.Rel table) (value.Table c.columns) c.there refl, class_path_found texts named sound oids.of own cat led table (value.Table c.columns) c.there, column_name_found texts named sound oids own counted cat led columns table column c) refl
  owner_gives q row (Some v) is at = elim at [ ]

  abbrev given : NamedSequence → List Entry
  given t = (key.Rel t.path, value.Sequence t.sequence) ∷ (key.SeqVal t.path, value.SequenceValue t.last t.called) ∷ owned_by t.path (get named (key.OwnedBy t.path))

  gives : (t : NamedSequence) (row : SequenceRow) → IsSequence named t → IsSequenceRow named oids t row → given t ≡ sequence_entries cat row
  gives t row is at =
      sym (
      ap (λ (o : Option QName). under_path o (λ path. with_value (option_map (λ kind. value.Sequence (numbers kind row)) (sequence_kind row.seqtype)) (λ v. (key.Rel path, v) ∷ (key.SeqVal path, value.SequenceValue row.last_value row.is_called) ∷ owner_entries cat row path))) (ap (class_path_of cat) at.relation ∙ class_path_found texts named sound oids.of own cat led t.path (value.Sequence t.sequence) is.there)
      ∙ ap (λ (o : Option SequenceKind). with_value (option_map (λ kind. value.Sequence (numbers kind row)) o) (λ v. (key.Rel t.path, v) ∷ (key.SeqVal t.path, value.SequenceValue row.last_value row.is_called) ∷ owner_entries cat row t.path)) at.type
      ∙ (λ i. (key.Rel t.path, value.Sequence (at.numbers i)) ∷ (key.SeqVal t.path, value.SequenceValue (at.last i) (at.called i)) ∷ owner_gives t.path row (get named (key.OwnedBy t.path)) refl at.owner i))

  owned_held : (q : QName) (o : Option Value) → get named (key.OwnedBy q) ≡ o → AllByRecursion (IsHeldAt named of_sequences) (owned_by q o)
  owned_held q (Some (value.OwnedBy table column)) is = ((is, refl), tt)
  owned_held q None is = tt
  owned_held q _ is = tt

  sequences_held : (t : NamedSequence) (row : SequenceRow) → IsSequence named t → IsSequenceRow named oids t row → AllByRecursion (IsHeldAt named of_sequences) (sequence_entries cat row)
  sequences_held t row is at = subst (λ (es : List Entry). AllByRecursion (IsHeldAt named of_sequences) es) (gives t row is at) ((is.there, refl), ((is.value, refl), owned_held t.path (get named (key.OwnedBy t.path)) refl))

  abbrev Covers : Key → Value → Type 0
  Covers k v = (t : NamedSequence) × IsSequence named t × ((row : SequenceRow) → IsSequenceRow named oids t row → IsIn (k, v) (sequence_entries cat row))

  covers_by : (k : Key) (v : Value) (t : NamedSequence) → IsSequence named t → IsIn (k, v) (given t) → Covers k v
  covers_by k v t is among = (t, is, λ row at. subst (IsIn (k, v)) (gives t row is at) among)

  value_at : (q : QName) (v : Value) → get named (key.SeqVal q) ≡ Some v → (last : ℤ) × (called : Bool) × (v ≡ value.SequenceValue last called)
  value_at q (value.SequenceValue last called) is = (last, called, refl)
  value_at q v is = elim (sound.each (key.SeqVal q) v is).own [ ]

  -- a sequence that is there has a value
  record Whole (q : QName) (s : Sequence) : Type 0 where
    last : ℤ
    called : Bool
    is : IsSequence named (record { path = q; sequence = s; last = last; called = called })

  whole : (q : QName) (s : Sequence) → get named (key.Rel q) ≡ Some (value.Sequence s) → Whole q s
  whole q s is =
      let found = value_met named (key.SeqVal q, Asked.there) (sound.each (key.Rel q) (value.Sequence s) is).others.1.0 in
      let at = value_at q found.0 found.1 in
      record { last = at.0; called = at.1; is = record { there = is; value = found.1 ∙ ap Some at.2 } }

  counted_only : (v : Value) (n : ℤ) → asked.Meets (Asked.counts n) v → (s : Sequence) × (v ≡ value.Sequence s)
  counted_only (value.Sequence s) n met = (s, refl)
  counted_only v n met = elim met [ ]

  sequence_covers : (k : Key) (v : Value) → get named k ≡ Some v → of_sequences k v ≡ true → Covers k v
  sequence_covers (key.Rel q) (value.Sequence s) is kind =
      let w = whole q s is in
      covers_by (key.Rel q) (value.Sequence s) (record { path = q; sequence = s; last = w.last; called = w.called }) w.is (inl refl)
  sequence_covers (key.SeqVal q) v is kind =
      let at = value_at q v is in
      let met = (sound.each (key.SeqVal q) (value.SequenceValue at.0 at.1) (is ∙ ap Some at.2)).others.0 in
      let found = value_met named (key.Rel q, Asked.counts at.0) met in
      let s = counted_only found.0 at.0 (met_by named (key.Rel q, Asked.counts at.0) found.0 found.1 met) in
      let w = whole q s.0 (found.1 ∙ ap Some s.1) in
      let values : Some (value.SequenceValue w.last w.called) ≡ Some v = sym w.is.value ∙ is in
      let same : value.SequenceValue w.last w.called ≡ v = cc in
      covers_by (key.SeqVal q) v (record { path = q; sequence = s.0; last = w.last; called = w.called }) w.is (inr (inl (λ i. (key.SeqVal q, same i))))
  sequence_covers (key.OwnedBy q) v is kind =
      let at = owned_at q v is in
      let there = is ∙ ap Some at.2 in
      let met = (sound.each (key.OwnedBy q) (value.OwnedBy at.0 at.1) there).others.0 in
      let found = value_met named (key.Rel q, Asked.a_sequence) met in
      let s = sequence_only found.0 (met_by named (key.Rel q, Asked.a_sequence) found.0 found.1 met) in
      let w = whole q s.0 (found.1 ∙ ap Some s.1) in
      covers_by (key.OwnedBy q) v (record { path = q; sequence = s.0; last = w.last; called = w.called }) w.is (inr (inr (subst (λ (o : Option Value). IsIn (key.OwnedBy q, v) (owned_by q o)) (sym there) (inl (λ i. (key.OwnedBy q, sym at.2 i))))))
  sequence_covers k v is kind = cc

  pub sequences_stand : AreEntriesAt named of_sequences (flat_map (sequence_entries cat) cat.pg_sequence)
  sequences_stand = rows_give_at (IsSequence named) (IsSequenceRow named oids) cat.pg_sequence are named of_sequences (sequence_entries cat) sequences_held sequence_covers
