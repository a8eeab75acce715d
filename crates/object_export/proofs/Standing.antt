-- Rows of what entries say of defaults, sequences, indexes, bodies, labels, columns, constraints and checks stand for what a
-- catalogue has of them, where oids and numbers are apart.
use Rattle.std.proofs.Common.{◌≡◌, inl, inr, ℕ, zero, suc, ◌+◌, ◌<◌, ℤ, List, [], ◌∷◌, map, Option, Some, filter_map, refl, sym, ap, ap₂, subst, ◌∙◌, arith}
use Rattle.std.proofs.lemmas.Option.{none-some}
use Rattle.std.proofs.lemmas.Cmp.{int_cmp_total}
use Rattle.std.specs.Cmp.{tied_itself}
use Rattle.std.specs.Cmp.Lexicographic.{nat_list_cmp_total}
use Rattle.std.specs.FinMap.{get, entries}
use Rattle.std.specs.List.{slice_get, flat_map}
use Rattle.std.specs.Ordering.{int_cmp}
use Rattle.std.specs.declared.cmp.Ordering.TheVariants.{Less, Equal}
use Rattle.cat_rows.specs.declared.constraints.ConstraintRow.{ConstraintRow}
use Rattle.cat_rows.specs.declared.relations.AttributeRow.{AttributeRow}
use Rattle.cat_rows.specs.declared.relations.AttrdefRow.{AttrdefRow}
use Rattle.cat_rows.specs.declared.relations.IndexRow.{IndexRow}
use Rattle.cat_rows.specs.declared.relations.RewriteRow.{RewriteRow}
use Rattle.cat_rows.specs.declared.sequences.SequenceRow.{SequenceRow}
use Rattle.cat_rows.specs.declared.types.EnumRow.{EnumRow}
use Rattle.cat_model.specs.declared.object.QName.{QName}
use Rattle.cat_model.specs.declared.key.Key.{Key}
use Rattle.cat_model.specs.declared.key.Key.TheVariants as key
use Rattle.cat_model.specs.declared.value.Value.{Value}
use Rattle.cat_model.specs.declared.value.Value.TheVariants as value
use Rattle.cat_model.specs.declared.value.Column.{Column}
use Rattle.cat_model.specs.declared.value.Domain.{Domain}
use Rattle.cat_model.specs.declared.value.Sequence.{Sequence}
use Rattle.cat_model.specs.HolderLaws.{bytes_cmp-IsAntisymmetric}
use Rattle.cat_model.specs.KeyEffects.{index_path}
use Rattle.cat_model.specs.Values.{Bytes, Named}
use Rattle.cat_names.specs.Naming.{Entry}
use Rattle.cat_sound.proofs.Lists.{IsIn}
use Rattle.cat_sound.proofs.Maps.{entry_of, of_entry}
use Rattle.named_tables.specs.Oids.{Oids, AreOids}
use Rattle.named_tables.specs.Standing.{AreRowsOf}
use Rattle.named_objects.specs.Oids.{ObjectOids, AreNumbers, AreCheckOids, AreLabelOids}
use Rattle.named_objects.specs.Types.{NamedLabel, IsLabel, label_row}
use Rattle.named_objects.specs.Relations.{NamedColumn, IsColumn, IsColumnRow, NamedDefault, IsDefault, IsDefaultRow, NamedSequence, IsSequence, IsSequenceRow, NamedIndex, IsIndex, IsIndexRow, NamedBody, IsBody, IsBodyRow}
use Rattle.named_objects.specs.Constraints.{Constrained, of_table, of_domain, IsConstrained, IsConstrainedRow}
use Rattle.map_export.specs.Making.{AreSaid}
use Rattle.map_export.proofs.Entries.{apart_keys}
use Rattle.map_export.proofs.Making.{HasKey, AreApartKeys}
use Rattle.map_export.proofs.Named.{stand_for}
use Rattle.object_export.specs.Parts.{default_in, index_in, body_in, sequence_with, sequence_in, columns_from, columns_in, labels_from, labels_in, check_in, constrained_in}
use Rattle.object_export.proofs.Listing.{same_thing, AreApart, lists_stand}

-- ---- one thing at most of each entry

module _ (named : Named) where
  is_body : (e : Entry) (b : NamedBody) → get named e.0 ≡ Some e.1 → body_in e ≡ Some b → IsBody named b × (key.Body b.view ≡ e.0)
  is_body (key.Body q, value.Body text) b there says =
      subst (λ (c : NamedBody). IsBody named c × (key.Body c.view ≡ key.Body q)) (same_thing (record { view = q; body = text }) b says) (there, refl)
  is_body e b there says = absurd (none-some b says)

  is_default : (e : Entry) (d : NamedDefault) → get named e.0 ≡ Some e.1 → default_in e ≡ Some d → IsDefault named d × (key.Default d.table d.column ≡ e.0)
  is_default (key.Default q column, value.DefaultText text) d there says =
      subst (λ (c : NamedDefault). IsDefault named c × (key.Default c.table c.column ≡ key.Default q column)) (same_thing (record { table = q; column = column; text = text }) d says) (there, refl)
  is_default e d there says = absurd (none-some d says)

  is_index : (e : Entry) (i : NamedIndex) → get named e.0 ≡ Some e.1 → index_in e ≡ Some i → IsIndex named i × (key.Index i.table i.name ≡ e.0)
  is_index (key.Index q name, value.Index x) i there says =
      subst (λ (j : NamedIndex). IsIndex named j × (key.Index j.table j.name ≡ key.Index q name)) (same_thing (record { table = q; name = name; index = x }) i says) (there, refl)
  is_index e i there says = absurd (none-some i says)

  with_value : (q : QName) (s : Sequence) (t : NamedSequence) → get named (key.Rel q) ≡ Some (value.Sequence s) → (v : Option Value) → get named (key.SeqVal q) ≡ v → sequence_with q s v ≡ Some t → IsSequence named t × (key.Rel t.path ≡ key.Rel q)
  with_value q s t there (Some (value.SequenceValue last called)) at says =
      subst (λ (u : NamedSequence). IsSequence named u × (key.Rel u.path ≡ key.Rel q)) (same_thing (record { path = q; sequence = s; last = last; called = called }) t says) (record { there = there; value = at }, refl)
  with_value q s t there v at says = absurd (none-some t says)

  is_sequence : (e : Entry) (s : NamedSequence) → get named e.0 ≡ Some e.1 → sequence_in named e ≡ Some s → IsSequence named s × (key.Rel s.path ≡ e.0)
  is_sequence (key.Rel q, value.Sequence s) t there says = with_value q s t there (get named (key.SeqVal q)) refl says
  is_sequence e s there says = absurd (none-some s says)

  module _ (oids : Oids) (own : AreOids named oids) where
    pub bodies_stand : (rows : List RewriteRow) → AreSaid (IsBodyRow oids) (filter_map body_in (entries named)) rows → AreRowsOf (IsBody named) (IsBodyRow oids) rows
    bodies_stand rows said =
        stand_for named (IsBody named) (IsBodyRow oids) (λ b. key.Body b.view) (λ row. row.oid) (λ b. oids (key.Body b.view))
        (λ b row is. is.oid)
        (λ b c one two same. own.apart (key.Body b.view) (key.Body c.view) (value.Body b.body) (value.Body c.body) one two refl refl refl same)
        body_in
        (λ b there. (value.Body b.body, there, refl))
        is_body rows said

    -- an index is a relation of its table's schema
    index_key : (i j : NamedIndex) → get named (key.Rel (index_path i.table i.name)) ≡ Some (value.IndexOf i.table) → get named (key.Rel (index_path j.table j.name)) ≡ Some (value.IndexOf j.table) → oids (key.Rel (index_path i.table i.name)) ≡ oids (key.Rel (index_path j.table j.name)) → key.Index i.table i.name ≡ key.Index j.table j.name
    index_key i j one two same =
        let keys : key.Rel (index_path i.table i.name) ≡ key.Rel (index_path j.table j.name) = own.apart (key.Rel (index_path i.table i.name)) (key.Rel (index_path j.table j.name)) (value.IndexOf i.table) (value.IndexOf j.table) one two refl refl refl same in
        let tables : Some (value.IndexOf i.table) ≡ Some (value.IndexOf j.table) = sym one ∙ ap (get named) keys ∙ two in
        let table : i.table ≡ j.table = cc in
        let paths : index_path i.table i.name ≡ index_path j.table j.name = cc in
        let name : i.name ≡ j.name = ap (λ (q : QName). q.name) paths in
        ap₂ key.Index table name

    pub indexes_stand : ((i : NamedIndex) → IsIndex named i → get named (key.Rel (index_path i.table i.name)) ≡ Some (value.IndexOf i.table)) → (rows : List IndexRow) → AreSaid (IsIndexRow oids) (filter_map index_in (entries named)) rows → AreRowsOf (IsIndex named) (IsIndexRow oids) rows
    indexes_stand related rows said =
        stand_for named (IsIndex named) (IsIndexRow oids) (λ i. key.Index i.table i.name) (λ row. row.indexrelid) (λ i. oids (key.Rel (index_path i.table i.name)))
        (λ i row is. is.relation)
        (λ i j one two same. index_key i j (related i one) (related j two) same)
        index_in
        (λ i there. (value.Index i.index, there, refl))
        is_index rows said

  module _ (oids : ObjectOids) (own : AreOids named oids.of) where
    pub defaults_stand : (rows : List AttrdefRow) → AreSaid (IsDefaultRow oids) (filter_map default_in (entries named)) rows → AreRowsOf (IsDefault named) (IsDefaultRow oids) rows
    defaults_stand rows said =
        stand_for named (IsDefault named) (IsDefaultRow oids) (λ d. key.Default d.table d.column) (λ row. row.oid) (λ d. oids.of (key.Default d.table d.column))
        (λ d row is. is.oid)
        (λ d e one two same. own.apart (key.Default d.table d.column) (key.Default e.table e.column) (value.DefaultText d.text) (value.DefaultText e.text) one two refl refl refl same)
        default_in
        (λ d there. (value.DefaultText d.text, there, refl))
        is_default rows said

    pub sequences_stand : (rows : List SequenceRow) → AreSaid (IsSequenceRow named oids) (filter_map (sequence_in named) (entries named)) rows → AreRowsOf (IsSequence named) (IsSequenceRow named oids) rows
    sequences_stand rows said =
        stand_for named (IsSequence named) (IsSequenceRow named oids) (λ s. key.Rel s.path) (λ row. row.seqrelid) (λ s. oids.of (key.Rel s.path))
        (λ s row is. is.relation)
        (λ s t one two same. own.apart (key.Rel s.path) (key.Rel t.path) (value.Sequence s.sequence) (value.Sequence t.sequence) one.there two.there refl refl refl same)
        (sequence_in named)
        (λ s there. (value.Sequence s.sequence, there.there, ap (sequence_with s.path s.sequence) there.value))
        is_sequence rows said

-- ---- several things of an entry

-- a part of a list that begins at a place
module _ {A : Type 0} where
  abbrev BeginsAt : List A → ℕ → List A → Type 0
  BeginsAt all place part = (i : ℕ) (a : A) → slice_get part i ≡ Some a → slice_get all (place + i) ≡ Some a

  whole : (all : List A) → BeginsAt all 0 all
  whole all i a at = let e : 0 + i ≡ i = omega arith in ap (slice_get all) e ∙ at

  first_at : (all : List A) (place : ℕ) (x : A) (xs : List A) → BeginsAt all place (x ∷ xs) → slice_get all place ≡ Some x
  first_at all place x xs begins = let e : place ≡ place + 0 = omega arith in ap (slice_get all) e ∙ begins 0 x refl

  next_at : (all : List A) (place : ℕ) (x : A) (xs : List A) → BeginsAt all place (x ∷ xs) → BeginsAt all (place + 1) xs
  next_at all place x xs begins i a at = let e : (place + 1) + i ≡ place + suc i = omega arith in ap (slice_get all) e ∙ begins (suc i) a at

module _ (named : Named) where
  -- ---- labels

  module _ (q : QName) (all : List Bytes) (there : get named (key.UserType q) ≡ Some (value.Enum all)) where
    -- each stands where it is
    label_at : (place : ℕ) (ls : List Bytes) → BeginsAt all place ls → (l : NamedLabel) → IsIn l (labels_from q all place ls) → IsLabel named l × (l.path ≡ q) × (place < l.place + 1)
    label_at place [] begins l among = absurd among
    label_at place (x ∷ ls) begins l (inl is) =
        subst (λ (m : NamedLabel). IsLabel named m × (m.path ≡ q) × (place < m.place + 1)) is (record { there = there; at = first_at all place x ls begins }, refl, omega arith)
    label_at place (x ∷ ls) begins l (inr later) =
        let it = label_at (place + 1) ls (next_at all place x ls begins) l later in
        (it.0, it.1, omega (arith, it.2))

    module _ (oids : ObjectOids) (own : AreLabelOids named oids) where
      labels_apart : (place : ℕ) (ls : List Bytes) → BeginsAt all place ls → AreApart (λ (l : NamedLabel). oids.label l.path l.place) (labels_from q all place ls)
      labels_apart place [] begins = tt
      labels_apart place (x ∷ ls) begins = (
        λ m among same.
            let it = label_at (place + 1) ls (next_at all place x ls begins) m among in
            let places = own.apart q m.path all m.labels place m.place x m.label there it.0.there (first_at all place x ls begins) it.0.at same in
            absurd (omega (arith, it.2, places.1)),
        labels_apart (place + 1) ls (next_at all place x ls begins),
      )

  label_in : (q : QName) (all : List Bytes) (place : ℕ) (ls : List Bytes) (i : ℕ) (l : Bytes) → slice_get ls i ≡ Some l → IsIn (record { path = q; labels = all; place = place + i; label = l }) (labels_from q all place ls)
  label_in q all place [] i l at = absurd cc
  label_in q all place (x ∷ ls) zero l at =
      let e : place ≡ place + 0 = omega arith in
      inl (ap₂ (λ (p : ℕ) (y : Bytes). record { path = q; labels = all; place = p; label = y }) e (same_thing x l at))
  label_in q all place (x ∷ ls) (suc i) l at =
      let e : (place + 1) + i ≡ place + suc i = omega arith in
      inr (subst (λ (p : ℕ). IsIn (record { path = q; labels = all; place = p; label = l }) (labels_from q all (place + 1) ls)) e (label_in q all (place + 1) ls i l at))

  is_label : (e : Entry) (l : NamedLabel) → get named e.0 ≡ Some e.1 → IsIn l (labels_in e) → IsLabel named l × (key.UserType l.path ≡ e.0)
  is_label (key.UserType q, value.Enum labels) l there among =
      let it = label_at q labels there 0 labels (whole labels) l among in
      (it.0, ap key.UserType it.1)
  is_label e l there among = absurd among

  module _ (oids : ObjectOids) (own : AreLabelOids named oids) where
    labels_within : (e : Entry) → get named e.0 ≡ Some e.1 → AreApart (λ (l : NamedLabel). oids.label l.path l.place) (labels_in e)
    labels_within (key.UserType q, value.Enum labels) there = labels_apart q labels there oids own 0 labels (whole labels)
    labels_within e there = tt

    pub labels_stand : (rows : List EnumRow) → AreSaid (λ l row. row ≡ label_row oids l) (flat_map labels_in (entries named)) rows → AreRowsOf (IsLabel named) (λ l row. row ≡ label_row oids l) rows
    labels_stand rows said =
        lists_stand named (IsLabel named) (λ l row. row ≡ label_row oids l) (λ l. key.UserType l.path) (λ row. row.oid) (λ l. oids.label l.path l.place)
        (λ l row is. ap (λ (row : EnumRow). row.oid) is)
        (λ l m one two same. ap key.UserType (own.apart l.path m.path l.labels m.labels l.place m.place l.label m.label one.there two.there one.at two.at same).0)
        labels_in
        (λ l there. (value.Enum l.labels, there.there, let e : 0 + l.place ≡ l.place = omega arith in subst (λ (p : ℕ). IsIn (record { path = l.path; labels = l.labels; place = p; label = l.label }) (labels_from l.path l.labels 0 l.labels)) e (label_in l.path l.labels 0 l.labels l.place l.label there.at)))
        is_label labels_within rows said

  -- ---- columns

  -- the table and the number
  abbrev column_mark : ObjectOids → NamedColumn → ℕ × ℤ
  column_mark oids c = (oids.of (key.Rel c.table), oids.number c.table c.column.name)

  module _ (q : QName) (all : List Column) (there : get named (key.Rel q) ≡ Some (value.Table all)) where
    column_at : (place : ℕ) (cs : List Column) → BeginsAt all place cs → (c : NamedColumn) → IsIn c (columns_from q all place cs) → IsColumn named c × (c.table ≡ q) × (c.columns ≡ all) × (place < c.place + 1)
    column_at place [] begins c among = absurd among
    column_at place (x ∷ cs) begins c (inl is) =
        subst (λ (d : NamedColumn). IsColumn named d × (d.table ≡ q) × (d.columns ≡ all) × (place < d.place + 1)) is (record { there = there; at = first_at all place x cs begins }, refl, refl, omega arith)
    column_at place (x ∷ cs) begins c (inr later) =
        let it = column_at (place + 1) cs (next_at all place x cs begins) c later in
        (it.0, it.1, it.2, omega (arith, it.3))

    module _ (oids : ObjectOids) (numbers : AreNumbers named oids.number) where
      columns_apart : (place : ℕ) (cs : List Column) → BeginsAt all place cs → AreApart (column_mark oids) (columns_from q all place cs)
      columns_apart place [] begins = tt
      columns_apart place (x ∷ cs) begins = (
        λ d among same.
            let it = column_at (place + 1) cs (next_at all place x cs begins) d among in
            let table : d.table ≡ q = it.1 in
            let columns : d.columns ≡ all = it.2 in
            let below : place < d.place = omega (arith, it.3) in
            let at : slice_get all d.place ≡ Some d.column = ap (λ (ds : List Column). slice_get ds d.place) (sym columns) ∙ it.0.at in
            let rising : int_cmp (oids.number q x.name) (oids.number q d.column.name) ≡ Less = numbers.rises q all place d.place x d.column there below (first_at all place x cs begins) at in
            let number : oids.number q x.name ≡ oids.number d.table d.column.name = ap (λ (m : ℕ × ℤ). m.1) same in
            let same_number : oids.number q x.name ≡ oids.number q d.column.name = number ∙ ap (λ (p : QName). oids.number p d.column.name) table in
            let both : Less ≡ Equal = sym rising ∙ ap (λ (n : ℤ). int_cmp n (oids.number q d.column.name)) same_number ∙ tied_itself int_cmp_total (oids.number q d.column.name) in
            cc,
        columns_apart (place + 1) cs (next_at all place x cs begins),
      )

  column_in : (q : QName) (all : List Column) (place : ℕ) (cs : List Column) (i : ℕ) (c : Column) → slice_get cs i ≡ Some c → IsIn (record { table = q; columns = all; place = place + i; column = c }) (columns_from q all place cs)
  column_in q all place [] i c at = absurd cc
  column_in q all place (x ∷ cs) zero c at =
      let e : place ≡ place + 0 = omega arith in
      inl (ap₂ (λ (p : ℕ) (y : Column). record { table = q; columns = all; place = p; column = y }) e (same_thing x c at))
  column_in q all place (x ∷ cs) (suc i) c at =
      let e : (place + 1) + i ≡ place + suc i = omega arith in
      inr (subst (λ (p : ℕ). IsIn (record { table = q; columns = all; place = p; column = c }) (columns_from q all (place + 1) cs)) e (column_in q all (place + 1) cs i c at))

  is_column : (e : Entry) (c : NamedColumn) → get named e.0 ≡ Some e.1 → IsIn c (columns_in e) → IsColumn named c × (key.Rel c.table ≡ e.0)
  is_column (key.Rel q, value.Table columns) c there among =
      let it = column_at q columns there 0 columns (whole columns) c among in
      (it.0, ap key.Rel it.1)
  is_column e c there among = absurd among

  module _ (oids : ObjectOids) (own : AreOids named oids.of) (numbers : AreNumbers named oids.number) where
    columns_within : (e : Entry) → get named e.0 ≡ Some e.1 → AreApart (column_mark oids) (columns_in e)
    columns_within (key.Rel q, value.Table columns) there = columns_apart q columns there oids numbers 0 columns (whole columns)
    columns_within e there = tt

    pub columns_stand : (rows : List AttributeRow) → AreSaid (IsColumnRow oids) (flat_map columns_in (entries named)) rows → AreRowsOf (IsColumn named) (IsColumnRow oids) rows
    columns_stand rows said =
        lists_stand named (IsColumn named) (IsColumnRow oids) (λ c. key.Rel c.table) (λ row. (row.attrelid, row.attnum)) (column_mark oids)
        (λ c row is. ap₂ (λ (m : ℕ) (n : ℤ). (m, n)) is.relation is.number)
        (λ c d one two same. own.apart (key.Rel c.table) (key.Rel d.table) (value.Table c.columns) (value.Table d.columns) one.there two.there refl refl refl (ap (λ (m : ℕ × ℤ). m.0) same))
        columns_in
        (λ c there. (value.Table c.columns, there.there, let e : 0 + c.place ≡ c.place = omega arith in subst (λ (p : ℕ). IsIn (record { table = c.table; columns = c.columns; place = p; column = c.column }) (columns_from c.table c.columns 0 c.columns)) e (column_in c.table c.columns 0 c.columns c.place c.column there.at)))
        is_column columns_within rows said

  -- ---- constraints of tables, and checks of domains

  abbrev key_of : Constrained → Key
  key_of (of_table c) = key.Con c.table c.name
  key_of (of_domain c) = key.UserType c.path

  abbrev oid_of : ObjectOids → Constrained → ℕ
  oid_of oids (of_table c) = oids.of (key.Con c.table c.name)
  oid_of oids (of_domain c) = oids.check c.path c.name

  marked : (oids : ObjectOids) (c : Constrained) (row : ConstraintRow) → IsConstrainedRow oids c row → row.oid ≡ oid_of oids c
  marked oids (of_table c) row is = is.oid
  marked oids (of_domain c) row is = is.oid

  module _ (q : QName) (d : Domain) (there : get named (key.UserType q) ≡ Some (value.Domain d)) where
    check_at : (es : List (Bytes × Bytes)) → ((e : Bytes × Bytes) → IsIn e es → IsIn e (entries d.checks)) → (c : Constrained) → IsIn c (map (check_in q d) es) → (e : Bytes × Bytes) × IsIn e es × (check_in q d e ≡ c)
    check_at [] held c among = absurd among
    check_at (e ∷ es) held c (inl is) = (e, inl refl, is)
    check_at (e ∷ es) held c (inr later) = let it = check_at es (λ f in_f. held f (inr in_f)) c later in (it.0, inr it.1, it.2)

    text_at : (e : Bytes × Bytes) → IsIn e (entries d.checks) → get d.checks e.0 ≡ Some e.1
    text_at e among = of_entry nat_list_cmp_total bytes_cmp-IsAntisymmetric d.checks e.0 e.1 among

    module _ (oids : ObjectOids) (own : AreCheckOids named oids) where
      key_there : (es : List (Bytes × Bytes)) (e : Bytes × Bytes) → IsIn e es → HasKey es e.0
      key_there [] e among = among
      key_there (f ∷ es) e (inl is) = inl (ap (λ (g : Bytes × Bytes). g.0) (sym is))
      key_there (f ∷ es) e (inr later) = inr (key_there es e later)

      checks_apart : (es : List (Bytes × Bytes)) → AreApartKeys es → ((e : Bytes × Bytes) → IsIn e es → IsIn e (entries d.checks)) → AreApart (oid_of oids) (map (check_in q d) es)
      checks_apart [] apart held = tt
      checks_apart (e ∷ es) apart held = (
        λ c among same.
            let it = check_at es (λ f in_f. held f (inr in_f)) c among in
            let f = it.0 in
            let oid : oids.check q e.0 ≡ oids.check q f.0 = same ∙ ap (oid_of oids) (sym it.2) in
            let names = own.apart q q d d e.0 f.0 e.1 f.1 there there (text_at e (held e (inl refl))) (text_at f (held f (inr it.1))) oid in
            apart.0 (subst (HasKey es) (sym names.1) (key_there es f it.1)),
        checks_apart es apart.1 (λ f in_f. held f (inr in_f)),
      )

  in_mapped : {A B : Type 0} (f : A → B) (xs : List A) (x : A) → IsIn x xs → IsIn (f x) (map f xs)
  in_mapped f [] x among = among
  in_mapped f (y ∷ xs) x (inl is) = inl (ap f is)
  in_mapped f (y ∷ xs) x (inr later) = inr (in_mapped f xs x later)

  is_constrained : (e : Entry) (c : Constrained) → get named e.0 ≡ Some e.1 → IsIn c (constrained_in e) → IsConstrained named c × (key_of c ≡ e.0)
  is_constrained (key.Con q name, value.Constraint x) c there (inl is) =
      subst (λ (d : Constrained). IsConstrained named d × (key_of d ≡ key.Con q name)) is (there, refl)
  is_constrained (key.Con q name, value.Constraint x) c there (inr later) = absurd later
  is_constrained (key.UserType q, value.Domain d) c there among =
      let it = check_at q d there (entries d.checks) (λ e in_e. in_e) c among in
      subst (λ (c : Constrained). IsConstrained named c × (key_of c ≡ key.UserType q)) it.2 (record { there = there; at = text_at q d there it.0 it.1 }, refl)
  is_constrained e c there among = absurd among

  found : (c : Constrained) → IsConstrained named c → (v : Value) × (get named (key_of c) ≡ Some v) × IsIn c (constrained_in (key_of c, v))
  found (of_table c) there = (value.Constraint c.constraint, there, inl refl)
  found (of_domain c) there =
      (value.Domain c.domain, there.there, in_mapped (check_in c.path c.domain) (entries c.domain.checks) (c.name, c.text) (entry_of nat_list_cmp_total bytes_cmp-IsAntisymmetric c.domain.checks c.name c.text there.at))

  module _ (oids : ObjectOids) (own : AreOids named oids.of) (checks : AreCheckOids named oids) where
    one_key : (c d : Constrained) → IsConstrained named c → IsConstrained named d → oid_of oids c ≡ oid_of oids d → key_of c ≡ key_of d
    one_key (of_table c) (of_table d) one two same = own.apart (key.Con c.table c.name) (key.Con d.table d.name) (value.Constraint c.constraint) (value.Constraint d.constraint) one two refl refl refl same
    one_key (of_table c) (of_domain d) one two same = absurd (checks.of_no_table d.path d.domain d.name d.text c.table c.name (value.Constraint c.constraint) two.there two.at one (sym same))
    one_key (of_domain c) (of_table d) one two same = absurd (checks.of_no_table c.path c.domain c.name c.text d.table d.name (value.Constraint d.constraint) one.there one.at two same)
    one_key (of_domain c) (of_domain d) one two same = ap key.UserType (checks.apart c.path d.path c.domain d.domain c.name d.name c.text d.text one.there two.there one.at two.at same).0

    constrained_within : (e : Entry) → get named e.0 ≡ Some e.1 → AreApart (oid_of oids) (constrained_in e)
    constrained_within (key.Con q name, value.Constraint c) there = (λ d among same. absurd among, tt)
    constrained_within (key.UserType q, value.Domain d) there = checks_apart q d there oids checks (entries d.checks) (apart_keys nat_list_cmp_total d.checks) (λ e in_e. in_e)
    constrained_within e there = tt

    pub constraints_stand : (rows : List ConstraintRow) → AreSaid (IsConstrainedRow oids) (flat_map constrained_in (entries named)) rows → AreRowsOf (IsConstrained named) (IsConstrainedRow oids) rows
    constraints_stand rows said =
        lists_stand named (IsConstrained named) (IsConstrainedRow oids) key_of (λ row. row.oid) (oid_of oids) (marked oids) one_key constrained_in found is_constrained constrained_within rows said
