-- The rows of pg_enum meet the table's conditions.
use Rattle.std.proofs.Common.{◌≡◌, ℕ, zero, suc, ◌+◌, ℤ, pos, Bool, true, false, true≢false, cond, not, ◌||◌, T, List, [], ◌∷◌, length, Option, Some, unwrap_or, refl, ap, sym, ◌∙◌, arith}
use Rattle.std.proofs.Math.Facts.{yes_leb}
use Rattle.std.proofs.lemmas.List.{length-map}
use Rattle.std.proofs.lemmas.Option.{none-some, slice_get_within}
use Rattle.std.specs.Cmp.{first_so, second_so}
use Rattle.std.specs.Ordering.{nat_cmp, int_cmp, is_le, eq_by_cmp}
use Rattle.std.specs.FinMap.{get}
use Rattle.std.specs.List.{filter, slice_get, list_any}
use Rattle.std.specs.Prelude.{nat_le}
use Rattle.oid_groups.specs.Orders.{placed, by_number}
use Rattle.cat_rows.specs.declared.catalogue.Catalogue.{Catalogue}
use Rattle.cat_rows.specs.declared.types.EnumRow.{EnumRow}
use Rattle.cat_model.specs.declared.object.QName.{QName}
use Rattle.cat_model.specs.declared.key.Key.TheVariants as key
use Rattle.cat_model.specs.declared.value.Value.TheVariants as value
use Rattle.cat_model.specs.Lexemes.{same_text}
use Rattle.cat_model.specs.Tables.{distinct}
use Rattle.cat_model.specs.Values.{Bytes, Named}
use Rattle.cat_model.proofs.MarkLaws.{same_text-self}
use Rattle.cat_names.specs.Lookups.{same_oid, is_no_oid}
use Rattle.cat_book.specs.Chains.{type_of}
use Rattle.cat_book.specs.Leads.{label_count}
use Rattle.cat_book.specs.Meets.{Meets}
use Rattle.cat_book.specs.Rules.{RowName, Place, name_cmp, place_cmp}
use Rattle.plain_tables.specs.Labels.{is_enum, is_enum_letter, is_place, label_rules}
use Rattle.cat_sound.specs.Texts.{Texts}
use Rattle.cat_sound.specs.Sound.{IsSound}
use Rattle.named_tables.specs.Oids.{AreOids}
use Rattle.named_tables.specs.Standing.{AreRowsOf}
use Rattle.named_tables.proofs.Ties.{tie}
use Rattle.named_tables.proofs.Rows.{name_cmp-IsAntisymmetric, one_oid, each_row, distinct_keys, no_marks}
use Rattle.named_objects.specs.Oids.{ObjectOids, AreLabelOids}
use Rattle.named_objects.specs.Types.{NamedLabel, IsLabel, label_row}
use Rattle.named_objects.proofs.Counting.{count_rows}
use Rattle.named_objects.proofs.Ends.{labels_found}
use Rattle.named_objects.proofs.Lookups.{AreLedTo, type_found}
use Rattle.named_objects.proofs.Places.{place_cmp-IsAntisymmetric, pos_back}

length-placed : {R : Type 0} (number : R → ℤ) (row : R) (rows : List R) → length (placed number row rows) ≡ suc (length rows)
unfolding placed
length-placed number row [] = refl
length-placed {R = R} number row (r ∷ rs) = by (is_le (int_cmp (number row) (number r))) (length-placed number row rs)
  where
    by : (b : Bool) → length (placed number row rs) ≡ suc (length rs) → length (cond b (row ∷ r ∷ rs) (r ∷ placed number row rs)) ≡ suc (suc (length rs))
    by true more = refl
    by false more = ap suc more

length-by_number : {R : Type 0} (number : R → ℤ) (rows : List R) → length (by_number number rows) ≡ length rows
unfolding by_number
length-by_number number [] = refl
length-by_number number (row ∷ rows) = length-placed number row (by_number number rows) ∙ ap suc (length-by_number number rows)

-- distinct labels stand at one place each
any_at : (l : Bytes) (ls : List Bytes) (i : ℕ) → slice_get ls i ≡ Some l → list_any (same_text l) ls ≡ true
any_at l [] i at = cc
any_at l (x ∷ ls) zero at =
    let same : x ≡ l = ap (λ (o : Option Bytes). unwrap_or o x) at in
    ap (λ (b : Bool). b || list_any (same_text l) ls) (ap (same_text l) same ∙ same_text-self l)
any_at l (x ∷ ls) (suc i) at = or_true (same_text l x) (list_any (same_text l) ls) (any_at l ls i at)
  where
    or_true : (b c : Bool) → c ≡ true → b || c ≡ true
    or_true true c e = refl
    or_true false c e = e

not_again : (x l : Bytes) (ls : List Bytes) (i : ℕ) → not (list_any (same_text x) ls) ≡ true → x ≡ l → slice_get ls i ≡ Some l → ⊥
not_again x l ls i fresh same at =
    let any : list_any (same_text x) ls ≡ true = ap (λ (y : Bytes). list_any (same_text y) ls) same ∙ any_at l ls i at in
    true≢false (sym fresh ∙ ap not any)

one_place : (ls : List Bytes) (i j : ℕ) (l : Bytes) → distinct ls ≡ true → slice_get ls i ≡ Some l → slice_get ls j ≡ Some l → i ≡ j
one_place [] i j l all at_i at_j = absurd (none-some l at_i)
one_place (x ∷ ls) zero zero l all at_i at_j = refl
one_place (x ∷ ls) zero (suc j) l all at_i at_j = absurd (not_again x l ls j (first_so (not (list_any (same_text x) ls)) (distinct ls) all) (ap (λ (o : Option Bytes). unwrap_or o x) at_i) at_j)
one_place (x ∷ ls) (suc i) zero l all at_i at_j = absurd (not_again x l ls i (first_so (not (list_any (same_text x) ls)) (distinct ls) all) (ap (λ (o : Option Bytes). unwrap_or o x) at_j) at_i)
one_place (x ∷ ls) (suc i) (suc j) l all at_i at_j = ap suc (one_place ls i j l (second_so (not (list_any (same_text x) ls)) (distinct ls) all) at_i at_j)

truth : (b : Bool) → T b → b ≡ true
truth true t = refl
truth false t = absurd t

module _ (texts : Texts) (named : Named) (sound : IsSound texts named) (oids : ObjectOids) (own : AreOids named oids.of) (own_labels : AreLabelOids named oids) (cat : Catalogue) (led : AreLedTo named oids.of cat) (are : AreRowsOf (IsLabel named) (λ l row. row ≡ label_row oids l) cat.pg_enum) where
  -- labels of one type and place are one
  same_label : (t s : NamedLabel) → IsLabel named t → IsLabel named s → t.path ≡ s.path → t.place ≡ s.place → t ≡ s
  same_label t s is_t is_s paths places =
      let values : Some (value.Enum t.labels) ≡ Some (value.Enum s.labels) = sym is_t.there ∙ ap (λ (q : QName). get named (key.UserType q)) paths ∙ is_s.there in
      let lists : t.labels ≡ s.labels = cc in
      let both : Some t.label ≡ Some s.label = sym is_t.at ∙ (λ i. slice_get (lists i) (places i)) ∙ is_s.at in
      let labels : t.label ≡ s.label = ap (λ (o : Option Bytes). unwrap_or o t.label) both in
      λ i. record { path = paths i; labels = lists i; place = places i; label = labels i }

  one_type : (t s : NamedLabel) → IsLabel named t → IsLabel named s → oids.of (key.UserType t.path) ≡ oids.of (key.UserType s.path) → t.path ≡ s.path
  one_type t s is_t is_s equal =
      let keys : key.UserType t.path ≡ key.UserType s.path = own.apart (key.UserType t.path) (key.UserType s.path) (value.Enum t.labels) (value.Enum s.labels) is_t.there is_s.there refl refl refl equal in
      cc

  same_key : (t s : NamedLabel) (a b : EnumRow) (k l : ℕ) → IsLabel named t → IsLabel named s → a ≡ label_row oids t → b ≡ label_row oids s → Some a.oid ≡ Some k → Some b.oid ≡ Some l → eq_by_cmp nat_cmp l k ≡ true → t ≡ s
  same_key t s a b k l is_t is_s at_a at_b is_k is_l ties =
      let equal : oids.label t.path t.place ≡ oids.label s.path s.place = ap (λ (r : EnumRow). r.oid) (sym at_a) ∙ one_oid a.oid b.oid k l is_k is_l ties ∙ ap (λ (r : EnumRow). r.oid) at_b in
      let both = own_labels.apart t.path s.path t.labels s.labels t.place s.place t.label s.label is_t.there is_s.there is_t.at is_s.at equal in
      same_label t s is_t is_s both.0 both.1

  same_name : (t s : NamedLabel) (a b : EnumRow) (k l : RowName) → IsLabel named t → IsLabel named s → a ≡ label_row oids t → b ≡ label_row oids s → Some (a.enumtypid, 0, pos 0, a.enumlabel) ≡ Some k → Some (b.enumtypid, 0, pos 0, b.enumlabel) ≡ Some l → eq_by_cmp name_cmp l k ≡ true → t ≡ s
  same_name t s a b k l is_t is_s at_a at_b is_k is_l ties =
      let names : l ≡ k = tie name_cmp-IsAntisymmetric l k ties in
      let first : (a.enumtypid, 0, pos 0, a.enumlabel) ≡ k = ap (λ (o : Option RowName). unwrap_or o k) is_k in
      let second : (b.enumtypid, 0, pos 0, b.enumlabel) ≡ l = ap (λ (o : Option RowName). unwrap_or o l) is_l in
      let all = first ∙ sym names ∙ sym second in
      let paths = one_type t s is_t is_s (ap (λ (r : EnumRow). r.enumtypid) (sym at_a) ∙ ap (λ (n : RowName). n.0) all ∙ ap (λ (r : EnumRow). r.enumtypid) at_b) in
      let labels : s.label ≡ t.label = sym (ap (λ (r : EnumRow). r.enumlabel) (sym at_a) ∙ ap (λ (n : RowName). n.3) all ∙ ap (λ (r : EnumRow). r.enumlabel) at_b) in
      let values : Some (value.Enum t.labels) ≡ Some (value.Enum s.labels) = sym is_t.there ∙ ap (λ (q : QName). get named (key.UserType q)) paths ∙ is_s.there in
      let lists : t.labels ≡ s.labels = cc in
      let at_s : slice_get t.labels s.place ≡ Some t.label = ap (λ (ls : List Bytes). slice_get ls s.place) lists ∙ is_s.at ∙ ap Some labels in
      same_label t s is_t is_s paths (one_place t.labels t.place s.place t.label (sound.each (key.UserType t.path) (value.Enum t.labels) is_t.there).own is_t.at at_s)

  same_place : (t s : NamedLabel) (a b : EnumRow) (k l : Place) → IsLabel named t → IsLabel named s → a ≡ label_row oids t → b ≡ label_row oids s → Some (a.enumtypid, a.enumpos) ≡ Some k → Some (b.enumtypid, b.enumpos) ≡ Some l → eq_by_cmp place_cmp l k ≡ true → t ≡ s
  same_place t s a b k l is_t is_s at_a at_b is_k is_l ties =
      let places : l ≡ k = tie place_cmp-IsAntisymmetric l k ties in
      let first : (a.enumtypid, a.enumpos) ≡ k = ap (λ (o : Option Place). unwrap_or o k) is_k in
      let second : (b.enumtypid, b.enumpos) ≡ l = ap (λ (o : Option Place). unwrap_or o l) is_l in
      let all = first ∙ sym places ∙ sym second in
      let paths = one_type t s is_t is_s (ap (λ (r : EnumRow). r.enumtypid) (sym at_a) ∙ ap (λ (n : Place). n.0) all ∙ ap (λ (r : EnumRow). r.enumtypid) at_b) in
      let numbers : t.place + 1 ≡ s.place + 1 = pos_back (t.place + 1) (s.place + 1) (ap (λ (r : EnumRow). r.enumpos) (sym at_a) ∙ ap (λ (n : Place). n.1) all ∙ ap (λ (r : EnumRow). r.enumpos) at_b) in
      same_label t s is_t is_s paths (omega (arith, numbers))

  -- as many rows as labels
  counted : (t : NamedLabel) → IsLabel named t → label_count cat (oids.of (key.UserType t.path)) ≡ length t.labels
  counted t is =
      let rows : List EnumRow = filter (λ (e : EnumRow). same_oid (oids.of (key.UserType t.path)) e.enumtypid) cat.pg_enum in
      count_rows (λ (e : EnumRow). e.enumtypid) (oids.of (key.UserType t.path)) cat.pg_enum
      ∙ sym (length-by_number (λ (e : EnumRow). e.enumpos) rows)
      ∙ sym (length-map (by_number (λ (e : EnumRow). e.enumpos) rows) (λ (e : EnumRow). e.enumlabel))
      ∙ ap length (labels_found texts named sound oids own cat led are t.path t.labels is.there)

  good_place : (t : NamedLabel) → IsLabel named t → is_place (label_count cat (oids.of (key.UserType t.path))) (pos (t.place + 1)) ≡ true
  good_place t is =
      let below = slice_get_within t.labels t.place t.label is.at in
      let count = counted t is in
      let one : nat_le 1 (t.place + 1) ≡ true = truth (nat_le 1 (t.place + 1)) (yes_leb (omega arith)) in
      let most : nat_le (t.place + 1) (label_count cat (oids.of (key.UserType t.path))) ≡ true = truth (nat_le (t.place + 1) (label_count cat (oids.of (key.UserType t.path)))) (yes_leb (omega (arith, below, count))) in
      rw (one, most) refl

  of_enum : (t : NamedLabel) → IsLabel named t → is_enum (type_of cat.pg_type (oids.of (key.UserType t.path))) ≡ true
  of_enum t is =
      let found = type_found texts named sound oids.of own cat led t.path (value.Enum t.labels) is.there in
      ap is_enum found.found ∙ ap is_enum_letter found.kind.letter

  pub labels_meet : Meets label_rules cat cat.pg_enum
  labels_meet = record {
    oids = distinct_keys (IsLabel named) (λ l row. row ≡ label_row oids l) cat.pg_enum are nat_cmp (λ r. Some r.oid) same_key;
    names = distinct_keys (IsLabel named) (λ l row. row ≡ label_row oids l) cat.pg_enum are name_cmp (λ r. Some (r.enumtypid, 0, pos 0, r.enumlabel)) same_name;
    places = distinct_keys (IsLabel named) (λ l row. row ≡ label_row oids l) cat.pg_enum are place_cmp (λ r. Some (r.enumtypid, r.enumpos)) same_place;
    marks = no_marks cat.pg_enum;
    objects = each_row (IsLabel named) (λ l row. row ≡ label_row oids l) cat.pg_enum are (λ row. is_no_oid row.oid ≡ false) (λ t row is at. ap (λ (r : EnumRow). is_no_oid r.oid) at ∙ own_labels.some t.path t.labels t.place t.label is.there is.at);
    there = each_row (IsLabel named) (λ l row. row ≡ label_row oids l) cat.pg_enum are (λ row. not (is_enum (type_of cat.pg_type row.enumtypid)) ≡ false) (λ t row is at. ap (λ (r : EnumRow). not (is_enum (type_of cat.pg_type r.enumtypid))) at ∙ ap not (of_enum t is));
    texts = each_row (IsLabel named) (λ l row. row ≡ label_row oids l) cat.pg_enum are (λ row. not (is_place (label_count cat row.enumtypid) row.enumpos) ≡ false) (λ t row is at. ap (λ (r : EnumRow). not (is_place (label_count cat r.enumtypid) r.enumpos)) at ∙ ap not (good_place t is));
    inside = λ i row at. refl;
    needed = refl;
  }
