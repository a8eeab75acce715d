-- What constraints and indexes of well-formed tables say, and whose an index is.
use Rattle.std.proofs.Common.{◌≡◌, ◌≤◌, ℕ, Bool, true, false, cond, not, ◌||◌, ◌&&◌, List, [], ◌∷◌, map, length, Option, Some, None, refl, sym, ap, subst, ◌∙◌, arith, inl, inr}
use Rattle.std.proofs.lemmas.Bool.{and_parts, and_from, or_parts, leb-true}
use Rattle.std.specs.List.{filter, find}
use Rattle.std.specs.Option.{option_map, option_and_then, option_or}
use Rattle.std.specs.Prelude.{◌==◌, nat_le}
use Rattle.std.proofs.lemmas.Bool.Decides.{nat_tests}
use Rattle.cat_rows.specs.declared.catalogue.Catalogue.{Catalogue}
use Rattle.cat_rows.specs.declared.constraints.ConstraintRow.{ConstraintRow}
use Rattle.cat_rows.specs.declared.relations.IndexRow.{IndexRow}
use Rattle.cat_model.specs.declared.object.QName.{QName}
use Rattle.cat_model.specs.declared.stmt.Stmt.{Stmt}
use Rattle.cat_model.specs.declared.words.What.{What}
use Rattle.cat_model.specs.declared.words.What.TheVariants as what
use Rattle.cat_model.specs.KeyEffects.{index_path}
use Rattle.cat_model.specs.Values.{Bytes}
use Rattle.cat_model.proofs.MarkLaws.{same_path-equal}
use Rattle.cat_names.specs.Lookups.{same_oid, has_oid, count_of}
use Rattle.cat_book.specs.Leads.{is_key, key_indexes, index_oids}
use Rattle.cat_book.specs.Paths.{class_path_of}
use Rattle.row_texts.specs.IndexTexts.{index_said}
use Rattle.row_texts.specs.declared.index_text.IndexText.{IndexText}
use Rattle.text_tables.specs.Agreeing.{is_path}
use Rattle.text_tables.specs.Indexes as indexes
use Rattle.constraint_table.specs.declared.constraint_text.ConstraintText.{ConstraintText}
use Rattle.constraint_table.specs.declared.constraint_text.ConstraintText.TheVariants.{Primary, Unique, Foreign, Check}
use Rattle.constraint_table.specs.Said.{constraint_said, statement_said, said_by}
use Rattle.constraint_table.specs.Table as constraints
use Rattle.well_formed.specs.Formed.{IsWellFormed}
use Rattle.cat_lookups.specs.Found.{table_of_key, table_of_index}
use Rattle.cat_sound.proofs.Lists.{IsIn}
use Rattle.sound_rows.specs.Rows.{IsAmong}
use Rattle.sound_rows.proofs.Among.{each_in, find_found, found_find, in_place}
use Rattle.sound_rows.proofs.Paths.{oid_tied, one_of_oid}
use Rattle.sound_rows.proofs.Roles.{same_oid-equal}
use Rattle.sound_loads.proofs.Apart.{in_filter, counted}
use Rattle.sound_loads.proofs.Classes.{not_false, constraint_good}

-- of rows of which one at most is counted, two are one
pub alone_in : {A : Type 0} (xs : List A) (a b : A) → length xs ≤ 1 → IsIn a xs → IsIn b xs → a ≡ b
alone_in [] a b le among other = elim among [ ]
alone_in (x ∷ []) a b le (inl e) (inl f) = sym e ∙ f
alone_in (x ∷ []) a b le (inl e) (inr later) = elim later [ ]
alone_in (x ∷ []) a b le (inr later) other = elim later [ ]
alone_in (x ∷ y ∷ xs) a b le among other = absurd (omega arith)

pub path_is : (o : Option QName) (q : QName) → is_path o q ≡ true → o ≡ Some q
path_is None q e = absurd cc
path_is (Some p) q e = ap (λ (x : QName). Some x) (same_path-equal p q e)

pub no_foreign : (n : ℕ) → (n == 112 || n == 117) ≡ true → (n == 102) ≡ true → ⊥
no_foreign n e f = absurd (grind (arith, nat_tests))

pub no_check : (n : ℕ) → (n == 112 || n == 117) ≡ true → (n == 99) ≡ true → ⊥
no_check n e f = absurd (grind (arith, nat_tests))

or_true : (a b : Bool) → b ≡ true → (a || b) ≡ true
or_true true b e = refl
or_true false b e = e

index_in : (c : ConstraintRow) (xs : List ConstraintRow) → IsIn c xs → has_oid (map (λ (d : ConstraintRow). d.conindid) xs) c.conindid ≡ true
index_in c [] here = elim here [ ]
index_in c (x ∷ xs) (inl same) = rw (ap (λ (d : ConstraintRow). same_oid c.conindid d.conindid) same ∙ oid_tied c.conindid) refl
index_in c (x ∷ xs) (inr later) = or_true (same_oid c.conindid x.conindid) (has_oid (map (λ (d : ConstraintRow). d.conindid) xs) c.conindid) (index_in c xs later)

module _ (cat : Catalogue) (well : IsWellFormed cat) where
  -- ---- indexes with rows of their own

  pub record IndexSays (i : IndexRow) : Type 0 where
    pub text : IndexText
    pub said : index_said i.indexdef ≡ Some text
    pub table : class_path_of cat i.indrelid ≡ Some text.table
    pub path : class_path_of cat i.indexrelid ≡ Some (index_path text.table text.name)
    pub unique : indexes.is_unique_said i.indisunique text.unique ≡ true
    pub columns : indexes.has_its_columns cat i.indrelid text ≡ true
    pub of_no_key : has_oid (key_indexes cat) i.indexrelid ≡ false

  pub index_says : (i : IndexRow) → IsAmong i cat.pg_index → IndexSays i
  index_says i among =
      let good = or_parts (has_oid (key_indexes cat) i.indexrelid) (not (indexes.agrees_if_said cat i (index_said i.indexdef))) (each_in (λ (r : IndexRow). (has_oid (key_indexes cat) r.indexrelid || not (indexes.agrees_if_said cat r (index_said r.indexdef))) ≡ false) cat.pg_index well.indexes.texts i among) in
      by (index_said i.indexdef) refl (not_false _ good.1) good.0
    where
      by : (o : Option IndexText) → index_said i.indexdef ≡ o → indexes.agrees_if_said cat i o ≡ true → has_oid (key_indexes cat) i.indexrelid ≡ false → IndexSays i
      by None is h none = absurd cc
      by (Some text) is h none =
          let a = and_parts (indexes.is_unique_said i.indisunique text.unique) _ h in
          let b = and_parts (is_path (class_path_of cat i.indrelid) text.table) _ a.1 in
          let c = and_parts (is_path (class_path_of cat i.indexrelid) (index_path text.table text.name)) (indexes.has_its_columns cat i.indrelid text) b.1 in
          record { text = text; said = is; table = path_is (class_path_of cat i.indrelid) text.table b.0; path = path_is (class_path_of cat i.indexrelid) (index_path text.table text.name) c.0; unique = a.0; columns = c.1; of_no_key = none }

  -- ---- constraints

  pub record ConstraintSays (c : ConstraintRow) : Type 0 where
    pub statement : Stmt
    pub stated : statement_said c.condef ≡ Some statement
    pub text : ConstraintText
    pub said : said_by statement ≡ Some text
    pub agrees : constraints.agrees cat c text ≡ true

  known : (c : ConstraintRow) → IsAmong c cat.pg_constraint → constraints.is_known c ≡ true
  known c among = by (constraints.is_known c) (each_in (λ (r : ConstraintRow). constraints.constraint_left_out r ≡ None) cat.pg_constraint well.constraints.inside c among)
    where
      by : (b : Bool) → cond {A = Option What} b None (Some (what.ConstraintKind c.contype)) ≡ None → b ≡ true
      by true h = refl
      by false h = absurd cc

  pub constraint_says : (c : ConstraintRow) → IsAmong c cat.pg_constraint → ConstraintSays c
  unfolding constraint_said
  constraint_says c among =
      let bad = (or_parts (not (constraints.is_placed c)) (constraints.is_known c && not (constraints.agrees_if_said cat c (constraint_said c.condef))) (constraint_good cat well c among)).1 in
      let is = known c among in
      by_statement (statement_said c.condef) refl (agreed (constraints.is_known c) is bad)
    where
      agreed : (b : Bool) → b ≡ true → (b && not (constraints.agrees_if_said cat c (constraint_said c.condef))) ≡ false → constraints.agrees_if_said cat c (constraint_said c.condef) ≡ true
      agreed true e h = not_false _ h
      agreed false e h = absurd cc

      by_said : (s : Stmt) → statement_said c.condef ≡ Some s → (o : Option ConstraintText) → said_by s ≡ o → constraints.agrees_if_said cat c o ≡ true → ConstraintSays c
      by_said s is None said h = absurd cc
      by_said s is (Some text) said h = record { statement = s; stated = is; text = text; said = said; agrees = h }

      by_statement : (o : Option Stmt) → statement_said c.condef ≡ o → constraints.agrees_if_said cat c (option_and_then said_by o) ≡ true → ConstraintSays c
      by_statement None is h = absurd cc
      by_statement (Some s) is h = by_said s is (said_by s) refl h

  -- a key with its own index, of its name, in its table's schema
  pub record KeySays (c : ConstraintRow) (names : List Bytes) : Type 0 where
    pub table : QName
    pub at : class_path_of cat c.conrelid ≡ Some table
    pub path : class_path_of cat c.conindid ≡ Some (index_path table c.conname)
    pub columns : indexes.are_columns cat c.conrelid (Some names) ≡ true
    pub count : count_of (key_indexes cat) c.conindid ≤ 1

  pub key_says : (c : ConstraintRow) (names : List Bytes) → constraints.is_good_key cat c names ≡ true → KeySays c names
  key_says c names e =
      let a = and_parts (indexes.are_columns cat c.conrelid (Some names)) (constraints.has_own_index cat c) e in
      let b = and_parts (constraints.has_index_path (class_path_of cat c.conrelid) (class_path_of cat c.conindid) c.conname) (nat_le (count_of (key_indexes cat) c.conindid) 1) a.1 in
      by (class_path_of cat c.conrelid) refl b.0 a.0 (leb-true _ _ b.1)
    where
      by : (o : Option QName) → class_path_of cat c.conrelid ≡ o → constraints.has_index_path o (class_path_of cat c.conindid) c.conname ≡ true → indexes.are_columns cat c.conrelid (Some names) ≡ true → count_of (key_indexes cat) c.conindid ≤ 1 → KeySays c names
      by None is h columns count = absurd cc
      by (Some table) is h columns count = record { table = table; at = is; path = path_is (class_path_of cat c.conindid) (index_path table c.conname) h; columns = columns; count = count }

  -- a row with the letter of a key says a key
  is_key_said : (c : ConstraintRow) (text : ConstraintText) → is_key c ≡ true → constraints.agrees cat c text ≡ true → (names : List Bytes) × KeySays c names
  is_key_said c (Primary names) key h = (names, key_says c names (and_parts (constraints.is_good_key cat c names) _ (and_parts (Rattle.cat_book.specs.Leads.is_primary c) _ h).1).0)
  is_key_said c (Unique names) key h = (names, key_says c names (and_parts (constraints.is_unique c) (constraints.is_good_key cat c names) h).1)
  is_key_said c (Foreign names parent parents) key h = absurd (no_foreign c.contype key (and_parts (constraints.is_foreign c) _ h).0)
  is_key_said c (Check text) key h = absurd (no_check c.contype key (and_parts (constraints.is_check c) _ h).0)

  pub key_row : (c : ConstraintRow) → IsAmong c cat.pg_constraint → is_key c ≡ true → (names : List Bytes) × KeySays c names
  key_row c among key = let says = constraint_says c among in is_key_said c says.text key says.agrees

  -- two keys with one index are one row
  pub one_key : (a b : ConstraintRow) → IsAmong a cat.pg_constraint → IsAmong b cat.pg_constraint → is_key a ≡ true → is_key b ≡ true → a.conindid ≡ b.conindid → a ≡ b
  one_key a b among other key_a key_b same =
      let keys = filter is_key cat.pg_constraint in
      let says = key_row b other key_b in
      let few : length (filter (λ (c : ConstraintRow). same_oid b.conindid c.conindid) keys) ≤ 1 = subst (λ n. n ≤ 1) (counted (λ (c : ConstraintRow). c.conindid) keys b.conindid) says.1.count in
      alone_in (filter (λ (c : ConstraintRow). same_oid b.conindid c.conindid) keys) a b few
      (in_filter (λ (c : ConstraintRow). same_oid b.conindid c.conindid) keys a (in_filter is_key cat.pg_constraint a (in_place cat.pg_constraint a among) key_a) (subst (λ (n : ℕ). same_oid b.conindid n ≡ true) (sym same) (oid_tied b.conindid)))
      (in_filter (λ (c : ConstraintRow). same_oid b.conindid c.conindid) keys b (in_filter is_key cat.pg_constraint b (in_place cat.pg_constraint b other) key_b) (oid_tied b.conindid))

  -- ---- whose an index is

  -- that of a row of pg_index
  pub table_of_own : (i : IndexRow) → IsAmong i cat.pg_index → table_of_index cat i.indexrelid ≡ Some i.indrelid
  table_of_own i among =
      let found = found_find (λ (r : IndexRow). same_oid i.indexrelid r.indexrelid) cat.pg_index i among (oid_tied i.indexrelid) in
      let at = find_found (λ (r : IndexRow). same_oid i.indexrelid r.indexrelid) cat.pg_index found.0 found.1 in
      let same : found.0 ≡ i = one_of_oid (λ (r : IndexRow). r.indexrelid) cat.pg_index well.indexes.oids found.0 i at.0 among (sym (same_oid-equal i.indexrelid found.0.indexrelid at.1)) in
      ap (λ (o : Option IndexRow). option_or (option_map (λ (r : IndexRow). r.indrelid) o) (table_of_key cat i.indexrelid)) (found.1 ∙ ap (λ (r : IndexRow). Some r) same)

  -- the index of a key is one of those of keys
  pub key_among : (c : ConstraintRow) → IsAmong c cat.pg_constraint → is_key c ≡ true → has_oid (key_indexes cat) c.conindid ≡ true
  key_among c among key = index_in c (filter is_key cat.pg_constraint) (in_filter is_key cat.pg_constraint c (in_place cat.pg_constraint c among) key)

  -- and that of a key
  pub table_of_own_key : (c : ConstraintRow) → IsAmong c cat.pg_constraint → is_key c ≡ true → table_of_index cat c.conindid ≡ Some c.conrelid
  table_of_own_key c among key =
      ap (λ (o : Option IndexRow). option_or (option_map (λ (r : IndexRow). r.indrelid) o) (table_of_key cat c.conindid)) none_found ∙ of_key
    where
      tied : (is_key c && same_oid c.conindid c.conindid) ≡ true
      tied = and_from (is_key c) (same_oid c.conindid c.conindid) key (oid_tied c.conindid)

      of_key : table_of_key cat c.conindid ≡ Some c.conrelid
      of_key =
          let found = found_find (λ (d : ConstraintRow). is_key d && same_oid c.conindid d.conindid) cat.pg_constraint c among tied in
          let at = find_found (λ (d : ConstraintRow). is_key d && same_oid c.conindid d.conindid) cat.pg_constraint found.0 found.1 in
          let both = and_parts (is_key found.0) (same_oid c.conindid found.0.conindid) at.1 in
          let same : found.0 ≡ c = one_key found.0 c at.0 among both.0 key (sym (same_oid-equal c.conindid found.0.conindid both.1)) in
          ap (option_map (λ (d : ConstraintRow). d.conrelid)) found.1 ∙ ap (λ (d : ConstraintRow). Some d.conrelid) same

      none_by : (o : Option IndexRow) → find (λ (r : IndexRow). same_oid c.conindid r.indexrelid) cat.pg_index ≡ o → o ≡ None
      none_by None is = refl
      none_by (Some i) is =
          let at = find_found (λ (r : IndexRow). same_oid c.conindid r.indexrelid) cat.pg_index i is in
          let says = index_says i at.0 in
          let same : c.conindid ≡ i.indexrelid = same_oid-equal c.conindid i.indexrelid at.1 in
          let none : has_oid (key_indexes cat) c.conindid ≡ false = ap (has_oid (key_indexes cat)) same ∙ says.of_no_key in
          let has = key_among c among key in
          absurd cc

      none_found : find (λ (r : IndexRow). same_oid c.conindid r.indexrelid) cat.pg_index ≡ None
      none_found = none_by (find (λ (r : IndexRow). same_oid c.conindid r.indexrelid) cat.pg_index) refl
