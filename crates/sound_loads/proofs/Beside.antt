-- What holds of a loaded catalogue as a whole: chains of domains end, a table has one primary key, an index is that of a key
-- or stands alone, and the parents of foreign keys have keys.
use Rattle.std.proofs.Common.{◌≡◌, ◌≤◌, ℕ, pos, zero, suc, Bool, true, false, cond, not, ◌||◌, ◌&&◌, length, Option, Some, None, refl, sym, ap, subst, ◌∙◌, inl, inr}
use Rattle.std.proofs.lemmas.Bool.{and_parts, or_parts, leb-true}
use Rattle.std.specs.FinMap.{get}
use Rattle.std.specs.List.{filter, find}
use Rattle.std.specs.Option.{option_map, option_and_then, option_or}
use Rattle.std.specs.Prelude.{nat_le}
use Rattle.cat_rows.specs.declared.catalogue.Catalogue.{Catalogue}
use Rattle.cat_rows.specs.declared.constraints.ConstraintRow.{ConstraintRow}
use Rattle.cat_rows.specs.declared.relations.ClassRow.{ClassRow}
use Rattle.cat_rows.specs.declared.relations.IndexRow.{IndexRow}
use Rattle.cat_rows.specs.declared.types.TypeRow.{TypeRow}
use Rattle.cat_model.specs.declared.constraint.ConstraintKind.TheVariants as kinds
use Rattle.cat_model.specs.declared.key.Key.TheVariants as key
use Rattle.cat_model.specs.declared.object.QName.{QName}
use Rattle.cat_model.specs.declared.stmt.Stmt.{Stmt}
use Rattle.cat_model.specs.declared.stmt.Stmt.TheVariants as stmt
use Rattle.cat_model.specs.declared.type_name.TypeName.{TypeName}
use Rattle.cat_model.specs.declared.type_name.TypeName.TheVariants.{Words, Path}
use Rattle.cat_model.specs.declared.value.Domain.{Domain}
use Rattle.cat_model.specs.declared.value.Resolved.{Resolved}
use Rattle.cat_model.specs.declared.value.Value.{Value}
use Rattle.cat_model.specs.declared.value.Value.TheVariants as value
use Rattle.cat_model.specs.KeyEffects.{index_path, key_value, foreign_value}
use Rattle.cat_model.specs.References.{is_system}
use Rattle.cat_model.specs.RelationEffects.{check_value}
use Rattle.cat_model.specs.Values.{Bytes, Named}
use Rattle.cat_names.specs.declared.relations.RelationKind.{RelationKind}
use Rattle.cat_names.specs.declared.relations.RelationKind.TheVariants.{Table, View, Sequence, Index, Other}
use Rattle.cat_names.specs.Kinds.{relation_kind}
use Rattle.cat_names.specs.Lookups.{same_oid, has_oid, count_of, is_no_oid}
use Rattle.cat_book.specs.Chains.{type_of, is_domain_letter, has_base, base_of, ends_behind, ends_within}
use Rattle.cat_book.specs.Leads.{is_key, is_primary, key_indexes, primary_tables}
use Rattle.cat_book.specs.Rules.{RowName, name_cmp, is_nothing}
use Rattle.cat_book.specs.Paths.{type_path, path_of, class_path, class_path_of}
use Rattle.row_texts.specs.IndexTexts.{index_said}
use Rattle.row_texts.specs.declared.index_text.IndexText.{IndexText}
use Rattle.text_tables.specs.Agreeing.{agrees, is_at}
use Rattle.constraint_table.specs.declared.constraint_text.ConstraintText.{ConstraintText}
use Rattle.constraint_table.specs.declared.constraint_text.ConstraintText.TheVariants.{Primary, Unique, Foreign, Check}
use Rattle.constraint_table.specs.Said.{statement_said, said_by}
use Rattle.constraint_table.specs.Table as constraints
use Rattle.well_formed.specs.Formed.{IsWellFormed}
use Rattle.type_ends.specs.Ends.{labels_of}
use Rattle.cat_lookups.specs.Found.{table_of_key, table_of_index}
use Rattle.cat_naming.specs.Constraints.{constraint_value, constraint_entries, index_entries, said_entries}
use Rattle.cat_naming.specs.Entries.{catalogue_named}
use Rattle.cat_naming.specs.Relations.{RowsByOid}
use Rattle.cat_naming.specs.Types.{typed, domain_of}
use Rattle.cat_sound.specs.Beside.{base_of as base_at, EndsBehind, EndsWithin, Ends, is_primary_at, is_key_at, is_index_at}
use Rattle.cat_sound.proofs.Lists.{IsIn}
use Rattle.sound_rows.specs.Rows.{IsAmong}
use Rattle.sound_rows.proofs.Among.{each_in, one_of_key, find_found, found_find, in_place, in_flat}
use Rattle.sound_rows.proofs.Paths.{oid_tied, name_tied}
use Rattle.sound_rows.proofs.Roles.{same_oid-equal}
use Rattle.sound_loads.specs.Origins.{Origin, IsRelation}
use Rattle.sound_loads.proofs.Apart.{in_filter, counted}
use Rattle.sound_loads.proofs.Classes.{not_false, at_path, one_class, own_path, constraint_good}
use Rattle.sound_loads.proofs.Comments.{valued}
use Rattle.sound_loads.proofs.Entries.{path_in, value_in}
use Rattle.sound_loads.proofs.Keys.{alone_in, no_foreign, no_check, key_among, path_is, IndexSays, index_says, constraint_says, key_row, table_of_own, table_of_own_key}
use Rattle.sound_loads.proofs.Standing.{IsThere, origin, there, of_constraints, of_indexes}
use Rattle.sound_loads.proofs.Types.{IsTypedAs, typed_as, IsTypeOf, base_found, domain_row, type_is_there, type_at}

or_second : (a b : Bool) → b ≡ true → (a || b) ≡ true
or_second true b e = refl
or_second false b e = e

false_unless : (b : Bool) → (b ≡ true → ⊥) → b ≡ false
false_unless true h = absurd (h refl)
false_unless false h = refl

module _ (cat : Catalogue) (rows : RowsByOid) (well : IsWellFormed cat) where
  -- ---- chains of domains

  abbrev named : Named
  named = catalogue_named cat rows

  words_end : (n : ℕ) (w : Bytes) → EndsWithin n named (Words w)
  words_end zero w = tt
  words_end (suc n) w = tt

  system_ends : (n : ℕ) (q : QName) → is_system q.schema ≡ true → EndsWithin n named (Path q)
  system_ends zero q e = e
  system_ends (suc n) q e = inl e

  -- the base of a domain whose chain ends within so many types
  next_ends : (n : ℕ) (t : TypeRow) → is_domain_letter t.typtype ≡ true → ends_within (suc n) cat.pg_type t ≡ true → is_no_oid t.typbasetype ≡ false → (b : IsTypeOf cat t.typbasetype) → ends_within n cat.pg_type b.row ≡ true
  unfolding ends_within
  next_ends n t letter e some b =
      let has : has_base t ≡ true = rw (letter, some) refl in
      let base : base_of cat.pg_type t ≡ Some b.row = ap (λ (c : Bool). cond {A = Option TypeRow} c (type_of cat.pg_type t.typbasetype) None) has ∙ b.found in
      ap (ends_behind (ends_within n cat.pg_type)) (sym base) ∙ e

  none_within : (t : TypeRow) → ends_within zero cat.pg_type t ≡ true → ⊥
  unfolding ends_within
  none_within t e = absurd cc

  module _ (oid : ℕ) (text : Bytes) (given : IsTypedAs cat well oid text) (q : QName) (name : given.name ≡ Path q) where
    agreed_path : agrees cat oid (Path q) ≡ true
    agreed_path = ap (agrees cat oid) (sym name) ∙ given.agreed

    system_of : is_no_oid oid ≡ true → is_system q.schema ≡ true
    system_of is = ap (λ (b : Bool). cond b (is_system q.schema) (is_at (path_of cat oid) (Path q))) (sym is) ∙ agreed_path

    path_at : is_no_oid oid ≡ false → (b : IsTypeOf cat oid) → type_path cat.pg_namespace b.row ≡ Some q
    path_at some b =
        let at : path_of cat oid ≡ Some q = path_is (path_of cat oid) q (ap (λ (b : Bool). cond b (is_system q.schema) (is_at (path_of cat oid) (Path q))) (sym some) ∙ agreed_path) in
        ap (option_and_then (type_path cat.pg_namespace)) (sym b.found) ∙ at

  -- a type's chain ends where that of its base does
  value_ends : (n : ℕ) (t : TypeRow) → IsAmong t cat.pg_type → (q : QName) → type_path cat.pg_namespace t ≡ Some q → (is_domain_letter t.typtype ≡ true → (given : IsTypedAs cat well t.typbasetype t.basetext) → EndsWithin n named given.name) → EndsBehind (EndsWithin n named) (base_at (get named (key.UserType q)))
  value_ends n t among q path later =
      let at = type_is_there cat well rows t among q path in
      subst (λ (o : Option Value). EndsBehind (EndsWithin n named) (base_at o)) (sym at.is) (by (is_domain_letter t.typtype) refl at.value (type_at cat well rows t among q path at.value at.from))
    where
      by : (b : Bool) → is_domain_letter t.typtype ≡ b → (v : Value) → cond {A = Option Value} b (option_map (λ base. value.Domain (domain_of cat t base)) (typed cat t.typbasetype t.basetext)) (Some (value.Enum (labels_of cat t.oid))) ≡ Some v → EndsBehind (EndsWithin n named) (base_at (Some v))
      by true letter v e =
          let row = domain_row cat well t among letter in
          let given = typed_as cat well t.typbasetype t.basetext row.base row.named in
          let same : value.Domain (domain_of cat t (given.name, given.end)) ≡ v = let both = ap (option_map (λ base. value.Domain (domain_of cat t base))) (sym given.is) ∙ e in cc in
          subst (λ (w : Value). EndsBehind (EndsWithin n named) (base_at (Some w))) same (later letter given)
      by false letter v e =
          let same : value.Enum (labels_of cat t.oid) ≡ v = cc in
          subst (λ (w : Value). EndsBehind (EndsWithin n named) (base_at (Some w))) same tt

  base_ends : (n : ℕ) (t : TypeRow) → IsAmong t cat.pg_type → is_domain_letter t.typtype ≡ true → ends_within (suc n) cat.pg_type t ≡ true → (given : IsTypedAs cat well t.typbasetype t.basetext) → EndsWithin n named given.name
  base_ends zero t among letter e given = by given.name refl
    where
      by_oid : (q : QName) → given.name ≡ Path q → (b : Bool) → is_no_oid t.typbasetype ≡ b → EndsWithin zero named (Path q)
      by_oid q name true is = system_of t.typbasetype t.basetext given q name is
      by_oid q name false some =
          let b = base_found cat t.typbasetype (domain_row cat well t among letter).base some in
          absurd (none_within b.row (next_ends zero t letter e some b))

      by : (name : TypeName) → given.name ≡ name → EndsWithin zero named name
      by (Words w) name = tt
      by (Path q) name = by_oid q name (is_no_oid t.typbasetype) refl
  base_ends (suc n) t among letter e given = by (λ b here l ends behind. base_ends n b here l ends behind) given.name refl
    where
      by_oid : ((b : TypeRow) → IsAmong b cat.pg_type → is_domain_letter b.typtype ≡ true → ends_within (suc n) cat.pg_type b ≡ true → (behind : IsTypedAs cat well b.typbasetype b.basetext) → EndsWithin n named behind.name)
          → (q : QName) → given.name ≡ Path q → (b : Bool) → is_no_oid t.typbasetype ≡ b → EndsWithin (suc n) named (Path q)
      by_oid later q name true is = inl (system_of t.typbasetype t.basetext given q name is)
      by_oid later q name false some =
          let b = base_found cat t.typbasetype (domain_row cat well t among letter).base some in
          inr (value_ends n b.row b.among q (path_at t.typbasetype t.basetext given q name some b) (λ l behind. later b.row b.among l (next_ends (suc n) t letter e some b) behind))

      by : ((b : TypeRow) → IsAmong b cat.pg_type → is_domain_letter b.typtype ≡ true → ends_within (suc n) cat.pg_type b ≡ true → (behind : IsTypedAs cat well b.typbasetype b.basetext) → EndsWithin n named behind.name)
          → (name : TypeName) → given.name ≡ name → EndsWithin (suc n) named name
      by later (Words w) name = tt
      by later (Path q) name = by_oid later q name (is_no_oid t.typbasetype) refl

  pub chains : (q : QName) (d : Domain) → get named (key.UserType q) ≡ Some (value.Domain d) → Ends named d.base
  chains q d e =
      let from = origin cat rows (key.UserType q) (value.Domain d) e in
      by from.row from.among (is_domain_letter from.row.typtype) refl (from.of ∙ ap (λ (w : Value). Some w) from.is)
    where
      of_base : (t : TypeRow) → IsAmong t cat.pg_type → is_domain_letter t.typtype ≡ true → (o : Option (TypeName × Resolved)) → typed cat t.typbasetype t.basetext ≡ o → option_map (λ base. value.Domain (domain_of cat t base)) o ≡ Some (value.Domain d) → Ends named d.base
      of_base t among letter None is h = absurd cc
      of_base t among letter (Some base) is h =
          let row = domain_row cat well t among letter in
          let given = typed_as cat well t.typbasetype t.basetext row.base row.named in
          let pair : ◌≡◌ {A = TypeName × Resolved} (given.name, given.end) base = let both = sym given.is ∙ is in cc in
          let same : domain_of cat t base ≡ d = cc in
          let names : given.name ≡ d.base = ap (λ (p : TypeName × Resolved). p.0) pair ∙ ap (λ (x : Domain). x.base) same in
          (length cat.pg_type, subst (EndsWithin (length cat.pg_type) named) names (base_ends (length cat.pg_type) t among letter row.ends given))

      by : (t : TypeRow) → IsAmong t cat.pg_type → (b : Bool) → is_domain_letter t.typtype ≡ b → cond {A = Option Value} b (option_map (λ base. value.Domain (domain_of cat t base)) (typed cat t.typbasetype t.basetext)) (Some (value.Enum (labels_of cat t.oid))) ≡ Some (value.Domain d) → Ends named d.base
      by t among true letter h = of_base t among letter (typed cat t.typbasetype t.basetext) refl h
      by t among false letter h = absurd cc

  -- ---- keys of tables

  -- what a constraint that stands for a row is: its statement, with its value
  pub record Stated (q : QName) (name : Bytes) (v : Value) : Type 0 where
    pub row : ConstraintRow
    pub among : IsAmong row cat.pg_constraint
    pub path : class_path_of cat row.conrelid ≡ Some q
    pub same : row.conname ≡ name
    pub statement : Stmt
    pub text : ConstraintText
    pub says : said_by statement ≡ Some text
    pub agrees : constraints.agrees cat row text ≡ true
    pub is : constraint_value statement ≡ Some v

  pub stated : (q : QName) (name : Bytes) (v : Value) → Origin cat rows (key.Con q name) v → Stated q name v
  stated q name v from =
      let says = constraint_says cat well from.row from.among in
      record { row = from.row; among = from.among; path = from.path; same = from.same; statement = says.statement; text = says.text; says = says.said; agrees = says.agrees; is = ap (option_and_then constraint_value) (sym says.stated) ∙ from.said }

  -- a primary key is one by its row's letter, and the only one
  primary_row : (c : ConstraintRow) (s : Stmt) (t : ConstraintText) → said_by s ≡ Some t → constraints.agrees cat c t ≡ true → (v : Value) → constraint_value s ≡ Some v → is_primary_at (Some v) ≡ true → (is_primary c ≡ true) × (count_of (primary_tables cat) c.conrelid ≤ 1)
  primary_row c (stmt.AddPrimary p name columns rest) t says agrees v is e =
      let same : Primary columns ≡ t = cc in
      let good = and_parts (is_primary c) _ (ap (constraints.agrees cat c) same ∙ agrees) in
      (good.0, leb-true _ _ (and_parts (constraints.is_good_key cat c columns) (nat_le (count_of (primary_tables cat) c.conrelid) 1) good.1).1)
  primary_row c (stmt.AddUnique p name columns rest) t says agrees v is e = absurd (let held : key_value kinds.Unique columns rest ≡ v = cc in let no : false ≡ true = ap (λ w. is_primary_at (Some w)) held ∙ e in cc)
  primary_row c (stmt.AddForeign p name columns parent parents rest) t says agrees v is e = absurd (let held : foreign_value columns parent parents rest ≡ v = cc in let no : false ≡ true = ap (λ w. is_primary_at (Some w)) held ∙ e in cc)
  primary_row c (stmt.AddCheck p name text) t says agrees v is e = absurd (let held : check_value text ≡ v = cc in let no : false ≡ true = ap (λ w. is_primary_at (Some w)) held ∙ e in cc)
  primary_row c _ t says agrees v is e = absurd cc

  -- two relations of one path have one oid
  pub one_oid : (q : QName) (a b : ℕ) → class_path_of cat a ≡ Some q → class_path_of cat b ≡ Some q → a ≡ b
  one_oid q a b pa pb =
      let one = at_path cat a q pa in
      let two = at_path cat b q pb in
      let same : one.class.row ≡ two.class.row = one_class cat well q one.class.row two.class.row one.class.among two.class.among one.path two.path in
      one.class.same ∙ ap (λ (r : ClassRow). r.oid) same ∙ sym two.class.same

  found_primary : (q : QName) (name : Bytes) → is_primary_at (get named (key.Con q name)) ≡ true → (c : ConstraintRow) × IsAmong c cat.pg_constraint × (class_path_of cat c.conrelid ≡ Some q) × (c.conname ≡ name) × (is_primary c ≡ true) × (count_of (primary_tables cat) c.conrelid ≤ 1)
  found_primary q name e = by (get named (key.Con q name)) refl e
    where
      by : (o : Option Value) → get named (key.Con q name) ≡ o → is_primary_at o ≡ true → (c : ConstraintRow) × IsAmong c cat.pg_constraint × (class_path_of cat c.conrelid ≡ Some q) × (c.conname ≡ name) × (is_primary c ≡ true) × (count_of (primary_tables cat) c.conrelid ≤ 1)
      by None is h = absurd cc
      by (Some v) is h =
          let s = stated q name v (origin cat rows (key.Con q name) v is) in
          let row = primary_row s.row s.statement s.text s.says s.agrees v s.is h in
          (s.row, s.among, s.path, s.same, row.0, row.1)

  pub primaries : (q : QName) (name other : Bytes) → is_primary_at (get named (key.Con q name)) ≡ true → is_primary_at (get named (key.Con q other)) ≡ true → name ≡ other
  primaries q name other e f =
      let a = found_primary q name e in
      let b = found_primary q other f in
      let oids : a.0.conrelid ≡ b.0.conrelid = one_oid q a.0.conrelid b.0.conrelid a.2 b.2 in
      let keys = filter is_primary cat.pg_constraint in
      let few : length (filter (λ (c : ConstraintRow). same_oid b.0.conrelid c.conrelid) keys) ≤ 1 = subst (λ n. n ≤ 1) (counted (λ (c : ConstraintRow). c.conrelid) keys b.0.conrelid) b.5 in
      let same : a.0 ≡ b.0 =
      alone_in (filter (λ (c : ConstraintRow). same_oid b.0.conrelid c.conrelid) keys) a.0 b.0 few
      (in_filter (λ (c : ConstraintRow). same_oid b.0.conrelid c.conrelid) keys a.0 (in_filter is_primary cat.pg_constraint a.0 (in_place cat.pg_constraint a.0 a.1) a.4) (subst (λ (n : ℕ). same_oid b.0.conrelid n ≡ true) (sym oids) (oid_tied b.0.conrelid)))
      (in_filter (λ (c : ConstraintRow). same_oid b.0.conrelid c.conrelid) keys b.0 (in_filter is_primary cat.pg_constraint b.0 (in_place cat.pg_constraint b.0 b.1) b.4) (oid_tied b.0.conrelid))
      in
      sym a.3 ∙ ap (λ (c : ConstraintRow). c.conname) same ∙ b.3

  -- constraints of one name on one table are one
  of_no_domain : (c : ConstraintRow) → IsAmong c cat.pg_constraint → (q : QName) → class_path_of cat c.conrelid ≡ Some q → c.contypid ≡ 0
  of_no_domain c among q path =
      let at = at_path cat c.conrelid q path in
      let some : is_no_oid c.conrelid ≡ false = ap is_no_oid at.class.same ∙ each_in (λ (r : ClassRow). is_nothing (Some r.oid) ≡ false) cat.pg_class well.relations.objects at.class.row at.class.among in
      let placed = not_false _ (or_parts (not (constraints.is_placed c)) _ (constraint_good cat well c among)).0 in
      same_oid-equal c.contypid 0 (by (is_no_oid c.contypid) some placed)
    where
      none : (b : Bool) → b ≡ false → (b && constraints.is_check c) ≡ true → ⊥
      none true e h = cc
      none false e h = cc

      by : (b : Bool) → is_no_oid c.conrelid ≡ false → cond b (not (is_no_oid c.conrelid)) (is_no_oid c.conrelid && constraints.is_check c) ≡ true → b ≡ true
      by true e h = refl
      by false e h = absurd (none (is_no_oid c.conrelid) e h)

  pub one_constraint : (a b : ConstraintRow) → IsAmong a cat.pg_constraint → IsAmong b cat.pg_constraint → (q : QName) → class_path_of cat a.conrelid ≡ Some q → class_path_of cat b.conrelid ≡ Some q → a.conname ≡ b.conname → a ≡ b
  one_constraint a b among other q pa pb names =
      let oids = one_oid q a.conrelid b.conrelid pa pb in
      let types : a.contypid ≡ b.contypid = of_no_domain a among q pa ∙ sym (of_no_domain b other q pb) in
      one_of_key name_cmp name_tied (λ (r : ConstraintRow). Some (r.conrelid, r.contypid, pos 0, r.conname)) cat.pg_constraint well.constraints.names a b (b.conrelid, b.contypid, pos 0, b.conname) among other
      (ap {B = Option RowName} (λ (n : ℕ). Some (n, a.contypid, pos 0, a.conname)) oids ∙ ap {B = Option RowName} (λ (n : ℕ). Some (b.conrelid, n, pos 0, a.conname)) types ∙ ap {B = Option RowName} (λ (n : Bytes). Some (b.conrelid, b.contypid, pos 0, n)) names) refl

  -- ---- whose an index is

  -- a constraint's value is that of a key exactly where its row's letter is
  key_value_of : (c : ConstraintRow) (s : Stmt) (t : ConstraintText) → said_by s ≡ Some t → constraints.agrees cat c t ≡ true → (v : Value) → constraint_value s ≡ Some v → is_key_at (Some v) ≡ is_key c
  key_value_of c (stmt.AddPrimary p name columns rest) t says agrees v is =
      let same : Primary columns ≡ t = cc in
      let good = and_parts (is_primary c) _ (ap (constraints.agrees cat c) same ∙ agrees) in
      let held : key_value kinds.Primary columns rest ≡ v = cc in
      ap (λ w. is_key_at (Some w)) (sym held) ∙ sym (rw good.0 refl)
  key_value_of c (stmt.AddUnique p name columns rest) t says agrees v is =
      let same : Unique columns ≡ t = cc in
      let good = and_parts (constraints.is_unique c) _ (ap (constraints.agrees cat c) same ∙ agrees) in
      let held : key_value kinds.Unique columns rest ≡ v = cc in
      ap (λ w. is_key_at (Some w)) (sym held) ∙ sym (or_second (is_primary c) (constraints.is_unique c) good.0)
  key_value_of c (stmt.AddForeign p name columns parent parents rest) t says agrees v is =
      let same : Foreign columns parent parents ≡ t = cc in
      let good = and_parts (constraints.is_foreign c) _ (ap (constraints.agrees cat c) same ∙ agrees) in
      let held : foreign_value columns parent parents rest ≡ v = cc in
      ap (λ w. is_key_at (Some w)) (sym held) ∙ sym (false_unless (is_key c) (λ key. no_foreign c.contype key good.0))
  key_value_of c (stmt.AddCheck p name text) t says agrees v is =
      let same : Check text ≡ t = cc in
      let good = and_parts (constraints.is_check c) _ (ap (constraints.agrees cat c) same ∙ agrees) in
      let held : check_value text ≡ v = cc in
      ap (λ w. is_key_at (Some w)) (sym held) ∙ sym (false_unless (is_key c) (λ key. no_check c.contype key good.0))
  key_value_of c _ t says agrees v is = absurd cc

  -- a constraint of a table is there
  pub constraint_is_there : (c : ConstraintRow) → IsAmong c cat.pg_constraint → (q : QName) → class_path_of cat c.conrelid ≡ Some q → IsThere cat rows (key.Con q c.conname)
  constraint_is_there c among q path =
      let says = constraint_says cat well c among in
      let v = valued says.statement says.text says.said in
      let held = ap (option_and_then constraint_value) says.stated ∙ v.1 in
      there cat rows (key.Con q c.conname) v.0 (of_constraints cat rows _ (in_flat (constraint_entries cat) cat.pg_constraint c _ among
      (path_in _ (class_path_of cat c.conrelid) _ q path (value_in _ (option_and_then constraint_value (statement_said c.condef)) _ v.0 held (inl refl)))))

  pub index_is_there : (i : IndexRow) → IsAmong i cat.pg_index → (text : IndexText) → index_said i.indexdef ≡ Some text → IsThere cat rows (key.Index text.table text.name)
  index_is_there i among text said =
      there cat rows (key.Index text.table text.name) (value.Index (record { method = text.method; unique = text.unique; text = text.rest }))
      (of_indexes cat rows _ (in_flat index_entries cat.pg_index i _ among (subst (λ (o : Option IndexText). IsIn (key.Index text.table text.name, value.Index (record { method = text.method; unique = text.unique; text = text.rest })) (said_entries o)) (sym said) (inl refl))))

  module _ (q table : QName) (c : ClassRow) (among : IsAmong c cat.pg_class) (path : class_path cat.pg_namespace c ≡ Some q) (of : option_and_then (class_path_of cat) (table_of_index cat c.oid) ≡ Some table) where
    own : class_path_of cat c.oid ≡ Some q
    own = own_path cat well c among q path

    -- where the index has a row of its own
    of_row : (i : IndexRow) → IsAmong i cat.pg_index → c.oid ≡ i.indexrelid → is_key_at (get named (key.Con table q.name)) ≡ not (is_index_at (get named (key.Index table q.name)))
    of_row i here same = no_key (get named (key.Con table q.name)) refl ∙ ap not (sym an_index)
      where
        says : IndexSays cat well i
        says = index_says cat well i here

        whole : q ≡ index_path (index_says cat well i here).text.table (index_says cat well i here).text.name
        whole = let both = sym own ∙ ap (class_path_of cat) same ∙ says.path in cc

        at_table : (index_says cat well i here).text.table ≡ table
        at_table =
            let at : option_and_then (class_path_of cat) (table_of_index cat c.oid) ≡ Some says.text.table = ap (λ n. option_and_then (class_path_of cat) (table_of_index cat n)) same ∙ ap (option_and_then (class_path_of cat)) (table_of_own cat well i here) ∙ says.table in
            let both = sym at ∙ of in
            cc

        names : (index_says cat well i here).text.name ≡ q.name
        names = ap (λ (p : QName). p.name) (sym whole)

        an_index : is_index_at (get named (key.Index table q.name)) ≡ true
        an_index =
            let at = index_is_there i here says.text says.said in
            let one : is_index_at (get named (key.Index says.text.table says.text.name)) ≡ true = ap is_index_at at.is ∙ ap (λ w. is_index_at (Some w)) (sym at.from.is) in
            subst (λ (n : Bytes). is_index_at (get named (key.Index table n)) ≡ true) names (subst (λ (p : QName). is_index_at (get named (key.Index p says.text.name)) ≡ true) at_table one)

        is_path_of : index_path table q.name ≡ q
        is_path_of = ap (λ (n : Bytes). index_path table n) (sym names) ∙ ap (λ (p : QName). index_path p says.text.name) (sym at_table) ∙ sym whole

        no_key : (o : Option Value) → get named (key.Con table q.name) ≡ o → is_key_at o ≡ false
        no_key None is = refl
        no_key (Some v) is = false_unless (is_key_at (Some v)) (λ e.
            let s = stated table q.name v (origin cat rows (key.Con table q.name) v is) in
            let key : is_key s.row ≡ true = sym (key_value_of s.row s.statement s.text s.says s.agrees v s.is) ∙ e in
            let row = (key_row cat well s.row s.among key).1 in
            let tables : row.table ≡ table = let both = sym row.at ∙ s.path in cc in
            let path_of_key : class_path_of cat s.row.conindid ≡ Some q = row.path ∙ ap (λ (p : QName). Some (index_path p s.row.conname)) tables ∙ ap (λ (n : Bytes). Some (index_path table n)) s.same ∙ ap (λ (p : QName). Some p) is_path_of in
            let oids : s.row.conindid ≡ i.indexrelid = one_oid q s.row.conindid c.oid path_of_key own ∙ same in
            let has : has_oid (key_indexes cat) i.indexrelid ≡ true = ap (has_oid (key_indexes cat)) (sym oids) ∙ key_among cat well s.row s.among key in
            let none = says.of_no_key in
            absurd cc)

    -- where it is a key's
    of_key : find (λ (i : IndexRow). same_oid c.oid i.indexrelid) cat.pg_index ≡ None → (k : ConstraintRow) → IsAmong k cat.pg_constraint → is_key k ≡ true → c.oid ≡ k.conindid → is_key_at (get named (key.Con table q.name)) ≡ not (is_index_at (get named (key.Index table q.name)))
    of_key none k here keyed same = a_key ∙ ap not (sym (no_index (get named (key.Index table q.name)) refl))
      where
        at_table : (key_row cat well k here keyed).1.table ≡ table
        at_table =
            let row = (key_row cat well k here keyed).1 in
            let at : option_and_then (class_path_of cat) (table_of_index cat c.oid) ≡ Some row.table = ap (λ n. option_and_then (class_path_of cat) (table_of_index cat n)) same ∙ ap (option_and_then (class_path_of cat)) (table_of_own_key cat well k here keyed) ∙ row.at in
            let both = sym at ∙ of in
            cc

        whole : q ≡ index_path table k.conname
        whole =
            let row = (key_row cat well k here keyed).1 in
            let one : q ≡ index_path row.table k.conname = let both = sym own ∙ ap (class_path_of cat) same ∙ row.path in cc in
            one ∙ ap (λ (p : QName). index_path p k.conname) at_table

        names : k.conname ≡ q.name
        names = ap (λ (p : QName). p.name) (sym whole)

        is_path_of : index_path table q.name ≡ q
        is_path_of = ap (λ (n : Bytes). index_path table n) (sym names) ∙ sym whole

        a_key : is_key_at (get named (key.Con table q.name)) ≡ true
        a_key =
            let row = (key_row cat well k here keyed).1 in
            let at = constraint_is_there k here table (row.at ∙ ap (λ (p : QName). Some p) at_table) in
            let one : is_key_at (get named (key.Con table k.conname)) ≡ true = ap is_key_at at.is ∙ of_value at.value at.from in
            subst (λ (n : Bytes). is_key_at (get named (key.Con table n)) ≡ true) names one
          where
            of_value : (v : Value) → Origin cat rows (key.Con table k.conname) v → is_key_at (Some v) ≡ true
            of_value v from =
                let s = stated table k.conname v from in
                let one : s.row ≡ k = one_constraint s.row k s.among here table s.path ((key_row cat well k here keyed).1.at ∙ ap (λ (p : QName). Some p) at_table) s.same in
                key_value_of s.row s.statement s.text s.says s.agrees v s.is ∙ ap is_key one ∙ keyed

        no_index : (o : Option Value) → get named (key.Index table q.name) ≡ o → is_index_at o ≡ false
        no_index None is = refl
        no_index (Some v) is =
            let from = origin cat rows (key.Index table q.name) v is in
            let says = index_says cat well from.row from.among in
            let texts : says.text ≡ from.text = let both = sym says.said ∙ from.said in cc in
            let path_of_index : class_path_of cat from.row.indexrelid ≡ Some q = says.path ∙ ap (λ (t : IndexText). Some (index_path t.table t.name)) texts ∙ ap (λ (p : QName). Some (index_path p from.text.name)) from.path ∙ ap (λ (n : Bytes). Some (index_path table n)) from.same ∙ ap (λ (p : QName). Some p) is_path_of in
            let oids : c.oid ≡ from.row.indexrelid = one_oid q c.oid from.row.indexrelid own path_of_index in
            let found = found_find (λ (i : IndexRow). same_oid c.oid i.indexrelid) cat.pg_index from.row from.among (subst (λ (n : ℕ). same_oid c.oid n ≡ true) oids (oid_tied c.oid)) in
            absurd (let some = found.1 in cc)

    of_index : is_key_at (get named (key.Con table q.name)) ≡ not (is_index_at (get named (key.Index table q.name)))
    of_index = by (find (λ (i : IndexRow). same_oid c.oid i.indexrelid) cat.pg_index) refl
      where
        by_key : find (λ (i : IndexRow). same_oid c.oid i.indexrelid) cat.pg_index ≡ None → (o : Option ConstraintRow) → find (λ (k : ConstraintRow). is_key k && same_oid c.oid k.conindid) cat.pg_constraint ≡ o → is_key_at (get named (key.Con table q.name)) ≡ not (is_index_at (get named (key.Index table q.name)))
        by_key none None found =
            let nothing : table_of_index cat c.oid ≡ None = ap (λ (o : Option IndexRow). option_or (option_map (λ (i : IndexRow). i.indrelid) o) (table_of_key cat c.oid)) none ∙ ap (option_map (λ (k : ConstraintRow). k.conrelid)) found in
            let no_table : option_and_then (class_path_of cat) (table_of_index cat c.oid) ≡ None = ap (option_and_then (class_path_of cat)) nothing in
            absurd cc
        by_key none (Some k) found =
            let at = find_found (λ (d : ConstraintRow). is_key d && same_oid c.oid d.conindid) cat.pg_constraint k found in
            let both = and_parts (is_key k) (same_oid c.oid k.conindid) at.1 in
            of_key none k at.0 both.0 (same_oid-equal c.oid k.conindid both.1)

        by : (o : Option IndexRow) → find (λ (i : IndexRow). same_oid c.oid i.indexrelid) cat.pg_index ≡ o → is_key_at (get named (key.Con table q.name)) ≡ not (is_index_at (get named (key.Index table q.name)))
        by None found = by_key found (find (λ (k : ConstraintRow). is_key k && same_oid c.oid k.conindid) cat.pg_constraint) refl
        by (Some i) found = let at = find_found (λ (r : IndexRow). same_oid c.oid r.indexrelid) cat.pg_index i found in of_row i at.0 (same_oid-equal c.oid i.indexrelid at.1)

  pub indexes : (q table : QName) → get named (key.Rel q) ≡ Some (value.IndexOf table) → is_key_at (get named (key.Con table q.name)) ≡ not (is_index_at (get named (key.Index table q.name)))
  indexes q table e = of_origin (origin cat rows (key.Rel q) (value.IndexOf table) e)
    where
      by_kind : (c : ClassRow) → IsAmong c cat.pg_class → class_path cat.pg_namespace c ≡ Some q → (k : RelationKind) → IsRelation cat c k (value.IndexOf table) → is_key_at (get named (key.Con table q.name)) ≡ not (is_index_at (get named (key.Index table q.name)))
      by_kind c among path Table is = absurd cc
      by_kind c among path View is = absurd cc
      by_kind c among path Sequence is = absurd is
      by_kind c among path Index is = let same : is.0 ≡ table = let both = is.2 in cc in of_index q table c among path (is.1 ∙ ap (λ (p : QName). Some p) same)
      by_kind c among path (Other letter) is = absurd is

      of_origin : Origin cat rows (key.Rel q) (value.IndexOf table) → is_key_at (get named (key.Con table q.name)) ≡ not (is_index_at (get named (key.Index table q.name)))
      of_origin (inl from) = by_kind from.row from.among from.path (relation_kind from.row.relkind) from.is
      of_origin (inr from) = absurd (let is = from.is in cc)
