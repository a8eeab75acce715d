-- The columns of tables of a loaded catalogue: each column of a relation's rows is there, and what they ask of types is met.
use Rattle.std.proofs.Common.{◌≡◌, ◌≤◌, ℕ, Bool, true, false, cond, not, ◌||◌, ◌&&◌, List, map, length, Option, Some, None, refl, sym, ap, subst, ◌∙◌, arith}
use Rattle.std.proofs.lemmas.Bool.{and_parts, or_parts, ltb-false, le-leb}
use Rattle.std.specs.declared.cmp.Ordering.{Ordering}
use Rattle.std.specs.declared.cmp.Ordering.TheVariants.{Less, Equal, Greater}
use Rattle.std.specs.FinMap.{IsAntisymmetric, nat_cmp-IsAntisymmetric, slice_cmp-IsAntisymmetric}
use Rattle.std.specs.List.{AllByRecursion, filter, find, flat_map}
use Rattle.std.specs.Option.{option_map}
use Rattle.std.specs.Ordering.{nat_cmp, ordering_then, int_eq}
use Rattle.std.specs.Prelude.{ℤ, nat_lt}
use Rattle.cat_rows.specs.declared.catalogue.Catalogue.{Catalogue}
use Rattle.cat_rows.specs.declared.relations.AttributeRow.{AttributeRow}
use Rattle.cat_rows.specs.declared.relations.ClassRow.{ClassRow}
use Rattle.cat_model.specs.declared.type_name.TypeName.{TypeName}
use Rattle.cat_model.specs.declared.value.Column.{Column}
use Rattle.cat_model.specs.declared.value.Resolved.{Resolved}
use Rattle.cat_model.specs.declared.words.What.{What}
use Rattle.cat_model.specs.declared.words.What.TheVariants as what
use Rattle.cat_model.specs.Lexemes.{same_text}
use Rattle.cat_model.specs.Tables.{column_there, distinct}
use Rattle.cat_model.specs.Values.{Bytes, bytes_cmp}
use Rattle.cat_model.proofs.MarkLaws.{same_text-self}
use Rattle.cat_names.specs.declared.relations.RelationKind.TheVariants.{Table}
use Rattle.cat_names.specs.Findings.{left_out_first}
use Rattle.cat_names.specs.Kinds.{relation_kind, kind_of}
use Rattle.cat_names.specs.Lookups.{same_oid, role_name}
use Rattle.cat_names.specs.Rights.{is_by_other, other_left_out}
use Rattle.cat_book.specs.Leads.{column_cmp, named, has_column, has_columns, column_count, is_base_there}
use Rattle.plain_tables.specs.Relations.{relation_left_out, kind_left_out, persistence_left_out, columns_left_out}
use Rattle.text_tables.specs.Agreeing.{is_type_named}
use Rattle.text_tables.specs.Columns.{is_column_there, is_column_number}
use Rattle.oid_groups.specs.Orders.{by_number}
use Rattle.well_formed.specs.Formed.{IsWellFormed}
use Rattle.cat_lookups.specs.Found.{column_name}
use Rattle.cat_naming.specs.Entries.{catalogue_named}
use Rattle.cat_naming.specs.Relations.{RowsByOid, column_with, column_of, columns_of}
use Rattle.cat_naming.specs.Types.{typed}
use Rattle.cat_sound.specs.Texts.{Texts}
use Rattle.cat_sound.specs.Asks.{column_asks}
use Rattle.cat_sound.specs.Itself.{IsTyped, IsTable}
use Rattle.cat_sound.specs.Sound.{IsMet}
use Rattle.cat_sound.proofs.Lists.{IsIn, all-flat, all-weaker}
use Rattle.sound_rows.specs.Rows.{IsAmong}
use Rattle.sound_rows.proofs.Among.{each_in, has_found, find_found, in_place, place_in, of_filter}
use Rattle.sound_rows.proofs.Paths.{oid_tied}
use Rattle.sound_loads.specs.Reads.{Reads}
use Rattle.sound_loads.proofs.Apart.{in_filter, in_mapped, in_sorted, sorted_in, each_mapped, any_in, length_mapped, length_sorted, apart_filtered, apart_sorted, apart_mapped, distinct_apart, counted}
use Rattle.sound_loads.proofs.Classes.{not_false}
use Rattle.sound_loads.proofs.Types.{IsTypedAs, typed_as, IsTypedWell, typed_well}

-- keys of columns that tie are equal
column_cmp-IsAntisymmetric : IsAntisymmetric column_cmp
column_cmp-IsAntisymmetric x y e = by (nat_cmp x.0 y.0) refl e
  where
    by : (o : Ordering) → nat_cmp x.0 y.0 ≡ o → ordering_then o (bytes_cmp x.1 y.1) ≡ Equal → x ≡ y
    by Less is h = absurd cc
    by Greater is h = absurd cc
    by Equal is h =
        let one : x.0 ≡ y.0 = nat_cmp-IsAntisymmetric x.0 y.0 is in
        let two : x.1 ≡ y.1 = slice_cmp-IsAntisymmetric nat_cmp-IsAntisymmetric x.1 y.1 h in
        λ i. (one i, two i)

none_second : (a b : Option What) → left_out_first a b ≡ None → b ≡ None
none_second None b e = e
none_second (Some what) b e = absurd cc

module _ (cat : Catalogue) (well : IsWellFormed cat) where
  attribute_there : (a : AttributeRow) → IsAmong a cat.pg_attribute → is_base_there cat.pg_type a.atttypid ≡ true
  attribute_there a among =
      (and_parts (has_columns (kind_of cat.pg_class a.attrelid)) (is_base_there cat.pg_type a.atttypid)
      (not_false _ (each_in (λ (r : AttributeRow). not (is_column_there cat r) ≡ false) cat.pg_attribute well.columns.there a among))).1

  attribute_named : (a : AttributeRow) → IsAmong a cat.pg_attribute → is_type_named cat a.atttypid a.typtext ≡ true
  attribute_named a among =
      not_false _ (or_parts (not (is_column_number a.attnum)) (not (is_type_named cat a.atttypid a.typtext))
      (each_in (λ (r : AttributeRow). (not (is_column_number r.attnum) || not (is_type_named cat r.atttypid r.typtext)) ≡ false) cat.pg_attribute well.columns.texts a among)).1

  attribute_typed : (a : AttributeRow) → IsAmong a cat.pg_attribute → IsTypedAs cat well a.atttypid a.typtext
  attribute_typed a among = typed_as cat well a.atttypid a.typtext (attribute_there a among) (attribute_named a among)

  module _ (oid : ℕ) where
    abbrev own_rows : List AttributeRow
    own_rows = filter (λ a. same_oid oid a.attrelid) cat.pg_attribute

    abbrev in_order : List AttributeRow
    in_order = by_number (λ a. a.attnum) own_rows

    -- ---- which columns there are

    column_in : (a : AttributeRow) → IsAmong a cat.pg_attribute → same_oid oid a.attrelid ≡ true → (c : Column) × IsIn c (columns_of cat oid) × (c.name ≡ a.attname)
    column_in a among same =
        let type = attribute_typed a among in
        let c = column_with a (type.name, type.end) in
        (c, in_mapped (column_of cat) in_order a c (in_sorted (λ (r : AttributeRow). r.attnum) own_rows a (in_filter (λ (r : AttributeRow). same_oid oid r.attrelid) cat.pg_attribute a (in_place cat.pg_attribute a among) same)) (ap (option_map (column_with a)) type.is), refl)

    there_of : (a : AttributeRow) → IsAmong a cat.pg_attribute → same_oid oid a.attrelid ≡ true → column_there (columns_of cat oid) a.attname ≡ true
    there_of a among same =
        let c = column_in a among same in
        any_in (λ (d : Column). same_text a.attname d.name) (columns_of cat oid) c.0 c.1 (ap (same_text a.attname) c.2 ∙ same_text-self a.attname)

    pub column_numbered : (number : ℤ) (name : Bytes) → column_name cat oid number ≡ Some name → column_there (columns_of cat oid) name ≡ true
    column_numbered number name e = by (find (λ (a : AttributeRow). same_oid oid a.attrelid && int_eq number a.attnum) cat.pg_attribute) refl e
      where
        by : (o : Option AttributeRow) → find (λ (a : AttributeRow). same_oid oid a.attrelid && int_eq number a.attnum) cat.pg_attribute ≡ o → option_map (λ (a : AttributeRow). a.attname) o ≡ Some name → column_there (columns_of cat oid) name ≡ true
        by None is h = absurd cc
        by (Some a) is h =
            let found = find_found (λ (a : AttributeRow). same_oid oid a.attrelid && int_eq number a.attnum) cat.pg_attribute a is in
            let same : a.attname ≡ name = cc in
            subst (λ (n : Bytes). column_there (columns_of cat oid) n ≡ true) same (there_of a found.0 (and_parts (same_oid oid a.attrelid) (int_eq number a.attnum) found.1).0)

    pub column_named : (name : Bytes) → has_column cat oid name ≡ true → column_there (columns_of cat oid) name ≡ true
    column_named name e =
        let has = has_found column_cmp column_cmp-IsAntisymmetric named cat.pg_attribute (oid, name) e in
        let same : has.0.attrelid ≡ oid = ap (λ k. k.0) has.2 in
        let names : has.0.attname ≡ name = ap (λ k. k.1) has.2 in
        subst (λ (n : Bytes). column_there (columns_of cat oid) n ≡ true) names (there_of has.0 has.1 (ap (same_oid oid) same ∙ oid_tied oid))

    -- ---- the columns of a table

    kept_name : (a : AttributeRow) (c : Column) → column_of cat a ≡ Some c → c.name ≡ a.attname
    kept_name a c e = by (typed cat a.atttypid a.typtext) e
      where
        by : (o : Option (TypeName × Resolved)) → option_map (column_with a) o ≡ Some c → c.name ≡ a.attname
        by None h = absurd cc
        by (Some type) h = let same : column_with a type ≡ c = cc in ap (λ (d : Column). d.name) (sym same)

    names_apart : distinct (map (λ (c : Column). c.name) (columns_of cat oid)) ≡ true
    names_apart =
        distinct_apart (λ (c : Column). c.name) (columns_of cat oid)
        (apart_mapped (column_of cat) (λ (a : AttributeRow). a.attname) (λ (c : Column). c.name) kept_name in_order
        (apart_sorted (λ (a : AttributeRow). a.attname) (λ (a : AttributeRow). a.attnum) own_rows
        (apart_filtered (λ (a : AttributeRow). a.attrelid) (λ (a : AttributeRow). a.attname) oid cat.pg_attribute well.columns.names)))

    few : column_count cat oid ≤ 1600 → length (columns_of cat oid) ≤ 1600
    few le =
        let one = length_mapped (column_of cat) in_order in
        let two = length_sorted (λ (a : AttributeRow). a.attnum) own_rows in
        let three = counted (λ (a : AttributeRow). a.attrelid) cat.pg_attribute oid in
        omega arith

    -- what a column's row gives is typed well
    module _ (texts : Texts) (reads : Reads texts) (rows : RowsByOid) where
      abbrev IsGood : Column → Type 0
      IsGood c = IsTypedWell cat well texts (catalogue_named cat rows) c.type_name c.resolved

      column_good : (a : AttributeRow) → IsAmong a cat.pg_attribute → (c : Column) → column_of cat a ≡ Some c → IsGood c
      column_good a among c e =
          let type = attribute_typed a among in
          let same : column_with a (type.name, type.end) ≡ c = let both = ap (option_map (column_with a)) (sym type.is) ∙ e in cc in
          subst IsGood same (typed_well cat well texts reads rows a.atttypid a.typtext (attribute_there a among) type)

      columns_good : AllByRecursion IsGood (columns_of cat oid)
      columns_good =
          each_mapped IsGood (column_of cat) in_order (λ a among c e.
          column_good a (place_in cat.pg_attribute a (of_filter (λ (r : AttributeRow). same_oid oid r.attrelid) cat.pg_attribute a (sorted_in (λ (r : AttributeRow). r.attnum) own_rows a among)).0) c e)

      pub columns_ask : AllByRecursion (IsMet (catalogue_named cat rows)) (flat_map column_asks (columns_of cat oid))
      columns_ask =
          all-flat (IsMet (catalogue_named cat rows)) column_asks (columns_of cat oid)
          (all-weaker IsGood (λ (c : Column). AllByRecursion (IsMet (catalogue_named cat rows)) (column_asks c)) (λ c good. good.others) (columns_of cat oid) columns_good)

      pub table_good : column_count cat oid ≤ 1600 → IsTable texts (columns_of cat oid)
      table_good le = record {
        count = le-leb (length (columns_of cat oid)) 1600 (few le);
        names = names_apart;
        types = all-weaker IsGood (λ (c : Column). IsTyped texts c.type_name c.resolved) (λ c good. good.own) (columns_of cat oid) columns_good;
      }

  -- a table has at most 1600 columns
  pub few_columns : (c : ClassRow) → IsAmong c cat.pg_class → relation_kind c.relkind ≡ Table → column_count cat c.oid ≤ 1600
  few_columns c among is =
      let all = each_in (λ (r : ClassRow). relation_left_out cat r ≡ None) cat.pg_class well.relations.inside c among in
      let behind = none_second (kind_left_out (relation_kind c.relkind)) _ all in
      let later = none_second (persistence_left_out c.relpersistence) _ behind in
      let last = none_second (other_left_out (is_by_other (role_name cat.pg_authid c.relowner) c.relacl)) (columns_left_out cat (relation_kind c.relkind) c.oid) later in
      by (nat_lt 1600 (column_count cat c.oid)) refl (subst (λ k. columns_left_out cat k c.oid ≡ None) is last)
    where
      by : (b : Bool) → nat_lt 1600 (column_count cat c.oid) ≡ b → cond {A = Option What} b (Some what.Columns) None ≡ None → column_count cat c.oid ≤ 1600
      by true e h = absurd cc
      by false e h = ltb-false _ _ e
