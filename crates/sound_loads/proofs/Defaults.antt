-- Defaults of columns and types of a loaded catalogue are in order.
use Rattle.std.proofs.Common.{◌≡◌, ℕ, Bool, true, false, cond, not, ◌||◌, List, [], ◌∷◌, ◌++◌, Option, Some, None, refl, sym, ap, subst, ◌∙◌}
use Rattle.std.proofs.lemmas.Bool.{and_parts}
use Rattle.std.specs.Cmp.Lexicographic.{nat_list_cmp_total}
use Rattle.std.specs.FinMap.{get, entries, from_entries, get-from_entries, nat_cmp-IsAntisymmetric, slice_cmp-IsAntisymmetric}
use Rattle.std.specs.List.{AllByRecursion, list_all, list_any, filter, flat_map}
use Rattle.std.specs.Option.{option_map, option_and_then}
use Rattle.cat_rows.specs.declared.catalogue.Catalogue.{Catalogue}
use Rattle.cat_rows.specs.declared.constraints.ConstraintRow.{ConstraintRow}
use Rattle.cat_rows.specs.declared.relations.AttrdefRow.{AttrdefRow}
use Rattle.cat_rows.specs.declared.types.EnumRow.{EnumRow}
use Rattle.cat_rows.specs.declared.types.TypeRow.{TypeRow}
use Rattle.cat_model.specs.declared.key.Key.{Key}
use Rattle.cat_model.specs.declared.key.Key.TheVariants as key
use Rattle.cat_model.specs.declared.object.Object.TheVariants as object
use Rattle.cat_model.specs.declared.object.QName.{QName}
use Rattle.cat_model.specs.declared.stmt.Stmt.{Stmt}
use Rattle.cat_model.specs.declared.stmt.Stmt.TheVariants as stmt
use Rattle.cat_model.specs.declared.type_name.TypeName.{TypeName}
use Rattle.cat_model.specs.declared.value.Resolved.{Resolved}
use Rattle.cat_model.specs.declared.value.Value.{Value}
use Rattle.cat_model.specs.declared.value.Value.TheVariants as value
use Rattle.cat_model.specs.declared.words.What.{What}
use Rattle.cat_model.specs.declared.words.What.TheVariants as what
use Rattle.cat_model.specs.Keys.{key_eq}
use Rattle.cat_model.specs.KeyLaws.{key_eq-same}
use Rattle.cat_model.specs.References.{expression_references}
use Rattle.cat_model.specs.Tables.{distinct}
use Rattle.cat_model.specs.TypeEffects.{default_references}
use Rattle.cat_model.specs.Values.{Bytes, bytes_cmp}
use Rattle.cat_model.proofs.MarkLaws.{same_path-self}
use Rattle.cat_names.specs.Kinds.{kind_of, is_view}
use Rattle.cat_names.specs.Lookups.{same_oid}
use Rattle.cat_book.specs.Chains.{is_domain_letter}
use Rattle.cat_book.specs.Leads.{has_columns}
use Rattle.cat_book.specs.Paths.{same_path, has_path, type_paths}
use Rattle.row_texts.specs.DefaultTexts.{default_said, is_default}
use Rattle.text_tables.specs.Agreeing.{is_met as is_met_in, are_met, is_met_default}
use Rattle.text_tables.specs.Columns.{is_default_there, default_left_out}
use Rattle.text_tables.specs.Types.{is_good_default}
use Rattle.constraint_table.specs.declared.constraint_text.ConstraintText.{ConstraintText}
use Rattle.constraint_table.specs.declared.constraint_text.ConstraintText.TheVariants.{Check}
use Rattle.constraint_table.specs.Said.{statement_said, said_by}
use Rattle.constraint_table.specs.Table as constraints
use Rattle.oid_groups.specs.Orders.{by_number}
use Rattle.well_formed.specs.Formed.{IsWellFormed}
use Rattle.type_ends.specs.Ends.{labels_of}
use Rattle.cat_naming.specs.Entries.{catalogue_named}
use Rattle.cat_naming.specs.Relations.{RowsByOid}
use Rattle.cat_naming.specs.Types.{typed, type_value, domain_of, checks_of, check_said, check_of as check_in}
use Rattle.cat_sound.specs.Texts.{Texts}
use Rattle.cat_sound.specs.Asked.{Asked}
use Rattle.cat_sound.specs.Asks.{all_there, type_asks}
use Rattle.cat_sound.specs.Itself.{IsDefault, check_of}
use Rattle.cat_sound.specs.Sound.{IsMet, IsSoundAt}
use Rattle.cat_sound.proofs.Asking.{expression_named}
use Rattle.cat_sound.proofs.Lists.{of_member, of_each, all-append, all-flat}
use Rattle.cat_sound.proofs.Maps.{find-in, of_entry}
use Rattle.cat_sound.proofs.References.{AreThere}
use Rattle.sound_rows.specs.Rows.{IsAmong}
use Rattle.sound_rows.proofs.Among.{each_in, place_in, of_filter}
use Rattle.sound_loads.specs.Origins.{Origin, OfType}
use Rattle.sound_loads.specs.Reads.{Reads}
use Rattle.sound_loads.proofs.Apart.{each_mapped, apart_filtered, apart_sorted, distinct_apart}
use Rattle.sound_loads.proofs.Classes.{not_false}
use Rattle.sound_loads.proofs.Columns.{column_numbered}
use Rattle.sound_loads.proofs.Comments.{tabled}
use Rattle.sound_loads.proofs.Keys.{constraint_says}
use Rattle.sound_loads.proofs.Needed.{references_there}
use Rattle.sound_loads.proofs.Relations.{schema_of_space}
use Rattle.sound_loads.proofs.Standing.{is_met, type_owner_there, type_grants_there}
use Rattle.sound_loads.proofs.Tables.{column_met, one_column}
use Rattle.sound_loads.proofs.Trimmed.{default_refers}
use Rattle.sound_loads.proofs.Types.{typed_as, typed_well, domain_row}

module _ (texts : Texts) (cat : Catalogue) (rows : RowsByOid) (well : IsWellFormed cat) where
  -- ---- defaults of columns

  module _ (reads : Reads texts) (q : QName) (column : Bytes) (v : Value) where
    pub default_sound : Origin cat rows (key.Default q column) v → IsSoundAt texts (catalogue_named cat rows) (key.Default q column) v
    default_sound from =
        let there = and_parts (has_columns (kind_of cat.pg_class from.row.adrelid)) _ (not_false _ (each_in (λ (r : AttrdefRow). not (is_default_there cat r) ≡ false) cat.pg_attrdef well.defaults.there from.row from.among)) in
        let no_view = by (is_view (kind_of cat.pg_class from.row.adrelid)) (each_in (λ (r : AttrdefRow). default_left_out cat r ≡ None) cat.pg_attrdef well.defaults.inside from.row from.among) in
        let good = and_parts (is_default from.row.adexpr) (are_met cat None from.row.adexpr) (not_false _ (each_in (λ (r : AttrdefRow). not (is_met_default cat None r.adexpr) ≡ false) cat.pg_attrdef well.defaults.texts from.row from.among)) in
        let met_all : list_all (is_met_in cat None) (expression_references from.text) ≡ true = ap (list_all (is_met_in cat None)) (default_refers from.row.adexpr from.text from.said) ∙ good.1 in
        subst (IsSoundAt texts (catalogue_named cat rows) (key.Default q column)) from.is (record {
          own = reads.defaults from.row.adexpr from.text from.said;
          others = (
            column_met texts cat rows well from.row.adrelid (tabled (kind_of cat.pg_class from.row.adrelid) there.0 no_view) q from.path (column ∷ []) (one_column texts cat rows well from.row.adrelid column (column_numbered cat well from.row.adrelid from.row.adnum column from.named)),
            references_there cat rows well None (expression_references from.text) (expression_named from.text) met_all,
          );
        })
      where
        by : (b : Bool) → cond {A = Option What} b (Some what.DefaultOnView) None ≡ None → b ≡ false
        by true h = absurd cc
        by false h = refl

  -- ---- domains

  -- a domain's default doesn't name the domain
  not_own : (q : QName) (keys : List Key) → list_all (is_met_in cat (Some q)) keys ≡ true → list_any (key_eq (key.UserType q)) keys ≡ false
  not_own q [] e = refl
  not_own q (k ∷ keys) e =
      let both = and_parts (is_met_in cat (Some q) k) (list_all (is_met_in cat (Some q)) keys) e in
      by (key_eq (key.UserType q) k) refl both.0 (not_own q keys both.1)
    where
      by : (b : Bool) → key_eq (key.UserType q) k ≡ b → is_met_in cat (Some q) k ≡ true → list_any (key_eq (key.UserType q)) keys ≡ false → (b || list_any (key_eq (key.UserType q)) keys) ≡ false
      by false is met later = later
      by true is met later =
          let own : is_met_in cat (Some q) (key.UserType q) ≡ true = ap (is_met_in cat (Some q)) (key_eq-same (key.UserType q) k is) ∙ met in
          let other = (and_parts (has_path (type_paths cat) q) (not (same_path q q)) own).1 in
          let same = ap not (same_path-self q) in
          absurd cc

  record IsDefaultGood (q : QName) (o : Option Bytes) : Type 0 where
    expression : IsDefault texts o
    others : list_any (key_eq (key.UserType q)) (default_references o) ≡ false
    there : AreThere (catalogue_named cat rows) (default_references o)

  domain_default : Reads texts → (q : QName) (o : Option Bytes) → is_good_default cat (Some q) o ≡ true → IsDefaultGood q (option_and_then default_said o)
  domain_default reads q None e = record { expression = tt; others = refl; there = tt }
  domain_default reads q (Some text) e = by (default_said text) refl
    where
      met_all : list_all (is_met_in cat (Some q)) (expression_references text) ≡ true
      met_all = (and_parts (is_default text) (are_met cat (Some q) text) e).1

      by : (o : Option Bytes) → default_said text ≡ o → IsDefaultGood q o
      by None is = record { expression = tt; others = refl; there = tt }
      by (Some v) is =
          let met : list_all (is_met_in cat (Some q)) (expression_references v) ≡ true = ap (list_all (is_met_in cat (Some q))) (default_refers text v is) ∙ met_all in
          record { expression = reads.defaults text v is; others = not_own q (expression_references v) met; there = references_there cat rows well (Some q) (expression_references v) (expression_named v) met }

  -- a check of a domain is one of a table's kind, and what it refers to is there
  record IsCheckGood (check : Bytes × Bytes) : Type 0 where
    text : texts.constraint (check_of check.1) ≡ true
    there : AreThere (catalogue_named cat rows) (expression_references check.1)

  module _ (reads : Reads texts) (c : ConstraintRow) (among : IsAmong c cat.pg_constraint) where
    check_by : (s : Stmt) → statement_said c.condef ≡ Some s → (t : ConstraintText) → said_by s ≡ Some t → constraints.agrees cat c t ≡ true → (text : Bytes) → check_said s ≡ Some text → IsCheckGood (c.conname, text)
    check_by (stmt.AddCheck p name said) stated t is agrees text e =
        let same : said ≡ text = cc in
        let one : Check said ≡ t = cc in
        let good = and_parts (constraints.is_check c) (are_met cat None said) (ap (constraints.agrees cat c) one ∙ agrees) in
        subst (λ (x : Bytes). IsCheckGood (c.conname, x)) same (record { text = reads.constraints c.condef (stmt.AddCheck p name said) (check_of said) stated refl; there = references_there cat rows well None (expression_references said) (expression_named said) good.1 })
    check_by _ stated t is agrees text e = absurd cc

    check_good : (check : Bytes × Bytes) → check_in c ≡ Some check → IsCheckGood check
    check_good check e =
        let says = constraint_says cat well c among in
        by says.statement says.stated says.text says.said says.agrees (check_said says.statement) refl (ap (λ (o : Option Stmt). option_map {U = Bytes × Bytes} (λ text. (c.conname, text)) (option_and_then check_said o)) (sym says.stated) ∙ e)
      where
        by : (s : Stmt) → statement_said c.condef ≡ Some s → (t : ConstraintText) → said_by s ≡ Some t → constraints.agrees cat c t ≡ true → (o : Option Bytes) → check_said s ≡ o → option_map {U = Bytes × Bytes} (λ text. (c.conname, text)) o ≡ Some check → IsCheckGood check
        by s stated t is agrees None said h = absurd cc
        by s stated t is agrees (Some text) said h =
            let same : ◌≡◌ {A = Bytes × Bytes} (c.conname, text) check = cc in
            subst IsCheckGood same (check_by s stated t is agrees text said)

  checks_good : Reads texts → (oid : ℕ) → AllByRecursion IsCheckGood (checks_of cat oid)
  checks_good reads oid =
      each_mapped IsCheckGood check_in (filter (λ c. same_oid oid c.contypid) cat.pg_constraint) (λ c among check e.
      check_good reads c (place_in cat.pg_constraint c (of_filter (λ (r : ConstraintRow). same_oid oid r.contypid) cat.pg_constraint c among).0) check e)

  check_at : Reads texts → (oid : ℕ) (name text : Bytes) → get (from_entries {R = bytes_cmp} (checks_of cat oid)) name ≡ Some text → IsCheckGood (name, text)
  check_at reads oid name text e =
      of_member IsCheckGood (checks_of cat oid) (checks_good reads oid) (name, text)
      (find-in nat_list_cmp_total (slice_cmp-IsAntisymmetric nat_cmp-IsAntisymmetric) (checks_of cat oid) name text (sym (get-from_entries nat_list_cmp_total (checks_of cat oid) name) ∙ e))

  checks_ask : Reads texts → (oid : ℕ) → AllByRecursion (IsMet (catalogue_named cat rows)) (flat_map (λ e. all_there (expression_references e.1)) (entries (from_entries {R = bytes_cmp} (checks_of cat oid))))
  checks_ask reads oid =
      let checks = from_entries {R = bytes_cmp} (checks_of cat oid) in
      all-flat (IsMet (catalogue_named cat rows)) (λ (e : Bytes × Bytes). all_there (expression_references e.1)) (entries checks)
      (of_each (λ (e : Bytes × Bytes). AllByRecursion (IsMet (catalogue_named cat rows)) (all_there (expression_references e.1))) (entries checks) (λ e among.
      (check_at reads oid e.0 e.1 (of_entry nat_list_cmp_total (slice_cmp-IsAntisymmetric nat_cmp-IsAntisymmetric) checks e.0 e.1 among)).there))

  -- ---- types

  labels_distinct : (oid : ℕ) → distinct (labels_of cat oid) ≡ true
  labels_distinct oid =
      distinct_apart (λ (e : EnumRow). e.enumlabel) (by_number (λ (e : EnumRow). e.enumpos) (filter (λ (e : EnumRow). same_oid oid e.enumtypid) cat.pg_enum))
      (apart_sorted (λ (e : EnumRow). e.enumlabel) (λ (e : EnumRow). e.enumpos) (filter (λ (e : EnumRow). same_oid oid e.enumtypid) cat.pg_enum)
      (apart_filtered (λ (e : EnumRow). e.enumtypid) (λ (e : EnumRow). e.enumlabel) oid cat.pg_enum well.labels.names))

  module _ (reads : Reads texts) (q : QName) where
    type_sound_by : {P : TypeRow → Bytes → Value → Type 0} (from : OfType cat q P) (v : Value) → type_value cat from.row ≡ Some v → IsSoundAt texts (catalogue_named cat rows) (key.UserType q) v
    type_sound_by from v e = by (is_domain_letter from.row.typtype) refl e
      where
        schema : IsMet (catalogue_named cat rows) (key.Schema q.schema, Asked.there)
        schema = is_met cat rows (key.Schema q.schema) (schema_of_space texts cat rows well from.row.typnamespace from.row.typname q from.path)

        owner : IsMet (catalogue_named cat rows) (key.Owner (object.Type q), Asked.there)
        owner = is_met cat rows (key.Owner (object.Type q)) (type_owner_there cat rows from.row from.among q from.path from.owner from.owned from.value from.of)

        grants : IsMet (catalogue_named cat rows) (key.Acl (object.Type q), Asked.there)
        grants = is_met cat rows (key.Acl (object.Type q)) (type_grants_there cat rows from.row from.among q from.path from.owner from.owned from.value from.of)

        domain : is_domain_letter from.row.typtype ≡ true → (o : Option (TypeName × Resolved)) → typed cat from.row.typbasetype from.row.basetext ≡ o → option_map (λ base. value.Domain (domain_of cat from.row base)) o ≡ Some v → IsSoundAt texts (catalogue_named cat rows) (key.UserType q) v
        domain letter None at h = absurd cc
        domain letter (Some base) at h =
            let same : value.Domain (domain_of cat from.row base) ≡ v = cc in
            let row = domain_row cat well from.row from.among letter in
            let given = typed_as cat well from.row.typbasetype from.row.basetext row.base row.named in
            let pair : ◌≡◌ {A = TypeName × Resolved} (given.name, given.end) base = let both = sym given.is ∙ at in cc in
            let typed_good = typed_well cat well texts reads rows from.row.typbasetype from.row.basetext row.base given in
            let default = domain_default reads q from.row.typdefault (ap (λ (o : Option QName). is_good_default cat o from.row.typdefault) (sym from.path) ∙ row.default) in
            let d = domain_of cat from.row (given.name, given.end) in
            subst (IsSoundAt texts (catalogue_named cat rows) (key.UserType q)) (ap (λ (b : TypeName × Resolved). value.Domain (domain_of cat from.row b)) pair ∙ same) (record {
              own = record { base = typed_good.own; expression = default.expression; others = default.others; checks = λ name text at. (check_at reads from.row.oid name text at).text };
              others = (
                schema,
                (
                  owner,
                  (
                    grants,
                    all-append (IsMet (catalogue_named cat rows)) (type_asks d.base d.resolved ++ all_there (default_references d.default)) (flat_map (λ e. all_there (expression_references e.1)) (entries d.checks))
                        (all-append (IsMet (catalogue_named cat rows)) (type_asks d.base d.resolved) (all_there (default_references d.default)) typed_good.others default.there)
                        (checks_ask reads from.row.oid),
                  ),
                ),
              );
            })

        by : (b : Bool) → is_domain_letter from.row.typtype ≡ b → cond {A = Option Value} b (option_map (λ base. value.Domain (domain_of cat from.row base)) (typed cat from.row.typbasetype from.row.basetext)) (Some (value.Enum (labels_of cat from.row.oid))) ≡ Some v → IsSoundAt texts (catalogue_named cat rows) (key.UserType q) v
        by true letter h = domain letter (typed cat from.row.typbasetype from.row.basetext) refl h
        by false letter h =
            let same : value.Enum (labels_of cat from.row.oid) ≡ v = cc in
            subst (IsSoundAt texts (catalogue_named cat rows) (key.UserType q)) same (record { own = labels_distinct from.row.oid; others = (schema, (owner, (grants, tt))) })

    pub type_sound : (v : Value) → Origin cat rows (key.UserType q) v → IsSoundAt texts (catalogue_named cat rows) (key.UserType q) v
    type_sound v from = type_sound_by from v (from.of ∙ ap (λ (w : Value). Some w) from.is)
