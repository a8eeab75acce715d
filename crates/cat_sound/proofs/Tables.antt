-- CREATE TABLE leaves a catalogue in order.
use Rattle.std.proofs.Common.{◌≡◌, ◌==◌, true, false, ◌&&◌, nat_le, List, [], ◌∷◌, ◌++◌, map, length, Option, Some, None, refl, ap, subst, ◌∙◌}
use Rattle.std.specs.Cmp.{first_so, second_so}
use Rattle.std.specs.FinMap.{get}
use Rattle.std.specs.List.{AllByRecursion, flat_map}
use Rattle.cat_model.specs.declared.cause.Cause.TheVariants as cause
use Rattle.cat_model.specs.declared.object.QName.{QName}
use Rattle.cat_model.specs.declared.key.Key.{Key}
use Rattle.cat_model.specs.declared.key.Key.TheVariants as key
use Rattle.cat_model.specs.declared.object.Object.TheVariants as object
use Rattle.cat_model.specs.declared.table.ColumnDef.{ColumnDef}
use Rattle.cat_model.specs.declared.table.CheckDef.{CheckDef}
use Rattle.cat_model.specs.declared.value.Value.TheVariants as value
use Rattle.cat_model.specs.declared.value.Value.{Value}
use Rattle.cat_model.specs.declared.value.Column.{Column}
use Rattle.cat_model.specs.declared.value.Constraint.{Constraint}
use Rattle.cat_model.specs.Values.{Bytes, Named}
use Rattle.cat_model.specs.Grants.{owner_only, table_rights}
use Rattle.cat_model.specs.Keys.{key_kind}
use Rattle.cat_model.specs.References.{expression_references}
use Rattle.cat_model.specs.Tables.{distinct}
use Rattle.cat_model.specs.Trees.{Change, changed}
use Rattle.cat_model.specs.ObjectEffects.{made}
use Rattle.cat_model.specs.TypeEffects.{but, default_references, check_references}
use Rattle.cat_model.specs.RelationEffects.{create_table, default_set, check_value, fits_table}
use Rattle.cat_sound.specs.Texts.{Texts}
use Rattle.cat_sound.specs.Asked.{Asked}
use Rattle.cat_sound.specs.Asks.{column_asks}
use Rattle.cat_sound.specs.Itself.{IsDefault, check_of}
use Rattle.cat_sound.specs.Beside.{is_primary_at}
use Rattle.cat_sound.specs.Fit.{IsFitColumn, AreFitColumns, AreFitChecks}
use Rattle.cat_sound.specs.Sound.{IsMet, IsSound}
use Rattle.model_laws.proofs.Changes.{value_after, get-changed, key_eq_self}
use Rattle.cat_sound.proofs.Changes.{AreNew, is_kept, are_kept, there_is, meets_is, new_left, value_after-append, untouched_value, other_untouched}
use Rattle.cat_sound.proofs.Checks.{there_each}
use Rattle.cat_sound.proofs.ColumnSteps.{AreResolved, keeps_columns, names_same, count_same, columns_typed, columns_met, columns_defined}
use Rattle.cat_sound.proofs.Keeping.{IsGood, new_answers}
use Rattle.cat_sound.proofs.Lists.{IsIn, of_member, of_each, all-append, all-flat, all-mapped, all-weaker, of_tested}
use Rattle.cat_sound.proofs.Made.{IsNewObject, made_good}
use Rattle.cat_sound.proofs.Needed.{needed, none_without}
use Rattle.cat_sound.proofs.NewGrants.{owner_first}
use Rattle.cat_sound.proofs.Objects.{one_column}
use Rattle.cat_sound.proofs.References.{AreThere, but_left}
use Rattle.cat_sound.proofs.Shared.{IsShared, AreShared, keeps_shared, no_primary}
use Rattle.cat_sound.proofs.TreeSteps.{Keeps, keeps_sets, keeps_check, keeps_free, keeps_needs, keeps_needs_each}

-- ---- what CREATE TABLE sets

abbrev table_set : Bytes → QName → List Column → List Change
table_set boot q columns = (key.Rel q, Some (value.Table columns)) ∷ (key.Rows q, Some (value.Rows [])) ∷ made (object.Relation q) boot (owner_only table_rights)

abbrev defaults_set : QName → List ColumnDef → List Change
defaults_set q cs = flat_map (λ c. default_set q c.name c.default) cs

abbrev checks_set : QName → List CheckDef → List Change
checks_set q checks = map (λ c. (key.Con q c.name, Some (check_value c.text))) checks

abbrev parts_set : QName → List ColumnDef → List CheckDef → List Change
parts_set q cs checks = defaults_set q cs ++ checks_set q checks

-- what holds of each default and of each check holds of all of them
parts_each : (P : Change → Type 0) (q : QName) (cs : List ColumnDef) (checks : List CheckDef) → ((c : ColumnDef) (text : Bytes) → IsIn c cs → c.default ≡ Some text → P (key.Default q c.name, Some (value.DefaultText text))) → ((c : CheckDef) → IsIn c checks → P (key.Con q c.name, Some (check_value c.text))) → AllByRecursion P (parts_set q cs checks)
parts_each P q cs checks on_default on_check =
    all-append P (defaults_set q cs) (checks_set q checks)
    (all-flat P (λ (c : ColumnDef). default_set q c.name c.default) cs (of_each (λ (c : ColumnDef). AllByRecursion P (default_set q c.name c.default)) cs (λ c among. by c among c.default refl)))
    (all-mapped P (λ (c : CheckDef). (key.Con q c.name, Some (check_value c.text))) checks (of_each (λ (c : CheckDef). P (key.Con q c.name, Some (check_value c.text))) checks on_check))
  where
    by : (c : ColumnDef) → IsIn c cs → (o : Option Bytes) → c.default ≡ o → AllByRecursion P (default_set q c.name o)
    by c among None is = tt
    by c among (Some text) is = (on_default c text among is, tt)

-- the parts touch no key of another kind
head_value : (boot : Bytes) (q : QName) (columns : List Column) (cs : List ColumnDef) (checks : List CheckDef) (k : Key) (old : Option Value) → (6 == key_kind k) ≡ false → (7 == key_kind k) ≡ false → value_after (table_set boot q columns ++ parts_set q cs checks) k old ≡ value_after (table_set boot q columns) k old
head_value boot q columns cs checks k old no_default no_check =
    value_after-append (table_set boot q columns) (parts_set q cs checks) k old
    ∙ untouched_value (parts_set q cs checks) k (value_after (table_set boot q columns) k old)
    (other_untouched (parts_set q cs checks) k (parts_each (λ (c : Change). (key_kind c.0 == key_kind k) ≡ false) q cs checks (λ c text among is. no_default) (λ c among. no_check)))

module _ (texts : Texts) (named : Named) (sound : IsSound texts named) where
  module _ (boot : Bytes) (q : QName) (boot_there : IsMet named (key.Role boot, Asked.there)) (none : get named (key.Rel q) ≡ None) (cs : List ColumnDef) (checks : List CheckDef) (columns : List Column) where
    abbrev all_set : List Change
    all_set = table_set boot q columns ++ parts_set q cs checks

    abbrev later : Named
    later = changed all_set named

    gone : (k : Key) → needed k ≡ Some (key.Rel q) → get named k ≡ None
    gone k is = none_without texts named sound.each k (key.Rel q) is none

    fresh : AreNew named all_set
    fresh = (
      none,
      (
        gone (key.Rows q) refl,
        (
          gone (key.Owner (object.Relation q)) refl,
          (
            gone (key.Acl (object.Relation q)) refl,
            parts_each (λ (c : Change). get named c.0 ≡ None) q cs checks (λ c text among is. gone (key.Default q c.name) refl) (λ c among. gone (key.Con q c.name) refl),
          ),
        ),
      ),
    )

    at_head : (k : Key) (v : Value) → (6 == key_kind k) ≡ false → (7 == key_kind k) ≡ false → value_after (table_set boot q columns) k (get named k) ≡ Some v → get later k ≡ Some v
    at_head k v no_default no_check is = get-changed all_set named k ∙ head_value boot q columns cs checks k (get named k) no_default no_check ∙ is

    table_is : get later (key.Rel q) ≡ Some (value.Table columns)
    table_is = at_head (key.Rel q) (value.Table columns) refl refl (rw key_eq_self refl)

    table_there : IsMet later (key.Rel q, Asked.there)
    table_there = there_is later (key.Rel q) (value.Table columns) table_is

    rows_there : IsMet later (key.Rows q, Asked.there)
    rows_there = there_is later (key.Rows q) (value.Rows []) (at_head (key.Rows q) (value.Rows []) refl refl (rw key_eq_self refl))

    owner_there : IsMet later (key.Owner (object.Relation q), Asked.there)
    owner_there = there_is later (key.Owner (object.Relation q)) (value.Owner boot) (at_head (key.Owner (object.Relation q)) (value.Owner boot) refl refl (rw key_eq_self refl))

    grants_there : IsMet later (key.Acl (object.Relation q), Asked.there)
    grants_there = there_is later (key.Acl (object.Relation q)) (value.Grants (owner_only table_rights)) (at_head (key.Acl (object.Relation q)) (value.Grants (owner_only table_rights)) refl refl (rw key_eq_self refl))

    made_table : AllByRecursion (IsGood texts named all_set) (made (object.Relation q) boot (owner_only table_rights))
    made_table =
        let new : IsNewObject named later (object.Relation q) boot (owner_only table_rights) table_rights (value.Table columns) = record {
          owned = refl;
          granted = refl;
          ownable = refl;
          takes = refl;
          first = owner_first table_rights refl refl;
          no_owner = gone (key.Owner (object.Relation q)) refl;
          no_grants = gone (key.Acl (object.Relation q)) refl;
          there = table_is;
          with_owner = owner_there;
          role = new_left all_set named fresh (key.Role boot, Asked.there) boot_there;
        } in
        made_good texts named all_set (object.Relation q) boot (owner_only table_rights) table_rights (value.Table columns) new

    refs_there : (keys : List Key) → AreThere named (but (key.Rel q) keys) → AreThere later keys
    refs_there = but_left named later (key.Rel q) table_there (λ j. new_left all_set named fresh (j, Asked.there))

    all_kept : are_kept all_set ≡ true
    all_kept = of_tested is_kept (parts_set q cs checks) (parts_each (λ (c : Change). is_kept c ≡ true) q cs checks (λ c text among is. refl) (λ c among. refl))

    shared : AreShared named all_set
    shared = (
      tt,
      (
        tt,
        (
          tt,
          (
            tt,
            parts_each (λ (c : Change). IsShared named later c.0 c.1) q cs checks (λ c text among is. tt)
                (λ c among. record { free = gone (key.Con q c.name) refl; alone = λ e. cc; parent = λ d parent names same has. let wrong : check_of c.text ≡ d = cc in let no_parent : None ≡ d.parent = ap (λ (x : Constraint). x.parent) wrong in cc }),
          ),
        ),
      ),
    )

    no_primaries : AllByRecursion (λ (c : Change). is_primary_at c.1 ≡ false) all_set
    no_primaries = (refl, (refl, (refl, (refl, parts_each (λ (c : Change). is_primary_at c.1 ≡ false) q cs checks (λ c text among is. refl) (λ c among. refl)))))

    default_of : (o : Option Bytes) (text : Bytes) → o ≡ Some text → IsDefault texts o → AreThere later (default_references o) → (texts.expression text ≡ true) × AreThere later (expression_references text)
    default_of (Some t) text is good refs = let same : t ≡ text = cc in (subst (λ (x : Bytes). texts.expression x ≡ true) same good, subst (λ (x : Bytes). AreThere later (expression_references x)) same refs)
    default_of None text is good refs = cc

    module _ (resolved : AreResolved named q cs columns) (fit_columns : AreFitColumns texts cs) (fit_checks : AreFitChecks texts checks) (check_refs : AreThere named (but (key.Rel q) (check_references checks))) where
      default_good : (c : ColumnDef) (text : Bytes) → IsIn c cs → c.default ≡ Some text → IsGood texts named all_set (key.Default q c.name, Some (value.DefaultText text))
      default_good c text among is =
          let defined = columns_defined named q cs columns resolved c among in
          let fit = of_member (IsFitColumn texts) cs fit_columns c among in
          let good = default_of c.default text is fit.expression (refs_there (default_references c.default) defined.1) in
          record {
            new = record { own = good.0; others = (meets_is later (key.Rel q) (Asked.has_columns (c.name ∷ [])) (value.Table columns) table_is (one_column columns c.name defined.0), good.1) };
            answers = new_answers named all_set (key.Default q c.name, Some (value.DefaultText text)) (gone (key.Default q c.name) refl);
          }

      check_good : (c : CheckDef) → IsIn c checks → IsGood texts named all_set (key.Con q c.name, Some (check_value c.text))
      check_good c among =
          let refs : AreThere later (expression_references c.text) = of_member (λ (d : CheckDef). AreThere later (expression_references d.text)) checks (there_each later (λ (d : CheckDef). expression_references d.text) checks (refs_there (check_references checks) check_refs)) c among in
          record {
            new = record {
              own = record { text = of_member (λ (d : CheckDef). texts.constraint (check_of d.text) ≡ true) checks fit_checks c among; kind = (refl, refl) };
              others = (meets_is later (key.Rel q) (Asked.has_columns []) (value.Table columns) table_is refl, refs);
            };
            answers = new_answers named all_set (key.Con q c.name, Some (check_value c.text)) (gone (key.Con q c.name) refl);
          }

      table_good : nat_le (length cs) 1600 ≡ true → distinct (map (λ c. c.name) cs) ≡ true → (schema : Value) → get named (key.Schema q.schema) ≡ Some schema → IsGood texts named all_set (key.Rel q, Some (value.Table columns))
      table_good few apart schema schema_is = record {
        new = record {
          own = record {
            count = ap (λ n. nat_le n 1600) (count_same named q cs columns resolved) ∙ few;
            names = ap distinct (names_same named q cs columns resolved) ∙ apart;
            types = columns_typed named q texts cs columns resolved fit_columns;
          };
          others = (
            new_left all_set named fresh (key.Schema q.schema, Asked.there) (there_is named (key.Schema q.schema) schema schema_is),
            (rows_there, (owner_there, (grants_there, all-weaker (IsMet named) (IsMet later) (new_left all_set named fresh) (flat_map column_asks columns) (columns_met named q cs columns resolved)))),
          );
        };
        answers = new_answers named all_set (key.Rel q, Some (value.Table columns)) none;
      }

      rows_good : IsGood texts named all_set (key.Rows q, Some (value.Rows []))
      rows_good = record {
        new = record { own = tt; others = (meets_is later (key.Rel q) (Asked.holds []) (value.Table columns) table_is refl, tt) };
        answers = new_answers named all_set (key.Rows q, Some (value.Rows [])) (gone (key.Rows q) refl);
      }

      table_kept : nat_le (length cs) 1600 ≡ true → distinct (map (λ c. c.name) cs) ≡ true → (schema : Value) → get named (key.Schema q.schema) ≡ Some schema → IsSound texts later
      table_kept few apart schema schema_is =
          keeps_shared texts named all_set sound shared (no_primary named all_set no_primaries) (
            table_good few apart schema schema_is,
            (
              rows_good,
              (
                made_table.0,
                (
                  made_table.1.0,
                  parts_each (IsGood texts named all_set) q cs checks default_good check_good,
                ),
              ),
            ),
          )

  pub create_table-keeps : (boot : Bytes) (q : QName) (cs : List ColumnDef) (checks : List CheckDef) → IsMet named (key.Role boot, Asked.there) → AreFitColumns texts cs → AreFitChecks texts checks → Keeps texts named (create_table boot q cs checks)
  create_table-keeps boot q cs checks boot_there fit_columns fit_checks =
      keeps_needs sound (key.Schema q.schema) (λ schema schema_is.
      keeps_free sound (key.Rel q) (λ none.
      keeps_check sound (fits_table cs checks) cause.WrongColumns (λ fits.
      let apart : distinct (map (λ c. c.name) cs) && distinct (map (λ c. c.name) checks) ≡ true = second_so (nat_le (length cs) 1600) (distinct (map (λ c. c.name) cs) && distinct (map (λ c. c.name) checks)) fits in
      keeps_columns sound q cs (λ columns resolved.
      keeps_needs_each sound (but (key.Rel q) (check_references checks)) (λ check_refs.
      keeps_sets (all_kept boot q boot_there none cs checks columns) (table_kept boot q boot_there none cs checks columns resolved fit_columns fit_checks check_refs
      (first_so (nat_le (length cs) 1600) (distinct (map (λ c. c.name) cs) && distinct (map (λ c. c.name) checks)) fits)
      (first_so (distinct (map (λ c. c.name) cs)) (distinct (map (λ c. c.name) checks)) apart)
      schema schema_is))))))
