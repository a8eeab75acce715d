use Rattle.std.proofs.Common.{◌≡◌, pos, take, drop, get_or, Bool, true, false, true≢false, [], ◌∷◌, Option, Some, None, codes, refl, sym, ap, ◌∙◌}
use Rattle.std.proofs.lemmas.Option.{none-some}
use Rattle.std.specs.Prelude.{◌==◌}
use Rattle.std.specs.FinMap.{get, from_entries, get-from_entries}
use Rattle.cat_model.specs.declared.key.Key.TheVariants as key
use Rattle.cat_model.specs.declared.object.Object.TheVariants as object
use Rattle.cat_model.specs.Grants.{owner_only, schema_rights, without_option}
use Rattle.cat_model.specs.declared.value.Value.TheVariants as value
use Rattle.cat_model.specs.declared.value.Value.{Value}
use Rattle.cat_model.specs.declared.holder.Holder.TheVariants.{Owner as OWNER}
use Rattle.cat_model.specs.Values.{Grants}
use Rattle.cat_model.specs.HolderLaws.{holder_cmp_total}
use Rattle.cat_names.specs.Examples.{bob, schema, public, with_schemas}
use Rattle.cat_names.specs.Grants.{grants_of}
use Rattle.cat_names.specs.Lookups.{role_name}
use Rattle.cat_naming.specs.Entries.{entries_of, catalogue_named}
use Rattle.cat_naming.specs.Examples.{one, path}
use Rattle.cat_same.specs.Examples.{nothing, row_of, with_rights, with_role}
use Rattle.cat_naming.specs.Roles.{role_value}
use Rattle.cat_same.proofs.Lookups.{found, none_below, find-behind, find-beside}
use Rattle.cat_same.proofs.laws.verdicts_meet_the_examples.Goals as goal

-- the default isn't no rights
apart : owner_only schema_rights ≡ from_entries [] → ⊥
apart e = none-some (without_option schema_rights) (sym (sym (get-from_entries holder_cmp_total ((OWNER, without_option schema_rights) ∷ []) OWNER) ∙ ap (λ (g : Grants). get g OWNER) e ∙ get-from_entries holder_cmp_total [] OWNER))

pub returns-clause-same : goal.returns-clause-same
unfolding role_name grants_of
returns-clause-same c = record {
  other_schema_oid = refl;
  other_role_oid = refl;
  other_current = refl;
  rights_written_out = refl;
  no_rights = λ e.
      let a = key.Acl (object.Schema (codes "a")) in
      let same : Some (value.Grants (owner_only schema_rights)) ≡ Some (value.Grants (from_entries [])) = sym (found (with_rights None) nothing a) ∙ e ∙ found (with_rights (Some [])) nothing a in
      apart cc;
}

-- the attributes of the second role differ
differs : get (catalogue_named (with_role (public ∷ []) true) nothing) (key.Role (codes "bob")) ≡ get (catalogue_named (with_role [] false) nothing) (key.Role (codes "bob")) → ⊥
unfolding role_name grants_of
differs e =
    let k = key.Role (codes "bob") in
    let same : Some (value.Role (role_value (record bob { rolinherit = true }))) ≡ Some (value.Role (role_value (record bob { rolinherit = false }))) = sym (found (with_role (public ∷ []) true) nothing k) ∙ e ∙ found (with_role [] false) nothing k in
    true≢false (ap inherits same)
  where
    inherits : Option Value → Bool
    inherits (Some (value.Role r)) = r.inherit
    inherits _ = false

pub returns-clause-tables : goal.returns-clause-tables
returns-clause-tables c = record {
  other_table_oid = ap from_entries c.names_meet_the_examples.ensures.renamed.other_oid;
  other_number = ap from_entries c.names_meet_the_examples.ensures.renamed.other_number;
}

pub returns-clause-least : goal.returns-clause-least
unfolding role_name grants_of
returns-clause-least c = record {
  one_more =
      let k = key.Schema (codes "a") in
      let more = with_schemas (public ∷ schema 16384 (codes "a") 10 None ∷ []) in
      let fewer = with_schemas (public ∷ []) in
      let behind = (k, value.Schema) ∷ (key.Owner (object.Schema (codes "a")), value.Owner (codes "postgres")) ∷ (key.Acl (object.Schema (codes "a")), value.Grants (owner_only schema_rights)) ∷ [] in
      record {
        differs = λ e. none-some value.Schema (sym (found fewer nothing k) ∙ sym e ∙ found more nothing k);
        agrees = λ j less. found more nothing j ∙ find-behind j (entries_of fewer nothing) behind (none_below j k behind less refl) ∙ sym (found fewer nothing j);
      };
  role_first =
      let k = key.Role (codes "bob") in
      record {
        differs = differs;
        agrees = λ j less. found (with_role (public ∷ []) true) nothing j ∙ none_below j k (entries_of (with_role (public ∷ []) true) nothing) less refl ∙ sym (none_below j k (entries_of (with_role [] false) nothing) less refl) ∙ sym (found (with_role [] false) nothing j);
      };
  schema_not_first = λ d. differs (d.agrees (key.Role (codes "bob")) refl);
}

pub returns-clause-rows : goal.returns-clause-rows
unfolding role_name grants_of
returns-clause-rows c = record {
  other_row =
      let k = key.Rows (path (codes "t")) in
      let cat = one 16384 (pos 1) in
      let ones = row_of (codes "1") in
      let twos = row_of (codes "2") in
      record {
        differs = λ e. let rows : Some (value.Rows (ones 16384)) ≡ Some (value.Rows (twos 16384)) = sym (found cat ones k) ∙ e ∙ found cat twos k in true≢false (ap is_one rows);
        agrees = λ j less.
            found cat ones j
            ∙ find-beside j k (value.Rows (ones 16384)) (value.Rows (twos 16384)) (take 5 (entries_of cat nothing)) (drop 6 (entries_of cat nothing)) less
            ∙ sym (found cat twos j);
      };
}
  where
    is_one : Option Value → Bool
    is_one (Some (value.Rows ((Some text ∷ fields) ∷ rows))) = get_or text 0 0 == 49
    is_one _ = false
