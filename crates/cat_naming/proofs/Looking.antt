-- What is found of types without a row, and of the checks of a domain.
use Rattle.std.proofs.Common.{◌≡◌, ℕ, ◌+◌, ◌<◌, pos, Bool, true, false, cond, List, [], ◌∷◌, ◌++◌, length, take, get_or, Option, Some, option_map, option_and_then, sym, ap, ◌∙◌}
use Rattle.std.specs.List.{filter, filter_map, cons_option, slice_get}
use Rattle.std.proofs.lemmas.List.{take_more}
use Rattle.std.proofs.lemmas.List.Elements.{filter_map-append}
use Rattle.cat_model.specs.declared.type_name.TypeName.{TypeName}
use Rattle.cat_model.specs.TypeEffects.{as_it_is}
use Rattle.cat_model.specs.declared.value.Resolved.{Resolved}
use Rattle.cat_model.specs.Values.{Bytes}
use Rattle.cat_names.specs.Lookups.{same_oid, is_no_oid}
use Rattle.cat_rows.specs.declared.catalogue.Catalogue.{Catalogue}
use Rattle.cat_rows.specs.declared.constraints.ConstraintRow.{ConstraintRow}
use Rattle.row_texts.specs.TypeTexts.{type_named}
use Rattle.oid_groups.specs.Groups.{group_of}
use Rattle.oid_groups.proofs.Rows.{rows_of_group}
use Rattle.cat_lookups.specs.Ends.{resolved, resolved_within}
use Rattle.cat_lookups.specs.Beside.{check_keys}
use Rattle.cat_naming.specs.Types.{check_of, checks_of}
use Rattle.cat_lookups.proofs.Finding.{by_one_number, given_at}

-- ---- types

-- a type without a row is what it is
pub without_row : (cat : Catalogue) (oid : ℕ) (text : Bytes) (name : TypeName) → is_no_oid oid ≡ true → type_named text ≡ Some name → Some (as_it_is name) ≡ resolved cat oid text
unfolding resolved_within
without_row cat oid text name is named = by (is_no_oid oid) _ is
  where
    by : (b : Bool) (rest : Option Resolved) → b ≡ true → Some (as_it_is name) ≡ cond b (option_map as_it_is (type_named text)) rest
    by true rest e = ap (option_map as_it_is) (sym named)
    by false rest e = absurd cc

-- ---- checks

-- what the rows before a place give, and what the row there gives
pub given_next : {A B : Type 0} (f : A → Option B) (rows : List A) (i : ℕ) (d : A) → i < length rows → filter_map f (take (i + 1) rows) ≡ filter_map f (take i rows) ++ cons_option (f (get_or rows i d)) []
given_next f rows i d h = ap (filter_map f) (take_more rows i d h) ∙ filter_map-append f (take i rows) (get_or rows i d ∷ [])

-- the checks at the places of a domain's group are its checks
pub checks_of_group : (cat : Catalogue) (domain : ℕ) → filter_map (λ p. option_and_then check_of (slice_get cat.pg_constraint p)) (group_of (check_keys cat) domain) ≡ checks_of cat domain
checks_of_group cat domain =
    given_at check_of cat.pg_constraint (group_of (check_keys cat) domain)
    ∙ ap (filter_map check_of) (rows_of_group (λ (c : ConstraintRow). c.contypid) (λ (c : ConstraintRow). pos 0) cat.pg_constraint domain ∙ by_one_number (filter (λ (c : ConstraintRow). same_oid domain c.contypid) cat.pg_constraint))
