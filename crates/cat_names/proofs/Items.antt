-- Going over items: one is bad, or those behind it are tried.
use Rattle.std.proofs.Common.{◌≡◌, ℕ, ◌+◌, ◌<◌, false, ◌||◌, List, [], ◌∷◌, ◌++◌, length, map, take, drop, Option, refl, sym, ap, ◌∙◌}
use Rattle.std.proofs.Math.ListN.{get_or}
use Rattle.std.proofs.lemmas.List.{drop_more}
use Rattle.acl_text.specs.declared.list.AclItem.{AclItem}
use Rattle.cat_rows.specs.declared.roles.AuthidRow.{AuthidRow}
use Rattle.cat_model.specs.Values.{Bytes}
use Rattle.cat_names.specs.declared.rights.GrantKind.{GrantKind}
use Rattle.cat_names.specs.Rights.{is_bad_item, has_bad_item}
use Rattle.cat_names.proofs.Steps.{column_more, map_pushed}

step : (on : GrantKind) (roles : List AuthidRow) (before : List AclItem) (item : AclItem) (items : List AclItem) → has_bad_item on roles before (item ∷ items) ≡ (is_bad_item on roles before item || has_bad_item on roles (before ++ item ∷ []) items)
unfolding has_bad_item
step on roles before item items = refl

pub bad_at : {B : Type 0} (now : B → AclItem) (on : GrantKind) (roles : List AuthidRow) (items : List B) (i : ℕ) (item : B) → i < length items → item ≡ get_or items i item
    → has_bad_item on roles (map now (take i items)) (map now (drop i items)) ≡ (is_bad_item on roles (map now (take i items)) (now item) || has_bad_item on roles (map now (take (i + 1) items)) (map now (drop (i + 1) items)))
bad_at now on roles items i item h is =
    let here : map now (drop i items) ≡ now item ∷ map now (drop (i + 1) items) = ap (map now) (drop_more items i item h ∙ ap (λ x. x ∷ drop (i + 1) items) (sym is)) in
    ap (has_bad_item on roles (map now (take i items))) here
    ∙ step on roles (map now (take i items)) (now item) (map now (drop (i + 1) items))
    ∙ ap (λ before. is_bad_item on roles (map now (take i items)) (now item) || has_bad_item on roles before (map now (drop (i + 1) items))) (sym (column_more now items i item h is))

-- behind the last item none is bad
pub none_bad : {B : Type 0} (now : B → AclItem) (on : GrantKind) (roles : List AuthidRow) (before : List AclItem) (items : List B) (i : ℕ) → drop i items ≡ [] → has_bad_item on roles before (map now (drop i items)) ≡ false
unfolding has_bad_item
none_bad {B = B} now on roles before items i none = ap (λ (xs : List B). has_bad_item on roles before (map now xs)) none

-- the grantees up to a place and the one there
pub grantees_more : {B : Type 0} (now : B → AclItem) (items : List B) (i : ℕ) (item : B) → i < length items → item ≡ get_or items i item
    → map {B = Option Bytes} (λ x. x.grantee) (map now (take (i + 1) items)) ≡ map (λ x. x.grantee) (map now (take i items)) ++ (now item).grantee ∷ []
grantees_more now items i item h is = ap (map (λ (x : AclItem). x.grantee)) (column_more now items i item h is) ∙ map_pushed (λ (x : AclItem). x.grantee) (map now (take i items)) (now item)
