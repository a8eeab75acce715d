-- Finite maps don't compute. So the grants and the checks that a run leaves are told as what was done to new ones, and
-- the entries of that are a list that computes.
use Rattle.std.proofs.Common.{◌≡◌, Bool, true, false, not, cond, T, List, [], ◌∷◌, Option, Some, None, refl, ap, sym, ◌∙◌}
use Rattle.std.specs.Prelude.{if◌then◌else◌}
use Rattle.std.specs.Ordering.{eq_by_cmp}
use Rattle.std.specs.declared.cmp.Ordering.{Ordering}
use Rattle.std.specs.Cmp.{IsTotalOrder, eq_by_cmp_equiv}
use Rattle.std.specs.Cmp.Lexicographic.{nat_list_cmp_total}
use Rattle.std.specs.FinMap.{FinMap, IsAntisymmetric, empty, get, insert, remove, entries, entries_sorted, from_entries, from_sorted, find, put, is_sorted, get-entries, get-empty, get-remove, get-from_sorted, entries-insert, entries-from_sorted, same_entries_map, same_map}
use Rattle.std.specs.FinMap.Entries.{where_key, is_sorted-where_key, find-where_key}
use Rattle.cat_model.specs.declared.grant.Rights.{Rights}
use Rattle.cat_model.specs.HolderLaws.{holder_cmp_total, bytes_cmp-IsAntisymmetric, holder_cmp-IsAntisymmetric}
use Rattle.cat_model.specs.Holders.{bytes_cmp, holder_cmp}
use Rattle.cat_model.specs.declared.holder.Holder.{Holder}
use Rattle.cat_model.specs.declared.holder.Holder.TheVariants.{Owner as OWNER, Public as PUBLIC, Role as ROLE}
use Rattle.cat_model.specs.declared.holder.Item.{Item}
use Rattle.cat_model.specs.declared.value.Value.TheVariants as value
use Rattle.cat_model.specs.Values.{Bytes, Grants}
use Rattle.cat_model.specs.Grants.{type_rights, without_option, both_rights, rights_less, has_rights, item_or_none, with_item, granted, revoked, both_items, join, joined}
use Rattle.value_runs.specs.Written.{Entries}

-- ---- any map

module _ {K X : Type 0} (R : K → K → Ordering) where
  abbrev pub all_put : List (K × X) → List (K × X)
  all_put [] = []
  all_put (e ∷ es) = put R e.0 e.1 (all_put es)

  abbrev pub others : K → List (K × X) → List (K × X)
  others k es = where_key R (λ x. not (eq_by_cmp R k x)) es

module _ {K X : Type 0} {R : K → K → Ordering} (total : IsTotalOrder R) (same : IsAntisymmetric R) where
  -- a map is that of its entries
  pub of-entries : (m : FinMap R X) (es : List (K × X)) → entries m ≡ es → m ≡ from_sorted es
  of-entries m es is =
      sym (same_entries_map (from_sorted (entries m)) m (entries-from_sorted R (entries m) (entries_sorted m)))
      ∙ ap from_sorted is

  none-in : entries (empty {X = X} {R = R}) ≡ []
  none-in = ap entries (same_map total same empty (from_sorted []) (λ q. get-empty R q ∙ sym (get-from_sorted R [] q tt))) ∙ entries-from_sorted R [] tt

  pub put-in : (es : List (K × X)) → entries (from_entries {R = R} es) ≡ all_put R es
  put-in [] = none-in
  put-in (e ∷ es) = entries-insert total (from_entries es) e.0 e.1 ∙ ap (put R e.0 e.1) (put-in es)

  turned : (b : Bool) (v : Option X) → cond b None v ≡ cond (not b) v None
  turned true v = refl
  turned false v = refl

  pub remove-in : (m : FinMap R X) (k : K) → entries (remove m k) ≡ others R k (entries m)
  remove-in m k =
      let p : K → Bool = λ x. not (eq_by_cmp R k x) in
      let es = where_key R p (entries m) in
      let sorted : T (is_sorted R es) = is_sorted-where_key R p (entries m) (entries_sorted m) in
      ap entries (same_map total same (remove m k) (from_sorted es) (λ q.
      get-remove total m k q
      ∙ turned (eq_by_cmp R q k) (get m q)
      ∙ ap (λ (b : Bool). cond (not b) (get m q) None) ((eq_by_cmp_equiv total).symm q k)
      ∙ ap (λ (v : Option X). cond (p q) v None) (get-entries m q)
      ∙ sym (get-from_sorted R es q sorted ∙ find-where_key R p q (λ x t. ap p (sym (same q x t))) (entries m))))
      ∙ entries-from_sorted R es sorted

-- ---- grants

abbrev pub Items : Type 0
Items = List (Holder × Item)

-- new ones, and what GRANT, REVOKE and OWNER TO make of them
pub data Made : Type 0 where
  new : Items → Made
  grant : Rights → Bool → Holder → Made → Made
  revoke : Rights → Holder → Made → Made
  join_role : Bytes → Made → Made

-- what a new object has
abbrev pub fresh : Rights → Made
fresh rights = new ((OWNER, without_option rights) ∷ [])

abbrev pub fresh_type : Made
fresh_type = new ((OWNER, without_option type_rights) ∷ (PUBLIC, without_option type_rights) ∷ [])

abbrev pub made : Made → Grants
made (new items) = from_entries items
made (grant rights option holder m) = granted rights option holder (made m)
made (revoke rights holder m) = revoked rights holder (made m)
made (join_role role m) = joined role (made m)

abbrev with_item_in : Items → Holder → Item → Items
with_item_in es holder item = if has_rights item.rights then put holder_cmp holder item es else others holder_cmp holder es

with_item-in : (grants : Grants) (holder : Holder) (item : Item) → entries (with_item grants holder item) ≡ with_item_in (entries grants) holder item
with_item-in grants holder item =
    let chosen : (b : Bool) → entries (if b then insert grants holder item else remove grants holder) ≡ (if b then put holder_cmp holder item (entries grants) else others holder_cmp holder (entries grants)) =
    λ b. elim b as (λ b. entries (if b then insert grants holder item else remove grants holder) ≡ (if b then put holder_cmp holder item (entries grants) else others holder_cmp holder (entries grants))) [
      | true ↦ entries-insert holder_cmp_total grants holder item
      | false ↦ remove-in holder_cmp_total holder_cmp-IsAntisymmetric grants holder
    ] in
    chosen (has_rights item.rights)

abbrev more : Rights → Bool → Option Item → Item
more rights option old =
    let item = item_or_none old in
    record { rights = both_rights item.rights rights; options = if option then both_rights item.options rights else item.options }

abbrev less : Rights → Option Item → Item
less rights old =
    let item = item_or_none old in
    record { rights = rights_less item.rights rights; options = rights_less item.options rights }

granted-in : (rights : Rights) (option : Bool) (holder : Holder) (grants : Grants) → entries (granted rights option holder grants) ≡ with_item_in (entries grants) holder (more rights option (find holder_cmp holder (entries grants)))
granted-in rights option holder grants =
    ap (λ (old : Option Item). entries (with_item grants holder (more rights option old))) (get-entries grants holder)
    ∙ with_item-in grants holder (more rights option (find holder_cmp holder (entries grants)))

revoked-in : (rights : Rights) (holder : Holder) (grants : Grants) → entries (revoked rights holder grants) ≡ with_item_in (entries grants) holder (less rights (find holder_cmp holder (entries grants)))
revoked-in rights holder grants =
    ap (λ (old : Option Item). entries (with_item grants holder (less rights old))) (get-entries grants holder)
    ∙ with_item-in grants holder (less rights (find holder_cmp holder (entries grants)))

abbrev join_in : Bytes → Option Item → Items → Items
join_in role None es = es
join_in role (Some item) es = put holder_cmp OWNER (both_items item (item_or_none (find holder_cmp OWNER es))) (others holder_cmp (ROLE role) es)

join-in : (role : Bytes) (own : Option Item) (grants : Grants) → entries (join role own grants) ≡ join_in role own (entries grants)
join-in role None grants = refl
join-in role (Some item) grants =
    let rest = remove grants (ROLE role) in
    ap (λ (old : Option Item). entries (insert rest OWNER (both_items item (item_or_none old)))) (get-entries grants OWNER)
    ∙ entries-insert holder_cmp_total rest OWNER (both_items item (item_or_none (find holder_cmp OWNER (entries grants))))
    ∙ ap (put holder_cmp OWNER (both_items item (item_or_none (find holder_cmp OWNER (entries grants))))) (remove-in holder_cmp_total holder_cmp-IsAntisymmetric grants (ROLE role))

joined-in : (role : Bytes) (grants : Grants) → entries (joined role grants) ≡ join_in role (find holder_cmp (ROLE role) (entries grants)) (entries grants)
joined-in role grants =
    ap (λ (own : Option Item). entries (join role own grants)) (get-entries grants (ROLE role))
    ∙ join-in role (find holder_cmp (ROLE role) (entries grants)) grants

-- who has rights, in order
abbrev pub listed : Made → Items
listed (new items) = all_put holder_cmp items
listed (grant rights option holder m) = with_item_in (listed m) holder (more rights option (find holder_cmp holder (listed m)))
listed (revoke rights holder m) = with_item_in (listed m) holder (less rights (find holder_cmp holder (listed m)))
listed (join_role role m) = join_in role (find holder_cmp (ROLE role) (listed m)) (listed m)

made-in : (m : Made) → entries (made m) ≡ listed m
made-in (new items) = put-in holder_cmp_total holder_cmp-IsAntisymmetric items
made-in (grant rights option holder m) =
    granted-in rights option holder (made m)
    ∙ ap (λ (es : Items). with_item_in es holder (more rights option (find holder_cmp holder es))) (made-in m)
made-in (revoke rights holder m) =
    revoked-in rights holder (made m)
    ∙ ap (λ (es : Items). with_item_in es holder (less rights (find holder_cmp holder es))) (made-in m)
made-in (join_role role m) =
    joined-in role (made m)
    ∙ ap (λ (es : Items). join_in role (find holder_cmp (ROLE role) es) es) (made-in m)

made-is : (m : Made) → made m ≡ from_sorted (listed m)
made-is m = of-entries holder_cmp_total holder_cmp-IsAntisymmetric (made m) (listed m) (made-in m)

-- ---- checks of domains

abbrev pub Checks : Type 0
Checks = List (Bytes × Bytes)

checks-are : (checks : Checks) → from_entries {R = bytes_cmp} checks ≡ from_sorted (all_put bytes_cmp checks)
checks-are checks =
    of-entries nat_list_cmp_total bytes_cmp-IsAntisymmetric (from_entries checks) (all_put bytes_cmp checks) (put-in nat_list_cmp_total bytes_cmp-IsAntisymmetric checks)

-- ---- the grants and the checks of a catalogue, in the order of keys

abbrev first_made : List Made → Made
first_made [] = new []
first_made (m ∷ ms) = m

abbrev other_made : List Made → List Made
other_made [] = []
other_made (m ∷ ms) = ms

abbrev first_checks : List Checks → Checks
first_checks [] = []
first_checks (c ∷ cs) = c

abbrev other_checks : List Checks → List Checks
other_checks [] = []
other_checks (c ∷ cs) = cs

-- as a run makes them
abbrev pub filled : List Made → List Checks → Entries → Entries
filled ms cs [] = []
filled ms cs ((k, value.Grants grants) ∷ es) = (k, value.Grants (made (first_made ms))) ∷ filled (other_made ms) cs es
filled ms cs ((k, value.Domain d) ∷ es) = (k, value.Domain (record d { checks = from_entries (first_checks cs) })) ∷ filled ms (other_checks cs) es
filled ms cs (e ∷ es) = e ∷ filled ms cs es

-- as their entries have them
abbrev pub settled : List Made → List Checks → Entries → Entries
settled ms cs [] = []
settled ms cs ((k, value.Grants grants) ∷ es) = (k, value.Grants (from_sorted (listed (first_made ms)))) ∷ settled (other_made ms) cs es
settled ms cs ((k, value.Domain d) ∷ es) = (k, value.Domain (record d { checks = from_sorted (all_put bytes_cmp (first_checks cs)) })) ∷ settled ms (other_checks cs) es
settled ms cs (e ∷ es) = e ∷ settled ms cs es

pub filled-settled : (ms : List Made) (cs : List Checks) (es : Entries) → filled ms cs es ≡ settled ms cs es
filled-settled ms cs [] = refl
filled-settled ms cs ((k, value.Grants grants) ∷ es) = λ i. (k, value.Grants (made-is (first_made ms) i)) ∷ filled-settled (other_made ms) cs es i
filled-settled ms cs ((k, value.Domain d) ∷ es) = λ i. (k, value.Domain (record d { checks = checks-are (first_checks cs) i })) ∷ filled-settled ms (other_checks cs) es i
filled-settled ms cs (e ∷ es) = λ i. e ∷ filled-settled ms cs es i
