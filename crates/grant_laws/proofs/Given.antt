-- The statements for grants, one after another.
use Rattle.std.proofs.Common.{◌≡◌, Bool, true, false, not, ◌&&◌, List, [], ◌∷◌, ◌++◌, Option, Some, None, refl, subst, inl, inr}
use Rattle.std.specs.Prelude.{filter_map, if◌then◌else◌}
use Rattle.std.specs.List.{AllByRecursion, find}
use Rattle.std.proofs.lemmas.Bool.{cases_Bool, false≢true, and_parts}
use Rattle.acl_text.specs.declared.list.AclItem.{AclItem}
use Rattle.cat_model.specs.declared.grant.Granted.{Granted}
use Rattle.cat_model.specs.declared.grant.Granted.TheVariants as granted
use Rattle.cat_model.specs.declared.grant.Grantee.{Grantee}
use Rattle.cat_model.specs.declared.grant.Grantee.TheVariants as grantee
use Rattle.cat_model.specs.declared.grant.Rights.{Rights}
use Rattle.cat_model.specs.declared.holder.Item.{Item}
use Rattle.cat_model.specs.declared.stmt.Stmt.{Stmt}
use Rattle.cat_model.specs.Grants.{rights_less, has_rights}
use Rattle.cat_model.specs.Lexemes.{same_text}
use Rattle.cat_model.specs.Values.{Bytes}
use Rattle.cat_names.specs.declared.rights.GrantKind.{GrantKind}
use Rattle.cat_names.specs.Rights.{is_empty_list}
use Rattle.ddl_grammar.specs.Respelling.{AllWritable}
use Rattle.ddl_grammar.specs.RightsGrammar.{within, kind_rights}
use Rattle.ddl_grammar.specs.Writable.{kind_of, IsObject, AreRights, IsGrantee}
use Rattle.dump_grants.specs.Held.{all_rights, public_rights, is_plain}
use Rattle.dump_grants.specs.Holders.{gives, is_name, is_of_role, is_of_public, is_nobody, given, owner_item, public_item, to_other, role_item, name_less, role_items}
use Rattle.dump_grants.specs.Stmts.{granting, item_stmts, owner_stmts, lacking, public_stmts, role_stmts, all_stmts, are_default, grant_stmts}
use Rattle.grant_laws.specs.Items.{kind_on, IsRoleName, IsItem}
use Rattle.grant_laws.proofs.Held.{Allowed, AllowedItem, item_allowed, no_item_allowed, less_allowed, all_within}
use Rattle.ddl_grammar.proofs.Spelled.{by_syntax}
use Rattle.stmt_laws.proofs.Lists.{Known, chosen_have, ordered_have}

-- ---- statements

both : (a b : List Stmt) → AllWritable a → AllWritable b → AllWritable (a ++ b)
both [] b h k = k
both (s ∷ a) b h k = (h.0, both a b h.1 k)

kind_within : (what : Granted) (r : Rights) → Allowed (kind_on what) r → within r (kind_rights (kind_of what)) ≡ true
kind_within (granted.Table q) r is = all_within (kind_on (granted.Table q)) r is
kind_within (granted.Sequence q) r is = all_within (kind_on (granted.Sequence q)) r is
kind_within (granted.Schema n) r is = all_within (kind_on (granted.Schema n)) r is
kind_within (granted.Type q) r is = all_within (kind_on (granted.Type q)) r is

granting_can : (what : Granted) → IsObject what → (r : Rights) → Allowed (kind_on what) r → (who : Grantee) → IsGrantee who → (option : Bool) → AllWritable (granting what r who option)
unfolding by_syntax
granting_can what is r allowed who to option = elim (cases_Bool (has_rights r)) [ inl some ↦ rw some ((is, (some, kind_within what r allowed), to), tt) | inr none ↦ rw none tt ]

item_can : (what : Granted) → IsObject what → (who : Grantee) → IsGrantee who → (item : Item) → AllowedItem (kind_on what) item → AllWritable (item_stmts what who item)
item_can what is who to item allowed =
    both (granting what (rights_less item.rights item.options) who false) (granting what item.options who true)
    (granting_can what is (rights_less item.rights item.options) (less_allowed (kind_on what) item.rights item.options allowed.rights) who to false)
    (granting_can what is item.options allowed.options who to true)

-- all rights of the kind can be taken away
all_can : (what : Granted) → AreRights what (all_rights (kind_on what))
all_can (granted.Table q) = (refl, refl)
all_can (granted.Sequence q) = (refl, refl)
all_can (granted.Schema n) = (refl, refl)
all_can (granted.Type q) = (refl, refl)

owner_can : (what : Granted) → IsObject what → (owner : Bytes) → IsRoleName owner → (item : Item) → AllowedItem (kind_on what) item → AllWritable (owner_stmts what (all_rights (kind_on what)) owner item)
unfolding by_syntax
owner_can what is owner role item allowed = elim (cases_Bool (is_plain item (all_rights (kind_on what)))) [
  | inl plain ↦ rw plain tt
  | inr other ↦ rw other ((is, all_can what, role), item_can what is (grantee.Role owner) role item allowed)
]

lacking_can : (what : Granted) → IsObject what → (item : Item) → AllWritable (lacking what (public_rights (kind_on what)) item)
unfolding by_syntax
lacking_can (granted.Table q) is item = tt
lacking_can (granted.Sequence q) is item = tt
lacking_can (granted.Schema n) is item = tt
lacking_can (granted.Type q) is item = elim (cases_Bool (has_rights (rights_less (public_rights (kind_on (granted.Type q))) item.rights))) [ inl some ↦ rw some ((is, (refl, refl), tt), tt) | inr none ↦ rw none tt ]

public_can : (what : Granted) → IsObject what → (item : Item) → AllowedItem (kind_on what) item → AllWritable (public_stmts what (public_rights (kind_on what)) item)
public_can what is item allowed =
    both (lacking what (public_rights (kind_on what)) item) (item_stmts what grantee.Public item) (lacking_can what is item) (item_can what is grantee.Public tt item allowed)

record IsGiven (kind : GrantKind) (r : Bytes × Item) : Type 0 where
  role : IsRoleName r.0
  item : AllowedItem kind r.1

roles_can : (what : Granted) → IsObject what → (roles : List (Bytes × Item)) → AllByRecursion (IsGiven (kind_on what)) roles → AllWritable (role_stmts what roles)
roles_can what is [] all = tt
roles_can what is (r ∷ roles) all = both (item_stmts what (grantee.Role r.0) r.1) (role_stmts what roles) (item_can what is (grantee.Role r.0) all.0.role r.1 all.0.item) (roles_can what is roles all.1)

-- ---- who has rights

not_so : (b : Bool) → not b ≡ true → b ≡ false
not_so false e = refl
not_so true e = absurd (false≢true e)

found_so : {A : Type 0} (P : A → Type 0) (p : A → Bool) (xs : List A) → AllByRecursion P xs → Known (λ x. P x × (p x ≡ true)) (find p xs)
found_so P p [] all = tt
found_so P p (x ∷ xs) all = elim (cases_Bool (p x)) [ inl is ↦ rw is (all.0, is) | inr isnt ↦ rw isnt (found_so P p xs all.1) ]

given_can : (kind : GrantKind) (p : AclItem → Bool) → ((item : AclItem) → p item ≡ true → gives item ≡ true) → (o : Option AclItem) → Known (λ item. IsItem kind item × (p item ≡ true)) o → AllowedItem kind (given o)
given_can kind p h None k = no_item_allowed kind
given_can kind p h (Some item) k = item_allowed kind item.rights (k.0 (not_so (is_empty_list item.rights) (h item k.1))).0

other_can : (kind : GrantKind) (owner : Bytes) (item : AclItem) → IsItem kind item → (to : Option Bytes) → item.grantee ≡ to → Known (IsGiven kind) (to_other owner item to)
other_can kind owner item is None e = tt
other_can kind owner item is (Some name) e = elim (cases_Bool (gives item && not (same_text owner name))) [
  | inl taken ↦ rw taken (
      let h = is (not_so (is_empty_list item.rights) (and_parts (gives item) (not (same_text owner name)) taken).0) in
      record { role = h.1 name e; item = item_allowed kind item.rights h.0 })
  | inr none ↦ rw none tt
]

-- ---- all of them

all_stmts_can : (what : Granted) (owner : Bytes) (items : List AclItem) → IsObject what → IsRoleName owner → AllByRecursion (IsItem (kind_on what)) items → AllWritable (all_stmts (kind_on what) what owner items)
all_stmts_can what owner items is role all =
    let kind = kind_on what in
    let own = given_can kind (is_of_role owner) (λ item e. (and_parts (is_name owner item.grantee) (gives item) e).1) (find (is_of_role owner) items) (found_so (IsItem kind) (is_of_role owner) items all) in
    let public = given_can kind is_of_public (λ item e. (and_parts (is_nobody item.grantee) (gives item) e).1) (find is_of_public items) (found_so (IsItem kind) is_of_public items all) in
    let others = ordered_have (IsGiven kind) name_less (filter_map (role_item owner) items) (chosen_have (IsItem kind) (IsGiven kind) (role_item owner) items all (λ item h. other_can kind owner item h item.grantee refl)) in
    both (owner_stmts what (all_rights kind) owner (owner_item owner items) ++ public_stmts what (public_rights kind) (public_item items)) (role_stmts what (role_items owner items))
    (both (owner_stmts what (all_rights kind) owner (owner_item owner items)) (public_stmts what (public_rights kind) (public_item items))
    (owner_can what is owner role (owner_item owner items) own) (public_can what is (public_item items) public))
    (roles_can what is (role_items owner items) others)

pub grants_can : (what : Granted) (owner : Bytes) (items : List AclItem) (ss : List Stmt) → IsObject what → IsRoleName owner → AllByRecursion (IsItem (kind_on what)) items → grant_stmts (kind_on what) what owner (Some items) ≡ Some ss → AllWritable ss
unfolding grant_stmts
grants_can what owner items ss is role all e = by (are_default (kind_on what) owner items) e
  where
    by : (b : Bool) → (if b then None else Some (all_stmts (kind_on what) what owner items)) ≡ Some ss → AllWritable ss
    by true e = absurd cc
    by false e = let same : all_stmts (kind_on what) what owner items ≡ ss = cc e in subst AllWritable same (all_stmts_can what owner items is role all)
