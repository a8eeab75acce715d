-- Rights that are held are such as the kind of object has.
use Rattle.std.proofs.Common.{◌≡◌, ℕ, Bool, true, false, not, ◌||◌, ◌&&◌, List, [], ◌∷◌, refl, sym, ap, subst, ◌∙◌, inl, inr}
use Rattle.std.specs.Prelude.{◌==◌, if◌then◌else◌}
use Rattle.std.specs.List.{list_all}
use Rattle.std.proofs.lemmas.Bool.{false≢true, and_parts, or_cases, eqb-true}
use Rattle.acl_text.specs.declared.rights.Privilege.{Privilege}
use Rattle.acl_text.specs.declared.rights.Privilege.TheVariants.{Insert, Select, Update, Delete, Truncate, References, Trigger, Usage, Create}
use Rattle.acl_text.specs.declared.rights.Right.{Right}
use Rattle.cat_model.specs.declared.grant.Rights.{Rights}
use Rattle.cat_model.specs.declared.holder.Item.{Item}
use Rattle.cat_model.specs.Grants.{no_rights, rights_less}
use Rattle.cat_names.specs.declared.rights.GrantKind.{GrantKind}
use Rattle.cat_names.specs.declared.rights.GrantKind.TheVariants as on
use Rattle.cat_names.specs.Rights.{has_privilege}
use Rattle.ddl_grammar.specs.RightsGrammar.{within}
use Rattle.dump_grants.specs.Held.{all_rights, code, is_held, is_optional, rights_by, item_of, no_item}

-- each right is one that the kind of object has
pub record Allowed (kind : GrantKind) (r : Rights) : Type 0 where
  pub select : r.select ≡ true → has_privilege kind Select ≡ true
  pub usage : r.usage ≡ true → has_privilege kind Usage ≡ true
  pub insert : r.insert ≡ true → has_privilege kind Insert ≡ true
  pub references : r.references ≡ true → has_privilege kind References ≡ true
  pub delete : r.delete ≡ true → has_privilege kind Delete ≡ true
  pub trigger : r.trigger ≡ true → has_privilege kind Trigger ≡ true
  pub truncate : r.truncate ≡ true → has_privilege kind Truncate ≡ true
  pub update : r.update ≡ true → has_privilege kind Update ≡ true
  pub create : r.create ≡ true → has_privilege kind Create ≡ true

-- ---- which right it is

decode : ℕ → Privilege
decode n =
    if n == 0 then Insert
    else (if n == 1 then Select
    else (if n == 2 then Update
    else (if n == 3 then Delete
    else (if n == 4 then Truncate
    else (if n == 5 then References
    else (if n == 6 then Trigger
    else (if n == 7 then Usage
    else Create)))))))

decoded : (p : Privilege) → decode (code p) ≡ p
unfolding decode
decoded Insert = refl
decoded Select = refl
decoded Update = refl
decoded Delete = refl
decoded Truncate = refl
decoded References = refl
decoded Trigger = refl
decoded Usage = refl
decoded Create = refl

same_right : (a b : Privilege) → (code a == code b) ≡ true → a ≡ b
same_right a b e = sym (decoded a) ∙ ap decode (eqb-true (code a) (code b) e) ∙ decoded b

-- ---- rights that are listed

held_is : (kind : GrantKind) (rights : List Right) → list_all (λ r. has_privilege kind r.privilege) rights ≡ true → (p : Privilege) → is_held rights p ≡ true → has_privilege kind p ≡ true
held_is kind [] all p e = absurd (false≢true e)
held_is kind (r ∷ rights) all p e =
    let parts = and_parts (has_privilege kind r.privilege) (list_all (λ r. has_privilege kind r.privilege) rights) all in
    elim (or_cases (code r.privilege == code p) (is_held rights p) e) [
      | inl is ↦ subst (λ (q : Privilege). has_privilege kind q ≡ true) (same_right r.privilege p is) parts.0
      | inr later ↦ held_is kind rights parts.1 p later
    ]

optional_is : (kind : GrantKind) (rights : List Right) → list_all (λ r. has_privilege kind r.privilege) rights ≡ true → (p : Privilege) → is_optional rights p ≡ true → has_privilege kind p ≡ true
optional_is kind [] all p e = absurd (false≢true e)
optional_is kind (r ∷ rights) all p e =
    let parts = and_parts (has_privilege kind r.privilege) (list_all (λ r. has_privilege kind r.privilege) rights) all in
    elim (or_cases (code r.privilege == code p && r.grant_option) (is_optional rights p) e) [
      | inl is ↦ subst (λ (q : Privilege). has_privilege kind q ≡ true) (same_right r.privilege p (and_parts (code r.privilege == code p) r.grant_option is).0) parts.0
      | inr later ↦ optional_is kind rights parts.1 p later
    ]

by_each : (kind : GrantKind) (has : Privilege → Bool) → ((p : Privilege) → has p ≡ true → has_privilege kind p ≡ true) → Allowed kind (rights_by has)
by_each kind has h = record { select = h Select; usage = h Usage; insert = h Insert; references = h References; delete = h Delete; trigger = h Trigger; truncate = h Truncate; update = h Update; create = h Create }

pub record AllowedItem (kind : GrantKind) (item : Item) : Type 0 where
  pub rights : Allowed kind item.rights
  pub options : Allowed kind item.options

pub item_allowed : (kind : GrantKind) (rights : List Right) → list_all (λ r. has_privilege kind r.privilege) rights ≡ true → AllowedItem kind (item_of rights)
item_allowed kind rights all = record { rights = by_each kind (is_held rights) (held_is kind rights all); options = by_each kind (is_optional rights) (optional_is kind rights all) }

none : (kind : GrantKind) → Allowed kind no_rights
none kind = record { select = λ e. absurd (false≢true e); usage = λ e. absurd (false≢true e); insert = λ e. absurd (false≢true e); references = λ e. absurd (false≢true e); delete = λ e. absurd (false≢true e); trigger = λ e. absurd (false≢true e); truncate = λ e. absurd (false≢true e); update = λ e. absurd (false≢true e); create = λ e. absurd (false≢true e) }

pub no_item_allowed : (kind : GrantKind) → AllowedItem kind no_item
no_item_allowed kind = record { rights = none kind; options = none kind }

pub less_allowed : (kind : GrantKind) (a b : Rights) → Allowed kind a → Allowed kind (rights_less a b)
less_allowed kind a b is = record { select = λ e. is.select (and_parts a.select (not b.select) e).0; usage = λ e. is.usage (and_parts a.usage (not b.usage) e).0; insert = λ e. is.insert (and_parts a.insert (not b.insert) e).0; references = λ e. is.references (and_parts a.references (not b.references) e).0; delete = λ e. is.delete (and_parts a.delete (not b.delete) e).0; trigger = λ e. is.trigger (and_parts a.trigger (not b.trigger) e).0; truncate = λ e. is.truncate (and_parts a.truncate (not b.truncate) e).0; update = λ e. is.update (and_parts a.update (not b.update) e).0; create = λ e. is.create (and_parts a.create (not b.create) e).0 }

-- ---- rights within those of a kind

or_so : (a b : Bool) → (a ≡ true → b ≡ true) → (not a || b) ≡ true
or_so true b h = h refl
or_so false b h = refl

nine : (a b c d e f g h i : Bool) → a ≡ true → b ≡ true → c ≡ true → d ≡ true → e ≡ true → f ≡ true → g ≡ true → h ≡ true → i ≡ true → list_all (λ holds. holds) (a ∷ b ∷ c ∷ d ∷ e ∷ f ∷ g ∷ h ∷ i ∷ []) ≡ true
nine a b c d e f g h i p q r s t u v w x = rw (p, q, r, s, t, u, v, w, x) refl

pub all_within : (kind : GrantKind) (r : Rights) → Allowed kind r → within r (all_rights kind) ≡ true
all_within on.Table r is =
    nine _ _ _ _ _ _ _ _ _
    (or_so r.select (all_rights on.Table).select is.select)
    (or_so r.usage (all_rights on.Table).usage is.usage)
    (or_so r.insert (all_rights on.Table).insert is.insert)
    (or_so r.references (all_rights on.Table).references is.references)
    (or_so r.delete (all_rights on.Table).delete is.delete)
    (or_so r.trigger (all_rights on.Table).trigger is.trigger)
    (or_so r.truncate (all_rights on.Table).truncate is.truncate)
    (or_so r.update (all_rights on.Table).update is.update)
    (or_so r.create (all_rights on.Table).create is.create)
all_within on.Sequence r is =
    nine _ _ _ _ _ _ _ _ _
    (or_so r.select (all_rights on.Sequence).select is.select)
    (or_so r.usage (all_rights on.Sequence).usage is.usage)
    (or_so r.insert (all_rights on.Sequence).insert is.insert)
    (or_so r.references (all_rights on.Sequence).references is.references)
    (or_so r.delete (all_rights on.Sequence).delete is.delete)
    (or_so r.trigger (all_rights on.Sequence).trigger is.trigger)
    (or_so r.truncate (all_rights on.Sequence).truncate is.truncate)
    (or_so r.update (all_rights on.Sequence).update is.update)
    (or_so r.create (all_rights on.Sequence).create is.create)
all_within on.Schema r is =
    nine _ _ _ _ _ _ _ _ _
    (or_so r.select (all_rights on.Schema).select is.select)
    (or_so r.usage (all_rights on.Schema).usage is.usage)
    (or_so r.insert (all_rights on.Schema).insert is.insert)
    (or_so r.references (all_rights on.Schema).references is.references)
    (or_so r.delete (all_rights on.Schema).delete is.delete)
    (or_so r.trigger (all_rights on.Schema).trigger is.trigger)
    (or_so r.truncate (all_rights on.Schema).truncate is.truncate)
    (or_so r.update (all_rights on.Schema).update is.update)
    (or_so r.create (all_rights on.Schema).create is.create)
all_within on.Type r is =
    nine _ _ _ _ _ _ _ _ _
    (or_so r.select (all_rights on.Type).select is.select)
    (or_so r.usage (all_rights on.Type).usage is.usage)
    (or_so r.insert (all_rights on.Type).insert is.insert)
    (or_so r.references (all_rights on.Type).references is.references)
    (or_so r.delete (all_rights on.Type).delete is.delete)
    (or_so r.trigger (all_rights on.Type).trigger is.trigger)
    (or_so r.truncate (all_rights on.Type).truncate is.truncate)
    (or_so r.update (all_rights on.Type).update is.update)
    (or_so r.create (all_rights on.Type).create is.create)
