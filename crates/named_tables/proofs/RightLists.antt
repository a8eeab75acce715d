-- The rights of an item as a list give back the item.
use Rattle.std.proofs.Common.{◌≡◌, Bool, true, false, ◌&&◌, ◌||◌, List, [], ◌∷◌, ◌++◌, refl, ap, ◌∙◌}
use Rattle.std.specs.List.{list_all}
use Rattle.acl_text.specs.declared.rights.Privilege.{Privilege}
use Rattle.acl_text.specs.declared.rights.Privilege.TheVariants.{Insert, Select, Update, Delete, Truncate, References, Trigger, Usage, Create}
use Rattle.acl_text.specs.declared.rights.Right.{Right}
use Rattle.cat_model.specs.declared.grant.Rights.{Rights}
use Rattle.cat_model.specs.declared.holder.Item.{Item}
use Rattle.cat_model.specs.Grants.{no_rights, both_rights, has_rights, table_rights, sequence_rights, schema_rights, type_rights}
use Rattle.cat_names.specs.declared.rights.GrantKind.{GrantKind}
use Rattle.cat_names.specs.declared.rights.GrantKind.TheVariants as on
use Rattle.cat_names.specs.Grants.{one_right, right_option, listed_rights, listed_options}
use Rattle.cat_names.specs.Rights.{has_privilege, is_empty_list}
use Rattle.cat_sound.specs.Rights.{implies, is_within, IsItem}
use Rattle.cat_sound.proofs.Lists.{tested-append}
use Rattle.named_tables.specs.Rights.{right, rights_list}

-- ---- lists that are put together

both-assoc : (a b c : Rights) → both_rights a (both_rights b c) ≡ both_rights (both_rights a b) c
both-assoc a b c = λ i. record {
  select = or-assoc a.select b.select c.select i;
  usage = or-assoc a.usage b.usage c.usage i;
  insert = or-assoc a.insert b.insert c.insert i;
  references = or-assoc a.references b.references c.references i;
  delete = or-assoc a.delete b.delete c.delete i;
  trigger = or-assoc a.trigger b.trigger c.trigger i;
  truncate = or-assoc a.truncate b.truncate c.truncate i;
  update = or-assoc a.update b.update c.update i;
  create = or-assoc a.create b.create c.create i;
}
  where
    or-assoc : (a b c : Bool) → (a || (b || c)) ≡ ((a || b) || c)
    or-assoc true b c = refl
    or-assoc false b c = refl

listed-append : (xs ys : List Right) → listed_rights (xs ++ ys) ≡ both_rights (listed_rights xs) (listed_rights ys)
listed-append [] ys = refl
listed-append (x ∷ xs) ys = ap (both_rights (one_right x.privilege)) (listed-append xs ys) ∙ both-assoc (one_right x.privilege) (listed_rights xs) (listed_rights ys)

options-append : (xs ys : List Right) → listed_options (xs ++ ys) ≡ both_rights (listed_options xs) (listed_options ys)
options-append [] ys = refl
options-append (x ∷ xs) ys = ap (both_rights (right_option x)) (options-append xs ys) ∙ both-assoc (right_option x) (listed_options xs) (listed_options ys)

-- ---- the rights of a list, right by right

listed-insert : (has option : Bool) → listed_rights (right has option Insert) ≡ record no_rights { insert = has }
listed-insert true option = refl
listed-insert false option = refl

listed-select : (has option : Bool) → listed_rights (right has option Select) ≡ record no_rights { select = has }
listed-select true option = refl
listed-select false option = refl

listed-update : (has option : Bool) → listed_rights (right has option Update) ≡ record no_rights { update = has }
listed-update true option = refl
listed-update false option = refl

listed-delete : (has option : Bool) → listed_rights (right has option Delete) ≡ record no_rights { delete = has }
listed-delete true option = refl
listed-delete false option = refl

listed-truncate : (has option : Bool) → listed_rights (right has option Truncate) ≡ record no_rights { truncate = has }
listed-truncate true option = refl
listed-truncate false option = refl

listed-references : (has option : Bool) → listed_rights (right has option References) ≡ record no_rights { references = has }
listed-references true option = refl
listed-references false option = refl

listed-trigger : (has option : Bool) → listed_rights (right has option Trigger) ≡ record no_rights { trigger = has }
listed-trigger true option = refl
listed-trigger false option = refl

listed-usage : (has option : Bool) → listed_rights (right has option Usage) ≡ record no_rights { usage = has }
listed-usage true option = refl
listed-usage false option = refl

listed-create : (has option : Bool) → listed_rights (right has option Create) ≡ record no_rights { create = has }
listed-create true option = refl
listed-create false option = refl

options-insert : (has option : Bool) → listed_options (right has option Insert) ≡ record no_rights { insert = has && option }
options-insert true true = refl
options-insert true false = refl
options-insert false option = refl

options-select : (has option : Bool) → listed_options (right has option Select) ≡ record no_rights { select = has && option }
options-select true true = refl
options-select true false = refl
options-select false option = refl

options-update : (has option : Bool) → listed_options (right has option Update) ≡ record no_rights { update = has && option }
options-update true true = refl
options-update true false = refl
options-update false option = refl

options-delete : (has option : Bool) → listed_options (right has option Delete) ≡ record no_rights { delete = has && option }
options-delete true true = refl
options-delete true false = refl
options-delete false option = refl

options-truncate : (has option : Bool) → listed_options (right has option Truncate) ≡ record no_rights { truncate = has && option }
options-truncate true true = refl
options-truncate true false = refl
options-truncate false option = refl

options-references : (has option : Bool) → listed_options (right has option References) ≡ record no_rights { references = has && option }
options-references true true = refl
options-references true false = refl
options-references false option = refl

options-trigger : (has option : Bool) → listed_options (right has option Trigger) ≡ record no_rights { trigger = has && option }
options-trigger true true = refl
options-trigger true false = refl
options-trigger false option = refl

options-usage : (has option : Bool) → listed_options (right has option Usage) ≡ record no_rights { usage = has && option }
options-usage true true = refl
options-usage true false = refl
options-usage false option = refl

options-create : (has option : Bool) → listed_options (right has option Create) ≡ record no_rights { create = has && option }
options-create true true = refl
options-create true false = refl
options-create false option = refl

behind_1 : (a : Bool) → (a || false) ≡ a
behind_1 true = refl
behind_1 false = refl

behind_2 : (a : Bool) → ((a || false) || false) ≡ a
behind_2 true = refl
behind_2 false = refl

behind_3 : (a : Bool) → (((a || false) || false) || false) ≡ a
behind_3 true = refl
behind_3 false = refl

behind_4 : (a : Bool) → ((((a || false) || false) || false) || false) ≡ a
behind_4 true = refl
behind_4 false = refl

behind_5 : (a : Bool) → (((((a || false) || false) || false) || false) || false) ≡ a
behind_5 true = refl
behind_5 false = refl

behind_6 : (a : Bool) → ((((((a || false) || false) || false) || false) || false) || false) ≡ a
behind_6 true = refl
behind_6 false = refl

behind_7 : (a : Bool) → (((((((a || false) || false) || false) || false) || false) || false) || false) ≡ a
behind_7 true = refl
behind_7 false = refl

behind_8 : (a : Bool) → ((((((((a || false) || false) || false) || false) || false) || false) || false) || false) ≡ a
behind_8 true = refl
behind_8 false = refl

-- rights that are put together one by one are all of them
together : (a b c d e f g h i : Bool) → both_rights (both_rights (both_rights (both_rights (both_rights (both_rights (both_rights (both_rights (record no_rights { insert = a }) (record no_rights { select = b })) (record no_rights { update = c })) (record no_rights { delete = d })) (record no_rights { truncate = e })) (record no_rights { references = f })) (record no_rights { trigger = g })) (record no_rights { usage = h })) (record no_rights { create = i }) ≡ record { select = b; usage = h; insert = a; references = f; delete = d; trigger = g; truncate = e; update = c; create = i }
together a b c d e f g h i = λ k. record { select = behind_7 b k; usage = behind_1 h k; insert = behind_8 a k; references = behind_3 f k; delete = behind_5 d k; trigger = behind_2 g k; truncate = behind_4 e k; update = behind_6 c k; create = i }

listed_apart : (x : Item) → listed_rights (rights_list x) ≡ both_rights (both_rights (both_rights (both_rights (both_rights (both_rights (both_rights (both_rights (listed_rights (right x.rights.insert x.options.insert Insert)) (listed_rights (right x.rights.select x.options.select Select))) (listed_rights (right x.rights.update x.options.update Update))) (listed_rights (right x.rights.delete x.options.delete Delete))) (listed_rights (right x.rights.truncate x.options.truncate Truncate))) (listed_rights (right x.rights.references x.options.references References))) (listed_rights (right x.rights.trigger x.options.trigger Trigger))) (listed_rights (right x.rights.usage x.options.usage Usage))) (listed_rights (right x.rights.create x.options.create Create))
listed_apart x =
    listed-append (right x.rights.insert x.options.insert Insert ++ right x.rights.select x.options.select Select ++ right x.rights.update x.options.update Update ++ right x.rights.delete x.options.delete Delete ++ right x.rights.truncate x.options.truncate Truncate ++ right x.rights.references x.options.references References ++ right x.rights.trigger x.options.trigger Trigger ++ right x.rights.usage x.options.usage Usage) (right x.rights.create x.options.create Create)
    ∙ ap (λ (z : Rights). both_rights z (listed_rights (right x.rights.create x.options.create Create))) (listed-append (right x.rights.insert x.options.insert Insert ++ right x.rights.select x.options.select Select ++ right x.rights.update x.options.update Update ++ right x.rights.delete x.options.delete Delete ++ right x.rights.truncate x.options.truncate Truncate ++ right x.rights.references x.options.references References ++ right x.rights.trigger x.options.trigger Trigger) (right x.rights.usage x.options.usage Usage))
    ∙ ap (λ (z : Rights). both_rights (both_rights z (listed_rights (right x.rights.usage x.options.usage Usage))) (listed_rights (right x.rights.create x.options.create Create))) (listed-append (right x.rights.insert x.options.insert Insert ++ right x.rights.select x.options.select Select ++ right x.rights.update x.options.update Update ++ right x.rights.delete x.options.delete Delete ++ right x.rights.truncate x.options.truncate Truncate ++ right x.rights.references x.options.references References) (right x.rights.trigger x.options.trigger Trigger))
    ∙ ap (λ (z : Rights). both_rights (both_rights (both_rights z (listed_rights (right x.rights.trigger x.options.trigger Trigger))) (listed_rights (right x.rights.usage x.options.usage Usage))) (listed_rights (right x.rights.create x.options.create Create))) (listed-append (right x.rights.insert x.options.insert Insert ++ right x.rights.select x.options.select Select ++ right x.rights.update x.options.update Update ++ right x.rights.delete x.options.delete Delete ++ right x.rights.truncate x.options.truncate Truncate) (right x.rights.references x.options.references References))
    ∙ ap (λ (z : Rights). both_rights (both_rights (both_rights (both_rights z (listed_rights (right x.rights.references x.options.references References))) (listed_rights (right x.rights.trigger x.options.trigger Trigger))) (listed_rights (right x.rights.usage x.options.usage Usage))) (listed_rights (right x.rights.create x.options.create Create))) (listed-append (right x.rights.insert x.options.insert Insert ++ right x.rights.select x.options.select Select ++ right x.rights.update x.options.update Update ++ right x.rights.delete x.options.delete Delete) (right x.rights.truncate x.options.truncate Truncate))
    ∙ ap (λ (z : Rights). both_rights (both_rights (both_rights (both_rights (both_rights z (listed_rights (right x.rights.truncate x.options.truncate Truncate))) (listed_rights (right x.rights.references x.options.references References))) (listed_rights (right x.rights.trigger x.options.trigger Trigger))) (listed_rights (right x.rights.usage x.options.usage Usage))) (listed_rights (right x.rights.create x.options.create Create))) (listed-append (right x.rights.insert x.options.insert Insert ++ right x.rights.select x.options.select Select ++ right x.rights.update x.options.update Update) (right x.rights.delete x.options.delete Delete))
    ∙ ap (λ (z : Rights). both_rights (both_rights (both_rights (both_rights (both_rights (both_rights z (listed_rights (right x.rights.delete x.options.delete Delete))) (listed_rights (right x.rights.truncate x.options.truncate Truncate))) (listed_rights (right x.rights.references x.options.references References))) (listed_rights (right x.rights.trigger x.options.trigger Trigger))) (listed_rights (right x.rights.usage x.options.usage Usage))) (listed_rights (right x.rights.create x.options.create Create))) (listed-append (right x.rights.insert x.options.insert Insert ++ right x.rights.select x.options.select Select) (right x.rights.update x.options.update Update))
    ∙ ap (λ (z : Rights). both_rights (both_rights (both_rights (both_rights (both_rights (both_rights (both_rights z (listed_rights (right x.rights.update x.options.update Update))) (listed_rights (right x.rights.delete x.options.delete Delete))) (listed_rights (right x.rights.truncate x.options.truncate Truncate))) (listed_rights (right x.rights.references x.options.references References))) (listed_rights (right x.rights.trigger x.options.trigger Trigger))) (listed_rights (right x.rights.usage x.options.usage Usage))) (listed_rights (right x.rights.create x.options.create Create))) (listed-append (right x.rights.insert x.options.insert Insert) (right x.rights.select x.options.select Select))

options_apart : (x : Item) → listed_options (rights_list x) ≡ both_rights (both_rights (both_rights (both_rights (both_rights (both_rights (both_rights (both_rights (listed_options (right x.rights.insert x.options.insert Insert)) (listed_options (right x.rights.select x.options.select Select))) (listed_options (right x.rights.update x.options.update Update))) (listed_options (right x.rights.delete x.options.delete Delete))) (listed_options (right x.rights.truncate x.options.truncate Truncate))) (listed_options (right x.rights.references x.options.references References))) (listed_options (right x.rights.trigger x.options.trigger Trigger))) (listed_options (right x.rights.usage x.options.usage Usage))) (listed_options (right x.rights.create x.options.create Create))
options_apart x =
    options-append (right x.rights.insert x.options.insert Insert ++ right x.rights.select x.options.select Select ++ right x.rights.update x.options.update Update ++ right x.rights.delete x.options.delete Delete ++ right x.rights.truncate x.options.truncate Truncate ++ right x.rights.references x.options.references References ++ right x.rights.trigger x.options.trigger Trigger ++ right x.rights.usage x.options.usage Usage) (right x.rights.create x.options.create Create)
    ∙ ap (λ (z : Rights). both_rights z (listed_options (right x.rights.create x.options.create Create))) (options-append (right x.rights.insert x.options.insert Insert ++ right x.rights.select x.options.select Select ++ right x.rights.update x.options.update Update ++ right x.rights.delete x.options.delete Delete ++ right x.rights.truncate x.options.truncate Truncate ++ right x.rights.references x.options.references References ++ right x.rights.trigger x.options.trigger Trigger) (right x.rights.usage x.options.usage Usage))
    ∙ ap (λ (z : Rights). both_rights (both_rights z (listed_options (right x.rights.usage x.options.usage Usage))) (listed_options (right x.rights.create x.options.create Create))) (options-append (right x.rights.insert x.options.insert Insert ++ right x.rights.select x.options.select Select ++ right x.rights.update x.options.update Update ++ right x.rights.delete x.options.delete Delete ++ right x.rights.truncate x.options.truncate Truncate ++ right x.rights.references x.options.references References) (right x.rights.trigger x.options.trigger Trigger))
    ∙ ap (λ (z : Rights). both_rights (both_rights (both_rights z (listed_options (right x.rights.trigger x.options.trigger Trigger))) (listed_options (right x.rights.usage x.options.usage Usage))) (listed_options (right x.rights.create x.options.create Create))) (options-append (right x.rights.insert x.options.insert Insert ++ right x.rights.select x.options.select Select ++ right x.rights.update x.options.update Update ++ right x.rights.delete x.options.delete Delete ++ right x.rights.truncate x.options.truncate Truncate) (right x.rights.references x.options.references References))
    ∙ ap (λ (z : Rights). both_rights (both_rights (both_rights (both_rights z (listed_options (right x.rights.references x.options.references References))) (listed_options (right x.rights.trigger x.options.trigger Trigger))) (listed_options (right x.rights.usage x.options.usage Usage))) (listed_options (right x.rights.create x.options.create Create))) (options-append (right x.rights.insert x.options.insert Insert ++ right x.rights.select x.options.select Select ++ right x.rights.update x.options.update Update ++ right x.rights.delete x.options.delete Delete) (right x.rights.truncate x.options.truncate Truncate))
    ∙ ap (λ (z : Rights). both_rights (both_rights (both_rights (both_rights (both_rights z (listed_options (right x.rights.truncate x.options.truncate Truncate))) (listed_options (right x.rights.references x.options.references References))) (listed_options (right x.rights.trigger x.options.trigger Trigger))) (listed_options (right x.rights.usage x.options.usage Usage))) (listed_options (right x.rights.create x.options.create Create))) (options-append (right x.rights.insert x.options.insert Insert ++ right x.rights.select x.options.select Select ++ right x.rights.update x.options.update Update) (right x.rights.delete x.options.delete Delete))
    ∙ ap (λ (z : Rights). both_rights (both_rights (both_rights (both_rights (both_rights (both_rights z (listed_options (right x.rights.delete x.options.delete Delete))) (listed_options (right x.rights.truncate x.options.truncate Truncate))) (listed_options (right x.rights.references x.options.references References))) (listed_options (right x.rights.trigger x.options.trigger Trigger))) (listed_options (right x.rights.usage x.options.usage Usage))) (listed_options (right x.rights.create x.options.create Create))) (options-append (right x.rights.insert x.options.insert Insert ++ right x.rights.select x.options.select Select) (right x.rights.update x.options.update Update))
    ∙ ap (λ (z : Rights). both_rights (both_rights (both_rights (both_rights (both_rights (both_rights (both_rights z (listed_options (right x.rights.update x.options.update Update))) (listed_options (right x.rights.delete x.options.delete Delete))) (listed_options (right x.rights.truncate x.options.truncate Truncate))) (listed_options (right x.rights.references x.options.references References))) (listed_options (right x.rights.trigger x.options.trigger Trigger))) (listed_options (right x.rights.usage x.options.usage Usage))) (listed_options (right x.rights.create x.options.create Create))) (options-append (right x.rights.insert x.options.insert Insert) (right x.rights.select x.options.select Select))

-- the rights of the list are those of the item
pub rights_back : (x : Item) → listed_rights (rights_list x) ≡ x.rights
rights_back x =
    listed_apart x
    ∙ (λ k. both_rights (both_rights (both_rights (both_rights (both_rights (both_rights (both_rights (both_rights (listed-insert x.rights.insert x.options.insert k) (listed-select x.rights.select x.options.select k)) (listed-update x.rights.update x.options.update k)) (listed-delete x.rights.delete x.options.delete k)) (listed-truncate x.rights.truncate x.options.truncate k)) (listed-references x.rights.references x.options.references k)) (listed-trigger x.rights.trigger x.options.trigger k)) (listed-usage x.rights.usage x.options.usage k)) (listed-create x.rights.create x.options.create k))
    ∙ together x.rights.insert x.rights.select x.rights.update x.rights.delete x.rights.truncate x.rights.references x.rights.trigger x.rights.usage x.rights.create

-- an option of a right that is there
both_there : (has option : Bool) → implies option has ≡ true → has && option ≡ option
both_there true option e = refl
both_there false true e = cc
both_there false false e = refl

-- nine tests that all pass
nine : (a b c d e f g h i : Bool) → a && (b && (c && (d && (e && (f && (g && (h && i))))))) ≡ true → (a ≡ true) × (b ≡ true) × (c ≡ true) × (d ≡ true) × (e ≡ true) × (f ≡ true) × (g ≡ true) × (h ≡ true) × (i ≡ true)
nine true true true true true true true true true all = (refl, refl, refl, refl, refl, refl, refl, refl, refl)
nine true true true true true true true true false all = cc
nine true true true true true true true false i all = cc
nine true true true true true true false h i all = cc
nine true true true true true false g h i all = cc
nine true true true true false f g h i all = cc
nine true true true false e f g h i all = cc
nine true true false d e f g h i all = cc
nine true false c d e f g h i all = cc
nine false b c d e f g h i all = cc

each_within : (a b : Rights) → is_within a b ≡ true → (implies a.select b.select ≡ true) × (implies a.usage b.usage ≡ true) × (implies a.insert b.insert ≡ true) × (implies a.references b.references ≡ true) × (implies a.delete b.delete ≡ true) × (implies a.trigger b.trigger ≡ true) × (implies a.truncate b.truncate ≡ true) × (implies a.update b.update ≡ true) × (implies a.create b.create ≡ true)
each_within a b all = nine (implies a.select b.select) (implies a.usage b.usage) (implies a.insert b.insert) (implies a.references b.references) (implies a.delete b.delete) (implies a.trigger b.trigger) (implies a.truncate b.truncate) (implies a.update b.update) (implies a.create b.create) all

-- and so are their options
pub options_back : (x : Item) → is_within x.options x.rights ≡ true → listed_options (rights_list x) ≡ x.options
options_back x e =
    let all = each_within x.options x.rights e in
    options_apart x
    ∙ (λ k. both_rights (both_rights (both_rights (both_rights (both_rights (both_rights (both_rights (both_rights (options-insert x.rights.insert x.options.insert k) (options-select x.rights.select x.options.select k)) (options-update x.rights.update x.options.update k)) (options-delete x.rights.delete x.options.delete k)) (options-truncate x.rights.truncate x.options.truncate k)) (options-references x.rights.references x.options.references k)) (options-trigger x.rights.trigger x.options.trigger k)) (options-usage x.rights.usage x.options.usage k)) (options-create x.rights.create x.options.create k))
    ∙ together (x.rights.insert && x.options.insert) (x.rights.select && x.options.select) (x.rights.update && x.options.update) (x.rights.delete && x.options.delete) (x.rights.truncate && x.options.truncate) (x.rights.references && x.options.references) (x.rights.trigger && x.options.trigger) (x.rights.usage && x.options.usage) (x.rights.create && x.options.create)
    ∙ (λ k. record { select = both_there x.rights.select x.options.select all.0 k; usage = both_there x.rights.usage x.options.usage all.1 k; insert = both_there x.rights.insert x.options.insert all.2 k; references = both_there x.rights.references x.options.references all.3 k; delete = both_there x.rights.delete x.options.delete all.4 k; trigger = both_there x.rights.trigger x.options.trigger all.5 k; truncate = both_there x.rights.truncate x.options.truncate all.6 k; update = both_there x.rights.update x.options.update all.7 k; create = both_there x.rights.create x.options.create all.8 k })

pub item_back : (x : Item) → IsItem x → record { rights = listed_rights (rights_list x); options = listed_options (rights_list x) } ≡ x
item_back x is =
    let rights = rights_back x in
    let options = options_back x is.options in
    λ k. record { rights = rights k; options = options k }

-- ---- there are some

some_of : (a b c d e f g h i a1 b1 c1 d1 e1 f1 g1 h1 i1 : Bool) → b || h || a || f || d || g || e || c || i ≡ true → is_empty_list (right a a1 Insert ++ right b b1 Select ++ right c c1 Update ++ right d d1 Delete ++ right e e1 Truncate ++ right f f1 References ++ right g g1 Trigger ++ right h h1 Usage ++ right i i1 Create) ≡ false
some_of true b c d e f g h i a1 b1 c1 d1 e1 f1 g1 h1 i1 some = refl
some_of false true c d e f g h i a1 b1 c1 d1 e1 f1 g1 h1 i1 some = refl
some_of false false true d e f g h i a1 b1 c1 d1 e1 f1 g1 h1 i1 some = refl
some_of false false false true e f g h i a1 b1 c1 d1 e1 f1 g1 h1 i1 some = refl
some_of false false false false true f g h i a1 b1 c1 d1 e1 f1 g1 h1 i1 some = refl
some_of false false false false false true g h i a1 b1 c1 d1 e1 f1 g1 h1 i1 some = refl
some_of false false false false false false true h i a1 b1 c1 d1 e1 f1 g1 h1 i1 some = refl
some_of false false false false false false false true i a1 b1 c1 d1 e1 f1 g1 h1 i1 some = refl
some_of false false false false false false false false true a1 b1 c1 d1 e1 f1 g1 h1 i1 some = refl
some_of false false false false false false false false false a1 b1 c1 d1 e1 f1 g1 h1 i1 some = cc

-- an item that has rights has a list that isn't empty
pub some_rights : (x : Item) → has_rights x.rights ≡ true → is_empty_list (rights_list x) ≡ false
some_rights x some = some_of x.rights.insert x.rights.select x.rights.update x.rights.delete x.rights.truncate x.rights.references x.rights.trigger x.rights.usage x.rights.create x.options.insert x.options.select x.options.update x.options.delete x.options.truncate x.options.references x.options.trigger x.options.usage x.options.create some

-- ---- they are those of the kind

-- the rights that there are on an object of a kind
abbrev pub rights_for : GrantKind → Rights
rights_for on.Table = table_rights
rights_for on.Sequence = sequence_rights
rights_for on.Schema = schema_rights
rights_for on.Type = type_rights

right_fits : (kind : GrantKind) (has option allowed : Bool) (letter : Privilege) → has_privilege kind letter ≡ allowed → implies has allowed ≡ true → list_all (λ r. has_privilege kind r.privilege) (right has option letter) ≡ true
right_fits kind true option true letter e fits = rw e refl
right_fits kind true option false letter e fits = cc
right_fits kind false option allowed letter e fits = refl

has-insert : (kind : GrantKind) → has_privilege kind Insert ≡ (rights_for kind).insert
has-insert on.Table = refl
has-insert on.Sequence = refl
has-insert on.Schema = refl
has-insert on.Type = refl

has-select : (kind : GrantKind) → has_privilege kind Select ≡ (rights_for kind).select
has-select on.Table = refl
has-select on.Sequence = refl
has-select on.Schema = refl
has-select on.Type = refl

has-update : (kind : GrantKind) → has_privilege kind Update ≡ (rights_for kind).update
has-update on.Table = refl
has-update on.Sequence = refl
has-update on.Schema = refl
has-update on.Type = refl

has-delete : (kind : GrantKind) → has_privilege kind Delete ≡ (rights_for kind).delete
has-delete on.Table = refl
has-delete on.Sequence = refl
has-delete on.Schema = refl
has-delete on.Type = refl

has-truncate : (kind : GrantKind) → has_privilege kind Truncate ≡ (rights_for kind).truncate
has-truncate on.Table = refl
has-truncate on.Sequence = refl
has-truncate on.Schema = refl
has-truncate on.Type = refl

has-references : (kind : GrantKind) → has_privilege kind References ≡ (rights_for kind).references
has-references on.Table = refl
has-references on.Sequence = refl
has-references on.Schema = refl
has-references on.Type = refl

has-trigger : (kind : GrantKind) → has_privilege kind Trigger ≡ (rights_for kind).trigger
has-trigger on.Table = refl
has-trigger on.Sequence = refl
has-trigger on.Schema = refl
has-trigger on.Type = refl

has-usage : (kind : GrantKind) → has_privilege kind Usage ≡ (rights_for kind).usage
has-usage on.Table = refl
has-usage on.Sequence = refl
has-usage on.Schema = refl
has-usage on.Type = refl

has-create : (kind : GrantKind) → has_privilege kind Create ≡ (rights_for kind).create
has-create on.Table = refl
has-create on.Sequence = refl
has-create on.Schema = refl
has-create on.Type = refl

pub rights_fit : (kind : GrantKind) (x : Item) → is_within x.rights (rights_for kind) ≡ true → list_all (λ r. has_privilege kind r.privilege) (rights_list x) ≡ true
rights_fit kind x e =
    let all = each_within x.rights (rights_for kind) e in
    tested-append (λ (r : Right). has_privilege kind r.privilege) (right x.rights.insert x.options.insert Insert ++ right x.rights.select x.options.select Select ++ right x.rights.update x.options.update Update ++ right x.rights.delete x.options.delete Delete ++ right x.rights.truncate x.options.truncate Truncate ++ right x.rights.references x.options.references References ++ right x.rights.trigger x.options.trigger Trigger ++ right x.rights.usage x.options.usage Usage) (right x.rights.create x.options.create Create) (tested-append (λ (r : Right). has_privilege kind r.privilege) (right x.rights.insert x.options.insert Insert ++ right x.rights.select x.options.select Select ++ right x.rights.update x.options.update Update ++ right x.rights.delete x.options.delete Delete ++ right x.rights.truncate x.options.truncate Truncate ++ right x.rights.references x.options.references References ++ right x.rights.trigger x.options.trigger Trigger) (right x.rights.usage x.options.usage Usage) (tested-append (λ (r : Right). has_privilege kind r.privilege) (right x.rights.insert x.options.insert Insert ++ right x.rights.select x.options.select Select ++ right x.rights.update x.options.update Update ++ right x.rights.delete x.options.delete Delete ++ right x.rights.truncate x.options.truncate Truncate ++ right x.rights.references x.options.references References) (right x.rights.trigger x.options.trigger Trigger) (tested-append (λ (r : Right). has_privilege kind r.privilege) (right x.rights.insert x.options.insert Insert ++ right x.rights.select x.options.select Select ++ right x.rights.update x.options.update Update ++ right x.rights.delete x.options.delete Delete ++ right x.rights.truncate x.options.truncate Truncate) (right x.rights.references x.options.references References) (tested-append (λ (r : Right). has_privilege kind r.privilege) (right x.rights.insert x.options.insert Insert ++ right x.rights.select x.options.select Select ++ right x.rights.update x.options.update Update ++ right x.rights.delete x.options.delete Delete) (right x.rights.truncate x.options.truncate Truncate) (tested-append (λ (r : Right). has_privilege kind r.privilege) (right x.rights.insert x.options.insert Insert ++ right x.rights.select x.options.select Select ++ right x.rights.update x.options.update Update) (right x.rights.delete x.options.delete Delete) (tested-append (λ (r : Right). has_privilege kind r.privilege) (right x.rights.insert x.options.insert Insert ++ right x.rights.select x.options.select Select) (right x.rights.update x.options.update Update) (tested-append (λ (r : Right). has_privilege kind r.privilege) (right x.rights.insert x.options.insert Insert) (right x.rights.select x.options.select Select) (right_fits kind x.rights.insert x.options.insert (rights_for kind).insert Insert (has-insert kind) all.2) (right_fits kind x.rights.select x.options.select (rights_for kind).select Select (has-select kind) all.0)) (right_fits kind x.rights.update x.options.update (rights_for kind).update Update (has-update kind) all.7)) (right_fits kind x.rights.delete x.options.delete (rights_for kind).delete Delete (has-delete kind) all.4)) (right_fits kind x.rights.truncate x.options.truncate (rights_for kind).truncate Truncate (has-truncate kind) all.6)) (right_fits kind x.rights.references x.options.references (rights_for kind).references References (has-references kind) all.3)) (right_fits kind x.rights.trigger x.options.trigger (rights_for kind).trigger Trigger (has-trigger kind) all.5)) (right_fits kind x.rights.usage x.options.usage (rights_for kind).usage Usage (has-usage kind) all.1)) (right_fits kind x.rights.create x.options.create (rights_for kind).create Create (has-create kind) all.8)
