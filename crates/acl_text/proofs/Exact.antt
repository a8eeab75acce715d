-- A text reads as a list of rights exactly where it spells the list, and what is written for a list spells it.
use Rattle.std.proofs.Common.{map, ◌≡◌, ◌≢◌, ℕ, Bool, true, false, cond, eqb, List, [], ◌∷◌, ◌++◌, Option, Some, None, ◌↔◌, refl, sym, ap, ◌∙◌, inl, inr, ◌⊎◌}
use Rattle.std.specs.Prelude.{◌||◌}
use Rattle.std.specs.List.{AllZip, flat_map, join_with_byte, list_all}
use Rattle.std.proofs.lemmas.List.Folds.{flat_map-map}
use Rattle.acl_text.specs.declared.list.AclItem.{AclItem}
use Rattle.acl_text.specs.Acls.{IsAcl, IsAclItem, IsGrantee, acl_of, closing, comma, double_quote, escape_byte, escaping, is_plain, opening, quote, spell_acl, spell_element, spell_grantee, spell_item, spell_items, spell_name}
use Rattle.acl_text.specs.Spells.{SpellsName, SpellsGrantee, SpellsItem, SpellsInQuotes, SpellsElement, SpellsAcl}
use Rattle.acl_text.proofs.SpellingLemmas.{NameTests}
use Rattle.acl_text.proofs.ElementLemmas.{joined, SpellsEntry, differs_from, are_bare}
use Rattle.acl_text.proofs.ReadIsSpelled.{acl_read}
use Rattle.acl_text.proofs.SpelledIsRead.{acl_is_read}

pub acl_exact : NameTests → (items : List AclItem) (text : List ℕ) → (acl_of text ≡ Some items) ↔ SpellsAcl items text
acl_exact tests items text = (acl_read tests text items, λ is. acl_is_read tests items is.elements text is.split is.each)

name_spells : (name : List ℕ) → SpellsName name (spell_name name)
unfolding spell_name
name_spells name = by (list_all is_plain name) refl
  where
    by : (plain : Bool) → list_all is_plain name ≡ plain → SpellsName name (cond plain name (quote ∷ (flat_map double_quote name ++ quote ∷ [])))
    by true is = inl (refl, is)
    by false is = inr refl

grantee_spells : (grantee : Option (List ℕ)) → IsGrantee grantee → SpellsGrantee grantee (spell_grantee grantee)
grantee_spells None is = inl (refl, refl)
grantee_spells (Some name) is = (is, name_spells name)

item_spells : (item : AclItem) → IsAclItem item → SpellsItem item (spell_item item)
item_spells item is = record {
  grantee = spell_grantee item.grantee;
  grantor = spell_name item.grantor;
  split = refl;
  whom = grantee_spells item.grantee is.grantee;
  whose = name_spells item.grantor;
  named = is.grantor;
}

escaped_spells : (text : List ℕ) → SpellsInQuotes text (flat_map escape_byte text)
escaped_spells [] = refl
escaped_spells (b ∷ text) = (flat_map escape_byte text, escaped_spells text, by (eqb b quote) (eqb b escaping) refl refl)
  where
    by : (is is_too : Bool) → eqb b quote ≡ is → eqb b escaping ≡ is_too → (cond (is || is_too) (escaping ∷ b ∷ []) (b ∷ []) ++ flat_map escape_byte text ≡ escaping ∷ b ∷ flat_map escape_byte text)
        ⊎ ((cond (is || is_too) (escaping ∷ b ∷ []) (b ∷ []) ++ flat_map escape_byte text ≡ b ∷ flat_map escape_byte text) × (b ≢ quote) × (b ≢ escaping))
    by true is_too here other = inl refl
    by false true here other = inl refl
    by false false here other = inr (refl, differs_from b quote here, differs_from b escaping other)

element_spells : (text : List ℕ) → SpellsElement text (spell_element text)
unfolding spell_element
element_spells text = by (are_bare text) refl
  where
    by : (bare : Bool) → are_bare text ≡ bare → SpellsElement text (cond bare text (quote ∷ (flat_map escape_byte text ++ quote ∷ [])))
    by true is = inl (refl, is)
    by false is = inr (flat_map escape_byte text, refl, escaped_spells text)

abbrev element_of : AclItem → List ℕ
element_of item = spell_element (spell_item item)

written_entries : (items : List AclItem) → IsAcl items → AllZip SpellsEntry items (map element_of items)
written_entries [] all = tt
written_entries (item ∷ more) all = ((spell_item item, element_spells (spell_item item), item_spells item all.0), written_entries more all.1)

written_elements : (items : List AclItem) → spell_items items ≡ join_with_byte comma (map element_of items)
written_elements [] = refl
written_elements (item ∷ more) =
    ap (λ (l : List ℕ). element_of item ++ l) (sym (flat_map-map (λ (e : List ℕ). comma ∷ e) element_of more)) ∙ sym (joined (element_of item) (map element_of more))

acl_spells : (items : List AclItem) → IsAcl items → SpellsAcl items (spell_acl items)
unfolding spell_acl
acl_spells items all = record {
  elements = map element_of items;
  split = ap (λ (l : List ℕ). opening ∷ (l ++ closing ∷ [])) (written_elements items);
  each = written_entries items all;
}

pub written_is_read : NameTests → (items : List AclItem) → IsAcl items → acl_of (spell_acl items) ≡ Some items
written_is_read tests items all = (acl_exact tests items (spell_acl items)).1 (acl_spells items all)
