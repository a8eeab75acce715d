-- Which texts spell which lists of rights, said apart from reading. A list has one written spelling (spell_acl), and may
-- have others: with quotes that it doesn't need.
use Rattle.std.specs.Prelude.{◌≡◌, ◌≢◌, ℕ, ◌⊎◌, List, [], ◌∷◌, ◌++◌, Option, Some, None, true, not}
use Rattle.std.specs.List.{AllZip, flat_map, join_with_byte, list_all}
use Rattle.copy_text.specs.Texts.{IsName}
use Rattle.acl_text.specs.declared.list.AclItem.{AclItem}
use Rattle.acl_text.specs.Acls.{quote, comma, slash, equals, escaping, opening, closing, is_plain, is_special, double_quote, spell_right}

-- a name as it is, of letters, digits and underscores; or in quotes, with inner quotes doubled
abbrev pub SpellsName : List ℕ → List ℕ → Type 0
SpellsName name text = ((text ≡ name) × (list_all is_plain name ≡ true)) ⊎ (text ≡ quote ∷ (flat_map double_quote name ++ quote ∷ []))

-- PUBLIC is the empty name
abbrev pub SpellsGrantee : Option (List ℕ) → List ℕ → Type 0
SpellsGrantee None text = SpellsName [] text
SpellsGrantee (Some name) text = IsName name × SpellsName name text

-- grantee=rights/grantor
pub record SpellsItem (item : AclItem) (text : List ℕ) : Type 0 where
  pub grantee : List ℕ
  pub grantor : List ℕ
  pub split : text ≡ grantee ++ equals ∷ (flat_map spell_right item.rights ++ slash ∷ grantor)
  pub whom : SpellsGrantee item.grantee grantee
  pub whose : SpellsName item.grantor grantor
  pub named : IsName item.grantor

-- within quotes a byte stands as it is, or behind a backslash; a quote and a backslash stand behind one
abbrev pub SpellsInQuotes : List ℕ → List ℕ → Type 0
SpellsInQuotes [] body = body ≡ []
SpellsInQuotes (b ∷ content) body =
    (rest : List ℕ) × SpellsInQuotes content rest × ((body ≡ escaping ∷ b ∷ rest) ⊎ ((body ≡ b ∷ rest) × (b ≢ quote) × (b ≢ escaping)))

-- an element of the array: as it is, without a byte that asks for quotes; or in quotes
abbrev pub SpellsElement : List ℕ → List ℕ → Type 0
SpellsElement content element =
    ((element ≡ content) × (list_all (λ b. not (is_special b)) content ≡ true))
    ⊎ ((body : List ℕ) × (element ≡ quote ∷ (body ++ quote ∷ [])) × SpellsInQuotes content body)

-- items in braces, with a comma between two
pub record SpellsAcl (items : List AclItem) (text : List ℕ) : Type 0 where
  pub elements : List (List ℕ)
  pub split : text ≡ opening ∷ (join_with_byte comma elements ++ closing ∷ [])
  pub each : AllZip (λ item element. (content : List ℕ) × SpellsElement content element × SpellsItem item content) items elements
