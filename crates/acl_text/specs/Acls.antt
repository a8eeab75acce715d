-- A list of rights as a text: an array literal of items, each as grantee=rights/grantor.
-- https://www.postgresql.org/docs/16/ddl-priv.html and https://www.postgresql.org/docs/16/arrays.html
use Rattle.std.specs.Prelude.{◌≡◌, ℕ, Result, Ok, Err, List, [], ◌∷◌, ◌++◌, length, take, drop, Option, Some, None, Bool, true, false, not, nat_le, ◌==◌, ◌&&◌, ◌||◌, if◌then◌else◌}
use Rattle.std.specs.List.{prefix_len, flat_map, list_all, AllByRecursion}
use Rattle.std.specs.Str.{bytes_eq}
use Rattle.copy_text.specs.Texts.{IsName, is_name}
use Rattle.acl_text.specs.declared.rights.Privilege.{Privilege}
use Rattle.acl_text.specs.declared.rights.Privilege.TheVariants.{Insert, Select, Update, Delete, Truncate, References, Trigger, Usage, Create}
use Rattle.acl_text.specs.declared.rights.Right.{Right}
use Rattle.acl_text.specs.declared.list.AclItem.{AclItem}
use Rattle.acl_text.specs.declared.reading.AclError.{AclError}
use Rattle.acl_text.specs.declared.reading.AclError.TheVariants.{NotAnAcl, Memory}
use Rattle.acl_text.specs.declared.reading.Effect.{Effect}
use Rattle.acl_text.specs.declared.reading.Effect.TheVariants.{Keep, Cut, Skip}
use Rattle.acl_text.specs.declared.reading.State.{State}
use Rattle.acl_text.specs.declared.reading.State.TheVariants.{Start, Bare, Quoted, Escaped, Closed, Done, Failed}

abbrev pub quote : ℕ
quote = 34

abbrev pub star : ℕ
star = 42

abbrev pub comma : ℕ
comma = 44

abbrev pub slash : ℕ
slash = 47

abbrev pub equals : ℕ
equals = 61

abbrev pub escaping : ℕ
escaping = 92

abbrev pub opening : ℕ
opening = 123

abbrev pub closing : ℕ
closing = 125

infixl 10 ◌>>=◌
abbrev pub ◌>>=◌ : {A B : Type 0} → Option A → (A → Option B) → Option B
(Some x) >>= f = f x
None >>= f = None

-- ---- rights: letters, each with a star behind it where it has the grant option

abbrev pub privilege_letter : Privilege → ℕ
privilege_letter Insert = 97
privilege_letter Select = 114
privilege_letter Update = 119
privilege_letter Delete = 100
privilege_letter Truncate = 68
privilege_letter References = 120
privilege_letter Trigger = 116
privilege_letter Usage = 85
privilege_letter Create = 67

abbrev pub privilege_of : ℕ → Option Privilege
privilege_of b =
    if b == 97 then Some Insert
    else if b == 114 then Some Select
    else if b == 119 then Some Update
    else if b == 100 then Some Delete
    else if b == 68 then Some Truncate
    else if b == 120 then Some References
    else if b == 116 then Some Trigger
    else if b == 85 then Some Usage
    else if b == 67 then Some Create
    else None

abbrev pub starts_with_star : List ℕ → Bool
starts_with_star [] = false
starts_with_star (b ∷ rest) = b == star

abbrev pub right_before : Option Privilege → Bool → Option (List Right) → Option (List Right)
right_before (Some privilege) option (Some rights) = Some (record { privilege = privilege; grant_option = option } ∷ rights)
right_before (Some privilege) option None = None
right_before None option rights = None

abbrev pub after_star : List ℕ → List ℕ
after_star [] = []
after_star (b ∷ rest) = if b == star then rest else b ∷ rest

-- the rights that the rest of the letters spell, whose first byte is a star that was taken already or not
unfoldable pub rights_from : Bool → List ℕ → Option (List Right)
rights_from taken [] = Some []
rights_from true (b ∷ rest) = rights_from false rest
rights_from false (b ∷ rest) = right_before (privilege_of b) (starts_with_star rest) (rights_from (starts_with_star rest) rest)

abbrev pub rights_of : List ℕ → Option (List Right)
rights_of letters = rights_from false letters

abbrev pub spell_right : Right → List ℕ
spell_right right = privilege_letter right.privilege ∷ (if right.grant_option then star ∷ [] else [])

-- ---- names: as they are, or in quotes with inner quotes doubled

-- letters, digits and the underscore
abbrev pub is_plain : ℕ → Bool
is_plain b = (nat_le 48 b && nat_le b 57) || (nat_le 65 b && nat_le b 90) || (nat_le 97 b && nat_le b 122) || b == 95

abbrev pub onto_name : ℕ → Option (List ℕ × List ℕ) → Option (List ℕ × List ℕ)
onto_name b None = None
onto_name b (Some read) = Some (b ∷ read.0, read.1)

abbrev pub onto_name_unless : Bool → ℕ → Option (List ℕ × List ℕ) → Option (List ℕ × List ℕ)
onto_name_unless true b read = read
onto_name_unless false b read = onto_name b read

-- the rest of a quoted name and what follows its last quote; a quote was just read or not
unfoldable pub quoted_name : Bool → List ℕ → Option (List ℕ × List ℕ)
quoted_name false [] = None
quoted_name true [] = Some ([], [])
quoted_name false (b ∷ rest) = onto_name_unless (b == quote) b (quoted_name (b == quote) rest)
quoted_name true (b ∷ rest) = if b == quote then onto_name quote (quoted_name false rest) else Some ([], b ∷ rest)

-- the bytes of the name that stands first, and what follows it
unfoldable pub name_at : List ℕ → Option (List ℕ × List ℕ)
name_at [] = Some ([], [])
name_at (b ∷ rest) =
    if b == quote then quoted_name false rest
    else Some (take (prefix_len is_plain (b ∷ rest)) (b ∷ rest), drop (prefix_len is_plain (b ∷ rest)) (b ∷ rest))

abbrev pub double_quote : ℕ → List ℕ
double_quote b = if b == quote then quote ∷ quote ∷ [] else b ∷ []

unfoldable pub spell_name : List ℕ → List ℕ
spell_name name = if list_all is_plain name then name else quote ∷ (flat_map double_quote name ++ quote ∷ [])

-- ---- items

-- what follows a byte that has to stand first
abbrev pub behind : ℕ → List ℕ → Option (List ℕ)
behind b [] = None
behind b (c ∷ rest) = if c == b then Some rest else None

-- PUBLIC has no name
abbrev pub grantee_of : List ℕ → Option (Option (List ℕ))
grantee_of [] = Some None
grantee_of (b ∷ rest) = if is_name (b ∷ rest) then Some (Some (b ∷ rest)) else None

-- a name with nothing behind it
abbrev pub last_name : List ℕ × List ℕ → Option (List ℕ)
last_name read = if is_name read.0 && length read.1 == 0 then Some read.0 else None

-- how many bytes stand before the first slash
abbrev pub slash_at : List ℕ → ℕ
slash_at bytes = prefix_len (λ b. not (b == slash)) bytes

-- the item that a text spells
unfoldable pub item_of : List ℕ → Option AclItem
item_of text = do
  grantee ← name_at text
  whom ← grantee_of grantee.0
  letters ← behind equals grantee.1
  rights ← rights_of (take (slash_at letters) letters)
  end ← behind slash (drop (slash_at letters) letters)
  grantor ← name_at end
  whose ← last_name grantor
  Some (record { grantee = whom; rights = rights; grantor = whose })

abbrev pub spell_grantee : Option (List ℕ) → List ℕ
spell_grantee None = []
spell_grantee (Some name) = spell_name name

abbrev pub spell_item : AclItem → List ℕ
spell_item item = spell_grantee item.grantee ++ equals ∷ (flat_map spell_right item.rights ++ slash ∷ spell_name item.grantor)

-- ---- the array literal: elements with commas between them, up to a closing brace

-- bytes that an element has only in quotes
abbrev pub is_special : ℕ → Bool
is_special b = b == quote || b == comma || b == escaping || b == opening || b == closing

-- where a place is: at the start of an element, in a bare one, in a quoted one, behind a backslash there, behind its
-- last quote, behind the closing brace, or behind something that no list has
abbrev pub after_element : ℕ → State
after_element b = if b == comma then Start else if b == closing then Done else Failed

abbrev pub next_state : State → ℕ → State
next_state Start b = if b == quote then Quoted else if is_special b then after_element b else Bare
next_state Bare b = if is_special b then after_element b else Bare
next_state Quoted b = if b == quote then Closed else if b == escaping then Escaped else Quoted
next_state Escaped b = Quoted
next_state Closed b = after_element b
next_state Done b = Failed
next_state Failed b = Failed

-- what a byte is to the elements: one of an element's, the comma before the next, or neither
abbrev pub effect_of : State → ℕ → Effect
effect_of Start b = if is_special b then (if b == comma then Cut else Skip) else Keep
effect_of Bare b = if is_special b then (if b == comma then Cut else Skip) else Keep
effect_of Quoted b = if b == quote || b == escaping then Skip else Keep
effect_of Escaped b = Keep
effect_of Closed b = if b == comma then Cut else Skip
effect_of Done b = Skip
effect_of Failed b = Skip

abbrev pub byte_before : Effect → ℕ → Option (List ℕ × List (List ℕ)) → Option (List ℕ × List (List ℕ))
byte_before effect b None = None
byte_before Keep b (Some read) = Some (b ∷ read.0, read.1)
byte_before Cut b (Some read) = Some ([], read.0 ∷ read.1)
byte_before Skip b (Some read) = Some read

abbrev pub at_end : State → Option (List ℕ × List (List ℕ))
at_end Done = Some ([], [])
at_end Start = None
at_end Bare = None
at_end Quoted = None
at_end Escaped = None
at_end Closed = None
at_end Failed = None

-- what the elements hold from a place on: the rest of the first of them, and the others
unfoldable pub elements_from : State → List ℕ → Option (List ℕ × List (List ℕ))
elements_from state [] = at_end state
elements_from state (b ∷ rest) = byte_before (effect_of state b) b (elements_from (next_state state b) rest)

-- elements, and the bytes so far of the next one, before what stands behind
abbrev pub elements_before : List (List ℕ) → List ℕ → Option (List ℕ × List (List ℕ)) → Option (List (List ℕ))
elements_before done begun None = None
elements_before done begun (Some read) = Some (done ++ (begun ++ read.0) ∷ read.1)

-- what the elements hold of a text behind the opening brace
abbrev pub elements_of : List ℕ → Option (List (List ℕ))
elements_of text = elements_before [] [] (elements_from Start text)

abbrev pub escape_byte : ℕ → List ℕ
escape_byte b = if b == quote || b == escaping then escaping ∷ b ∷ [] else b ∷ []

-- an element is written in quotes where it has a special byte
unfoldable pub spell_element : List ℕ → List ℕ
spell_element text = if list_all (λ b. not (is_special b)) text then text else quote ∷ (flat_map escape_byte text ++ quote ∷ [])

-- ---- the whole text

-- the items that texts spell, each one
unfoldable pub items_of : List (List ℕ) → Option (List AclItem)
items_of [] = Some []
items_of (text ∷ more) = do
  item ← item_of text
  others ← items_of more
  Some (item ∷ others)

-- the list of rights that a text spells
unfoldable pub acl_of : List ℕ → Option (List AclItem)
acl_of text = do
  rest ← behind opening text
  if bytes_eq rest (closing ∷ []) then Some [] else elements_of rest >>= items_of

-- ---- the one spelling that is written

-- the first element, and each other with a comma before it
abbrev pub spell_items : List AclItem → List ℕ
spell_items [] = []
spell_items (item ∷ more) = spell_element (spell_item item) ++ flat_map (λ other. comma ∷ spell_element (spell_item other)) more

unfoldable pub spell_acl : List AclItem → List ℕ
spell_acl items = opening ∷ (spell_items items ++ closing ∷ [])

-- an item that can be written
abbrev pub IsGrantee : Option (List ℕ) → Type 0
IsGrantee None = Unit {0}
IsGrantee (Some name) = IsName name

pub record IsAclItem (item : AclItem) : Type 0 where
  pub grantee : IsGrantee item.grantee
  pub grantor : IsName item.grantor

-- a list of rights that can be written: each of its items can
abbrev pub IsAcl : List AclItem → Type 0
IsAcl items = AllByRecursion IsAclItem items

-- What a call returned, seen by view, is what reading gives, unless memory ran out.
abbrev pub FailsAcl : {Y : Type 0} → AclError → Option Y → Type 0
FailsAcl NotAnAcl read = read ≡ None
FailsAcl Memory read = Unit {0}

abbrev pub GivesAcl : {X Y : Type 0} → (X → Y) → Result X AclError → Option Y → Type 0
GivesAcl view (Ok x) read = read ≡ Some (view x)
GivesAcl view (Err e) read = FailsAcl e read
