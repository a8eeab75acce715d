-- The syntax of statements: which tokens spell a value, which values can be written, and the one text of each.
-- A kind of statement is one line of it, from which its reading, its writing and the laws of both follow.
use Rattle.std.specs.{Prelude.◌≡◌, Prelude.ℕ, Prelude.Bool, Prelude.true, Prelude.false, Prelude.◌&&◌, Prelude.◌||◌, Prelude.List, Prelude.[], Prelude.◌∷◌, Prelude.◌++◌, Prelude.Option, Prelude.Some, Prelude.None, Prelude.if◌then◌else◌, Prelude.codes, Str.str_to_ascii_lowercase}
use Rattle.cat_model.specs.declared.object.QName.{QName}
use Rattle.ddl_spelling.specs.Paths.{path}
use Rattle.ddl_parts.specs.{Lexemes.is_word, Lexemes.is_sign, Parts.Part, Parts.seen as seen_part, Parts.choose, Parts.◌then◌, Parts.◌▸◌, Parts.◌◂◌, Texts.IsPath}
use Rattle.ddl_grammar.specs.{LeafParts.Leaf, LeafParts.leaf_part, LeafParts.leaf_has, LeafParts.LeafFits, LeafParts.leaf_text, OnlyGrammar.table_and}

-- what stands before a token: nothing, a space, a line feed, or one and four spaces; or what stands before the statement
pub data Space : Type 0 where
  none : Space
  blank : Space
  feed : Space
  indent : Space
  given : Space

abbrev pub between : List ℕ → Space → List ℕ
between g none = []
between g blank = codes " "
between g feed = codes "\n"
between g indent = codes "\n    "
between g given = g

-- the signs ( ) , . = and ;
abbrev pub opening : ℕ
opening = 40

abbrev pub closing : ℕ
closing = 41

abbrev pub comma : ℕ
comma = 44

abbrev pub dot : ℕ
dot = 46

abbrev pub equal : ℕ
equal = 61

abbrev pub ending : ℕ
ending = 59

-- A part of a statement: a leaf; a key word, or a sign, and a part behind it; a part, and a sign or a key word behind it;
-- two parts; a part whose values are seen through others, and which each of those is seen through, if it is one; a part behind
-- a key word, or else another part; and the path of a table with a change, behind ONLY where the first part has the change.
pub data Syntax : Type 0 → Type 1 where
  leaf : {A : Type 0} → Space → Leaf A → Syntax A
  led : {A : Type 0} → Space → List ℕ → Syntax A → Syntax A
  signed : {A : Type 0} → Space → ℕ → Syntax A → Syntax A
  ended : {A : Type 0} → Syntax A → Space → ℕ → Syntax A
  worded : {A : Type 0} → Syntax A → Space → List ℕ → Syntax A
  both : {A B : Type 0} → Syntax A → Syntax B → Syntax (A × B)
  seen : {A B : Type 0} → (A → B) → (B → Option A) → Syntax A → Syntax B
  either : {A : Type 0} → Space → List ℕ → Syntax A → Syntax A → Syntax A
  tabled : {A : Type 0} → Syntax A → Syntax A → Syntax (QName × A)

-- ---- reading

abbrev pub key : List ℕ → List ℕ
key w = str_to_ascii_lowercase w

-- which tokens spell which value
unfoldable pub part : {A : Type 0} → Syntax A → Part A
part (leaf gap l) = leaf_part l
part (led gap w s) = is_word (key w) ▸ part s
part (signed gap b s) = is_sign b ▸ part s
part (ended s gap b) = part s ◂ is_sign b
part (worded s gap w) = part s ◂ is_word (key w)
part (both s t) = part s then part t
part (seen f back s) = seen_part f (part s)
part (either gap w s t) = choose (is_word (key w)) (is_word (key w) ▸ part s) (part t)
part (tabled s t) = table_and (part s) (part t)

-- ---- writing

abbrev pub had : {A : Type 0} → (A → Bool) → Option A → Bool
had has None = false
had has (Some v) = has v

-- whether a value is one of the part
unfoldable pub has : {A : Type 0} → Syntax A → A → Bool
has (leaf gap l) v = leaf_has l v
has (led gap w s) v = has s v
has (signed gap b s) v = has s v
has (ended s gap b) v = has s v
has (worded s gap w) v = has s v
has (both s t) v = has s v.0 && has t v.1
has (seen f back s) v = had (has s) (back v)
has (either gap w s t) v = has s v || has t v
has (tabled s t) v = has s v.1 || has t v.1

abbrev pub FitsBack : {A B : Type 0} → (A → B) → (A → Type 0) → B → Option A → Type 0
FitsBack f Fits w None = ⊥
FitsBack f Fits w (Some v) = Fits v × (f v ≡ w)

abbrev pub OneOf : Bool → Type 0 → Type 0 → Type 0
OneOf true P Q = P
OneOf false P Q = Q

-- which values can be written: of two parts, as the first that has the value
unfoldable pub Fits : {A : Type 0} → Syntax A → A → Type 0
Fits (leaf gap l) v = LeafFits l v
Fits (led gap w s) v = Fits s v
Fits (signed gap b s) v = Fits s v
Fits (ended s gap b) v = Fits s v
Fits (worded s gap w) v = Fits s v
Fits (both s t) v = Fits s v.0 × Fits t v.1
Fits (seen f back s) v = FitsBack f (Fits s) v (back v)
Fits (either gap w s t) v = OneOf (has s v) (Fits s v) (Fits t v)
Fits (tabled s t) v = IsPath v.0 × OneOf (has s v.1) (Fits s v.1) (Fits t v.1)

abbrev pub back_pieces : {A : Type 0} → (A → List (List ℕ)) → Option A → List (List ℕ)
back_pieces pieces None = []
back_pieces pieces (Some v) = pieces v

-- a value's text in pieces, with what stands before each token
unfoldable pub pieces : {A : Type 0} → List ℕ → Syntax A → A → List (List ℕ)
pieces g (leaf gap l) v = between g gap ∷ leaf_text l v ∷ []
pieces g (led gap w s) v = between g gap ∷ w ∷ pieces g s v
pieces g (signed gap b s) v = between g gap ∷ (b ∷ []) ∷ pieces g s v
pieces g (ended s gap b) v = pieces g s v ++ (between g gap ∷ (b ∷ []) ∷ [])
pieces g (worded s gap w) v = pieces g s v ++ (between g gap ∷ w ∷ [])
pieces g (both s t) v = pieces g s v.0 ++ pieces g t v.1
pieces g (seen f back s) v = back_pieces (pieces g s) (back v)
pieces g (either gap w s t) v = if has s v then between g gap ∷ w ∷ pieces g s v else pieces g t v
pieces g (tabled s t) v = if has s v.1 then codes " ONLY " ∷ path v.0 ∷ pieces g s v.1 else codes " " ∷ path v.0 ∷ pieces g t v.1

-- ---- in short

-- a key word and what stands behind it
pub record Branch (A : Type 0) : Type 1 where
  pub gap : Space
  pub word : List ℕ
  pub rest : Syntax A

abbrev pub word : {A : Type 0} → List ℕ → Syntax A → Branch A
word w s = record { gap = blank; word = w; rest = s }

abbrev pub behind : {A : Type 0} → Branch A → Syntax A
behind b = led b.gap b.word b.rest

infixr 15 ◌or◌
abbrev pub ◌or◌ : {A : Type 0} → Branch A → Syntax A → Syntax A
b or s = either b.gap b.word b.rest s

-- up to its semicolon
abbrev pub kind : {A B : Type 0} → (A → B) → (B → Option A) → Syntax A → Syntax B
kind f back s = seen f back (ended s none ending)
