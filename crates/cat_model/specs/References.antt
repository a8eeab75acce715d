-- The references of an expression and of a view's body: the relations and types that they need, in the text's order.
-- Names in a schema of the system are none, nor are names with a part that is no name.
use Rattle.std.specs.Prelude.{ℕ, ◌-◌, ◌==◌, Bool, true, false, ◌&&◌, ◌||◌, not, List, [], ◌∷◌, ◌++◌, Option, Some, None, if◌then◌else◌, codes}
use Rattle.std.specs.Option.{is_some}
use Rattle.copy_text.specs.Texts.{is_name}
use Rattle.cat_model.specs.declared.object.QName.{QName}
use Rattle.cat_model.specs.declared.key.Key.{Key}
use Rattle.cat_model.specs.declared.key.Key.TheVariants as key
use Rattle.cat_model.specs.Values.{Bytes}
use Rattle.cat_model.specs.Lexemes.{Lexeme, word, literal, lexemes, is_sign, is_word, is_one_of, same_text, name_in, no_more}

-- a schema of the system's own
abbrev pub is_system : Bytes → Bool
is_system schema = same_text schema (codes "pg_catalog") || same_text schema (codes "information_schema")

-- ---- qualified names

-- the path of these two parts, where both are names and the schema isn't the system's
abbrev pub path_of : Bytes → Bytes → Option QName
path_of schema name =
    if is_name schema && is_name name && not (is_system schema) then Some (record { schema = schema; name = name }) else None

abbrev pub path_of_names : Option Bytes → Option Bytes → Option QName
path_of_names (Some schema) (Some name) = path_of schema name
path_of_names _ _ = None

-- whether no third part follows
abbrev pub no_dot : List Lexeme → Bool
no_dot [] = true
no_dot (x ∷ rest) = not (is_sign 46 x)

-- the path that the qualified name of two parts at the front gives
abbrev pub front_path : List Lexeme → Option QName
front_path (a ∷ dot ∷ b ∷ rest) = if is_sign 46 dot && no_dot rest then path_of_names (name_in a) (name_in b) else None
front_path _ = None

-- the same where nothing stands behind it
abbrev pub whole_path : List Lexeme → Option QName
whole_path (a ∷ dot ∷ b ∷ rest) = if is_sign 46 dot && no_more rest then path_of_names (name_in a) (name_in b) else None
whole_path _ = None

-- the key of a path, where there is one
abbrev pub reference : (QName → Key) → Option QName → List Key
reference kind None = []
reference kind (Some q) = kind q ∷ []

-- ---- in an expression

-- whether `::` and the word regclass stand at the front; with a dot behind it the word would be a schema
abbrev pub casts_to_regclass : List Lexeme → Bool
casts_to_regclass (a ∷ b ∷ w ∷ rest) = is_sign 58 a && is_sign 58 b && is_word (codes "regclass") w && no_dot rest
casts_to_regclass _ = false

-- a literal before `::regclass` names a relation
abbrev pub relation_named : Lexeme → List Lexeme → Option QName
relation_named (literal text) rest = if casts_to_regclass rest then whole_path (lexemes text) else None
relation_named _ rest = None

-- behind `::` a qualified name is a type
abbrev pub type_named : Lexeme → List Lexeme → Option QName
type_named a [] = None
type_named a (b ∷ rest) = if is_sign 58 a && is_sign 58 b then front_path rest else None

abbrev pub cast_references : Lexeme → List Lexeme → List Key
cast_references x rest = reference key.Rel (relation_named x rest) ++ reference key.UserType (type_named x rest)

abbrev pub references_in : List Lexeme → List Key
references_in [] = []
references_in (x ∷ rest) = cast_references x rest ++ references_in rest

-- the references of an expression
unfoldable pub expression_references : Bytes → List Key
expression_references text = references_in (lexemes text)

-- ---- in a view's body

-- the words that end a FROM list
abbrev pub list_ends : List Bytes
list_ends = codes "where" ∷ codes "group" ∷ codes "having" ∷ codes "window" ∷ codes "order" ∷ codes "limit" ∷ codes "offset" ∷ codes "fetch" ∷ codes "for" ∷ codes "union" ∷ codes "intersect" ∷ codes "except" ∷ []

-- functions with a FROM of their own between their brackets
abbrev pub own_from : List Bytes
own_from = codes "extract" ∷ codes "substring" ∷ codes "trim" ∷ codes "overlay" ∷ codes "position" ∷ []

-- a bracket: whether a FROM list is open in it, and whether it is that of a function with a FROM of its own
pub record Bracket : Type 0 where
  pub listing : Bool
  pub own : Bool

abbrev pub no_list : Bracket
no_list = record { listing = false; own = false }

-- Where reading stands: the innermost open bracket and those around it, whether DISTINCT or a function with a FROM of
-- its own stands right before, whether a qualified name here would be a relation, and how many lexemes of such a name
-- are still to come.
pub record Place : Type 0 where
  pub inner : Bracket
  pub outer : List Bracket
  pub distinct : Bool
  pub calls_own : Bool
  pub expects : Bool
  pub passing : ℕ

abbrev pub start : Place
start = record { inner = no_list; outer = []; distinct = false; calls_own = false; expects = false; passing = 0 }

-- behind an opening bracket; behind `(` a relation is still expected where it was
abbrev pub opened : Place → Bool → Place
opened at round =
    record at { inner = record { listing = false; own = at.calls_own }; outer = at.inner ∷ at.outer; expects = at.expects && round }

abbrev pub closed_to : Place → List Bracket → Place
closed_to at [] = record at { inner = no_list; expects = false }
closed_to at (b ∷ bs) = record at { inner = b; outer = bs; expects = false }

-- with a FROM list open in the innermost bracket, or none
abbrev pub listing_now : Place → Bool → Place
listing_now at open_now = record at { inner = record at.inner { listing = open_now }; expects = open_now }

-- with a relation expected, or not
abbrev pub expecting : Place → Bool → Place
expecting at now = record at { expects = now }

-- whether a FROM here begins a list
abbrev pub from_counts : Place → Bool
from_counts at = not at.inner.own && not at.distinct

-- where reading stands behind a lexeme that opens no bracket
abbrev pub walked : Place → Lexeme → Place
walked at x =
    if is_sign 41 x || is_sign 93 x then closed_to at at.outer
    else if is_sign 44 x then expecting at at.inner.listing
    else if is_word (codes "from") x && from_counts at then listing_now at true
    else if is_word (codes "join") x then expecting at true
    else if is_word (codes "only") x || is_word (codes "lateral") x then at
    else if is_one_of list_ends x then listing_now at false
    else expecting at false

-- where it stands behind a lexeme that is no part of a relation's name
abbrev pub moved : Place → Lexeme → Place
moved at x =
    if is_sign 40 x then opened at true
    else if is_sign 91 x then opened at false
    else walked at x

-- the lexeme is then the one before
abbrev pub behind : Place → Lexeme → Place
behind at x = record at { distinct = is_word (codes "distinct") x; calls_own = is_one_of own_from x }

abbrev pub no_bracket : List Lexeme → Bool
no_bracket [] = true
no_bracket (x ∷ rest) = not (is_sign 40 x)

-- whether a qualified name of two parts that no bracket follows stands at the front
abbrev pub is_relation : List Lexeme → Bool
is_relation (a ∷ dot ∷ b ∷ rest) =
    is_some (name_in a) && is_sign 46 dot && is_some (name_in b) && no_dot rest && no_bracket rest
is_relation _ = false

-- where reading stands behind a lexeme, which may begin a relation's name or be a later part of one
abbrev pub place_after : Place → Lexeme → Bool → Place
place_after at x true = behind (record at { expects = false; passing = 2 }) x
place_after at x false = behind (if at.passing == 0 then moved at x else record at { passing = at.passing - 1 }) x

abbrev pub relation_here : Bool → List Lexeme → Option QName
relation_here true lexemes = front_path lexemes
relation_here false lexemes = None

abbrev pub references_from : Place → List Lexeme → List Key
references_from at [] = []
references_from at (x ∷ rest) =
    let relation = at.expects && is_relation (x ∷ rest) in
    cast_references x rest ++ reference key.Rel (relation_here relation (x ∷ rest)) ++ references_from (place_after at x relation) rest

-- the references of a view's body
unfoldable pub view_references : Bytes → List Key
view_references text = references_from start (lexemes text)
