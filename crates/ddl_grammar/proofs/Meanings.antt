-- What laws and texts of statements both start from.
use Rattle.ddl_grammar.proofs.Common.{◌≡◌, true, false, List, Some, codes, ℕ, arith, Ok, Lexeme, is_word, Part, name_value, only_value, other_value, seen, column_name_value, Rights, Granted, Right, Select, Usage, Insert, References, Delete, Trigger, Truncate, Update, Create, Kind, Wanted, only, wanted_first, rights_on, object}
use Rattle.ddl_grammar.specs.declared.rights.Wanted.TheVariants.{All, These}

pub only_is : (t : Lexeme) (v : List ℕ) → only_value t ≡ Ok v → (is_word (codes "only") t ≡ true) × (name_value t ≡ Ok v)
unfolding only_value
only_is t v e = grind arith

pub other_is : (t : Lexeme) (v : List ℕ) → other_value t ≡ Ok v → (is_word (codes "only") t ≡ false) × (name_value t ≡ Ok v)
unfolding other_value
other_is t v e = grind arith

pub column_name_is : (t : Lexeme) (v : List ℕ) → column_name_value t ≡ Ok v → (is_word (codes "constraint") t ≡ false) × (name_value t ≡ Ok v)
unfolding column_name_value
column_name_is t v e = grind arith

abbrev pub right_word : Right → List ℕ
right_word Select = codes "select"
right_word Usage = codes "usage"
right_word Insert = codes "insert"
right_word References = codes "references"
right_word Delete = codes "delete"
right_word Trigger = codes "trigger"
right_word Truncate = codes "truncate"
right_word Update = codes "update"
right_word Create = codes "create"

-- what holds of ALL and of one right alone holds of what begins a list
pub wanted_is : (P : Wanted → Type 0) → P All → ((x : Right) → P (These (only x))) → (ts : List Lexeme) (w : Wanted) → wanted_first ts ≡ Some w → P w
unfolding wanted_first
wanted_is P all one ts w e = grind arith

abbrev pub object_on : Wanted → Kind → Part (Granted × Rights)
object_on w k = seen (λ o. (o, rights_on w k)) (object k)
