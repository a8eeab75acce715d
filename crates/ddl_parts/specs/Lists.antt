-- Lists with commas between their items.
use Rattle.std.specs.Prelude.{Bool, true, false, ◌||◌, List}
use Rattle.ddl_parts.specs.{Lexemes.Lexeme, Lexemes.is_sign, Parts.Part, Parts.Items, Parts.many, Parts.◌▸◌}

abbrev pub comma : Lexeme → Bool
comma = is_sign 44

-- the tokens with which an item begins; the flag says that one was read before it
abbrev pub item_begins : (Lexeme → Bool) → Bool → Lexeme → Bool
item_begins first true t = comma t
item_begins first false t = first t

abbrev pub item_of : {A : Type 0} → Part A → Bool → Part A
item_of p true = comma ▸ p
item_of p false = p

-- items with commas between them; `first` has each token with which the first may begin
abbrev pub listing : {A : Type 0} → (Lexeme → Bool) → Part A → Items A
listing first p = record {
  State = Bool;
  start = false;
  more = item_begins first;
  item = item_of p;
  next = λ behind v. true;
}

-- items with commas between them, or none
abbrev pub listed : {A : Type 0} → (Lexeme → Bool) → Part A → Part (List A)
listed first p = many (λ t. first t || (comma t || p.goes_on t)) (listing first p)
