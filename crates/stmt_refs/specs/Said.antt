-- What a lexeme of the code says, as the definitions of references see it.
use Rattle.stmt_refs.specs.declared.lexeme.Lexeme.{Lexeme}
use Rattle.stmt_refs.specs.declared.lexeme.Lexeme.TheVariants.{Word, Quoted, Literal, Number, Sign, Other}
use Rattle.cat_model.specs.Lexemes as says

abbrev pub said : Lexeme → says.Lexeme
said (Word w) = says.word w.items
said (Quoted w) = says.quoted w.items
said (Literal text) = says.literal text.items
said (Number digits) = says.number digits.items
said (Sign b) = says.sign b
said Other = says.other
