-- A path is read where a literal is.
use Rattle.ddl_relations.proofs.Common.{arith, ◌≡◌, ℕ, List, drop, Ok, Err, QName, Lexeme, literal, Fails, ReadError, path_in, path_value, GivesPath, literal_path}

abbrev Place : Type 0
Place = List Lexeme

-- a literal that was read, and the path in it or none
pub path_is_read : (ts rest : Place) (text : List ℕ) (q : QName) → literal.read ts ≡ Ok (text, rest) → path_in text ≡ Ok q → literal_path.read ts ≡ Ok (q, rest)
unfolding path_value
path_is_read ts rest text q e is = grind arith

-- the same of what the code's readers answer
pub literal_fails : (ts : Place) (at : ℕ) (error : ReadError) → Fails ts error (literal.read (drop at ts)) → Fails ts error (literal_path.read (drop at ts))
unfolding path_value
literal_fails ts at error e = grind arith

pub path_fails : (ts : Place) (at end : ℕ) (text : List ℕ) (error : ReadError) → literal.read (drop at ts) ≡ Ok (text, drop end ts) → GivesPath at (Err error) (path_in text) → Fails ts error (literal_path.read (drop at ts))
unfolding path_value
path_fails ts at end text error e is = grind arith
