-- A path in a literal: it is UTF-8, and read back where it is a whole text.
use Rattle.ddl_relation_texts.proofs.Common.{◌≡◌, ℕ, Bool, List, [], ◌∷◌, ◌++◌, append-nil, Result, Ok, Err, refl, sym, ap, subst, ◌∙◌, arith, IsUtf8, is_utf8, chars, encode, and_parts, IsUtf8-append, IsUtf8-from_is_utf8, written_name, token_at, written_kind, IsName, QName, Lexeme, is_sign, literal_value, qualified, lexemes, is_sound, collected, token_sound, path, path_in, path_of, path_value, literal_path, IsPath, have_come, Stood, placed, NoSemicolon, collects_all, name_token, sign_token, Gap, none, a_name, is_single, name_means, name_no_sign, Written, literal_said, path_as}
use Rattle.ddl_forms.proofs.Tokens.{a_sign}
use Rattle.ddl_part_laws.proofs.PathLaws.{path_found, path_only}

pub name_utf8 : (n : List ℕ) → IsName n → IsUtf8 (written_name n)
unfolding is_sound
name_utf8 n is =
    let h = (a_name n [] none is.utf8 refl).token [] [] refl in
    IsUtf8-from_is_utf8 (written_name n) (ap is_utf8 (sym h.spelled) ∙ (and_parts _ _ (token_sound (written_name n ++ []) 0 (token_at (written_kind n) 0 (written_name n)) (omega arith) h.found)).1)

pub path_utf8 : (q : QName) → IsPath q → IsUtf8 (path q)
unfolding path is_utf8 chars encode
path_utf8 q is = IsUtf8-append (written_name q.schema) (46 ∷ written_name q.name) (name_utf8 q.schema is.0) (IsUtf8-append (46 ∷ []) (written_name q.name) (IsUtf8-from_is_utf8 (46 ∷ []) refl) (name_utf8 q.name is.1))

abbrev path_tokens : QName → List Lexeme
path_tokens q = name_token [] q.schema ∷ sign_token [] 46 ∷ name_token [] q.name ∷ []

-- a written path is read as it, where it is a whole text
path_is_found : (q : QName) → IsPath q → path_in (path q) ≡ Ok q
unfolding is_sign path is_single
path_is_found q is =
    let path_plain : (q : QName) → NoSemicolon (path_tokens q) = λ q. (name_no_sign 59 q.schema, (refl, (name_no_sign 59 q.name, tt))) in
    let path_stands : (q : QName) → IsPath q → Stood (path_tokens q) =
    λ q is. (a_name q.schema (46 ∷ (written_name q.name ++ [])) none is.0.utf8 refl, (a_sign 46 (written_name q.name ++ []) none refl, (a_name q.name [] none is.1.utf8 refl, tt))) in
    let path_spells : (q : QName) → IsPath q → qualified.Spells q (placed 0 (path_tokens q)) =
    λ q is. ((q.schema, q.name), refl, (_ ∷ [], _ ∷ _ ∷ [], refl, (_, refl, name_means q.schema is.0 _ refl refl), ((tt, q.name), refl, (_ ∷ [], _ ∷ [], refl, (_, refl, refl), (_, refl, name_means q.name is.1 _ refl refl))))) in
    let c = collects_all (path q) (path_tokens q) (ap (λ (x : List ℕ). written_name q.schema ++ (46 ∷ x)) (sym (append-nil (written_name q.name)))) (path_stands q is) (path_plain q) in
    path_only (path q) q (c.fault, subst (qualified.Spells q) (sym c.tokens) (path_spells q is))

pub path_read : (t : Lexeme) (q : QName) → path_value t ≡ Ok q → IsPath q
unfolding path_value
path_read t q = by (literal_value t)
  where
    by : (o : Result (List ℕ) Bool) → path_of o ≡ Ok q → IsPath q
    by (Ok text) e = (path_as none).made q (lexemes text (collected text 0).pieces) _ (have_come text 0 (omega arith)) (path_found text q e).1
    by (Err long) e = absurd cc

pub path_means : (q : QName) → IsPath q → (t : Lexeme) → literal_value t ≡ Ok (path q) → path_value t ≡ Ok q
unfolding path_value
path_means q is t e = ap path_of e ∙ path_is_found q is

abbrev pub literal_path_as : {g : List ℕ} → Gap g → Written literal_path
literal_path_as gap = literal_said gap IsPath path path_utf8 path_means path_read
