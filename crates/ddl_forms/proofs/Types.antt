-- A type is written with the tokens that it has: words with those of their text, a path with three; and what is read of
-- a text as a type can be written.
use Rattle.ddl_forms.proofs.Common.{◌≡◌, ℕ, Bool, true, false, cond, List, [], ◌∷◌, ◌++◌, append-nil, Some, None, Result, Ok, Err, is_ok, refl, sym, ap, subst, ◌∙◌, arith, TokenKind, name_of, is_keyword_of, IsName, QName, TypeName, Lexeme, spelled, source, is_sign, is_sign_kind, is_word, run, Runs, name_in, name_value, qualified, TypeSpot, Begin, Path, typing, type_step, type_done, is_type_word, is_number, if_name, named, type_of, type_part, path, IsPath, IsType, passes_true as passed, run_none}
use Rattle.ddl_spelling.specs.Tables.{type_text}
use Rattle.ddl_forms.proofs.{Behind.Words, Behind.Safe, Behind.admits, Behind.admitted, Kept.AllCame, Tokens.Gap, Tokens.value_name, RunTexts.plain_runs, RunTexts.IsPlainMachine, RunTexts.not_some, RunTexts.words, RunTexts.run_read, Putting.Follows, Putting.IsPut, Putting.same_text, Putting.put_as, Written.Written, Written.leaf_as, Written.path_as, Written.run_put}
use Rattle.cat_model.specs.declared.type_name.TypeName.TheVariants as type_name

-- ---- the machine

typing_plain : IsPlainMachine typing
unfolding is_keyword_of is_number is_sign is_type_word is_word name_in name_of name_value type_done type_step
typing_plain = grind arith

-- ---- words and paths

-- whether tokens that say this are a path
abbrev has_dot : List (TokenKind × List ℕ) → Bool
has_dot (a ∷ b ∷ c ∷ rest) = is_sign_kind 46 b.0
has_dot _ = false

abbrev path_of : List Lexeme → QName
path_of (a ∷ dot ∷ b ∷ rest) = record { schema = named (name_value a); name = named (name_value b) }
path_of _ = record { schema = []; name = [] }

abbrev by_dot : List Lexeme → Bool → TypeName
by_dot ts b = cond b (type_name.Path (path_of ts)) (type_name.Words (source ts))

type_by : (ts : List Lexeme) → type_of ts ≡ by_dot ts (has_dot (words ts))
unfolding type_of is_sign
type_by ts = grind arith

words_by : (ts : List Lexeme) (v : List ℕ) → has_dot (words ts) ≡ false → source ts ≡ v → type_of ts ≡ type_name.Words v
words_by ts v isnt whole = type_by ts ∙ ap (by_dot ts) isnt ∙ ap type_name.Words whole

-- ---- the three tokens of a path

path_runs : (a dot b : Lexeme) (q : QName) → is_sign 46 dot ≡ true → name_value a ≡ Ok q.schema → name_value b ≡ Ok q.name → Runs typing (a ∷ dot ∷ b ∷ [])
unfolding type_done type_step
path_runs a dot b q e f g = record {
  last = Path;
  runs = (grind arith) ∙ ap (λ (r : Result (List ℕ) Bool). cond (is_ok r) (if_name (name_value b) Path) None) f ∙ ap (λ (r : Result (List ℕ) Bool). cond true (if_name r Path) None) g;
  done = refl;
}

path_names : (ts : List Lexeme) (last : TypeSpot) → run typing (Some Begin) ts ≡ Some last → has_dot (words ts) ≡ true → IsPath (path_of ts)
unfolding is_sign type_step
path_names (a ∷ dot ∷ b ∷ rest) last e is = by (name_value a) (name_value b) refl refl (sym (grind arith) ∙ e)
  where
    by : (x y : Result (List ℕ) Bool) → name_value a ≡ x → name_value b ≡ y → run typing (cond (is_ok x) (if_name y Path) None) rest ≡ Some last → IsName (named x) × IsName (named y)
    by (Ok m) (Ok n) f g h = (value_name a m f, value_name b n g)
    by (Ok m) (Err long) f g h = absurd (not_some last (run typing None rest) h (run_none typing rest))
    by (Err long) y f g h = absurd (not_some last (run typing None rest) h (run_none typing rest))
path_names ts last e is = absurd cc

-- ---- a type's text

-- the tokens of a path are a type
path_types : (q : QName) (ts : List Lexeme) → qualified.Spells q ts → type_part.Spells (type_name.Path q) ts
unfolding type_part type_of
path_types q ts h =
    let s = h.2 in
    let d = s.4 in
    let m = d.2 in
    let a = s.3.0 in
    let point = m.3.0 in
    let b = m.4.0 in
    let tokens : ts ≡ a ∷ point ∷ b ∷ [] = rw (s.2, s.3.1, m.2, m.3.1, m.4.1) refl in
    let dotted : is_sign 46 point ≡ true = passed d.0.0 (is_sign 46 point) m.3.2 in
    let schema : name_value a ≡ Ok q.schema = s.3.2 ∙ ap (λ (p : QName). Ok p.schema) (sym h.1) in
    let name : name_value b ≡ Ok q.name = m.4.2 ∙ ap (λ n. Ok n) (sym d.1) ∙ ap (λ (p : QName). Ok p.name) (sym h.1) in
    subst (type_part.Spells (type_name.Path q)) (sym tokens) (_, sym (rw (dotted, schema, name) refl), (refl, path_runs a point b q dotted schema name))

pub type_put : {g : List ℕ} (gap : Gap g) (ty : TypeName) (others : List Lexeme) → IsType ty → Follows others → admits Safe (spelled others) ≡ true → IsPut type_part ty (g ++ type_text ty) others
unfolding type_part type_text
type_put gap (type_name.Words v) others is follows e =
    run_put (plain_runs typing_plain) type_part (type_name.Words v) v others gap is.run
    (λ ts runs whole same. (ts, sym (words_by ts v (ap has_dot same ∙ (grind (arith, type_by))) whole), (refl, runs))) follows e
type_put {g} gap (type_name.Path q) others is follows e =
    let k = (path_as gap).put q is others follows (admitted Words Safe (spelled others) refl e) in
    put_as qualified type_part q (type_name.Path q) (g ++ path q) others (same_text (g ++ (path q ++ [])) (g ++ path q) (ap (λ (x : List ℕ). g ++ x) (append-nil (path q))) k) (path_types q)

-- ---- a type that was read

-- what tokens of a text spell is a type
pub type_is_read : (ty : TypeName) (ts : List Lexeme) (r : List ℕ) → AllCame ts r → type_part.Spells ty ts → IsType ty
unfolding type_part
type_is_read ty ts r came spells = grind (arith, words_by, type_by, path_names, run_read, typing_plain)

abbrev pub type_as : {g : List ℕ} → Gap g → Written type_part
type_as {g} gap = leaf_as IsType IsType g (λ ty is. type_text ty) Safe (λ ty is others. type_put gap ty others is) type_is_read
