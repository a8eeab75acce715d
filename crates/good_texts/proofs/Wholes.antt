-- A text that is put in tokens is read whole.
use Rattle.std.proofs.Common.{◌≡◌, ℕ, ◌+◌, ◌-◌, ◌≤◌, Bool, true, false, cond, not, List, [], ◌∷◌, ◌++◌, length, append-nil, take, drop, Option, Some, None, refl, sym, ap, subst, ◌∙◌, arith, inl, inr, codes}
use Rattle.std.proofs.lemmas.Bool.{and_parts, eqb-true}
use Rattle.std.specs.Option.{option_and_then}
use Rattle.sql_lex.specs.declared.token.TokenKind.{TokenKind}
use Rattle.sql_lex.specs.declared.token.TokenKind.TheVariants.{Sign}
use Rattle.sql_lex.specs.Spelling.{Spells}
use Rattle.sql_lex.specs.Written.{written_name}
use Rattle.sql_lex.proofs.Passing.{next_at_end}
use Rattle.copy_text.specs.Texts.{IsName}
use Rattle.copy_text.proofs.TextLemmas.{name_from_test}
use Rattle.cat_model.specs.declared.object.QName.{QName}
use Rattle.cat_model.specs.declared.type_name.TypeName.{TypeName}
use Rattle.cat_model.specs.declared.value.Index.{Index}
use Rattle.cat_model.specs.Values.{Bytes}
use Rattle.ddl_laws.specs.pieces.Piece.{Piece}
use Rattle.ddl_laws.specs.Collecting.{collected}
use Rattle.ddl_laws.specs.Expressions.{nested, expression, default_text}
use Rattle.ddl_laws.specs.Laws.{Lawful}
use Rattle.ddl_laws.specs.Leaves.{name}
use Rattle.ddl_laws.specs.Lexemes.{Lexeme, starts, start_of, is_sign, is_sign_kind, spelled}
use Rattle.ddl_laws.specs.Parts.{Part}
use Rattle.ddl_laws.specs.Pieces.{lexeme_of, lexemes}
use Rattle.ddl_laws.specs.Types.{type_part}
use Rattle.ddl_laws.proofs.RunLaws.{default_text_laws, type_laws}
use Rattle.ddl_laws.specs.Texts.{semicolon, IsPath, IsExpressionText, IsBracketText}
use Rattle.ddl_laws.proofs.Behind.{Behind, admits, Anything, Words, Safe, End}
use Rattle.ddl_laws.proofs.Closing.{ends_with, only_last}
use Rattle.ddl_laws.proofs.Expressions.{nested_plain}
use Rattle.ddl_laws.proofs.Kept.{AllCame, have_come, whole_text}
use Rattle.ddl_laws.proofs.Putting.{nothing_follows}
use Rattle.ddl_laws.proofs.Standing.{Stood, placed, NoSemicolon, IsCollected, collects, collects_all}
use Rattle.ddl_laws.proofs.Tokens.{none, space}
use Rattle.ddl_laws.proofs.Types.{type_as}
use Rattle.ddl_laws.proofs.Written.{Written, is_key, run_as, name_as, path_as, then_as, lead_as, word_as, word_then, end_as, choose_as, seen_as}
use Rattle.ddl_laws.specs.Paths.{path, joined}
use Rattle.ddl_laws.specs.Tables.{type_text}
use Rattle.row_texts.specs.declared.index_text.IndexText.{IndexText}
use Rattle.row_texts.specs.DefaultTexts.{default_said}
use Rattle.row_texts.specs.IndexTexts.{Named, named_index, index_of, index_text as index_text_part, is_bracketed, if_bracketed, index_said}
use Rattle.row_texts.specs.Texts.{whole}
use Rattle.row_texts.specs.Tokens.{all_tokens, is_no_token, is_end}
use Rattle.row_texts.specs.TypeTexts.{type_named}
use Rattle.row_texts.specs.ViewTexts.{view_text, view_body}
use Rattle.row_texts.proofs.AllTokens.{all_collected}
use Rattle.row_texts.proofs.PartLaws.{view_text_laws, index_text_laws}
use Rattle.row_texts.proofs.Wholes.{whole_only}
use Rattle.sound_texts.specs.Grammar.{grammar}
use Rattle.sound_texts.proofs.Tested.{run_from, bracket_from, path_from, type_from}
use Rattle.good_texts.specs.Rows.{body_text, index_text}

-- ---- all tokens of a text

-- no semicolon stands among tokens that have none at their end nor before it
no_semicolon : (ts : List Lexeme) → only_last semicolon ts ≡ true → ends_with semicolon ts ≡ false → NoSemicolon ts
no_semicolon [] last ends = tt
no_semicolon (t ∷ []) last ends = (ends, tt)
no_semicolon (t ∷ u ∷ ts) last ends = let both = and_parts (not (semicolon t)) (only_last semicolon (u ∷ ts)) last in (of_not (semicolon t) both.0, no_semicolon (u ∷ ts) both.1 ends)
  where
    of_not : (b : Bool) → not b ≡ true → b ≡ false
    of_not true e = absurd cc
    of_not false e = refl

pub are_collected : (text : Bytes) (ts : List Lexeme) → spelled ts ≡ text → Stood ts → only_last semicolon ts ≡ true → IsCollected text 0 ts (collected text 0)
are_collected text ts bytes stood last = by (ends_with semicolon ts) refl
  where
    by : (b : Bool) → ends_with semicolon ts ≡ b → IsCollected text 0 ts (collected text 0)
    by true e = collects text [] ts [] (sym bytes ∙ sym (append-nil (spelled ts))) stood refl last e
    by false e = collects_all text ts (sym bytes) stood (no_semicolon ts last e)

all_of : (text : Bytes) (ts : List Lexeme) → spelled ts ≡ text → IsCollected text 0 ts (collected text 0) → all_tokens text ≡ Some (placed 0 ts)
all_of text ts bytes are =
    let ends : (collected text 0).end ≡ length text = are.end ∙ ap (λ (x : Bytes). 0 + length x) bytes ∙ (let e : 0 + length text ≡ length text = omega arith in e) in
    let at_end : is_end text (collected text 0).end ≡ true = ap is_no_token (next_at_end text (collected text 0).end ends) in
    sym (all_collected text) ∙ ap (λ (b : Bool). cond {A = Option (List Lexeme)} b (Some (lexemes text (collected text 0).pieces)) None) at_end ∙ ap (λ (xs : List Lexeme). Some xs) are.tokens

-- ---- a written text is read whole

pub ends_well : (b : Behind) → admits b [] ≡ true
ends_well Anything = refl
ends_well Words = refl
ends_well Safe = refl
ends_well End = refl

written_read : {A : Type 0} (p : Part A) → Lawful p → (w : Written p) (v : A) (fit : w.Fit v) → whole p (joined (w.pieces v fit)) ≡ Some v
written_read p laws w v fit =
    let k = w.put v fit [] nothing_follows (ends_well w.after) in
    let stood = subst Stood (append-nil k.tokens) k.stood in
    let last = ap (only_last semicolon) (sym (append-nil k.tokens)) ∙ k.last in
    let all = all_of (joined (w.pieces v fit)) k.tokens k.bytes (are_collected (joined (w.pieces v fit)) k.tokens k.bytes stood last) in
    whole_only p (joined (w.pieces v fit)) v laws (placed 0 k.tokens, all, k.spells 0)

-- ---- types, defaults and bodies

pub types_read : (t : TypeName) → grammar.type t ≡ true → type_named (type_text t) ≡ Some t
unfolding type_named
types_read t e = ap (whole type_part) (sym (append-nil (type_text t))) ∙ written_read type_part type_laws (type_as none) t (type_from t e)

pub defaults_read : (v : Bytes) → grammar.expression v ≡ true → default_said v ≡ Some v
unfolding default_said default_text
defaults_read v e = ap (whole default_text) (sym (append-nil v)) ∙ written_read default_text default_text_laws (run_as (nested_plain true false) none) v (run_from (nested true false) v e)

expression_as : Written expression
unfolding expression
expression_as = run_as (nested_plain false false) none

pub bodies_read : (v : Bytes) → grammar.body v ≡ true → view_body (body_text v) ≡ Some v
unfolding view_body view_text expression
bodies_read v e = written_read view_text view_text_laws (end_as (run_as (nested_plain false false) none) refl) v (run_from (nested false false) v e)

-- ---- a text whose first token is a bracket begins with it

sign_kind : (k : TokenKind) → is_sign_kind 40 k ≡ true → k ≡ Sign 40
sign_kind (Sign b) e = ap (λ (n : ℕ). Sign n) (sym (eqb-true 40 b e))
sign_kind _ e = absurd cc

sign_word : (k : TokenKind) (word : Bytes) → k ≡ Sign 40 → Spells k word → word ≡ 40 ∷ []
sign_word k word is h = (subst (λ (x : TokenKind). Spells x word) is h).1

bracket_byte : (v : Bytes) (ps : List Piece) (r : Bytes) → start_of (lexemes v ps) ≡ Some 0 → AllCame (lexemes v ps) r → v ≡ spelled (lexemes v ps) ++ r → starts (is_sign 40) (lexemes v ps) ≡ true → is_bracketed v ≡ true
unfolding is_sign
bracket_byte v [] r start came whole e = absurd cc
bracket_byte v (p ∷ ps) r start came whole e =
    let at : p.token.start ≡ 0 = cc in
    let t = lexeme_of v p in
    let no_gap : t.gap ≡ [] = ap (λ n. take n (drop p.from v)) (let z : p.token.start - p.from ≡ 0 = omega arith in z) in
    let word : t.word ≡ 40 ∷ [] = sign_word t.kind t.word (sign_kind t.kind e) came.0.spells in
    let here : v ≡ 40 ∷ (spelled (lexemes v ps) ++ r) = whole ∙ ap (λ (g : Bytes). (g ++ (t.word ++ spelled (lexemes v ps))) ++ r) no_gap ∙ ap (λ (w : Bytes). (w ++ spelled (lexemes v ps)) ++ r) word in
    ap is_bracketed here

bracketed_byte : (v : Bytes) → IsBracketText v → is_bracketed v ≡ true
bracketed_byte v is =
    let low : 0 ≤ length v = omega arith in
    bracket_byte v (collected v 0).pieces (drop (collected v 0).end v) is.0.first (have_come v 0 low) (whole_text v 0 low) is.1

-- ---- indexes

unfoldable named_as : Written named_index
unfolding named_index expression is_key
named_as =
    let method = then_as (name_as space) (run_as (nested_plain false false) space) refl in
    word_then (codes "INDEX") refl (then_as (name_as space) (word_then (codes "ON") refl (then_as (path_as space) (word_then (codes "USING") refl method refl) refl) refl) refl) refl

unfoldable index_as : Written index_text_part
unfolding index_text_part is_key named_as
index_as = lead_as (word_as none (codes "CREATE") refl) (choose_as (word_then (codes "UNIQUE") refl (seen_as (index_of true) named_as) refl) (seen_as (index_of false) named_as)) refl

index_whole : (q : QName) (name : Bytes) (i : Index) → IsPath q → IsName name → IsName i.method → IsExpressionText i.text → whole index_text_part (index_text q name i) ≡ Some (index_of i.unique (name, (q, (i.method, i.text))))
unfolding index_as named_as
index_whole q name i is_path is_name is_method rest = by i.unique
  where
    n : Named
    n = (name, (q, (i.method, i.text)))

    same : (words : Bytes) → words ++ (written_name name ++ (codes " ON " ++ (path q ++ (codes " USING " ++ (written_name i.method ++ (codes " " ++ i.text)))))) ≡ words ++ (written_name name ++ (codes " ON " ++ (path q ++ (codes " USING " ++ (written_name i.method ++ (codes " " ++ (i.text ++ [])))))))
    same words = ap (λ (x : Bytes). words ++ (written_name name ++ (codes " ON " ++ (path q ++ (codes " USING " ++ (written_name i.method ++ (codes " " ++ x))))))) (sym (append-nil i.text))

    by : (u : Bool) → whole index_text_part (cond u (codes "CREATE UNIQUE INDEX ") (codes "CREATE INDEX ") ++ (written_name name ++ (codes " ON " ++ (path q ++ (codes " USING " ++ (written_name i.method ++ (codes " " ++ i.text))))))) ≡ Some (index_of u n)
    by true = ap (whole index_text_part) (same (codes "CREATE UNIQUE INDEX ")) ∙ written_read index_text_part index_text_laws index_as (index_of true n) (inl (n, (is_name, (is_path, (is_method, rest))), refl))
    by false = ap (whole index_text_part) (same (codes "CREATE INDEX ")) ∙ written_read index_text_part index_text_laws index_as (index_of false n) (inr (n, (is_name, (is_path, (is_method, rest))), refl))

pub indexes_read : (q : QName) (name : Bytes) (i : Index) → grammar.index q name i ≡ true → index_said (index_text q name i) ≡ Some (record { unique = i.unique; name = name; table = q; method = i.method; rest = i.text })
unfolding index_said
indexes_read q name i e =
    let a = and_parts _ _ e in
    let b = and_parts _ _ a.1 in
    let c = and_parts _ _ b.1 in
    let rest = bracket_from i.text c.1 in
    ap (option_and_then if_bracketed) (index_whole q name i (path_from q a.0) (name_from_test name b.0) (name_from_test i.method c.0) rest.0)
    ∙ ap (λ (b : Bool). cond {A = Option IndexText} b (Some (record { unique = i.unique; name = name; table = q; method = i.method; rest = i.text })) None) (bracketed_byte i.text rest)
