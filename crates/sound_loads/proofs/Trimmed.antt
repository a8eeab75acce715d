-- The expression of a default refers to what the text refers to that holds it: it has the same tokens.
use Rattle.std.proofs.Common.{◌≡◌, ℕ, Bool, true, false, cond, List, [], ◌∷◌, map, drop, Option, Some, None, Result, Ok, Err, refl, sym, ap, subst, ◌∙◌, arith}
use Rattle.sql_lex.specs.declared.fault.LexFault.{LexFault}
use Rattle.sql_lex.specs.declared.token.Token.{Token}
use Rattle.sql_lex.specs.declared.token.TokenKind.{TokenKind}
use Rattle.sql_lex.specs.Next.{tokens_of}
use Rattle.sql_lex.proofs.Passing.{next_at_end}
use Rattle.cat_model.specs.Lexemes.{Lexeme as Said, lexeme_by, lexeme_of as said_of, lexemes_of, lexemes as said_in}
use Rattle.cat_model.specs.References.{references_in, expression_references}
use Rattle.cat_model.specs.Values.{Bytes}
use Rattle.ddl_part_laws.specs.Lexemes.{Lexeme, source}
use Rattle.ddl_part_laws.specs.Parts.{Machine}
use Rattle.ddl_part_laws.specs.Pieces.{lexemes}
use Rattle.ddl_part_laws.specs.Collecting.{collected}
use Rattle.ddl_part_laws.specs.Expressions.{nested, default_text}
use Rattle.ddl_part_laws.proofs.RunLaws.{default_text_laws}
use Rattle.ddl_forms.proofs.Expressions.{nested_plain}
use Rattle.ddl_forms.proofs.Kept.{AllCame, have_come}
use Rattle.ddl_forms.proofs.RunTexts.{words, IsRunRead, run_read}
use Rattle.row_texts.specs.DefaultTexts.{default_said}
use Rattle.row_texts.specs.Tokens.{pieces_from, is_ended_once, tokens_behind, all_tokens, is_no_token, is_end}
use Rattle.row_texts.proofs.AllTokens.{all_collected}
use Rattle.row_texts.proofs.Wholes.{whole_found}

abbrev said : TokenKind × Bytes → Said
said w = lexeme_by w.0 w.1

of_tokens : (text : Bytes) (at : ℕ) (ts : List Token) → map (said_of text) ts ≡ map said (words (lexemes text (pieces_from at ts)))
of_tokens text at [] = refl
of_tokens text at (t ∷ ts) = ap (λ (xs : List Said). said_of text t ∷ xs) (of_tokens text t.end ts)

-- what is read of a text is by its tokens
said_by_tokens : (text : Bytes) (ts : List Lexeme) → all_tokens text ≡ Some ts → said_in text ≡ map said (words ts)
unfolding said_in all_tokens
said_by_tokens text ts e = by (tokens_of text) e
  where
    once : (toks : List Token) (b : Bool) → cond {A = Option (List Lexeme)} b (Some (lexemes text (pieces_from 0 toks))) None ≡ Some ts → map (said_of text) toks ≡ map said (words ts)
    once toks true h = let same : lexemes text (pieces_from 0 toks) ≡ ts = cc in of_tokens text 0 toks ∙ ap (λ (xs : List Lexeme). map said (words xs)) same
    once toks false h = absurd cc

    by : (r : Result (List Token) LexFault) → tokens_behind text 0 r ≡ Some ts → lexemes_of text r ≡ map said (words ts)
    by (Err fault) h = absurd cc
    by (Ok toks) h = once toks (is_ended_once toks) h

-- all tokens of a text are those that are collected
pub all_are_collected : (text : Bytes) (ts : List Lexeme) → all_tokens text ≡ Some ts → lexemes text (collected text 0).pieces ≡ ts
all_are_collected text ts e = by (is_end text (collected text 0).end) (all_collected text ∙ e)
  where
    by : (b : Bool) → cond {A = Option (List Lexeme)} b (Some (lexemes text (collected text 0).pieces)) None ≡ Some ts → lexemes text (collected text 0).pieces ≡ ts
    by true h = cc
    by false h = absurd cc

pub all_came : (text : Bytes) (ts : List Lexeme) → all_tokens text ≡ Some ts → (r : Bytes) × AllCame ts r
all_came text ts e = (drop (collected text 0).end text, subst (λ (xs : List Lexeme). AllCame xs (drop (collected text 0).end text)) (all_are_collected text ts e) (have_come text 0 (omega arith)))

-- what a run says, as a text of its own
run_tokens : (m : Machine) (ts : List Lexeme) → IsRunRead m ts → all_tokens (source ts) ≡ Some (lexemes (source ts) (collected (source ts) 0).pieces)
run_tokens m ts read =
    let v = source ts in
    let at_end : is_end v (collected v 0).end ≡ true = ap is_no_token (next_at_end v (collected v 0).end read.text.last) in
    sym (all_collected v) ∙ ap (λ (b : Bool). cond {A = Option (List Lexeme)} b (Some (lexemes v (collected v 0).pieces)) None) at_end

pub default_refers : (text v : Bytes) → default_said text ≡ Some v → expression_references v ≡ expression_references text
unfolding default_said default_text expression_references
default_refers text v e =
    let whole = whole_found default_text text v default_text_laws e in
    let ts = whole.0 in
    let came = all_came text ts whole.1 in
    let spells = whole.2 in
    let same : spells.0 ≡ ts = spells.2.0 in
    let read = run_read (nested true false) (nested_plain true false) ts came.0 came.1 spells.2.1 in
    let kept : v ≡ source ts = spells.1 ∙ ap source same in
    let here : said_in (source ts) ≡ said_in text = said_by_tokens (source ts) _ (run_tokens (nested true false) ts read) ∙ ap (map said) read.says ∙ sym (said_by_tokens text ts whole.1) in
    ap (λ (x : Bytes). references_in (said_in x)) kept ∙ ap references_in here
