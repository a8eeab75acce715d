-- All tokens of a text came as they stand there, so that what they spell can be written.
use Rattle.std.proofs.Common.{◌≡◌, ℕ, Bool, true, false, cond, List, [], ◌∷◌, length, drop, Option, Some, None, Result, Ok, Err, refl, ap, subst, ◌∙◌, ◌⊎◌, inl, inr, codes, arith}
use Rattle.std.specs.Prelude.{◌==◌}
use Rattle.std.proofs.lemmas.Bool.{cases_Bool}
use Rattle.std.specs.Option.{option_and_then}
use Rattle.cat_model.specs.declared.stmt.Stmt.{Stmt}
use Rattle.cat_model.specs.declared.stmt.Stmt.TheVariants as stmt
use Rattle.cat_model.specs.declared.type_name.TypeName.{TypeName}
use Rattle.cat_model.specs.Values.{Bytes}
use Rattle.copy_text.specs.Texts.{IsName}
use Rattle.ddl_laws.specs.Collecting.{collected}
use Rattle.ddl_laws.specs.Expressions.{default_text}
use Rattle.ddl_laws.specs.Leaves.{name}
use Rattle.ddl_laws.specs.Lexemes.{Lexeme, is_word}
use Rattle.ddl_laws.specs.Pieces.{lexemes}
use Rattle.ddl_laws.specs.Types.{type_part}
use Rattle.ddl_laws.specs.fault.DdlFault.{DdlFault}
use Rattle.ddl_laws.specs.located.Located.{Located}
use Rattle.ddl_laws.specs.Reading.{statements_of}
use Rattle.ddl_laws.proofs.Expressions.{expression_as, default_as}
use Rattle.ddl_laws.proofs.Kept.{AllCame, have_come}
use Rattle.ddl_laws.proofs.Spelled.{by_syntax}
use Rattle.ddl_laws.proofs.Tokens.{none, space}
use Rattle.ddl_laws.proofs.Types.{type_as}
use Rattle.ddl_laws.proofs.Written.{Written, choose_as, is_key, name_as, path_as, end_as, then_as, word_then, seen_as}
use Rattle.ddl_laws.specs.{Respelling.IsWritable, Respelling.AllWritable, Respelling.IsPath, Respelling.IsType, Respelling.IsDefaultText, Respelling.IsExpressionText, Spellings.said}
use Rattle.row_texts.specs.Texts.{SpellsWhole}
use Rattle.row_texts.specs.Tokens.{all_tokens, is_end}
use Rattle.row_texts.specs.declared.index_text.IndexText.{IndexText}
use Rattle.row_texts.specs.IndexTexts.{Named, named_index, index_of, index_text, is_bracketed}
use Rattle.row_texts.specs.ViewTexts.{view_text}
use Rattle.text_laws.specs.Indexes.{IsIndex}
use Rattle.text_laws.proofs.Bracketed.{bracket_can}
use Rattle.row_texts.proofs.AllTokens.{all_collected}
use Rattle.constraint_table.specs.declared.constraint_text.ConstraintText.TheVariants.{Check}
use Rattle.constraint_table.specs.Said.{statement_text, only_statement, said_by, statement_said, constraint_said}

-- ---- all tokens of a text

abbrev if_all : Bool → List Lexeme → Option (List Lexeme)
if_all b ts = cond {A = Option (List Lexeme)} b (Some ts) None

pub all_came : (text : Bytes) (ts : List Lexeme) → all_tokens text ≡ Some ts → AllCame ts (drop (collected text 0).end text)
all_came text ts e = by (is_end text (collected text 0).end) (all_collected text ∙ e)
  where
    by : (b : Bool) → if_all b (lexemes text (collected text 0).pieces) ≡ Some ts → AllCame ts (drop (collected text 0).end text)
    by true is = let same : lexemes text (collected text 0).pieces ≡ ts = cc is in subst (λ (us : List Lexeme). AllCame us (drop (collected text 0).end text)) same (have_come text 0 (omega arith))
    by false is = absurd cc

-- ---- types, defaults and views

pub type_can : (text : Bytes) (t : TypeName) → SpellsWhole type_part text t → IsType t
type_can text t h = (type_as none).made t h.0 _ (all_came text h.0 h.1) h.2

pub default_can : (text said : Bytes) → SpellsWhole default_text text said → IsDefaultText said
unfolding default_as
default_can text said h = default_as.made said h.0 _ (all_came text h.0 h.1) h.2

pub view_can : (text body : Bytes) → SpellsWhole view_text text body → IsExpressionText body
unfolding view_text expression_as
view_can text body h = (end_as (expression_as none) refl).made body h.0 _ (all_came text h.0 h.1) h.2

-- ---- indexes

pub index_can : (text : Bytes) (said : IndexText) → SpellsWhole index_text text said → is_bracketed said.rest ≡ true → IsIndex said
unfolding index_text named_index expression_as is_key
index_can text said h e =
    let method = then_as (name_as space) (expression_as space) refl in
    let behind = then_as (name_as space) (word_then (codes "ON") refl (then_as (path_as space) (word_then (codes "USING") refl method refl) refl) refl) refl in
    let named : Written named_index = word_then (codes "INDEX") refl behind refl in
    let whole : Written index_text = word_then (codes "CREATE") refl (choose_as {test = is_word (codes "unique")} (word_then (codes "UNIQUE") refl (seen_as (index_of true) named) refl) (seen_as (index_of false) named)) refl in
    by (whole.made said h.0 _ (all_came text h.0 h.1) h.2)
  where
    made : (unique : Bool) (x : Named) → IsName x.0 × (IsPath x.1.0 × (IsName x.1.1.0 × IsExpressionText x.1.1.1)) → index_of unique x ≡ said → IsIndex said
    made unique x is same = subst IsIndex same (is.0, is.1.0, is.1.1.0, bracket_can (index_of unique x) is.1.1.1 (ap (λ (s : IndexText). is_bracketed s.rest) same ∙ e))

    by : ((x : Named) × (IsName x.0 × (IsPath x.1.0 × (IsName x.1.1.0 × IsExpressionText x.1.1.1))) × (index_of true x ≡ said)) ⊎ ((x : Named) × (IsName x.0 × (IsPath x.1.0 × (IsName x.1.1.0 × IsExpressionText x.1.1.1))) × (index_of false x ≡ said)) → IsIndex said
    by (inl x) = made true x.0 x.1 x.2
    by (inr x) = made false x.0 x.1 x.2

-- ---- constraints

-- what was read can be written
abbrev pub ReadLaw : Type 0
ReadLaw = (text : List ℕ) (statements : List Located) → statements_of text ≡ Ok statements → AllWritable (said statements)

only_can : (end : ℕ) (r : Result (List Located) DdlFault) (s : Stmt) → ((found : List Located) → r ≡ Ok found → AllWritable (said found)) → only_statement end r ≡ Some s → IsWritable s
only_can end (Ok (one ∷ [])) s law e = elim (cases_Bool (one.end == end)) [
  | inl is ↦ let same : one.stmt ≡ s = cc (rw is at e) in subst IsWritable same (law (one ∷ []) refl).0
  | inr isnt ↦ absurd (let no : None ≡ Some s = rw isnt at e in cc no)
]
only_can end (Ok []) s law e = absurd cc
only_can end (Ok (one ∷ two ∷ more)) s law e = absurd cc
only_can end (Err fault) s law e = absurd cc

pub statement_can : ReadLaw → (text : Bytes) (s : Stmt) → statement_said text ≡ Some s → IsWritable s
statement_can law text s e = only_can (length (statement_text text)) (statements_of (statement_text text)) s (law (statement_text text)) e

check_in : (s : Stmt) (text : Bytes) → IsWritable s → said_by s ≡ Some (Check text) → IsExpressionText text
unfolding by_syntax
check_in (stmt.AddCheck q name kept) text is e = let same : kept ≡ text = cc e in subst IsExpressionText same is.0.1.0.1.0
check_in (stmt.AddPrimary q name columns rest) text is e = absurd cc
check_in (stmt.AddUnique q name columns rest) text is e = absurd cc
check_in (stmt.AddForeign q name columns parent parents rest) text is e = absurd cc
check_in s text is e = absurd cc

pub check_can : ReadLaw → (text said : Bytes) → constraint_said text ≡ Some (Check said) → IsExpressionText said
unfolding constraint_said
check_can law text said e = by (statement_said text) refl e
  where
    by : (o : Option Stmt) → statement_said text ≡ o → option_and_then said_by o ≡ Some (Check said) → IsExpressionText said
    by (Some s) is e = check_in s said (statement_can law text s is) e
    by None is e = absurd cc
