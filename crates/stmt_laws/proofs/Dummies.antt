-- The body of a dummy view, a null of its type for each column, is an expression.
use Rattle.std.proofs.Common.{◌≡◌, ℕ, ◌+◌, Bool, true, false, not, cond, ◌&&◌, ◌||◌, List, [], ◌∷◌, ◌++◌, length, append_assoc, append-nil, Option, Some, None, Result, Ok, Err, refl, sym, ap, subst, ◌∙◌, arith, inl, inr, codes}
use Rattle.std.specs.List.{AllByRecursion, flat_map}
use Rattle.std.specs.Str.{is_utf8, chars}
use Rattle.std.proofs.Math.Utf8.{encode}
use Rattle.std.proofs.lemmas.Bool.{cases_Bool, and_parts}
use Rattle.sql_lex.specs.declared.token.TokenKind.{TokenKind}
use Rattle.sql_lex.specs.declared.token.TokenKind.TheVariants.{Word, QuotedName, Number, Sign}
use Rattle.sql_lex.specs.Bytes.{is_digit, begins_word, in_word, next_is}
use Rattle.sql_lex.specs.Meaning.{name_of}
use Rattle.sql_lex.specs.ReadBack.{written_kind}
use Rattle.sql_lex.specs.Spelling.{goes_on}
use Rattle.sql_lex.specs.Reserved.{is_reserved}
use Rattle.sql_lex.specs.Written.{is_bare, written_name}
use Rattle.sql_lex.proofs.WriteLaws.{spelling_is_read}
use Rattle.copy_text.specs.Texts.{IsName}
use Rattle.cat_model.specs.declared.type_name.TypeName.{TypeName}
use Rattle.cat_model.specs.Values.{Bytes}
use Rattle.cat_rows.specs.declared.relations.AttributeRow.{AttributeRow}
use Rattle.cat_rows.specs.declared.table.SysTable.TheVariants as table
use Rattle.cat_rows.specs.RowCells.{attribute_cells}
use Rattle.ddl_forms.specs.runs.Bracket.{Bracket}
use Rattle.ddl_forms.specs.runs.Bracket.TheVariants.{Round, Square}
use Rattle.ddl_forms.specs.runs.Spot.TheVariants.{Inside}
use Rattle.ddl_forms.specs.types.TypeSpot.{TypeSpot}
use Rattle.ddl_forms.specs.types.TypeSpot.TheVariants as spot
use Rattle.ddl_grammar.specs.Expressions.{Nest, nested, moved, behind_kind, is_end_kind, ends_run, nest_step, nest_done}
use Rattle.ddl_grammar.specs.Leaves.{name_in, name_value}
use Rattle.ddl_grammar.specs.Lexemes.{Lexeme, spelled, start_of, is_sign}
use Rattle.ddl_grammar.specs.Parts.{Machine, run, Runs}
use Rattle.ddl_grammar.specs.Types.{typing, is_word_kind, is_number_kind, is_type_word, is_number, if_name, only_if, more_words, type_step, type_done, type_part}
use Rattle.ddl_forms.proofs.Basics.{run_none}
use Rattle.ddl_forms.specs.Tables.{type_text}
use Rattle.ddl_forms.specs.Texts.{semicolon, IsType, IsExpressionText}
use Rattle.ddl_forms.proofs.Behind.{Words, Safe, admits}
use Rattle.ddl_forms.proofs.Expressions.{nested_plain}
use Rattle.ddl_forms.proofs.Kept.{AllPlain, spelled-append}
use Rattle.ddl_forms.proofs.Putting.{Follows, nothing_follows}
use Rattle.ddl_forms.proofs.RunTexts.{not_some, sign_kind, run-append, are_plain, last_more, run_placed}
use Rattle.ddl_forms.proofs.Standing.{Stands, Stood, placed, NoSemicolon, collects_all}
use Rattle.ddl_forms.proofs.Tokens.{none, space, indented, indent, gap_stands, word_begun, word_token, sign_token, name_token, is_single, a_word, a_name, a_sign, name_no_sign}
use Rattle.ddl_forms.proofs.Types.{type_put}
use Rattle.ddl_forms.proofs.Written.{is_bare_word, bare_word}
use Rattle.row_texts.specs.TypeTexts.{type_named}
use Rattle.dump_stmts.specs.Views.{null_of, null_column, null_columns, select_lines, select_of}
use Rattle.stmt_laws.proofs.Lists.{Known, known_so, known_map, chosen_have}
use Rattle.stmt_laws.proofs.Rows.{IsOf, All}

-- ---- the machine of expressions

abbrev nest : Machine
nest = nested false false

abbrev step : Nest → Lexeme → Option Nest
step = nest_step false false

-- outside brackets, behind a token
abbrev inside : Nest
inside = record { brackets = []; spot = Inside }

abbrev within : Bracket → Nest
within b = record { brackets = b ∷ []; spot = Inside }

-- a step outside brackets, and one within one, by the kind of the token
abbrev out_by : TokenKind → Option Nest
out_by k = cond (is_end_kind k || false) None (moved (behind_kind k []))

step_out : (t : Lexeme) (k : TokenKind) → t.kind ≡ k → step inside t ≡ out_by k
unfolding nest_step ends_run
step_out t k e = ap out_by e

step_in : (b : Bracket) (t : Lexeme) (k : TokenKind) → t.kind ≡ k → step (within b) t ≡ moved (behind_kind k (b ∷ []))
unfolding nest_step
step_in b t k e = ap (λ (k : TokenKind). moved (behind_kind k (b ∷ []))) e

-- ---- of what kind a token is

word_kind : (k : TokenKind) → is_word_kind k ≡ true → k ≡ Word
word_kind Word e = refl
word_kind k e = absurd cc

number_kind : (k : TokenKind) → is_number_kind k ≡ true → k ≡ Number
number_kind Number e = refl
number_kind k e = absurd cc

is_a_word : (t : Lexeme) → is_type_word t ≡ true → t.kind ≡ Word
unfolding is_type_word
is_a_word t e = word_kind t.kind (and_parts (is_word_kind t.kind) _ e).0

is_a_number : (t : Lexeme) → is_number t ≡ true → t.kind ≡ Number
unfolding is_number
is_a_number t e = number_kind t.kind e

is_a_sign : (b : ℕ) (t : Lexeme) → is_sign b t ≡ true → t.kind ≡ Sign b
unfolding is_sign
is_a_sign b t e = sign_kind b t.kind e

name_kind : (k : TokenKind) (w v : List ℕ) → name_in (name_of k w) ≡ Ok v → out_by k ≡ Some inside
unfolding name_in name_of
name_kind Word w v e = refl
name_kind QuotedName w v e = refl
name_kind k w v e = absurd cc

-- a name, outside brackets
name_out : (t : Lexeme) (v : List ℕ) → name_value t ≡ Ok v → step inside t ≡ Some inside
unfolding name_value
name_out t v e = step_out t t.kind refl ∙ name_kind t.kind t.word v e

word_out : (t : Lexeme) → is_type_word t ≡ true → step inside t ≡ Some inside
word_out t e = step_out t Word (is_a_word t e)

-- ---- the tokens of a type are such as an expression takes

-- the brackets that are open at a spot of a type
abbrev open_at : TypeSpot → Nest
open_at spot.Opened = within Round
open_at spot.Counted = within Round
open_at spot.Further = within Round
open_at spot.Array = within Square
open_at other = inside

-- where the type goes on, so does the expression
abbrev Goes : Nest → Lexeme → Option TypeSpot → Type 0
Goes n t None = Unit {0}
Goes n t (Some s) = step n t ≡ Some (open_at s)

only_goes : (n : Nest) (t : Lexeme) (b : Bool) (s : TypeSpot) → (b ≡ true → step n t ≡ Some (open_at s)) → Goes n t (only_if b s)
only_goes n t true s h = h refl
only_goes n t false s h = tt

name_goes : (t : Lexeme) (r : Result (List ℕ) Bool) (s : TypeSpot) → open_at s ≡ inside → name_value t ≡ r → Goes inside t (if_name r s)
name_goes t (Ok v) s same e = name_out t v e ∙ ap (λ (n : Nest). Some n) (sym same)
name_goes t (Err long) s same e = tt

more_goes : (t : Lexeme) → Goes inside t (more_words t)
more_goes t = elim (cases_Bool (is_type_word t)) [
  | inl is ↦ rw is (word_out t is)
  | inr isnt ↦ rw isnt (elim (cases_Bool (is_sign 40 t)) [
    | inl opens ↦ rw opens (step_out t (Sign 40) (is_a_sign 40 t opens))
    | inr other ↦ rw other (only_goes inside t (is_sign 91 t) spot.Array (λ e. step_out t (Sign 91) (is_a_sign 91 t e)))
  ])
]

goes : (s : TypeSpot) (t : Lexeme) → Goes (open_at s) t (type_step s t)
unfolding type_step
goes spot.Begin t = elim (cases_Bool (is_type_word t)) [ inl is ↦ rw is (word_out t is) | inr isnt ↦ rw isnt (name_goes t (name_value t) spot.Schema refl refl) ]
goes (spot.FirstWord short) t = elim (cases_Bool (is_sign 46 t)) [ inl is ↦ rw is (only_goes inside t short spot.Dotted (λ e. step_out t (Sign 46) (is_a_sign 46 t is))) | inr isnt ↦ rw isnt (more_goes t) ]
goes spot.Schema t = only_goes inside t (is_sign 46 t) spot.Dotted (λ e. step_out t (Sign 46) (is_a_sign 46 t e))
goes spot.Dotted t = name_goes t (name_value t) spot.Path refl refl
goes spot.Path t = tt
goes spot.Words t = more_goes t
goes spot.Opened t = only_goes (within Round) t (is_number t) spot.Counted (λ e. step_in Round t Number (is_a_number t e))
goes spot.Counted t = elim (cases_Bool (is_sign 44 t)) [
  | inl is ↦ rw is (step_in Round t (Sign 44) (is_a_sign 44 t is))
  | inr isnt ↦ rw isnt (only_goes (within Round) t (is_sign 41 t) spot.Behind (λ e. step_in Round t (Sign 41) (is_a_sign 41 t e)))
]
goes spot.Further t = only_goes (within Round) t (is_number t) spot.Counted (λ e. step_in Round t Number (is_a_number t e))
goes spot.Behind t = elim (cases_Bool (is_type_word t)) [ inl is ↦ rw is (word_out t is) | inr isnt ↦ rw isnt (only_goes inside t (is_sign 91 t) spot.Array (λ e. step_out t (Sign 91) (is_a_sign 91 t e))) ]
goes spot.Array t = only_goes (within Square) t (is_sign 93 t) spot.Ended (λ e. step_in Square t (Sign 93) (is_a_sign 93 t e))
goes spot.Ended t = tt

type_runs : (s last : TypeSpot) (ts : List Lexeme) → run typing (Some s) ts ≡ Some last → run nest (Some (open_at s)) ts ≡ Some (open_at last)
type_runs s last [] e = let same : s ≡ last = cc e in ap (λ (x : TypeSpot). Some (open_at x)) same
type_runs s last (t ∷ ts) e = by (type_step s t) (goes s t) (λ x f. type_runs x last ts f) e
  where
    by : (next : Option TypeSpot) → Goes (open_at s) t next → ((x : TypeSpot) → run typing (Some x) ts ≡ Some last → run nest (Some (open_at x)) ts ≡ Some (open_at last)) → run typing next ts ≡ Some last → run nest (step (open_at s) t) ts ≡ Some (open_at last)
    by None went later f = absurd (not_some last (run typing None ts) f (run_none typing ts))
    by (Some x) went later f = ap (λ o. run nest o ts) went ∙ later x f

ended_inside : (s : TypeSpot) → type_done s ≡ true → open_at s ≡ inside
unfolding type_done
ended_inside spot.Opened e = absurd cc
ended_inside spot.Counted e = absurd cc
ended_inside spot.Further e = absurd cc
ended_inside spot.Array e = absurd cc
ended_inside other e = refl

type_inside : (ts : List Lexeme) → Runs typing ts → run nest (Some inside) ts ≡ Some inside
type_inside ts r = type_runs spot.Begin r.last ts r.runs ∙ ap (λ (n : Nest). Some n) (ended_inside r.last r.done)

-- ---- tokens of a text, outside brackets, before others

record Put (text : List ℕ) (others : List Lexeme) : Type 0 where
  tokens : List Lexeme
  bytes : spelled tokens ≡ text
  follows : Follows (tokens ++ others)
  runs : run nest (Some inside) tokens ≡ Some inside

front : {text : List ℕ} {others : List Lexeme} (k : Put text others) → spelled (k.tokens ++ others) ≡ text ++ spelled others
front {others = others} k = spelled-append k.tokens others ∙ ap (λ (x : List ℕ). x ++ spelled others) k.bytes

nothing_put : Put [] []
nothing_put = record { tokens = []; bytes = refl; follows = nothing_follows; runs = refl }

one_put : (t : Lexeme) (others : List Lexeme) → Stands t (spelled others) → semicolon t ≡ false → step inside t ≡ Some inside → Follows others → Put (t.gap ++ t.word) others
one_put t others stands plain goes follows = record {
  tokens = t ∷ [];
  bytes = ap (λ (x : List ℕ). t.gap ++ x) (append-nil t.word);
  follows = record { stood = (stands, follows.stood); last = last_more semicolon t others plain follows.last };
  runs = goes;
}

both_put : (a b : List ℕ) (others : List Lexeme) → (k : Put b others) → Put a (k.tokens ++ others) → Put (a ++ b) others
both_put a b others k j = record {
  tokens = j.tokens ++ k.tokens;
  bytes = spelled-append j.tokens k.tokens ∙ ap (λ (x : List ℕ). x ++ spelled k.tokens) j.bytes ∙ ap (λ (x : List ℕ). a ++ x) k.bytes;
  follows = subst Follows (sym (append_assoc j.tokens k.tokens others)) j.follows;
  runs = run-append nest (Some inside) j.tokens k.tokens ∙ ap (λ o. run nest o k.tokens) j.runs ∙ k.runs;
}

-- ---- the parts of a line

written_out : (n : List ℕ) → out_by (written_kind n) ≡ Some inside
unfolding written_kind
written_out n = elim (cases_Bool (is_bare n && not (is_reserved n))) [ inl is ↦ rw is refl | inr isnt ↦ rw isnt refl ]

name_put : (n : List ℕ) (others : List Lexeme) → IsName n → Follows others → admits Words (spelled others) ≡ true → Put (codes " " ++ written_name n) others
unfolding is_sign
name_put n others is follows e =
    one_put (name_token (codes " ") n) others (a_name n (spelled others) space is.utf8 e) (name_no_sign 59 n) (step_out (name_token (codes " ") n) (written_kind n) refl ∙ written_out n) follows

as_put : (others : List Lexeme) → Follows others → admits Words (spelled others) ≡ true → Put (codes " AS") others
unfolding is_bare_word begins_word in_word is_digit is_utf8 chars encode is_sign
as_put others follows e =
    let bare = bare_word (codes "AS") refl in
    one_put (word_token (codes " ") (codes "AS")) others (a_word (codes "AS") (spelled others) space bare.0 bare.1 e) refl (step_out (word_token (codes " ") (codes "AS")) Word refl) follows

typed_put : (ty : TypeName) (others : List Lexeme) → IsType ty → Follows others → admits Safe (spelled others) ≡ true → Put (type_text ty) others
unfolding type_part
typed_put ty others is follows e =
    let k = type_put none ty others is follows e in
    record {
      tokens = k.tokens;
      bytes = k.bytes;
      follows = record { stood = k.stood; last = k.last };
      runs = sym (run_placed nest (nested_plain false false) (Some inside) 0 k.tokens) ∙ type_inside (placed 0 k.tokens) (k.spells 0).2.1;
    }

colon_put : (others : List Lexeme) → Follows others → Put (58 ∷ []) others
unfolding is_single is_sign
colon_put others follows = one_put (sign_token [] 58) others (a_sign 58 (spelled others) none refl) refl (step_out (sign_token [] 58) (Sign 58) refl) follows

comma_put : (others : List Lexeme) → Follows others → Put (44 ∷ []) others
unfolding is_single is_sign
comma_put others follows = one_put (sign_token [] 44) others (a_sign 44 (spelled others) none refl) refl (step_out (sign_token [] 44) (Sign 44) refl) follows

-- before a colon
null_stands : (rest : List ℕ) → Stands (word_token indent (codes "NULL")) (58 ∷ rest)
unfolding is_bare_word begins_word in_word is_digit is_utf8 chars encode goes_on next_is
null_stands rest =
    let bare = bare_word (codes "NULL") refl in
    record {
      gap = gap_stands indent (codes "NULL") (58 ∷ rest) indented (word_begun (codes "NULL") bare.0);
      token = λ before after safe. spelling_is_read before (codes "NULL") ((58 ∷ rest) ++ after) Word bare.0 refl bare.1 (λ f. absurd cc);
      some = omega arith;
    }

null_put : (rest : List ℕ) (others : List Lexeme) → Follows others → spelled others ≡ 58 ∷ rest → Put (indent ++ codes "NULL") others
unfolding is_sign
null_put rest others follows e = one_put (word_token indent (codes "NULL")) others (subst (Stands (word_token indent (codes "NULL"))) (sym e) (null_stands rest)) refl (step_out (word_token indent (codes "NULL")) Word refl) follows

-- ---- a line

-- a null of a type, under a name
abbrev null_line : TypeName → List ℕ → List ℕ
null_line ty n = (codes "NULL::" ++ type_text ty) ++ (codes " AS " ++ written_name n)

record IsNull (line : List ℕ) : Type 0 where
  type_name : TypeName
  name : List ℕ
  type_is : IsType type_name
  name_is : IsName name
  line_is : line ≡ null_line type_name name

line_text : (a b : List ℕ) → (indent ++ codes "NULL") ++ (58 ∷ 58 ∷ (a ++ b)) ≡ indent ++ ((codes "NULL::" ++ a) ++ b)
line_text a b = ap (λ (x : List ℕ). indent ++ x) (sym (append_assoc (codes "NULL::") a b))

line_put : (line : List ℕ) → IsNull line → (others : List Lexeme) → Follows others → admits Words (spelled others) ≡ true → Put (indent ++ line) others
line_put line is others follows e =
    let name = name_put is.name others is.name_is follows e in
    let word = as_put (name.tokens ++ others) name.follows (ap (admits Words) (front name)) in
    let named = both_put (codes " AS") (codes " " ++ written_name is.name) others name word in
    let type = typed_put is.type_name (named.tokens ++ others) is.type_is named.follows (ap (admits Safe) (front named)) in
    let typed = both_put (type_text is.type_name) (codes " AS " ++ written_name is.name) others named type in
    let second = both_put (58 ∷ []) _ others typed (colon_put (typed.tokens ++ others) typed.follows) in
    let first = both_put (58 ∷ []) _ others second (colon_put (second.tokens ++ others) second.follows) in
    let null = null_put _ (first.tokens ++ others) first.follows (front first) in
    let whole = both_put (indent ++ codes "NULL") _ others first null in
    subst (λ (x : List ℕ). Put x others) (line_text (type_text is.type_name) (codes " AS " ++ written_name is.name) ∙ ap (λ (x : List ℕ). indent ++ x) (sym is.line_is)) whole

-- ---- all lines

abbrev more_lines : List Bytes → List ℕ
more_lines lines = flat_map (λ line. codes ",\n    " ++ line) lines

more_admit : (lines : List Bytes) → admits Words (more_lines lines ++ []) ≡ true
more_admit [] = refl
more_admit (line ∷ lines) = refl

next_line : (line : List ℕ) (lines : List Bytes) → IsNull line → Put (more_lines lines) [] → Put (indent ++ (line ++ more_lines lines)) []
next_line line lines is k =
    subst (λ (x : List ℕ). Put x []) (append_assoc indent line (more_lines lines))
    (both_put (indent ++ line) (more_lines lines) [] k (line_put line is (k.tokens ++ []) k.follows (ap (admits Words) (front k) ∙ more_admit lines)))

more_put : (lines : List Bytes) → AllByRecursion IsNull lines → Put (more_lines lines) []
more_put [] all = nothing_put
more_put (line ∷ lines) all = let k = next_line line lines all.0 (more_put lines all.1) in both_put (44 ∷ []) (indent ++ (line ++ more_lines lines)) [] k (comma_put (k.tokens ++ []) k.follows)

lines_put : (lines : List Bytes) → AllByRecursion IsNull lines → Put (select_lines lines) []
unfolding select_lines
lines_put [] all = nothing_put
lines_put (line ∷ lines) all = next_line line lines all.0 (more_put lines all.1)

lines_admit : (lines : List Bytes) → admits Words (select_lines lines) ≡ true
unfolding select_lines
lines_admit [] = refl
lines_admit (line ∷ lines) = refl

-- ---- the body

no_semicolons : (ts : List Lexeme) → AllPlain ts → NoSemicolon ts
no_semicolons [] h = tt
no_semicolons (t ∷ ts) h = (h.0.ends, no_semicolons ts h.1)

abbrev select_token : Lexeme
select_token = word_token [] (codes "SELECT")

select_stands : (rest : List ℕ) → admits Words rest ≡ true → Stands select_token rest
unfolding is_bare_word begins_word in_word is_digit is_utf8 chars encode
select_stands rest e = let bare = bare_word (codes "SELECT") refl in a_word (codes "SELECT") rest none bare.0 bare.1 e

select_runs : (ts : List Lexeme) → run nest (Some inside) ts ≡ Some inside → run nest (Some nest.start) (select_token ∷ ts) ≡ Some inside
unfolding nest_step ends_run
select_runs ts e = e

select_is : (lines : List Bytes) → AllByRecursion IsNull lines → IsExpressionText (select_of lines)
unfolding select_of nest_done
select_is lines all =
    let k = lines_put lines all in
    let us = select_token ∷ k.tokens in
    let text : select_of lines ≡ spelled us = ap (λ (x : List ℕ). codes "SELECT" ++ x) (sym k.bytes) in
    let stands : Stands select_token (spelled k.tokens) = select_stands (spelled k.tokens) (ap (admits Words) k.bytes ∙ lines_admit lines) in
    let stood : Stood us = (stands, subst Stood (append-nil k.tokens) k.follows.stood) in
    let runs = select_runs k.tokens k.runs in
    let plain = no_semicolons us (are_plain nest (nested_plain false false) nest.start inside us runs) in
    let c = collects_all (select_of lines) us text stood plain in
    record {
      first = ap start_of c.tokens;
      last = c.end ∙ (let e : 0 + length (spelled us) ≡ length (spelled us) = omega arith in e) ∙ ap (λ (x : List ℕ). length x) (sym text);
      runs = subst (Runs nest) (sym c.tokens) (record { last = inside; runs = run_placed nest (nested_plain false false) (Some nest.start) 0 us ∙ runs; done = refl });
    }

abbrev pub TypeLaw : Type 0
TypeLaw = (text : Bytes) (name : TypeName) → type_named text ≡ Some name → IsType name

null_known : TypeLaw → (row : AttributeRow) → IsOf table.PgAttribute attribute_cells row → Known IsNull (null_column row)
null_known types row is =
    known_map IsType IsNull (null_of row) (type_named row.typtext) (known_so IsType (type_named row.typtext) (types row.typtext))
    (λ ty typed. record { type_name = ty; name = row.attname; type_is = typed; name_is = is.cells.1.1.0; line_is = refl })

-- the query that a dummy view has in place of its own
pub nulls_are : TypeLaw → (rows : List AttributeRow) → All table.PgAttribute attribute_cells rows → IsExpressionText (select_of (null_columns rows))
nulls_are types rows all = select_is (null_columns rows) (chosen_have (IsOf table.PgAttribute attribute_cells) IsNull null_column rows all (null_known types))
