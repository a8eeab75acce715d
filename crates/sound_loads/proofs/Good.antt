-- What rows hold is good by the grammar: it can be written.
use Rattle.std.proofs.Common.{◌≡◌, ℕ, ◌-◌, ◌<◌, ◌≤◌, Bool, true, false, cond, List, [], ◌∷◌, ◌++◌, length, length-append, append_assoc, take, drop, Option, Some, None, Result, Ok, Err, refl, sym, ap, subst, ◌∙◌, arith, inl, inr, codes}
use Rattle.std.proofs.lemmas.Bool.{and_parts, and_from, eqb-true}
use Rattle.std.proofs.lemmas.Bool.Decides.{nat_tests}
use Rattle.std.specs.List.{list_all}
use Rattle.std.specs.Option.{option_and_then}
use Rattle.std.specs.Prelude.{◌==◌}
use Rattle.sql_lex.specs.declared.token.TokenKind.{TokenKind}
use Rattle.sql_lex.specs.declared.token.TokenKind.TheVariants.{Word, QuotedName, Literal, Number, Sign, MetaLine}
use Rattle.sql_lex.specs.Bytes.{is_digit, begins_word, marks_escapes}
use Rattle.sql_lex.specs.Spelling.{Spells, AreDigits}
use Rattle.sql_lex.proofs.PieceLaws.{quoted_is}
use Rattle.copy_text.specs.Texts.{IsName}
use Rattle.copy_text.proofs.TextLemmas.{test_from_name}
use Rattle.cat_model.specs.declared.constraint.ConstraintKind.TheVariants as kinds
use Rattle.cat_model.specs.declared.object.QName.{QName}
use Rattle.cat_model.specs.declared.stmt.Stmt.{Stmt}
use Rattle.cat_model.specs.declared.stmt.Stmt.TheVariants as stmt
use Rattle.cat_model.specs.declared.type_name.TypeName.{TypeName}
use Rattle.cat_model.specs.declared.value.Constraint.{Constraint}
use Rattle.cat_model.specs.declared.value.Value.{Value}
use Rattle.cat_model.specs.declared.value.Value.TheVariants as value
use Rattle.cat_model.specs.KeyEffects.{key_value, foreign_value}
use Rattle.cat_model.specs.RelationEffects.{check_value}
use Rattle.cat_model.specs.Values.{Bytes}
use Rattle.ddl_part_laws.specs.pieces.Piece.{Piece}
use Rattle.ddl_part_laws.specs.Collecting.{collected}
use Rattle.ddl_part_laws.specs.Expressions.{nested, expression, default_text}
use Rattle.ddl_part_laws.specs.Leaves.{name, qualified}
use Rattle.ddl_part_laws.specs.Lexemes.{Lexeme, starts, start_of, is_sign, is_sign_kind, is_word, spelled}
use Rattle.ddl_part_laws.specs.Parts.{Part, seen, choose, ◌then◌, ◌▸◌}
use Rattle.ddl_part_laws.specs.Pieces.{lexeme_of, lexemes}
use Rattle.ddl_part_laws.specs.Types.{type_part}
use Rattle.ddl_part_laws.proofs.RunLaws.{default_text_laws, type_laws}
use Rattle.ddl_forms.specs.Texts.{IsPath, IsExpressionText, IsBracketText}
use Rattle.ddl_forms.proofs.Expressions.{nested_plain}
use Rattle.ddl_forms.proofs.Kept.{AllCame, came_front, came_behind, have_come, whole_text}
use Rattle.ddl_forms.proofs.Putting.{Yields}
use Rattle.ddl_forms.proofs.Tokens.{none}
use Rattle.ddl_forms.proofs.Types.{type_is_read}
use Rattle.ddl_forms.proofs.Written.{run_made, then_made, choose_made, name_as, path_as}
use Rattle.ddl_scripts.specs.declared.fault.DdlFault.{DdlFault}
use Rattle.ddl_scripts.specs.declared.located.Located.{Located}
use Rattle.ddl_scripts.specs.Reading.{statements_of}
use Rattle.sound_texts.specs.Respelling.{IsWritable}
use Rattle.sound_texts.proofs.Respelled.{read_is_writable}
use Rattle.row_texts.specs.declared.index_text.IndexText.{IndexText}
use Rattle.row_texts.specs.DefaultTexts.{default_said}
use Rattle.row_texts.specs.IndexTexts.{Named, named_index, index_of, index_part, index_text, is_bracketed, if_bracketed, index_said}
use Rattle.row_texts.specs.Texts.{whole}
use Rattle.row_texts.specs.TypeTexts.{type_named}
use Rattle.row_texts.specs.ViewTexts.{view_text, view_body}
use Rattle.row_texts.proofs.PartLaws.{view_text_laws, index_text_laws}
use Rattle.row_texts.proofs.Wholes.{whole_found}
use Rattle.constraint_table.specs.Said.{statement_text, only_statement, statement_said}
use Rattle.cat_naming.specs.Constraints.{constraint_value}
use Rattle.cat_sound.specs.Fit.{IsFit}
use Rattle.sound_texts.specs.Grammar.{grammar}
use Rattle.sound_texts.proofs.Tested.{run_to, bracket_to, path_to, type_to}
use Rattle.sound_texts.proofs.Writable.{writable_fit}
use Rattle.sound_loads.specs.Reads.{Reads}
use Rattle.sound_loads.proofs.Trimmed.{all_came}

-- ---- types, defaults and bodies

types_good : (text : Bytes) (t : TypeName) → type_named text ≡ Some t → grammar.type t ≡ true
unfolding type_named
types_good text t e =
    let found = whole_found type_part text t type_laws e in
    let came = all_came text found.0 found.1 in
    type_to t (type_is_read t found.0 came.0 came.1 found.2)

defaults_good : (text v : Bytes) → default_said text ≡ Some v → grammar.expression v ≡ true
unfolding default_said default_text
defaults_good text v e =
    let found = whole_found default_text text v default_text_laws e in
    let came = all_came text found.0 found.1 in
    run_to (nested true false) v (run_made (nested_plain true false) v found.0 came.0 came.1 found.2)

expression_made : Yields IsExpressionText expression
unfolding expression
expression_made = run_made (nested_plain false false)

bodies_good : (text body : Bytes) → view_body text ≡ Some body → grammar.body body ≡ true
unfolding view_body view_text
bodies_good text body e =
    let found = whole_found view_text text body view_text_laws e in
    let came = all_came text found.0 found.1 in
    let spells = found.2 in
    let parts = spells.2 in
    let front = came_front parts.0 parts.1 came.0 (subst (λ ts. AllCame ts came.0) parts.2 came.1) in
    run_to (nested false false) body (subst IsExpressionText (sym spells.1) (expression_made spells.0.0 parts.0 _ front parts.3))

-- ---- indexes

lead_made : {A : Type 0} (test : Lexeme → Bool) (p : Part A) (P : A → Type 0) → Yields P p → Yields P (test ▸ p)
lead_made test p P made v ts r came spells =
    let parts = spells.2 in
    subst P (sym spells.1) (made spells.0.1 parts.1 r (came_behind parts.0 parts.1 r (subst (λ us. AllCame us r) parts.2 came)) parts.4)

seen_made : {A B : Type 0} (f : A → B) (p : Part A) (P : A → Type 0) (Q : B → Type 0) → ((v : A) → P v → Q (f v)) → Yields P p → Yields Q (seen f p)
seen_made f p P Q step made v ts r came spells = subst Q (sym spells.1) (step spells.0 (made spells.0 ts r came spells.2))

abbrev IsNamedWell : Named → Type 0
IsNamedWell x = IsName x.0 × (IsPath x.1.0 × (IsName x.1.1.0 × IsExpressionText x.1.1.1))

abbrev method_part : Part (Bytes × Bytes)
method_part = name then expression

abbrev using_part : Part (Bytes × Bytes)
using_part = is_word (codes "using") ▸ method_part

abbrev table_part : Part (QName × (Bytes × Bytes))
table_part = qualified then using_part

abbrev on_part : Part (QName × (Bytes × Bytes))
on_part = is_word (codes "on") ▸ table_part

abbrev IsMethodWell : Bytes × Bytes → Type 0
IsMethodWell z = IsName z.0 × IsExpressionText z.1

abbrev IsTableWell : QName × (Bytes × Bytes) → Type 0
IsTableWell y = IsPath y.0 × IsMethodWell y.1

named_made : Yields IsNamedWell named_index
unfolding named_index
named_made =
    lead_made (is_word (codes "index")) (name then on_part) IsNamedWell
    (then_made name on_part IsName IsTableWell (name_as none).made
    (lead_made (is_word (codes "on")) table_part IsTableWell
    (then_made qualified using_part IsPath IsMethodWell (path_as none).made
    (lead_made (is_word (codes "using")) method_part IsMethodWell
    (then_made name expression IsName IsExpressionText (name_as none).made expression_made)))))

record IsIndexWell (said : IndexText) : Type 0 where
  name : IsName said.name
  table : IsPath said.table
  method : IsName said.method
  rest : IsExpressionText said.rest

part_made : (unique : Bool) → Yields IsIndexWell (index_part unique)
part_made unique = seen_made (index_of unique) named_index IsNamedWell IsIndexWell (λ v is. record { name = is.0; table = is.1.0; method = is.1.1.0; rest = is.1.1.1 }) named_made

index_made : Yields IsIndexWell index_text
unfolding index_text
index_made =
    lead_made (is_word (codes "create")) (choose (is_word (codes "unique")) (is_word (codes "unique") ▸ index_part true) (index_part false)) IsIndexWell (λ v ts r came spells.
    elim (choose_made (is_word (codes "unique") ▸ index_part true) (index_part false) (is_word (codes "unique")) IsIndexWell IsIndexWell (lead_made (is_word (codes "unique")) (index_part true) IsIndexWell (part_made true)) (part_made false) v ts r came spells) [ inl a ↦ a | inr b ↦ b ])

kept : (o : Option IndexText) (said : IndexText) → option_and_then if_bracketed o ≡ Some said → (o ≡ Some said) × (is_bracketed said.rest ≡ true)
kept None said e = absurd cc
kept (Some s) said e = by (is_bracketed s.rest) refl e
  where
    by : (b : Bool) → is_bracketed s.rest ≡ b → cond {A = Option IndexText} b (Some s) None ≡ Some said → (Some s ≡ Some said) × (is_bracketed said.rest ≡ true)
    by true is h = let same : s ≡ said = cc in (h, ap (λ (x : IndexText). is_bracketed x.rest) (sym same) ∙ is)
    by false is h = absurd cc

-- ---- a text that begins with a bracket begins with that token

-- the first byte of a text
abbrev first : Bytes → ℕ
first [] = 0
first (b ∷ rest) = b

no_word : (b : ℕ) → begins_word b ≡ true → (b == 40) ≡ false
unfolding begins_word
no_word b e = grind (arith, nat_tests)

no_digit : (b : ℕ) → is_digit b ≡ true → (b == 40) ≡ false
unfolding is_digit
no_digit b e = grind (arith, nat_tests)

no_mark : (b : ℕ) → marks_escapes b ≡ true → (b == 40) ≡ false
unfolding marks_escapes
no_mark b e = grind (arith, nat_tests)

apart_from : (b : ℕ) (word rest : Bytes) → word ≡ b ∷ rest → (b == 40) ≡ false → (first word == 40) ≡ true → ⊥
apart_from b word rest e other is = let same : first word ≡ b = ap first e in let here : (b == 40) ≡ true = ap (λ n. n == 40) (sym same) ∙ is in cc

digits_apart : (word : Bytes) → AreDigits word → (first word == 40) ≡ true → ⊥
digits_apart [] d is = absurd (let k = d.0 in omega arith)
digits_apart (b ∷ word) d is = let no = no_digit b (and_parts (is_digit b) (list_all is_digit word) d.1).0 in cc

fronted : (whole more : Bytes) → AreDigits whole → first (whole ++ more) ≡ first whole
fronted [] more d = absurd (let k = d.0 in omega arith)
fronted (b ∷ whole) more d = refl

bracket_kind : (kind : TokenKind) (word : Bytes) → Spells kind word → (first word == 40) ≡ true → kind ≡ Sign 40
bracket_kind Word [] h is = absurd h
bracket_kind Word (b ∷ word) h is = absurd (let no = no_word b h.0 in cc)
bracket_kind QuotedName word h is = absurd (apart_from 34 word _ (h.1 ∙ quoted_is 34 h.0) refl is)
bracket_kind Literal word (inl h) is = absurd (apart_from 39 word _ (h.1 ∙ quoted_is 39 h.0) refl is)
bracket_kind Literal word (inr h) is = absurd (apart_from h.0 word _ h.4 (no_mark h.0 h.2) is)
bracket_kind Number word (inl h) is = absurd (digits_apart word h is)
bracket_kind Number word (inr h) is = absurd (digits_apart h.0 h.2 (ap (λ n. n == 40) (sym (ap first h.4 ∙ fronted h.0 (46 ∷ h.1) h.2)) ∙ is))
bracket_kind (Sign b) word h is = ap (λ (n : ℕ). Sign n) (ap first (sym h.1) ∙ eqb-true (first word) 40 is)
bracket_kind MetaLine word h is = absurd (apart_from 92 word h.0 h.2 refl is)

-- the first byte of what begins with a token is the token's
nonempty : (kind : TokenKind) (word : Bytes) → Spells kind word → 0 < length word
nonempty Word [] h = absurd h
nonempty Word (b ∷ word) h = omega arith
nonempty QuotedName word h = rw (h.1 ∙ quoted_is 34 h.0) (omega arith)
nonempty Literal word (inl h) = rw (h.1 ∙ quoted_is 39 h.0) (omega arith)
nonempty Literal word (inr h) = rw h.4 (omega arith)
nonempty Number word (inl h) = h.0
nonempty Number word (inr h) = rw h.4 (omega (arith, length-append h.0 (46 ∷ h.1)))
nonempty (Sign b) word h = rw h.1 (omega arith)
nonempty MetaLine word h = rw h.2 (omega arith)

first_of : (word rest : Bytes) → 0 < length word → first (word ++ rest) ≡ first word
first_of [] rest some = absurd (omega arith)
first_of (b ∷ word) rest some = refl

byte_is : (v : Bytes) → is_bracketed v ≡ true → (first v == 40) ≡ true
byte_is [] e = absurd cc
byte_is (b ∷ v) e = e

bracket_first : (v : Bytes) (ps : List Piece) (r : Bytes) → start_of (lexemes v ps) ≡ Some 0 → AllCame (lexemes v ps) r → v ≡ spelled (lexemes v ps) ++ r → is_bracketed v ≡ true → starts (is_sign 40) (lexemes v ps) ≡ true
unfolding is_sign
bracket_first v [] r start came whole e = absurd cc
bracket_first v (p ∷ ps) r start came whole e =
    let at : p.token.start ≡ 0 = cc in
    let t = lexeme_of v p in
    let no_gap : t.gap ≡ [] = ap (λ n. take n (drop p.from v)) (let z : p.token.start - p.from ≡ 0 = omega arith in z) in
    let here : v ≡ t.word ++ (spelled (lexemes v ps) ++ r) = whole ∙ ap (λ (g : Bytes). (g ++ (t.word ++ spelled (lexemes v ps))) ++ r) no_gap ∙ append_assoc t.word (spelled (lexemes v ps)) r in
    let byte : (first t.word == 40) ≡ true = ap (λ n. n == 40) (sym (ap first here ∙ first_of t.word (spelled (lexemes v ps) ++ r) (nonempty t.kind t.word came.0.spells))) ∙ byte_is v e in
    let kind : t.kind ≡ Sign 40 = bracket_kind t.kind t.word came.0.spells byte in
    ap (λ (k : TokenKind). is_sign_kind 40 k) kind

bracketed : (v : Bytes) → IsExpressionText v → is_bracketed v ≡ true → IsBracketText v
bracketed v is e =
    let low : 0 ≤ length v = omega arith in
    (is, bracket_first v (collected v 0).pieces (drop (collected v 0).end v) is.first (have_come v 0 low) (whole_text v 0 low) e)

indexes_good : (text : Bytes) (said : IndexText) → index_said text ≡ Some said → grammar.index said.table said.name (record { method = said.method; unique = said.unique; text = said.rest }) ≡ true
unfolding index_said
indexes_good text said e =
    let k = kept (whole index_text text) said e in
    let found = whole_found index_text text said index_text_laws k.0 in
    let came = all_came text found.0 found.1 in
    let is = index_made said found.0 came.0 came.1 found.2 in
    and_from _ _ (path_to said.table is.table) (and_from _ _ (test_from_name said.name is.name) (and_from _ _ (test_from_name said.method is.method) (bracket_to said.rest (bracketed said.rest is.rest k.1))))

-- ---- constraints

stated_writable : (text : Bytes) (s : Stmt) → statement_said text ≡ Some s → IsWritable s
stated_writable text s e = by (statements_of (statement_text text)) refl e
  where
    one : (found : Located) → statements_of (statement_text text) ≡ Ok (found ∷ []) → (b : Bool) → cond {A = Option Stmt} b (Some found.stmt) None ≡ Some s → IsWritable s
    one found read true h = let same : found.stmt ≡ s = cc in subst IsWritable same (read_is_writable (statement_text text) (found ∷ []) read).0
    one found read false h = absurd cc

    by : (r : Result (List Located) DdlFault) → statements_of (statement_text text) ≡ r → only_statement (length (statement_text text)) r ≡ Some s → IsWritable s
    by (Ok []) read h = absurd cc
    by (Ok (found ∷ [])) read h = one found read (found.end == length (statement_text text)) h
    by (Ok (found ∷ other ∷ more)) read h = absurd cc
    by (Err fault) read h = absurd cc

constraints_good : (text : Bytes) (s : Stmt) (c : Constraint) → statement_said text ≡ Some s → constraint_value s ≡ Some (value.Constraint c) → grammar.constraint c ≡ true
constraints_good text s c e is = by s (writable_fit s (stated_writable text s e)) is
  where
    constraint_in : Value → Constraint → Constraint
    constraint_in (value.Constraint x) d = x
    constraint_in _ d = d

    same_in : (v : Value) → Some v ≡ Some (value.Constraint c) → constraint_in v c ≡ c
    same_in v h = let same : v ≡ value.Constraint c = cc in ap (λ w. constraint_in w c) same

    by : (s : Stmt) → IsFit grammar s → constraint_value s ≡ Some (value.Constraint c) → grammar.constraint c ≡ true
    by (stmt.AddPrimary q n columns rest) fit h = subst (λ (d : Constraint). grammar.constraint d ≡ true) (same_in (key_value kinds.Primary columns rest) h) fit
    by (stmt.AddUnique q n columns rest) fit h = subst (λ (d : Constraint). grammar.constraint d ≡ true) (same_in (key_value kinds.Unique columns rest) h) fit
    by (stmt.AddForeign q n columns p ps rest) fit h = subst (λ (d : Constraint). grammar.constraint d ≡ true) (same_in (foreign_value columns p ps rest) h) fit
    by (stmt.AddCheck q n said) fit h = subst (λ (d : Constraint). grammar.constraint d ≡ true) (same_in (check_value said) h) fit
    by _ fit h = absurd cc

pub grammar_reads : Reads grammar
grammar_reads = record { types = types_good; defaults = defaults_good; constraints = constraints_good; indexes = indexes_good; bodies = bodies_good }
