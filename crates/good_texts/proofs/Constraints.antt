-- A constraint's text is read whole, as the statement that adds it.
use Rattle.std.proofs.Common.{◌≡◌, ℕ, ◌+◌, Bool, true, false, cond, List, [], ◌∷◌, ◌++◌, length, append-nil, Option, Some, None, Result, Ok, refl, sym, ap, subst, ◌∙◌, arith, inl, inr, codes}
use Rattle.std.proofs.lemmas.Bool.{and_parts, eq-eqb}
use Rattle.std.specs.Str.{is_utf8, chars}
use Rattle.std.proofs.Math.Utf8.{encode}
use Rattle.sql_lex.specs.Bytes.{is_digit, begins_word, in_word}
use Rattle.sql_lex.specs.Reserved.{is_reserved}
use Rattle.sql_lex.specs.Written.{begins_bare, is_bare, written_name}
use Rattle.sql_lex.proofs.Passing.{next_at_end}
use Rattle.copy_text.specs.Texts.{IsName}
use Rattle.copy_text.proofs.TextLemmas.{name_from_test}
use Rattle.cat_model.specs.declared.constraint.ConstraintKind.TheVariants as kinds
use Rattle.cat_model.specs.declared.object.QName.{QName}
use Rattle.cat_model.specs.declared.constraint.ConstraintKind.{ConstraintKind}
use Rattle.cat_model.specs.declared.value.Constraint.{Constraint as StoredConstraint}
use Rattle.cat_model.specs.declared.value.Value.TheVariants as value
use Rattle.cat_model.specs.declared.stmt.Stmt.{Stmt}
use Rattle.cat_model.specs.declared.stmt.Stmt.TheVariants as stmt
use Rattle.cat_sound.specs.Itself.{check_of, IsConstraint, IsOfKind}
use Rattle.cat_model.specs.Values.{Bytes}
use Rattle.ddl_laws.specs.Collecting.{Collected, collected, collected_within, collected_by}
use Rattle.ddl_laws.specs.Expressions.{nested}
use Rattle.ddl_laws.specs.Lexemes.{Lexeme, start_of}
use Rattle.ddl_laws.specs.Pieces.{lexemes}
use Rattle.ddl_laws.specs.pieces.Piece.{Piece}
use Rattle.ddl_laws.specs.Texts.{semicolon}
use Rattle.ddl_laws.specs.alters.Constraint.{Constraint}
use Rattle.ddl_laws.specs.alters.Constraint.TheVariants.{Check, Primary, Unique, Foreign as ForeignKey}
use Rattle.ddl_laws.specs.alters.TableChange.{TableChange}
use Rattle.ddl_laws.specs.alters.TableChange.TheVariants.{Added, Owner}
use Rattle.ddl_laws.specs.fault.DdlFault.{DdlFault}
use Rattle.ddl_laws.specs.LeafParts.{leaf_has, name}
use Rattle.ddl_laws.specs.Syntax.{none, blank, feed, Syntax, leaf, led, both, seen, ended, either, tabled, part, has, Fits, pieces}
use Rattle.ddl_laws.specs.Grammar.{constraint_body, own_change, table_change, constrained, table_changed, change_of, altered_table, altered, command, statement}
use Rattle.ddl_laws.specs.Reading.{Whole, whole, completed, first_start, listed}
use Rattle.ddl_laws.specs.Paths.{path, joined, listed as names_listed}
use Rattle.ddl_laws.specs.Keys.{rest_text}
use Rattle.ddl_laws.specs.Readings.{IsStatement, Reads, all_read, one_read}
use Rattle.ddl_laws.proofs.Closing.{ends_with, only_last}
use Rattle.ddl_laws.proofs.Putting.{IsPut, put_as, same_text, nothing_follows, joined-append}
use Rattle.ddl_laws.proofs.Spelled.{by_syntax}
use Rattle.ddl_laws.proofs.Standing.{Stood, placed}
use Rattle.ddl_laws.proofs.Tokens.{none as no_gap, is_single}
use Rattle.ddl_laws.proofs.Written.{is_key}
use Rattle.ddl_laws.proofs.ReadingLaws.{collected_first, only}
use Rattle.ddl_laws.proofs.LeafFacts.{leaf_as, leaf_sound, leaf_shape}
use Rattle.ddl_laws.proofs.LeafLaws.{deferral_laws, reactions_laws}
use Rattle.ddl_laws.proofs.Owing.{Owes, Apart, LeafApart}
use Rattle.ddl_laws.proofs.Said.{shape, sound, said}
use Rattle.ddl_laws.proofs.Shapes.{begins_with}
use Rattle.ddl_laws.proofs.Whole.{table_back, constraint_owes, statement_closes}
use Rattle.cat_naming.specs.Constraints.{constraint_value}
use Rattle.std.specs.Option.{option_and_then}
use Rattle.constraint_table.specs.Said.{statement_text, only_statement, statement_said}
use Rattle.sound_texts.specs.Grammar.{grammar}
use Rattle.sound_texts.proofs.Tested.{run_from, columns_from, rest_from, path_from}
use Rattle.good_texts.specs.Rows.{key_said, foreign_said, check_said, some_table, constraint_text}
use Rattle.good_texts.proofs.Wholes.{are_collected, ends_well}

-- ---- the statement around a constraint's text

-- the change of the table alone with spaces as they are there: ADD stands in the same line, and the semicolon in the next
abbrev others_of : {A : Type 0} → Syntax A → Syntax A
others_of (either gap w s t) = t
others_of s = s

unfoldable own_there : Syntax TableChange
own_there = either blank (codes "ADD") (seen (λ x. Added x.0 x.1) (elim [ Added n c ↦ Some (n, c) | _ ↦ None ]) (led blank (codes "CONSTRAINT") (both (leaf blank name) (ended constraint_body feed 59)))) (others_of own_change)

unfoldable there : Syntax Stmt
there = led none (codes "ALTER") (led blank (codes "TABLE") (seen (λ x. table_changed x.0 x.1) change_of (tabled own_there table_change)))

there_sound : sound there ≡ true
unfolding there own_there own_change table_change constraint_body sound shape begins_with leaf_sound leaf_shape leaf_as is_single is_key
there_sound = refl

there_fits_own : (c : TableChange) → has own_there c ≡ true → Fits table_change c → Fits own_there c
unfolding own_there own_change table_change has Fits
there_fits_own (Owner role) e fit = absurd cc
there_fits_own c e fit = fit

there_owes : Owes there
unfolding there own_there own_change table_change has leaf_has Owes Apart LeafApart
there_owes = search (arith, table_back, there_fits_own, constraint_owes)

-- what is spelled so is a statement
there_spells : (s : Stmt) (ts : List Lexeme) → (part there).Spells s ts → statement.Spells (Some s) ts
unfolding there own_there own_change part statement command altered altered_table
there_spells s ts h = inr (s, refl, inr (inl (h.0, h.1, (h.2.0, h.2.1, h.2.2, h.2.3, inr (inr (inr (inl h.2.4)))))))

-- ---- what a text in tokens that spell a statement reads as

first_is : (text : Bytes) (ps : List Piece) → start_of (lexemes text ps) ≡ first_start ps
first_is text [] = refl
first_is text (p ∷ ps) = refl

some_first : (test : Lexeme → Bool) (ts : List Lexeme) → ends_with test ts ≡ true → (start : ℕ) × (start_of ts ≡ Some start)
some_first test [] e = absurd cc
some_first test (t ∷ ts) e = (t.start, refl)

nothing_left : (text : Bytes) → Reads text (length text) []
nothing_left text =
    let is = collected_first text (length text) ∙ ap (collected_by (collected_within (length text) text) (length text)) (next_at_end text (length text) refl) in
    all_read (length text) (ap (λ (c : Collected). first_start c.pieces) is) (ap (λ (c : Collected). c.fault) is)

abbrev added_to : Constraint → Stmt
added_to c = constrained some_table (codes "a") c

is_whole : (c : Constraint) (text : Bytes) (end : ℕ) → completed text end (Some (added_to c)) ≡ Ok (whole (Some (added_to c)) end)
is_whole (Check v) text end = refl
is_whole c text end = refl

abbrev ends_at : Stmt → ℕ → Result Whole DdlFault
ends_at s n = Ok (whole (Some s) n)

put_said : (c : Constraint) (text : Bytes) → IsPut statement (Some (added_to c)) (statement_text text) [] → statement_said text ≡ Some (added_to c)
put_said c text k =
    let s = added_to c in
    let t = statement_text text in
    let stood = subst Stood (append-nil k.tokens) k.stood in
    let last = ap (only_last semicolon) (sym (append-nil k.tokens)) ∙ k.last in
    let are = are_collected t k.tokens k.bytes stood last in
    let first = some_first semicolon (placed 0 k.tokens) (statement_closes (Some s) (placed 0 k.tokens) (k.spells 0)) in
    let ends : (collected t 0).end ≡ length t = are.end ∙ ap (λ (x : Bytes). 0 + length x) k.bytes ∙ (let e : 0 + length t ≡ length t = omega arith in e) in
    let is : IsStatement t 0 (Some s) first.0 (length t) = record {
      first = sym (first_is t (collected t 0).pieces) ∙ ap start_of are.tokens ∙ first.1;
      header = Some s;
      spells = subst (λ (us : List Lexeme). statement.Spells (Some s) us) (sym are.tokens) (k.spells 0);
      all = is_whole c t (collected t 0).end ∙ ap (λ n. ends_at s n) ends;
    } in
    ap (only_statement (length t)) (only t (listed (Some s) first.0 (length t) []) (one_read 0 (Some s) first.0 (length t) [] is (nothing_left t)))
    ∙ ap (λ (b : Bool). cond {A = Option Stmt} b (Some s) None) (eq-eqb (length t) (length t) refl)

-- ---- the text of a constraint in its statement

a_written : written_name (codes "a") ≡ codes "a"
unfolding written_name is_bare begins_bare is_reserved begins_word in_word is_digit
a_written = refl

a_named : IsName (codes "a")
unfolding is_utf8 chars encode
a_named = name_from_test (codes "a") refl

path_written : path some_table ≡ codes "a.a"
unfolding path
path_written = ap (λ (x : Bytes). x ++ (46 ∷ x)) a_written

there_fits : (c : Constraint) → Fits constraint_body c → Fits there (added_to c)
unfolding there own_there by_syntax
there_fits (Check text) fit = (((a_named, a_named), ((a_named, fit), refl)), refl)
there_fits c fit = (((a_named, a_named), ((a_named, fit), refl)), refl)

there_text : (c : Constraint) → joined (pieces [] there (added_to c)) ≡ codes "ALTER TABLE ONLY " ++ (path some_table ++ (codes " ADD CONSTRAINT " ++ (written_name (codes "a") ++ joined (pieces [] constraint_body c ++ (codes "\n" ∷ codes ";" ∷ [])))))
unfolding there own_there by_syntax
there_text (Check text) = refl
there_text c = refl

fit_said : (c : Constraint) → Fits constraint_body c → (text : Bytes) → joined (pieces [] constraint_body c) ≡ 32 ∷ text → statement_said text ≡ Some (added_to c)
fit_said c fit text is =
    let s = added_to c in
    let k = (said no_gap there there_sound there_owes).put s (there_fits c fit) [] nothing_follows (ends_well (shape there).after) in
    put_said c text (put_as (part there) statement s (Some s) (statement_text text) [] (same_text (joined (pieces [] there s)) (statement_text text) (there_text c ∙ bytes) k) (there_spells s))
  where
    last : List Bytes
    last = codes "\n" ∷ codes ";" ∷ []

    bytes : codes "ALTER TABLE ONLY " ++ (path some_table ++ (codes " ADD CONSTRAINT " ++ (written_name (codes "a") ++ joined (pieces [] constraint_body c ++ last)))) ≡ statement_text text
    bytes = rw (path_written, a_written, joined-append (pieces [] constraint_body c) last, is) refl

-- ---- each kind

key_bytes : (words : Bytes) (columns : List Bytes) (rest : Bytes) → words ++ (names_listed columns ++ (rest_text rest ++ [])) ≡ key_said words columns rest
key_bytes words columns rest = ap (λ (x : Bytes). words ++ (names_listed columns ++ x)) (append-nil (rest_text rest))

pub primaries_read : (columns : List Bytes) (rest : Bytes) → grammar.constraint (record { kind = kinds.Primary; columns = columns; parent = None; text = rest }) ≡ true → statement_said (key_said (codes "PRIMARY KEY ") columns rest) ≡ Some (stmt.AddPrimary some_table (codes "a") columns rest)
unfolding by_syntax
primaries_read columns rest e =
    let a = and_parts _ _ e in
    fit_said (Primary columns rest) ((columns_from columns a.0, rest_from deferral_laws rest a.1), refl) (key_said (codes "PRIMARY KEY ") columns rest) (key_bytes (codes " PRIMARY KEY ") columns rest)

pub uniques_read : (columns : List Bytes) (rest : Bytes) → grammar.constraint (record { kind = kinds.Unique; columns = columns; parent = None; text = rest }) ≡ true → statement_said (key_said (codes "UNIQUE ") columns rest) ≡ Some (stmt.AddUnique some_table (codes "a") columns rest)
unfolding by_syntax
uniques_read columns rest e =
    let a = and_parts _ _ e in
    fit_said (Unique columns rest) ((columns_from columns a.0, rest_from deferral_laws rest a.1), refl) (key_said (codes "UNIQUE ") columns rest) (key_bytes (codes " UNIQUE ") columns rest)

pub foreign_keys_read : (columns : List Bytes) (parent : QName) (parents : List Bytes) (rest : Bytes) → grammar.constraint (record { kind = kinds.Foreign; columns = columns; parent = Some (parent, parents); text = rest }) ≡ true → statement_said (foreign_said columns parent parents rest) ≡ Some (stmt.AddForeign some_table (codes "a") columns parent parents rest)
unfolding by_syntax
foreign_keys_read columns parent parents rest e =
    let a = and_parts _ _ e in
    let b = and_parts _ _ a.1 in
    let c = and_parts _ _ b.0 in
    fit_said (ForeignKey columns parent parents rest) ((columns_from columns a.0, (path_from parent c.0, (columns_from parents c.1, rest_from reactions_laws rest b.1))), refl) (foreign_said columns parent parents rest)
    (ap (λ (x : Bytes). codes " FOREIGN KEY " ++ (names_listed columns ++ (codes " REFERENCES " ++ (path parent ++ (names_listed parents ++ x))))) (append-nil (rest_text rest)))

pub checks_read : (v : Bytes) → grammar.constraint (check_of v) ≡ true → statement_said (check_said v) ≡ Some (stmt.AddCheck some_table (codes "a") v)
unfolding by_syntax
checks_read v e = fit_said (Check v) (run_from (nested false false) v e, refl) (check_said v) refl

-- ---- all of them

pub in_order_read : (c : StoredConstraint) → IsConstraint grammar c → option_and_then constraint_value (statement_said (constraint_text c)) ≡ Some (value.Constraint c)
in_order_read c is = by c.kind c.columns c.parent c.text is.text is.kind
  where
    by : (k : ConstraintKind) (columns : List Bytes) (parent : Option (QName × List Bytes)) (text : Bytes) → grammar.constraint (record { kind = k; columns = columns; parent = parent; text = text }) ≡ true → IsOfKind (record { kind = k; columns = columns; parent = parent; text = text }) k
        → option_and_then constraint_value (statement_said (constraint_text (record { kind = k; columns = columns; parent = parent; text = text }))) ≡ Some (value.Constraint (record { kind = k; columns = columns; parent = parent; text = text }))
    by kinds.Primary columns None text good kind = ap (option_and_then constraint_value) (primaries_read columns text good)
    by kinds.Primary columns (Some p) text good kind = absurd cc
    by kinds.Unique columns None text good kind = ap (option_and_then constraint_value) (uniques_read columns text good)
    by kinds.Unique columns (Some p) text good kind = absurd cc
    by kinds.Foreign columns None text good kind = absurd kind
    by kinds.Foreign columns (Some (parent, parents)) text good kind = ap (option_and_then constraint_value) (foreign_keys_read columns parent parents text good)
    by kinds.Check [] None text good kind = ap (option_and_then constraint_value) (checks_read text good)
    by kinds.Check [] (Some p) text good kind = let no = kind.0 in absurd cc
    by kinds.Check (n ∷ ns) parent text good kind = let no = kind.1 in absurd cc
