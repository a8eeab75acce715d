-- Each test says what it tests.
use Rattle.std.proofs.Common.{◌≡◌, ℕ, true, false, List, [], ◌∷◌, Option, Some, None, Ok, Err, refl, sym, ap, subst, ◌∙◌, append-nil}
use Rattle.std.proofs.lemmas.Bool.{and_parts, and_from, eqb-true, eq-eqb}
use Rattle.std.specs.List.{AllByRecursion, list_all}
use Rattle.copy_text.specs.Texts.{IsName, is_name}
use Rattle.copy_text.proofs.TextLemmas.{name_from_test, test_from_name}
use Rattle.cat_model.specs.declared.object.QName.{QName}
use Rattle.cat_model.specs.declared.type_name.TypeName.{TypeName}
use Rattle.cat_model.specs.declared.type_name.TypeName.TheVariants.{Words, Path}
use Rattle.cat_model.specs.Values.{Bytes}
use Rattle.cat_model.proofs.MarkLaws.{same_text-equal, same_text-self}
use Rattle.ddl_laws.specs.Lexemes.{Lexeme, start_of}
use Rattle.ddl_laws.specs.Parts.{Part, Reading, Machine, run, Runs}
use Rattle.ddl_laws.specs.Expressions.{nested}
use Rattle.ddl_laws.specs.Types.{typing, type_of}
use Rattle.ddl_laws.specs.Texts.{IsPath, IsRunText, IsBracketText, IsType}
use Rattle.ddl_laws.specs.Laws.{Lawful}
use Rattle.ddl_laws.specs.Respelling.{AreColumns, IsRest}
use Rattle.sound_texts.specs.Tests.{tokens, is_at_start, is_done, is_run, is_bracketed, is_path, are_words, is_type_text, is_type, are_columns, is_rest, is_all}

-- ---- runs

begins : (o : Option ℕ) → is_at_start o ≡ true → o ≡ Some 0
begins None e = absurd cc
begins (Some at) e = ap (λ (n : ℕ). Some n) (eqb-true at 0 e)

ran : (m : Machine) (v : Bytes) (o : Option m.State) → run m (Some m.start) (tokens v) ≡ o → is_done m o ≡ true → Runs m (tokens v)
ran m v None is e = absurd cc
ran m v (Some s) is e = record { last = s; runs = is; done = e }

pub run_from : (m : Machine) (v : Bytes) → is_run m v ≡ true → IsRunText m v
unfolding is_run
run_from m v e =
    let a = and_parts _ _ e in
    let b = and_parts _ _ a.1 in
    record { first = begins (start_of (tokens v)) a.0; last = eqb-true _ _ b.0; runs = ran m v (run m (Some m.start) (tokens v)) refl b.1 }

pub run_to : (m : Machine) (v : Bytes) → IsRunText m v → is_run m v ≡ true
unfolding is_run
run_to m v is =
    and_from _ _ (ap is_at_start is.first) (and_from _ _ (eq-eqb _ _ is.last) (ap (is_done m) is.runs.runs ∙ is.runs.done))

pub bracket_from : (v : Bytes) → is_bracketed v ≡ true → IsBracketText v
unfolding is_bracketed
bracket_from v e = let a = and_parts _ _ e in (run_from (nested false false) v a.0, a.1)

pub bracket_to : (v : Bytes) → IsBracketText v → is_bracketed v ≡ true
unfolding is_bracketed
bracket_to v is = and_from _ _ (run_to (nested false false) v is.0) is.1

-- ---- names and types

pub path_from : (q : QName) → is_path q ≡ true → IsPath q
path_from q e = let a = and_parts _ _ e in (name_from_test q.schema a.0, name_from_test q.name a.1)

pub path_to : (q : QName) → IsPath q → is_path q ≡ true
path_to q is = and_from _ _ (test_from_name q.schema is.0) (test_from_name q.name is.1)

words : (v : Bytes) (t : TypeName) → are_words v t ≡ true → t ≡ Words v
words v (Words text) e = ap (λ (x : Bytes). Words x) (same_text-equal text v e)
words v (Path q) e = absurd cc

pub type_from : (t : TypeName) → is_type t ≡ true → IsType t
unfolding is_type_text
type_from (Words v) e = let a = and_parts _ _ e in record { run = run_from typing v a.0; words = words v (type_of (tokens v)) a.1 }
type_from (Path q) e = path_from q e

pub type_to : (t : TypeName) → IsType t → is_type t ≡ true
unfolding is_type_text
type_to (Words v) is = and_from _ _ (run_to typing v is.run) (ap (are_words v) is.words ∙ same_text-self v)
type_to (Path q) is = path_to q is

-- ---- keys

names_from : (names : List Bytes) → list_all is_name names ≡ true → AllByRecursion IsName names
names_from [] e = tt
names_from (n ∷ ns) e = let a = and_parts (is_name n) (list_all is_name ns) e in (name_from_test n a.0, names_from ns a.1)

names_to : (names : List Bytes) → AllByRecursion IsName names → list_all is_name names ≡ true
names_to [] is = refl
names_to (n ∷ ns) is = and_from (is_name n) (list_all is_name ns) (test_from_name n is.0) (names_to ns is.1)

pub columns_from : (names : List Bytes) → are_columns names ≡ true → AreColumns names
columns_from [] e = absurd cc
columns_from (n ∷ ns) e = names_from (n ∷ ns) e

pub columns_to : (names : List Bytes) → AreColumns names → are_columns names ≡ true
columns_to [] is = absurd is
columns_to (n ∷ ns) is = names_to (n ∷ ns) is

read_all : {p : Part (Unit {0})} → Lawful p → (ts : List Lexeme) (r : Reading (Unit {0})) → p.read ts ≡ r → is_all r ≡ true → p.Spells tt ts
read_all {p} laws ts (Ok (v, [])) is e = let f = laws.found ts v [] is in subst (p.Spells v) (sym (f.parts ∙ append-nil f.front)) f.spells
read_all {p} laws ts (Ok (v, t ∷ rest)) is e = absurd cc
read_all {p} laws ts (Err s) is e = absurd cc

all_read : {p : Part (Unit {0})} → Lawful p → (ts : List Lexeme) → p.Spells tt ts → is_all (p.read ts) ≡ true
all_read {p} laws ts spells = ap (λ us. is_all (p.read us)) (sym (append-nil ts)) ∙ ap is_all (laws.only tt ts [] spells refl)

pub rest_from : {p : Part (Unit {0})} (laws : Lawful p) (v : Bytes) → is_rest p v ≡ true → IsRest p v
rest_from laws [] e = tt
rest_from {p} laws (b ∷ v) e =
    let a = and_parts _ _ e in
    let c = and_parts _ _ a.1 in
    record { first = begins (start_of (tokens (b ∷ v))) a.0; last = eqb-true _ _ c.0; runs = read_all laws (tokens (b ∷ v)) (p.read (tokens (b ∷ v))) refl c.1 }

pub rest_to : {p : Part (Unit {0})} (laws : Lawful p) (v : Bytes) → IsRest p v → is_rest p v ≡ true
rest_to laws [] is = refl
rest_to laws (b ∷ v) is = and_from _ _ (ap is_at_start is.first) (and_from _ _ (eq-eqb _ _ is.last) (all_read laws (tokens (b ∷ v)) is.runs))
