-- Texts that lie one behind another, and the comments of a script.
use Rattle.std.proofs.Common.{◌≡◌, ℕ, Bool, true, false, List, [], ◌∷◌, ◌++◌, append_assoc, Option, Some, None, refl, sym, ap, subst, ◌∙◌, codes}
use Rattle.std.specs.Prelude.{if◌then◌else◌}
use Rattle.std.specs.List.{list_all}
use Rattle.std.specs.Option.{ForSome}
use Rattle.std.specs.Str.{is_utf8, IsUtf8, chars}
use Rattle.std.proofs.Math.Utf8.{encode}
use Rattle.std.proofs.lemmas.Bool.{and_from}
use Rattle.std.proofs.lemmas.Str.{IsUtf8-append, IsUtf8-from_is_utf8}
use Rattle.std.proofs.lemmas.List.Folds.{list_all-append}
use Rattle.sql_lex.specs.Bytes.{in_line}
use Rattle.cat_model.specs.declared.stmt.Stmt.{Stmt}
use Rattle.ddl_laws.specs.Respelling.{spelling}
use Rattle.ddl_laws.specs.Laying.{Lays, IsShown, comment, no_more, empty_line, comment_line, statement_text}
use Rattle.fmt_text.specs.Lines.{title, shown, shown_or_dash}
use Rattle.fmt_text.specs.Parts.{is_table_data, group, told_owner, about}
use Rattle.fmt_text.specs.Script.{versions}
use Rattle.toc_entry.specs.declared.entry.Entry.{Entry}
use Rattle.script_laws.proofs.Shown.{shown_in_line, shown_utf8}

-- ---- one behind another

pub lays_both : (a b : List ℕ) (ss ts : List Stmt) → Lays a ss → Lays b ts → Lays (a ++ b) (ss ++ ts)
lays_both _ b _ ts no_more k = k
lays_both _ b _ ts (empty_line text ss h) k = empty_line (text ++ b) (ss ++ ts) (lays_both text b ss ts h k)
lays_both _ b _ ts (comment_line line text ss shown h) k =
    subst (λ (x : List ℕ). Lays x (ss ++ ts)) (sym (append_assoc (comment line) text b)) (comment_line line (text ++ b) (ss ++ ts) shown (lays_both text b ss ts h k))
lays_both _ b _ ts (statement_text s text ss can h) k =
    subst (λ (x : List ℕ). Lays x (s ∷ (ss ++ ts))) (sym (append_assoc (spelling s) text b)) (statement_text s (text ++ b) (ss ++ ts) can (lays_both text b ss ts h k))

-- two empty lines
pub two_lines : Lays (10 ∷ 10 ∷ []) []
two_lines = empty_line (10 ∷ []) [] (empty_line [] [] no_more)

-- ---- what comments show

pub both_shown : (a b : List ℕ) → IsShown a → IsShown b → IsShown (a ++ b)
both_shown a b h k = (list_all-append in_line a b ∙ and_from (list_all in_line a) (list_all in_line b) h.0 k.0, IsUtf8-append a b h.1 k.1)

pub known_shown : (text : List ℕ) → list_all in_line text ≡ true → is_utf8 text ≡ true → IsShown text
known_shown text e utf8 = (e, IsUtf8-from_is_utf8 text utf8)

pub text_shown : (text : List ℕ) → IsUtf8 text → IsShown (shown text)
text_shown text utf8 = (shown_in_line text, shown_utf8 text utf8)

-- a comment between two lines of dashes, and an empty line
pub title_lays : (text : List ℕ) → IsShown (32 ∷ text) → Lays (title text) []
unfolding in_line is_utf8 chars encode
title_lays text is =
    let none : IsShown [] = known_shown [] refl refl in
    subst (λ (x : List ℕ). Lays x []) (ap (λ (x : List ℕ). codes "--\n-- " ++ x) (append_assoc text (10 ∷ []) (codes "--\n\n")))
    (comment_line [] (comment (32 ∷ text) ++ codes "--\n\n") [] none
    (comment_line (32 ∷ text) (codes "--\n\n") [] is
    (comment_line [] (10 ∷ []) [] none (empty_line [] [] no_more))))

pub versions_lay : (server dumper : List ℕ) → IsUtf8 server → IsUtf8 dumper → Lays (versions server dumper) []
unfolding versions in_line is_utf8 chars encode
versions_lay server dumper s d =
    let of = codes " Dumped from database version " ++ shown server in
    let by = codes " Dumped by pg_dump version " ++ shown dumper in
    let of_is : IsShown of = both_shown (codes " Dumped from database version ") (shown server) (known_shown _ refl refl) (text_shown server s) in
    let by_is : IsShown by = both_shown (codes " Dumped by pg_dump version ") (shown dumper) (known_shown _ refl refl) (text_shown dumper d) in
    subst (λ (x : List ℕ). Lays x []) (sym (append_assoc (comment of) (comment by) (10 ∷ [])))
    (comment_line of (comment by ++ 10 ∷ []) [] of_is (comment_line by (10 ∷ []) [] by_is (empty_line [] [] no_more)))

-- ---- what an entry is called

dash_shown : (text : Option (List ℕ)) → ForSome text IsUtf8 → IsShown (shown_or_dash text)
unfolding in_line is_utf8 chars encode
dash_shown None is = known_shown _ refl refl
dash_shown (Some text) is = text_shown text (is text refl)

either_shown : (b : Bool) → IsShown (codes " " ++ (if b then codes "Data for Name: " else codes "Name: "))
unfolding in_line is_utf8 chars encode
either_shown true = known_shown _ refl refl
either_shown false = known_shown _ refl refl

told_utf8 : (owners : Bool) (owner : Option (List ℕ)) → ForSome owner IsUtf8 → ForSome (if owners then owner else None) IsUtf8
told_utf8 true owner is = is
told_utf8 false owner is = λ text e. is text (absurd (none_some text e))
  where
    none_some : (text : List ℕ) → None ≡ Some text → ⊥
    none_some text e = cc

pub about_shown : (owners : Bool) (e : Entry) → IsUtf8 e.tag → IsUtf8 e.desc → ForSome e.namespace IsUtf8 → ForSome e.owner IsUtf8 → IsShown (32 ∷ about owners e)
unfolding about in_line is_utf8 chars encode
about_shown owners e tag desc namespace owner =
    both_shown _ (shown_or_dash (told_owner owners e))
    (both_shown _ (codes "; Owner: ")
    (both_shown _ (shown_or_dash e.namespace)
    (both_shown _ (codes "; Schema: ")
    (both_shown _ (shown e.desc)
    (both_shown _ (codes "; Type: ")
    (both_shown (codes " " ++ group e) (shown e.tag) (either_shown (is_table_data e.desc)) (text_shown e.tag tag))
    (known_shown _ refl refl))
    (text_shown e.desc desc))
    (known_shown _ refl refl))
    (dash_shown e.namespace namespace))
    (known_shown _ refl refl))
    (dash_shown (told_owner owners e) (told_utf8 owners e.owner owner))
