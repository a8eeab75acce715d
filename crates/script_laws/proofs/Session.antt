-- The statements that prepare the session can be written, and lie in the head of a script.
use Rattle.std.proofs.Common.{◌≡◌, ℕ, List, [], ◌∷◌, ◌++◌, Ok, refl, subst, codes}
use Rattle.cat_model.specs.declared.stmt.Stmt.{Stmt}
use Rattle.cat_model.specs.declared.stmt.Stmt.TheVariants as stmt
use Rattle.ddl_laws.specs.located.Located.{Located}
use Rattle.ddl_laws.specs.Reading.{statements_of}
use Rattle.ddl_grammar.proofs.Spelled.{spelled_out}
use Rattle.ddl_laws.specs.Respelling.{spelling}
use Rattle.ddl_laws.specs.Laying.{Lays, no_more, empty_line, statement_text}
use Rattle.ddl_laws.specs.{Respelling.AllWritable, Spellings.said}
use Rattle.ddl_laws.proofs.Computing.{reads}
use Rattle.fmt_text.specs.Script.{session}
use Rattle.script_laws.specs.Scripts.{session_statements}

-- what was read can be written
abbrev pub ReadLaw : Type 0
ReadLaw = (text : List ℕ) (statements : List Located) → statements_of text ≡ Ok statements → AllWritable (said statements)

abbrev alone : Stmt → ℕ → List Located
alone s end = record { stmt = s; start = 0; end = end } ∷ []

timeout_read : statements_of (codes "SET statement_timeout = 0;") ≡ Ok (alone (stmt.Set (codes "statement_timeout") (codes "0")) 26)
unfolding reads
timeout_read = refl

lock_read : statements_of (codes "SET lock_timeout = 0;") ≡ Ok (alone (stmt.Set (codes "lock_timeout") (codes "0")) 21)
unfolding reads
lock_read = refl

idle_read : statements_of (codes "SET idle_in_transaction_session_timeout = 0;") ≡ Ok (alone (stmt.Set (codes "idle_in_transaction_session_timeout") (codes "0")) 44)
unfolding reads
idle_read = refl

encoding_read : statements_of (codes "SET client_encoding = 'UTF8';") ≡ Ok (alone (stmt.Set (codes "client_encoding") (codes "'UTF8'")) 29)
unfolding reads
encoding_read = refl

strings_read : statements_of (codes "SET standard_conforming_strings = on;") ≡ Ok (alone (stmt.Set (codes "standard_conforming_strings") (codes "on")) 37)
unfolding reads
strings_read = refl

path_read : statements_of (codes "SELECT pg_catalog.set_config('search_path', '', false);") ≡ Ok (alone (stmt.SetConfig (codes "search_path") []) 55)
unfolding reads
path_read = refl

bodies_read : statements_of (codes "SET check_function_bodies = false;") ≡ Ok (alone (stmt.Set (codes "check_function_bodies") (codes "false")) 34)
unfolding reads
bodies_read = refl

xml_read : statements_of (codes "SET xmloption = content;") ≡ Ok (alone (stmt.Set (codes "xmloption") (codes "content")) 24)
unfolding reads
xml_read = refl

messages_read : statements_of (codes "SET client_min_messages = warning;") ≡ Ok (alone (stmt.Set (codes "client_min_messages") (codes "warning")) 34)
unfolding reads
messages_read = refl

security_read : statements_of (codes "SET row_security = off;") ≡ Ok (alone (stmt.Set (codes "row_security") (codes "off")) 23)
unfolding reads
security_read = refl

-- its spelling, behind which others lie
spelled_before : (law : ReadLaw) (s : Stmt) (read words text : List ℕ) (end : ℕ) (ss : List Stmt) → statements_of read ≡ Ok (alone s end) → spelling s ≡ words → Lays text ss → Lays (words ++ text) (s ∷ ss)
spelled_before law s read words text end ss e spells lays = subst (λ (x : List ℕ). Lays (x ++ text) (s ∷ ss)) spells (statement_text s text ss (law read (alone s end) e).0 lays)

pub session_lays : ReadLaw → Lays session session_statements
unfolding session spelled_out
session_lays law =
    spelled_before law (stmt.Set (codes "statement_timeout") (codes "0")) _ (codes "SET statement_timeout = 0;\n") _ 26 _ timeout_read refl (
    spelled_before law (stmt.Set (codes "lock_timeout") (codes "0")) _ (codes "SET lock_timeout = 0;\n") _ 21 _ lock_read refl (
    spelled_before law (stmt.Set (codes "idle_in_transaction_session_timeout") (codes "0")) _ (codes "SET idle_in_transaction_session_timeout = 0;\n") _ 44 _ idle_read refl (
    spelled_before law (stmt.Set (codes "client_encoding") (codes "'UTF8'")) _ (codes "SET client_encoding = 'UTF8';\n") _ 29 _ encoding_read refl (
    spelled_before law (stmt.Set (codes "standard_conforming_strings") (codes "on")) _ (codes "SET standard_conforming_strings = on;\n") _ 37 _ strings_read refl (
    spelled_before law (stmt.SetConfig (codes "search_path") []) _ (codes "SELECT pg_catalog.set_config('search_path', '', false);\n") _ 55 _ path_read refl (
    spelled_before law (stmt.Set (codes "check_function_bodies") (codes "false")) _ (codes "SET check_function_bodies = false;\n") _ 34 _ bodies_read refl (
    spelled_before law (stmt.Set (codes "xmloption") (codes "content")) _ (codes "SET xmloption = content;\n") _ 24 _ xml_read refl (
    spelled_before law (stmt.Set (codes "client_min_messages") (codes "warning")) _ (codes "SET client_min_messages = warning;\n") _ 34 _ messages_read refl (
    spelled_before law (stmt.Set (codes "row_security") (codes "off")) _ (codes "SET row_security = off;\n") _ 23 _ security_read refl
    (empty_line [] [] no_more))))))))))
