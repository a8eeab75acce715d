-- A script: a head that names the two versions and prepares the session, a part for each entry, and an end.
use Rattle.std.specs.Prelude.{ℕ, Bool, List, [], ◌∷◌, ◌++◌, Option, codes}
use Rattle.std.specs.Global.{Vec}
use Rattle.std.specs.Option.{option_map}
use Rattle.std.specs.List.{flat_map}
use Rattle.toc_entry.specs.declared.entry.Entry.{Entry}
use Rattle.toc_entry.specs.declared.head.Head.{Head}
use Rattle.fmt_text.specs.Lines.{line, title, shown}
use Rattle.fmt_text.specs.Parts.{part}

-- the statements that prepare the session
abbrev pub settings : List (List ℕ)
settings =
    codes "SET statement_timeout = 0;" ∷
    codes "SET lock_timeout = 0;" ∷
    codes "SET idle_in_transaction_session_timeout = 0;" ∷
    codes "SET client_encoding = 'UTF8';" ∷
    codes "SET standard_conforming_strings = on;" ∷
    codes "SELECT pg_catalog.set_config('search_path', '', false);" ∷
    codes "SET check_function_bodies = false;" ∷
    codes "SET xmloption = content;" ∷
    codes "SET client_min_messages = warning;" ∷
    codes "SET row_security = off;" ∷ []

-- the two versions, as comments, and an empty line
unfoldable pub versions : List ℕ → List ℕ → List ℕ
versions server dumper = line (codes "-- Dumped from database version " ++ shown server) ++ line (codes "-- Dumped by pg_dump version " ++ shown dumper) ++ codes "\n"

-- these statements, and an empty line
unfoldable pub session : List ℕ
session = flat_map line settings ++ codes "\n"

unfoldable pub script_head : Head → List ℕ
script_head head = title (codes "PostgreSQL database dump") ++ versions head.server head.dumper ++ session

unfoldable pub script_end : List ℕ
script_end = title (codes "PostgreSQL database dump complete")

-- the parts of the entries, one after another
unfoldable pub parts : Bool → List (Entry × Option (Vec ℕ)) → List ℕ
parts owners entries = flat_map (λ e. part owners e.0 (option_map (λ rows. rows.items) e.1)) entries

-- the whole script, with the owners of objects or without them
unfoldable pub script : Head → List (Entry × Option (Vec ℕ)) → Bool → List ℕ
script head entries owners = script_head head ++ parts owners entries ++ script_end
