-- Worked examples: what is told of a schema that two entries make, of two parents with one key, and of an owner that isn't
-- there.
use Rattle.std.specs.Prelude.{ℕ, List, [], ◌∷◌, None, codes}
use Rattle.cat_model.specs.declared.cause.Cause.TheVariants.{Exists, Absent, Duplicate}
use Rattle.cat_model.specs.declared.key.Key.TheVariants as key
use Rattle.cat_model.specs.Values.{Bytes}
use Rattle.fmt_text.specs.Examples.{entry_of}
use Rattle.restore_plan.specs.declared.status.EntryStatus.{EntryStatus}
use Rattle.restore_plan.specs.declared.status.EntryStatus.TheVariants.{Done, Refused, Skipped}
use Rattle.restore_plan.specs.declared.status.Note.{Note}
use Rattle.toc_entry.specs.declared.entry.Entry.{Entry}

abbrev pub tool : Bytes
tool = codes "pg_restore"

-- an entry by its dump id, its kind and its name
abbrev pub archived : ℕ → List ℕ → List ℕ → Entry
archived id desc tag = record (entry_of desc tag None None None) { dump_id = id }

-- ---- one schema twice

abbrev pub two_archived : List Entry
two_archived = archived 5 (codes "SCHEMA") (codes "a") ∷ archived 6 (codes "SCHEMA") (codes "a") ∷ []

abbrev pub second_refused : List EntryStatus
second_refused = Done ∷ Refused 1 (Exists (key.Schema (codes "a"))) ∷ []

abbrev pub second_told : List ℕ
second_told = codes "pg_restore: error: entry 6 SCHEMA a: schema a already exists\npg_restore: warning: errors ignored on restore: 1\n"

abbrev pub stop_at_second : List ℕ
stop_at_second = codes "pg_restore: error: stopped at entry 6: schema a already exists\n"

-- ---- two rows of a table p with one key, and a table c whose rows have parents in p

abbrev pub parents_archived : List Entry
parents_archived =
    archived 6 (codes "TABLE") (codes "c") ∷ archived 7 (codes "TABLE") (codes "p")
    ∷ archived 8 (codes "TABLE DATA") (codes "c") ∷ archived 9 (codes "TABLE DATA") (codes "p")
    ∷ archived 10 (codes "CONSTRAINT") (codes "p p_pkey") ∷ archived 11 (codes "FK CONSTRAINT") (codes "c c_fk") ∷ []

abbrev pub key_refused : List EntryStatus
key_refused = Done ∷ Done ∷ Done ∷ Done ∷ Refused 1 (Duplicate (codes "p_pkey") 1 2) ∷ Skipped 10 ∷ []

abbrev pub key_told : List ℕ
key_told = codes "pg_restore: error: entry 10 CONSTRAINT p p_pkey: rows 1 and 2 have one key for p_pkey\npg_restore: entry 11 FK CONSTRAINT c c_fk skipped: depends on entry 10\npg_restore: warning: errors ignored on restore: 1\n"

-- ---- owners that aren't there: the line of an owner comes before that of a refusal of the same entry

abbrev pub owned_archived : List Entry
owned_archived = archived 6 (codes "TABLE") (codes "t") ∷ archived 7 (codes "TABLE") (codes "A b") ∷ archived 9 (codes "VIEW") (codes "v") ∷ []

abbrev pub owned_came : List EntryStatus
owned_came = Done ∷ Refused 2 (Exists (key.Schema (codes "a"))) ∷ Done ∷ []

abbrev pub note : ℕ → Note
note id = record { dump_id = id; cause = Absent (key.Role (codes "alice")) }

abbrev pub owners_noted : List Note
owners_noted = note 6 ∷ note 7 ∷ note 9 ∷ []

abbrev pub owners_told : List ℕ
owners_told = codes "pg_restore: error: entry 6 TABLE t: role alice does not exist\npg_restore: error: entry 7 TABLE A b: role alice does not exist\npg_restore: error: entry 7 TABLE A b: schema a already exists\npg_restore: error: entry 9 VIEW v: role alice does not exist\npg_restore: warning: errors ignored on restore: 4\n"
