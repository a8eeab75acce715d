-- What sets up the session reads as it is written.
use Rattle.std.proofs.Common.{ℕ, List, [], ◌∷◌, ◌++◌, codes, refl}
use Rattle.cat_model.specs.declared.stmt.Stmt.{Stmt}
use Rattle.cat_model.specs.declared.stmt.Stmt.TheVariants as stmt
use Rattle.ddl_laws.proofs.Computing.{reads}
use Rattle.ddl_laws.specs.located.Located.{Located}
use Rattle.restorable_entries.proofs.Running.{Reads}

abbrev alone : Stmt → ℕ → List Located
alone s end = record { stmt = s; start = 0; end = end } ∷ []

abbrev pub encoding_set : Stmt
encoding_set = stmt.Set (codes "client_encoding") (codes "'UTF8'")

pub encoding_reads : Reads (codes "SET client_encoding = 'UTF8';\n") (encoding_set ∷ [])
unfolding reads
encoding_reads = (alone encoding_set 29, refl, refl)

pub encoding_behind : Reads (codes "SET client_encoding = 'UTF8';\n" ++ codes "\n\n") (encoding_set ∷ [])
unfolding reads
encoding_behind = (alone encoding_set 29, refl, refl)

abbrev pub strings_set : Stmt
strings_set = stmt.Set (codes "standard_conforming_strings") (codes "'on'")

pub strings_read : Reads (codes "SET standard_conforming_strings = 'on';\n") (strings_set ∷ [])
unfolding reads
strings_read = (alone strings_set 39, refl, refl)

pub strings_behind : Reads (codes "SET standard_conforming_strings = 'on';\n" ++ codes "\n\n") (strings_set ∷ [])
unfolding reads
strings_behind = (alone strings_set 39, refl, refl)

abbrev pub path_set : Stmt
path_set = stmt.SetConfig (codes "search_path") []

pub path_reads : Reads (codes "SELECT pg_catalog.set_config('search_path', '', false);\n") (path_set ∷ [])
unfolding reads
path_reads = (alone path_set 55, refl, refl)

pub path_behind : Reads (codes "SELECT pg_catalog.set_config('search_path', '', false);\n" ++ codes "\n\n") (path_set ∷ [])
unfolding reads
path_behind = (alone path_set 55, refl, refl)
