-- Worked examples: texts that are all good, and statements whose rights are those of the object's kind.
use Rattle.std.specs.Prelude.{Bool, true, List}
use Rattle.std.specs.List.{list_all}
use Rattle.cat_model.specs.declared.stmt.Stmt.{Stmt}
use Rattle.cat_model.specs.declared.stmt.Stmt.TheVariants as stmt
use Rattle.cat_sound.specs.Texts.{Texts}
use Rattle.cat_sound.specs.Rights.{is_within, rights_on}

-- any text is good for any use
abbrev pub all_good : Texts
all_good = record { type = λ t. true; expression = λ t. true; constraint = λ c. true; index = λ q name i. true; body = λ t. true }

abbrev pub grants_fit : Stmt → Bool
grants_fit (stmt.Grant what rights who option) = is_within rights (rights_on what)
grants_fit _ = true

abbrev pub all_grants_fit : List Stmt → Bool
all_grants_fit ss = list_all grants_fit ss
