-- A key with a null in it is nowhere, and changes nothing.
use Rattle.std.proofs.Common.{ℕ, List, Option, Some, [], ◌∷◌, ◌++◌, ap, sym, ◌∙◌}
use Rattle.cat_model.specs.Tables.{place_of}
use Rattle.row_keys.proofs.KnownKeys.{null_nowhere, null_more}
use Rattle.row_keys.proofs.seen.add.Goals as goal

pub returns-in-None-clause-first : goal.returns-in-None-clause-first
returns-in-None-clause-first c = λ before known. sym (ap (λ (k : Option (List (List ℕ))). place_of 1 k before) c.in-None.is ∙ null_nowhere 1 before)

pub returns-in-None-clause-known : goal.returns-in-None-clause-known
returns-in-None-clause-known c = λ before known number q.
    known q ∙ sym (null_more 1 before q) ∙ ap (λ (k : Option (List (List ℕ))). place_of 1 (Some q) (before ++ k ∷ [])) (sym c.in-None.is)
