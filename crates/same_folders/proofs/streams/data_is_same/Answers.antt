use Rattle.std.proofs.Common.{◌∙◌}
use Rattle.std.proofs.lemmas.Result.{IfOk-weaker}
use Rattle.same_folders.proofs.FileParts.{if_some}
use Rattle.same_folders.proofs.streams.data_is_same.Goals as goal

-- the names are those of the folders' files
pub returns-clause-found : goal.returns-clause-found
returns-clause-found g c =
    IfOk-weaker c.file_is_same.result _ _ (λ found some. if_some found _ _ (λ f seen tree known. rw (c.as_str.ensures.value ∙ c.in_ok-first.ensures, c.as_str-2.ensures.value ∙ c.in_ok-second.ensures) at (seen tree known)) some)
    c.file_is_same.ensures.found
