use Rattle.plain_rows.proofs.CopiedLines.{copied}
use Rattle.plain_rows.proofs.laws.texts_that_fit_are_copied.Goals as goal

pub returns : goal.returns
returns c = copied
