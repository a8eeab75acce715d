use Rattle.std.proofs.lemmas.Result.{err_from_is_err_and}
use Rattle.tool_words.specs.declared.outcome.Limit.TheVariants.{Archive as ArchiveLimit}
use Rattle.dump_tools.proofs.Archives.{input_read, input_refused}
use Rattle.dump_tools.proofs.Scripting.{takes_any, refused_taken, whole_taken, part_taken}
use Rattle.dump_tools.proofs.restoring.input_archive.Goals as goal

-- standard input wasn't read whole
pub returns-in_err-bytes-clause-due : goal.returns-in_err-bytes-clause-due
returns-in_err-bytes-clause-due g c =
    let p = err_from_is_err_and c.from_residual.result c.from_residual.ensures.1 in
    rw (p.1, p.2) (λ tree bytes known left. input_refused _ c.args.words.now tree bytes (c.in_err-bytes.ensures.due bytes left))

pub returns-in_err-bytes-clause-taken : goal.returns-in_err-bytes-clause-taken
returns-in_err-bytes-clause-taken g c =
    let p = err_from_is_err_and c.from_residual.result c.from_residual.ensures.1 in
    rw (p.1, p.2) (λ bytes left late. refused_taken _ ArchiveLimit bytes _ _ left (c.in_err-bytes.ensures.due bytes left) (c.in_err-bytes.ensures.part bytes left) late)

pub returns-in_err-bytes-clause-part : goal.returns-in_err-bytes-clause-part
returns-in_err-bytes-clause-part g c = λ bytes left. part_taken bytes _ _ left (c.in_err-bytes.ensures.part bytes left)

-- it was
pub returns-clause-due : goal.returns-clause-due
returns-clause-due g c = λ tree bytes known left.
    input_read (λ text. text.items) c.input_text.result c.args.words.now tree bytes c.in_ok-bytes.bytes.items (c.in_ok-bytes.ensures.due bytes left)
    (rw c.deref.ensures.value at (c.input_text.ensures.due tree known))

pub returns-clause-taken : goal.returns-clause-taken
returns-clause-taken g c = λ bytes left. takes_any c.input_text.result _ _ _ (whole_taken bytes _ _ left (c.in_ok-bytes.ensures.whole bytes left))

pub returns-clause-part : goal.returns-clause-part
returns-clause-part g c = λ bytes left. part_taken bytes _ _ left (c.in_ok-bytes.ensures.part bytes left)
