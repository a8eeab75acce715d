use Rattle.std.proofs.Common.{◌≡◌, ◌++◌, List, ℕ, subst}
use Rattle.std.proofs.lemmas.Result.{on_err_weaker}
use Rattle.folder_io.specs.Folders.{file_name}
use Rattle.tool_words.specs.Lines.{AppendsPart}
use Rattle.tool_words.proofs.Lining.{part_of_second}
use Rattle.tool_words.proofs.telling.write_name.Goals as goal

pub returns-clause-err : goal.returns-clause-err
returns-clause-err g c =
    let before = c.as_bytes.result.now in
    let number = c.as_bytes-2.result.now in
    let behind = c.as_bytes-3.result.now in
    let whole : before ++ number ++ behind ≡ file_name c.args.file = cc in
    on_err_weaker c.write_bytes.result
    (λ part. subst (λ (t : List ℕ). AppendsPart t (g.E.Sink.written c.args.err.now) (g.E.Sink.written c.write_bytes.new.err)) whole (part_of_second (before ++ number) behind _ _ _ c.in_ok-write_two.ensures.ok part))
    c.write_bytes.ensures.err
