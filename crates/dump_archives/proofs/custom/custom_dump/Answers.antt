use Rattle.std.proofs.Common.{inl, refl}
use Rattle.std.proofs.lemmas.Result.{err_from_is_err_and}
use Rattle.dump_archives.proofs.custom.custom_dump.Goals as goal

pub returns-in_err-rows-clause-err : goal.returns-in_err-rows-clause-err
returns-in_err-rows-clause-err g c = λ tree is apart.
    let p = err_from_is_err_and c.from_residual.result c.from_residual.ensures.1 in
    rw (p.1, p.2) (c.in_err-rows.ensures.err tree is apart)

pub returns-then-not-can_be_archived-clause-err : goal.returns-then-not-can_be_archived-clause-err
returns-then-not-can_be_archived-clause-err g c = λ tree is apart. (tt, inl (inl refl))
