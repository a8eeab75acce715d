use Rattle.std.proofs.Common.{Some, false, sym, ap, ◌∙◌}
use Rattle.std.proofs.lemmas.Result.{err_from_is_err_and}
use Rattle.acl_text.specs.Acls.{rights_of, rights_from, privilege_of}
use Rattle.acl_text.proofs.ReadingLemmas.{in_front-nil, rights_step, rights_fail, rights_end, FailsAcl-from}
use Rattle.acl_text.proofs.reading.read_rights.Goals as goal

pub loop-letter-init : goal.loop-letter-init
loop-letter-init c = rw c.new-rights.ensures.items (sym (in_front-nil (rights_of c.args.letters.now)))

pub returns-in_err-privilege : goal.returns-in_err-privilege
returns-in_err-privilege c =
    let whole = rights_of c.args.letters.now in
    let p = err_from_is_err_and c.from_residual.result c.from_residual.ensures.1 in
    rw (p.1, p.2) (FailsAcl-from c.in_err-privilege.field-0.0 (privilege_of c.in-Some.letter) whole
    (λ none. rights_fail c.loop-letter.rest.now c.in-Some.letter c.in-Some.behind.now c.loop-letter.rights.items whole c.in-Some.ensures none c.loop-letter.invariant)
    c.in_err-privilege.ensures)

pub loop-letter-preserved : goal.loop-letter-preserved
loop-letter-preserved c =
    let whole = rights_of c.args.letters.now in
    let done = c.loop-letter.rights.items in
    let privilege = c.in_ok-privilege.privilege in
    let rest = rights_from false c.after_star-rest.result.now in
    let step = rights_step c.loop-letter.rest.now c.in-Some.letter c.in-Some.behind.now privilege done whole c.in-Some.ensures c.in_ok-privilege.ensures c.loop-letter.invariant in
    rw c.in_ok-push.ensures.items (rw (c.after_star-rest.ensures.value, c.starts_with_star.ensures) step)

pub returns : goal.returns
returns c = rights_end c.loop-letter.rest.now c.loop-letter.rights.items (rights_of c.args.letters.now) c.in_default.ensures c.loop-letter.invariant ∙ ap Some (sym c.from_vec.ensures)
