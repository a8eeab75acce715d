use Rattle.std.proofs.Common.{◌≡◌, ◌∙◌, ℕ, List, Option, Some, None, Ok, ap}
use Rattle.std.proofs.lemmas.Result.{err_from_is_err_and}
use Rattle.toc_parts.specs.Parts.{Reading}
use Rattle.toc_parts.proofs.Steps.{fewer}
use Rattle.toc_parts.proofs.Loops.{goes_on, ends, fails_so}
use Rattle.toc_layout.specs.declared.fault.EntryHalt.{EntryHalt}
use Rattle.toc_layout.specs.Faults.{entry_halt}
use Rattle.toc_layout.specs.Entries.{dependency, dependencies}
use Rattle.toc_layout.proofs.EntryLaws.{dependency_laws, dependency_some}
use Rattle.toc_layout.proofs.reading.dependencies.Goals as goal

abbrev read_as : List ℕ → Option ℕ → Reading EntryHalt (Option ℕ)
read_as behind id = Ok (id, behind)

pub returns-in_err-id : goal.returns-in_err-id
returns-in_err-id c =
    let p = err_from_is_err_and c.from_residual.result c.from_residual.ensures.1 in
    rw (p.1, p.2) (fails_so dependency dependency_laws dependency_some c.ids.ids.items c.ids.left.now (entry_halt c.in_err-id.field-0.0) (dependencies.read c.args.rest.now) c.in_err-id.ensures c.ids.invariant)

pub ids-smaller : goal.ids-smaller
ids-smaller c = fewer dependency dependency_laws dependency_some c.ids.left.now c.in_ok-id.id c.in_ok-id.behind.now c.in_ok-id.ensures

pub ids-preserved : goal.ids-preserved
ids-preserved c =
    let is : dependency.read c.ids.left.now ≡ Ok (Some c.in-Some.id, c.in_ok-id.behind.now) = c.in_ok-id.ensures ∙ ap (read_as c.in_ok-id.behind.now) c.in-Some.is in
    rw c.in_ok-push-in-Some.ensures.items (goes_on dependency dependency_laws dependency_some c.ids.ids.items c.ids.left.now c.in-Some.id c.in_ok-id.behind.now (dependencies.read c.args.rest.now) is c.ids.invariant)

pub returns-in-None : goal.returns-in-None
returns-in-None c =
    let is : dependency.read c.ids.left.now ≡ Ok (None, c.in_ok-id.behind.now) = c.in_ok-id.ensures ∙ ap (read_as c.in_ok-id.behind.now) c.in-None.is in
    rw c.from_vec.ensures (ends dependency dependency_laws dependency_some c.ids.ids.items c.ids.left.now c.in_ok-id.behind.now (dependencies.read c.args.rest.now) is c.ids.invariant)
