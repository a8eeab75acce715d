use Rattle.std.proofs.Common.{ap, sym, ◌∙◌}
use Rattle.std.proofs.lemmas.Result.{IfOk-weaker}
use Rattle.cat_names.specs.Lookups.{place_of}
use Rattle.type_ends.specs.Bases.{end_at}
use Rattle.type_ends.specs.Ends.{resolved}
use Rattle.type_ends.specs.Jumps.{jump_from}
use Rattle.type_ends.proofs.Reached.{found_end, no_end}
use Rattle.type_ends.proofs.all_ends.TypeEnds.end_of.Goals as goal

pub returns-in-Some : goal.returns-in-Some
returns-in-Some c = λ text ne.
    let cat = c.self.inside.cat.now in
    let oid = c.args.oid in
    let p = c.in-Some.place in
    let jumps = c.self.inside.jumps.items in
    let place = sym (c.find.ensures ∙ ap (place_of oid) c.self.invariant.same_oids) ∙ c.in-Some.is in
    IfOk-weaker c.end_at.result _ _
    (λ end e.
    e
    ∙ ap (λ bases. end_at bases c.jump_from.result) (c.deref.ensures.value ∙ c.self.invariant.same_bases)
    ∙ ap (end_at _) (c.jump_from.ensures ∙ ap (λ js. jump_from js p) c.deref-in-Some.ensures.value)
    ∙ found_end cat oid p text jumps ne c.self.invariant.far place
    ∙ ap (λ k. resolved k oid text) c.self.view_is)
    c.end_at.ensures

pub returns-in-None : goal.returns-in-None
returns-in-None c = λ text ne.
    let cat = c.self.inside.cat.now in
    let oid = c.args.oid in
    no_end cat oid text ne (sym (c.find.ensures ∙ ap (place_of oid) c.self.invariant.same_oids) ∙ c.in-None.is)
    ∙ ap (λ k. resolved k oid text) c.self.view_is
