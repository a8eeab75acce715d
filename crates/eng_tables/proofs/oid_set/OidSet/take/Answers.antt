use Rattle.std.proofs.Common.{◌≡◌, ◌<◌, ◌≤◌, sym, ap, ◌∙◌, arith}
use Rattle.std.specs.FinSet.{contains, insert}
use Rattle.eng_tables.specs.Oids.{Oids}
use Rattle.eng_tables.proofs.Using.{has_seen, put_seen, below_found}
use Rattle.eng_tables.proofs.oid_set.OidSet.take.Goals as goal

pub returns-then-oid-clause-least : goal.returns-then-oid-clause-least
returns-then-oid-clause-least c = λ other low high.
    let within : other < c.least_unused-oid.result = omega arith in
    ap (λ (s : Oids). contains s other) (sym c.self.view_is)
    ∙ has_seen c.self.inside.used.keys other
    ∙ below_found c.self.inside.used.keys c.self.inside.next c.least_unused-oid.result c.self.invariant.1 c.least_unused-oid.ensures.below other low within

pub returns-clause-least : goal.returns-clause-least
returns-clause-least c =
    let oid = c.least_unused-oid.result in
    let first : 16384 ≤ c.least_unused-oid.result = omega arith in
    let below_last : c.least_unused-oid.result < 4294967295 = omega arith in (
      first,
      ap (λ (s : Oids). contains s oid) (sym c.self.view_is) ∙ has_seen c.self.inside.used.keys oid ∙ c.least_unused-oid.ensures.unused below_last,
      λ other low high.
          ap (λ (s : Oids). contains s other) (sym c.self.view_is)
          ∙ has_seen c.self.inside.used.keys other
          ∙ below_found c.self.inside.used.keys c.self.inside.next oid c.self.invariant.1 c.least_unused-oid.ensures.below other low high,
    )

pub returns-clause-used : goal.returns-clause-used
returns-clause-used c =
    put_seen c.self.inside.used.keys c.insert.new.self.keys c.least_unused-oid.result c.in_ok-insert.ensures.updates.0
    ∙ ap (λ (s : Oids). insert s c.least_unused-oid.result) c.self.view_is
