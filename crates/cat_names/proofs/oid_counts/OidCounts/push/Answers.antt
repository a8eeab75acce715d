use Rattle.std.proofs.Common.{◌≤◌, length, sym, subst, arith}
use Rattle.cat_names.proofs.Counts.{count_most}
use Rattle.cat_names.proofs.oid_counts.OidCounts.push.Goals as goal

pub overflow_add-count : goal.overflow_add-count
overflow_add-count c =
    let items = c.reserve.new.self.items in
    let most : c.count-count.result ≤ length items = subst (λ n. n ≤ length items) (sym c.count-count.ensures) (count_most items c.args.oid) in
    grind (arith, most, c.reserve.new.self.small, c.reserve.new.self.ok)
