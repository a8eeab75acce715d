use Rattle.std.proofs.Common.{◌≡◌, ◌<◌, List, [], drop, length, map, sym, ap, subst, ◌∙◌, arith}
use Rattle.std.specs.Borrow.{Bor}
use Rattle.std.specs.List.{AllByRecursion, filter_map}
use Rattle.std.specs.Map.Iter.{deref_pair}
use Rattle.std.proofs.lemmas.List.{drop_all}
use Rattle.cat_model.specs.declared.key.Key.{Key}
use Rattle.cat_model.specs.declared.value.Value.{Value}
use Rattle.cat_model.specs.CopyEffect.{foreign_in}
use Rattle.plain_loads.specs.Meeting.{HasParents}
use Rattle.plain_loads.proofs.Steps.{next_entry, read_twice}
use Rattle.plain_loads.proofs.trying.add_links.Goals as goal

pub loop-i-preserved : goal.loop-i-preserved
loop-i-preserved c = λ texts known text links rest.
    let trying = c.args.trying.now in
    let entries = c.args.entries.now in
    let i = c.loop-i.i in
    let one = c.index-entries-i.result in
    let below : i < length entries = omega arith in
    let same = read_twice entries i one c.index-entries-i-in-loop-i.result below c.index-entries-i.is in
    let added = c.in_ok-add_entry_link.ensures c.if-not-branch.false texts known text links in
    c.loop-i.invariant texts known text added.0 (next_entry foreign_in (HasParents trying.named.now trying.book.now texts c.args.q.now c.args.columns.now text) entries i one below c.index-entries-i.is (λ f picked. added.1 f (ap foreign_in same ∙ picked)) rest)

pub returns : goal.returns
returns c = λ yes texts known text links.
    let trying = c.args.trying.now in
    let entries = c.args.entries.now in
    let none : drop c.loop-i.i entries ≡ [] = drop_all c.loop-i.i entries (omega arith) in
    c.loop-i.invariant texts known text links (subst (λ (es : List (Bor Key × Bor Value)). AllByRecursion (HasParents trying.named.now trying.book.now texts c.args.q.now c.args.columns.now text) (filter_map foreign_in (map (deref_pair {K = Key} {X = Value}) es))) (sym none) tt)
