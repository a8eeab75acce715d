use Rattle.std.proofs.Common.{◌≡◌, ◌<◌, List, [], drop, length, map, sym, ap, subst, ◌∙◌, arith}
use Rattle.std.specs.Borrow.{Bor}
use Rattle.std.specs.List.{AllByRecursion, filter_map}
use Rattle.std.specs.Map.Iter.{deref_pair}
use Rattle.std.proofs.lemmas.List.{drop_all}
use Rattle.cat_model.specs.declared.key.Key.{Key}
use Rattle.cat_model.specs.declared.value.Value.{Value}
use Rattle.cat_model.specs.CopyEffect.{unique_in}
use Rattle.plain_loads.specs.Meeting.{Differ}
use Rattle.plain_loads.proofs.Steps.{next_entry, read_twice}
use Rattle.plain_loads.proofs.trying.all_are_on.Goals as goal

pub loop-i-preserved : goal.loop-i-preserved
loop-i-preserved c = λ text apart rest.
    let entries = c.args.entries.now in
    let i = c.loop-i.i in
    let one = c.index-entries-i.result in
    let below : i < length entries = omega arith in
    let same = read_twice entries i one c.index-entries-i-in-loop-i.result below c.index-entries-i.is in
    c.loop-i.invariant text apart (next_entry unique_in (Differ c.args.columns.now text) entries i one below c.index-entries-i.is (λ u picked. c.in_ok-entry_is_on.ensures c.if-not-branch.false text apart u (ap unique_in same ∙ picked)) rest)

pub returns : goal.returns
returns c = λ yes text apart.
    let entries = c.args.entries.now in
    let none : drop c.loop-i.i entries ≡ [] = drop_all c.loop-i.i entries (omega arith) in
    c.loop-i.invariant text apart (subst (λ (es : List (Bor Key × Bor Value)). AllByRecursion (Differ c.args.columns.now text) (filter_map unique_in (map (deref_pair {K = Key} {X = Value}) es))) (sym none) tt)
