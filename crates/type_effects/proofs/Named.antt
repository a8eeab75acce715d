-- Checks by name, from the last one on.
use Rattle.std.proofs.Common.{◌≡◌, ℕ, ◌+◌, ◌-◌, ◌<◌, ◌≤◌, List, [], length, get_or, drop, map, sym, ap, ◌∙◌, arith}
use Rattle.std.proofs.lemmas.List.{at_drop_all, drop_more}
use Rattle.std.specs.FinMap.{FinMap, from_entries, insert}
use Rattle.cat_model.specs.declared.table.CheckDef.{CheckDef}
use Rattle.cat_model.specs.Values.{Bytes, bytes_cmp}

-- the checks from a place on
abbrev pub named_from : ℕ → List CheckDef → FinMap bytes_cmp Bytes
named_from i checks = from_entries (map (λ c. (c.name, c.text)) (drop i checks))

pub none : (checks : List CheckDef) → from_entries [] ≡ named_from (length checks) checks
none checks = sym (at_drop_all (λ (cs : List CheckDef). from_entries {R = bytes_cmp} (map (λ c. (c.name, c.text)) cs)) checks (length checks) (omega arith))

-- one check more, in front of the others
pub one_more : (checks : List CheckDef) (n : ℕ) (x : CheckDef) → 0 < n → n ≤ length checks → x ≡ get_or checks (n - 1) x
    → insert (named_from n checks) x.name x.text ≡ named_from (n - 1) checks
one_more checks n x lt le is =
    let e : n ≡ n - 1 + 1 = omega arith in
    let inside : n - 1 < length checks = omega arith in
    ap (λ (k : ℕ). insert (named_from k checks) x.name x.text) e
    ∙ ap (λ (y : CheckDef). insert (named_from (n - 1 + 1) checks) y.name y.text) is
    ∙ sym (ap (λ (cs : List CheckDef). from_entries {R = bytes_cmp} (map (λ c. (c.name, c.text)) cs)) (drop_more checks (n - 1) x inside))
