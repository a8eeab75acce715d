-- The checks of a domain, by name and one by one, and what they refer to.
use Rattle.std.proofs.Common.{◌≡◌, Bool, true, false, cond, List, [], ◌∷◌, ◌++◌, map, Some, sym, subst, ◌∙◌}
use Rattle.std.specs.FinMap.{FinMap, get, entries, insert, find, from_entries, get-from_entries, get-insert}
use Rattle.std.specs.Cmp.Lexicographic.{nat_list_cmp_total}
use Rattle.std.specs.List.{AllByRecursion, flat_map}
use Rattle.std.specs.Ordering.{eq_by_cmp}
use Rattle.cat_model.specs.declared.key.Key.{Key}
use Rattle.cat_model.specs.declared.table.CheckDef.{CheckDef}
use Rattle.cat_model.specs.HolderLaws.{bytes_cmp-IsAntisymmetric}
use Rattle.cat_model.specs.Holders.{Bytes, bytes_cmp}
use Rattle.cat_model.specs.References.{expression_references}
use Rattle.cat_model.specs.Values.{Named}
use Rattle.cat_sound.specs.Asked.{Asked}
use Rattle.cat_sound.specs.Asks.{all_there}
use Rattle.cat_sound.specs.Sound.{IsMet}
use Rattle.cat_sound.proofs.Lists.{of_each, of_member, flat-all, all-flat, all-front, all-back, all-mapped, mapped-all}
use Rattle.cat_sound.proofs.Maps.{of_entry, entry_of}
use Rattle.cat_sound.proofs.References.{AreThere}

abbrev pub Checks : Type 0
Checks = FinMap bytes_cmp Bytes

abbrev pub checks_by_name : List CheckDef → Checks
checks_by_name checks = from_entries (map (λ c. (c.name, c.text)) checks)

found_check : (P : Bytes → Type 0) (checks : List CheckDef) (name text : Bytes) → AllByRecursion (λ c. P c.text) checks → find bytes_cmp name (map (λ c. (c.name, c.text)) checks) ≡ Some text → P text
found_check P [] name text all e = cc
found_check P (c ∷ cs) name text all e = by (eq_by_cmp bytes_cmp name c.name) e (found_check P cs name text all.1)
  where
    by : (same : Bool) → cond same (Some c.text) (find bytes_cmp name (map (λ d. (d.name, d.text)) cs)) ≡ Some text → (find bytes_cmp name (map (λ d. (d.name, d.text)) cs) ≡ Some text → P text) → P text
    by true at later = let same : c.text ≡ text = cc in subst P same all.0
    by false at later = later at

-- what holds of each check of a list holds of each by name
pub by_name : (P : Bytes → Type 0) (checks : List CheckDef) → AllByRecursion (λ c. P c.text) checks → (name text : Bytes) → get (checks_by_name checks) name ≡ Some text → P text
by_name P checks all name text is = found_check P checks name text all (sym (get-from_entries nat_list_cmp_total (map (λ c. (c.name, c.text)) checks) name) ∙ is)

-- what holds of a map's checks holds with one more
pub one_more : (P : Bytes → Type 0) (checks : Checks) (new text : Bytes) → P text → ((n t : Bytes) → get checks n ≡ Some t → P t) → (n t : Bytes) → get (insert checks new text) n ≡ Some t → P t
one_more P checks new text this all n t is = by (eq_by_cmp bytes_cmp n new) (sym (get-insert nat_list_cmp_total checks new text n) ∙ is)
  where
    by : (same : Bool) → cond same (Some text) (get checks n) ≡ Some t → P t
    by true at = let same : text ≡ t = cc in subst P same this
    by false at = all n t at

-- ---- what they refer to

abbrev pub checks_asks : Checks → List (Key × Asked)
checks_asks checks = flat_map (λ e. all_there (expression_references e.1)) (entries checks)

pub checks_met : (named : Named) (checks : Checks) → ((name text : Bytes) → get checks name ≡ Some text → AreThere named (expression_references text)) → AllByRecursion (IsMet named) (checks_asks checks)
checks_met named checks all =
    all-flat (IsMet named) (λ (e : Bytes × Bytes). all_there (expression_references e.1)) (entries checks)
    (of_each (λ (e : Bytes × Bytes). AreThere named (expression_references e.1)) (entries checks) (λ e among. all e.0 e.1 (of_entry nat_list_cmp_total bytes_cmp-IsAntisymmetric checks e.0 e.1 among)))

-- keys one after another, each list by itself
pub there_each : {B : Type 0} (named : Named) (f : B → List Key) (bs : List B) → AreThere named (flat_map f bs) → AllByRecursion (λ b. AreThere named (f b)) bs
there_each named f [] met = tt
there_each named f (b ∷ bs) met =
    let here : AllByRecursion (λ (k : Key). IsMet named (k, Asked.there)) (f b ++ flat_map f bs) = mapped-all (IsMet named) (λ (k : Key). (k, Asked.there)) (f b ++ flat_map f bs) met in (
      all-mapped (IsMet named) (λ (k : Key). (k, Asked.there)) (f b) (all-front (λ (k : Key). IsMet named (k, Asked.there)) (f b) (flat_map f bs) here),
      there_each named f bs (all-mapped (IsMet named) (λ (k : Key). (k, Asked.there)) (flat_map f bs) (all-back (λ (k : Key). IsMet named (k, Asked.there)) (f b) (flat_map f bs) here)),
    )

pub met_checks : (named : Named) (checks : Checks) → AllByRecursion (IsMet named) (checks_asks checks) → (name text : Bytes) → get checks name ≡ Some text → AreThere named (expression_references text)
met_checks named checks all name text is =
    of_member (λ (e : Bytes × Bytes). AreThere named (expression_references e.1)) (entries checks)
    (flat-all (IsMet named) (λ (e : Bytes × Bytes). all_there (expression_references e.1)) (entries checks) all)
    (name, text) (entry_of nat_list_cmp_total bytes_cmp-IsAntisymmetric checks name text is)
