-- What an entry of a dump lists stands before it, among what is restored.
use Rattle.std.proofs.Common.{◌≡◌, ◌⊎◌, ℕ, zero, suc, ◌<◌, ◌≤◌, ◌==◌, Bool, true, false, cond, List, [], ◌∷◌, ◌++◌, map, length, Option, Ok, refl, sym, ap, subst, ◌∙◌, arith, inl, inr}
use Rattle.std.specs.Prelude.{◌||◌, slice_index_or}
use Rattle.std.specs.Global.{Vec}
use Rattle.std.specs.List.{AllByRecursion, Contains, filter}
use Rattle.std.proofs.lemmas.Bool.{eq-eqb, eqb-true}
use Rattle.std.proofs.lemmas.List.{map-append}
use Rattle.std.proofs.lemmas.List.Elements.{recursion_from_All}
use Rattle.cat_rows.specs.declared.catalogue.Catalogue.{Catalogue}
use Rattle.dump_script_laws.specs.Behind.{AreBehind}
use Rattle.dump_toc.specs.Toc.{toc}
use Rattle.obj_graph.specs.declared.select.Select.{Select}
use Rattle.restore_plan.specs.declared.entry.Entry as planned
use Rattle.restore_plan.specs.Entries.{is_among, has_rows_of, replaced, waits_for, deps}
use Rattle.script_laws.specs.Scripts.{AllEntries}
use Rattle.toc_entry.specs.declared.entry.Entry.{Entry}
use Rattle.toc_kinds.specs.Kinds.{IsOfDump}
use Rattle.toc_laws.specs.Dumps.{entries_in}
use Rattle.restorable_entries.specs.Planned.{planned_as}

-- ---- what an entry waits for

abbrev ids_of : List planned.Entry → List ℕ
ids_of es = map (λ (x : planned.Entry). x.id) es

or_true : (a b : Bool) → b ≡ true → (a || b) ≡ true
or_true true b e = refl
or_true false b e = e

here : (id : ℕ) (ids : List ℕ) → is_among id (id ∷ ids) ≡ true
here id ids = ap (λ (b : Bool). b || is_among id ids) (eq-eqb id id refl)

-- what stands for another is there too
replaced_is : (earlier : List planned.Entry) (id : ℕ) → (replaced earlier id ≡ id) ⊎ (is_among (replaced earlier id) (ids_of earlier) ≡ true)
replaced_is [] id = inl refl
replaced_is (e ∷ earlier) id = by (has_rows_of id e) (replaced_is earlier id)
  where
    by : (b : Bool) → (replaced earlier id ≡ id) ⊎ (is_among (replaced earlier id) (ids_of earlier) ≡ true)
        → (cond b e.id (replaced earlier id) ≡ id) ⊎ (is_among (cond b e.id (replaced earlier id)) (e.id ∷ ids_of earlier) ≡ true)
    by true other = inr (here e.id (ids_of earlier))
    by false (inl same) = inl same
    by false (inr among) = inr (or_true (e.id == replaced earlier id) (is_among (replaced earlier id) (ids_of earlier)) among)

replaced_among : (earlier : List planned.Entry) (id : ℕ) → is_among id (ids_of earlier) ≡ true → is_among (replaced earlier id) (ids_of earlier) ≡ true
replaced_among earlier id there = elim (replaced_is earlier id) [
  | inl same ↦ subst (λ (x : ℕ). is_among x (ids_of earlier) ≡ true) (sym same) there
  | inr among ↦ among
]

abbrev AreAmong : List planned.Entry → List ℕ → Type 0
AreAmong earlier ids = AllByRecursion (λ id. is_among id (ids_of earlier) ≡ true) ids

all_replaced : (earlier : List planned.Entry) (ids : List ℕ) → AreAmong earlier ids → AreAmong earlier (map (replaced earlier) ids)
all_replaced earlier [] all = tt
all_replaced earlier (id ∷ ids) all = (replaced_among earlier id all.0, all_replaced earlier ids all.1)

kept_all : (p : ℕ → Bool) (ids : List ℕ) → AllByRecursion (λ id. p id ≡ true) ids → filter p ids ≡ ids
kept_all p [] all = refl
kept_all p (id ∷ ids) all =
    ap (λ (b : Bool). cond b (id ∷ filter p ids) (filter p ids)) all.0 ∙ ap (λ (l : List ℕ). id ∷ l) (kept_all p ids all.1)

waits_among : (earlier : List planned.Entry) (e : planned.Entry) → AreAmong earlier e.listed → (b : Bool) → AreAmong earlier (cond b (map (replaced earlier) e.listed) e.listed)
waits_among earlier e all true = all_replaced earlier e.listed all
waits_among earlier e all false = all

depends_on_all : (earlier : List planned.Entry) (e : planned.Entry) → AreAmong earlier e.listed → deps earlier e ≡ waits_for earlier e
depends_on_all earlier e all = kept_all (λ id. is_among id (ids_of earlier)) (waits_for earlier e) (waits_among earlier e all e.post_data)

-- ---- what is left of a list

module _ {A : Type 0} (p : A → Bool) where
  pub record Split (xs before behind : List A) (e : A) : Type 0 where
    pub front : List A
    pub back : List A
    pub is : xs ≡ front ++ e ∷ back
    pub kept : filter p front ≡ before

  split : (xs before behind : List A) (e : A) → filter p xs ≡ before ++ e ∷ behind → Split xs before behind e
  split [] [] behind e same = absurd cc
  split [] (y ∷ before) behind e same = absurd cc
  split (x ∷ xs) before behind e same = by (p x) refl before same (λ front f. split xs front behind e f)
    where
      by : (b : Bool) → p x ≡ b → (front : List A) → cond b (x ∷ filter p xs) (filter p xs) ≡ front ++ e ∷ behind → ((later : List A) → filter p xs ≡ later ++ e ∷ behind → Split xs later behind e) → Split (x ∷ xs) front behind e
      by false drops front f again =
          let more = again front f in
          record { front = x ∷ more.front; back = more.back; is = ap (λ (l : List A). x ∷ l) more.is; kept = ap (λ (b : Bool). cond b (x ∷ filter p more.front) (filter p more.front)) drops ∙ more.kept }
      by true keeps [] f again =
          let first : x ≡ e = cc f in
          record { front = []; back = xs; is = ap (λ (y : A). y ∷ xs) first; kept = refl }
      by true keeps (y ∷ front) f again =
          let first : x ≡ y = cc f in
          let rest : filter p xs ≡ front ++ e ∷ behind = cc f in
          let more = again front rest in
          record {
            front = x ∷ more.front;
            back = more.back;
            is = ap (λ (l : List A). x ∷ l) more.is;
            kept = ap (λ (b : Bool). cond b (x ∷ filter p more.front) (filter p more.front)) keeps ∙ ap (λ (l : List A). x ∷ l) more.kept ∙ ap (λ (z : A). z ∷ front) first;
          }

at_split : (P : Entry → Type 0) (front back : AllEntries) (e : Entry × Option (Vec ℕ)) → AllByRecursion P (entries_in (front ++ e ∷ back)) → P e.0
at_split P [] back e all = all.0
at_split P (x ∷ front) back e all = at_split P front back e all.1

-- ---- numbers

contained : (ids : List ℕ) (id : ℕ) (k : ℕ) → k < length ids → slice_index_or ids k id ≡ id → is_among id ids ≡ true
contained [] id k below is = absurd (omega arith)
contained (x ∷ ids) id zero below is = ap (λ (b : Bool). b || is_among id ids) (eq-eqb x id is)
contained (x ∷ ids) id (suc k) below is = or_true (x == id) (is_among id ids) (contained ids id k (omega arith) is)

abbrev numbers_of : AllEntries → List ℕ
numbers_of entries = map (λ (e : Entry). e.dump_id) (entries_in entries)

module _ (owners : Bool) (kept : Entry → Bool) (low : (x : Entry) → kept x ≡ false → x.dump_id ≤ 4) where
  abbrev keeps : Entry × Option (Vec ℕ) → Bool
  keeps x = kept x.0

  -- what has a higher number is kept
  still_there : (front : AllEntries) (id : ℕ) → 5 ≤ id → is_among id (numbers_of front) ≡ true → is_among id (ids_of (map (planned_as owners) (filter keeps front))) ≡ true
  still_there [] id high there = there
  still_there (x ∷ front) id high there = by (kept x.0) refl (x.0.dump_id == id) refl there (still_there front id high)
    where
      by : (b : Bool) → kept x.0 ≡ b → (c : Bool) → (x.0.dump_id == id) ≡ c → (c || is_among id (numbers_of front)) ≡ true
          → (is_among id (numbers_of front) ≡ true → is_among id (ids_of (map (planned_as owners) (filter keeps front))) ≡ true)
          → is_among id (ids_of (map (planned_as owners) (cond b (x ∷ filter keeps front) (filter keeps front)))) ≡ true
      by true keeps_it true same f later = ap (λ (b : Bool). b || is_among id (ids_of (map (planned_as owners) (filter keeps front)))) same
      by true keeps_it false differs f later = or_true (x.0.dump_id == id) (is_among id (ids_of (map (planned_as owners) (filter keeps front)))) (later f)
      by false drops true same f later = absurd (omega (arith, low x.0 drops, eqb-true x.0.dump_id id same, high))
      by false drops false differs f later = later f

  all_there : (front : AllEntries) (ids : List ℕ) → AllByRecursion (λ id. 5 ≤ id) ids → AllByRecursion (λ id. Contains (numbers_of front) id) ids → AreAmong (map (planned_as owners) (filter keeps front)) ids
  all_there front [] high there = tt
  all_there front (id ∷ ids) high there =
      let c = there.0 in
      (still_there front id high.0 (contained (numbers_of front) id c.0 c.1 c.2), all_there front ids high.1 there.1)

  pub on_all : (entries before behind : AllEntries) (e : Entry × Option (Vec ℕ)) → AreBehind (entries_in entries) → AllByRecursion IsOfDump (entries_in entries) → filter keeps entries ≡ before ++ e ∷ behind
      → deps (map (planned_as owners) before) (planned_as owners e) ≡ waits_for (map (planned_as owners) before) (planned_as owners e)
  on_all entries before behind e stand are same =
      let s = split keeps entries before behind e same in
      let split_is : entries_in entries ≡ entries_in s.front ++ e.0 ∷ entries_in s.back = ap entries_in s.is ∙ map-append (λ (x : Entry × Option (Vec ℕ)). x.0) s.front (e ∷ s.back) in
      let there = recursion_from_All (λ id. Contains (numbers_of s.front) id) e.0.depends (stand (entries_in s.front) (entries_in s.back) e.0 split_is) in
      let of_dump = at_split IsOfDump s.front s.back e (subst (λ (l : AllEntries). AllByRecursion IsOfDump (entries_in l)) s.is are) in
      let among = all_there s.front e.0.depends of_dump.needs there in
      depends_on_all (map (planned_as owners) before) (planned_as owners e) (subst (λ (l : AllEntries). AreAmong (map (planned_as owners) l) e.0.depends) s.kept among)

pub depend_on_all : ((cat : Catalogue) (select : Select) (entries : List Entry) → toc cat select ≡ Ok entries → AreBehind entries) → ((cat : Catalogue) (select : Select) (entries : List Entry) → toc cat select ≡ Ok entries → AllByRecursion IsOfDump entries)
    → (cat : Catalogue) (select : Select) (entries before behind : AllEntries) (e : Entry × Option (Vec ℕ)) (owners : Bool) (kept : Entry → Bool) → toc cat select ≡ Ok (entries_in entries) → ((x : Entry) → kept x ≡ false → x.dump_id ≤ 4)
    → filter (λ x. kept x.0) entries ≡ before ++ e ∷ behind → deps (map (planned_as owners) before) (planned_as owners e) ≡ waits_for (map (planned_as owners) before) (planned_as owners e)
depend_on_all behind_law kinds_law cat select entries before behind e owners kept is low same =
    on_all owners kept low entries before behind e (behind_law cat select (entries_in entries) is) (kinds_law cat select (entries_in entries) is) same
