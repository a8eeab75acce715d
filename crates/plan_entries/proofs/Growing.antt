-- What is kept of earlier entries: one more behind them, and what an entry depends on and locks by it.
use Rattle.std.proofs.Common.{◌≡◌, ℕ, ◌==◌, Bool, true, false, cond, ◌&&◌, ◌||◌, List, [], ◌∷◌, ◌++◌, map, Option, Some, None, unwrap_or, refl, ap, sym, ◌∙◌}
use Rattle.std.specs.List.{filter}
use Rattle.std.specs.Ordering.{nat_cmp}
use Rattle.std.specs.BTreeMap.{BTreeMap, get}
use Rattle.std.specs.BTreeSet.{BTreeSet, contains}
use Rattle.std.proofs.lemmas.List.Folds.{list_any-append}
use Rattle.restore_plan.specs.declared.entry.Entry.{Entry}
use Rattle.restore_plan.specs.Entries.{is_among, is_locked, has_rows_of, can_be_locked, replaced, deps, takes_locks, locks}
use Rattle.plan_entries.specs.Earlier.{rows_of, first_of, AreEarlier, replaced_by, waits_by, among_by, locks_by}

-- ---- one more entry

turned : (a b : Bool) → a || b ≡ b || (a || false)
turned true true = refl
turned true false = refl
turned false true = refl
turned false false = refl

and_true : (a : Bool) → a && true ≡ a
and_true true = refl
and_true false = refl

ids-append : (earlier : List Entry) (e : Entry) → map (λ (x : Entry). x.id) (earlier ++ e ∷ []) ≡ map (λ (x : Entry). x.id) earlier ++ e.id ∷ []
ids-append [] e = refl
ids-append (x ∷ xs) e = ap (λ (ids : List ℕ). x.id ∷ ids) (ids-append xs e)

rows-append : (earlier : List Entry) (e : Entry) (q : ℕ) → rows_of (earlier ++ e ∷ []) q ≡ first_of (rows_of earlier q) (cond (has_rows_of q e) (Some e.id) None)
rows-append [] e q = refl
rows-append (x ∷ xs) e q =
    elim (has_rows_of q x) as (λ b. cond b (Some x.id) (rows_of (xs ++ e ∷ []) q) ≡ first_of (cond b (Some x.id) (rows_of xs q)) (cond (has_rows_of q e) (Some e.id) None)) [
      | true ↦ refl
      | false ↦ rows-append xs e q
    ]

pub one_more : (ids ids' lockable lockable' : BTreeSet ℕ) (rows rows' : BTreeMap ℕ ℕ) (earlier : List Entry) (e : Entry) (is : Bool) → AreEarlier ids lockable rows earlier → is ≡ is_locked e.kind
    → ((q : ℕ) → contains nat_cmp ids' q ≡ (e.id == q && true || contains nat_cmp ids q))
    → ((q : ℕ) → contains nat_cmp lockable' q ≡ (e.id == q && is || contains nat_cmp lockable q))
    → ((q : ℕ) → get nat_cmp rows' q ≡ first_of (get nat_cmp rows q) (cond (has_rows_of q e) (Some e.id) None))
    → AreEarlier ids' lockable' rows' (earlier ++ e ∷ [])
one_more ids ids' lockable lockable' rows rows' earlier e is k same more_ids more_lockable more_rows = record {
  known = λ q.
      more_ids q
      ∙ ap (λ (b : Bool). b || contains nat_cmp ids q) (and_true (e.id == q))
      ∙ ap (λ (b : Bool). e.id == q || b) (k.known q)
      ∙ turned (e.id == q) (is_among q (map (λ (x : Entry). x.id) earlier))
      ∙ sym (list_any-append (λ (d : ℕ). d == q) (map (λ (x : Entry). x.id) earlier) (e.id ∷ []))
      ∙ ap (is_among q) (sym (ids-append earlier e));
  locked = λ q.
      more_lockable q
      ∙ ap (λ (b : Bool). e.id == q && b || contains nat_cmp lockable q) same
      ∙ ap (λ (b : Bool). e.id == q && is_locked e.kind || b) (k.locked q)
      ∙ turned (e.id == q && is_locked e.kind) (can_be_locked earlier q)
      ∙ sym (list_any-append (λ (x : Entry). x.id == q && is_locked x.kind) earlier (e ∷ []));
  replaced = λ q.
      more_rows q
      ∙ ap (λ (o : Option ℕ). first_of o (cond (has_rows_of q e) (Some e.id) None)) (k.replaced q)
      ∙ sym (rows-append earlier e q);
}

-- ---- what an entry depends on and locks

replaced-are : (earlier : List Entry) (q : ℕ) → unwrap_or (rows_of earlier q) q ≡ replaced earlier q
replaced-are [] q = refl
replaced-are (x ∷ xs) q =
    elim (has_rows_of q x) as (λ b. unwrap_or (cond b (Some x.id) (rows_of xs q)) q ≡ cond b x.id (replaced xs q)) [
      | true ↦ refl
      | false ↦ replaced-are xs q
    ]

pub deps-are : (ids lockable : BTreeSet ℕ) (rows : BTreeMap ℕ ℕ) (earlier : List Entry) (e : Entry) → AreEarlier ids lockable rows earlier → among_by ids (waits_by rows e.post_data e.listed) ≡ deps earlier e
deps-are ids lockable rows earlier e k =
    let f : contains nat_cmp ids ≡ (λ (id : ℕ). is_among id (map (λ (x : Entry). x.id) earlier)) = λ i id. k.known id i in
    let stands : (id : ℕ) → replaced_by rows id ≡ replaced earlier id = λ id. ap (λ (o : Option ℕ). unwrap_or o id) (k.replaced id) ∙ replaced-are earlier id in
    let g : replaced_by rows ≡ replaced earlier = λ i id. stands id i in
    ap (λ (test : ℕ → Bool). filter test (waits_by rows e.post_data e.listed)) f
    ∙ ap (λ (r : ℕ → ℕ). filter (λ (id : ℕ). is_among id (map (λ (x : Entry). x.id) earlier)) (cond e.post_data (map r e.listed) e.listed)) g

pub locks-are : (ids lockable : BTreeSet ℕ) (rows : BTreeMap ℕ ℕ) (earlier : List Entry) (e : Entry) (ds : List ℕ) → AreEarlier ids lockable rows earlier → ds ≡ deps earlier e → locks_by lockable e ds ≡ locks earlier e
locks-are ids lockable rows earlier e ds k same =
    let f : contains nat_cmp lockable ≡ can_be_locked earlier = λ i id. k.locked id i in
    ap (λ (test : ℕ → Bool). cond (e.post_data && takes_locks e.kind) (filter test ds) []) f
    ∙ ap (λ (xs : List ℕ). cond (e.post_data && takes_locks e.kind) (filter (can_be_locked earlier) xs) []) same
