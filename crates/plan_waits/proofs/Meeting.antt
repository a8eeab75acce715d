-- Marks that meet are listed under one key, so an entry that another conflicts with or depends on is found.
use Rattle.std.proofs.Common.{◌≡◌, ℕ, ◌+◌, ◌<◌, ◌==◌, Bool, true, false, cond, ◌||◌, ◌&&◌, ◌⊎◌, inl, inr, true≢false, nat_lt, List, [], ◌∷◌, ◌++◌, Option, Some, None, unwrap_or, length, refl, sym, ap, subst, ◌∙◌, arith}
use Rattle.std.proofs.lemmas.Bool.{eqb-true, ltb-true}
use Rattle.std.proofs.lemmas.List.Folds.{list_any-append}
use Rattle.std.specs.Ordering.{nat_cmp}
use Rattle.std.specs.BTreeSet.{BTreeSet, contains}
use Rattle.std.specs.List.{AllByRecursion, list_any, slice_get}
use Rattle.std.specs.Cmp.{first_so, second_so}
use Rattle.cat_model.specs.declared.class.Class.{Class}
use Rattle.cat_model.specs.declared.class.Class.TheVariants as class
use Rattle.cat_model.specs.declared.class.Mark.{Mark}
use Rattle.cat_model.specs.declared.class.Mark.TheVariants as mark
use Rattle.cat_model.specs.declared.constraint.ConstraintKind.{ConstraintKind}
use Rattle.cat_model.specs.declared.key.Key.{Key}
use Rattle.cat_model.specs.declared.key.Key.TheVariants as key
use Rattle.cat_model.specs.declared.object.QName.{QName}
use Rattle.cat_model.specs.Keys.{key_eq}
use Rattle.cat_model.specs.KeyLaws.{key_eq-same}
use Rattle.cat_model.specs.Lexemes.{same_text}
use Rattle.cat_model.specs.Marks.{key_of_class, constraint_of_class, index_of_class, classes_meet, table_of, same_table, key_meets, meets, any_meet, conflict}
use Rattle.cat_model.specs.Trees.{same_path}
use Rattle.cat_model.specs.Values.{Bytes}
use Rattle.cat_model.proofs.MarkLaws.{same_path-equal, same_text-equal, not_true}
use Rattle.eng_map.specs.Groups.{group_of, class_group}
use Rattle.eng_map.proofs.Listing.{group-class}
use Rattle.restore_plan.specs.declared.planned.Planned.{Planned}
use Rattle.restore_plan.specs.Entries.{is_among}
use Rattle.restore_plan.specs.Order.{before, before_at, both}
use Rattle.plan_waits.specs.Buckets.{bucket, has, has_id, is_listed, Index, Ids, IsAt, Covers, AreWaits}
use Rattle.plan_waits.proofs.Listing.{all_listed}

-- ---- one key for marks that meet

table-equal : (t q : QName) → same_path t q ≡ true → ◌≡◌ {A = Key} (key.Rel t) (key.Rel q)
table-equal t q h = ap (λ (p : QName). let k : Key = key.Rel p in k) (same_path-equal t q h)

key_class : (k : Key) (c : Class) → key_of_class c k ≡ true → bucket (mark.Key k) ≡ class_group c
key_class k c h = ap (λ (o : Option Key). unwrap_or o k) (group-class c k h)

key_bucket : (k : Key) (m : Mark) → key_meets k m ≡ true → bucket (mark.Key k) ≡ bucket m
key_bucket k (mark.Key j) h = ap (λ (x : Key). bucket (mark.Key x)) (key_eq-same k j h)
key_bucket k (mark.NewConstraint table name kind names) h = ap (λ (x : Key). bucket (mark.Key x)) (key_eq-same k (key.Con table name) h)
key_bucket k (mark.NewIndex table name on) h = ap (λ (x : Key). bucket (mark.Key x)) (key_eq-same k (key.Index table name) h)
key_bucket k (mark.Class c) h = key_class k c h

constraint_class : (c : Class) (q : QName) (kind : ConstraintKind) (names : List Bytes) → constraint_of_class c q kind names ≡ true → class_group c ≡ key.Rel q
constraint_class (class.Constraints t) q kind names h = table-equal t q h
constraint_class (class.PrimaryKeys t) q kind names h = table-equal t q (first_so (same_path t q) _ h)
constraint_class (class.KeysOn t columns) q kind names h = table-equal t q (first_so (same_path t q) _ h)
constraint_class (class.Indexes t) q kind names h = not_true h
constraint_class (class.Members r m) q kind names h = not_true h

index_class : (c : Class) (q : QName) (on : Option (List Bytes)) → index_of_class c q on ≡ true → class_group c ≡ key.Rel q
index_class (class.Indexes t) q on h = table-equal t q h
index_class (class.KeysOn t columns) q on h = table-equal t q (first_so (same_path t q) _ h)
index_class (class.Constraints t) q on h = not_true h
index_class (class.PrimaryKeys t) q on h = not_true h
index_class (class.Members r m) q on h = not_true h

table_class : (t : QName) (d : Class) → same_table (Some t) (table_of d) ≡ true → ◌≡◌ {A = Key} (key.Rel t) (class_group d)
table_class t (class.Constraints q) h = table-equal t q h
table_class t (class.Indexes q) h = table-equal t q h
table_class t (class.PrimaryKeys q) h = table-equal t q h
table_class t (class.KeysOn q columns) h = table-equal t q h
table_class t (class.Members r m) h = not_true h

two_classes : (c d : Class) → classes_meet c d ≡ true → class_group c ≡ class_group d
two_classes (class.Members role member) (class.Members r m) h =
    let one : role ≡ r = same_text-equal role r (first_so (same_text role r) (same_text member m) h) in
    let other : member ≡ m = same_text-equal member m (second_so (same_text role r) (same_text member m) h) in
    λ i. key.Member (one i) (other i) (other i)
two_classes (class.Members role member) (class.Constraints t) h = not_true h
two_classes (class.Members role member) (class.Indexes t) h = not_true h
two_classes (class.Members role member) (class.PrimaryKeys t) h = not_true h
two_classes (class.Members role member) (class.KeysOn t columns) h = not_true h
two_classes (class.Constraints t) d h = table_class t d h
two_classes (class.Indexes t) d h = table_class t d h
two_classes (class.PrimaryKeys t) d h = table_class t d h
two_classes (class.KeysOn t columns) d h = table_class t d h

pub meet_bucket : (m n : Mark) → meets m n ≡ true → bucket m ≡ bucket n
meet_bucket (mark.Key k) n h = key_bucket k n h
meet_bucket (mark.NewConstraint table name kind names) (mark.Class c) h = sym (constraint_class c table kind names h)
meet_bucket (mark.NewConstraint table name kind names) (mark.Key j) h = key_bucket (key.Con table name) (mark.Key j) h
meet_bucket (mark.NewConstraint table name kind names) (mark.NewConstraint q n k ns) h = key_bucket (key.Con table name) (mark.NewConstraint q n k ns) h
meet_bucket (mark.NewConstraint table name kind names) (mark.NewIndex q n on) h = key_bucket (key.Con table name) (mark.NewIndex q n on) h
meet_bucket (mark.NewIndex table name on) (mark.Class c) h = sym (index_class c table on h)
meet_bucket (mark.NewIndex table name on) (mark.Key j) h = key_bucket (key.Index table name) (mark.Key j) h
meet_bucket (mark.NewIndex table name on) (mark.NewConstraint q n k ns) h = key_bucket (key.Index table name) (mark.NewConstraint q n k ns) h
meet_bucket (mark.NewIndex table name on) (mark.NewIndex q n o) h = key_bucket (key.Index table name) (mark.NewIndex q n o) h
meet_bucket (mark.Class c) (mark.Key k) h = sym (key_class k c h)
meet_bucket (mark.Class c) (mark.NewConstraint table name kind names) h = constraint_class c table kind names h
meet_bucket (mark.Class c) (mark.NewIndex table name on) h = index_class c table on h
meet_bucket (mark.Class c) (mark.Class d) h = two_classes c d h

-- ---- what is found

or_cases : (a b : Bool) → a || b ≡ true → (a ≡ true) ⊎ (b ≡ true)
or_cases true b h = inl refl
or_cases false b h = inr h

module _ (ps : List Planned) (j : ℕ) (found : BTreeSet ℕ) (index : Index) (i : ℕ) (here : before_at ps i j ≡ true) where
  one_found : (m : Mark) (ns : List Mark) → list_any (meets m) ns ≡ true → is_listed index (bucket m) i ≡ true → AllByRecursion (λ n. Covers ps j found (is_listed index (bucket n))) ns → contains nat_cmp found i ≡ true
  one_found m [] h at all = not_true h
  one_found m (n ∷ ns) h at all =
      elim (or_cases (meets m n) (list_any (meets m) ns) h) [
        | inl is ↦ all.0 i (subst (λ (k : Key). is_listed index k i ≡ true) (meet_bucket m n is) at) here
        | inr later ↦ one_found m ns later at all.1
      ]

  -- what it writes is listed, and what meets that is covered
  pub listed_found : (ms ns : List Mark) → any_meet ms ns ≡ true → AllByRecursion (λ m. is_listed index (bucket m) i ≡ true) ms → AllByRecursion (λ n. Covers ps j found (is_listed index (bucket n))) ns → contains nat_cmp found i ≡ true
  listed_found [] ns h at all = not_true h
  listed_found (m ∷ ms) ns h at all =
      elim (or_cases (list_any (meets m) ns) (any_meet ms ns) h) [
        | inl is ↦ one_found m ns is at.0 all
        | inr later ↦ listed_found ms ns later at.1 all
      ]

  one_covered : (m : Mark) (ns : List Mark) → list_any (meets m) ns ≡ true → Covers ps j found (is_listed index (bucket m)) → AllByRecursion (λ n. is_listed index (bucket n) i ≡ true) ns → contains nat_cmp found i ≡ true
  one_covered m [] h covers at = not_true h
  one_covered m (n ∷ ns) h covers at =
      elim (or_cases (meets m n) (list_any (meets m) ns) h) [
        | inl is ↦ covers i (subst (λ (k : Key). is_listed index k i ≡ true) (sym (meet_bucket m n is)) at.0) here
        | inr later ↦ one_covered m ns later covers at.1
      ]

  -- the same where what it reads is listed, and what is written is covered
  pub covered_found : (ms ns : List Mark) → any_meet ms ns ≡ true → AllByRecursion (λ m. Covers ps j found (is_listed index (bucket m))) ms → AllByRecursion (λ n. is_listed index (bucket n) i ≡ true) ns → contains nat_cmp found i ≡ true
  covered_found [] ns h all at = not_true h
  covered_found (m ∷ ms) ns h all at =
      elim (or_cases (list_any (meets m) ns) (any_meet ms ns) h) [
        | inl is ↦ one_covered m ns is all.0 at
        | inr later ↦ covered_found ms ns later all.1 at
      ]

id_found : (ps : List Planned) (j : ℕ) (found : BTreeSet ℕ) (ids : Ids) (i id : ℕ) → before_at ps i j ≡ true → (deps : List ℕ) → is_among id deps ≡ true → has_id ids id i ≡ true → AllByRecursion (λ d. Covers ps j found (has_id ids d)) deps → contains nat_cmp found i ≡ true
id_found ps j found ids i id here [] h at all = not_true h
id_found ps j found ids i id here (d ∷ ds) h at all =
    elim (or_cases (d == id) (is_among id ds) h) [
      | inl is ↦ all.0 i (subst (λ (k : ℕ). has_id ids k i ≡ true) (sym (eqb-true d id is)) at) here
      | inr later ↦ id_found ps j found ids i id here ds later at all.1
    ]

-- all that an entry waits for was found, where earlier ones are listed and what it depends on, reads and writes is covered
module _ (ids : Ids) (writers readers : Index) (ps : List Planned) (j : ℕ) (found : BTreeSet ℕ) (p : Planned) (there : slice_get ps j ≡ Some p)
    (earlier : (i : ℕ) → i < j → IsAt ids writers readers ps i)
    (by_deps : AllByRecursion (λ d. Covers ps j found (has_id ids d)) p.deps)
    (by_reads : AllByRecursion (λ m. Covers ps j found (is_listed writers (bucket m))) p.footprint.reads)
    (by_writes : AllByRecursion (λ m. Covers ps j found (is_listed writers (bucket m))) p.footprint.writes)
    (by_readers : AllByRecursion (λ m. Covers ps j found (is_listed readers (bucket m))) p.footprint.writes) where
  by_conflict : (i : ℕ) (q : Planned) → before_at ps i j ≡ true → IsAt ids writers readers ps i → slice_get ps i ≡ Some q → conflict q.footprint p.footprint ≡ true → contains nat_cmp found i ≡ true
  by_conflict i q here at is h =
      elim (or_cases (any_meet q.footprint.writes p.footprint.reads) (any_meet q.footprint.writes p.footprint.writes || any_meet p.footprint.writes q.footprint.reads) h) [
        | inl first ↦ listed_found ps j found writers i here q.footprint.writes p.footprint.reads first (at.writes q is) by_reads
        | inr more ↦ elim (or_cases (any_meet q.footprint.writes p.footprint.writes) (any_meet p.footprint.writes q.footprint.reads) more) [
          | inl second ↦ listed_found ps j found writers i here q.footprint.writes p.footprint.writes second (at.writes q is) by_writes
          | inr third ↦ covered_found ps j found readers i here p.footprint.writes q.footprint.reads third by_readers (at.reads q is)
        ]
      ]

  by_entry : (i : ℕ) (o : Option Planned) → slice_get ps i ≡ o → i < j → before_at ps i j ≡ true → both before o (Some p) ≡ true → contains nat_cmp found i ≡ true
  by_entry i None is less here h = not_true h
  by_entry i (Some q) is less here h =
      elim (or_cases (is_among q.id p.deps) (conflict q.footprint p.footprint) h) [
        | inl dep ↦ id_found ps j found ids i q.id here p.deps dep ((earlier i less).id q is) by_deps
        | inr clash ↦ by_conflict i q here (earlier i less) is clash
      ]

  pub complete : (i : ℕ) → before_at ps i j ≡ true → contains nat_cmp found i ≡ true
  complete i h =
      let rest : both before (slice_get ps i) (slice_get ps j) ≡ true = second_so (nat_lt i j) (both before (slice_get ps i) (slice_get ps j)) h in
      by_entry i (slice_get ps i) refl (ltb-true i j (first_so (nat_lt i j) (both before (slice_get ps i) (slice_get ps j)) h)) h
      (sym (ap (λ (o : Option Planned). both before (slice_get ps i) o) there) ∙ rest)

pub same_truth : (a b : Bool) → (a ≡ true → b ≡ true) → (b ≡ true → a ≡ true) → a ≡ b
same_truth true b f g = sym (f refl)
same_truth false true f g = g refl
same_truth false false f g = refl

-- ---- more is found

pub covers_more : (ps : List Planned) (j : ℕ) (old new : BTreeSet ℕ) (places : List ℕ) (place : ℕ) → ((q : ℕ) → contains nat_cmp old q ≡ true → contains nat_cmp new q ≡ true)
    → Covers ps j old (has places) → (before_at ps place j ≡ true → contains nat_cmp new place ≡ true) → Covers ps j new (has (places ++ place ∷ []))
covers_more ps j old new places place kept covers put i h here =
    elim (or_cases (has places i) (has (place ∷ []) i) (sym (list_any-append (λ (p : ℕ). p == i) places (place ∷ [])) ∙ h)) [
      | inl is ↦ kept i (covers i is here)
      | inr is ↦ elim (or_cases (place == i) false is) [
        | inl same ↦ subst (λ (q : ℕ). before_at ps q j ≡ true → contains nat_cmp new q ≡ true) (eqb-true place i same) put here
        | inr never ↦ not_true never
      ]
    ]

pub all_cover : (ps : List Planned) (j : ℕ) (old new : BTreeSet ℕ) {A : Type 0} (among : A → ℕ → Bool) (xs : List A) → ((q : ℕ) → contains nat_cmp old q ≡ true → contains nat_cmp new q ≡ true)
    → AllByRecursion (λ x. Covers ps j old (among x)) xs → AllByRecursion (λ x. Covers ps j new (among x)) xs
all_cover ps j old new among [] kept h = tt
all_cover ps j old new among (x ∷ xs) kept h = (λ i is here. kept i (h.0 i is here), all_cover ps j old new among xs kept h.1)

pub cover_more : (ps : List Planned) (j : ℕ) (found : BTreeSet ℕ) {A : Type 0} (among : A → ℕ → Bool) (xs : List A) (x : A) → AllByRecursion (λ y. Covers ps j found (among y)) xs → Covers ps j found (among x) → AllByRecursion (λ y. Covers ps j found (among y)) (xs ++ x ∷ [])
cover_more ps j found among [] x h p = (p, tt)
cover_more ps j found among (y ∷ ys) x h p = (h.0, cover_more ps j found among ys x h.1 p)

-- ---- all entries

pub listed_still : (ids ids' : Ids) (writers writers' readers readers' : Index) (ps : List Planned) (i : ℕ)
    → ((k q : ℕ) → has_id ids k q ≡ true → has_id ids' k q ≡ true)
    → ((k : Key) (q : ℕ) → is_listed writers k q ≡ true → is_listed writers' k q ≡ true)
    → ((k : Key) (q : ℕ) → is_listed readers k q ≡ true → is_listed readers' k q ≡ true)
    → IsAt ids writers readers ps i → IsAt ids' writers' readers' ps i
listed_still ids ids' writers writers' readers readers' ps i f g h at = record {
  id = λ p is. f p.id i (at.id p is);
  writes = λ p is. all_listed writers writers' i p.footprint.writes g (at.writes p is);
  reads = λ p is. all_listed readers readers' i p.footprint.reads h (at.reads p is);
}

same_entry : (p q : Planned) → ◌≡◌ {A = Option Planned} (Some p) (Some q) → p ≡ q
same_entry p q e = cc

pub listed_at : (ids : Ids) (writers readers : Index) (ps : List Planned) (j : ℕ) (p : Planned) → slice_get ps j ≡ Some p
    → has_id ids p.id j ≡ true → AllByRecursion (λ m. is_listed writers (bucket m) j ≡ true) p.footprint.writes → AllByRecursion (λ m. is_listed readers (bucket m) j ≡ true) p.footprint.reads
    → IsAt ids writers readers ps j
listed_at ids writers readers ps j p there f g h = record {
  id = λ q is. subst (λ (x : Planned). has_id ids x.id j ≡ true) (same_entry p q (sym there ∙ is)) f;
  writes = λ q is. subst (λ (x : Planned). AllByRecursion (λ (m : Mark). is_listed writers (bucket m) j ≡ true) x.footprint.writes) (same_entry p q (sym there ∙ is)) g;
  reads = λ q is. subst (λ (x : Planned). AllByRecursion (λ (m : Mark). is_listed readers (bucket m) j ≡ true) x.footprint.reads) (same_entry p q (sym there ∙ is)) h;
}

pub waits_more : (ps : List Planned) (j : ℕ) (sets : List (BTreeSet ℕ)) (found : BTreeSet ℕ) (n : ℕ) → n ≡ j + length sets → AreWaits ps j sets → ((i : ℕ) → contains nat_cmp found i ≡ before_at ps i n) → AreWaits ps j (sets ++ found ∷ [])
waits_more ps j [] found n e all is =
    let at : n ≡ j = omega arith in
    (λ i. is i ∙ ap (before_at ps i) at, tt)
waits_more ps j (x ∷ xs) found n e all is =
    let at : n ≡ j + 1 + length xs = omega arith in
    (all.0, waits_more ps (j + 1) xs found n at all.1 is)
