-- Marks that stand for one key meet.
use Rattle.std.proofs.Common.{◌≡◌, Bool, true, false, ◌&&◌, ◌||◌, true≢false, List, [], ◌∷◌, Option, Some, None, refl, ap, sym, subst, ◌∙◌, inl, inr, nat_eq}
use Rattle.std.specs.Cmp.{first_so, second_so}
use Rattle.std.specs.Cmp.Lexicographic.{bytes_decides}
use Rattle.std.specs.Prelude.{◌⊎◌}
use Rattle.cat_model.specs.declared.object.QName.{QName}
use Rattle.cat_model.specs.declared.key.Key.{Key}
use Rattle.cat_model.specs.declared.key.Key.TheVariants as key
use Rattle.cat_model.specs.declared.class.Class.{Class}
use Rattle.cat_model.specs.declared.class.Class.TheVariants as class
use Rattle.cat_model.specs.declared.class.Mark.{Mark}
use Rattle.cat_model.specs.declared.class.Mark.TheVariants as mark
use Rattle.cat_model.specs.declared.constraint.ConstraintKind.{ConstraintKind}
use Rattle.cat_model.specs.Keys.{key_eq}
use Rattle.cat_model.specs.KeyLaws.{key_eq-Decides}
use Rattle.cat_model.specs.Values as value
use Rattle.cat_model.specs.Values.{Bytes, Value, Constraint, Index}
use Rattle.cat_model.specs.Lexemes.{same_text}
use Rattle.cat_model.specs.Tables.{same_set}
use Rattle.cat_model.specs.Trees.{same_path, is_primary, is_unique, is_on, unique_on, of_class, there_and_of}
use Rattle.cat_model.specs.Marks.{key_of_class, constraint_of_class, index_of_class, table_of, same_table, classes_meet, key_meets, meets, by_names, Covers, IsConstraint, IsIndex}

-- ---- tests of names and paths

pub same_text-equal : (a b : Bytes) → same_text a b ≡ true → a ≡ b
same_text-equal a b h = (bytes_decides a b).0 h

pub same_text-self : (a : Bytes) → same_text a a ≡ true
same_text-self a = (bytes_decides a a).1 refl

pub both_true : (a b : Bool) → a ≡ true → b ≡ true → a && b ≡ true
both_true a b h k = rw (h, k) refl

pub same_path-equal : (p q : QName) → same_path p q ≡ true → p ≡ q
same_path-equal p q h =
    let schemas : p.schema ≡ q.schema = same_text-equal p.schema q.schema (first_so (same_text p.schema q.schema) (same_text p.name q.name) h) in
    let names : p.name ≡ q.name = same_text-equal p.name q.name (second_so (same_text p.schema q.schema) (same_text p.name q.name) h) in
    λ i. record { schema = schemas i; name = names i }

pub same_path-self : (p : QName) → same_path p p ≡ true
same_path-self p = both_true (same_text p.schema p.schema) (same_text p.name p.name) (same_text-self p.schema) (same_text-self p.name)

pub key_eq-of : (k j : Key) → k ≡ j → key_eq k j ≡ true
key_eq-of k j e = (key_eq-Decides k j).1 e

pub not_true : {A : Type 0} → false ≡ true → A
not_true e = absurd (true≢false (sym e))

-- ---- a key of a class

-- what is of a class with its value may be of it by its key
pub of_class-key : (c : Class) (k : Key) (v : Value) → of_class c k v ≡ true → key_of_class c k ≡ true
of_class-key (class.Constraints t) (key.Con q n) v h = h
of_class-key (class.Constraints t) _ v h = not_true h
of_class-key (class.Indexes t) (key.Index q n) v h = h
of_class-key (class.Indexes t) _ v h = not_true h
of_class-key (class.PrimaryKeys t) (key.Con q n) (value.constraint c) h = first_so (same_path t q) (is_primary c.kind) h
of_class-key (class.PrimaryKeys t) (key.Con q n) _ h = not_true h
of_class-key (class.PrimaryKeys t) _ v h = not_true h
of_class-key (class.KeysOn t names) (key.Con q n) (value.constraint c) h = first_so (same_path t q) (is_unique c.kind && same_set names c.columns) h
of_class-key (class.KeysOn t names) (key.Con q n) _ h = not_true h
of_class-key (class.KeysOn t names) (key.Index q n) (value.index i) h = first_so (same_path t q) (is_on names (unique_on i)) h
of_class-key (class.KeysOn t names) (key.Index q n) _ h = not_true h
of_class-key (class.KeysOn t names) _ v h = not_true h
of_class-key (class.Members r m) (key.Member s n g) v h = h
of_class-key (class.Members r m) _ v h = not_true h

pub there_and_of-key : (c : Class) (k : Key) (v : Option Value) → there_and_of c k v ≡ true → key_of_class c k ≡ true
there_and_of-key c k (Some v) h = of_class-key c k v h
there_and_of-key c k None h = not_true h

-- a new constraint that is of a class is so by its kind and columns
pub constraint-of_class : (c : Class) (q : QName) (name : Bytes) (made : Constraint) → of_class c (key.Con q name) (value.constraint made) ≡ true → constraint_of_class c q made.kind made.columns ≡ true
constraint-of_class (class.Constraints t) q name made h = h
constraint-of_class (class.Indexes t) q name made h = not_true h
constraint-of_class (class.PrimaryKeys t) q name made h = h
constraint-of_class (class.KeysOn t names) q name made h = h
constraint-of_class (class.Members r m) q name made h = not_true h

pub index-of_class : (c : Class) (q : QName) (name : Bytes) (made : Index) → of_class c (key.Index q name) (value.index made) ≡ true → index_of_class c q (unique_on made) ≡ true
index-of_class (class.Constraints t) q name made h = not_true h
index-of_class (class.Indexes t) q name made h = h
index-of_class (class.PrimaryKeys t) q name made h = not_true h
index-of_class (class.KeysOn t names) q name made h = h
index-of_class (class.Members r m) q name made h = not_true h

-- where the names alone tell, the key's is enough
pub by_names-constraint : (c : Class) (q : QName) (name : Bytes) (kind : ConstraintKind) (names : List Bytes) → by_names c ≡ true → key_of_class c (key.Con q name) ≡ true → constraint_of_class c q kind names ≡ true
by_names-constraint (class.Constraints t) q name kind names b h = h
by_names-constraint (class.Indexes t) q name kind names b h = not_true h
by_names-constraint (class.PrimaryKeys t) q name kind names b h = not_true b
by_names-constraint (class.KeysOn t on) q name kind names b h = not_true b
by_names-constraint (class.Members r m) q name kind names b h = not_true h

pub by_names-index : (c : Class) (q : QName) (name : Bytes) (on : Option (List Bytes)) → by_names c ≡ true → key_of_class c (key.Index q name) ≡ true → index_of_class c q on ≡ true
by_names-index (class.Constraints t) q name on b h = not_true h
by_names-index (class.Indexes t) q name on b h = h
by_names-index (class.PrimaryKeys t) q name on b h = not_true b
by_names-index (class.KeysOn t names) q name on b h = not_true b
by_names-index (class.Members r m) q name on b h = not_true h

-- ---- two classes with a key in common

abbrev key_table : Key → Option QName
key_table (key.Con q name) = Some q
key_table (key.Index q name) = Some q
key_table _ = None

some_path : (t q : QName) → same_path t q ≡ true → Some t ≡ Some q
some_path t q h = ap Some (same_path-equal t q h)

key_table-of : (c : Class) (t : QName) (k : Key) → table_of c ≡ Some t → key_of_class c k ≡ true → key_table k ≡ Some t
key_table-of (class.Constraints u) t (key.Con q n) e h = sym (some_path u q h) ∙ e
key_table-of (class.Constraints u) t _ e h = not_true h
key_table-of (class.Indexes u) t (key.Index q n) e h = sym (some_path u q h) ∙ e
key_table-of (class.Indexes u) t _ e h = not_true h
key_table-of (class.PrimaryKeys u) t (key.Con q n) e h = sym (some_path u q h) ∙ e
key_table-of (class.PrimaryKeys u) t _ e h = not_true h
key_table-of (class.KeysOn u names) t (key.Con q n) e h = sym (some_path u q h) ∙ e
key_table-of (class.KeysOn u names) t (key.Index q n) e h = sym (some_path u q h) ∙ e
key_table-of (class.KeysOn u names) t _ e h = not_true h
key_table-of (class.Members r m) t k e h = cc

no_table : (r m : Bytes) (k : Key) → key_of_class (class.Members r m) k ≡ true → key_table k ≡ None
no_table r m (key.Member s n g) h = refl
no_table r m _ h = not_true h

tables_meet : (c d : Class) (t u : QName) (k : Key) → table_of c ≡ Some t → table_of d ≡ Some u → key_of_class c k ≡ true → key_of_class d k ≡ true → same_table (table_of c) (table_of d) ≡ true
tables_meet c d t u k ct du h g =
    let one : Some t ≡ Some u = sym (key_table-of c t k ct h) ∙ key_table-of d u k du g in
    let same : t ≡ u = cc in
    rw (ct, du) (subst (λ (v : QName). same_path t v ≡ true) same (same_path-self t))

members_meet : (r m s n : Bytes) (k : Key) → key_of_class (class.Members r m) k ≡ true → key_of_class (class.Members s n) k ≡ true → same_text r s && same_text m n ≡ true
members_meet r m s n (key.Member a b g) h j =
    let ra : r ≡ a = same_text-equal r a (first_so (same_text r a) (same_text m b) h) in
    let mb : m ≡ b = same_text-equal m b (second_so (same_text r a) (same_text m b) h) in
    let sa : s ≡ a = same_text-equal s a (first_so (same_text s a) (same_text n b) j) in
    let nb : n ≡ b = same_text-equal n b (second_so (same_text s a) (same_text n b) j) in
    both_true (same_text r s) (same_text m n) ((bytes_decides r s).1 (ra ∙ sym sa)) ((bytes_decides m n).1 (mb ∙ sym nb))
members_meet r m s n _ h j = not_true h

apart : {A : Type 0} (r m : Bytes) (d : Class) (t : QName) (k : Key) → table_of d ≡ Some t → key_of_class (class.Members r m) k ≡ true → key_of_class d k ≡ true → A
apart r m d t k e h g =
    let a : key_table k ≡ None = no_table r m k h in
    let b : key_table k ≡ Some t = key_table-of d t k e g in
    cc

-- a class of a table and any class
with_table : (c d : Class) (t : QName) (k : Key) → table_of c ≡ Some t → key_of_class c k ≡ true → key_of_class d k ≡ true → same_table (table_of c) (table_of d) ≡ true
with_table c (class.Constraints u) t k e h g = tables_meet c (class.Constraints u) t u k e refl h g
with_table c (class.Indexes u) t k e h g = tables_meet c (class.Indexes u) t u k e refl h g
with_table c (class.PrimaryKeys u) t k e h g = tables_meet c (class.PrimaryKeys u) t u k e refl h g
with_table c (class.KeysOn u names) t k e h g = tables_meet c (class.KeysOn u names) t u k e refl h g
with_table c (class.Members r m) t k e h g = apart r m c t k e g h

pub classes-meet : (c d : Class) (k : Key) → key_of_class c k ≡ true → key_of_class d k ≡ true → classes_meet c d ≡ true
classes-meet (class.Members r m) (class.Members s n) k h g = members_meet r m s n k h g
classes-meet (class.Members r m) (class.Constraints t) k h g = apart r m (class.Constraints t) t k refl h g
classes-meet (class.Members r m) (class.Indexes t) k h g = apart r m (class.Indexes t) t k refl h g
classes-meet (class.Members r m) (class.PrimaryKeys t) k h g = apart r m (class.PrimaryKeys t) t k refl h g
classes-meet (class.Members r m) (class.KeysOn t names) k h g = apart r m (class.KeysOn t names) t k refl h g
classes-meet (class.Constraints t) d k h g = with_table (class.Constraints t) d t k refl h g
classes-meet (class.Indexes t) d k h g = with_table (class.Indexes t) d t k refl h g
classes-meet (class.PrimaryKeys t) d k h g = with_table (class.PrimaryKeys t) d t k refl h g
classes-meet (class.KeysOn t names) d k h g = with_table (class.KeysOn t names) d t k refl h g

-- ---- marks that cover a change of one key

module _ (reads : List Mark) (k : Key) (old new : Option Value) where
  -- a mark that covers a change of a key may stand for the key
  pub covers-key : (m : Mark) → Covers reads m k old new → key_meets k m ≡ true
  covers-key (mark.Key j) h = key_eq-of k j h
  covers-key (mark.NewConstraint t n kind names) h = key_eq-of k (key.Con t n) h.0
  covers-key (mark.NewIndex t n on) h = key_eq-of k (key.Index t n) h.0
  covers-key (mark.Class c) h = h.1

  -- and meets the mark of that key
  pub covers-meets_key : (m : Mark) → Covers reads m k old new → meets m (mark.Key k) ≡ true
  covers-meets_key (mark.Key j) h = key_eq-of j k (sym h)
  covers-meets_key (mark.NewConstraint t n kind names) h = key_eq-of (key.Con t n) k (sym h.0)
  covers-meets_key (mark.NewIndex t n on) h = key_eq-of (key.Index t n) k (sym h.0)
  covers-meets_key (mark.Class c) h = h.1

  -- what was of a class before the change meets the class
  pub covers-old_class : (m : Mark) (c : Class) → Covers reads m k old new → there_and_of c k old ≡ true → meets m (mark.Class c) ≡ true
  covers-old_class (mark.Key j) c h o = subst (λ (i : Key). key_of_class c i ≡ true) h (there_and_of-key c k old o)
  covers-old_class (mark.NewConstraint t n kind names) c h o =
      let no : there_and_of c k None ≡ true = subst (λ (v : Option Value). there_and_of c k v ≡ true) h.1 o in
      not_true no
  covers-old_class (mark.NewIndex t n on) c h o =
      let no : there_and_of c k None ≡ true = subst (λ (v : Option Value). there_and_of c k v ≡ true) h.1 o in
      not_true no
  covers-old_class (mark.Class d) c h o = classes-meet d c k h.1 (there_and_of-key c k old o)

new_constraint : (c : Class) (k : Key) (t : QName) (n : Bytes) (kind : ConstraintKind) (names : List Bytes) (new : Option Value) → k ≡ key.Con t n → IsConstraint kind names new → there_and_of c k new ≡ true → constraint_of_class c t kind names ≡ true
new_constraint c k t n kind names (Some (value.constraint made)) e is h =
    let at : of_class c (key.Con t n) (value.constraint made) ≡ true = subst (λ (i : Key). of_class c i (value.constraint made) ≡ true) e h in
    let told : constraint_of_class c t made.kind made.columns ≡ true = constraint-of_class c t n made at in
    rw (is.0, is.1) at told
new_constraint c k t n kind names (Some _) e is h = absurd is
new_constraint c k t n kind names None e is h = absurd is

new_index : (c : Class) (k : Key) (t : QName) (n : Bytes) (on : Option (List Bytes)) (new : Option Value) → k ≡ key.Index t n → IsIndex on new → there_and_of c k new ≡ true → index_of_class c t on ≡ true
new_index c k t n on (Some (value.index made)) e is h =
    let at : of_class c (key.Index t n) (value.index made) ≡ true = subst (λ (i : Key). of_class c i (value.index made) ≡ true) e h in
    subst (λ (o : Option (List Bytes)). index_of_class c t o ≡ true) is (index-of_class c t n made at)
new_index c k t n on (Some _) e is h = absurd is
new_index c k t n on None e is h = absurd is

module _ (reads : List Mark) (k : Key) (old new : Option Value) where
  -- and what is of a class after it
  pub covers-new_class : (m : Mark) (c : Class) → Covers reads m k old new → there_and_of c k new ≡ true → meets m (mark.Class c) ≡ true
  covers-new_class (mark.Key j) c h o = subst (λ (i : Key). key_of_class c i ≡ true) h (there_and_of-key c k new o)
  covers-new_class (mark.NewConstraint t n kind names) c h o = new_constraint c k t n kind names new h.0 h.2 o
  covers-new_class (mark.NewIndex t n on) c h o = new_index c k t n on new h.0 h.2 o
  covers-new_class (mark.Class d) c h o = classes-meet d c k h.1 (there_and_of-key c k new o)

-- two marks that cover changes of one key meet
pub covers-meet : (reads others : List Mark) (k : Key) (old new before after : Option Value) (m n : Mark) → Covers reads m k old new → Covers others n k before after → meets m n ≡ true
covers-meet reads others k old new before after (mark.Key j) n h g = subst (λ (i : Key). key_meets i n ≡ true) h (covers-key others k before after n g)
covers-meet reads others k old new before after (mark.NewConstraint t x kind names) (mark.Key j) h g = key_eq-of (key.Con t x) j (sym h.0 ∙ g)
covers-meet reads others k old new before after (mark.NewConstraint t x kind names) (mark.NewConstraint u y kin ames) h g = key_eq-of (key.Con t x) (key.Con u y) (sym h.0 ∙ g.0)
covers-meet reads others k old new before after (mark.NewConstraint t x kind names) (mark.NewIndex u y on) h g = key_eq-of (key.Con t x) (key.Index u y) (sym h.0 ∙ g.0)
covers-meet reads others k old new before after (mark.NewConstraint t x kind names) (mark.Class c) h g = by_names-constraint c t x kind names g.0 (subst (λ (i : Key). key_of_class c i ≡ true) h.0 g.1)
covers-meet reads others k old new before after (mark.NewIndex t x on) (mark.Key j) h g = key_eq-of (key.Index t x) j (sym h.0 ∙ g)
covers-meet reads others k old new before after (mark.NewIndex t x on) (mark.NewConstraint u y kin ames) h g = key_eq-of (key.Index t x) (key.Con u y) (sym h.0 ∙ g.0)
covers-meet reads others k old new before after (mark.NewIndex t x on) (mark.NewIndex u y om) h g = key_eq-of (key.Index t x) (key.Index u y) (sym h.0 ∙ g.0)
covers-meet reads others k old new before after (mark.NewIndex t x on) (mark.Class c) h g = by_names-index c t x on g.0 (subst (λ (i : Key). key_of_class c i ≡ true) h.0 g.1)
covers-meet reads others k old new before after (mark.Class c) (mark.Key j) h g = subst (λ (i : Key). key_of_class c i ≡ true) g h.1
covers-meet reads others k old new before after (mark.Class c) (mark.NewConstraint t x kind names) h g = by_names-constraint c t x kind names h.0 (subst (λ (i : Key). key_of_class c i ≡ true) g.0 h.1)
covers-meet reads others k old new before after (mark.Class c) (mark.NewIndex t x on) h g = by_names-index c t x on h.0 (subst (λ (i : Key). key_of_class c i ≡ true) g.0 h.1)
covers-meet reads others k old new before after (mark.Class c) (mark.Class d) h g = classes-meet c d k h.1 g.1
