-- Each condition stays within a footprint that reads the keys that it looks at.
use Rattle.std.proofs.Common.{◌≡◌, Bool, true, false, List, [], ◌∷◌, ◌++◌, map, Option, Some, None, refl, ap, sym, subst, ◌∙◌, inl, inr}
use Rattle.std.specs.Prelude.{◌⊎◌, ℕ}
use Rattle.cat_model.specs.declared.object.QName.{QName}
use Rattle.cat_model.specs.declared.key.Key.{Key}
use Rattle.cat_model.specs.declared.key.Key.TheVariants as key
use Rattle.cat_model.specs.declared.class.Class.{Class}
use Rattle.cat_model.specs.declared.class.Mark.{Mark}
use Rattle.cat_model.specs.declared.class.Mark.TheVariants as mark
use Rattle.cat_model.specs.declared.footprint.Footprint.{Footprint}
use Rattle.cat_model.specs.declared.cause.Cause.{Cause}
use Rattle.cat_model.specs.declared.cause.Cause.TheVariants as cause
use Rattle.cat_model.specs.declared.value.Value.TheVariants as value
use Rattle.cat_model.specs.declared.value.Value.{Value}
use Rattle.cat_model.specs.declared.value.Column.{Column}
use Rattle.cat_model.specs.declared.value.Sequence.{Sequence}
use Rattle.cat_model.specs.declared.value.Domain.{Domain}
use Rattle.cat_model.specs.declared.value.Role.{Role}
use Rattle.cat_model.specs.Values.{Bytes}
use Rattle.cat_model.specs.Trees.{Change, Tree, refuse, sets, look, scan, Seen}
use Rattle.cat_model.specs.Marks.{Among, IsCovered, AllCovered, IsWithin}
use Rattle.cat_model.specs.Footprints.{marks}
use Rattle.cat_model.specs.Conditions.{needs, if_there, needs_each, free, if_free, check, needs_kind, if_of_kind, needs_table, if_table, needs_sequence, if_sequence, needs_domain, if_domain, needs_role, if_role}
use Rattle.cat_model.specs.KeyEffects.{refuse_repeated, refuse_null, refuse_orphan, if_no_primary, if_key}

-- ---- among marks

pub among-left : (xs ys : List Mark) (m : Mark) → Among xs m → Among (xs ++ ys) m
among-left [] ys m h = elim h [ ]
among-left (x ∷ xs) ys m (inl e) = inl e
among-left (x ∷ xs) ys m (inr h) = inr (among-left xs ys m h)

pub among-right : (xs ys : List Mark) (m : Mark) → Among ys m → Among (xs ++ ys) m
among-right [] ys m h = h
among-right (x ∷ xs) ys m h = inr (among-right xs ys m h)

-- ---- conditions

-- a tree stays within a footprint; a record, so that its type tells the tree
pub record Stays (f : Footprint) (s : Seen) (tree : Tree) : Type 0 where
  pub is : IsWithin f s tree

-- and so do changes
pub record Covered (f : Footprint) (s : Seen) (changes : List Change) : Type 0 where
  pub is : AllCovered f s changes

module _ {f : Footprint} {s : Seen} where
  pub nothing : Covered f s []
  nothing = record { is = tt }

  pub stays-sets : {cs : List Change} → Covered f s cs → Stays f s (sets cs)
  stays-sets h = record { is = h.is }

  pub stays-scan : {c : Class} {next : List (Key × Value) → Tree} → Among f.reads (mark.Class c) → ((es : List (Key × Value)) → Stays f s (next es)) → Stays f s (scan c next)
  stays-scan {c} read h = record { is = (read, (h (s.all c)).is) }

  pub stays-look : {k : Key} {next : Option Value → Tree} → Among f.reads (mark.Key k) → ((v : Option Value) → Stays f s (next v)) → Stays f s (look k next)
  stays-look {k} read h = record { is = (read, (h (s.at k)).is) }

  pub stays-check : (b : Bool) (because : Cause) {next : Tree} → Stays f s next → Stays f s (check b because next)
  stays-check true because h = h
  stays-check false because h = record { is = tt }

  there : (k : Key) (next : Tree) (v : Option Value) → Stays f s next → IsWithin f s (if_there k next v)
  there k next (Some v) h = h.is
  there k next None h = tt

  pub stays-needs : (k : Key) {next : Tree} → Among f.reads (mark.Key k) → Stays f s next → Stays f s (needs k next)
  stays-needs k {next} read h = record { is = (read, there k next (s.at k) h) }

  pub stays-each : (ks : List Key) {next : Tree} → ((m : Mark) → Among (marks ks) m → Among f.reads m) → Stays f s next → Stays f s (needs_each ks next)
  stays-each [] read h = h
  stays-each (k ∷ ks) read h = stays-needs k (read (mark.Key k) (inl refl)) (stays-each ks (λ m a. read m (inr a)) h)

  absent : (k : Key) (next : Tree) (v : Option Value) → s.at k ≡ v → (s.at k ≡ None → Stays f s next) → IsWithin f s (if_free k next v)
  absent k next (Some v) e h = tt
  absent k next None e h = (h e).is

  -- behind it the key is known not to be there
  pub stays-free : (k : Key) {next : Tree} → Among f.reads (mark.Key k) → (s.at k ≡ None → Stays f s next) → Stays f s (free k next)
  stays-free k {next} read h = record { is = (read, absent k next (s.at k) refl h) }

  of_kind : (kind : Value → Bool) (k : Key) (next : Tree) (v : Option Value) → Stays f s next → IsWithin f s (if_of_kind kind k next v)
  of_kind kind k next (Some v) h = (stays-check (kind v) (cause.Absent k) h).is
  of_kind kind k next None h = tt

  pub stays-kind : (kind : Value → Bool) (k : Key) {next : Tree} → Among f.reads (mark.Key k) → Stays f s next → Stays f s (needs_kind kind k next)
  stays-kind kind k {next} read h = record { is = (read, of_kind kind k next (s.at k) h) }

  of_table : (q : QName) (next : List Column → Tree) (v : Option Value) → ((columns : List Column) → Stays f s (next columns)) → IsWithin f s (if_table q next v)
  of_table q next (Some (value.Table columns)) h = (h columns).is
  of_table q next (Some _) h = tt
  of_table q next None h = tt

  pub stays-table : (q : QName) {next : List Column → Tree} → Among f.reads (mark.Key (key.Rel q)) → ((columns : List Column) → Stays f s (next columns)) → Stays f s (needs_table q next)
  stays-table q {next} read h = record { is = (read, of_table q next (s.at (key.Rel q)) h) }

  of_sequence : (q : QName) (next : Sequence → Tree) (v : Option Value) → ((n : Sequence) → Stays f s (next n)) → IsWithin f s (if_sequence q next v)
  of_sequence q next (Some (value.Sequence n)) h = (h n).is
  of_sequence q next (Some _) h = tt
  of_sequence q next None h = tt

  pub stays-sequence : (q : QName) {next : Sequence → Tree} → Among f.reads (mark.Key (key.Rel q)) → ((n : Sequence) → Stays f s (next n)) → Stays f s (needs_sequence q next)
  stays-sequence q {next} read h = record { is = (read, of_sequence q next (s.at (key.Rel q)) h) }

  of_domain : (q : QName) (next : Domain → Tree) (v : Option Value) → ((d : Domain) → Stays f s (next d)) → IsWithin f s (if_domain q next v)
  of_domain q next (Some (value.Domain d)) h = (h d).is
  of_domain q next (Some _) h = tt
  of_domain q next None h = tt

  pub stays-domain : (q : QName) {next : Domain → Tree} → Among f.reads (mark.Key (key.UserType q)) → ((d : Domain) → Stays f s (next d)) → Stays f s (needs_domain q next)
  stays-domain q {next} read h = record { is = (read, of_domain q next (s.at (key.UserType q)) h) }

  of_role : (name : Bytes) (next : Role → Tree) (v : Option Value) → ((r : Role) → Stays f s (next r)) → IsWithin f s (if_role name next v)
  of_role name next (Some (value.Role r)) h = (h r).is
  of_role name next (Some _) h = tt
  of_role name next None h = tt

  pub stays-role : (name : Bytes) {next : Role → Tree} → Among f.reads (mark.Key (key.Role name)) → ((r : Role) → Stays f s (next r)) → Stays f s (needs_role name next)
  stays-role name {next} read h = record { is = (read, of_role name next (s.at (key.Role name)) h) }

  -- ---- conditions on rows

  pub stays-repeated : (name : Bytes) (o : Option (ℕ × ℕ)) {next : Tree} → Stays f s next → Stays f s (refuse_repeated name o next)
  stays-repeated name None h = h
  stays-repeated name (Some (first, second)) h = record { is = tt }

  pub stays-null : (o : Option (ℕ × ℕ)) {next : Tree} → Stays f s next → Stays f s (refuse_null o next)
  stays-null None h = h
  stays-null (Some (column, row)) h = record { is = tt }

  pub stays-orphan : (name : Bytes) (o : Option ℕ) {next : Tree} → Stays f s next → Stays f s (refuse_orphan name o next)
  stays-orphan name None h = h
  stays-orphan name (Some row) h = record { is = tt }

  pub stays-no_primary : (es : List (Key × Value)) {next : Tree} → Stays f s next → Stays f s (if_no_primary next es)
  stays-no_primary [] h = h
  stays-no_primary ((k, v) ∷ es) h = record { is = tt }

  pub stays-has_key : (parent : QName) (es : List (Key × Value)) {next : Tree} → Stays f s next → Stays f s (if_key parent next es)
  stays-has_key parent [] h = record { is = tt }
  stays-has_key parent (e ∷ es) h = h

-- ---- changes

module _ (f : Footprint) (s : Seen) where
  -- one more change, covered by the writes
  pub more : (k : Key) (v : Option Value) {cs : List Change} → IsCovered f.reads f.writes k (s.at k) v → Covered f s cs → Covered f s ((k, v) ∷ cs)
  more k v h rest = record { is = (h, rest.is) }

  pub covered-append : (cs ds : List Change) → AllCovered f s cs → AllCovered f s ds → AllCovered f s (cs ++ ds)
  covered-append [] ds h g = g
  covered-append (c ∷ cs) ds h g = (h.0, covered-append cs ds h.1 g)
