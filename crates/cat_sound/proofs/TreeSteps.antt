-- A statement leaves a catalogue in order where each step of its tree does: what a condition says is there for what
-- follows it, and where a condition refuses nothing changes.
use Rattle.std.proofs.Common.{◌≡◌, ℕ, Bool, true, false, List, [], ◌∷◌, Option, Some, None, refl, sym, subst}
use Rattle.std.specs.FinMap.{get, entries}
use Rattle.std.specs.List.{AllByRecursion}
use Rattle.cat_model.specs.declared.object.QName.{QName}
use Rattle.cat_model.specs.declared.key.Key.{Key}
use Rattle.cat_model.specs.declared.key.Key.TheVariants as key
use Rattle.cat_model.specs.declared.class.Class.{Class}
use Rattle.cat_model.specs.declared.cause.Cause.{Cause}
use Rattle.cat_model.specs.declared.cause.Cause.TheVariants as cause
use Rattle.cat_model.specs.declared.value.Value.TheVariants as value
use Rattle.cat_model.specs.declared.value.Value.{Value}
use Rattle.cat_model.specs.declared.value.Column.{Column}
use Rattle.cat_model.specs.declared.value.Sequence.{Sequence}
use Rattle.cat_model.specs.declared.value.Domain.{Domain}
use Rattle.cat_model.specs.declared.value.Role.{Role}
use Rattle.cat_model.specs.Values.{Bytes, Named}
use Rattle.cat_model.specs.Trees.{Change, Tree, refuse, sets, look, scan, changed, next, class_of}
use Rattle.cat_model.specs.Conditions.{needs, if_there, needs_each, free, if_free, check, needs_kind, if_of_kind, needs_table, if_table, needs_sequence, if_sequence, needs_domain, if_domain, needs_role, if_role}
use Rattle.cat_model.specs.KeyEffects.{refuse_repeated, refuse_null, refuse_orphan, if_no_primary, if_key}
use Rattle.cat_sound.specs.Texts.{Texts}
use Rattle.cat_sound.specs.Asked.{Asked, Passes}
use Rattle.cat_sound.specs.Asks.{all_there}
use Rattle.cat_sound.specs.Sound.{is_comment, IsMet, IsSound}
use Rattle.cat_sound.proofs.Changes.{are_kept, kept_there}

-- What the tree leaves is in order, and what was there is there but comments. A record, so that its type tells the tree.
pub record Keeps (texts : Texts) (named : Named) (tree : Tree) : Type 0 where
  pub is : IsSound texts (next tree named)
  pub stays : (k : Key) → is_comment k ≡ false → IsMet named (k, Asked.there) → IsMet (next tree named) (k, Asked.there)

module _ {texts : Texts} {named : Named} where
  pub keeps_sets : {cs : List Change} → are_kept cs ≡ true → IsSound texts (changed cs named) → Keeps texts named (sets cs)
  keeps_sets {cs} kept sound = record { is = sound; stays = λ k apart met. kept_there cs named kept k apart met }

  pub keeps_look : (k : Key) {then_do : Option Value → Tree} → ((o : Option Value) → get named k ≡ o → Keeps texts named (then_do o)) → Keeps texts named (look k then_do)
  keeps_look k step = record { is = (step (get named k) refl).is; stays = (step (get named k) refl).stays }

  pub keeps_scan : (c : Class) {then_do : List (Key × Value) → Tree} → ((es : List (Key × Value)) → entries (class_of named c) ≡ es → Keeps texts named (then_do es)) → Keeps texts named (scan c then_do)
  keeps_scan c step = record { is = (step (entries (class_of named c)) refl).is; stays = (step (entries (class_of named c)) refl).stays }

module _ {texts : Texts} {named : Named} (sound : IsSound texts named) where
  pub keeps_refuse : (because : Cause) → Keeps texts named (refuse because)
  keeps_refuse because = record { is = sound; stays = λ k apart met. met }

  pub keeps_check : (holds : Bool) (because : Cause) {tree : Tree} → (holds ≡ true → Keeps texts named tree) → Keeps texts named (check holds because tree)
  keeps_check true because step = step refl
  keeps_check false because step = keeps_refuse because

  there : (k : Key) (tree : Tree) (o : Option Value) → get named k ≡ o → ((v : Value) → get named k ≡ Some v → Keeps texts named tree) → Keeps texts named (if_there k tree o)
  there k tree (Some v) is step = step v is
  there k tree None is step = keeps_refuse (cause.Absent k)

  pub keeps_needs : (k : Key) {tree : Tree} → ((v : Value) → get named k ≡ Some v → Keeps texts named tree) → Keeps texts named (needs k tree)
  keeps_needs k {tree} step = keeps_look k (λ o is. there k tree o is step)

  pub keeps_needs_each : (ks : List Key) {tree : Tree} → (AllByRecursion (IsMet named) (all_there ks) → Keeps texts named tree) → Keeps texts named (needs_each ks tree)
  keeps_needs_each [] step = step tt
  keeps_needs_each (k ∷ ks) step =
      keeps_needs k (λ v is. keeps_needs_each ks (λ all. step (subst (λ (o : Option Value). Passes o Asked.there) (sym is) tt, all)))

  absent : (k : Key) (tree : Tree) (o : Option Value) → get named k ≡ o → (get named k ≡ None → Keeps texts named tree) → Keeps texts named (if_free k tree o)
  absent k tree (Some v) is step = keeps_refuse (cause.Exists k)
  absent k tree None is step = step is

  pub keeps_free : (k : Key) {tree : Tree} → (get named k ≡ None → Keeps texts named tree) → Keeps texts named (free k tree)
  keeps_free k {tree} step = keeps_look k (λ o is. absent k tree o is step)

  of_kind : (kind : Value → Bool) (k : Key) (tree : Tree) (o : Option Value) → get named k ≡ o → ((v : Value) → get named k ≡ Some v → kind v ≡ true → Keeps texts named tree) → Keeps texts named (if_of_kind kind k tree o)
  of_kind kind k tree (Some v) is step = keeps_check (kind v) (cause.Absent k) (step v is)
  of_kind kind k tree None is step = keeps_refuse (cause.Absent k)

  pub keeps_kind : (kind : Value → Bool) (k : Key) {tree : Tree} → ((v : Value) → get named k ≡ Some v → kind v ≡ true → Keeps texts named tree) → Keeps texts named (needs_kind kind k tree)
  keeps_kind kind k {tree} step = keeps_look k (λ o is. of_kind kind k tree o is step)

  of_table : (q : QName) (then_do : List Column → Tree) (o : Option Value) → get named (key.Rel q) ≡ o → ((columns : List Column) → get named (key.Rel q) ≡ Some (value.Table columns) → Keeps texts named (then_do columns)) → Keeps texts named (if_table q then_do o)
  of_table q then_do (Some (value.Table columns)) is step = step columns is
  of_table q then_do (Some _) is step = keeps_refuse (cause.Absent (key.Rel q))
  of_table q then_do None is step = keeps_refuse (cause.Absent (key.Rel q))

  pub keeps_table : (q : QName) {then_do : List Column → Tree} → ((columns : List Column) → get named (key.Rel q) ≡ Some (value.Table columns) → Keeps texts named (then_do columns)) → Keeps texts named (needs_table q then_do)
  keeps_table q {then_do} step = keeps_look (key.Rel q) (λ o is. of_table q then_do o is step)

  of_sequence : (q : QName) (then_do : Sequence → Tree) (o : Option Value) → get named (key.Rel q) ≡ o → ((s : Sequence) → get named (key.Rel q) ≡ Some (value.Sequence s) → Keeps texts named (then_do s)) → Keeps texts named (if_sequence q then_do o)
  of_sequence q then_do (Some (value.Sequence s)) is step = step s is
  of_sequence q then_do (Some _) is step = keeps_refuse (cause.Absent (key.Rel q))
  of_sequence q then_do None is step = keeps_refuse (cause.Absent (key.Rel q))

  pub keeps_sequence : (q : QName) {then_do : Sequence → Tree} → ((s : Sequence) → get named (key.Rel q) ≡ Some (value.Sequence s) → Keeps texts named (then_do s)) → Keeps texts named (needs_sequence q then_do)
  keeps_sequence q {then_do} step = keeps_look (key.Rel q) (λ o is. of_sequence q then_do o is step)

  of_domain : (q : QName) (then_do : Domain → Tree) (o : Option Value) → get named (key.UserType q) ≡ o → ((d : Domain) → get named (key.UserType q) ≡ Some (value.Domain d) → Keeps texts named (then_do d)) → Keeps texts named (if_domain q then_do o)
  of_domain q then_do (Some (value.Domain d)) is step = step d is
  of_domain q then_do (Some _) is step = keeps_refuse (cause.Absent (key.UserType q))
  of_domain q then_do None is step = keeps_refuse (cause.Absent (key.UserType q))

  pub keeps_domain : (q : QName) {then_do : Domain → Tree} → ((d : Domain) → get named (key.UserType q) ≡ Some (value.Domain d) → Keeps texts named (then_do d)) → Keeps texts named (needs_domain q then_do)
  keeps_domain q {then_do} step = keeps_look (key.UserType q) (λ o is. of_domain q then_do o is step)

  of_role : (name : Bytes) (then_do : Role → Tree) (o : Option Value) → get named (key.Role name) ≡ o → ((r : Role) → get named (key.Role name) ≡ Some (value.Role r) → Keeps texts named (then_do r)) → Keeps texts named (if_role name then_do o)
  of_role name then_do (Some (value.Role r)) is step = step r is
  of_role name then_do (Some _) is step = keeps_refuse (cause.Absent (key.Role name))
  of_role name then_do None is step = keeps_refuse (cause.Absent (key.Role name))

  pub keeps_role : (name : Bytes) {then_do : Role → Tree} → ((r : Role) → get named (key.Role name) ≡ Some (value.Role r) → Keeps texts named (then_do r)) → Keeps texts named (needs_role name then_do)
  keeps_role name {then_do} step = keeps_look (key.Role name) (λ o is. of_role name then_do o is step)

  -- ---- conditions on rows and on keys of tables

  pub keeps_repeated : (name : Bytes) (o : Option (ℕ × ℕ)) {tree : Tree} → Keeps texts named tree → Keeps texts named (refuse_repeated name o tree)
  keeps_repeated name None step = step
  keeps_repeated name (Some (first, second)) step = keeps_refuse (cause.Duplicate name first second)

  pub keeps_null : (o : Option (ℕ × ℕ)) {tree : Tree} → Keeps texts named tree → Keeps texts named (refuse_null o tree)
  keeps_null None step = step
  keeps_null (Some (column, row)) step = keeps_refuse (cause.NullValue column row)

  pub keeps_orphan : (name : Bytes) (o : Option ℕ) {tree : Tree} → Keeps texts named tree → Keeps texts named (refuse_orphan name o tree)
  keeps_orphan name None step = step
  keeps_orphan name (Some row) step = keeps_refuse (cause.NoParent name row)

  pub keeps_no_primary : (es : List (Key × Value)) {tree : Tree} → (es ≡ [] → Keeps texts named tree) → Keeps texts named (if_no_primary tree es)
  keeps_no_primary [] step = step refl
  keeps_no_primary ((k, v) ∷ es) step = keeps_refuse (cause.Exists k)

  pub keeps_key : (parent : QName) (es : List (Key × Value)) {tree : Tree} → ((e : Key × Value) (more : List (Key × Value)) → es ≡ e ∷ more → Keeps texts named tree) → Keeps texts named (if_key parent tree es)
  keeps_key parent [] step = keeps_refuse (cause.KeyMissing (key.Rel parent))
  keeps_key parent (e ∷ es) step = step e es refl
