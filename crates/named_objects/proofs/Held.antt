-- What the rows of a table give by names is what the catalogue has at keys with values that are so.
use Rattle.std.proofs.Common.{◌≡◌, Bool, true, false, cond, List, Option, Some, None, refl, ◌∙◌}
use Rattle.std.specs.FinMap.{get, find, get-from_entries}
use Rattle.std.specs.List.{AllByRecursion, flat_map}
use Rattle.cat_model.specs.declared.key.Key.{Key}
use Rattle.cat_model.specs.declared.value.Value.{Value}
use Rattle.cat_model.specs.Keys.{key_cmp}
use Rattle.cat_model.specs.KeyLaws.{key_cmp_total, key_cmp-IsAntisymmetric}
use Rattle.cat_model.specs.Values.{Named}
use Rattle.cat_names.specs.Naming.{Entry}
use Rattle.cat_sound.proofs.Lists.{IsIn, of_member}
use Rattle.cat_sound.proofs.Maps.{find-in}
use Rattle.named_tables.specs.Standing.{AreRowsOf}
use Rattle.named_tables.proofs.Rows.{in_place, among_in}
use Rattle.named_tables.proofs.Entries.{in_flat, from_flat, no_entry}
use Rattle.named_objects.specs.Kinds.{kept, named_as}

pub record AreEntriesAt (named : Named) (of : Key → Value → Bool) (es : List Entry) : Type 0 where
  pub held : (k : Key) (v : Value) → IsIn (k, v) es → (get named k ≡ Some v) × (of k v ≡ true)
  pub covered : (k : Key) (v : Value) → get named k ≡ Some v → of k v ≡ true → IsIn (k, v) es

abbrev pub IsHeldAt : Named → (Key → Value → Bool) → Entry → Type 0
IsHeldAt named of e = (get named e.0 ≡ Some e.1) × (of e.0 e.1 ≡ true)

-- the map of the entries
pub entries_stand_at : (named : Named) (of : Key → Value → Bool) (es : List Entry) → AreEntriesAt named of es → (k : Key) → get (named_as es) k ≡ kept of k (get named k)
entries_stand_at named of es are k = get-from_entries key_cmp_total es k ∙ by (find key_cmp k es) refl
  where
    missing : (o : Option Value) → get named k ≡ o → find key_cmp k es ≡ None → None ≡ kept of k o
    missing None is none = refl
    missing (Some v) is none = at (of k v) refl
      where
        at : (b : Bool) → of k v ≡ b → None ≡ cond b (Some v) None
        at false e = refl
        at true e = absurd (no_entry key_cmp_total es k v (are.covered k v is e) none)

    by : (o : Option Value) → find key_cmp k es ≡ o → o ≡ kept of k (get named k)
    by (Some v) e =
        let held = are.held k v (find-in key_cmp_total key_cmp-IsAntisymmetric es k v e) in
        rw (held.0, held.1) refl
    by None e = missing (get named k) refl e

module _ {T R : Type 0} (There : T → Type 0) (Says : T → R → Type 0) (rows : List R) (are : AreRowsOf There Says rows) (named : Named) (of : Key → Value → Bool) (gives : R → List Entry) where
  pub rows_give_at : ((t : T) (row : R) → There t → Says t row → AllByRecursion (IsHeldAt named of) (gives row)) → ((k : Key) (v : Value) → get named k ≡ Some v → of k v ≡ true → (t : T) × There t × ((row : R) → Says t row → IsIn (k, v) (gives row))) → AreEntriesAt named of (flat_map gives rows)
  rows_give_at holds covers = record {
    held = λ k v among. by k v (from_flat gives rows (k, v) among);
    covered = λ k v is kind.
        let found = covers k v is kind in
        let at = are.each found.0 found.1 in
        in_flat gives rows at.0 (k, v) (among_in rows at.0 at.1) (found.2 at.0 at.2);
  }
    where
      by : (k : Key) (v : Value) → (row : R) × IsIn row rows × IsIn (k, v) (gives row) → (get named k ≡ Some v) × (of k v ≡ true)
      by k v found =
          let one = are.only found.0 (in_place rows found.0 found.1) in
          of_member (IsHeldAt named of) (gives found.0) (holds one.0 found.0 one.1 one.2) (k, v) found.2
