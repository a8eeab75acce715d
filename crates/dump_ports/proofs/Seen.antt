-- The tree that a map of texts stands for, as a change of the map changes it.
use Rattle.std.proofs.Common.{◌≡◌, ℕ, Bool, true, false, cond, List, [], ◌∷◌, ◌++◌, map, Option, Some, None, option_map, unwrap_or, String, Vec, string_bytes, BTreeMap, refl, sym, ap, ◌∙◌}
use Rattle.std.specs.Option.{option_map_or}
use Rattle.std.specs.Ordering.{nat_cmp, eq_by_cmp}
use Rattle.std.specs.Cmp.Lexicographic.{slice_cmp, nat_list_cmp_total, nat_list_eq_equiv, bytes_decides}
use Rattle.std.specs.FinMap.{get, insert, find, get-insert, get-from_entries, same_map, nat_cmp-IsAntisymmetric, slice_cmp-IsAntisymmetric}
use Rattle.std.specs.String.{string_cmp}
use Rattle.std.specs.Map.{lookup}
use Rattle.std.specs.Str.{bytes_eq}
use Rattle.std.specs.BTreeMap.{get_by_text, is_at, UpdatesBy}
use Rattle.std.proofs.lemmas.Map.Text.{btree_map_updates_text, is_eq-slice_cmp}
use Rattle.dump_ports.specs.Tree.{Tree, text_at, bytes_at, appended, patched, overwritten}
use Rattle.dump_ports.specs.Memory.{seen}

option_map-cond : {A B : Type 0} (f : A → B) (b : Bool) (x : A) (o : Option A) → option_map f (cond b (Some x) o) ≡ cond b (Some (f x)) (option_map f o)
option_map-cond f true x o = refl
option_map-cond f false x o = refl

-- names that compare alike are the same bytes
same_name : (q k : List ℕ) → eq_by_cmp (slice_cmp nat_cmp) q k ≡ true → q ≡ k
same_name q k e = (bytes_decides q k).0 (sym (is_eq-slice_cmp q k) ∙ e)

-- trees that answer alike are one
pub same_tree : (s t : Tree) → ((q : List ℕ) → text_at s q ≡ text_at t q) → s ≡ t
same_tree s t h = same_map nat_list_cmp_total (slice_cmp-IsAntisymmetric nat_cmp-IsAntisymmetric) s t h

-- to put a text where it stands already changes nothing
pub insert_same : (t : Tree) (k v : List ℕ) → text_at t k ≡ Some v → insert t k v ≡ t
insert_same t k v e = same_tree _ _ (λ q. get-insert nat_list_cmp_total t k v q ∙ back q (eq_by_cmp (slice_cmp nat_cmp) q k) refl)
  where
    back : (q : List ℕ) (b : Bool) → eq_by_cmp (slice_cmp nat_cmp) q k ≡ b → cond b (Some v) (get t q) ≡ get t q
    back q true s = sym e ∙ ap (get t) (sym (same_name q k s))
    back q false s = refl

module _ {Y Z : Type 0} where
  find_seen : (es : List (String Y × Vec ℕ Z)) (q : List ℕ) → find (slice_cmp nat_cmp) q (map {B = List ℕ × List ℕ} (λ e. (string_bytes e.0, e.1.items)) es) ≡ option_map (λ text. text.items) (lookup (is_at (λ k. slice_cmp nat_cmp q (string_bytes k))) es)
  find_seen [] q = refl
  find_seen (e ∷ es) q =
      let at = is_at (λ k. slice_cmp nat_cmp q (string_bytes k)) e.0 in
      ap (cond at (Some e.1.items)) (find_seen es q) ∙ sym (option_map-cond (λ (text : Vec ℕ Z). text.items) at e.1 (lookup (is_at (λ k. slice_cmp nat_cmp q (string_bytes k))) es))

  -- a name's text in the tree is the one that the map has
  pub text_seen : (m : BTreeMap (String Y) (Vec ℕ Z)) (q : List ℕ) → text_at (seen m) q ≡ option_map (λ text. text.items) (get_by_text m q)
  text_seen m q = get-from_entries nat_list_cmp_total _ q ∙ find_seen m.entries q

  -- to set a name's text in the map is to set it in the tree
  pub set_seen : (m n : BTreeMap (String Y) (Vec ℕ Z)) (name : List ℕ) (text : Vec ℕ Z) → UpdatesBy string_cmp (λ k. slice_cmp nat_cmp name (string_bytes k)) m n (Some text) → seen n ≡ insert (seen m) name text.items
  set_seen m n name text u = same_tree _ _ (λ q.
      text_seen n q
      ∙ ap (option_map (λ text. text.items)) (btree_map_updates_text name m n (Some text) u q)
      ∙ option_map-cond (λ (text : Vec ℕ Z). text.items) (bytes_eq name q) text (get_by_text m q)
      ∙ ap (λ b. cond b (Some text.items) (option_map (λ text. text.items) (get_by_text m q))) (nat_list_eq_equiv.symm name q ∙ sym (is_eq-slice_cmp q name))
      ∙ sym (get-insert nat_list_cmp_total (seen m) name text.items q ∙ ap (cond (eq_by_cmp (slice_cmp nat_cmp) q name) (Some text.items)) (text_seen m q)))

  -- the bytes behind a name that the map has
  pub bytes_seen : (m : BTreeMap (String Y) (Vec ℕ Z)) (name : List ℕ) (text : Vec ℕ Z) → get_by_text m name ≡ Some text → bytes_at (seen m) name ≡ text.items
  bytes_seen m name text e = ap (λ o. unwrap_or o []) (text_seen m name ∙ ap (option_map (λ text. text.items)) e)

  -- and of one that it hasn't
  pub none_seen : (m : BTreeMap (String Y) (Vec ℕ Z)) (name : List ℕ) → get_by_text m name ≡ None → text_at (seen m) name ≡ None
  none_seen m name e = text_seen m name ∙ ap (option_map (λ text. text.items)) e

  -- a text in place of one that the map has
  pub changed_seen : (m n : BTreeMap (String Y) (Vec ℕ Z)) (name : List ℕ) (old new : Vec ℕ Z) (bytes : List ℕ) → get_by_text m name ≡ Some old → UpdatesBy string_cmp (λ k. slice_cmp nat_cmp name (string_bytes k)) m n (Some new) → new.items ≡ old.items ++ bytes → seen n ≡ appended name bytes (seen m)
  changed_seen m n name old new bytes e u is =
      set_seen m n name new u ∙ ap (insert (seen m) name) (is ∙ ap (λ items. items ++ bytes) (sym (bytes_seen m name old e)))

  -- a text that is as it was
  pub kept_seen : (m n : BTreeMap (String Y) (Vec ℕ Z)) (name : List ℕ) (old new : Vec ℕ Z) → get_by_text m name ≡ Some old → UpdatesBy string_cmp (λ k. slice_cmp nat_cmp name (string_bytes k)) m n (Some new) → new.items ≡ old.items → seen n ≡ seen m
  kept_seen m n name old new e u is =
      set_seen m n name new u ∙ ap (insert (seen m) name) is ∙ insert_same (seen m) name old.items (text_seen m name ∙ ap (option_map (λ text. text.items)) e)

  -- an absent name begins empty
  pub begun_seen : (m n : BTreeMap (String Y) (Vec ℕ Z)) (name bytes : List ℕ) → get_by_text m name ≡ None → seen n ≡ insert (seen m) name bytes → seen n ≡ appended name bytes (seen m)
  begun_seen m n name bytes e is = is ∙ ap (λ old. insert (seen m) name (old ++ bytes)) (sym (ap (λ o. unwrap_or o []) (none_seen m name e)))

  -- bytes in place of others in a text that the map has
  pub patched_seen : (m n : BTreeMap (String Y) (Vec ℕ Z)) (name : List ℕ) (at : ℕ) (bytes : List ℕ) (old new : Vec ℕ Z) → get_by_text m name ≡ Some old → UpdatesBy string_cmp (λ k. slice_cmp nat_cmp name (string_bytes k)) m n (Some new) → new.items ≡ overwritten at bytes old.items → seen n ≡ patched name at bytes (seen m)
  patched_seen m n name at bytes old new e u is =
      set_seen m n name new u ∙ ap (insert (seen m) name) is
      ∙ ap (λ o. option_map_or (λ text. insert (seen m) name (overwritten at bytes text)) o (seen m)) (sym (text_seen m name ∙ ap (option_map (λ text. text.items)) e))

-- the second text that is put at a name stays
shadowed : {A : Type 0} (b : Bool) (x y z : A) → cond b x (cond b y z) ≡ cond b x z
shadowed true x y z = refl
shadowed false x y z = refl

pub insert_twice : (t : Tree) (k v w : List ℕ) → insert (insert t k v) k w ≡ insert t k w
insert_twice t k v w = same_tree _ _ (λ q.
    let at = eq_by_cmp (slice_cmp nat_cmp) q k in
    get-insert nat_list_cmp_total (insert t k v) k w q
    ∙ ap (cond at (Some w)) (get-insert nat_list_cmp_total t k v q)
    ∙ shadowed at (Some w) (Some v) (get t q)
    ∙ sym (get-insert nat_list_cmp_total t k w q))

-- what was put at a name stands there
pub bytes_inserted : (t : Tree) (k v : List ℕ) → bytes_at (insert t k v) k ≡ v
bytes_inserted t k v =
    ap (λ o. unwrap_or o []) (get-insert nat_list_cmp_total t k v k
    ∙ ap (λ b. cond b (Some v) (get t k)) (is_eq-slice_cmp k k ∙ nat_list_eq_equiv.refl k))

pub appended_to : (t : Tree) (k v bytes : List ℕ) → appended k bytes (insert t k v) ≡ insert t k (v ++ bytes)
appended_to t k v bytes = insert_twice t k v _ ∙ ap (λ old. insert t k (old ++ bytes)) (bytes_inserted t k v)
