-- Look-ups in what a catalogue's tables stand for.
use Rattle.std.proofs.Common.{◌≡◌, Bool, true, false, cond, not, ◌&&◌, List, [], ◌∷◌, ◌++◌, Some, None, refl, sym, ap, ◌∙◌}
use Rattle.std.specs.declared.cmp.Ordering.TheVariants.{Less}
use Rattle.std.specs.FinMap.{get, find, get-from_entries}
use Rattle.std.specs.List.{list_all}
use Rattle.std.specs.Ordering.{is_lt, is_eq, eq_by_cmp}
use Rattle.cat_model.specs.declared.key.Key.{Key}
use Rattle.cat_model.specs.Keys.{key_cmp}
use Rattle.cat_model.specs.KeyLaws.{key_cmp_total}
use Rattle.cat_model.specs.declared.value.Value.{Value}
use Rattle.cat_names.specs.Naming.{Entry}
use Rattle.cat_naming.specs.Relations.{RowsByOid}
use Rattle.cat_naming.specs.Entries.{entries_of, catalogue_named}
use Rattle.cat_rows.specs.declared.catalogue.Catalogue.{Catalogue}
use Rattle.cat_same.proofs.Differences.{below}

pub found : (cat : Catalogue) (rows : RowsByOid) (k : Key) → get (catalogue_named cat rows) k ≡ find key_cmp k (entries_of cat rows)
found cat rows k = get-from_entries key_cmp_total (entries_of cat rows) k

-- entries of which none is at a key that is sought change nothing behind others
pub find-behind : (q : Key) (es fs : List Entry) → find key_cmp q fs ≡ None → find key_cmp q (es ++ fs) ≡ find key_cmp q es
find-behind q [] fs none = none
find-behind q (e ∷ es) fs none = ap (cond (eq_by_cmp key_cmp q e.0) (Some e.1)) (find-behind q es fs none)

first_of : (a b : Bool) → (a && b) ≡ true → a ≡ true
first_of true b h = refl
first_of false b h = h

second_of : (a b : Bool) → (a && b) ≡ true → b ≡ true
second_of true b h = h
second_of false b h = absurd cc

not_true : (a : Bool) → not a ≡ true → a ≡ false
not_true true h = sym h
not_true false h = refl

-- a key that is less than one than which no entry's key is less
pub none_below : (q k : Key) (es : List Entry) → key_cmp q k ≡ Less → list_all (λ e. not (is_lt (key_cmp e.0 k))) es ≡ true → find key_cmp q es ≡ None
none_below q k [] less h = refl
none_below q k (e ∷ es) less h =
    ap (λ b. cond b (Some e.1) (find key_cmp q es)) (ap is_eq (below q k e.0 (not_true _ (first_of _ _ h)) less))
    ∙ none_below q k es less (second_of _ _ h)

-- the value of one entry makes no difference to lesser keys
pub find-beside : (q k : Key) (v w : Value) (es fs : List Entry) → key_cmp q k ≡ Less → find key_cmp q (es ++ (k, v) ∷ fs) ≡ find key_cmp q (es ++ (k, w) ∷ fs)
find-beside q k v w [] fs less =
    ap (λ r. cond (is_eq r) (Some v) (find key_cmp q fs)) less
    ∙ sym (ap (λ r. cond (is_eq r) (Some w) (find key_cmp q fs)) less)
find-beside q k v w (e ∷ es) fs less = ap (cond (eq_by_cmp key_cmp q e.0) (Some e.1)) (find-beside q k v w es fs less)
