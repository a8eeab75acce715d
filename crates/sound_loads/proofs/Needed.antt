-- What texts refer to is there in a loaded catalogue.
use Rattle.std.proofs.Common.{◌≡◌, Bool, true, false, not, ◌||◌, List, [], ◌∷◌, Option, Some, None, refl, sym, ap, ◌∙◌, inl, inr}
use Rattle.std.proofs.lemmas.Bool.{and_parts}
use Rattle.std.specs.declared.cmp.Ordering.{Ordering}
use Rattle.std.specs.declared.cmp.Ordering.TheVariants.{Less, Equal, Greater}
use Rattle.std.specs.FinMap.{IsAntisymmetric, nat_cmp-IsAntisymmetric, slice_cmp-IsAntisymmetric}
use Rattle.std.specs.List.{AllByRecursion, list_all, filter_map, cons_option}
use Rattle.std.specs.Ordering.{ordering_then, eq_by_cmp}
use Rattle.cat_rows.specs.declared.catalogue.Catalogue.{Catalogue}
use Rattle.cat_model.specs.declared.key.Key.{Key}
use Rattle.cat_model.specs.declared.key.Key.TheVariants as key
use Rattle.cat_model.specs.declared.object.QName.{QName}
use Rattle.cat_model.specs.Values.{bytes_cmp}
use Rattle.cat_book.specs.Paths.{type_path, class_path, path_cmp, type_paths, has_path}
use Rattle.text_tables.specs.Agreeing.{is_met, is_path}
use Rattle.well_formed.specs.Formed.{IsWellFormed}
use Rattle.cat_naming.specs.Entries.{catalogue_named}
use Rattle.cat_naming.specs.Relations.{RowsByOid}
use Rattle.cat_sound.specs.Asked.{Asked}
use Rattle.cat_sound.specs.Sound.{IsMet}
use Rattle.cat_sound.proofs.Asking.{is_named}
use Rattle.cat_sound.proofs.Lists.{IsIn}
use Rattle.cat_sound.proofs.Maps.{equal_of}
use Rattle.cat_sound.proofs.References.{AreThere}
use Rattle.sound_rows.proofs.Among.{place_in}
use Rattle.sound_loads.proofs.Classes.{relation_there}
use Rattle.sound_loads.proofs.Standing.{is_met as met_there}
use Rattle.sound_loads.proofs.Types.{type_is_there}

path_cmp-IsAntisymmetric : IsAntisymmetric path_cmp
path_cmp-IsAntisymmetric x y e = by (bytes_cmp x.schema y.schema) refl e
  where
    by : (o : Ordering) → bytes_cmp x.schema y.schema ≡ o → ordering_then o (bytes_cmp x.name y.name) ≡ Equal → x ≡ y
    by Less is h = absurd cc
    by Greater is h = absurd cc
    by Equal is h =
        let one : x.schema ≡ y.schema = slice_cmp-IsAntisymmetric nat_cmp-IsAntisymmetric x.schema y.schema is in
        let two : x.name ≡ y.name = slice_cmp-IsAntisymmetric nat_cmp-IsAntisymmetric x.name y.name h in
        λ i. record { schema = one i; name = two i }

-- a path that is there is that of a row
path_in : {R : Type 0} (path : R → Option QName) (rows : List R) (q : QName) → has_path (filter_map path rows) q ≡ true → (r : R) × IsIn r rows × (path r ≡ Some q)
path_in path [] q e = absurd cc
path_in {R} path (r ∷ rows) q e = by (path_in path rows q) (path r) refl e
  where
    found : (has_path (filter_map path rows) q ≡ true → (s : R) × IsIn s rows × (path s ≡ Some q)) → (p : QName) → path r ≡ Some p → (b : Bool) → eq_by_cmp path_cmp q p ≡ b → (b || has_path (filter_map path rows) q) ≡ true → (s : R) × IsIn s (r ∷ rows) × (path s ≡ Some q)
    found later p is true same h = (r, inl refl, is ∙ ap (λ (x : QName). Some x) (sym (equal_of path_cmp-IsAntisymmetric q p (path_cmp q p) refl same)))
    found later p is false same h = let s = later h in (s.0, inr s.1, s.2)

    by : (has_path (filter_map path rows) q ≡ true → (s : R) × IsIn s rows × (path s ≡ Some q)) → (o : Option QName) → path r ≡ o → has_path (cons_option o (filter_map path rows)) q ≡ true → (s : R) × IsIn s (r ∷ rows) × (path s ≡ Some q)
    by later None is h = let s = later h in (s.0, inr s.1, s.2)
    by later (Some p) is h = found later p is (eq_by_cmp path_cmp q p) refl h

module _ (cat : Catalogue) (rows : RowsByOid) (well : IsWellFormed cat) where
  one_there : (own : Option QName) (k : Key) → is_named k ≡ true → is_met cat own k ≡ true → IsMet (catalogue_named cat rows) (k, Asked.there)
  one_there own (key.Rel q) named e =
      let c = path_in (class_path cat.pg_namespace) cat.pg_class q e in
      met_there cat rows (key.Rel q) (relation_there cat well rows c.0 (place_in cat.pg_class c.0 c.1) q c.2)
  one_there own (key.UserType q) named e =
      let t = path_in (type_path cat.pg_namespace) cat.pg_type q (and_parts (has_path (type_paths cat) q) (not (is_path own q)) e).0 in
      met_there cat rows (key.UserType q) (type_is_there cat well rows t.0 (place_in cat.pg_type t.0 t.1) q t.2)
  one_there own _ named e = absurd cc

  pub references_there : (own : Option QName) (keys : List Key) → AllByRecursion (λ k. is_named k ≡ true) keys → list_all (is_met cat own) keys ≡ true → AreThere (catalogue_named cat rows) keys
  references_there own [] named e = tt
  references_there own (k ∷ keys) named e = let both = and_parts (is_met cat own k) (list_all (is_met cat own) keys) e in (one_there own k named.0 both.0, references_there own keys named.1 both.1)
