-- The end that is found for a type is the one of the definition.
use Rattle.std.proofs.Common.{◌≡◌, ◌≢◌, ℕ, zero, suc, ◌+◌, ◌<◌, ◌≤◌, Bool, true, false, true≢false, cond, not, List, [], ◌∷◌, length, Option, Some, None, option_map, option_and_then, is_some, unwrap_or, slice_get, find, rules, inl, inr, refl, sym, ap, subst, ◌∙◌, arith, zero-add}
use Rattle.std.specs.Prelude.{◌==◌, ◌&&◌, ◌||◌}
use Rattle.std.specs.List.{enumerate_from}
use Rattle.std.specs.Ordering.{is_eq}
use Rattle.std.specs.declared.cmp.Ordering.TheVariants.{Greater}
use Rattle.std.specs.Cmp.{nat_cmp_is}
use Rattle.std.proofs.lemmas.Bool.{cases_lt}
use Rattle.std.proofs.lemmas.List.{length-map}
use Rattle.std.proofs.lemmas.List.FromFn.{length-enumerate_from}
use Rattle.std.proofs.lemmas.Map.Lookups.{exact_unsigned}
use Rattle.std.proofs.lemmas.Map.Views.{tells_apart}
use Rattle.std.proofs.lemmas.Option.{none-some, slice_get-map}
use Rattle.cat_rows.specs.declared.catalogue.Catalogue.{Catalogue}
use Rattle.cat_rows.specs.declared.types.TypeRow.{TypeRow}
use Rattle.cat_model.specs.declared.object.QName.{QName}
use Rattle.cat_model.specs.declared.type_name.TypeName.{TypeName}
use Rattle.cat_model.specs.TypeEffects.{as_it_is}
use Rattle.cat_model.specs.declared.value.Resolved.{Resolved}
use Rattle.cat_model.specs.Values.{Bytes}
use Rattle.cat_names.specs.Lookups.{same_oid, place_of, is_no_oid}
use Rattle.cat_book.specs.Chains.{has_base, type_of, base_of, ends_behind, ends_within, chain_ends, is_domain_letter}
use Rattle.cat_book.specs.Paths.{type_path}
use Rattle.row_texts.specs.TypeTexts.{type_named}
use Rattle.cat_book.specs.Leads.{type_oids}
use Rattle.cat_book.proofs.ChainEnds.{settled, behind_base}
use Rattle.cat_book.proofs.Counts.{inside}
use Rattle.cat_book.proofs.Walks.{type_at}
use Rattle.type_ends.specs.declared.ends.Base.{Base}
use Rattle.type_ends.specs.declared.jumps.Jump.{Jump}
use Rattle.type_ends.specs.Bases.{end_with, end_at}
use Rattle.type_ends.specs.Ends.{labels_of, enum_resolved, over, resolved_within, resolved}
use Rattle.type_ends.specs.Jumps.{stay, jump_from, behind, trail, LeadFar}
use Rattle.type_ends.specs.Steps.{base_among, step_of, steps_of, enum_base, other_base, base_at_end, is_place, base_at_place, bases_of}
use Rattle.type_ends.proofs.Numbered.{numbered_get}

-- ---- what a row is at the end of its chain

-- a row, with at most so many domains behind it
abbrev row_within : ℕ → Catalogue → TypeRow → Option Resolved
row_within n cat row =
    cond (is_domain_letter row.typtype)
    (option_map (over row) (resolved_within n cat row.typbasetype row.basetext))
    (option_map (λ path. enum_resolved path (labels_of cat row.oid)) (type_path cat.pg_namespace row))

some_oid : (oid : ℕ) → oid ≢ 0 → is_no_oid oid ≡ false
some_oid oid ne =
    let above : 0 < oid = omega arith in
    ap is_eq (sym (nat_cmp_is oid 0 Greater above))

by_oid : (n : ℕ) (cat : Catalogue) (oid : ℕ) (text : Bytes) → is_no_oid oid ≡ false → resolved_within (suc n) cat oid text ≡ option_and_then (row_within n cat) (type_of cat.pg_type oid)
unfolding resolved_within
by_oid n cat oid text e = ap (λ b. cond b (option_map as_it_is (type_named text)) (option_and_then (row_within n cat) (type_of cat.pg_type oid))) e

-- a row with a base is what the base is
over_base : (n : ℕ) (cat : Catalogue) (row b : TypeRow) → base_of cat.pg_type row ≡ Some b → row_within (suc n) cat row ≡ option_map (over row) (row_within n cat b)
unfolding resolved_within
over_base n cat row b e =
    by (is_domain_letter row.typtype) (is_no_oid row.typbasetype) (type_of cat.pg_type row.typbasetype) e
  where
    by : (d z : Bool) (t : Option TypeRow) → cond (d && not z) t None ≡ Some b
        → cond d
        (option_map (over row) (cond z (option_map as_it_is (type_named row.basetext)) (option_and_then (row_within n cat) t)))
        (option_map (λ (path : QName). enum_resolved path (labels_of cat row.oid)) (type_path cat.pg_namespace row))
        ≡ option_map (over row) (row_within n cat b)
    by true true t e = absurd (none-some b e)
    by true false t e = ap (λ (o : Option TypeRow). option_map (over row) (option_and_then (row_within n cat) o)) e
    by false z t e = absurd (none-some b e)

-- whether a row is a domain that takes no null
abbrev refuses : TypeRow → Bool
refuses row = is_domain_letter row.typtype && row.typnotnull

-- a row without a base is what stands at the end
at_end : (n : ℕ) (cat : Catalogue) (row : TypeRow) → base_of cat.pg_type row ≡ None → row_within (suc n) cat row ≡ option_map (end_with (refuses row)) (base_at_end cat row)
unfolding resolved_within
at_end n cat row e =
    by (is_domain_letter row.typtype) (is_no_oid row.typbasetype) (type_of cat.pg_type row.typbasetype) (type_named row.basetext) (type_path cat.pg_namespace row) e
  where
    by : (d z : Bool) (t : Option TypeRow) (name : Option TypeName) (path : Option QName) → cond (d && not z) t None ≡ None
        → cond d
        (option_map (over row) (cond z (option_map as_it_is name) (option_and_then (row_within n cat) t)))
        (option_map (λ (path : QName). enum_resolved path (labels_of cat row.oid)) path)
        ≡ option_map (end_with (d && row.typnotnull)) (cond d (cond z (option_map other_base name) None) (option_map (λ (path : QName). enum_base path (labels_of cat row.oid)) path))
    by true true t None path e = refl
    by true true t (Some name) path e = refl
    by true false t name path e = ap (λ (o : Option TypeRow). option_map (over row) (option_and_then (row_within n cat) o)) e
    by false z t name None e = refl
    by false z t name (Some path) e = refl

domain_with_base : (types : List TypeRow) (row b : TypeRow) → base_of types row ≡ Some b → is_domain_letter row.typtype ≡ true
domain_with_base types row b e = by (is_domain_letter row.typtype) (not (is_no_oid row.typbasetype)) e
  where
    by : (d z : Bool) → cond (d && z) (type_of types row.typbasetype) None ≡ Some b → d ≡ true
    by true z e = refl
    by false z e = absurd (none-some b e)

-- a row with a base ends no chain
goes_on : (cat : Catalogue) (row b : TypeRow) → base_of cat.pg_type row ≡ Some b → base_at_end cat row ≡ None
goes_on cat row b e = by (is_domain_letter row.typtype) (is_no_oid row.typbasetype) e
  where
    by : (d z : Bool) → cond (d && not z) (type_of cat.pg_type row.typbasetype) None ≡ Some b
        → cond d (cond z (option_map other_base (type_named row.basetext)) None) (option_map (λ (path : QName). enum_base path (labels_of cat row.oid)) (type_path cat.pg_namespace row)) ≡ None
    by true true e = absurd (none-some b e)
    by true false e = refl
    by false z e = absurd (none-some b e)

-- a chain that goes on is of no end
endless : (cat : Catalogue) (n : ℕ) (row : TypeRow) → ends_within (suc n) cat.pg_type row ≡ false → row_within n cat row ≡ None
unfolding ends_within resolved_within
endless cat zero row e = by (base_of cat.pg_type row) refl e
  where
    by : (o : Option TypeRow) → base_of cat.pg_type row ≡ o → ends_behind (ends_within zero cat.pg_type) o ≡ false → row_within zero cat row ≡ None
    by None is e = absurd (true≢false e)
    by (Some b) is e = ap (λ d. cond d None (option_map (λ (path : QName). enum_resolved path (labels_of cat row.oid)) (type_path cat.pg_namespace row))) (domain_with_base cat.pg_type row b is)
endless cat (suc n) row e = by (base_of cat.pg_type row) refl e (endless cat n)
  where
    by : (o : Option TypeRow) → base_of cat.pg_type row ≡ o → ends_behind (ends_within (suc n) cat.pg_type) o ≡ false
        → ((b : TypeRow) → ends_within (suc n) cat.pg_type b ≡ false → row_within n cat b ≡ None) → row_within (suc n) cat row ≡ None
    by None is e more = absurd (true≢false e)
    by (Some b) is e more = over_base n cat row b is ∙ ap (option_map (over row)) (more b e)

found_passes : {X : Type 0} (p : X → Bool) (xs : List X) (x : X) → find p xs ≡ Some x → p x ≡ true
found_passes p [] x e = absurd (none-some x e)
found_passes {X} p (y ∷ ys) x e = by (p y) refl e (found_passes p ys x)
  where
    by : (b : Bool) → p y ≡ b → cond b (Some y) (find p ys) ≡ Some x → (find p ys ≡ Some x → p x ≡ true) → p x ≡ true
    by true is e more = ap p (sym (inside y x e)) ∙ is
    by false is e more = more e

-- ---- by places

some_at : (t : TypeRow) (ts : List TypeRow) (q : ℕ) (b : Bool) (o : Option ℕ) → cond b (Some 0) (option_map suc o) ≡ Some q → ((p : ℕ) → o ≡ Some p → is_some (slice_get ts p) ≡ true) → is_some (slice_get (t ∷ ts) q) ≡ true
some_at t ts q true o e h = subst (λ n. is_some (slice_get (t ∷ ts) n) ≡ true) (inside 0 q e) refl
some_at t ts q false None e h = absurd (none-some q e)
some_at t ts q false (Some p) e h = subst (λ n. is_some (slice_get (t ∷ ts) n) ≡ true) (inside (suc p) q e) (h p refl)

-- a type is at the place of its oid
place_there : (types : List TypeRow) (oid q : ℕ) → place_of oid (type_oids types) ≡ Some q → is_some (slice_get types q) ≡ true
unfolding place_of
place_there [] oid q e = absurd (none-some q e)
place_there (t ∷ ts) oid q e = some_at t ts q (same_oid oid t.oid) (place_of oid (type_oids ts)) e (place_there ts oid)

base_at : (types : List TypeRow) (row : TypeRow) → base_of types row ≡ option_and_then (slice_get types) (base_among (type_oids types) row)
base_at types row = by (has_base row)
  where
    by : (h : Bool) → cond h (type_of types row.typbasetype) None ≡ option_and_then (slice_get types) (cond h (place_of row.typbasetype (type_oids types)) None)
    by true = type_at types row.typbasetype
    by false = refl

base_there : (types : List TypeRow) (row : TypeRow) (q : ℕ) → base_among (type_oids types) row ≡ Some q → is_some (slice_get types q) ≡ true
base_there types row q e = by (has_base row) e
  where
    by : (h : Bool) → cond h (place_of row.typbasetype (type_oids types)) None ≡ Some q → is_some (slice_get types q) ≡ true
    by true e = place_there types row.typbasetype q e
    by false e = absurd (none-some q e)

-- no place is that of no base
no_base_place : (types : List TypeRow) (row : TypeRow) → base_of types row ≡ None → base_among (type_oids types) row ≡ None
no_base_place types row e = by (base_among (type_oids types) row) refl (sym (base_at types row) ∙ e)
  where
    by : (o : Option ℕ) → base_among (type_oids types) row ≡ o → option_and_then (slice_get types) o ≡ None → o ≡ None
    by None is e = refl
    by (Some q) is e = absurd (true≢false (sym (base_there types row q is) ∙ ap is_some e))

-- the step of a type
step_at : (types : List TypeRow) (p : ℕ) (row : TypeRow) → slice_get types p ≡ Some row → jump_from (steps_of types) p ≡ step_of (type_oids types) p row
step_at types p row is =
    let f : ℕ × TypeRow → Jump = λ e. step_of (type_oids types) e.0 e.1 in
    ap (λ o. unwrap_or o (stay p)) (slice_get-map f (enumerate_from 0 types) p ∙ ap (option_map f) (numbered_get types 0 p ∙ ap (option_map (λ (r : TypeRow). (0 + p, r))) is ∙ ap (λ k. Some (k, row)) (zero-add p)))

step_to : (types : List TypeRow) (p : ℕ) (row : TypeRow) (o : Option ℕ) → slice_get types p ≡ Some row → base_among (type_oids types) row ≡ o → jump_from (steps_of types) p ≡ record { place = unwrap_or o p; not_null = refuses row }
unfolding step_of
step_to types p row o is base = step_at types p row is ∙ ap (λ o. let j : Jump = record { place = unwrap_or o p; not_null = refuses row } in j) base

-- ---- along a chain

or_self : (b : Bool) → b || b ≡ b
or_self true = refl
or_self false = refl

-- a chain that has ended stays where it is
stays : (types : List TypeRow) (p : ℕ) (row : TypeRow) → slice_get types p ≡ Some row → base_of types row ≡ None → (k : ℕ) → trail (steps_of types) (suc k) p ≡ record { place = p; not_null = refuses row }
unfolding trail
stays types p row is none zero = ap (λ j. behind j (stay j.place)) (step_to types p row None is (no_base_place types row none))
stays types p row is none (suc k) =
    ap (λ j. behind j (trail (steps_of types) (suc k) j.place)) (step_to types p row None is (no_base_place types row none))
    ∙ ap (behind (record { place = p; not_null = refuses row })) (stays types p row is none k)
    ∙ ap (λ b. let j : Jump = record { place = p; not_null = b } in j) (or_self (refuses row))

-- one that goes on is that of its base
moves : (types : List TypeRow) (p q : ℕ) (row : TypeRow) → slice_get types p ≡ Some row → base_among (type_oids types) row ≡ Some q → (k : ℕ) → trail (steps_of types) (suc k) p ≡ behind (record { place = q; not_null = refuses row }) (trail (steps_of types) k q)
unfolding trail
moves types p q row is base k = ap (λ j. behind j (trail (steps_of types) k j.place)) (step_to types p row (Some q) is base)

-- a type at a place, the first of its oid
record Stands (types : List TypeRow) (p : ℕ) (row : TypeRow) : Type 0 where
  there : slice_get types p ≡ Some row
  first : place_of row.oid (type_oids types) ≡ Some p

-- the first type of an oid stands
stands : (types : List TypeRow) (oid p : ℕ) (row : TypeRow) → place_of oid (type_oids types) ≡ Some p → slice_get types p ≡ Some row → Stands types p row
stands types oid p row is there =
    let found : type_of types oid ≡ Some row = type_at types oid ∙ ap (option_and_then (slice_get types)) is ∙ there in
    let same : oid ≡ row.oid = tells_apart exact_unsigned oid row.oid (found_passes (λ t. same_oid oid t.oid) types row found) in
    record { there = there; first = ap (λ o. place_of o (type_oids types)) (sym same) ∙ is }

-- a base stands at a place, and no place is that of no base
base_place : (types : List TypeRow) (row b : TypeRow) → base_of types row ≡ Some b → (q : ℕ) × (base_among (type_oids types) row ≡ Some q) × Stands types q b
base_place types row b e = by (base_among (type_oids types) row) refl (sym (base_at types row) ∙ e)
  where
    as_place : (q : ℕ) (h : Bool) → has_base row ≡ h → cond h (type_of types row.typbasetype) None ≡ Some b → cond h (place_of row.typbasetype (type_oids types)) None ≡ Some q → place_of row.typbasetype (type_oids types) ≡ Some q
    as_place q true is e p = p
    as_place q false is e p = absurd (none-some b e)

    by : (o : Option ℕ) → base_among (type_oids types) row ≡ o → option_and_then (slice_get types) o ≡ Some b → (q : ℕ) × (base_among (type_oids types) row ≡ Some q) × Stands types q b
    by None is there = absurd (none-some b there)
    by (Some q) is there = (q, is, stands types row.typbasetype q b (as_place q (has_base row) refl e is) there)

eq_self : (n : ℕ) → (n == n) ≡ true
eq_self n = search rules

based : (cat : Catalogue) (p : ℕ) (row : TypeRow) → slice_get cat.pg_type p ≡ Some row → slice_get (bases_of cat) p ≡ Some (base_at_place cat p row)
based cat p row is =
    let f : ℕ × TypeRow → Option Base = λ e. base_at_place cat e.0 e.1 in
    slice_get-map f (enumerate_from 0 cat.pg_type) p ∙ ap (option_map f) (numbered_get cat.pg_type 0 p ∙ ap (option_map (λ (r : TypeRow). (0 + p, r))) is ∙ ap (λ k. Some (k, row)) (zero-add p))

end_here : (cat : Catalogue) (p : ℕ) (row : TypeRow) (null : Bool) → Stands cat.pg_type p row → end_at (bases_of cat) (record { place = p; not_null = null }) ≡ option_map (end_with null) (base_at_end cat row)
unfolding base_at_place
end_here cat p row null s =
    ap (λ (o : Option (Option Base)). option_map (end_with null) (option_and_then (λ b. b) o)) (based cat p row s.there)
    ∙ ap (λ o. option_map (end_with null) (cond (is_place p o) (base_at_end cat row) None)) s.first
    ∙ ap (λ b. option_map (end_with null) (cond b (base_at_end cat row) None)) (eq_self p)

no_end_here : (cat : Catalogue) (p : ℕ) (row b : TypeRow) → slice_get cat.pg_type p ≡ Some row → base_of cat.pg_type row ≡ Some b → option_and_then (λ b. b) (slice_get (bases_of cat) p) ≡ None
unfolding base_at_place
no_end_here cat p row b is base =
    ap (λ (o : Option (Option Base)). option_and_then (λ b. b) o) (based cat p row is)
    ∙ ap (λ e. cond (is_place p (place_of row.oid (type_oids cat.pg_type))) e None) (goes_on cat row b base)
    ∙ by (is_place p (place_of row.oid (type_oids cat.pg_type)))
  where
    by : (b : Bool) → cond {A = Option Base} b None None ≡ None
    by true = refl
    by false = refl

end_behind : (cat : Catalogue) (row b : TypeRow) (q : ℕ) (t : Jump) → base_of cat.pg_type row ≡ Some b → option_map (over row) (end_at (bases_of cat) t) ≡ end_at (bases_of cat) (behind (record { place = q; not_null = refuses row }) t)
end_behind cat row b q t is = by (option_and_then (λ b. b) (slice_get (bases_of cat) t.place))
  where
    same : row.typnotnull ≡ refuses row
    same = sym (ap (λ d. d && row.typnotnull) (domain_with_base cat.pg_type row b is))

    by : (o : Option Base) → option_map (over row) (option_map (end_with t.not_null) o) ≡ option_map (end_with (t.not_null || refuses row)) o
    by None = refl
    by (Some base) = ap (λ n. Some (end_with (t.not_null || n) base)) same

-- a chain that has ended is at the end of the definition
reached : (cat : Catalogue) (n k p : ℕ) (row : TypeRow) → Stands cat.pg_type p row → ends_within n cat.pg_type row ≡ true → n ≤ k → row_within n cat row ≡ end_at (bases_of cat) (trail (steps_of cat.pg_type) k p)
unfolding ends_within
reached cat zero k p row is ends le = absurd (true≢false (sym ends))
reached cat (suc n) zero p row is ends le = absurd (omega (arith, le))
reached cat (suc n) (suc k) p row is ends le = by (base_of cat.pg_type row) refl ends (λ q b there more. reached cat n k q b there more (omega (arith, le)))
  where
    by : (o : Option TypeRow) → base_of cat.pg_type row ≡ o → ends_behind (ends_within n cat.pg_type) o ≡ true
        → ((q : ℕ) (b : TypeRow) → Stands cat.pg_type q b → ends_within n cat.pg_type b ≡ true → row_within n cat b ≡ end_at (bases_of cat) (trail (steps_of cat.pg_type) k q))
        → row_within (suc n) cat row ≡ end_at (bases_of cat) (trail (steps_of cat.pg_type) (suc k) p)
    by None none e more =
        at_end n cat row none
        ∙ sym (end_here cat p row (refuses row) is)
        ∙ ap (end_at (bases_of cat)) (sym (stays cat.pg_type p row is.there none k))
    by (Some b) base e more =
        let at = base_place cat.pg_type row b base in
        over_base n cat row b base
        ∙ ap (option_map (over row)) (more at.0 b at.2 e)
        ∙ end_behind cat row b at.0 (trail (steps_of cat.pg_type) k at.0) base
        ∙ ap (end_at (bases_of cat)) (sym (moves cat.pg_type p at.0 row is.there at.1 k))

-- one that goes on is at no end
never : (cat : Catalogue) (k p : ℕ) (row : TypeRow) → slice_get cat.pg_type p ≡ Some row → ends_within (suc k) cat.pg_type row ≡ false → option_and_then (λ b. b) (slice_get (bases_of cat) (trail (steps_of cat.pg_type) k p).place) ≡ None
unfolding ends_within trail
never cat zero p row is e = by (base_of cat.pg_type row) refl e
  where
    by : (o : Option TypeRow) → base_of cat.pg_type row ≡ o → ends_behind (ends_within zero cat.pg_type) o ≡ false → option_and_then (λ b. b) (slice_get (bases_of cat) p) ≡ None
    by None base e = absurd (true≢false e)
    by (Some b) base e = no_end_here cat p row b is base
never cat (suc k) p row is e = by (base_of cat.pg_type row) refl e (never cat k)
  where
    by : (o : Option TypeRow) → base_of cat.pg_type row ≡ o → ends_behind (ends_within (suc k) cat.pg_type) o ≡ false
        → ((q : ℕ) (b : TypeRow) → slice_get cat.pg_type q ≡ Some b → ends_within (suc k) cat.pg_type b ≡ false → option_and_then (λ b. b) (slice_get (bases_of cat) (trail (steps_of cat.pg_type) k q).place) ≡ None)
        → option_and_then (λ b. b) (slice_get (bases_of cat) (trail (steps_of cat.pg_type) (suc k) p).place) ≡ None
    by None base e more = absurd (true≢false e)
    by (Some b) base e more =
        let at = base_place cat.pg_type row b base in
        ap (λ (t : Jump). option_and_then (λ b. b) (slice_get (bases_of cat) t.place)) (moves cat.pg_type p at.0 row is at.1 k) ∙ more at.0 b at.2.there e

-- ---- the first type of an oid

-- its chain is of no more types than there are, or it doesn't end: a domain over it would come before them
first_ends : (types : List TypeRow) (oid : ℕ) (row : TypeRow) → is_no_oid oid ≡ false → type_of types oid ≡ Some row → ends_within (length types) types row ≡ chain_ends types row
unfolding ends_within
first_ends types oid row some is =
    let above : TypeRow = record row { typtype = 100; typbasetype = oid } in
    let base : base_of types above ≡ Some row = ap (λ z. cond (not z) (type_of types oid) None) some ∙ is in
    ap (ends_behind (ends_within (length types) types)) (sym base)
    ∙ sym (behind_base types above)
    ∙ ap (ends_behind (chain_ends types)) base

-- the end that a far jump leads to
pub found_end : (cat : Catalogue) (oid p : ℕ) (text : Bytes) (jumps : List Jump) → oid ≢ 0 → LeadFar (steps_of cat.pg_type) jumps → place_of oid (type_oids cat.pg_type) ≡ Some p
    → end_at (bases_of cat) (jump_from jumps p) ≡ resolved cat oid text
found_end cat oid p text jumps ne far is =
    by (slice_get cat.pg_type p) refl (place_there cat.pg_type oid p is)
  where
    some : is_no_oid oid ≡ false
    some = some_oid oid ne

    all : length cat.pg_type ≤ far.count
    all = let n = length-map (enumerate_from 0 cat.pg_type) (λ (e : ℕ × TypeRow). step_of (type_oids cat.pg_type) e.0 e.1) ∙ length-enumerate_from 0 cat.pg_type in omega (arith, n, far.enough)

    as_row : (row : TypeRow) → slice_get cat.pg_type p ≡ Some row → type_of cat.pg_type oid ≡ Some row
    as_row row there = type_at cat.pg_type oid ∙ ap (option_and_then (slice_get cat.pg_type)) is ∙ there

    said : (row : TypeRow) → type_of cat.pg_type oid ≡ Some row → resolved cat oid text ≡ row_within (length cat.pg_type) cat row
    said row t = by_oid (length cat.pg_type) cat oid text some ∙ ap (option_and_then (row_within (length cat.pg_type) cat)) t

    whether : (row : TypeRow) (ends : Bool) → slice_get cat.pg_type p ≡ Some row → ends_within (length cat.pg_type) cat.pg_type row ≡ ends → end_at (bases_of cat) (trail (steps_of cat.pg_type) far.count p) ≡ row_within (length cat.pg_type) cat row
    whether row true there e = sym (reached cat (length cat.pg_type) far.count p row (stands cat.pg_type oid p row is there) e all)
    whether row false there e =
        let no : chain_ends cat.pg_type row ≡ false = sym (first_ends cat.pg_type oid row some (as_row row there)) ∙ e in
        let longer : suc (length cat.pg_type) ≤ suc far.count = omega (arith, all) in
        ap (option_map (end_with (trail (steps_of cat.pg_type) far.count p).not_null)) (never cat far.count p row there (settled cat.pg_type (suc far.count) longer row ∙ no))
        ∙ sym (endless cat (length cat.pg_type) row no)

    by : (o : Option TypeRow) → slice_get cat.pg_type p ≡ o → is_some o ≡ true → end_at (bases_of cat) (jump_from jumps p) ≡ resolved cat oid text
    by None there e = absurd (true≢false (sym e))
    by (Some row) there e =
        ap (end_at (bases_of cat)) (far.leads p)
        ∙ whether row (ends_within (length cat.pg_type) cat.pg_type row) there refl
        ∙ sym (said row (as_row row there))

-- where there is no such type there is no end
pub no_end : (cat : Catalogue) (oid : ℕ) (text : Bytes) → oid ≢ 0 → place_of oid (type_oids cat.pg_type) ≡ None → None ≡ resolved cat oid text
no_end cat oid text ne none =
    sym (by_oid (length cat.pg_type) cat oid text (some_oid oid ne) ∙ ap (option_and_then (row_within (length cat.pg_type) cat)) (type_at cat.pg_type oid ∙ ap (option_and_then (slice_get cat.pg_type)) none))

-- ---- how many domains are enough

-- what a row is doesn't change once there may be as many domains as types
row_settled : (cat : Catalogue) (oid p n : ℕ) (row : TypeRow) → is_no_oid oid ≡ false → place_of oid (type_oids cat.pg_type) ≡ Some p → slice_get cat.pg_type p ≡ Some row → length cat.pg_type ≤ n → row_within n cat row ≡ row_within (length cat.pg_type) cat row
row_settled cat oid p n row some is there le = by (ends_within (length cat.pg_type) cat.pg_type row) refl
  where
    found : type_of cat.pg_type oid ≡ Some row
    found = type_at cat.pg_type oid ∙ ap (option_and_then (slice_get cat.pg_type)) is ∙ there

    same : (m : ℕ) → length cat.pg_type < m → ends_within m cat.pg_type row ≡ ends_within (length cat.pg_type) cat.pg_type row
    same m more = settled cat.pg_type m more row ∙ sym (first_ends cat.pg_type oid row some found)

    by : (ends : Bool) → ends_within (length cat.pg_type) cat.pg_type row ≡ ends → row_within n cat row ≡ row_within (length cat.pg_type) cat row
    by true e =
        let s = stands cat.pg_type oid p row is there in
        elim (cases_lt (length cat.pg_type) n) [
          | inl more ↦ reached cat n n p row s (same n more ∙ e) (omega arith) ∙ sym (reached cat (length cat.pg_type) n p row s e le)
          | inr at ↦ let equal : n ≡ length cat.pg_type = omega (arith, at, le) in ap (λ m. row_within m cat row) equal
        ]
    by false e =
        endless cat n row (same (suc n) (omega (arith, le)) ∙ e) ∙ sym (endless cat (length cat.pg_type) row (same (suc (length cat.pg_type)) (omega arith) ∙ e))

pub settled_within : (cat : Catalogue) (oid : ℕ) (text : Bytes) (n : ℕ) → length cat.pg_type ≤ n → resolved_within (suc n) cat oid text ≡ resolved cat oid text
unfolding resolved_within
settled_within cat oid text n le = by (is_no_oid oid) refl
  where
    words : (m : ℕ) → is_no_oid oid ≡ true → resolved_within (suc m) cat oid text ≡ option_map as_it_is (type_named text)
    words m is = ap (λ z. cond z (option_map as_it_is (type_named text)) (option_and_then (row_within m cat) (type_of cat.pg_type oid))) is

    row_same : (p : ℕ) (o : Option TypeRow) → is_no_oid oid ≡ false → place_of oid (type_oids cat.pg_type) ≡ Some p → slice_get cat.pg_type p ≡ o → option_and_then (row_within n cat) o ≡ option_and_then (row_within (length cat.pg_type) cat) o
    row_same p None some is there = refl
    row_same p (Some row) some is there = row_settled cat oid p n row some is there le

    place_same : (o : Option ℕ) → is_no_oid oid ≡ false → place_of oid (type_oids cat.pg_type) ≡ o
        → option_and_then (row_within n cat) (option_and_then (slice_get cat.pg_type) o) ≡ option_and_then (row_within (length cat.pg_type) cat) (option_and_then (slice_get cat.pg_type) o)
    place_same None some is = refl
    place_same (Some p) some is = row_same p (slice_get cat.pg_type p) some is refl

    by : (none : Bool) → is_no_oid oid ≡ none → resolved_within (suc n) cat oid text ≡ resolved cat oid text
    by true is = words n is ∙ sym (words (length cat.pg_type) is)
    by false is =
        let at = type_at cat.pg_type oid in
        by_oid n cat oid text is
        ∙ ap (option_and_then (row_within n cat)) at
        ∙ place_same (place_of oid (type_oids cat.pg_type)) is refl
        ∙ sym (ap (option_and_then (row_within (length cat.pg_type) cat)) at)
        ∙ sym (by_oid (length cat.pg_type) cat oid text is)
