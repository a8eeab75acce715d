-- Steps along all chains at once: doubled, they tell which chains end.
use Rattle.std.proofs.Common.{◌≡◌, ℕ, zero, suc, ◌+◌, ◌*◌, ◌<◌, ◌≤◌, Bool, true, false, true≢false, cond, List, [], ◌∷◌, length, map, Option, Some, None, option_map, option_and_then, is_some, is_none, unwrap_or, slice_get, refl, sym, ap, subst, ◌∙◌, arith}
use Rattle.std.proofs.lemmas.List.{length-map}
use Rattle.std.proofs.lemmas.Option.{none-some, slice_get-map, slice_get_within}
use Rattle.cat_rows.specs.declared.types.TypeRow.{TypeRow}
use Rattle.cat_names.specs.Lookups.{same_oid, place_of}
use Rattle.cat_book.specs.Chains.{has_base, type_of, base_of, ends_behind, ends_within, chain_ends, base_place, step, doubled, AreEnds}
use Rattle.cat_book.specs.Leads.{type_oids}
use Rattle.cat_book.proofs.Counts.{inside}
use Rattle.cat_book.proofs.ChainEnds.{settled, behind_base}

-- ---- the type of an oid is the one at its place

found_at : (b : Bool) (row : TypeRow) (rows : List TypeRow) (p : Option ℕ) (o : Option TypeRow) → o ≡ option_and_then (slice_get rows) p
    → cond b (Some row) o ≡ option_and_then (slice_get (row ∷ rows)) (cond b (Some 0) (option_map suc p))
found_at true row rows p o e = refl
found_at false row rows None o e = e
found_at false row rows (Some n) o e = e

pub type_at : (rows : List TypeRow) (oid : ℕ) → type_of rows oid ≡ option_and_then (slice_get rows) (place_of oid (type_oids rows))
unfolding place_of
type_at [] oid = refl
type_at (row ∷ rows) oid = found_at (same_oid oid row.oid) row rows (place_of oid (type_oids rows)) (type_of rows oid) (type_at rows oid)

base_at : (types : List TypeRow) (row : TypeRow) → base_of types row ≡ option_and_then (slice_get types) (base_place (type_oids types) row)
base_at types row = by (has_base row)
  where
    by : (h : Bool) → cond h (type_of types row.typbasetype) None ≡ option_and_then (slice_get types) (cond h (place_of row.typbasetype (type_oids types)) None)
    by true = type_at types row.typbasetype
    by false = refl

some_at : (t : TypeRow) (ts : List TypeRow) (q : ℕ) (b : Bool) (o : Option ℕ) → cond b (Some 0) (option_map suc o) ≡ Some q → ((p : ℕ) → o ≡ Some p → is_some (slice_get ts p) ≡ true) → is_some (slice_get (t ∷ ts) q) ≡ true
some_at t ts q true o e h = subst (λ n. is_some (slice_get (t ∷ ts) n) ≡ true) (inside 0 q e) refl
some_at t ts q false None e h = absurd (none-some q e)
some_at t ts q false (Some p) e h = subst (λ n. is_some (slice_get (t ∷ ts) n) ≡ true) (inside (suc p) q e) (h p refl)

place_there : (types : List TypeRow) (oid q : ℕ) → place_of oid (type_oids types) ≡ Some q → is_some (slice_get types q) ≡ true
unfolding place_of
place_there [] oid q e = absurd (none-some q e)
place_there (t ∷ ts) oid q e = some_at t ts q (same_oid oid t.oid) (place_of oid (type_oids ts)) e (place_there ts oid)

base_there : (types : List TypeRow) (row : TypeRow) (q : ℕ) → base_place (type_oids types) row ≡ Some q → is_some (slice_get types q) ≡ true
base_there types row q e = by (has_base row) e
  where
    by : (h : Bool) → cond h (place_of row.typbasetype (type_oids types)) None ≡ Some q → is_some (slice_get types q) ≡ true
    by true h = place_there types row.typbasetype q h
    by false h = absurd (none-some q h)

-- ---- so many steps

abbrev pub bases : List TypeRow → List (Option ℕ)
bases types = map (base_place (type_oids types)) types

abbrev pub walk : List (Option ℕ) → ℕ → Option ℕ → Option ℕ
walk steps zero o = o
walk steps (suc k) o = walk steps k (option_and_then (step steps) o)

walk_none : (steps : List (Option ℕ)) (k : ℕ) → walk steps k None ≡ None
walk_none steps zero = refl
walk_none steps (suc k) = walk_none steps k

walk_add : (steps : List (Option ℕ)) (k m : ℕ) (o : Option ℕ) → walk steps m (walk steps k o) ≡ walk steps (k + m) o
walk_add steps zero m o = ap (λ n. walk steps n o) (plus m)
  where
    plus : (m : ℕ) → m ≡ zero + m
    plus m = omega arith
walk_add steps (suc k) m o = walk_add steps k m (option_and_then (step steps) o) ∙ ap (λ n. walk steps n o) (plus k m)
  where
    plus : (k m : ℕ) → suc (k + m) ≡ suc k + m
    plus k m = omega arith

step_some : (steps : List (Option ℕ)) (p : ℕ) (s : Option ℕ) → slice_get steps p ≡ Some s → step steps p ≡ s
step_some steps p s e = ap (option_and_then (λ x. x)) e

base_step : (types : List TypeRow) (p : ℕ) (row : TypeRow) → slice_get types p ≡ Some row → step (bases types) p ≡ base_place (type_oids types) row
base_step types p row e = step_some (bases types) p (base_place (type_oids types) row) (slice_get-map (base_place (type_oids types)) types p ∙ ap (option_map (base_place (type_oids types))) e)

-- a chain is of no more than so many types where so many steps lead nowhere
pub ends_walk : (types : List TypeRow) (k p : ℕ) (row : TypeRow) → slice_get types p ≡ Some row → ends_within k types row ≡ is_none (walk (bases types) k (Some p))
unfolding ends_within
ends_walk types zero p row e = refl
ends_walk types (suc k) p row e =
    ap (ends_behind (ends_within k types)) (base_at types row)
    ∙ on (base_place (type_oids types) row) (base_there types row) (ends_walk types k)
    ∙ ap (λ o. is_none (walk (bases types) k o)) (sym (base_step types p row e))
  where
    at : (q : ℕ) (r : Option TypeRow) → slice_get types q ≡ r → is_some r ≡ true → ((q : ℕ) (row : TypeRow) → slice_get types q ≡ Some row → ends_within k types row ≡ is_none (walk (bases types) k (Some q)))
        → ends_behind (ends_within k types) r ≡ is_none (walk (bases types) k (Some q))
    at q None is some more = absurd (true≢false (sym some))
    at q (Some base) is some more = more q base is

    on : (o : Option ℕ) → ((q : ℕ) → o ≡ Some q → is_some (slice_get types q) ≡ true) → ((q : ℕ) (row : TypeRow) → slice_get types q ≡ Some row → ends_within k types row ≡ is_none (walk (bases types) k (Some q)))
        → ends_behind (ends_within k types) (option_and_then (slice_get types) o) ≡ is_none (walk (bases types) k o)
    on None there more = sym (ap is_none (walk_none (bases types) k))
    on (Some q) there more = at q (slice_get types q) refl (there q refl) more

-- ---- steps that are doubled

-- these are so many steps from each place
pub record AreSteps (types : List TypeRow) (steps : List (Option ℕ)) (k : ℕ) : Type 0 where
  pub all : length steps ≡ length types
  pub leads : (p : ℕ) → step steps p ≡ walk (bases types) k (Some p)

pub first_steps : (types : List TypeRow) → AreSteps types (bases types) 1
first_steps types = record { all = length-map types (base_place (type_oids types)); leads = λ p. refl }

flat : (g : Option ℕ → Option ℕ) (o : Option (Option ℕ)) → g None ≡ None → option_and_then (λ x. x) (option_map g o) ≡ g (option_and_then (λ x. x) o)
flat g None e = sym e
flat g (Some s) e = refl

pub more_steps : (types : List TypeRow) (steps : List (Option ℕ)) (k : ℕ) → AreSteps types steps k → AreSteps types (doubled steps) (k * 2)
more_steps types steps k are = record { all = length-map steps (option_and_then (step steps)) ∙ are.all; leads = leads }
  where
    go : (o : Option ℕ) → option_and_then (step steps) o ≡ walk (bases types) k o
    go None = sym (walk_none (bases types) k)
    go (Some q) = are.leads q

    twice : k + k ≡ k * 2
    twice = omega arith

    leads : (p : ℕ) → step (doubled steps) p ≡ walk (bases types) (k * 2) (Some p)
    leads p =
        ap (option_and_then (λ x. x)) (slice_get-map (option_and_then (step steps)) steps p)
        ∙ flat (option_and_then (step steps)) (slice_get steps p) refl
        ∙ ap (option_and_then (step steps)) (are.leads p)
        ∙ go (walk (bases types) k (Some p))
        ∙ walk_add (bases types) k k (Some p)
        ∙ ap (λ n. walk (bases types) n (Some p)) twice

some_within : {X : Type 0} (xs : List X) (i : ℕ) → i < length xs → slice_get xs i ≡ None → ⊥
some_within [] i h e = omega (arith, h)
some_within (x ∷ xs) zero h e = none-some x (sym e)
some_within (x ∷ xs) (suc i) h e = some_within xs i (omega (arith, h)) e

-- with more steps than there are types, those that lead nowhere are of chains that end
pub ends_at_last : (types : List TypeRow) (steps : List (Option ℕ)) (k : ℕ) → AreSteps types steps k → length types < k → AreEnds types (map is_none steps)
ends_at_last types steps k are long = λ p. slice_get-map is_none steps p ∙ at p (slice_get steps p) (slice_get types p) refl refl
  where
    at : (p : ℕ) (a : Option (Option ℕ)) (r : Option TypeRow) → slice_get steps p ≡ a → slice_get types p ≡ r → option_map is_none a ≡ option_map (chain_ends types) r
    at p None None ea er = refl
    at p (Some s) (Some row) ea er =
        let most : suc (length types) ≤ k = omega (arith, long) in
        ap Some (ap is_none (sym (step_some steps p s ea) ∙ are.leads p) ∙ sym (ends_walk types k p row er) ∙ settled types k most row)
    at p None (Some row) ea er =
        let low = slice_get_within types p row er in
        absurd (some_within steps p (omega (arith, low, are.all)) ea)
    at p (Some s) None ea er =
        let low = slice_get_within steps p s ea in
        absurd (some_within types p (omega (arith, low, are.all)) er)

-- ---- the chain of a type, by what is known of each place

behind_place : (types : List TypeRow) (ends : List Bool) → AreEnds types ends → (o : Option ℕ) → unwrap_or (option_and_then (slice_get ends) o) true ≡ ends_behind (chain_ends types) (option_and_then (slice_get types) o)
behind_place types ends are None = refl
behind_place types ends are (Some q) = ap (λ b. unwrap_or b true) (are q) ∙ by (slice_get types q)
  where
    by : (r : Option TypeRow) → unwrap_or (option_map (chain_ends types) r) true ≡ ends_behind (chain_ends types) r
    by None = refl
    by (Some row) = refl

pub chain_by_place : (types : List TypeRow) (ends : List Bool) → AreEnds types ends → (row : TypeRow) → unwrap_or (option_and_then (slice_get ends) (base_place (type_oids types) row)) true ≡ chain_ends types row
chain_by_place types ends are row =
    behind_place types ends are (base_place (type_oids types) row) ∙ ap (ends_behind (chain_ends types)) (sym (base_at types row)) ∙ behind_base types row
