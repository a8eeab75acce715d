-- One more key behind those that are known: where each stands first, and which are there.
use Rattle.std.proofs.Common.{◌≡◌, ℕ, ◌+◌, Bool, true, false, cond, ◌||◌, nat_eq, List, [], ◌∷◌, ◌++◌, length, Option, Some, None, refl, ap, sym, ◌∙◌, arith}
use Rattle.std.specs.List.{list_any}
use Rattle.std.specs.Cmp.{unsigned_Decides}
use Rattle.std.specs.Cmp.Lexicographic.{pointwise, pointwise_decides, lists_equiv, nat_list_eq_equiv}
use Rattle.cat_model.specs.Tables.{place_of, same_key}

abbrev Key : Type 0
Key = List (List ℕ)

abbrev same : Key → Key → Bool
same = pointwise (pointwise nat_eq)

same_symm : (a b : Key) → same a b ≡ same b a
same_symm = (lists_equiv nat_list_eq_equiv).symm

same_is : (a b : Key) → same a b ≡ true → a ≡ b
same_is a b = (pointwise_decides (pointwise_decides unsigned_Decides) a b).0

-- ---- where a key stands first

abbrev first_of : Option ℕ → Option ℕ → Option ℕ
first_of (Some n) later = Some n
first_of None later = later

behind : (n : ℕ) (before : List (Option Key)) (q key : Key) → place_of n (Some q) (before ++ Some key ∷ []) ≡ first_of (place_of n (Some q) before) (cond (same q key) (Some (n + length before)) None)
behind n [] q key = let e : n ≡ n + 0 = omega arith in ap (λ (m : ℕ). cond (same q key) (Some m) None) e
behind n (j ∷ js) q key =
    elim (same_key (Some q) j) as (λ b. cond b (Some n) (place_of (n + 1) (Some q) (js ++ Some key ∷ [])) ≡ first_of (cond b (Some n) (place_of (n + 1) (Some q) js)) (cond (same q key) (Some (n + length (j ∷ js))) None)) [
      | true ↦ refl
      | false ↦
          let e : n + 1 + length js ≡ n + length (j ∷ js) = omega arith in
          behind (n + 1) js q key ∙ ap (λ (m : ℕ). first_of (place_of (n + 1) (Some q) js) (cond (same q key) (Some m) None)) e
    ]

none_later : (o : Option ℕ) → first_of o None ≡ o
none_later (Some n) = refl
none_later None = refl

by_case : (before : List (Option Key)) (key q : Key) (b : Bool) → same key q ≡ b → place_of 1 (Some key) before ≡ None
    → first_of (place_of 1 (Some q) before) (cond b (Some (1 + length before)) None) ≡ cond b (Some (length before + 1)) (place_of 1 (Some q) before)
by_case before key q true is new =
    let e : 1 + length before ≡ length before + 1 = omega arith in
    ap (λ (o : Option ℕ). first_of o (Some (1 + length before))) (ap (λ (k : Key). place_of 1 (Some k) before) (sym (same_is key q is)) ∙ new) ∙ ap Some e
by_case before key q false other new = none_later (place_of 1 (Some q) before)

pub one_more : (before : List (Option Key)) (key q : Key) → place_of 1 (Some key) before ≡ None
    → place_of 1 (Some q) (before ++ Some key ∷ []) ≡ cond (same key q) (Some (length before + 1)) (place_of 1 (Some q) before)
one_more before key q new =
    behind 1 before q key
    ∙ ap (λ (b : Bool). first_of (place_of 1 (Some q) before) (cond b (Some (1 + length before)) None)) (same_symm q key)
    ∙ by_case before key q (same key q) refl new

-- a key that has a null in it stands nowhere
pub null_nowhere : (n : ℕ) (before : List (Option Key)) → place_of n None before ≡ None
null_nowhere n [] = refl
null_nowhere n (j ∷ js) = null_nowhere (n + 1) js

-- and behind it each key stands where it stood
pub null_more : (n : ℕ) (before : List (Option Key)) (q : Key) → place_of n (Some q) (before ++ None ∷ []) ≡ place_of n (Some q) before
null_more n [] q = refl
null_more n (j ∷ js) q = ap (λ (o : Option ℕ). cond (same_key (Some q) j) (Some n) o) (null_more (n + 1) js q)

-- ---- which keys are there

cond_or : (b x : Bool) → cond b true x ≡ (x || (b || false))
cond_or true true = refl
cond_or true false = refl
cond_or false true = refl
cond_or false false = refl

any_behind : (keys : List (Option Key)) (last : Option Key) (q : Key) → list_any (same_key (Some q)) (keys ++ last ∷ []) ≡ (list_any (same_key (Some q)) keys || (same_key (Some q) last || false))
any_behind [] last q = refl
any_behind (k ∷ ks) last q =
    elim (same_key (Some q) k) as (λ b. (b || list_any (same_key (Some q)) (ks ++ last ∷ [])) ≡ ((b || list_any (same_key (Some q)) ks) || (same_key (Some q) last || false)))
    [ true ↦ refl | false ↦ any_behind ks last q ]

pub one_more_parent : (keys : List (Option Key)) (key q : Key) → list_any (same_key (Some q)) (keys ++ Some key ∷ []) ≡ cond (same key q) true (list_any (same_key (Some q)) keys)
one_more_parent keys key q =
    any_behind keys (Some key) q
    ∙ ap (λ (b : Bool). list_any (same_key (Some q)) keys || (b || false)) (same_symm q key)
    ∙ sym (cond_or (same key q) (list_any (same_key (Some q)) keys))

or_false : (b : Bool) → (b || (false || false)) ≡ b
or_false true = refl
or_false false = refl

pub null_parent : (keys : List (Option Key)) (q : Key) → list_any (same_key (Some q)) (keys ++ None ∷ []) ≡ list_any (same_key (Some q)) keys
null_parent keys q = any_behind keys None q ∙ or_false (list_any (same_key (Some q)) keys)
