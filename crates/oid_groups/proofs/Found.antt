-- Elements that a test finds, and their places.
use Rattle.std.proofs.Common.{◌≡◌, ℕ, zero, suc, ◌+◌, ◌<◌, ◌≤◌, Bool, true, false, cond, List, [], ◌∷◌, length, map, take, drop, Some, None, inl, inr, refl, sym, ap, ◌∙◌, ltb, pos, zero-add, arith}
use Rattle.std.specs.Prelude.{not}
use Rattle.std.specs.List.{AllWithin, filter, find, slice_get, position, position_or_len, enumerate_from}
use Rattle.std.specs.Option.{option_map}
use Rattle.std.proofs.lemmas.Bool.{cases_lt, lt-ltb, le-ltb, cond-true, cond-false}
use Rattle.std.proofs.lemmas.List.FromFn.{length-enumerate_from, get_or-enumerate_from}
use Rattle.std.proofs.lemmas.List.Folds.{find_at}
use Rattle.std.proofs.lemmas.Option.{slice_get-get_or, slice_get_past}
use Rattle.oid_groups.specs.Groups.{Key, numbered_keys}

-- ---- the elements that a test keeps

-- the first element that a test finds is the first that it keeps
pub find_kept : {X : Type 0} (p : X → Bool) (xs : List X) → find p xs ≡ slice_get (filter p xs) 0
find_kept p [] = refl
find_kept {X} p (x ∷ xs) = by (find_kept p xs) (p x)
  where
    by : find p xs ≡ slice_get (filter p xs) 0 → (b : Bool) → cond b (Some x) (find p xs) ≡ slice_get (cond {A = List X} b (x ∷ filter p xs) (filter p xs)) 0
    by rest true = refl
    by rest false = rest

-- two tests may change places
pub filter-filter : {X : Type 0} (p q : X → Bool) (xs : List X) → filter p (filter q xs) ≡ filter q (filter p xs)
filter-filter p q [] = refl
filter-filter {X} p q (x ∷ xs) = by (filter-filter p q xs) (p x) (q x) refl refl
  where
    by : filter p (filter q xs) ≡ filter q (filter p xs) → (b c : Bool) → p x ≡ b → q x ≡ c → filter p (cond (q x) (x ∷ filter q xs) (filter q xs)) ≡ filter q (cond (p x) (x ∷ filter p xs) (filter p xs))
    by rest true true of_p of_q = simp (of_p, of_q) (ap (λ (l : List X). x ∷ l) rest)
    by rest true false of_p of_q = simp (of_p, of_q) rest
    by rest false true of_p of_q = simp (of_p, of_q) rest
    by rest false false of_p of_q = simp (of_p, of_q) rest

-- where the elements that a test keeps stand side by side, they are a part of the list
pub kept_run : {X : Type 0} (p : X → Bool) (xs : List X) (a n : ℕ) → AllWithin (λ x. p x ≡ false) xs 0 a → AllWithin (λ x. p x ≡ true) xs a (a + n) → AllWithin (λ x. p x ≡ false) xs (a + n) (length xs) → take n (drop a xs) ≡ filter p xs
kept_run p [] zero zero front within behind = refl
kept_run p [] zero (suc n) front within behind = refl
kept_run p [] (suc a) zero front within behind = refl
kept_run p [] (suc a) (suc n) front within behind = refl
kept_run p (x ∷ xs) (suc a) n front within behind =
    let here : p x ≡ false = front 0 x (omega arith) (omega arith) in
    rw here
    (kept_run p xs a n (λ k d low high. front (suc k) d (omega arith) (omega arith)) (λ k d low high. within (suc k) d (omega arith) (omega arith)) (λ k d low high. behind (suc k) d (omega arith) (omega arith)))
kept_run {X} p (x ∷ xs) zero (suc n) front within behind =
    let here : p x ≡ true = within 0 x (omega arith) (omega arith) in
    rw here
    (ap (λ (l : List X). x ∷ l) (kept_run p xs zero n (λ k d low high. absurd (omega arith)) (λ k d low high. within (suc k) d (omega arith) (omega arith)) (λ k d low high. behind (suc k) d (omega arith) (omega arith))))
kept_run p (x ∷ xs) zero zero front within behind =
    let here : p x ≡ false = behind 0 x (omega arith) (omega arith) in
    rw here
    (kept_run p xs zero zero (λ k d low high. absurd (omega arith)) (λ k d low high. absurd (omega arith)) (λ k d low high. behind (suc k) d (omega arith) (omega arith)))

pub position_or_len-map : {X Y : Type 0} (f : X → Y) (p : Y → Bool) (xs : List X) → position_or_len p (map f xs) ≡ position_or_len (λ x. p (f x)) xs
position_or_len-map f p [] = refl
position_or_len-map f p (x ∷ xs) = ap (λ (r : ℕ). cond (not (p (f x))) (1 + r) 0) (position_or_len-map f p xs)

-- ---- numbered keys

place_of_numbered : (p : Key → Bool) (n : ℕ) (keys : List Key) → position_or_len (λ (e : ℕ × Key). p e.1) (enumerate_from n keys) ≡ position_or_len p keys
place_of_numbered p n [] = refl
place_of_numbered p n (key ∷ keys) = ap (λ (r : ℕ). cond (not (p key)) (1 + r) 0) (place_of_numbered p (n + 1) keys)

numbered_at : (keys : List Key) (i : ℕ) → option_map (λ (e : ℕ × Key). e.0) (slice_get (numbered_keys keys) i) ≡ cond (ltb i (length keys)) (Some i) None
numbered_at keys i = elim (cases_lt i (length keys)) [ inl h ↦ inside h | inr h ↦ past h ]
  where
    none : ℕ × Key
    none = (0, (0, pos 0))

    inside : i < length keys → option_map (λ (e : ℕ × Key). e.0) (slice_get (numbered_keys keys) i) ≡ cond (ltb i (length keys)) (Some i) None
    inside h =
        let within : i < length (numbered_keys keys) = omega (arith, length-enumerate_from 0 keys) in
        ap (option_map (λ (e : ℕ × Key). e.0)) (slice_get-get_or (numbered_keys keys) i none within)
        ∙ ap (λ (e : ℕ × Key). Some e.0) (get_or-enumerate_from 0 keys i none h)
        ∙ ap Some (zero-add i)
        ∙ sym (cond-true (ltb i (length keys)) (Some i) None (lt-ltb i (length keys) h))

    past : length keys ≤ i → option_map (λ (e : ℕ × Key). e.0) (slice_get (numbered_keys keys) i) ≡ cond (ltb i (length keys)) (Some i) None
    past h =
        let beyond : length (numbered_keys keys) ≤ i = omega (arith, length-enumerate_from 0 keys) in
        ap (option_map (λ (e : ℕ × Key). e.0)) (slice_get_past (numbered_keys keys) i beyond)
        ∙ sym (cond-false (ltb i (length keys)) (Some i) None (le-ltb i (length keys) h))

-- the first of the numbered keys that a test finds is at its place
pub find-numbered : (p : Key → Bool) (keys : List Key) → option_map (λ (e : ℕ × Key). e.0) (find (λ (e : ℕ × Key). p e.1) (numbered_keys keys)) ≡ position p keys
find-numbered p keys =
    ap (option_map (λ (e : ℕ × Key). e.0)) (find_at (λ (e : ℕ × Key). p e.1) (numbered_keys keys) ∙ ap (slice_get (numbered_keys keys)) (place_of_numbered p 0 keys))
    ∙ numbered_at keys (position_or_len p keys)
