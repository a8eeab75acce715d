-- A mask that is computed lane by lane is held to a test at each of the 256 bytes.
use Rattle.std.proofs.Common.{◌≡◌, ◌↔◌, ◌⊎◌, inl, inr, ℕ, zero, suc, ◌%◌, ◌^◌, ◌<◌, leb, Bool, true, false, not, ◌&&◌, cond, eqb, T, List, [], ◌∷◌, map, length, get_or, refl, sym, ap, ap₂, subst, ◌∙◌, arith, w8, Fits}
use Rattle.std.proofs.Math.ListN.{get_or-map}
use Rattle.std.proofs.lemmas.Simd.{zip2-map, mask_l-mod, bit_mask_l}
use Rattle.std.proofs.lemmas.List.{length-map}
use Rattle.std.specs.Int.{bit_at}
use lib.Bits.{bit_or}
use lib.Lanes.{zip2, mask_l, top, Each1}

-- a comparison of two lanes
abbrev pub hit : ℕ → ℕ → ℕ
hit a b = cond (eqb a b) 255 0

abbrev pub at_most : ℕ → ℕ → ℕ
at_most a b = cond (leb a b) 255 0

pub either : (f g : ℕ → ℕ) (v : List ℕ) {a b : List ℕ} → a ≡ map f v → b ≡ map g v → zip2 bit_or a b ≡ map (λ x. bit_or (f x) (g x)) v
either f g v p q = ap₂ (zip2 bit_or) p q ∙ zip2-map bit_or f g v

-- ---- each byte

abbrev pub same : Bool → Bool → Bool
same true b = b
same false b = not b

same_is : (a b : Bool) → T (same a b) → a ≡ b
same_is true true h = refl
same_is false false h = refl
same_is true false h = absurd h
same_is false true h = absurd h

-- a fact of each number below n, by computation
abbrev pub upto : (ℕ → Bool) → ℕ → Bool
upto p zero = true
upto p (suc n) = p n && upto p n

both : (a b : Bool) → T (a && b) → T a × T b
both true b h = (tt, h)
both false b h = absurd h

upto_sound : (p : ℕ → Bool) (n : ℕ) → T (upto p n) → (i : ℕ) → i < n → T (p i)
upto_sound p zero h i lt = absurd (omega arith)
upto_sound p (suc n) h i lt = elim (below_or_last i n lt) [
  | inl l ↦ upto_sound p n (both (p n) (upto p n) h).1 i l
  | inr e ↦ subst (λ x. T (p x)) (sym e) (both (p n) (upto p n) h).0
]
  where
    below_or_last : (i n : ℕ) → i < suc n → (i < n) ⊎ (i ≡ n)
    below_or_last zero zero lt = inr refl
    below_or_last (suc i) zero lt = absurd (omega arith)
    below_or_last zero (suc n) lt = inl (omega arith)
    below_or_last (suc i) (suc n) lt = elim (below_or_last i n (omega arith)) [
      | inl l ↦ inl (omega arith)
      | inr e ↦ inr (ap suc e)
    ]

each_byte : (f : ℕ → ℕ) (p : ℕ → Bool) → T (upto (λ x. same (top 7 (f x)) (p x)) 256) → (v : List ℕ) → Each1 (Fits w8) v → map (top 7) (map f v) ≡ map p v
each_byte f p all [] fits = refl
each_byte f p all (x ∷ xs) fits = ap₂ (λ a b. a ∷ b) (same_is _ _ (upto_sound (λ y. same (top 7 (f y)) (p y)) 256 all x fits.0.fits)) (each_byte f p all xs fits.1)

tells : (b : Bool) → (cond {A = ℕ} b 1 0 ≡ 1) ↔ (b ≡ true)
tells true = (λ h. refl, λ h. refl)
tells false = (λ h. absurd (omega arith), λ h. absurd cc)

-- bit k of the mask tells of lane k
pub told : (f : ℕ → ℕ) (p : ℕ → Bool) (v z : List ℕ) → (length v ≡ 64) × Each1 (Fits w8) v → z ≡ map f v → p 0 ≡ false → T (upto (λ x. same (top 7 (f x)) (p x)) 256)
    → (k : ℕ) → (bit_at (mask_l (map (top 7) z) % 2 ^ 64) k ≡ 1) ↔ (p (get_or v k 0) ≡ true)
told f p v z fits e none all k =
    let whole : mask_l (map (top 7) z) % 2 ^ 64 ≡ mask_l (map p v) = ap (λ l. mask_l l % 2 ^ 64) (ap (map (top 7)) e ∙ each_byte f p all v fits.1) ∙ mask_l-mod (map p v) 64 (omega (arith, length-map v p, fits.0)) in
    let default : get_or (map p v) k false ≡ p (get_or v k 0) = ap (λ d. get_or (map p v) k d) (sym none) ∙ get_or-map p v k 0 in
    let is : bit_at (mask_l (map (top 7) z) % 2 ^ 64) k ≡ cond (p (get_or v k 0)) 1 0 = ap (λ m. bit_at m k) whole ∙ bit_mask_l (map p v) k ∙ ap (λ b. cond b 1 0) default in
    subst (λ x. (x ≡ 1) ↔ (p (get_or v k 0) ≡ true)) (sym is) (tells (p (get_or v k 0)))
