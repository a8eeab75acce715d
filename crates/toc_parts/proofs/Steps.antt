-- Steps over readings, and what a spelling's length says of the bytes behind it.
use Rattle.std.proofs.Common.{◌≡◌, ℕ, ◌<◌, List, length, Option, Some, None, Result, Ok, Err, refl, ap, arith, length-append}
use Rattle.toc_parts.specs.Parts.{Part, ◌>>=◌, meant}
use Rattle.toc_parts.specs.Laws.{Lawful, TakesByte}

-- the value of a step that did not fail
pub bind_ok : {E A B : Type 0} (r : Result A E) (f : A → Result B E) (y : B) → (r >>= f) ≡ Ok y → (x : A) × (r ≡ Ok x) × (f x ≡ Ok y)
bind_ok (Ok x) f y e = (x, refl, e)
bind_ok (Err d) f y e = absurd cc

abbrev done : {E A : Type 0} → A → Result A E
done x = Ok x

pub ok_is : {E A : Type 0} (x y : A) → done {E = E} x ≡ done y → x ≡ y
ok_is x y e = cc

-- a meaning that was there
pub meant_ok : {E A B : Type 0} (fault : A → ℕ → E) (left : ℕ) (v : A) (rest : List ℕ) (o : Option B) (y : B × List ℕ) → meant fault left v rest o ≡ Ok y → (o ≡ Some y.0) × (rest ≡ y.1)
meant_ok fault left v rest (Some w) y e = (cc, cc)
meant_ok fault left v rest None y e = absurd cc

-- behind what takes a byte fewer bytes are left
pub fewer : {E A : Type 0} (p : Part E A) → Lawful p → TakesByte p → (bytes : List ℕ) (v : A) (rest : List ℕ) → p.read bytes ≡ Ok (v, rest) → length rest < length bytes
fewer p laws some bytes v rest e =
    let f = laws.found bytes v rest e in
    omega (arith, some v f.front f.spells, ap length f.parts, length-append f.front rest)
