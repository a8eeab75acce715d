-- The laws of parts that repeat another.
use Rattle.std.proofs.Common.{◌≡◌, ℕ, zero, suc, ◌<◌, ◌≤◌, List, [], ◌∷◌, ◌++◌, length, Option, Some, None, Result, Ok, Err, refl, sym, ap, subst, ◌∙◌, append_assoc, arith, length-append}
use Rattle.toc_parts.specs.Parts.{Reading, Part, ◌>>=◌, Listed, FitsListed, listed_text, listed_by, none_more, listed_at, listed, Items, Counted, FitsCounted, items_text, counted_at, counted, ToEnd, to_end_at}
use Rattle.toc_parts.specs.Laws.{Found, Lawful, TakesByte, LawfulItems}
use Rattle.toc_parts.proofs.Steps.{bind_ok, ok_is, fewer}

abbrev got : {E A : Type 0} → A → List ℕ → Reading E A
got v rest = Ok (v, rest)

-- ---- items up to one that says that there are no more

module _ {E A : Type 0} (p : Part E (Option A)) (laws : Lawful p) (some : TakesByte p) where
  -- what is read behind the first item, by how many more there may be
  abbrev more : ℕ → List ℕ → Reading E (List A)
  more zero = none_more
  more (suc n) = listed_at p n

  step : (n : ℕ) (bytes : List ℕ) → listed_at p n bytes ≡ (p.read bytes >>= λ x. listed_by (more n) x.0 x.1)
  unfolding listed_at
  step zero bytes = refl
  step (suc n) bytes = refl

  -- what is read behind an item doesn't matter beyond that
  behind : (f g : List ℕ → Reading E (List A)) (bytes : List ℕ) → ((rest : List ℕ) → length rest < length bytes → f rest ≡ g rest) → (p.read bytes >>= λ x. listed_by f x.0 x.1) ≡ (p.read bytes >>= λ x. listed_by g x.0 x.1)
  behind f g bytes same = by (p.read bytes) refl
    where
      later : (o : Option A) (rest : List ℕ) → p.read bytes ≡ Ok (o, rest) → listed_by f o rest ≡ listed_by g o rest
      later None rest is = refl
      later (Some v) rest is = ap (λ r. r >>= λ y. got (v ∷ y.0) y.1) (same rest (fewer p laws some bytes (Some v) rest is))

      by : (r : Reading E (Option A)) → p.read bytes ≡ r → (r >>= λ x. listed_by f x.0 x.1) ≡ (r >>= λ x. listed_by g x.0 x.1)
      by (Err e) is = refl
      by (Ok x) is = later x.0 x.1 is

  -- that number is enough where it is no less than that of the bytes
  pub enough : (n m : ℕ) (bytes : List ℕ) → length bytes ≤ n → length bytes ≤ m → listed_at p n bytes ≡ listed_at p m bytes
  enough zero zero bytes low also = refl
  enough zero (suc m) bytes low also = step 0 bytes ∙ behind none_more (listed_at p m) bytes (λ rest less. absurd (omega (arith, less, low))) ∙ sym (step (suc m) bytes)
  enough (suc n) zero bytes low also = step (suc n) bytes ∙ behind (listed_at p n) none_more bytes (λ rest less. absurd (omega (arith, less, also))) ∙ sym (step 0 bytes)
  enough (suc n) (suc m) bytes low also =
      step (suc n) bytes ∙ behind (listed_at p n) (listed_at p m) bytes (λ rest less. enough n m rest (omega (arith, less, low)) (omega (arith, less, also))) ∙ sym (step (suc m) bytes)

  more_is : (k : ℕ) (rest : List ℕ) → length rest < k → more k rest ≡ listed_at p (length rest) rest
  more_is zero rest less = absurd (omega arith)
  more_is (suc n) rest less = enough n (length rest) rest (omega arith) (omega arith)

  -- what is read, item by item
  pub unrolled : (bytes : List ℕ) → (listed p).read bytes ≡ (p.read bytes >>= λ x. listed_by (listed p).read x.0 x.1)
  unrolled bytes = step (length bytes) bytes ∙ behind (more (length bytes)) (listed p).read bytes (λ rest less. more_is (length bytes) rest less)

  found_behind : (f : List ℕ → Reading E (List A)) (bytes : List ℕ) (vs : List A) (rest : List ℕ) → ((mid : List ℕ) (ws : List A) (r : List ℕ) → length mid < length bytes → f mid ≡ Ok (ws, r) → Found (listed p) mid ws r)
      → (p.read bytes >>= λ x. listed_by f x.0 x.1) ≡ Ok (vs, rest) → Found (listed p) bytes vs rest
  found_behind f bytes vs rest earlier e =
      let a = bind_ok (p.read bytes) (λ x. listed_by f x.0 x.1) (vs, rest) e in
      by a.0.0 a.0.1 (laws.found bytes a.0.0 a.0.1 a.1) a.1 a.2
    where
      by : (o : Option A) (mid : List ℕ) → Found p bytes o mid → p.read bytes ≡ Ok (o, mid) → listed_by f o mid ≡ Ok (vs, rest) → Found (listed p) bytes vs rest
      by None mid h is e =
          let made : List A × List ℕ = ([], mid) in
          subst (λ (y : List A × List ℕ). Found (listed p) bytes y.0 y.1) (ok_is {E = E} made (vs, rest) e) (record { front = h.front; parts = h.parts; spells = h.spells })
      by (Some v) mid h is e =
          let b = bind_ok (f mid) (λ y. Ok (v ∷ y.0, y.1)) (vs, rest) e in
          let g = earlier mid b.0.0 b.0.1 (fewer p laws some bytes (Some v) mid is) b.1 in
          let made : List A × List ℕ = (v ∷ b.0.0, b.0.1) in
          subst (λ (y : List A × List ℕ). Found (listed p) bytes y.0 y.1) (ok_is {E = E} made (vs, rest) b.2)
          (record {
            front = h.front ++ g.front;
            parts = h.parts ∙ ap (λ (r : List ℕ). h.front ++ r) g.parts ∙ sym (append_assoc h.front g.front b.0.1);
            spells = (h.front, g.front, refl, h.spells, g.spells);
          })

  listed_found : (n : ℕ) (bytes : List ℕ) (vs : List A) (rest : List ℕ) → length bytes ≤ n → listed_at p n bytes ≡ Ok (vs, rest) → Found (listed p) bytes vs rest
  listed_found zero bytes vs rest low e = found_behind none_more bytes vs rest (λ mid ws r less e. absurd (omega (arith, less, low))) (sym (step 0 bytes) ∙ e)
  listed_found (suc n) bytes vs rest low e = found_behind (listed_at p n) bytes vs rest (λ mid ws r less e. listed_found n mid ws r (omega (arith, less, low)) e) (sym (step (suc n) bytes) ∙ e)

  listed_only : (n : ℕ) (vs : List A) (front rest : List ℕ) → length vs ≤ n → Listed p vs front → listed_at p n (front ++ rest) ≡ Ok (vs, rest)
  listed_only n [] front rest low spells =
      step n (front ++ rest) ∙ ap (λ r. r >>= λ x. listed_by (more n) x.0 x.1) (laws.only None front rest spells)
  listed_only zero (v ∷ vs) front rest low spells = absurd (omega arith)
  listed_only (suc n) (v ∷ vs) front rest low spells =
      let a = spells.0 in
      let b = spells.1 in
      ap (listed_at p (suc n)) (ap (λ (f : List ℕ). f ++ rest) spells.2 ∙ append_assoc a b rest)
      ∙ step (suc n) (a ++ (b ++ rest))
      ∙ ap (λ r. r >>= λ x. listed_by (more (suc n)) x.0 x.1) (laws.only (Some v) a (b ++ rest) spells.3)
      ∙ ap (λ r. r >>= λ y. got (v ∷ y.0) y.1) (listed_only n vs b rest (omega arith) spells.4)

  -- each item takes a byte
  not_more : (vs : List A) (bytes : List ℕ) → Listed p vs bytes → length vs ≤ length bytes
  not_more [] bytes spells = omega arith
  not_more (v ∷ vs) bytes spells =
      omega (arith, not_more vs spells.1 spells.4, some (Some v) spells.0 spells.3, ap length spells.2, length-append spells.0 spells.1)

  listed_written : (vs : List A) → FitsListed p vs → Listed p vs (listed_text p vs)
  listed_written [] fits = laws.written None fits
  listed_written (v ∷ vs) fits = (p.write (Some v), listed_text p vs, refl, laws.written (Some v) fits.0, listed_written vs fits.1)

  pub listed_laws : Lawful (listed p)
  listed_laws = record {
    found = λ bytes vs rest e. listed_found (length bytes) bytes vs rest (omega arith) e;
    only = λ vs front rest spells. listed_only (length (front ++ rest)) vs front rest (omega (arith, not_more vs front spells, length-append front rest)) spells;
    written = listed_written;
  }

  pub listed_some : TakesByte (listed p)
  listed_some [] bytes spells = some None bytes spells
  listed_some (v ∷ vs) bytes spells = omega (arith, some (Some v) spells.0 spells.3, ap length spells.2, length-append spells.0 spells.1)

-- ---- so many items

module _ {E A : Type 0} (items : Items E A) (laws : (s : items.State) → Lawful (items.item s)) where
  counted_found : (n : ℕ) (s : items.State) (bytes : List ℕ) (vs : List A) (rest : List ℕ) → counted_at items n s bytes ≡ Ok (vs, rest) → Found (counted items s n) bytes vs rest
  unfolding counted_at
  counted_found zero s bytes vs rest e =
      let made : List A × List ℕ = ([], bytes) in
      subst (λ (y : List A × List ℕ). Found (counted items s 0) bytes y.0 y.1) (ok_is {E = E} made (vs, rest) e) (record { front = []; parts = refl; spells = refl })
  counted_found (suc n) s bytes vs rest e =
      let a = bind_ok ((items.item s).read bytes) (λ x. counted_at items n (items.next s x.0) x.1 >>= λ y. Ok (x.0 ∷ y.0, y.1)) (vs, rest) e in
      let b = bind_ok (counted_at items n (items.next s a.0.0) a.0.1) (λ y. Ok (a.0.0 ∷ y.0, y.1)) (vs, rest) a.2 in
      let f = (laws s).found bytes a.0.0 a.0.1 a.1 in
      let g = counted_found n (items.next s a.0.0) a.0.1 b.0.0 b.0.1 b.1 in
      let made : List A × List ℕ = (a.0.0 ∷ b.0.0, b.0.1) in
      subst (λ (y : List A × List ℕ). Found (counted items s (suc n)) bytes y.0 y.1) (ok_is {E = E} made (vs, rest) b.2)
      (record {
        front = f.front ++ g.front;
        parts = f.parts ∙ ap (λ (r : List ℕ). f.front ++ r) g.parts ∙ sym (append_assoc f.front g.front b.0.1);
        spells = (f.front, g.front, refl, f.spells, g.spells);
      })

  counted_only : (n : ℕ) (s : items.State) (vs : List A) (front rest : List ℕ) → Counted items n s vs front → counted_at items n s (front ++ rest) ≡ Ok (vs, rest)
  unfolding counted_at
  counted_only zero s [] front rest spells = ap (λ (f : List ℕ). got [] (f ++ rest)) spells
  counted_only (suc n) s (v ∷ vs) front rest spells =
      let a = spells.0 in
      let b = spells.1 in
      ap (counted_at items (suc n) s) (ap (λ (f : List ℕ). f ++ rest) spells.2 ∙ append_assoc a b rest)
      ∙ ap (λ r. r >>= λ x. counted_at items n (items.next s x.0) x.1 >>= λ y. Ok (x.0 ∷ y.0, y.1)) ((laws s).only v a (b ++ rest) spells.3)
      ∙ ap (λ r. r >>= λ y. got (v ∷ y.0) y.1) (counted_only n (items.next s v) vs b rest spells.4)
  counted_only zero s (v ∷ vs) front rest spells = absurd spells
  counted_only (suc n) s [] front rest spells = absurd spells

  counted_written : (n : ℕ) (s : items.State) (vs : List A) → FitsCounted items n s vs → Counted items n s vs (items_text items s vs)
  counted_written zero s [] fits = refl
  counted_written (suc n) s (v ∷ vs) fits = ((items.item s).write v, items_text items (items.next s v) vs, refl, (laws s).written v fits.0, counted_written n (items.next s v) vs fits.1)
  counted_written zero s (v ∷ vs) fits = absurd fits
  counted_written (suc n) s [] fits = absurd fits

  pub counted_laws : (s : items.State) (n : ℕ) → Lawful (counted items s n)
  counted_laws s n = record {
    found = counted_found n s;
    only = counted_only n s;
    written = counted_written n s;
  }

-- ---- items up to the end of the bytes

module _ {E A : Type 0} (items : Items E A) (laws : LawfulItems items) where
  abbrev all : List A → Result (List A) E
  all vs = Ok vs

  pub to_end_found : (n : ℕ) (s : items.State) (bytes : List ℕ) (vs : List A) → length bytes ≤ n → to_end_at items n s bytes ≡ Ok vs → ToEnd items s vs bytes
  unfolding to_end_at
  to_end_found n s [] vs low e = subst (λ (ys : List A). ToEnd items s ys []) (ok_is {E = E} [] vs e) refl
  to_end_found zero s (b ∷ bytes) vs low e = absurd (omega arith)
  to_end_found (suc n) s (b ∷ bytes) vs low e =
      let a = bind_ok ((items.item s).read (b ∷ bytes)) (λ x. to_end_at items n (items.next s x.0) x.1 >>= λ ys. all (x.0 ∷ ys)) vs e in
      let c = bind_ok (to_end_at items n (items.next s a.0.0) a.0.1) (λ ys. all (a.0.0 ∷ ys)) vs a.2 in
      let f = (laws.laws s).found (b ∷ bytes) a.0.0 a.0.1 a.1 in
      let g = to_end_found n (items.next s a.0.0) a.0.1 c.0 (omega (arith, fewer (items.item s) (laws.laws s) (laws.some s) (b ∷ bytes) a.0.0 a.0.1 a.1)) c.1 in
      subst (λ (ys : List A). ToEnd items s ys (b ∷ bytes)) (ok_is {E = E} (a.0.0 ∷ c.0) vs c.2) (f.front, a.0.1, f.parts, f.spells, g)

  pub to_end_only : (n : ℕ) (s : items.State) (vs : List A) (bytes : List ℕ) → length bytes ≤ n → ToEnd items s vs bytes → to_end_at items n s bytes ≡ Ok vs
  unfolding to_end_at
  to_end_only n s [] [] low spells = refl
  to_end_only n s [] (b ∷ bytes) low spells = absurd cc
  to_end_only n s (v ∷ vs) [] low spells = absurd (omega (arith, (laws.some s) v spells.0 spells.3, ap length spells.2, length-append spells.0 spells.1))
  to_end_only zero s (v ∷ vs) (b ∷ bytes) low spells = absurd (omega arith)
  to_end_only (suc n) s (v ∷ vs) (b ∷ bytes) low spells =
      let x = spells.0 in
      let y = spells.1 in
      ap (λ r. r >>= λ x. to_end_at items n (items.next s x.0) x.1 >>= λ ys. all (x.0 ∷ ys)) (ap (items.item s).read spells.2 ∙ (laws.laws s).only v x y spells.3)
      ∙ ap (λ r. r >>= λ ys. all (v ∷ ys)) (to_end_only n (items.next s v) vs y (omega (arith, (laws.some s) v x spells.3, ap length spells.2, length-append x y)) spells.4)

  end_behind : (f g : items.State → List ℕ → Result (List A) E) (s : items.State) (bytes : List ℕ) → ((t : items.State) (rest : List ℕ) → length rest < length bytes → f t rest ≡ g t rest)
      → ((items.item s).read bytes >>= λ x. f (items.next s x.0) x.1 >>= λ ys. all (x.0 ∷ ys)) ≡ ((items.item s).read bytes >>= λ x. g (items.next s x.0) x.1 >>= λ ys. all (x.0 ∷ ys))
  end_behind f g s bytes same = by ((items.item s).read bytes) refl
    where
      by : (r : Reading E A) → (items.item s).read bytes ≡ r → (r >>= λ x. f (items.next s x.0) x.1 >>= λ ys. all (x.0 ∷ ys)) ≡ (r >>= λ x. g (items.next s x.0) x.1 >>= λ ys. all (x.0 ∷ ys))
      by (Err e) is = refl
      by (Ok x) is = ap (λ r. r >>= λ ys. all (x.0 ∷ ys)) (same (items.next s x.0) x.1 (fewer (items.item s) (laws.laws s) (laws.some s) bytes x.0 x.1 is))

  pub end_enough : (n m : ℕ) (s : items.State) (bytes : List ℕ) → length bytes ≤ n → length bytes ≤ m → to_end_at items n s bytes ≡ to_end_at items m s bytes
  unfolding to_end_at
  end_enough n m s [] low also = refl
  end_enough zero m s (b ∷ bytes) low also = absurd (omega arith)
  end_enough (suc n) zero s (b ∷ bytes) low also = absurd (omega arith)
  end_enough (suc n) (suc m) s (b ∷ bytes) low also =
      end_behind (to_end_at items n) (to_end_at items m) s (b ∷ bytes) (λ t rest less. end_enough n m t rest (omega (arith, less, low)) (omega (arith, less, also)))
