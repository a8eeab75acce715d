-- Reading items one after the other, as a loop does.
use Rattle.std.proofs.Common.{◌≡◌, ℕ, suc, ◌+◌, ◌-◌, ◌<◌, ◌≤◌, arith, List, [], ◌∷◌, ◌++◌, length, Option, Some, None, Ok, Err, refl, sym, ap, ◌∙◌, append_assoc}
use Rattle.std.specs.Prelude.{MatchOption, ⊤}
use Rattle.std.proofs.lemmas.List.{append-nil}
use Rattle.toc_parts.specs.Parts.{Reading, Part, ◌>>=◌, listed_by, listed, Items, state_after, counted_at, left_behind, lefts_at}
use Rattle.toc_parts.specs.Laws.{Lawful, TakesByte}
use Rattle.toc_parts.proofs.Repeated.{unrolled}

abbrev got : {E A : Type 0} → A → List ℕ → Reading E A
got v rest = Ok (v, rest)

-- what was read before, and what is still read
abbrev pub with_front : {E A : Type 0} → List A → Reading E (List A) → Reading E (List A)
with_front front read = read >>= λ x. Ok (front ++ x.0, x.1)

pub front_none : {E A : Type 0} (read : Reading E (List A)) → with_front [] read ≡ read
front_none (Ok x) = refl
front_none (Err e) = refl

regroup : {E A : Type 0} (front : List A) (v : A) (read : Reading E (List A)) → with_front front (read >>= λ y. got (v ∷ y.0) y.1) ≡ with_front (front ++ v ∷ []) read
regroup front v (Ok x) = ap (λ vs. got vs x.1) (sym (append_assoc front (v ∷ []) x.0))
regroup front v (Err e) = refl

module _ {E A : Type 0} (p : Part E (Option A)) (laws : Lawful p) (some : TakesByte p) where
  pub goes_on : (front : List A) (bytes : List ℕ) (v : A) (after : List ℕ) (total : Reading E (List A)) → p.read bytes ≡ Ok (Some v, after) → with_front front ((listed p).read bytes) ≡ total → with_front (front ++ v ∷ []) ((listed p).read after) ≡ total
  goes_on front bytes v after total is so_far =
      let one : (listed p).read bytes ≡ ((listed p).read after >>= λ y. got (v ∷ y.0) y.1) = unrolled p laws some bytes ∙ ap (λ r. r >>= λ x. listed_by (listed p).read x.0 x.1) is in
      sym (ap (with_front front) one ∙ regroup front v ((listed p).read after)) ∙ so_far

  pub ends : (front : List A) (bytes after : List ℕ) (total : Reading E (List A)) → p.read bytes ≡ Ok (None, after) → with_front front ((listed p).read bytes) ≡ total → total ≡ Ok (front, after)
  ends front bytes after total is so_far =
      let one : (listed p).read bytes ≡ got [] after = unrolled p laws some bytes ∙ ap (λ r. r >>= λ x. listed_by (listed p).read x.0 x.1) is in
      sym so_far ∙ ap (with_front front) one ∙ ap (λ vs. got vs after) (append-nil front)

  pub fails : (front : List A) (bytes : List ℕ) (e : E) (total : Reading E (List A)) → p.read bytes ≡ Err e → with_front front ((listed p).read bytes) ≡ total → total ≡ Err e
  fails front bytes e total is so_far =
      let one : (listed p).read bytes ≡ Err e = unrolled p laws some bytes ∙ ap (λ r. r >>= λ x. listed_by (listed p).read x.0 x.1) is in
      sym so_far ∙ ap (with_front front) one

  pub fails_so : (front : List A) (bytes : List ℕ) (fault : Option E) (total : Reading E (List A)) → MatchOption fault ⊤ (λ e. p.read bytes ≡ Err e) → with_front front ((listed p).read bytes) ≡ total → MatchOption fault ⊤ (λ e. total ≡ Err e)
  fails_so front bytes None total is so_far = tt
  fails_so front bytes (Some e) total is so_far = fails front bytes e total is so_far

-- ---- so many items, of which one is read at each turn

pub state_after-push : {E A : Type 0} (items : Items E A) (s : items.State) (vs : List A) (v : A) → state_after items s (vs ++ v ∷ []) ≡ items.next (state_after items s vs) v
state_after-push items s [] v = refl
state_after-push items s (w ∷ vs) v = state_after-push items (items.next s w) vs v

module _ {E A : Type 0} (items : Items E A) where
  pub counted_goes_on : (front : List A) (n i : ℕ) (s : items.State) (bytes : List ℕ) (v : A) (after : List ℕ) (total : Reading E (List A)) → i < n → (items.item s).read bytes ≡ Ok (v, after)
      → with_front front (counted_at items (n - i) s bytes) ≡ total → with_front (front ++ v ∷ []) (counted_at items (n - (i + 1)) (items.next s v) after) ≡ total
  unfolding counted_at
  counted_goes_on front n i s bytes v after total low is so_far =
      let k : n - i ≡ suc (n - (i + 1)) = omega arith in
      let one : counted_at items (n - i) s bytes ≡ (counted_at items (n - (i + 1)) (items.next s v) after >>= λ y. got (v ∷ y.0) y.1) = rw k (ap (λ r. r >>= λ x. counted_at items (n - (i + 1)) (items.next s x.0) x.1 >>= λ y. got (x.0 ∷ y.0) y.1) is) in
      sym (ap (with_front front) one ∙ regroup front v (counted_at items (n - (i + 1)) (items.next s v) after)) ∙ so_far

  pub counted_fails : (front : List A) (n i : ℕ) (s : items.State) (bytes : List ℕ) (fault : Option E) (total : Reading E (List A)) → i < n → MatchOption fault ⊤ (λ e. (items.item s).read bytes ≡ Err e)
      → with_front front (counted_at items (n - i) s bytes) ≡ total → MatchOption fault ⊤ (λ e. total ≡ Err e)
  unfolding counted_at
  counted_fails front n i s bytes None total low is so_far = tt
  counted_fails front n i s bytes (Some e) total low is so_far =
      let k : n - i ≡ suc (n - (i + 1)) = omega arith in
      let one : counted_at items (n - i) s bytes ≡ Err e = rw k (ap (λ r. r >>= λ x. counted_at items (n - (i + 1)) (items.next s x.0) x.1 >>= λ y. got (x.0 ∷ y.0) y.1) is) in
      sym so_far ∙ ap (with_front front) one

  pub counted_ends : (front : List A) (n i : ℕ) (s : items.State) (bytes : List ℕ) (total : Reading E (List A)) → n ≤ i → with_front front (counted_at items (n - i) s bytes) ≡ total → total ≡ Ok (front, bytes)
  unfolding counted_at
  counted_ends front n i s bytes total none so_far =
      let k : n - i ≡ 0 = omega arith in
      let one : with_front front (counted_at items (n - i) s bytes) ≡ got front bytes = rw k (ap (λ vs. got vs bytes) (append-nil front)) in
      sym so_far ∙ one

  pub lefts_go_on : (front : List ℕ) (n i : ℕ) (s : items.State) (bytes : List ℕ) (v : A) (after : List ℕ) (total : List ℕ) → i < n → (items.item s).read bytes ≡ Ok (v, after)
      → front ++ lefts_at items (n - i) s bytes ≡ total → (front ++ length after ∷ []) ++ lefts_at items (n - (i + 1)) (items.next s v) after ≡ total
  unfolding lefts_at
  lefts_go_on front n i s bytes v after total low is so_far =
      let k : n - i ≡ suc (n - (i + 1)) = omega arith in
      let one : lefts_at items (n - i) s bytes ≡ length after ∷ lefts_at items (n - (i + 1)) (items.next s v) after = rw k (ap (left_behind (λ v rest. lefts_at items (n - (i + 1)) (items.next s v) rest)) is) in
      append_assoc front (length after ∷ []) (lefts_at items (n - (i + 1)) (items.next s v) after) ∙ ap (λ (x : List ℕ). front ++ x) (sym one) ∙ so_far

  pub lefts_end : (front : List ℕ) (n i : ℕ) (s : items.State) (bytes total : List ℕ) → n ≤ i → front ++ lefts_at items (n - i) s bytes ≡ total → front ≡ total
  unfolding lefts_at
  lefts_end front n i s bytes total none so_far =
      let k : n - i ≡ 0 = omega arith in
      let one : front ++ lefts_at items (n - i) s bytes ≡ front = rw k (append-nil front) in
      sym one ∙ so_far
