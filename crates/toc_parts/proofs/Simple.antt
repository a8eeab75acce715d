-- The laws of the parts that are made of one or two others.
use Rattle.std.proofs.Common.{◌≡◌, ℕ, List, [], ◌++◌, length, Option, Ok, Err, refl, sym, ap, subst, ◌∙◌, append_assoc, arith, length-append}
use Rattle.toc_parts.specs.Parts.{Reading, Part, ◌>>=◌, nothing, ◌then◌, then_at, behind, behind_at, seen, seen_at, meant, understood, raised, raised_at}
use Rattle.toc_parts.specs.Laws.{Found, Lawful, TakesByte}
use Rattle.toc_parts.proofs.Steps.{bind_ok, ok_is, meant_ok}

abbrev got : {E A : Type 0} → A → List ℕ → Reading E A
got v rest = Ok (v, rest)

-- ---- nothing at all

pub nothing_laws : {E A : Type 0} (v : A) → Lawful {E = E} (nothing v)
nothing_laws {E} {A} v = record {
  found = λ bytes w rest e.
      let same : (v, bytes) ≡ (w, rest) = ok_is {E = E} (v, bytes) (w, rest) e in
      record { front = []; parts = ap (λ (x : A × List ℕ). x.1) same; spells = (sym (ap (λ (x : A × List ℕ). x.0) same), refl) };
  only = λ w front rest spells. rw (spells.0, spells.1) refl;
  written = λ w fits. (fits, refl);
}

-- ---- one after another

then_found : {E A B : Type 0} (p : Part E A) (q : Part E B) → Lawful p → Lawful q → (bytes : List ℕ) (x : A × B) (rest : List ℕ) → then_at p.read q.read bytes ≡ Ok (x, rest) → Found (p then q) bytes x rest
then_found {E} {A} {B} p q lp lq bytes x rest e =
    let a = bind_ok (p.read bytes) (λ a. q.read a.1 >>= λ b. Ok ((a.0, b.0), b.1)) (x, rest) e in
    let b = bind_ok (q.read a.0.1) (λ b. Ok ((a.0.0, b.0), b.1)) (x, rest) a.2 in
    let f = lp.found bytes a.0.0 a.0.1 a.1 in
    let g = lq.found a.0.1 b.0.0 b.0.1 b.1 in
    let made : (A × B) × List ℕ = ((a.0.0, b.0.0), b.0.1) in
    subst (λ (y : (A × B) × List ℕ). Found (p then q) bytes y.0 y.1) (ok_is {E = E} made (x, rest) b.2)
    (record {
      front = f.front ++ g.front;
      parts = f.parts ∙ ap (λ (r : List ℕ). f.front ++ r) g.parts ∙ sym (append_assoc f.front g.front b.0.1);
      spells = (f.front, g.front, refl, f.spells, g.spells);
    })

then_only : {E A B : Type 0} (p : Part E A) (q : Part E B) → Lawful p → Lawful q → (x : A × B) (front rest : List ℕ) → (p then q).Spells x front → then_at p.read q.read (front ++ rest) ≡ Ok (x, rest)
then_only p q lp lq x front rest spells =
    let a = spells.0 in
    let b = spells.1 in
    ap (then_at p.read q.read) (ap (λ (f : List ℕ). f ++ rest) spells.2 ∙ append_assoc a b rest)
    ∙ ap (λ r. r >>= λ y. q.read y.1 >>= λ z. Ok ((y.0, z.0), z.1)) (lp.only x.0 a (b ++ rest) spells.3)
    ∙ ap (λ r. r >>= λ z. got (x.0, z.0) z.1) (lq.only x.1 b rest spells.4)

pub then_laws : {E A B : Type 0} (p : Part E A) (q : Part E B) → Lawful p → Lawful q → Lawful (p then q)
then_laws p q lp lq = record {
  found = then_found p q lp lq;
  only = then_only p q lp lq;
  written = λ x fits. (p.write x.0, q.write x.1, refl, lp.written x.0 fits.0, lq.written x.1 fits.1);
}

-- ---- a part whose form a first part tells

behind_found : {E N A : Type 0} (p : Part E N) (q : N → Part E A) (told : A → N) → Lawful p → ((n : N) → Lawful (q n)) → (bytes : List ℕ) (v : A) (rest : List ℕ) → behind_at p.read (λ n. (q n).read) bytes ≡ Ok (v, rest) → Found (behind p q told) bytes v rest
behind_found p q told lp lq bytes v rest e =
    let a = bind_ok (p.read bytes) (λ n. (q n.0).read n.1) (v, rest) e in
    let f = lp.found bytes a.0.0 a.0.1 a.1 in
    let g = (lq a.0.0).found a.0.1 v rest a.2 in
    record {
      front = f.front ++ g.front;
      parts = f.parts ∙ ap (λ (r : List ℕ). f.front ++ r) g.parts ∙ sym (append_assoc f.front g.front rest);
      spells = (a.0.0, f.front, g.front, refl, f.spells, g.spells);
    }

behind_only : {E N A : Type 0} (p : Part E N) (q : N → Part E A) (told : A → N) → Lawful p → ((n : N) → Lawful (q n)) → (v : A) (front rest : List ℕ) → (behind p q told).Spells v front → behind_at p.read (λ n. (q n).read) (front ++ rest) ≡ Ok (v, rest)
behind_only p q told lp lq v front rest spells =
    let n = spells.0 in
    let a = spells.1 in
    let b = spells.2 in
    ap (behind_at p.read (λ n. (q n).read)) (ap (λ (f : List ℕ). f ++ rest) spells.3 ∙ append_assoc a b rest)
    ∙ ap (λ r. r >>= λ n. (q n.0).read n.1) (lp.only n a (b ++ rest) spells.4)
    ∙ (lq n).only v b rest spells.5

pub behind_laws : {E N A : Type 0} (p : Part E N) (q : N → Part E A) (told : A → N) → Lawful p → ((n : N) → Lawful (q n)) → Lawful (behind p q told)
behind_laws p q told lp lq = record {
  found = behind_found p q told lp lq;
  only = behind_only p q told lp lq;
  written = λ v fits. (told v, p.write (told v), (q (told v)).write v, refl, lp.written (told v) fits.0, (lq (told v)).written v fits.1);
}

-- ---- a value seen through another

seen_ok : {E A B : Type 0} (f : A → B) (r : Reading E A) (y : B × List ℕ) → seen_at f r ≡ Ok y → (x : A × List ℕ) × (r ≡ Ok x) × (y.0 ≡ f x.0) × (y.1 ≡ x.1)
seen_ok f (Ok x) y e = (x, refl, cc, cc)
seen_ok f (Err d) y e = absurd cc

pub seen_laws : {E A B : Type 0} (f : A → B) (g : B → A) (p : Part E A) → Lawful p → Lawful (seen f g p)
seen_laws f g p laws = record {
  found = λ bytes w rest e.
      let x = seen_ok f (p.read bytes) (w, rest) e in
      let h = laws.found bytes x.0.0 x.0.1 x.1 in
      record { front = h.front; parts = h.parts ∙ ap (λ (r : List ℕ). h.front ++ r) (sym x.3); spells = (x.0.0, x.2, h.spells) };
  only = λ w front rest spells. ap (seen_at f) (laws.only spells.0 front rest spells.2) ∙ ap (λ v. got v rest) (sym spells.1);
  written = λ w fits. (g w, sym fits.0, laws.written (g w) fits.1);
}

-- ---- a value that has a meaning, or none

pub understood_laws : {E A B : Type 0} (meaning : A → Option B) (g : B → A) (fault : A → ℕ → E) (p : Part E A) → Lawful p → Lawful (understood meaning g fault p)
understood_laws meaning g fault p laws = record {
  found = λ bytes w rest e.
      let x = bind_ok (p.read bytes) (λ x. meant fault (length bytes) x.0 x.1 (meaning x.0)) (w, rest) e in
      let m = meant_ok fault (length bytes) x.0.0 x.0.1 (meaning x.0.0) (w, rest) x.2 in
      let h = laws.found bytes x.0.0 x.0.1 x.1 in
      record { front = h.front; parts = h.parts ∙ ap (λ (r : List ℕ). h.front ++ r) m.1; spells = (x.0.0, m.0, h.spells) };
  only = λ w front rest spells.
      ap (λ r. r >>= λ x. meant fault (length (front ++ rest)) x.0 x.1 (meaning x.0)) (laws.only spells.0 front rest spells.2)
      ∙ ap (meant fault (length (front ++ rest)) spells.0 rest) spells.1;
  written = λ w fits. (g w, fits.0, laws.written (g w) fits.1);
}

-- ---- the same part with its faults seen as others

raised_ok : {E F A : Type 0} (f : E → F) (r : Reading E A) (y : A × List ℕ) → raised_at f r ≡ Ok y → r ≡ Ok y
raised_ok f (Ok x) y e = cc
raised_ok f (Err d) y e = absurd cc

pub raised_laws : {E F A : Type 0} (f : E → F) (p : Part E A) → Lawful p → Lawful (raised f p)
raised_laws f p laws = record {
  found = λ bytes v rest e. let h = laws.found bytes v rest (raised_ok f (p.read bytes) (v, rest) e) in record { front = h.front; parts = h.parts; spells = h.spells };
  only = λ v front rest spells. ap (raised_at f) (laws.only v front rest spells);
  written = laws.written;
}

-- ---- parts that take a byte at least

pub then_some : {E A B : Type 0} (p : Part E A) (q : Part E B) → TakesByte p → TakesByte (p then q)
then_some p q some v bytes spells = omega (arith, some v.0 spells.0 spells.3, ap length spells.2, length-append spells.0 spells.1)

pub behind_some : {E N A : Type 0} (p : Part E N) (q : N → Part E A) (told : A → N) → TakesByte p → TakesByte (behind p q told)
behind_some p q told some v bytes spells = omega (arith, some spells.0 spells.1 spells.4, ap length spells.3, length-append spells.1 spells.2)

pub seen_some : {E A B : Type 0} (f : A → B) (g : B → A) (p : Part E A) → TakesByte p → TakesByte (seen f g p)
seen_some f g p some w bytes spells = some spells.0 bytes spells.2

pub understood_some : {E A B : Type 0} (meaning : A → Option B) (g : B → A) (fault : A → ℕ → E) (p : Part E A) → TakesByte p → TakesByte (understood meaning g fault p)
understood_some meaning g fault p some w bytes spells = some spells.0 bytes spells.2

pub raised_some : {E F A : Type 0} (f : E → F) (p : Part E A) → TakesByte p → TakesByte (raised f p)
raised_some f p some v bytes spells = some v bytes spells
