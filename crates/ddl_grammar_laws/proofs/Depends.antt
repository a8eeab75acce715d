-- The laws of a part whose value decides what stands behind it.
use Rattle.ddl_grammar_laws.proofs.Common.{◌≡◌, false, List, ◌++◌, Ok, Err, refl, sym, ap, ◌∙◌, append_assoc, arith, Lexeme, starts, Part, Reading, ◌>>=◌, Lawful, Avoids, Tells, lawful, told_on, starts_none, ◌thenby◌, told, told_stopped}

-- what a value that is spelled decides has the laws, goes on with nothing further and isn't taken for more of the first
pub record Decided {A B : Type 0} (p : Part A) (f : A → Part B) : Type 0 where
  pub laws : (v : A) (ts : List Lexeme) → p.Spells v ts → Lawful (f v)
  pub ends : (v : A) (t : Lexeme) → (f v).goes_on t ≡ false
  pub avoids : (v : A) (ts : List Lexeme) → p.Spells v ts → Avoids p.goes_on (f v)

again : {B : Type 0} (r : Reading B) → (r >>= λ x. Ok (x.0, x.1)) ≡ r
again r = grind arith

tells : {A B : Type 0} (p : Part A) (f : A → Part B) → Decided p f → (ts : List Lexeme) (r : Reading A) → Tells p ts r → Tells (p thenby f) ts (r >>= λ x. (f x.0).read x.1)
tells p f d ts (Ok x) h =
    let q = f x.0 in
    rw (← again (q.read x.1))
    (told_on (λ y. y) ts x.0 x.1 (q.read x.1) h (told (d.laws x.0 h.front h.fits) x.1 (q.read x.1) refl) (λ y b s. (x.0, h.front, b, refl, h.fits, s))
    (λ rest e. ap (λ r. r >>= λ x'. (f x'.0).read x'.1) e ∙ sym (again (q.read rest))))
tells p f d ts (Err s) h =
    told_stopped ts s h (λ v a spells. let x = (d.laws v a spells).example in (x.value, x.tokens, (v, a, x.tokens, refl, spells, x.spells)))
    (λ t behind is u like other e. ap (λ r. r >>= λ x. (f x.0).read x.1) e)

only : {A B : Type 0} (p : Part A) (f : A → Part B) → Lawful p → Decided p f → (w : B) (front rest : List Lexeme) → (p thenby f).Spells w front → (p thenby f).read (front ++ rest) ≡ Ok (w, rest)
only p f lp d w front rest spells =
    let v = spells.0 in
    let a = spells.1 in
    let b = spells.2 in
    let free : starts (f v).goes_on rest ≡ false = starts_none (f v).goes_on (d.ends v) rest in
    ap (p thenby f).read (ap (λ (x : List Lexeme). x ++ rest) spells.3 ∙ append_assoc a b rest)
    ∙ ap (λ r. r >>= λ x. (f x.0).read x.1) (lp.only v a (b ++ rest) spells.4 (d.avoids v a spells.4 w b rest spells.5 free))
    ∙ (d.laws v a spells.4).only w b rest spells.5 free

pub thenby_laws : {A B : Type 0} (p : Part A) (f : A → Part B) → Lawful p → Decided p f → Lawful (p thenby f)
thenby_laws p f lp d =
    let e = lp.example in
    let x = (d.laws e.value e.tokens e.spells).example in
    lawful (λ ts. tells p f d ts (p.read ts) (told lp ts (p.read ts) refl)) (λ w front rest spells free. only p f lp d w front rest spells)
    (record { value = x.value; tokens = e.tokens ++ x.tokens; spells = (e.value, e.tokens, x.tokens, refl, e.spells, x.spells) })
