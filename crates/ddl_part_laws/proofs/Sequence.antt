-- The laws of one part after another.
use Rattle.ddl_part_laws.proofs.Common.{◌≡◌, Bool, true, false, List, ◌++◌, Ok, Err, refl, ap, ◌∙◌, append_assoc, Lexeme, starts, Part, Reading, ◌>>=◌, ◌then◌, then_at, ◌▸◌, ◌◂◌, mark, Lawful, Begins, Avoids, Apart}
use Rattle.ddl_part_laws.proofs.{Steps.Agrees, Steps.starts-append, Steps.avoids_never, Steps.avoids_begun, Told.Tells, Told.told, Told.lawful, Told.told_on, Told.told_stopped, Simple.seen_laws, Simple.seen_begins, Simple.mark_laws, Simple.mark_begins}

then_tells : {A B : Type 0} (p : Part A) (q : Part B) → Lawful q → (ts : List Lexeme) (r : Reading A) → Tells p ts r → Tells (p then q) ts (r >>= λ a. q.read a.1 >>= λ b. Ok ((a.0, b.0), b.1))
then_tells p q lq ts (Ok a) f =
    told_on (λ b. (a.0, b)) ts a.0 a.1 (q.read a.1) f (told lq a.1 (q.read a.1) refl) (λ x b s. (f.front, b, refl, f.fits, s)) (λ rest e. ap (λ r. r >>= λ a'. q.read a'.1 >>= λ b. Ok ((a'.0, b.0), b.1)) e)
then_tells p q lq ts (Err s) f =
    told_stopped ts s f (λ v a spells. ((v, lq.example.value), lq.example.tokens, (a, lq.example.tokens, refl, spells, lq.example.spells)))
    (λ t behind is u like other e. ap (λ r. r >>= λ a. q.read a.1 >>= λ b. Ok ((a.0, b.0), b.1)) e)

then_only : {A B : Type 0} (p : Part A) (q : Part B) → Lawful p → Lawful q → Avoids p.goes_on q → (x : A × B) (front rest : List Lexeme) → (p then q).Spells x front → starts q.goes_on rest ≡ false → then_at p.read q.read (front ++ rest) ≡ Ok (x, rest)
then_only p q lp lq apart x front rest spells free =
    let a = spells.0 in
    let b = spells.1 in
    ap (then_at p.read q.read) (ap (λ (f : List Lexeme). f ++ rest) spells.2 ∙ append_assoc a b rest)
    ∙ ap (λ r. r >>= λ a'. q.read a'.1 >>= λ b'. Ok ((a'.0, b'.0), b'.1)) (lp.only x.0 a (b ++ rest) spells.3 (apart x.1 b rest spells.4 free))
    ∙ ap (λ r. r >>= λ y. Ok ((x.0, y.0), y.1)) (lq.only x.1 b rest spells.4 free)

-- one part after another has the laws where what spells the second can't go on with the first
pub then_laws : {A B : Type 0} (p : Part A) (q : Part B) → Lawful p → Lawful q → Avoids p.goes_on q → Lawful (p then q)
then_laws p q lp lq apart =
    let x = lp.example in
    let y = lq.example in
    lawful (λ ts. then_tells p q lq ts (p.read ts) (told lp ts (p.read ts) refl)) (then_only p q lp lq apart) (record { value = (x.value, y.value); tokens = x.tokens ++ y.tokens; spells = (x.tokens, y.tokens, refl, x.spells, y.spells) })

pub then_begins : {A B : Type 0} (test : Lexeme → Bool) (p : Part A) (q : Part B) → Begins test p → Begins test (p then q)
then_begins test p q begins x ts spells = ap (starts test) spells.2 ∙ starts-append test spells.0 spells.1 (begins x.0 spells.0 spells.3)

-- ---- a token that says no more, before a part or behind it

pub lead_laws : {A : Type 0} (test : Lexeme → Bool) → Agrees test → (t : Lexeme) (p : Part A) → test t ≡ true → Lawful p → Lawful (test ▸ p)
lead_laws test agrees t p e lp = seen_laws (λ x. x.1) (mark test then p) (then_laws (mark test) p (mark_laws test agrees t e) lp (avoids_never p))

pub lead_begins : {A : Type 0} (test : Lexeme → Bool) (p : Part A) → Begins test (test ▸ p)
lead_begins test p = seen_begins test (λ x. x.1) (mark test then p) (then_begins test (mark test) p (mark_begins test))

pub close_laws : {A : Type 0} (p : Part A) (test : Lexeme → Bool) → Agrees test → (t : Lexeme) → test t ≡ true → Lawful p → Apart test p.goes_on → Lawful (p ◂ test)
close_laws p test agrees t e lp apart = seen_laws (λ x. x.0) (p then mark test) (then_laws p (mark test) lp (mark_laws test agrees t e) (avoids_begun test p.goes_on (mark test) (mark_begins test) apart))
