-- The laws of one token, of no token, and of a value seen through another.
use Rattle.ddl_part_laws.proofs.Common.{◌≡◌, Bool, true, false, List, [], ◌∷◌, ◌++◌, Result, Ok, Err, refl, sym, ap, subst, ◌∙◌, append-nil, arith, Lexeme, starts, Part, Reading, one, one_at, first_by, seen, seen_at, nothing, wider, passes, mark, IsTooLong, shortened, Lawful, Begins, Avoids}
use Rattle.ddl_part_laws.proofs.{Steps.Agrees, Steps.starts_neither, Told.Tells, Told.told, Told.lawful, Told.told_as, Told.told_stopped}
use Rattle.ddl_parts.proofs.Basics.{gives, passes_by, passes_true}

-- ---- one token

-- What a token's value owes of tokens that are too long: where it is one but for its length, the token is too long, and a
-- shorter one has a value; and else a shorter one has none either.
pub record Shortens {A : Type 0} (value : Lexeme → Result A Bool) : Type 0 where
  pub long : (t : Lexeme) → value t ≡ Err true → IsTooLong t × ((v : A) × (value (shortened t) ≡ Ok v))
  pub none : (t : Lexeme) → IsTooLong t → value t ≡ Err false → value (shortened t) ≡ Err false

one_tells : {A : Type 0} (value : Lexeme → Result A Bool) → Shortens value → (t : Lexeme) (v : A) → value t ≡ Ok v → (ts : List Lexeme) → Tells (one value) ts (one_at value ts)
one_tells value h t v e [] = record { front = []; parts = refl; fits = (v, t ∷ [], (t, refl, e)); local = λ x behind is u like other. absurd cc; named = λ e. absurd cc }
one_tells {A} value h t v e (x ∷ ts) = by (value x) refl
  where
    by : (r : Result A Bool) → value x ≡ r → Tells (one value) (x ∷ ts) (first_by x ts r)
    by (Ok w) is = record { front = x ∷ []; parts = refl; fits = (x, refl, is); local = λ y behind i u like other. ap (first_by x (u ∷ other)) is; named = λ e. absurd cc }
    by (Err long) is = record {
      front = [];
      parts = refl;
      fits = (v, t ∷ [], (t, refl, e));
      local = λ y behind i u like other. grind (arith, h.none);
      named = λ l. let s = h.long x (cc) in record { token = x; behind = ts; is = refl; long = s.0; value = s.1.0; more = []; spells = (shortened x, refl, s.1.1) };
    }

pub one_laws : {A : Type 0} (value : Lexeme → Result A Bool) → Shortens value → (t : Lexeme) (v : A) → value t ≡ Ok v → Lawful (one value)
one_laws value h t v e =
    lawful (one_tells value h t v e) (λ w front rest spells free. ap (λ (f : List Lexeme). one_at value (f ++ rest)) spells.1 ∙ ap (first_by spells.0 rest) spells.2)
    (record { value = v; tokens = t ∷ []; spells = (t, refl, e) })

pub one_begins : {A : Type 0} (value : Lexeme → Result A Bool) (test : Lexeme → Bool) → ((t : Lexeme) (v : A) → value t ≡ Ok v → test t ≡ true) → Begins test (one value)
one_begins value test only v ts spells = ap (starts test) spells.1 ∙ only spells.0 v spells.2

-- ---- a token that says no more

pub mark_laws : (test : Lexeme → Bool) → Agrees test → (t : Lexeme) → test t ≡ true → Lawful (mark test)
mark_laws test agrees t e = one_laws (passes test) (record { long = λ t e. absurd (grind arith); none = λ t long e. grind (arith, (agrees t long)) }) t tt (ap passes_by e)

pub mark_begins : (test : Lexeme → Bool) → Begins test (mark test)
mark_begins test = one_begins (passes test) test (λ t v e. passes_true v (test t) e)

-- ---- no token

pub nothing_laws : {A : Type 0} (test : Lexeme → Bool) (v : A) → Lawful (nothing test v)
nothing_laws test v = grind arith

pub nothing_avoids : {A : Type 0} (test : Lexeme → Bool) (v : A) → Avoids test (nothing test v)
nothing_avoids test v w ts rest spells free = ap (λ (f : List Lexeme). starts test (f ++ rest)) spells.1 ∙ free

-- ---- a value seen through another

seen_tells : {A B : Type 0} (f : A → B) (p : Part A) (ts : List Lexeme) (r : Reading A) → Tells p ts r → Tells (seen f p) ts (seen_at f r)
seen_tells f p ts (Ok x) h = record { front = h.front; parts = h.parts; fits = (x.0, refl, h.fits); local = λ t behind is u like other. ap (seen_at f) (h.local t behind is u like other); named = λ e. absurd cc }
seen_tells f p ts (Err s) h = told_stopped ts s h (λ v a spells. (f v, [], (v, refl, subst (p.Spells v) (sym (append-nil a)) spells))) (λ t behind is u like other e. ap (seen_at f) e)

pub seen_laws : {A B : Type 0} (f : A → B) (p : Part A) → Lawful p → Lawful (seen f p)
seen_laws {B = B} f p lp =
    lawful (λ ts. seen_tells f p ts (p.read ts) (told lp ts (p.read ts) refl)) (λ w front rest spells free. ap (seen_at f) (lp.only spells.0 front rest spells.2 free) ∙ ap (λ (u : B). gives u rest) (sym spells.1))
    (record { value = f lp.example.value; tokens = lp.example.tokens; spells = (lp.example.value, refl, lp.example.spells) })

pub seen_begins : {A B : Type 0} (test : Lexeme → Bool) (f : A → B) (p : Part A) → Begins test p → Begins test (seen f p)
seen_begins test f p begins w ts spells = begins spells.0 ts spells.2

pub seen_avoids : {A B : Type 0} (test : Lexeme → Bool) (f : A → B) (p : Part A) → Avoids test p → Avoids test (seen f p)
seen_avoids test f p avoids w ts rest spells free = avoids spells.0 ts rest spells.2 free

-- ---- the same part, where further tokens could belong to it

pub wider_laws : {A : Type 0} (more : Lexeme → Bool) (p : Part A) → Lawful p → Lawful (wider more p)
wider_laws more p lp =
    lawful (λ ts. told_as ts (p.read ts) (told lp ts (p.read ts) refl) (λ v us s. s) (λ t behind is u like other. refl)) (λ v front rest spells free. lp.only v front rest spells (starts_neither p.goes_on more rest free).0)
    (record { value = lp.example.value; tokens = lp.example.tokens; spells = lp.example.spells })
