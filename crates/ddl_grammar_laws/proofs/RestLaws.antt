-- The text of the tokens that a part takes is a part, and so is a part where the next token passes a test.
use Rattle.ddl_grammar_laws.proofs.Common.{arith, ◌≡◌, ℕ, ◌-◌, Bool, true, false, List, [], ◌∷◌, ◌++◌, length, length-append, length-drop, take, drop, Ok, Err, refl, sym, ap, subst, ◌∙◌, append-nil, inl, Lexeme, starts, source, Part, Reading, stop, choose_at, gives, Like, Agrees, passes_like, starts-append, shortened, Tells, Fits, left_of, long_of, Lawful, told, told_stopped, lawful}
use Rattle.ddl_part_laws.proofs.Told.{named_by, before}
use Rattle.ddl_part_laws.specs.Laws.{Example}
use Rattle.ddl_grammar.specs.{Clauses.begun_by, Rests.taken, Rests.kept, Rests.kept_at}
use Rattle.std.proofs.Common.{min}
use Rattle.std.proofs.Math.Seq.{take-append_seam}

taken_front : (front rest : List Lexeme) → taken (front ++ rest) rest ≡ front
taken_front front rest = ap (λ n. take n (front ++ rest)) (let e : length (front ++ rest) - length rest ≡ length front = omega (arith, length-append front rest) in e) ∙ take-append_seam front rest

-- between two places
pub taken_between : (ts : List Lexeme) (from end : ℕ) → taken (drop from ts) (drop end ts) ≡ take (min end (length ts) - from) (drop from ts)
taken_between ts from end = ap (λ n. take n (drop from ts)) (let e : length (drop from ts) - length (drop end ts) ≡ min end (length ts) - from = grind (arith, length-drop) in e)

kept_tells : {A : Type 0} (p : Part A) (ts : List Lexeme) (r : Reading A) → Tells p ts r → Tells (kept p) ts (kept_at ts r)
kept_tells p ts (Ok x) h =
    let front : taken ts x.1 ≡ h.front = ap (λ (us : List Lexeme). taken us x.1) h.parts ∙ taken_front h.front x.1 in
    record {
      front = h.front;
      parts = h.parts;
      fits = (x.0, ap source front, h.fits);
      local = λ t behind is u like other. ap (kept_at (h.front ++ u ∷ other)) (h.local t behind is u like other) ∙ ap (λ (us : List Lexeme). gives (source us) (u ∷ other)) (taken_front h.front (u ∷ other) ∙ sym front);
      named = λ e. absurd cc;
    }
kept_tells p ts (Err s) h = told_stopped ts s h (λ v a spells. (source (a ++ []), [], (v, refl, subst (p.Spells v) (sym (append-nil a)) spells))) (λ t behind is u like other e. ap (kept_at (h.front ++ u ∷ other)) e)

pub kept_laws : {A : Type 0} {p : Part A} → Lawful p → Lawful (kept p)
kept_laws {p = p} lp =
    lawful (λ ts. kept_tells p ts (p.read ts) (told lp ts (p.read ts) refl))
    (λ v front rest spells free. ap (kept_at (front ++ rest)) (lp.only spells.0 front rest spells.2 free) ∙ ap (λ (us : List Lexeme). gives (source us) rest) (taken_front front rest) ∙ ap (λ (w : List ℕ). gives w rest) (sym spells.1))
    (record { value = source lp.example.tokens; tokens = lp.example.tokens; spells = (lp.example.value, refl, lp.example.spells) })

-- ---- where the next token passes a test

-- the laws where it passes, if the part takes a token at least, and some of its spellings begin with each token that passes
module _ {A : Type 0} (test : Lexeme → Bool) (agrees : Agrees test) (p : Part A) (lp : Lawful p) (some : (v : A) → p.Spells v [] → ⊥) (goes : (t : Lexeme) → test t ≡ true → (v : A) × (more : List Lexeme) × p.Spells v (t ∷ more)) where
  chosen : (ts : List Lexeme) (b : Bool) → starts test ts ≡ b → (begun_by test p).read ts ≡ choose_at b (p.read ts) (stop ts)
  chosen ts b e = ap (λ b. choose_at b (p.read ts) (stop ts)) e

  -- reading doesn't stop at the first token
  begun : (front ts : List Lexeme) (r : Reading A) → starts test ts ≡ true → ts ≡ front ++ left_of r → Fits p.Spells front r
      → ((t : Lexeme) (behind : List Lexeme) → left_of r ≡ t ∷ behind → (u : Lexeme) → Like (long_of r) t u → (other : List Lexeme) → p.read (front ++ u ∷ other) ≡ before r (u ∷ other)) → starts test front ≡ true
  begun (t ∷ front) ts r is parts fits local = ap (starts test) (sym parts) ∙ is
  begun [] ts (Ok v) is parts fits local = absurd (some v.0 fits)
  begun [] [] (Err s) is parts fits local = absurd cc
  begun [] (t ∷ ts) (Err s) is parts fits local =
      let w = goes t is in
      let e : p.read (t ∷ w.1) ≡ Ok (w.0, []) = ap p.read (sym (append-nil (t ∷ w.1))) ∙ lp.only w.0 (t ∷ w.1) [] w.2 refl in
      let stops = local t ts (sym parts) t (inl refl) w.1 in
      absurd (cc (e, stops))

  tells : Example (begun_by test p) → (ts : List Lexeme) (b : Bool) → starts test ts ≡ b → (r : Reading A) → Tells p ts r → Tells (begun_by test p) ts (choose_at b r (stop ts))
  tells w ts false e r f = record { front = []; parts = refl; fits = (w.value, w.tokens, w.spells); local = λ t behind is u like other. chosen (u ∷ other) false (passes_like test agrees false t u like ∙ ap (starts test) (sym is) ∙ e); named = λ e. absurd cc }
  tells w ts true e r f = let begins = begun f.front ts r e f.parts f.fits f.local in record {
    front = f.front;
    parts = f.parts;
    fits = fits r f.front begins f.fits;
    local = λ t behind is u like other. chosen (f.front ++ u ∷ other) true (starts-append test f.front (u ∷ other) begins) ∙ f.local t behind is u like other;
    named = λ l. (let n = f.named l in named_by n n.value n.more (starts-append test f.front (shortened n.token ∷ n.more) begins, n.spells));
  }
    where
      fits : (r : Reading A) (front : List Lexeme) → starts test front ≡ true → Fits p.Spells front r → Fits (begun_by test p).Spells front r
      fits (Ok v) front begins h = (begins, h)
      fits (Err s) front begins h = (h.0, h.1, (starts-append test front h.1 begins, h.2))

  pub begun_by_laws : (ts : List Lexeme) → starts test ts ≡ true → Lawful (begun_by test p)
  begun_by_laws [] e = absurd cc
  begun_by_laws (t ∷ ts) e =
      let w = goes t e in
      let x : Example (begun_by test p) = record { value = w.0; tokens = t ∷ w.1; spells = (e, w.2) } in
      lawful (λ us. tells x us (starts test us) refl (p.read us) (told lp us (p.read us) refl)) (λ v front rest spells free. chosen (front ++ rest) true (starts-append test front rest spells.0) ∙ lp.only v front rest spells.1 free) x
