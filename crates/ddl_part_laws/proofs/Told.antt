-- What reading comes to, whether it goes through or stops, in one statement; the laws of parts are proved of it.
use Rattle.ddl_part_laws.proofs.Common.{arith, ◌≡◌, Bool, true, false, List, [], ◌∷◌, ◌++◌, Ok, Err, refl, sym, ap, subst, ◌∙◌, inl, append_assoc, Lexeme, starts, Part, Stop, Reading, ◌>>=◌, shortened, Like, Named, Example, Lawful}

-- the tokens behind those that were taken
abbrev pub left_of : {A : Type 0} → Reading A → List Lexeme
left_of (Ok x) = x.1
left_of (Err s) = s.rest

-- whether it stops at a token that is too long
abbrev pub long_of : {A : Type 0} → Reading A → Bool
long_of (Ok x) = false
long_of (Err s) = s.long

-- the same answer before other tokens
abbrev pub before : {A : Type 0} → Reading A → List Lexeme → Reading A
before (Ok x) other = Ok (x.0, other)
before (Err s) other = Err (record { long = s.long; rest = other })

-- what was taken spells the value, or can be finished so that it spells one
abbrev pub Fits : {A : Type 0} → (A → List Lexeme → Type 0) → List Lexeme → Reading A → Type 0
Fits Spells front (Ok x) = Spells x.0 front
Fits {A} Spells front (Err s) = (v : A) × (more : List Lexeme) × Spells v (front ++ more)

-- what a reader came to at some tokens, and that it comes to this again before the next token, whatever is behind that
pub record Told {A : Type 0} (Spells : A → List Lexeme → Type 0) (read : List Lexeme → Reading A) (ts : List Lexeme) (r : Reading A) : Type 0 where
  pub front : List Lexeme
  pub parts : ts ≡ front ++ left_of r
  pub fits : Fits Spells front r
  pub local : (t : Lexeme) (behind : List Lexeme) → left_of r ≡ t ∷ behind → (u : Lexeme) → Like (long_of r) t u → (other : List Lexeme) → read (front ++ u ∷ other) ≡ before r (u ∷ other)
  pub named : long_of r ≡ true → Named Spells front (left_of r)

abbrev pub Tells : {A : Type 0} → Part A → List Lexeme → Reading A → Type 0
Tells p ts r = Told p.Spells p.read ts r

-- a part that has the laws tells this of each reading
pub told : {A : Type 0} {p : Part A} → Lawful p → (ts : List Lexeme) (r : Reading A) → p.read ts ≡ r → Tells p ts r
told lp ts (Ok x) e = let f = lp.found ts x.0 x.1 e in record { front = f.front; parts = f.parts; fits = f.spells; local = f.local; named = λ e. absurd cc }
told lp ts (Err s) e = let f = lp.stopped ts s e in record { front = f.front; parts = f.parts; fits = (f.value, f.more, f.finished); local = f.local; named = f.named }

-- and that is what the laws say of readings
pub lawful : {A : Type 0} {p : Part A} → ((ts : List Lexeme) → Tells p ts (p.read ts)) → ((v : A) (front rest : List Lexeme) → p.Spells v front → starts p.goes_on rest ≡ false → p.read (front ++ rest) ≡ Ok (v, rest)) → Example p → Lawful p
lawful {p = p} tells only example = record {
  found = λ ts v rest e. let f = subst (Tells p ts) e (tells ts) in record { front = f.front; parts = f.parts; spells = f.fits; local = f.local };
  only = only;
  stopped = λ ts s e. let f = subst (Tells p ts) e (tells ts) in record { front = f.front; parts = f.parts; value = f.fits.0; more = f.fits.1; finished = f.fits.2; local = f.local; named = f.named };
  example = example;
}

-- the same token, where something else is spelled
abbrev pub named_by : {A B : Type 0} → {S : A → List Lexeme → Type 0} → {T : B → List Lexeme → Type 0} → {front rest all : List Lexeme} → (n : Named S front rest) → (v : B) → (more : List Lexeme) → T v (all ++ shortened n.token ∷ more) → Named T all rest
named_by n v more spells = record { token = n.token; behind = n.behind; is = n.is; long = n.long; value = v; more = more; spells = spells }

-- what one reader tells, another does that spells no less and reads the same there
pub told_as : {A : Type 0} {S T : A → List Lexeme → Type 0} {p q : List Lexeme → Reading A} (ts : List Lexeme) (r : Reading A) (f : Told S p ts r) → ((v : A) (us : List Lexeme) → S v us → T v us)
    → ((t : Lexeme) (behind : List Lexeme) → left_of r ≡ t ∷ behind → (u : Lexeme) → Like (long_of r) t u → (other : List Lexeme) → q (f.front ++ u ∷ other) ≡ p (f.front ++ u ∷ other)) → Told T q ts r
told_as ts (Ok x) f more same = record { front = f.front; parts = f.parts; fits = more x.0 f.front f.fits; local = λ t behind is u like other. same t behind is u like other ∙ f.local t behind is u like other; named = λ e. absurd cc }
told_as ts (Err s) f more same = record {
  front = f.front;
  parts = f.parts;
  fits = (f.fits.0, f.fits.1, more f.fits.0 (f.front ++ f.fits.1) f.fits.2);
  local = λ t behind is u like other. same t behind is u like other ∙ f.local t behind is u like other;
  named = λ e. let n = f.named e in named_by n n.value n.more (more n.value (f.front ++ shortened n.token ∷ n.more) n.spells);
}

-- one reader that stops stops another that begins with it, where what is spelled can be gone on with
pub told_stopped : {A B : Type 0} {S : A → List Lexeme → Type 0} {U : B → List Lexeme → Type 0} {p : List Lexeme → Reading A} {w : List Lexeme → Reading B} (ts : List Lexeme) (s : Stop)
    → (f : Told S p ts (Err s)) → ((v : A) (a : List Lexeme) → S v a → (x : B) × (b : List Lexeme) × U x (a ++ b))
    → ((t : Lexeme) (behind : List Lexeme) → s.rest ≡ t ∷ behind → (u : Lexeme) → Like s.long t u → (other : List Lexeme) → p (f.front ++ u ∷ other) ≡ before (Err s) (u ∷ other) → w (f.front ++ u ∷ other) ≡ before (Err s) (u ∷ other)) → Told U w ts (Err s)
told_stopped {U = U} ts s f finish same =
    let x = finish f.fits.0 (f.front ++ f.fits.1) f.fits.2 in
    record {
      front = f.front;
      parts = f.parts;
      fits = (x.0, f.fits.1 ++ x.1, subst (U x.0) (append_assoc f.front f.fits.1 x.1) x.2);
      local = λ t behind is u like other. same t behind is u like other (f.local t behind is u like other);
      named = λ e.
          let n = f.named e in
          let y = finish n.value (f.front ++ shortened n.token ∷ n.more) n.spells in
          named_by n y.0 (n.more ++ y.1) (subst (U y.0) (append_assoc f.front (shortened n.token ∷ n.more) y.1) y.2);
    }

-- what was read is read again, before the next token, whatever comes behind that
pub carried : {A : Type 0} {S : A → List Lexeme → Type 0} {p : List Lexeme → Reading A} (ts : List Lexeme) (v : A) (mid : List Lexeme) (f : Told S p ts (Ok (v, mid))) (g rest : List Lexeme) (t : Lexeme) (behind : List Lexeme) → mid ≡ g ++ rest → rest ≡ t ∷ behind → (long : Bool) (u : Lexeme) → Like long t u → (other : List Lexeme)
    → p (f.front ++ (g ++ u ∷ other)) ≡ Ok (v, g ++ u ∷ other)
carried ts v mid f [] rest t behind e is long u like other = f.local t behind (e ∙ is) u (grind arith) other
carried ts v mid f (x ∷ g) rest t behind e is long u like other = f.local x (g ++ rest) e x (inl refl) (g ++ u ∷ other)

-- one reader behind another
pub told_on : {A B C : Type 0} {S : A → List Lexeme → Type 0} {T : B → List Lexeme → Type 0} {U : C → List Lexeme → Type 0} {p : List Lexeme → Reading A} {q : List Lexeme → Reading B} {w : List Lexeme → Reading C} (g : B → C) (ts : List Lexeme) (v : A) (mid : List Lexeme) (r : Reading B)
    → (f : Told S p ts (Ok (v, mid))) → Told T q mid r → ((x : B) (b : List Lexeme) → T x b → U (g x) (f.front ++ b)) → ((rest : List Lexeme) → p (f.front ++ rest) ≡ Ok (v, rest) → w (f.front ++ rest) ≡ (q rest >>= λ x. Ok (g x.0, x.1)))
    → Told U w ts (r >>= λ x. Ok (g x.0, x.1))
told_on {q = q} {w = w} g ts v mid (Ok x) f k spells goes = record {
  front = f.front ++ k.front;
  parts = f.parts ∙ ap (λ (r : List Lexeme). f.front ++ r) k.parts ∙ sym (append_assoc f.front k.front x.1);
  fits = spells x.0 k.front k.fits;
  local = λ t behind is u like other.
      ap w (append_assoc f.front k.front (u ∷ other)) ∙ goes (k.front ++ u ∷ other) (carried ts v mid f k.front x.1 t behind k.parts is false u like other) ∙ ap (λ r. r >>= λ x. Ok (g x.0, x.1)) (k.local t behind is u like other);
  named = λ e. absurd cc;
}
told_on {U = U} {q = q} {w = w} g ts v mid (Err s) f k spells goes = record {
  front = f.front ++ k.front;
  parts = f.parts ∙ ap (λ (r : List Lexeme). f.front ++ r) k.parts ∙ sym (append_assoc f.front k.front s.rest);
  fits = (g k.fits.0, k.fits.1, subst (U (g k.fits.0)) (sym (append_assoc f.front k.front k.fits.1)) (spells k.fits.0 (k.front ++ k.fits.1) k.fits.2));
  local = λ t behind is u like other.
      ap w (append_assoc f.front k.front (u ∷ other)) ∙ goes (k.front ++ u ∷ other) (carried ts v mid f k.front s.rest t behind k.parts is s.long u like other) ∙ ap (λ r. r >>= λ x. Ok (g x.0, x.1)) (k.local t behind is u like other);
  named = λ e.
      let n = k.named e in
      let more = shortened n.token ∷ n.more in
      named_by n (g n.value) n.more (subst (U (g n.value)) (sym (append_assoc f.front k.front more)) (spells n.value (k.front ++ more) n.spells));
}
