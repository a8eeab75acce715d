-- The tokens of a type: how a step goes on, and those of a qualified name.
use Rattle.ddl_pieces.proofs.Common.{◌≡◌, ℕ, suc, ◌+◌, ◌-◌, ◌≤◌, Bool, true, false, List, [], ◌∷◌, length, take, drop, Option, Some, None, Result, Ok, Err, refl, sym, ap, subst, ◌∙◌, arith, option_and_then, length-drop, ok_or, TypeSpot, Begin, Path, TypeName, ReadError, Lexeme, is_sign, starts, source, name_value, Reading, Runs, run, scan, one_at, seen_at, Fails, typing, type_step, if_name, type_of, type_part}
use Rattle.ddl_parts.proofs.{Basics.gives, Slices.drop_twice, Basics.run_none, Basics.value_is}
use Rattle.cat_model.specs.declared.type_name.TypeName.TheVariants as type_name
use Rattle.ddl_parts.specs.Parts.{Machine, ends, scan_step, ◌>>=◌}
use Rattle.std.specs.Prelude.{cond}

abbrev gone : TypeSpot → Result TypeSpot Bool
gone x = Ok x

abbrev held : Bool → Result TypeSpot Bool
held long = Err long

pub goes : (next : Option TypeSpot) (long : Bool) (x : TypeSpot) → gone x ≡ ok_or next long → next ≡ Some x
goes next long x e = grind arith

pub stays : (next : Option TypeSpot) (long long' : Bool) → held long' ≡ ok_or next long → (next ≡ None) × (long ≡ long')
stays next long long' e = grind arith

-- ---- a qualified name

-- both stand for names
pub record AreNames (a b : Lexeme) : Type 0 where
  pub schema : List ℕ
  pub schema_is : name_value a ≡ Ok schema
  pub name : List ℕ
  pub name_is : name_value b ≡ Ok name

name_goes : (second : Result (List ℕ) Bool) (s : TypeSpot) → if_name second Path ≡ Some s → (n : List ℕ) × (second ≡ Ok n)
name_goes second s h = grind arith

step_some : (o : Option TypeSpot) (t : Lexeme) (s : TypeSpot) → option_and_then (λ x. type_step x t) o ≡ Some s → (r : TypeSpot) × (o ≡ Some r) × (type_step r t ≡ Some s)
step_some o t s e = grind arith

-- a type whose second token is a dot, with another behind it, has two names
pub path_names : (a dot b : Lexeme) (ts : List Lexeme) (last : TypeSpot) → is_sign 46 dot ≡ true → run typing (Some Begin) (a ∷ dot ∷ b ∷ ts) ≡ Some last → AreNames a b
unfolding type_step
path_names a dot b ts last e h = grind (arith, step_some, name_goes, run_none)

abbrev EndsAt : (m : Machine) → m.State → List Lexeme → Type 0
EndsAt m s taken = (last : m.State) × (run m (Some s) taken ≡ Some last) × (m.done last ≡ true)

-- what is scanned runs to a state where the machine is done
scanned_from : (m : Machine) (s : m.State) (ts taken rest : List Lexeme) → scan m s ts ≡ Ok (taken, rest) → EndsAt m s taken
unfolding scan
scanned_from m s [] taken rest e = by_done (m.done s) refl e
  where
    by_done : (d : Bool) → m.done s ≡ d → cond d (gives [] []) (Err (record { long = false; rest = [] })) ≡ Ok (taken, rest) → EndsAt m s taken
    by_done true is h = grind arith
    by_done false is h = absurd cc
scanned_from m s (t ∷ ts) taken rest e = by (λ x. scanned_from m x ts) (m.step s t) refl e
  where
    stopped : (d : Bool) → m.done s ≡ d → cond d (gives [] (t ∷ ts)) (Err (record { long = m.long s t; rest = t ∷ ts })) ≡ Ok (taken, rest) → EndsAt m s taken
    stopped true is h = grind arith
    stopped false is h = absurd cc

    goes_on : (x : m.State) → m.step s t ≡ Some x → ((taken rest : List Lexeme) → scan m x ts ≡ Ok (taken, rest) → EndsAt m x taken) → (r : Reading (List Lexeme)) → scan m x ts ≡ r → (r >>= λ r. gives (t ∷ r.0) r.1) ≡ Ok (taken, rest) → EndsAt m s taken
    goes_on x is later (Ok r) same h = let f = later r.0 r.1 same in subst (EndsAt m s) (value_is (t ∷ r.0) taken r.1 rest h) (f.0, ap (λ next. run m next r.0) is ∙ f.1, f.2)
    goes_on x is later (Err u) same h = absurd cc

    by : ((x : m.State) (taken rest : List Lexeme) → scan m x ts ≡ Ok (taken, rest) → EndsAt m x taken) → (next : Option m.State) → m.step s t ≡ next → scan_step (ends m s (m.long s t) (t ∷ ts)) (λ x. scan m x ts >>= λ r. gives (t ∷ r.0) r.1) next ≡ Ok (taken, rest) → EndsAt m s taken
    by later None is h = stopped (m.done s) refl h
    by later (Some x) is h = goes_on x is (later x) (scan m x ts) refl h

scanned_runs : (ts taken rest : List Lexeme) → scan typing Begin ts ≡ Ok (taken, rest) → Runs typing taken
scanned_runs ts taken rest e = let f = scanned_from typing Begin ts taken rest e in record { last = f.0; runs = f.1; done = f.2 }

-- the names of a type's tokens, as they are read one by one behind each other
pub record ArePath (ts others taken : List Lexeme) : Type 0 where
  pub schema : List ℕ
  pub schema_is : one_at name_value ts ≡ gives schema (drop 1 ts)
  pub name : List ℕ
  pub name_is : one_at name_value others ≡ gives name (drop 1 others)
  pub type_is : type_of taken ≡ type_name.Path (record { schema = schema; name = name })

-- a run of three tokens or more with a dot as the second is a qualified name
pub path_is : (n : ℕ) (ts rest : List Lexeme) → 3 ≤ n → n ≤ length ts → starts (is_sign 46) (drop 1 ts) ≡ true → scan typing Begin ts ≡ Ok (take n ts, rest) → ArePath ts (drop 2 ts) (take n ts)
unfolding type_of
path_is (suc (suc (suc n))) (a ∷ dot ∷ b ∷ ts) rest le high e scanned = grind (arith, scanned_runs, path_names)
path_is n ts rest le high e scanned = absurd (omega arith)

-- the same by places
pub path_between : (ts : List Lexeme) (at end : ℕ) (dot : Bool) → (dot ≡ true → at + 3 ≤ end) → (at + 3 ≤ end → dot ≡ starts (is_sign 46) (drop (at + 1) ts)) → dot ≡ true → end ≤ length ts → scan typing Begin (drop at ts) ≡ Ok (take (end - at) (drop at ts), drop end ts)
    → ArePath (drop at ts) (drop (at + 2) ts) (take (end - at) (drop at ts))
path_between ts at end dot long exact is high e =
    subst (λ us. ArePath (drop at ts) us (take (end - at) (drop at ts))) (drop_twice 2 at ts)
    (path_is (end - at) (drop at ts) (drop end ts) (omega (arith, (long is))) (omega (arith, length-drop at ts)) (ap (starts (is_sign 46)) (drop_twice 1 at ts) ∙ sym (exact (long is)) ∙ is) e)

-- another run is words
pub words_are : (n : ℕ) (ts : List Lexeme) → (3 ≤ n → starts (is_sign 46) (drop 1 ts) ≡ false) → type_of (take n ts) ≡ type_name.Words (source (take n ts))
unfolding type_of
words_are (suc (suc (suc n))) (a ∷ dot ∷ b ∷ ts) no_dot = let e : is_sign 46 dot ≡ false = no_dot (omega arith) in rw e refl
words_are n ts no_dot = grind arith

-- the type of the tokens that were scanned
pub type_is : (ts taken rest : List Lexeme) (t : TypeName) → scan typing Begin ts ≡ Ok (taken, rest) → type_of taken ≡ t → type_part.read ts ≡ Ok (t, rest)
unfolding type_part
type_is ts taken rest t e is = ap (seen_at type_of) e ∙ ap (λ (x : TypeName). gives x rest) is

-- what was read can't have failed
pub read_fails : {A B : Type 0} (ts : List Lexeme) (error : ReadError) (given : Reading A) (whole : Reading B) (v : A) (rest : List Lexeme) → given ≡ gives v rest → Fails ts error given → Fails ts error whole
read_fails ts error given whole v rest e fails = grind arith
