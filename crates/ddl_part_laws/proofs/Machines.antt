-- The laws of a run of tokens that a machine takes.
use Rattle.ddl_part_laws.proofs.Common.{arith, ◌≡◌, Bool, true, false, cond, List, [], ◌∷◌, ◌++◌, Option, Some, None, Ok, Err, refl, sym, ap, ◌∙◌, Lexeme, starts, Reading, ◌>>=◌, Machine, run, ends, scan, scan_step, runs_of, IsTooLong, shortened, Like, Lawful}
use Rattle.ddl_parts.proofs.Basics.{gives, run_none}
use Rattle.ddl_part_laws.proofs.Told.{Told, long_of, before, lawful, told_as, told_on}

-- A token that a state doesn't take: where it says that it is too long, it takes a shorter one, and else it doesn't take
-- such a one either. It says so only where it isn't done.
pub record Shorter (m : Machine) (s : m.State) (t : Lexeme) : Type 0 where
  pub undone : m.long s t ≡ true → m.done s ≡ false
  pub takes : m.long s t ≡ true → IsTooLong t × ((x : m.State) × (m.step s (shortened t) ≡ Some x))
  pub stays : m.long s t ≡ false → IsTooLong t → (m.step s (shortened t) ≡ None) × (m.long s (shortened t) ≡ false)

-- What a machine needs: each state can be brought to an end, and where it is done it takes no token but those that it says.
pub record CanEnd (m : Machine) : Type 0 where
  pub finish : m.State → List Lexeme
  pub last : m.State → m.State
  pub finished : (s : m.State) → run m (Some s) (finish s) ≡ Some (last s)
  pub done : (s : m.State) → m.done (last s) ≡ true
  pub covers : (s : m.State) (t : Lexeme) → m.done s ≡ true → m.goes_on t ≡ false → m.step s t ≡ None
  pub shorter : (s : m.State) (t : Lexeme) → m.step s t ≡ None → Shorter m s t

-- ---- runs

-- how a scan goes on, by the step that is taken
abbrev by_step : (m : Machine) → m.State → Lexeme → List Lexeme → Option m.State → Reading (List Lexeme)
by_step m s t ts next = scan_step (ends m s (m.long s t) (t ∷ ts)) (λ x. scan m x ts >>= λ r. gives (t ∷ r.0) r.1) next

abbrev by_done : (m : Machine) → Bool → List Lexeme → Bool → Reading (List Lexeme)
by_done m long rest d = cond d (gives [] rest) (Err (record { long = long; rest = rest }))

-- what runs from a state on and may end there
abbrev RunsFrom : (m : Machine) → m.State → List Lexeme → List Lexeme → Type 0
RunsFrom m s v ts = (v ≡ ts) × (last : m.State) × (run m (Some s) ts ≡ Some last) × (m.done last ≡ true)

abbrev Scans : (m : Machine) → m.State → List Lexeme → Reading (List Lexeme) → Type 0
Scans m s ts r = Told (RunsFrom m s) (scan m s) ts r

-- no token is taken
stays : (m : Machine) → CanEnd m → (s : m.State) (long : Bool) (ts : List Lexeme) (d : Bool) → m.done s ≡ d
    → ((t : Lexeme) (behind : List Lexeme) → ts ≡ t ∷ behind → (u : Lexeme) → Like (long_of (by_done m long ts d)) t u → (other : List Lexeme) → scan m s (u ∷ other) ≡ before (by_done m long ts d) (u ∷ other))
    → (long ≡ true → m.done s ≡ false → (t : Lexeme) × (behind : List Lexeme) × (ts ≡ t ∷ behind) × IsTooLong t × ((x : m.State) × (m.step s (shortened t) ≡ Some x))) → Scans m s ts (by_done m long ts d)
stays m h s long ts true e same goes = record { front = []; parts = refl; fits = (refl, s, refl, e); local = same; named = λ l. absurd cc }
stays m h s long ts false e same goes = record {
  front = [];
  parts = refl;
  fits = (h.finish s, h.finish s, (refl, h.last s, h.finished s, h.done s));
  local = same;
  named = λ l.
      let g = goes l e in
      let x = g.4.0 in
      record { token = g.0; behind = g.1; is = g.2; long = g.3; value = shortened g.0 ∷ h.finish x; more = h.finish x; spells = (refl, h.last x, ap (λ o. run m o (h.finish x)) g.4.1 ∙ h.finished x, h.done x) };
}

-- what stands behind the first token
abbrev behind_one : List Lexeme → Reading (Unit {0})
behind_one [] = Err (record { long = false; rest = [] })
behind_one (t ∷ ts) = Ok (tt, ts)

-- one is, and what is scanned behind it
goes : (m : Machine) (s : m.State) (t : Lexeme) (x : m.State) → m.step s t ≡ Some x → (ts : List Lexeme) (r : Reading (List Lexeme)) → Scans m x ts r → Scans m s (t ∷ ts) (r >>= λ r. gives (t ∷ r.0) r.1)
unfolding scan
goes m s t x is ts r f =
    let one : Told (λ u us. us ≡ t ∷ []) behind_one (t ∷ ts) (Ok (tt, ts)) = record { front = t ∷ []; parts = refl; fits = refl; local = λ y behind i z like other. refl; named = λ e. absurd cc } in
    told_on (λ v. t ∷ v) (t ∷ ts) tt ts r one f (λ v b h. (ap (λ (us : List Lexeme). t ∷ us) h.0, h.1, ap (λ o. run m o b) is ∙ h.2, h.3)) (λ rest e. ap (by_step m s t rest) is)

scans : (m : Machine) → CanEnd m → (s : m.State) (ts : List Lexeme) → Scans m s ts (scan m s ts)
unfolding scan
scans m h s [] = stays m h s false [] (m.done s) refl (λ t behind is u like other. absurd cc) (λ l d. absurd cc)
scans m h s (t ∷ ts) = by (λ x. scans m h x ts) (m.step s t) refl
  where
    by : ((x : m.State) → Scans m x ts (scan m x ts)) → (next : Option m.State) → m.step s t ≡ next → Scans m s (t ∷ ts) (by_step m s t ts next)
    by later None is =
        let k = h.shorter s t is in
        stays m h s (m.long s t) (t ∷ ts) (m.done s) refl (λ y behind i u like other. grind (arith, k.undone, k.stays)) (λ l d. (let g = k.takes l in (t, ts, refl, g.0, g.1)))
    by later (Some x) is = goes m s t x is ts (scan m x ts) (later x)

-- ---- what runs

scan_only : (m : Machine) (h : CanEnd m) (s last : m.State) (taken rest : List Lexeme) → run m (Some s) taken ≡ Some last → m.done last ≡ true → starts m.goes_on rest ≡ false → scan m s (taken ++ rest) ≡ Ok (taken, rest)
unfolding scan
scan_only m h s last [] [] e d free = let is : s ≡ last = cc in ap (by_done m false []) (ap m.done is ∙ d)
scan_only m h s last [] (t ∷ rest) e d free = grind (arith, by_done, run_none)
scan_only m h s last (t ∷ taken) rest e d free = by_next (λ x e. scan_only m h x last taken rest e d free) (m.step s t) refl e
  where
    by_next : ((x : m.State) → run m (Some x) taken ≡ Some last → scan m x (taken ++ rest) ≡ Ok (taken, rest)) → (next : Option m.State) → m.step s t ≡ next → run m next taken ≡ Some last → scan m s (t ∷ (taken ++ rest)) ≡ Ok (t ∷ taken, rest)
    by_next e next f h = grind (arith, run_none)

-- a machine that can end has the laws
pub machine_laws : (m : Machine) → CanEnd m → Lawful (runs_of m)
machine_laws m h =
    let runs : (v us : List Lexeme) → RunsFrom m m.start v us → (runs_of m).Spells v us = λ v us s. (s.0, record { last = s.1; runs = s.2; done = s.3 }) in
    lawful (λ ts. told_as ts (scan m m.start ts) (scans m h m.start ts) runs (λ t behind is u like other. refl))
    (λ v front rest spells free. scan_only m h m.start spells.1.last front rest spells.1.runs spells.1.done free ∙ ap (λ (x : List Lexeme). gives x rest) (sym spells.0))
    (record { value = h.finish m.start; tokens = h.finish m.start; spells = (refl, record { last = h.last m.start; runs = h.finished m.start; done = h.done m.start }) })
