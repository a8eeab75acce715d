-- A machine that goes token by token: the tokens so far and those behind are the machine's run.
use Rattle.ddl_pieces.proofs.Common.{◌≡◌, ℕ, ◌+◌, ◌-◌, ◌≤◌, Bool, false, List, [], ◌∷◌, ◌++◌, length, take, drop, Some, None, Ok, Err, refl, sym, ap, ◌∙◌, arith, append_assoc, append-nil, drop_all, length-drop, length-map, Piece, lexemes, Lexeme, Reading, ◌>>=◌, Machine, ends, scan, scan_step, GivesRun, ended}
use Rattle.std.proofs.Common.{drop-drop, take-add}
use Rattle.ddl_parts.proofs.Basics.{gives}

-- tokens that were taken, before those that are taken behind them
abbrev pub before : List Lexeme → Reading (List Lexeme) → Reading (List Lexeme)
before front read = read >>= λ r. Ok (front ++ r.0, r.1)

pub record IsLeft (m : Machine) (whole : Reading (List Lexeme)) (ts : List Lexeme) (from at : ℕ) (s : m.State) : Type 0 where
  pub low : from ≤ at
  pub high : at ≤ length ts
  pub same : whole ≡ before (take (at - from) (drop from ts)) (scan m s (drop at ts))

pub all_left : (m : Machine) (ts : List Lexeme) (from : ℕ) → from ≤ length ts → IsLeft m (scan m m.start (drop from ts)) ts from from m.start
all_left m ts from le = grind arith

one_before : (front : List Lexeme) (t : Lexeme) (read : Reading (List Lexeme)) → before front (read >>= λ r. gives (t ∷ r.0) r.1) ≡ before (front ++ t ∷ []) read
one_before front t (Ok r) = ap (λ (x : List Lexeme). gives x r.1) (sym (append_assoc front (t ∷ []) r.0))
one_before front t (Err s) = refl

stepped : (m : Machine) (s x : m.State) (t : Lexeme) (rest : List Lexeme) → m.step s t ≡ Some x → scan m s (t ∷ rest) ≡ (scan m x rest >>= λ r. gives (t ∷ r.0) r.1)
unfolding scan
stepped m s x t rest e = ap (scan_step (ends m s (m.long s t) (t ∷ rest)) (λ x. scan m x rest >>= λ r. gives (t ∷ r.0) r.1)) e

pub at_token : (m : Machine) (whole : Reading (List Lexeme)) (ts : List Lexeme) (from at : ℕ) (s x : m.State) (t : Lexeme) → IsLeft m whole ts from at s → drop at ts ≡ t ∷ drop (at + 1) ts → m.step s t ≡ Some x → IsLeft m whole ts from (at + 1) x
at_token m whole ts from at s x t left e some =
    let low = left.low in
    let front = take (at - from) (drop from ts) in
    let place : from + (at - from) ≡ at = omega arith in
    let size : at + 1 - from ≡ (at - from) + 1 = omega arith in
    let here : drop (at - from) (drop from ts) ≡ t ∷ drop (at + 1) ts = drop-drop (at - from) from ts ∙ ap (λ n. drop n ts) place ∙ e in
    let taken : take (at + 1 - from) (drop from ts) ≡ front ++ t ∷ [] = ap (λ n. take n (drop from ts)) size ∙ take-add (at - from) 1 (drop from ts) ∙ ap (λ (r : List Lexeme). front ++ take 1 r) here in
    record {
      low = omega arith;
      high = omega (arith, length-drop at ts, (ap (λ (r : List Lexeme). length r) e));
      same = left.same ∙ ap (λ (r : List Lexeme). before front (scan m s r)) e ∙ ap (before front) (stepped m s x t (drop (at + 1) ts) some) ∙ one_before front t (scan m x (drop (at + 1) ts)) ∙ ap (λ (f : List Lexeme). before f (scan m x (drop (at + 1) ts))) (sym taken);
    }

by_done : (m : Machine) (whole : Reading (List Lexeme)) (ts : List Lexeme) (from at : ℕ) (s : m.State) (long : Bool) → IsLeft m whole ts from at s → scan m s (drop at ts) ≡ ends m s long (drop at ts) → (d : Bool) → m.done s ≡ d → GivesRun ts from (ended d long at) whole
by_done m whole ts from at s long left e d done = grind (arith, append-nil)

pub at_end : (m : Machine) (whole : Reading (List Lexeme)) (ts : List Lexeme) (from at : ℕ) (s : m.State) (d : Bool) → IsLeft m whole ts from at s → drop at ts ≡ [] → m.done s ≡ d → GivesRun ts from (ended d false at) whole
unfolding scan
at_end m whole ts from at s d left none done = by_done m whole ts from at s false left (ap (scan m s) none ∙ ap (ends m s false) (sym none)) d done

pub at_stop : (m : Machine) (whole : Reading (List Lexeme)) (ts : List Lexeme) (from at : ℕ) (s : m.State) (t : Lexeme) (d : Bool) → IsLeft m whole ts from at s → drop at ts ≡ t ∷ drop (at + 1) ts → m.step s t ≡ None → m.done s ≡ d → GivesRun ts from (ended d (m.long s t) at) whole
unfolding scan
at_stop m whole ts from at s t d left here h done = grind (arith, ends, by_done)

-- where no token is left, a machine that isn't done stops
pub none_left : (m : Machine) (text : List ℕ) (ps : List Piece) (from : ℕ) → m.done m.start ≡ false → length ps ≤ from → scan m m.start (drop from (lexemes text ps)) ≡ Err (record { long = false; rest = drop from (lexemes text ps) })
unfolding scan
none_left m text ps from done le = grind (arith, drop_all, length-map)
