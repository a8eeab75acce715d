-- Items that a loop reads, one after another: those so far and those behind the place are the whole.
use Rattle.ddl_part_laws.proofs.Common.{◌≡◌, ℕ, ◌-◌, ◌<◌, Bool, true, false, List, [], ◌∷◌, ◌++◌, length, length-drop, drop, Ok, sym, ap, ◌∙◌, append_assoc, append-nil, arith, ReadError, Lexeme, starts, Reading, ◌>>=◌, Items, GivesPart, Fails}
use Rattle.ddl_part_laws.proofs.Repeated.{AreApart, takes, from_none, from_stop, from_read}
pub use Rattle.ddl_part_laws.proofs.Repeated.{items_from}

-- items that were read, before those that are read behind them
abbrev pub preceded : {A : Type 0} → List A → Reading (List A) → Reading (List A)
preceded front read = read >>= λ others. Ok (front ++ others.0, others.1)

-- the items so far, the state behind them and the place from which the others are read
pub record AreLeft {A : Type 0} (items : Items A) (whole : Reading (List A)) (ts : List Lexeme) (so_far : List A) (s : items.State) (at : ℕ) : Type 0 where
  pub same : whole ≡ preceded so_far (items_from items s (drop at ts))

-- at the start
pub all_left : {A : Type 0} (items : Items A) (ts : List Lexeme) (at : ℕ) → AreLeft items (items_from items items.start (drop at ts)) ts [] items.start at
all_left items ts at = record { same = sym (grind arith) }

module _ {A : Type 0} {items : Items A} {whole : Reading (List A)} {ts : List Lexeme} {so_far : List A} {s : items.State} {at : ℕ} (left : AreLeft items whole ts so_far s at) where
  -- an item was read
  pub one_more : {B : Type 0} {goes_on : Lexeme → Bool} → AreApart goes_on items → (view : B → A) (x : B × ℕ) → starts (items.more s) (drop at ts) ≡ true → GivesPart ts view (Ok x) ((items.item s).read (drop at ts))
      → AreLeft items whole ts (so_far ++ view x.0 ∷ []) (items.next s (view x.0)) x.1
  one_more h view x begins e = record { same = left.same ∙ ap (preceded so_far) (from_read h s (drop at ts) (Ok (view x.0, drop x.1 ts)) begins e) ∙ (grind (arith, append_assoc)) }

  -- no item begins: those so far are all
  pub none_more : starts (items.more s) (drop at ts) ≡ false → GivesPart ts (λ (x : List A). x) (Ok (so_far, at)) whole
  none_more none = grind (arith, from_none, append-nil)

  -- an item begins and isn't read: nothing is
  pub no_item : (error : ReadError) → starts (items.more s) (drop at ts) ≡ true → Fails ts error ((items.item s).read (drop at ts)) → Fails ts error whole
  no_item error begins e = grind (arith, from_stop)

-- an item that was read took a token: fewer are left
pub fewer : {A B : Type 0} {goes_on : Lexeme → Bool} {items : Items A} → AreApart goes_on items → (view : B → A) (ts : List Lexeme) (s : items.State) (at : ℕ) (x : B × ℕ)
    → starts (items.more s) (drop at ts) ≡ true → GivesPart ts view (Ok x) ((items.item s).read (drop at ts)) → length ts - x.1 < length ts - at
fewer h view ts s at x begins e = omega (arith, takes h s (drop at ts) (view x.0) (drop x.1 ts) begins e, length-drop at ts, length-drop x.1 ts)
