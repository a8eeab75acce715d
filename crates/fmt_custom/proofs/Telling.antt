-- Entries are told the places of their blocks one after another.
use Rattle.std.proofs.Common.{◌≡◌, ℕ, zero, suc, ◌+◌, ◌<◌, Bool, true, false, List, [], ◌∷◌, length, get_or, refl, sym, ap, ◌∙◌, arith, add-one}
use Rattle.std.proofs.Math.ListN.{set}
use Rattle.toc_entry.specs.declared.entry.Entry.{Entry}
use Rattle.fmt_custom.specs.Stored.{Stored, entries_of, place_behind, placed_by, placed, placed_at, first_placed, place_of}
use Rattle.fmt_custom.specs.Writing.{placed_entry}

-- an entry as it is by whether it has rows
abbrev with : Bool → ℕ → Entry → Entry
with b at e = record e { extra = placed_by b at e.extra }

told_next : (k at : ℕ) (ss : List Stored) (e : Entry) → k < length ss → (get_or (entries_of ss) k e).has_rows ≡ true
    → set (entries_of (first_placed k at ss)) k (placed_entry (place_of k at ss) (get_or (entries_of (first_placed k at ss)) k e)) ≡ entries_of (first_placed (suc k) at ss)
told_next k at [] e low is = absurd (omega arith)
told_next zero at (s ∷ ss) e low is = ap (λ (b : Bool). with b at s.entry ∷ entries_of ss) (sym is)
told_next (suc k) at (s ∷ ss) e low is = ap (λ (es : List Entry). (placed at s).entry ∷ es) (told_next k (place_behind at s) ss e (omega arith) is)

none_next : (k at : ℕ) (ss : List Stored) (e : Entry) → k < length ss → (get_or (entries_of ss) k e).has_rows ≡ false → entries_of (first_placed (suc k) at ss) ≡ entries_of (first_placed k at ss)
none_next k at [] e low is = absurd (omega arith)
none_next zero at (s ∷ ss) e low is = ap (λ (b : Bool). with b at s.entry ∷ entries_of ss) is
none_next (suc k) at (s ∷ ss) e low is = ap (λ (es : List Entry). (placed at s).entry ∷ es) (none_next k (place_behind at s) ss e (omega arith) is)

pub told : (k at : ℕ) (ss : List Stored) (e : Entry) → k < length ss → (get_or (entries_of ss) k e).has_rows ≡ true
    → set (entries_of (first_placed k at ss)) k (placed_entry (place_of k at ss) (get_or (entries_of (first_placed k at ss)) k e)) ≡ entries_of (first_placed (k + 1) at ss)
told k at ss e low is = told_next k at ss e low is ∙ ap (λ (n : ℕ). entries_of (first_placed n at ss)) (sym (add-one k))

pub none : (k at : ℕ) (ss : List Stored) (e : Entry) → k < length ss → (get_or (entries_of ss) k e).has_rows ≡ false → entries_of (first_placed (k + 1) at ss) ≡ entries_of (first_placed k at ss)
none k at ss e low is = ap (λ (n : ℕ). entries_of (first_placed n at ss)) (add-one k) ∙ none_next k at ss e low is

pub all : (at : ℕ) (ss : List Stored) → first_placed (length ss) at ss ≡ placed_at at ss
all at [] = refl
all at (s ∷ ss) = ap (λ (x : List Stored). placed at s ∷ x) (all (place_behind at s) ss)
