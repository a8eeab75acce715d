-- A text that is read piece by piece: what is read and what is left are the text, and at the end nothing is left.
use Rattle.std.proofs.Common.{◌≡◌, ℕ, ◌+◌, ◌<◌, ◌≤◌, List, [], ◌∷◌, ◌++◌, length, take, drop, Option, Some, None, option_map, IfSome, Result, Ok, Err, cond, refl, sym, ap, ◌∙◌, arith, append_assoc, append-nil, le-leb, take-add}
use Rattle.std.proofs.Math.Seq.{drop-nil, drop-length}
use Rattle.std.proofs.lemmas.List.{take-append-drop, drop-drop}
use Rattle.dump_ports.specs.Tree.{FillsFront}
use Rattle.dump_ports.specs.Whole.{within}

-- the piece that was read joins the text
pub next_piece : (text whole buffer : List ℕ) (len n : ℕ) → len ≡ length text → text ++ drop len whole ≡ whole → FillsFront (drop len whole) buffer n → (len' : ℕ) → len' ≡ len + n → (text ++ take n buffer) ++ drop len' whole ≡ whole
next_piece text whole buffer len n l h f len' l' =
    rw (f.front, l', ← drop-drop n len whole, append_assoc, take-append-drop n (drop len whole)) h

-- a read of nothing into a buffer that isn't empty: nothing is left
pub nothing_left : (left buffer : List ℕ) (n : ℕ) → FillsFront left buffer n → 0 < length buffer → n ≡ 0 → left ≡ []
nothing_left [] buffer n f b e = refl
nothing_left (x ∷ left) buffer n f b e = let some : 0 < n = f.some b (omega arith) in absurd (omega arith)

pub all_read : (text whole buffer : List ℕ) (len n : ℕ) → text ++ drop len whole ≡ whole → FillsFront (drop len whole) buffer n → 0 < length buffer → n ≡ 0 → whole ≡ text
all_read text whole buffer len n h f b e =
    let none = nothing_left (drop len whole) buffer n f b e in
    sym h ∙ ap (λ rest. text ++ rest) none ∙ append-nil text

pub within_limit : (text whole : List ℕ) (limit : ℕ) → whole ≡ text → length text ≤ limit → within limit whole ≡ Ok text
within_limit text whole limit e l =
    rw e (ap (λ b. cond {A = Result (List ℕ) ℕ} b (Ok text) (Err (limit + 1))) (le-leb (length text) limit l))

-- the whole is read, wherever it is told
pub read_whole_text : (o : Option (List ℕ)) (text buffer : List ℕ) (len n limit : ℕ) → IfSome o (λ whole. text ++ drop len whole ≡ whole) → IfSome (option_map (λ whole. drop len whole) o) (λ left. FillsFront left buffer n) → 0 < length buffer → n ≡ 0 → length text ≤ limit → IfSome o (λ whole. within limit whole ≡ Ok text)
read_whole_text None text buffer len n limit h f b e l = tt
read_whole_text (Some whole) text buffer len n limit h f b e l =
    within_limit text whole limit (all_read text whole buffer len n h f b e) l

-- and then nothing is left
pub read_to_end : (o : Option (List ℕ)) (buffer : List ℕ) (len n : ℕ) → IfSome (option_map (λ whole. drop len whole) o) (λ left. FillsFront left buffer n) → 0 < length buffer → n ≡ 0 → option_map (λ left. drop n left) (option_map (λ whole. drop len whole) o) ≡ option_map (λ whole. drop (length whole) whole) o
read_to_end None buffer len n f b e = refl
read_to_end (Some whole) buffer len n f b e =
    ap Some (rw (nothing_left (drop len whole) buffer n f b e) (drop-nil n ∙ sym (drop-length whole)))

-- what is read and what is left are the text after one more piece, wherever the text is told
pub next_told : {A : Type 0} (o : Option A) (f : A → List ℕ) (text new buffer piece : List ℕ) (len n len' : ℕ) → IfSome o (λ t. text ++ drop len (f t) ≡ f t) → IfSome o (λ t. FillsFront (drop len (f t)) buffer n) → new ≡ text ++ piece → piece ≡ take n buffer → len ≡ length text → len' ≡ len + n → IfSome o (λ t. new ++ drop len' (f t) ≡ f t)
next_told None f text new buffer piece len n len' h r e p l l' = tt
next_told (Some t) f text new buffer piece len n len' h r e p l l' =
    rw (e, p) (next_piece text (f t) buffer len n l h r len' l')

-- the same over what a source has left
pub left_told : (o : Option (List ℕ)) (len n : ℕ) (buffer : List ℕ) → IfSome (option_map (λ whole. drop len whole) o) (λ left. FillsFront left buffer n) → IfSome o (λ whole. FillsFront (drop len whole) buffer n)
left_told None len n buffer h = tt
left_told (Some whole) len n buffer h = h

pub drop_twice : (o : Option (List ℕ)) (len n : ℕ) → option_map (λ left. drop n left) (option_map (λ whole. drop len whole) o) ≡ option_map (λ whole. drop (len + n) whole) o
drop_twice None len n = refl
drop_twice (Some whole) len n = ap Some (drop-drop n len whole)

-- more is written after what is written already
pub more_written : (o before after : Option (List ℕ)) (bytes piece : List ℕ) (done n : ℕ) → before ≡ option_map (λ text. text ++ take done bytes) o → after ≡ option_map (λ text. text ++ take n piece) before → piece ≡ drop done bytes → after ≡ option_map (λ text. text ++ take (done + n) bytes) o
more_written None before after bytes piece done n b a p = rw b at a
more_written (Some text) before after bytes piece done n b a p =
    (rw b at a) ∙ ap Some (append_assoc text (take done bytes) (take n piece) ∙ ap (λ more. text ++ more) (rw p (sym (take-add done n bytes))))
