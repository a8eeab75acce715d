-- The last two tokens of a run.
use Rattle.ddl_pieces.proofs.Common.{◌≡◌, ◌+◌, ◌-◌, ◌≤◌, ℕ, List, ◌&&◌, take, drop, codes, ap, ◌∙◌, arith, drop-take, Lexeme, is_word, starts, are_not_null}
use Rattle.std.proofs.Common.{drop-drop, sym}

last_two : (ts : List Lexeme) (from end : ℕ) → from + 2 ≤ end → drop (end - from - 2) (take (end - from) (drop from ts)) ≡ take 2 (drop (end - 2) ts)
last_two ts from end le =
    ap (λ n. drop (end - from - 2) (take n (drop from ts))) (let e : end - from ≡ (end - from - 2) + 2 = omega arith in e)
    ∙ drop-take (end - from - 2) 2 (drop from ts)
    ∙ ap (take 2) (drop-drop (end - from - 2) from ts)
    ∙ ap (λ n. take 2 (drop n ts)) (let e : from + (end - from - 2) ≡ end - 2 = omega arith in e)

-- a run ends with NOT NULL where these two stand before its end
pub ends_null : (ts : List Lexeme) (from end : ℕ) → from + 2 ≤ end → are_not_null (drop (end - from - 2) (take (end - from) (drop from ts))) ≡ (starts (is_word (codes "not")) (drop (end - 2) ts) && starts (is_word (codes "null")) (drop (end - 1) ts))
ends_null ts from end le =
    let last : drop (end - 1) ts ≡ drop 1 (drop (end - 2) ts) = ap (λ n. drop n ts) (let e : end - 1 ≡ end - 2 + 1 = omega arith in e) ∙ sym (drop-drop 1 (end - 2) ts) in
    rw (last_two ts from end le, last) (grind arith)
