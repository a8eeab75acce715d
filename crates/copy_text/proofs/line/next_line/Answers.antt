use Rattle.std.proofs.Common.{◌≡◌, ◌+◌, List, ℕ, true, false, sym, subst, ◌∙◌, arith}
use Rattle.std.specs.Str.{bytes_eq}
use Rattle.copy_text.specs.Marks.{end_mark}
use Rattle.copy_text.proofs.LineLemmas.{line_ends, line_stops, line_row}
use Rattle.copy_text.proofs.line.next_line.Goals as goal

pub returns-then-at-text : goal.returns-then-at-text
returns-then-at-text c =
    let both = line_ends c.args.text.now c.args.at c.if-at-text.true in
    record { line = both.0; exact = both.1 }

pub returns-then-eq : goal.returns-then-eq
returns-then-eq c =
    let is : bytes_eq c.split_at-2.result.0.now end_mark ≡ true = subst (λ (xs : List ℕ). bytes_eq c.split_at-2.result.0.now xs ≡ true) c.as_slice.ensures (sym c.eq.ensures ∙ c.if-eq.true) in
    let both = line_stops c.args.text.now c.args.at c.requires c.if-at-text.false c.split_at.result.1.now c.split_at-2.result.0.now c.line_len-len.result c.split_at.ensures.back c.line_len-len.ensures.value c.split_at-2.ensures.front is in
    record { line = both.0; exact = both.1 }

pub returns-then-end-text : goal.returns-then-end-text
returns-then-end-text c =
    let other : bytes_eq c.split_at-2.result.0.now end_mark ≡ false = subst (λ (xs : List ℕ). bytes_eq c.split_at-2.result.0.now xs ≡ false) c.as_slice.ensures (sym c.eq.ensures ∙ c.if-eq.false) in
    let both = line_row c.args.text.now c.args.at c.requires c.if-at-text.false c.split_at.result.1.now c.split_at-2.result.0.now c.line_len-len.result c.split_at.ensures.back c.line_len-len.ensures.value c.split_at-2.ensures.front (c.args.at + c.line_len-len.result + 1) other (omega arith) in
    record { line = both.0; exact = both.1 }

pub returns-else-end-text : goal.returns-else-end-text
returns-else-end-text c =
    let other : bytes_eq c.split_at-2.result.0.now end_mark ≡ false = subst (λ (xs : List ℕ). bytes_eq c.split_at-2.result.0.now xs ≡ false) c.as_slice.ensures (sym c.eq.ensures ∙ c.if-eq.false) in
    let both = line_row c.args.text.now c.args.at c.requires c.if-at-text.false c.split_at.result.1.now c.split_at-2.result.0.now c.line_len-len.result c.split_at.ensures.back c.line_len-len.ensures.value c.split_at-2.ensures.front (c.args.at + c.line_len-len.result) other (omega (arith, c.line_len-len.ensures.within, c.split_at.ensures.back_len)) in
    record { line = both.0; exact = both.1 }
