use Rattle.std.proofs.Common.{ℕ, ◌+◌, ◌++◌, false, drop, sym, ap, ◌∙◌, arith}
use Rattle.std.specs.Prelude.{◌==◌}
use Rattle.std.proofs.lemmas.List.{take_rest}
use Rattle.sql_lex.specs.Meaning.{undoubled}
use Rattle.sql_lex.proofs.Scans.{found, not_found}
use Rattle.sql_lex.proofs.Quotes.{undoubled_second, undoubled_other, undoubled_last, undoubled_goes_on}
use Rattle.sql_lex.proofs.meaning.undoubled.Goals as goal

pub pieces-preserved-then-stands : goal.pieces-preserved-then-stands
pieces-preserved-then-stands c =
    let q = c.args.quote in
    let text = c.args.text.now in
    let next : ℕ = c.pieces.at + c.in-Some.len + 1 in
    let f = found (λ b. b == q) text c.pieces.at c.in-Some.len c.in-Some.ensures in
    let room = c.stands.ensures.room c.if-stands.true in
    let second = undoubled_second q text next (sym c.stands.ensures.value ∙ c.if-stands.true) room in
    record {
      whole = undoubled_goes_on q c.in-Some.len text c.pieces.at (next + 1) c.pieces.out.items c.extend_from_slice.new.self.items (undoubled q false text) f c.in_ok-extend_from_slice.ensures.items second c.pieces.invariant.whole;
      high = omega arith;
    }

pub pieces-preserved : goal.pieces-preserved
pieces-preserved c =
    let q = c.args.quote in
    let text = c.args.text.now in
    let next : ℕ = c.pieces.at + c.in-Some.len + 1 in
    let f = found (λ b. b == q) text c.pieces.at c.in-Some.len c.in-Some.ensures in
    let room = f.room in
    let other = undoubled_other q (drop next text) (sym c.stands.ensures.value ∙ c.if-stands.false) in
    record {
      whole = undoubled_goes_on q c.in-Some.len text c.pieces.at next c.pieces.out.items c.extend_from_slice.new.self.items (undoubled q false text) f c.in_ok-extend_from_slice.ensures.items other c.pieces.invariant.whole;
      high = omega arith;
    }

pub returns : goal.returns
returns c =
    let text = c.args.text.now in
    let last = undoubled_last c.args.quote text c.pieces.at (not_found (λ b. b == c.args.quote) text c.pieces.at c.in_default.ensures) in
    c.in_ok-extend_from_slice-2.ensures.items ∙ ap (λ more. c.pieces.out.items ++ more) (take_rest text c.pieces.at ∙ sym last) ∙ c.pieces.invariant.whole
