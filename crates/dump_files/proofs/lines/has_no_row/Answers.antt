use Rattle.std.proofs.Common.{◌≡◌, ◌<◌, Bool, List, [], ◌∷◌, ℕ, eqb, true, false, ◌∙◌, length, sym, subst, arith}
use Rattle.std.specs.Str.{bytes_eq}
use Rattle.dump_files.proofs.LineLemmas.{read_last, read_last_stop, read_empty}
use Rattle.std.proofs.lemmas.List.{nil_from_length}
use Rattle.std.proofs.lemmas.Bool.{eqb-true, false≢true}
use Rattle.dump_files.proofs.lines.has_no_row.Goals as goal

pub returns-then-is_empty-clause-none : goal.returns-then-is_empty-clause-none
returns-then-is_empty-clause-none c = λ _. read_empty c.args.line.now (nil_from_length c.args.line.now (eqb-true _ _ (sym c.is_empty.ensures ∙ c.if-is_empty.true)))

some : (line : List ℕ) (b : Bool) → b ≡ eqb (length line) 0 → b ≡ false → 0 < length line
some [] b is not_so = absurd (false≢true (sym not_so ∙ is))
some (x ∷ line) b is not_so = omega arith

pub returns-clause-some : goal.returns-clause-some
returns-clause-some c = λ _. some c.args.line.now c.is_empty.result c.is_empty.ensures c.if-is_empty.false

pub returns-clause-none : goal.returns-clause-none
returns-clause-none c = λ is.
    read_last_stop c.args.line.now (some c.args.line.now c.is_empty.result c.is_empty.ensures c.if-is_empty.false) c.requires
    (subst (λ (xs : List ℕ). bytes_eq c.args.line.now xs ≡ true) c.as_slice.ensures (sym c.eq.ensures ∙ is))

pub returns-clause-one : goal.returns-clause-one
returns-clause-one c = λ isnt.
    read_last c.args.line.now (some c.args.line.now c.is_empty.result c.is_empty.ensures c.if-is_empty.false) c.requires
    (subst (λ (xs : List ℕ). bytes_eq c.args.line.now xs ≡ false) c.as_slice.ensures (sym c.eq.ensures ∙ isnt))
