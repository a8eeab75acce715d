use Rattle.std.proofs.Common.{◌≡◌, ℕ, ◌++◌, List, [], ◌∷◌, Bor, false, sym, subst}
use Rattle.std.proofs.lemmas.Bool.{false_from_ne_true, eqb-true}
use Rattle.acl_text.specs.Acls.{quoted_name}
use Rattle.acl_text.proofs.ReadingLemmas.{name_before, name_before-nil, name_double, name_end, name_byte, name_open}
use Rattle.acl_text.proofs.reading.read_quoted.Goals as goal
use Rattle.acl_text.proofs.reading.read_quoted.Goals.{then-byte-eq34+in-Some-after, else-byte-eq34}

pub loop-byte-init : goal.loop-byte-init
loop-byte-init c = rw c.new-name.ensures.items (sym (name_before-nil (quoted_name false c.args.text.now)))

pub loop-byte-preserved : goal.loop-byte-preserved
loop-byte-preserved c =
    let text = c.loop-byte.rest.now in
    let whole = quoted_name false c.args.text.now in
    let bytes = c.loop-byte.name.items in
    let b = c.in-Some.byte in
    let here : text ≡ b ∷ c.in-Some.behind.now = c.in-Some.ensures in
    let P : List ℕ → Type 0 = λ rest. whole ≡ name_before (bytes ++ b ∷ []) (quoted_name false rest) in
    let step : P c.if-byte-eq34.rest.now = elim c.if-byte-eq34.branch [
      | then-byte-eq34+in-Some-after w ↦ let Q : Bor (List ℕ) → Type 0 = λ r. P r.now in subst Q (sym w.rest-is) (name_double text c.in-Some.behind.now w.in-Some-after.more.now bytes b whole here w.if-byte-eq34.true w.in-Some-after.ensures c.loop-byte.invariant)
      | else-byte-eq34 w ↦ let Q : Bor (List ℕ) → Type 0 = λ r. P r.now in subst Q (sym w.rest-is) (name_byte text c.in-Some.behind.now bytes b whole here (false_from_ne_true _ (λ is. w.if-byte-eq34.false (eqb-true b 34 is))) c.loop-byte.invariant)
    ] in
    rw c.in_ok-push.ensures.items step

pub returns-in-None : goal.returns-in-None
returns-in-None c =
    name_end c.loop-byte.rest.now c.in-Some.behind.now c.loop-byte.name.items c.in-Some.byte (quoted_name false c.args.text.now) c.in-Some.ensures c.if-byte-eq34.true c.in-None.ensures c.loop-byte.invariant

pub returns : goal.returns
returns c = name_open c.loop-byte.rest.now c.loop-byte.name.items (quoted_name false c.args.text.now) c.in_default.ensures c.loop-byte.invariant
