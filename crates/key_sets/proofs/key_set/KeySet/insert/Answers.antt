-- The key is marked, or among the others.
use Rattle.std.proofs.Common.{◌≡◌, ℕ, Bool, List, true, set, length, sym, ap, ◌∙◌, ◌<◌, arith}
use Rattle.std.specs.Borrow.{Bor}
use Rattle.key_sets.specs.Numbers.{has, is_numbered, number_of}
use Rattle.key_sets.proofs.HoldingLaws.{marked, hashed}
use Rattle.key_sets.proofs.key_set.KeySet.insert.Goals as goal

pub returns-in-Some-clause-added : goal.returns-in-Some-clause-added
returns-in-Some-clause-added c = λ q.
    let marks = c.args.self.now.numbered.items in
    let key = c.args.key.now in
    let place = c.in-Some.ensures in
    let many : c.len.result ≡ length marks = omega arith in
    let is : is_numbered (length marks) key ≡ true = ap (λ (n : ℕ). is_numbered n key) (sym many) ∙ place.0 in
    let below : number_of key < length marks = omega arith in
    ap (λ (ns : List Bool). has ns c.args.self.now.others q) (c.mark.ensures.marked ∙ ap (λ (n : ℕ). set marks n true) place.1)
    ∙ marked marks c.args.self.now.others key q is below

pub returns-in_ok-insert-in-None-clause-added : goal.returns-in_ok-insert-in-None-clause-added
returns-in_ok-insert-in-None-clause-added c = λ q.
    let marks = c.args.self.now.numbered.items in
    let key = c.args.key.now in
    let many : c.len.result ≡ length marks = omega arith in
    let at : Bor (List ℕ) = record { ref_ptr = (0, 0); now = q } in
    hashed marks c.args.self.now.others c.insert.new.self key q (ap (λ (n : ℕ). is_numbered n key) (sym many) ∙ c.in-None.ensures) (c.in_ok-insert-in-None.ensures.updates.0 at)
