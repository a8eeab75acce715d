-- The key's number is marked.
use Rattle.std.proofs.Common.{◌≡◌, ℕ, true, set, length, ap, ◌∙◌, ◌<◌, sym, arith}
use Rattle.key_sets.specs.Numbers.{has, is_numbered, number_of}
use Rattle.key_sets.proofs.HoldingLaws.{marked}
use Rattle.key_sets.proofs.key_set.KeySet.insert_number.Goals as goal

pub returns-clause-added : goal.returns-clause-added
returns-clause-added c = λ yes q.
    let marks = c.args.self.now.numbered.items in
    let key = c.args.key.now in
    let place = c.in-Some.ensures in
    let many : c.len.result ≡ length marks = omega arith in
    let is : is_numbered (length marks) key ≡ true = ap (λ (n : ℕ). is_numbered n key) (sym many) ∙ place.0 in
    let below : number_of key < length marks = omega arith in
    ap (λ (n : ℕ). has (set marks n true) c.args.self.now.others q) place.1
    ∙ marked marks c.args.self.now.others key q is below
