use Rattle.std.proofs.Common.{◌≡◌, ◌++◌, ℕ, List, OnOk, subst}
use Rattle.archive_scripts.proofs.Heads.{head_is}
use Rattle.archive_scripts.proofs.custom.put_front.Goals as goal

pub returns : goal.returns
returns c = λ custom holds.
    let P : List ℕ → Type 0 = λ (t : List ℕ). OnOk c.put_head.result (c.put_head.new.out.items ≡ c.args.out.now.items ++ t) in
    subst P (head_is c.head.result.now custom.head (c.head.ensures custom holds)) c.put_head.ensures.ok
