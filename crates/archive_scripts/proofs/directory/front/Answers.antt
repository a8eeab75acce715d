use Rattle.std.proofs.Common.{◌++◌, ℕ, List, ap, ◌∙◌}
use Rattle.fmt_text.specs.Script.{script_head}
use Rattle.archive_scripts.proofs.Heads.{head_is}
use Rattle.archive_scripts.proofs.directory.front.Goals as goal

pub returns : goal.returns
returns c = λ d holds.
    c.in_ok-put_head.ensures.ok ∙ ap (λ (t : List ℕ). t ++ script_head c.head.result.now) c.new-text.ensures.items ∙ head_is c.head.result.now d.head (c.head.ensures d holds)
