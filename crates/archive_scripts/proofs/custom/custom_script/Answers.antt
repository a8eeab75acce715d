use Rattle.std.proofs.Common.{◌++◌, ℕ, List, ap, ◌∙◌}
use Rattle.fmt_text.specs.Script.{script_end}
use Rattle.archive_scripts.specs.Scripts.{head_text, parts_at, custom_rows, custom_script}
use Rattle.archive_scripts.proofs.custom.custom_script.Goals as goal

pub returns : goal.returns
unfolding custom_script
returns c = λ custom holds.
    c.in_ok-put_end.ensures.ok
    ∙ ap (λ (t : List ℕ). t ++ script_end)
    (c.in_ok-put_all.ensures custom holds
    ∙ ap (λ (t : List ℕ). t ++ parts_at c.args.owners custom.entries (custom_rows custom) c.args.places.now)
    (c.in_ok-put_front.ensures custom holds ∙ ap (λ (t : List ℕ). t ++ head_text custom.head) c.new-text.ensures.items))
