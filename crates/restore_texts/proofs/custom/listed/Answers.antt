use Rattle.std.proofs.Common.{◌++◌, ℕ, List, ap, ◌∙◌}
use Rattle.toc_layout.specs.Heads.{head_seen}
use Rattle.list_files.specs.Lists.{list_text, entries_at}
use Rattle.restore_texts.proofs.custom.listed.Goals as goal

pub returns : goal.returns
returns c = λ custom holds.
    c.in_ok-list_of.ensures.ok
    ∙ ap (λ (t : List ℕ). t ++ list_text (head_seen c.head.result.now) (entries_at c.entries.result.now c.args.places.now)) c.new-text.ensures.items
    ∙ (λ i. list_text (c.head.ensures custom holds i) (entries_at (c.entries.ensures custom holds i) c.args.places.now))
