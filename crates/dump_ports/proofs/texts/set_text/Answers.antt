use Rattle.std.proofs.Common.{string_bytes, ap, ◌∙◌}
use Rattle.std.specs.FinMap.{insert}
use Rattle.dump_ports.specs.Memory.{seen}
use Rattle.dump_ports.proofs.Seen.{set_seen}
use Rattle.dump_ports.proofs.texts.set_text.Goals as goal

pub returns-clause-ok : goal.returns-clause-ok
returns-clause-ok c =
    let old = seen c.args.texts.now in
    let text = c.in_ok-text.text in
    set_seen c.args.texts.now c.insert.new.self (string_bytes c.in_ok-key.key) text c.in_ok-insert.ensures.updates
    ∙ ap (λ name. insert old name text.items) c.in_ok-key.ensures.ok
    ∙ ap (insert old c.args.name.now) c.in_ok-text.ensures.items
