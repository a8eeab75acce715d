use Rattle.std.proofs.Common.{rules, option_map, is_some, ap, sym, ◌∙◌}
use Rattle.std.specs.FinMap.{insert}
use Rattle.dump_ports.specs.Memory.{seen}
use Rattle.dump_ports.proofs.Seen.{text_seen, set_seen}
use Rattle.dump_ports.proofs.texts.clear_text.Goals as goal

pub returns-in-Some-clause-there : goal.returns-in-Some-clause-there
returns-in-Some-clause-there c =
    sym (ap is_some (text_seen c.args.texts.now c.args.name.now ∙ ap (option_map (λ text. text.items)) (sym c.in-Some.ensures.value)))

pub returns-in-Some-clause-after : goal.returns-in-Some-clause-after
returns-in-Some-clause-after c =
    let text = c.clear.new.self in
    set_seen c.args.texts.now (c.get_mut.follows.lender text) c.args.name.now text ((c.get_mut.follows.holds text).3 (search rules))
    ∙ ap (insert (seen c.args.texts.now) c.args.name.now) c.clear.ensures.items

pub returns-in-None-clause-there : goal.returns-in-None-clause-there
returns-in-None-clause-there c =
    sym (ap is_some (text_seen c.args.texts.now c.args.name.now ∙ ap (option_map (λ text. text.items)) (sym c.in-None.ensures.value)))
