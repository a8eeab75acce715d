use Rattle.std.proofs.Common.{Some, ap, sym, ◌∙◌, option_map}
use Rattle.dump_ports.proofs.Seen.{text_seen}
use Rattle.dump_ports.proofs.texts.text_of.Goals as goal

pub returns-in-Some : goal.returns-in-Some
returns-in-Some c =
    ap Some c.as_slice.ensures.value
    ∙ sym (text_seen c.args.texts.now c.args.name.now ∙ ap (option_map (λ text. text.items)) (sym c.in-Some.ensures.value))

pub returns-in-None : goal.returns-in-None
returns-in-None c = sym (text_seen c.args.texts.now c.args.name.now ∙ ap (option_map (λ text. text.items)) (sym c.in-None.ensures.value))
