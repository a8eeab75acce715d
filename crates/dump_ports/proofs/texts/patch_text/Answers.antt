use Rattle.std.proofs.Common.{rules, ap, sym, ◌∙◌, length, arith}
use Rattle.std.specs.FinMap.{insert}
use Rattle.std.specs.Option.{option_map_or}
use Rattle.std.specs.Vec.{with_items}
use Rattle.std.proofs.lemmas.List.{with_items_is}
use Rattle.dump_ports.specs.Tree.{overwritten}
use Rattle.dump_ports.specs.Memory.{seen}
use Rattle.dump_ports.proofs.Seen.{patched_seen, bytes_seen, none_seen}
use Rattle.dump_ports.proofs.texts.patch_text.Goals as goal

pub overwrite-requires : goal.overwrite-requires
overwrite-requires c =
    omega (arith, ap length (bytes_seen c.args.texts.now c.args.name.now c.in-Some.text.now (sym c.in-Some.ensures.value)), c.deref_mut.ensures.len)

pub returns-in-Some : goal.returns-in-Some
returns-in-Some c =
    let text = with_items c.in-Some.text.now c.overwrite.new.text in
    patched_seen c.args.texts.now (c.get_mut.follows.lender text) c.args.name.now c.args.at c.args.bytes.now c.in-Some.text.now text (sym c.in-Some.ensures.value) ((c.get_mut.follows.holds text).3 (search rules))
    (with_items_is c.in-Some.text.now c.overwrite.new.text (search rules) ∙ c.overwrite.ensures ∙ ap (overwritten c.args.at c.args.bytes.now) c.deref_mut.ensures.value)

pub returns-in_default : goal.returns-in_default
returns-in_default c =
    let old = seen c.args.texts.now in
    ap seen c.get_mut.follows.holds-at-none
    ∙ ap (λ o. option_map_or (λ text. insert old c.args.name.now (overwritten c.args.at c.args.bytes.now text)) o old) (sym (none_seen c.args.texts.now c.args.name.now (sym c.in_default.ensures.value)))
