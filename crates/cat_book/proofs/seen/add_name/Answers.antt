use Rattle.std.proofs.Common.{◌≡◌, [], ◌++◌, not, option_map, ap, sym, subst, ◌∙◌}
use Rattle.std.specs.List.{cons_option}
use Rattle.cat_book.specs.Rules.{name_cmp, is_among}
use Rattle.cat_book.specs.Sets.{HoldsSeen, seen_name}
use Rattle.cat_book.proofs.Keyed.{held_has, held_more, not_twice}
use Rattle.cat_book.proofs.seen.add_name.Goals as goal

pub returns-in_ok-add_key-in-Some-clause-again : goal.returns-in_ok-add_key-in-Some-clause-again
returns-in_ok-add_key-in-Some-clause-again c = λ ns h.
    subst (λ n. not c.in_ok-add_key-in-Some.field-0 ≡ is_among name_cmp ns (option_map seen_name n)) (sym c.in-Some.is)
    (ap not c.in_ok-add_key-in-Some.ensures.first ∙ not_twice _ ∙ held_has seen_name name_cmp c.args.names.now ns h c.in-Some.name)

pub returns-in_ok-add_key-in-Some-clause-added : goal.returns-in_ok-add_key-in-Some-clause-added
returns-in_ok-add_key-in-Some-clause-added c = λ ns h.
    subst (λ n. HoldsSeen seen_name name_cmp c.add_key.new.keys (ns ++ cons_option (option_map seen_name n) [])) (sym c.in-Some.is)
    (held_more seen_name name_cmp c.args.names.now c.add_key.new.keys ns c.in-Some.name c.in_ok-add_key-in-Some.ensures.added h)
