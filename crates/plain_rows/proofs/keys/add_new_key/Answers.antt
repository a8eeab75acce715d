-- The set has one key more.
use Rattle.std.proofs.Common.{Bool, ap, ◌||◌, ◌∙◌}
use Rattle.std.specs.Cmp.Lexicographic.{nat_list_eq_equiv}
use Rattle.std.specs.List.{list_any}
use Rattle.cat_model.specs.Lexemes.{same_text}
use Rattle.plain_rows.proofs.keys.add_new_key.Goals as goal

pub returns-clause-added : goal.returns-clause-added
returns-clause-added c = λ known are q.
    c.in_ok-insert.ensures.added q
    ∙ ap (λ (b : Bool). same_text c.args.key.now q || b) (are q)
    ∙ ap (λ (b : Bool). b || list_any (same_text q) known) (nat_list_eq_equiv.symm c.args.key.now q)
