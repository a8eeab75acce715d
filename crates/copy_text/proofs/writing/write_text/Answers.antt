use Rattle.std.proofs.Common.{◌++◌, ◌∷◌, [], List, ℕ, ap, sym, ◌∙◌}
use Rattle.copy_text.specs.Marks.{backslash}
use Rattle.copy_text.proofs.WriteLemmas.{spell_more, spell_plain, extends_more, appended_ok}
use Rattle.copy_text.proofs.writing.write_text.Goals as goal

pub loop-at-preserved : goal.loop-at-preserved
loop-at-preserved c =
    let out = c.loop-at.out.items in
    let run = c.split_at.result.0.now in
    let text = spell_more out c.loop-at.rest.now c.split_at.result.1.now c.in-Some.at c.letter.result (sym c.first_escaped.ensures ∙ c.in-Some.is) c.split_at.ensures.back c.letter.ensures in
    let first = extends_more c.args.out.now.items out c.extend_from_slice.new.self.items run c.loop-at.invariant.1 c.in_ok-extend_from_slice.ensures.items in (
      rw (c.in_ok-extend_from_slice-2.ensures.items, c.in_ok-extend_from_slice.ensures.items, c.split_at.ensures.front, c.split_at-in-Some.ensures.back) (text ∙ c.loop-at.invariant.0),
      extends_more c.args.out.now.items c.extend_from_slice.new.self.items c.extend_from_slice-in-Some.new.self.items (backslash ∷ c.letter.result ∷ []) first c.in_ok-extend_from_slice-2.ensures.items,
    )

pub returns-clause-ok : goal.returns-clause-ok
returns-clause-ok c =
    let plain = spell_plain c.loop-at.rest.now (sym c.first_escaped.ensures ∙ c.in_default.is) in
    appended_ok c.extend_from_slice-2.result c.extend_from_slice-2.new.self.items c.loop-at.out.items c.loop-at.rest.now _ c.extend_from_slice-2.ensures.items (ap (λ (xs : List ℕ). c.loop-at.out.items ++ xs) (sym plain) ∙ c.loop-at.invariant.0)
