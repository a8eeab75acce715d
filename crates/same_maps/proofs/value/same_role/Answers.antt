use Rattle.std.proofs.Common.{Bool, List, true≢false, sym, ap, ◌∙◌, w64, rules}
use Rattle.std.specs.Bool.{beq}
use Rattle.std.specs.Cmp.Lexicographic.{pointwise}
use Rattle.std.proofs.lemmas.Int.{to_z-of_z}
use Rattle.cat_model.specs.declared.value.Role.{Role}
use Rattle.same_maps.specs.Flags.{role_flags}
use Rattle.same_maps.proofs.Flags.{same_attributes}
use Rattle.same_maps.proofs.value.same_role.Goals as goal
use Rattle.same_maps.proofs.value.same_role.Goals.{then-eq, else-eq, then-same_number, else-same_number}

pub returns-then-same_text_or_none : goal.returns-then-same_text_or_none
returns-then-same_text_or_none c =
    elim c.if-same_number.branch [
      | then-same_number w ↦ elim c.if-eq.branch [
        | then-eq v ↦
            let a = c.args.a.now in
            let b = c.args.b.now in
            let flags = ap (λ (fs : List Bool). pointwise beq fs (role_flags b)) (sym c.role_flags.ensures) ∙ ap (pointwise beq c.role_flags.result) (sym c.role_flags-2.ensures) ∙ sym c.eq.ensures ∙ v.if-eq.true in
            let limit = sym (to_z-of_z w64 a.limit (search rules)) ∙ v.same_number.ensures.0 (sym v.value-is ∙ w.if-same_number.true) ∙ to_z-of_z w64 b.limit (search rules) in
            let password = w.same_text_or_none.ensures.0 (sym w.value-is ∙ c.if-same_text_or_none.true) in (
              λ yes. same_attributes a b flags limit password (c.same_text_or_none-then-same_text_or_none.ensures.0 yes),
              λ same. c.same_text_or_none-then-same_text_or_none.ensures.1 (ap (λ (r : Role). r.valid_until) same),
            )
        | else-eq v ↦ absurd (true≢false (sym w.if-same_number.true ∙ v.value-is ∙ v.if-eq.false))
      ]
      | else-same_number w ↦ absurd (true≢false (sym c.if-same_text_or_none.true ∙ w.value-is ∙ w.if-same_number.false))
    ]
