use Rattle.std.proofs.Common.{◌+◌, refl, ◌∙◌}
use Rattle.std.specs.Option.{option_map}
use Rattle.plain_rows.proofs.FieldSteps.{next_field}
use Rattle.plain_rows.proofs.fitting.fields_fit.Goals as goal

pub loop-i-preserved : goal.loop-i-preserved
loop-i-preserved c = λ primary row marked.
    c.loop-i.invariant primary row marked
    ∙ next_field primary row (λ f. option_map (λ t. t.now) f) c.args.columns.now c.args.required.now c.args.fields.now c.loop-i.i (c.loop-i.i + 1) c.index-columns-i.result _ _ c.loop-i-test.true c.requires.fields marked c.index-columns-i.is (c.if-not-field_fits.ensures refl)
