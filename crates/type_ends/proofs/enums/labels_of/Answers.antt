use Rattle.std.proofs.Common.{ap, ◌∙◌}
use Rattle.oid_groups.specs.Groups.{group_of}
use Rattle.type_ends.specs.Enums.{labels_at}
use Rattle.type_ends.proofs.LabelsAt.{labels_of_enum}
use Rattle.type_ends.proofs.enums.labels_of.Goals as goal

pub returns : goal.returns
returns c =
    let cat = c.args.cat.now in
    let oid = c.args.oid in
    c.new.ensures
    ∙ c.in_ok-labels.ensures
    ∙ ap (λ rows. labels_at rows c.group.result.now) c.as_slice.ensures
    ∙ ap (labels_at cat.pg_enum) (c.group.ensures ∙ ap (λ keys. group_of keys oid) c.requires)
    ∙ labels_of_enum cat oid
