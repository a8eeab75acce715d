-- The laws of a head.
use Rattle.std.proofs.Common.{ℕ, [], Some}
use Rattle.std.specs.Prelude.{unwrap_or}
use Rattle.toc_parts.specs.declared.fault.FieldFault.TheVariants as fields
use Rattle.toc_parts.specs.Parts.{◌then◌}
use Rattle.toc_parts.specs.Fields.{byte, integer, string}
use Rattle.toc_parts.specs.Laws.{Lawful}
use Rattle.toc_parts.proofs.Simple.{then_laws, seen_laws, understood_laws, raised_laws}
use Rattle.toc_parts.proofs.FieldLaws.{byte_laws, integer_laws, string_laws}
use Rattle.toc_layout.specs.declared.fault.HeadHalt.{HeadHalt}
use Rattle.toc_layout.specs.declared.fault.HeadHalt.TheVariants.{Magic, Short, Version, IntSize, OffSize, Compressed}
use Rattle.toc_layout.specs.Faults.{in_head}
use Rattle.toc_layout.specs.Heads.{whole, text, expected, magic, version_of, version, compression, sizes, front, moment, names, head_of, head}

whole_laws : Lawful whole
whole_laws = raised_laws in_head (integer fields.Short) (integer_laws fields.Short)

text_laws : Lawful text
text_laws = seen_laws (λ v. unwrap_or v []) Some _ (raised_laws in_head string string_laws)

expected_laws : (c : ℕ) (fault : HeadHalt) → Lawful (expected c fault)
expected_laws c fault = understood_laws _ _ (λ v left. fault) (byte Short) (byte_laws Short)

magic_laws : Lawful magic
magic_laws =
    then_laws (expected 80 Magic) (expected 71 Magic then (expected 68 Magic then (expected 77 Magic then expected 80 Magic))) (expected_laws 80 Magic)
    (then_laws (expected 71 Magic) (expected 68 Magic then (expected 77 Magic then expected 80 Magic)) (expected_laws 71 Magic)
    (then_laws (expected 68 Magic) (expected 77 Magic then expected 80 Magic) (expected_laws 68 Magic)
    (then_laws (expected 77 Magic) (expected 80 Magic) (expected_laws 77 Magic) (expected_laws 80 Magic))))

version_laws : Lawful version
version_laws = understood_laws version_of _ (λ x left. Version x.0 x.1) (byte Short then byte Short) (then_laws (byte Short) (byte Short) (byte_laws Short) (byte_laws Short))

compression_laws : Lawful compression
compression_laws = understood_laws _ _ (λ c left. Compressed c) (byte Short) (byte_laws Short)

sizes_laws : Lawful sizes
sizes_laws = then_laws (expected 4 IntSize) (expected 8 OffSize) (expected_laws 4 IntSize) (expected_laws 8 OffSize)

front_laws : Lawful front
unfolding front
front_laws =
    seen_laws _ _ (magic then (version then (byte Short then (sizes then (byte Short then compression)))))
    (then_laws magic (version then (byte Short then (sizes then (byte Short then compression)))) magic_laws
    (then_laws version (byte Short then (sizes then (byte Short then compression))) version_laws
    (then_laws (byte Short) (sizes then (byte Short then compression)) (byte_laws Short)
    (then_laws sizes (byte Short then compression) sizes_laws
    (then_laws (byte Short) compression (byte_laws Short) compression_laws)))))

moment_laws : Lawful moment
unfolding moment
moment_laws =
    seen_laws _ _ (whole then (whole then (whole then (whole then (whole then (whole then whole))))))
    (then_laws whole (whole then (whole then (whole then (whole then (whole then whole))))) whole_laws
    (then_laws whole (whole then (whole then (whole then (whole then whole)))) whole_laws
    (then_laws whole (whole then (whole then (whole then whole))) whole_laws
    (then_laws whole (whole then (whole then whole)) whole_laws
    (then_laws whole (whole then whole) whole_laws
    (then_laws whole whole whole_laws whole_laws))))))

names_laws : Lawful names
names_laws = then_laws text (text then text) text_laws (then_laws text text text_laws text_laws)

pub head_laws : Lawful head
unfolding head
head_laws = seen_laws head_of _ (front then (moment then names)) (then_laws front (moment then names) front_laws (then_laws moment names moment_laws names_laws))
