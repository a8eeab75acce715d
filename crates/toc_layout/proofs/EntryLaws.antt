-- The laws of an entry's fields, and of the whole.
use Rattle.std.proofs.Common.{[], Bool, true, false, pos, Some, decimal, codes}
use Rattle.std.specs.Prelude.{option_map, option_and_then, unwrap_or}
use Rattle.std.specs.Int.{w64}
use Rattle.toc_parts.specs.declared.fault.FieldFault.TheVariants as fields
use Rattle.toc_parts.specs.Parts.{◌then◌}
use Rattle.toc_parts.specs.Fields.{byte, number, integer, string, number_in}
use Rattle.toc_parts.specs.Laws.{Lawful, TakesByte}
use Rattle.toc_parts.proofs.Simple.{then_laws, seen_laws, understood_laws, raised_laws, then_some, seen_some, understood_some, raised_some}
use Rattle.toc_parts.proofs.FieldLaws.{byte_laws, number_laws, integer_laws, string_laws, integer_some, string_some}
use Rattle.toc_parts.proofs.Repeated.{listed_laws}
use Rattle.toc_entry.specs.declared.entry.Extra.TheVariants.{Place, File}
use Rattle.toc_layout.specs.declared.fault.EntryHalt.TheVariants.{Short, BadSection, BadState}
use Rattle.toc_layout.specs.Faults.{in_entry}
use Rattle.toc_layout.specs.Entries.{whole, optional, text, bad_number, id_of, dump_id, is_set, shown_flag, flag, oid, section_of, section, unread, dependency_of, dependency, dependencies, state_of, state, place_of, name_of, extra, identity, labels, three, setting, behind_texts, body, body_of, entry_of, entry}

pub whole_laws : Lawful whole
whole_laws = raised_laws in_entry (integer fields.Short) (integer_laws fields.Short)

whole_some : TakesByte whole
whole_some = raised_some in_entry (integer fields.Short) (integer_some fields.Short)

pub optional_laws : Lawful optional
optional_laws = raised_laws in_entry string string_laws

optional_some : TakesByte optional
optional_some = raised_some in_entry string string_some

text_laws : Lawful text
text_laws = seen_laws (λ v. unwrap_or v []) Some optional optional_laws

pub dump_id_laws : Lawful dump_id
unfolding dump_id
dump_id_laws = understood_laws id_of pos bad_number whole whole_laws

pub dump_id_some : TakesByte dump_id
unfolding dump_id
dump_id_some = understood_some id_of pos bad_number whole whole_some

flag_laws : Lawful flag
flag_laws = seen_laws is_set shown_flag whole whole_laws

oid_laws : Lawful oid
unfolding oid
oid_laws = understood_laws (λ v. option_and_then number_in v) (λ n. Some (decimal n)) bad_number optional optional_laws

section_laws : Lawful section
unfolding section
section_laws = understood_laws section_of pos (λ v left. BadSection left) whole whole_laws

unread_laws : Lawful unread
unread_laws = seen_laws (λ v. tt) (λ v. Some (codes "false")) optional optional_laws

pub dependency_laws : Lawful dependency
unfolding dependency
dependency_laws = understood_laws dependency_of (λ v. option_map decimal v) bad_number optional optional_laws

pub dependency_some : TakesByte dependency
unfolding dependency
dependency_some = understood_some dependency_of (λ v. option_map decimal v) bad_number optional optional_some

dependencies_laws : Lawful dependencies
dependencies_laws = listed_laws dependency dependency_laws dependency_some

state_laws : Lawful state
state_laws = understood_laws state_of (λ n. n) (λ v left. BadState left) (byte Short) (byte_laws Short)

extra_laws : (directory : Bool) → Lawful (extra directory)
unfolding extra
extra_laws false = seen_laws (λ x. Place x.0 x.1) place_of (state then number Short w64) (then_laws state (number Short w64) state_laws (number_laws Short w64))
extra_laws true = seen_laws File name_of text text_laws

identity_laws : Lawful identity
identity_laws = then_laws flag (oid then oid) flag_laws (then_laws oid oid oid_laws oid_laws)

labels_laws : Lawful labels
labels_laws = then_laws text (text then section) text_laws (then_laws text section text_laws section_laws)

three_laws : Lawful three
three_laws = then_laws optional (optional then optional) optional_laws (then_laws optional optional optional_laws optional_laws)

setting_laws : Lawful setting
setting_laws = then_laws three (optional then unread) three_laws (then_laws optional unread optional_laws unread_laws)

behind_texts_laws : (directory : Bool) → Lawful (behind_texts directory)
behind_texts_laws directory =
    then_laws setting (dependencies then extra directory) setting_laws (then_laws dependencies (extra directory) dependencies_laws (extra_laws directory))

pub body_laws : (directory : Bool) → Lawful (body directory)
unfolding body
body_laws directory =
    then_laws identity (labels then (three then behind_texts directory)) identity_laws
    (then_laws labels (three then behind_texts directory) labels_laws
    (then_laws three (behind_texts directory) three_laws (behind_texts_laws directory)))

pub entry_laws : (directory : Bool) → Lawful (entry directory)
entry_laws directory = seen_laws entry_of (λ e. (e.dump_id, body_of e)) (dump_id then body directory) (then_laws dump_id (body directory) dump_id_laws (body_laws directory))

pub entry_some : (directory : Bool) → TakesByte (entry directory)
entry_some directory = seen_some entry_of (λ e. (e.dump_id, body_of e)) (dump_id then body directory) (then_some dump_id (body directory) dump_id_some)
