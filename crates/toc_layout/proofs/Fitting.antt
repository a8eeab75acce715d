-- Heads and entries of the code's types fit where they can be written.
use Rattle.std.proofs.Common.{◌≡◌, ℕ, zero, suc, ◌<◌, ◌≤◌, ◌^◌, Bool, true, false, pos, List, [], ◌∷◌, ◌++◌, Option, Some, None, Ok, refl, ap, arith, rules, codes}
use Rattle.std.specs.List.{AllByRecursion}
use Rattle.std.proofs.lemmas.Bool.{le-leb}
use Rattle.std.proofs.lemmas.Str.{IsUtf8-from_ascii}
use Rattle.toc_parts.specs.declared.fault.FieldFault.TheVariants as fields
use Rattle.toc_parts.specs.Parts.{FitsListed}
use Rattle.toc_parts.proofs.Decimals.{again}
use Rattle.toc_parts.proofs.FieldFits.{number_of_eight_fits, integer_fits, natural_is_part, string_fits, text_fits, decimal_fits}
use Rattle.toc_entry.specs.declared.entry.Entry.{Entry}
use Rattle.toc_entry.specs.declared.entry.Extra.{Extra}
use Rattle.toc_entry.specs.declared.entry.Extra.TheVariants.{Place, File}
use Rattle.toc_layout.specs.declared.fault.EntryHalt.TheVariants.{Short}
use Rattle.toc_layout.specs.Entries.{dump_id, flag, oid, section, section_of, unread, dependency, extra, state_of, body, entry}
use Rattle.toc_layout.specs.Heads.{HeadFields, front, moment, head}
use Rattle.toc_layout.specs.Values.{IsHead, IsExtra, IsEntry}
use Rattle.toc_layout.specs.Writable.{HeadCanBeWritten, ExtraCanBeWritten, EntryCanBeWritten, is_file, entry_text}
use Rattle.toc_layout.proofs.EntryLaws.{entry_laws}
use Rattle.toc_layout.proofs.HeadLaws.{head_laws}

dump_id_fits : (n : ℕ) → 1 ≤ n → n < 2 ^ 32 → dump_id.Fits n
unfolding dump_id
dump_id_fits zero some low = absurd (omega arith)
dump_id_fits (suc n) some low = (refl, integer_fits fields.Short (pos (suc n)) (natural_is_part (suc n) low))

flag_fits : (b : Bool) → flag.Fits b
flag_fits false = (refl, integer_fits fields.Short (pos 0) (natural_is_part 0 (omega arith)))
flag_fits true = (refl, integer_fits fields.Short (pos 1) (natural_is_part 1 (omega arith)))

oid_fits : (n : ℕ) → n < 2 ^ 32 → oid.Fits n
unfolding oid
oid_fits n low = (again n low, decimal_fits n low)

section_is : (n : ℕ) → 1 ≤ n → n ≤ 4 → section_of (pos n) ≡ Some n
section_is n some few = rw (le-leb 1 n some, le-leb n 4 few) refl

section_fits : (n : ℕ) → 1 ≤ n → n ≤ 4 → section.Fits n
unfolding section
section_fits n some few = (section_is n some few, integer_fits fields.Short (pos n) (natural_is_part n (omega arith)))

unread_fits : unread.Fits tt
unread_fits = (refl, text_fits (codes "false") (IsUtf8-from_ascii (codes "false") (search rules)) (omega arith))

dependency_fits : (n : ℕ) → n < 2 ^ 32 → dependency.Fits (Some n)
unfolding dependency
dependency_fits n low = (ap (λ (o : Option ℕ). by o) (again n low), decimal_fits n low)
  where
    by : Option ℕ → Option (Option ℕ)
    by None = None
    by (Some k) = Some (Some k)

no_dependency_fits : dependency.Fits None
unfolding dependency
no_dependency_fits = (refl, string_fits None (λ t e. absurd cc) (λ t e. absurd cc))

dependencies_fit : (ns : List ℕ) → AllByRecursion (λ n. n < 2 ^ 32) ns → FitsListed dependency ns
dependencies_fit [] low = no_dependency_fits
dependencies_fit (n ∷ ns) low = (dependency_fits n low.0, dependencies_fit ns low.1)

state_is : (n : ℕ) → 1 ≤ n → n ≤ 3 → state_of n ≡ Some n
state_is n some few = rw (le-leb 1 n some, le-leb n 3 few) refl

extra_fits : (x : Extra) → IsExtra x → ExtraCanBeWritten x → (extra (is_file x)).Fits x
unfolding extra
extra_fits (Place s offset) value can = (refl, ((state_is s can.0 can.1, tt), number_of_eight_fits Short offset value))
extra_fits (File name) value can = (refl, (refl, text_fits name value can))

pub entry_fits : (e : Entry) → IsEntry e → EntryCanBeWritten e → (entry (is_file e.extra)).Fits e
unfolding body
entry_fits e value can =
    let s = can.texts in (
      refl,
      (
        dump_id_fits e.dump_id can.dump_id value.dump_id,
        (
          (flag_fits e.has_rows, (oid_fits e.tableoid value.tableoid, oid_fits e.oid value.oid)),
          (
            ((refl, text_fits e.tag value.tag s.tag), ((refl, text_fits e.desc value.desc s.desc), section_fits e.section can.section.0 can.section.1)),
            (
              (string_fits e.defn value.defn s.defn, (string_fits e.drop_stmt value.drop_stmt s.drop_stmt, string_fits e.copy_stmt value.copy_stmt s.copy_stmt)),
              (
                (
                  (string_fits e.namespace value.namespace s.namespace, (string_fits e.tablespace value.tablespace s.tablespace, string_fits e.tableam value.tableam s.tableam)),
                  (string_fits e.owner value.owner s.owner, unread_fits),
                ),
                (dependencies_fit e.depends value.depends, extra_fits e.extra value.extra can.extra),
              ),
            ),
          ),
        ),
      ),
    )

pub written_entry : (e : Entry) (rest : List ℕ) → IsEntry e → EntryCanBeWritten e → (entry (is_file e.extra)).read (entry_text e ++ rest) ≡ Ok (e, rest)
written_entry e rest value can =
    let laws = entry_laws (is_file e.extra) in
    laws.only e (entry_text e) rest (laws.written e (entry_fits e value can))

head_is : (h : HeadFields) → HeadCanBeWritten h → (record h { major = 1; minor = 15; compression = 0 }) ≡ h
head_is h can = rw (← can.major, ← can.minor, ← can.compression) refl

head_fits : (h : HeadFields) → IsHead h → HeadCanBeWritten h → head.Fits h
unfolding head front moment
head_fits h value can =
    let m = value.moment in (
      head_is h can,
      (
        (refl, (((refl, tt), ((refl, tt), ((refl, tt), ((refl, tt), (refl, tt))))), ((refl, (tt, tt)), (tt, (((refl, tt), (refl, tt)), (tt, (refl, tt))))))),
        (
          (
            refl,
            (
              integer_fits fields.Short h.moment.sec m.sec,
              (
                integer_fits fields.Short h.moment.min m.min,
                (
                  integer_fits fields.Short h.moment.hour m.hour,
                  (
                    integer_fits fields.Short h.moment.mday m.mday,
                    (integer_fits fields.Short h.moment.mon m.mon, (integer_fits fields.Short h.moment.year m.year, integer_fits fields.Short h.moment.isdst m.isdst)),
                  ),
                ),
              ),
            ),
          ),
          ((refl, text_fits h.dbname value.dbname can.dbname), ((refl, text_fits h.server value.server can.server), (refl, text_fits h.dumper value.dumper can.dumper))),
        ),
      ),
    )

pub written_head : (h : HeadFields) (rest : List ℕ) → IsHead h → HeadCanBeWritten h → head.read (head.write h ++ rest) ≡ Ok (h, rest)
written_head h rest value can = head_laws.only h (head.write h) rest (head_laws.written h (head_fits h value can))
