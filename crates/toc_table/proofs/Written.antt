-- A table of contents that is written reads as it.
use Rattle.std.proofs.Common.{◌≡◌, ℕ, ◌≤◌, Bool, false, List, [], ◌∷◌, ◌++◌, length, pos, Some, Ok, refl, sym, subst, arith}
use Rattle.std.specs.List.{AllByRecursion}
use Rattle.std.proofs.lemmas.Bool.{le-leb}
use Rattle.toc_parts.specs.declared.fault.FieldFault.TheVariants as fields
use Rattle.toc_parts.specs.Parts.{Counted}
use Rattle.toc_parts.proofs.FieldFits.{integer_fits, natural_is_part}
use Rattle.toc_entry.specs.declared.entry.Entry.{Entry}
use Rattle.toc_layout.specs.Entries.{whole, entry}
use Rattle.toc_layout.specs.Writable.{is_file, entry_text}
use Rattle.toc_layout.proofs.EntryLaws.{whole_laws}
use Rattle.toc_layout.proofs.Fitting.{entry_fits}
use Rattle.toc_table.specs.Ids.{is_among}
use Rattle.toc_table.specs.Tables.{count_of, count, fresh_in, fresh_entry, entries, toc}
use Rattle.toc_table.specs.Writing.{entries_text, toc_text, HasOwnIds, EntryFits, TocFits}
use Rattle.toc_table.proofs.TocLaws.{fresh_entry_laws, toc_laws}

fresh_is : (earlier : List ℕ) (id : ℕ) → is_among earlier id ≡ false → fresh_in earlier id ≡ Some id
fresh_is earlier id e = rw e refl

-- an entry of which the id is new is spelled by its text
spelled_as : (directory : Bool) (earlier : List ℕ) (e : Entry) → is_file e.extra ≡ directory → (entry directory).Fits e → is_among earlier e.dump_id ≡ false → (fresh_entry directory earlier).Spells e ((entry directory).write e)
unfolding fresh_entry
spelled_as directory earlier e kind fits new = (fresh_entry_laws directory earlier).written e (refl, ((fresh_is earlier e.dump_id new, fits.1.0), fits.1.1))

spelled : (directory : Bool) (earlier : List ℕ) (e : Entry) → EntryFits directory e → is_among earlier e.dump_id ≡ false → (fresh_entry directory earlier).Spells e (entry_text e)
spelled directory earlier e fits new =
    let here : (entry directory).Fits e = subst (λ (d : Bool). (entry d).Fits e) fits.kind (entry_fits e fits.value fits.can) in
    subst (λ (d : Bool). (fresh_entry directory earlier).Spells e ((entry d).write e)) (sym fits.kind) (spelled_as directory earlier e fits.kind here new)

all_spelled : (directory : Bool) (earlier : List ℕ) (es : List Entry) → AllByRecursion (EntryFits directory) es → HasOwnIds earlier es → Counted (entries directory) (length es) earlier es (entries_text es)
all_spelled directory earlier [] fits own = refl
all_spelled directory earlier (e ∷ es) fits own =
    (entry_text e, entries_text es, refl, spelled directory earlier e fits.0 own.0, all_spelled directory (e.dump_id ∷ earlier) es fits.1 own.1)

count_is : (n : ℕ) → n ≤ 200000 → count_of (pos n) ≡ Some n
count_is n few = rw (le-leb n 200000 few) refl

count_spelled : (n : ℕ) → n ≤ 200000 → count.Spells n (whole.write (pos n))
unfolding count
count_spelled n few = (pos n, count_is n few, whole_laws.written (pos n) (integer_fits fields.Short (pos n) (natural_is_part n (omega (arith, few)))))

pub written_toc : (directory : Bool) (es : List Entry) (rest : List ℕ) → TocFits directory es → (toc directory).read (toc_text es ++ rest) ≡ Ok (es, rest)
written_toc directory es rest fits =
    (toc_laws directory).only es (toc_text es) rest
    (length es, whole.write (pos (length es)), entries_text es, refl, count_spelled (length es) fits.few, all_spelled directory [] es fits.each fits.own)
