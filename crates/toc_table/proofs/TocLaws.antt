-- The laws of a table of contents.
use Rattle.std.proofs.Common.{ℕ, Bool, List, [], pos, length}
use Rattle.toc_parts.specs.Parts.{◌then◌, raised, counted}
use Rattle.toc_parts.specs.Laws.{Lawful}
use Rattle.toc_parts.proofs.Simple.{then_laws, behind_laws, seen_laws, understood_laws, raised_laws}
use Rattle.toc_parts.proofs.Repeated.{counted_laws}
use Rattle.toc_layout.specs.Entries.{whole, dump_id, body, body_of, entry_of}
use Rattle.toc_layout.proofs.EntryLaws.{whole_laws, dump_id_laws, body_laws}
use Rattle.toc_table.specs.declared.fault.TocHalt.TheVariants.{Entry as InEntry, RepeatedId}
use Rattle.toc_table.specs.Tables.{count_of, bad_count, count, fresh_in, fresh_id, fresh_entry, entries, toc}

count_laws : Lawful count
unfolding count
count_laws = understood_laws count_of pos bad_count (raised InEntry whole) (raised_laws InEntry whole whole_laws)

fresh_id_laws : (earlier : List ℕ) → Lawful (fresh_id earlier)
fresh_id_laws earlier = understood_laws (fresh_in earlier) (λ n. n) (λ id left. RepeatedId id) (raised InEntry dump_id) (raised_laws InEntry dump_id dump_id_laws)

pub fresh_entry_laws : (directory : Bool) (earlier : List ℕ) → Lawful (fresh_entry directory earlier)
unfolding fresh_entry
fresh_entry_laws directory earlier =
    seen_laws entry_of (λ e. (e.dump_id, body_of e)) (fresh_id earlier then raised InEntry (body directory))
    (then_laws (fresh_id earlier) (raised InEntry (body directory)) (fresh_id_laws earlier) (raised_laws InEntry (body directory) (body_laws directory)))

pub toc_laws : (directory : Bool) → Lawful (toc directory)
toc_laws directory =
    behind_laws count (counted (entries directory) []) (λ es. length es) count_laws
    (λ n. counted_laws (entries directory) (fresh_entry_laws directory) [] n)
