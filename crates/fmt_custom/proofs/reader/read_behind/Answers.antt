use Rattle.std.proofs.Common.{◌≡◌, [], length, false, Some, None, refl}
use Rattle.std.proofs.lemmas.Result.{err_from_is_err_and}
use Rattle.toc_layout.specs.Faults.{archive_fault}
use Rattle.toc_layout.specs.Heads.{head_seen}
use Rattle.toc_table.specs.Ids.{AreIds}
use Rattle.toc_table.specs.Tables.{lefts}
use Rattle.fmt_custom.specs.Customs.{first_fault}
use Rattle.toc_table.specs.Tables.{ids_with_rows}
use Rattle.fmt_custom.proofs.Customs.{toc_suffix, blocks_fail, blocks_are, checked}
use Rattle.fmt_custom.proofs.reader.read_behind.Goals as goal

pub blocks_of-requires-clause-suffix : goal.blocks_of-requires-clause-suffix
blocks_of-requires-clause-suffix c =
    toc_suffix (length c.args.bytes.now) c.args.bytes.now c.args.rest.now c.in_ok-toc.toc.entries.items c.in_ok-toc.rest.now c.requires c.in_ok-toc.ensures.read

pub returns-in_err-blocks : goal.returns-in_err-blocks
returns-in_err-blocks c =
    let p = err_from_is_err_and c.from_residual-in_err-blocks.result c.from_residual-in_err-blocks.ensures.1 in
    let es = c.in_ok-toc.toc.entries.items in
    let known : AreIds c.in_ok-known.known (ids_with_rows [] es) = rw (← c.deref.ensures.value) c.in_ok-known.ensures in
    rw (p.1, p.2) (blocks_fail (length c.args.bytes.now) (head_seen c.args.head) c.args.rest.now es c.in_ok-toc.rest.now (archive_fault c.in_err-blocks.field-0.0) c.in_ok-toc.ensures.read (c.in_err-blocks.ensures (ids_with_rows [] es) known))

pub returns-in-Some : goal.returns-in-Some
returns-in-Some c =
    let len = length c.args.bytes.now in
    let es = c.in_ok-toc.toc.entries.items in
    let known : AreIds c.in_ok-known.known (ids_with_rows [] es) = rw (← c.deref.ensures.value) c.in_ok-known.ensures in
    let found = c.in_ok-blocks.ensures (ids_with_rows [] es) known in
    let fault : first_fault found.0 len es (lefts false c.args.rest.now) ≡ Some c.in-Some.fault =
    checked found.0 len es c.deref-2.result.now c.in_ok-toc.toc.lefts.items c.deref-3.result.now (lefts false c.args.rest.now) c.first_fault.result (Some c.in-Some.fault) c.deref-2.ensures.value c.deref-3.ensures.value c.in_ok-toc.ensures.lefts
    (c.first_fault.ensures c.args.bytes.now found.0 found.2) c.in-Some.is in
    blocks_are len (head_seen c.args.head) c.args.rest.now es c.in_ok-toc.rest.now found.0 (Some c.in-Some.fault) c.in_ok-toc.ensures.read found.1 fault

pub returns : goal.returns
returns c =
    let len = length c.args.bytes.now in
    let es = c.in_ok-toc.toc.entries.items in
    let known : AreIds c.in_ok-known.known (ids_with_rows [] es) = rw (← c.deref.ensures.value) c.in_ok-known.ensures in
    let found = c.in_ok-blocks.ensures (ids_with_rows [] es) known in
    let fault : first_fault found.0 len es (lefts false c.args.rest.now) ≡ None =
    checked found.0 len es c.deref-2.result.now c.in_ok-toc.toc.lefts.items c.deref-3.result.now (lefts false c.args.rest.now) c.first_fault.result None c.deref-2.ensures.value c.deref-3.ensures.value c.in_ok-toc.ensures.lefts
    (c.first_fault.ensures c.args.bytes.now found.0 found.2) c.in_default.is in (
      record { head = head_seen c.args.head; entries = es; found = found.0 },
      blocks_are len (head_seen c.args.head) c.args.rest.now es c.in_ok-toc.rest.now found.0 None c.in_ok-toc.ensures.read found.1 fault,
      record { head = refl; entries = refl; rows = found.2.rows },
    )
