use Rattle.std.proofs.Common.{◌≡◌, true, false, eqb, sym, arith, subst}
use Rattle.std.proofs.lemmas.Bool.Decides.{nat_tests}
use Rattle.std.proofs.lemmas.Result.{err_from_is_err_and}
use Rattle.toc_layout.specs.Faults.{archive_fault}
use Rattle.toc_layout.specs.Heads.{head_seen}
use Rattle.fmt_custom.specs.Readers.{GivesCustom}
use Rattle.fmt_custom.proofs.Customs.{head_suffix, head_fails, other_format, this_format}
use Rattle.fmt_custom.proofs.reader.CustomReader.read.Goals as goal

pub returns-in_err-head : goal.returns-in_err-head
returns-in_err-head c =
    let p = err_from_is_err_and c.from_residual.result c.from_residual.ensures.1 in
    rw (p.1, p.2) (head_fails c.args.bytes.now (archive_fault c.in_err-head.field-0.0) c.in_err-head.ensures)

pub returns-then-head-ne1 : goal.returns-then-head-ne1
returns-then-head-ne1 c =
    let other : eqb c.in_ok-head.head.format 1 ≡ false = grind (arith, nat_tests) in
    other_format c.args.bytes.now (head_seen c.in_ok-head.head) c.in_ok-head.rest.now c.in_ok-head.ensures other

pub read_behind-requires : goal.read_behind-requires
read_behind-requires c = head_suffix c.args.bytes.now (head_seen c.in_ok-head.head) c.in_ok-head.rest.now c.in_ok-head.ensures

pub returns : goal.returns
returns c =
    let same : eqb c.in_ok-head.head.format 1 ≡ true = grind (arith, nat_tests) in
    subst (λ due. GivesCustom due c.read_behind.result) (sym (this_format c.args.bytes.now (head_seen c.in_ok-head.head) c.in_ok-head.rest.now c.in_ok-head.ensures same)) c.read_behind.ensures
