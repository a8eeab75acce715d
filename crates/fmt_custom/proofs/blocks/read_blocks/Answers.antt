use Rattle.std.proofs.Common.{◌≡◌, ◌<◌, length, arith}
use Rattle.std.proofs.lemmas.Bool.Decides.{nat_tests}
use Rattle.std.proofs.lemmas.Result.{err_from_is_err_and}
use Rattle.fmt_custom.specs.Blocks.{pieces_in}
use Rattle.fmt_custom.specs.Customs.{ids_of, found_in}
use Rattle.fmt_custom.proofs.Found.{with_block, blocks_go_on, fewer_left, start_fails, pieces_fail, blocks_end, rows_suffix, behind_suffix}
use Rattle.fmt_custom.proofs.blocks.read_blocks.Goals as goal

pub returns-in_err-id : goal.returns-in_err-id
returns-in_err-id c = λ ids are.
    let p = err_from_is_err_and c.from_residual.result c.from_residual.ensures.1 in
    let now = c.each.invariant.1 ids are in
    let len = length c.args.bytes.now in
    let some : 0 < length c.each.left.now = grind (arith, nat_tests) in
    rw (p.1, p.2) (start_fails len ids now.0 c.each.left.now c.in_err-id.field-0.0 (found_in len ids c.args.rest.now) some (c.in_err-id.ensures ids (ids_of now.0) are now.1.ids) now.2)

pub returns-in_err-behind : goal.returns-in_err-behind
returns-in_err-behind c = λ ids are.
    let p = err_from_is_err_and c.from_residual-in_err-behind.result c.from_residual-in_err-behind.ensures.1 in
    let now = c.each.invariant.1 ids are in
    let len = length c.args.bytes.now in
    let some : 0 < length c.each.left.now = grind (arith, nat_tests) in
    rw (p.1, p.2) (pieces_fail len ids now.0 c.each.left.now c.in_ok-id.id c.in_ok-id.rows.now c.in_err-behind.field-0.0 (found_in len ids c.args.rest.now) some
    (c.in_ok-id.ensures ids (ids_of now.0) are now.1.ids) c.in_err-behind.ensures now.2)

pub each-smaller : goal.each-smaller
each-smaller c =
    let known = c.requires.known in
    let now = c.each.invariant.1 known.0 known.1 in
    fewer_left (length c.args.bytes.now) known.0 now.0 c.each.left.now c.in_ok-id.id c.in_ok-id.rows.now c.in_ok-behind.behind.now (c.in_ok-id.ensures known.0 (ids_of now.0) known.1 now.1.ids) c.in_ok-behind.ensures

pub each-preserved : goal.each-preserved
each-preserved c =
    let bytes = c.args.bytes.now in
    let len = length bytes in
    let left = c.each.left.now in
    let rows = c.in_ok-id.rows.now in
    let behind = c.in_ok-behind.behind.now in
    let known = c.requires.known in
    let first = c.each.invariant.1 known.0 known.1 in
    let first_start = c.in_ok-id.ensures known.0 (ids_of first.0) known.1 first.1.ids in
    let rows_end = rows_suffix len known.0 (ids_of first.0) bytes left c.in_ok-id.id rows c.each.invariant.0 first_start in
    let some : 0 < length left = grind (arith, nat_tests) in (
      behind_suffix len known.0 (ids_of first.0) bytes left c.in_ok-id.id rows behind c.each.invariant.0 first_start c.in_ok-behind.ensures,
      λ ids are.
          let now = c.each.invariant.1 ids are in
          let start = c.in_ok-id.ensures ids (ids_of now.0) are now.1.ids in (
            with_block len left now.0 c.in_ok-id.id (pieces_in rows),
            record {
              ids = c.in_ok-add_block.ensures.ids now.0 now.1.ids;
              rows = rw (c.place-rows.ensures, rows_end) at (c.in_ok-add_block.ensures.rows now.0 now.1.rows);
              starts = rw c.place-start.ensures at (c.in_ok-add_block.ensures.starts now.0 now.1.starts);
            },
            blocks_go_on len ids now.0 left c.in_ok-id.id rows behind (found_in len ids c.args.rest.now) some start c.in_ok-behind.ensures now.2,
          ),
    )

pub returns : goal.returns
returns c = λ ids are.
    let now = c.each.invariant.1 ids are in
    let len = length c.args.bytes.now in
    let none : length c.each.left.now ≡ 0 = grind (arith, nat_tests) in
    (now.0, blocks_end len ids now.0 c.each.left.now (found_in len ids c.args.rest.now) none now.2, now.1)
