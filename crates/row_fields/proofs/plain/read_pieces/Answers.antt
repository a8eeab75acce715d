use Rattle.std.proofs.Common.{◌<◌, length, arith}
use Rattle.std.specs.Option.{option_map}
use Rattle.copy_text.proofs.RowLemmas.{starts}
use Rattle.row_fields.proofs.Pieces.{last_field, next_field}
use Rattle.row_fields.proofs.plain.read_pieces.Goals as goal

pub pieces-init : goal.pieces-init
pieces-init c = record { within = omega arith; so_far = rw c.requires (starts c.args.line.now) }

pub returns-then-len-rest : goal.returns-then-len-rest
returns-then-len-rest c = λ yes.
    rw c.in_ok-push.ensures.items (last_field (λ f. option_map (λ t. t.now) f) c.pieces.fields.items c.in-Some.field c.pieces.start c.in-Some.len c.args.line.now c.split_at.result.1.now c.split_at.ensures.back c.pieces.invariant.so_far c.in-Some.ensures.piece (c.in-Some.ensures.field c.pieces.start) c.if-len-rest.true)

pub pieces-preserved : goal.pieces-preserved
pieces-preserved c =
    let within = c.in-Some.ensures.piece.within in
    let lt : c.in-Some.len < length c.split_at.result.1.now = omega arith in
    record {
      within = omega (arith, c.split_at.ensures.back_len);
      so_far = rw c.in_ok-push.ensures.items (next_field (λ f. option_map (λ t. t.now) f) c.pieces.fields.items c.in-Some.field c.pieces.start c.in-Some.len c.args.line.now c.split_at.result.1.now c.split_at.ensures.back c.pieces.invariant.so_far c.in-Some.ensures.piece (c.in-Some.ensures.field c.pieces.start) lt);
    }
