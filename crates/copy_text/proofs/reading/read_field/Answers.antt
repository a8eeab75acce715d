use Rattle.std.proofs.Common.{◌≡◌, ◌<◌, ◌+◌, ℕ, List, Some, Ok, Err, sym, ap, subst, ◌∙◌, arith, false, true, length, refl}
use Rattle.std.specs.Str.{bytes_eq}
use Rattle.std.proofs.lemmas.Bool.{false≢true}
use Rattle.std.proofs.lemmas.Slice.Eq.{bytes_eq-Decides}
use Rattle.copy_text.specs.declared.fault.CopyFault.TheVariants.{RawReturn}
use Rattle.copy_text.specs.Marks.{null_mark}
use Rattle.copy_text.specs.Escapes.{decode}
use Rattle.copy_text.specs.Reading.{field_of}
use Rattle.copy_text.proofs.FieldLemmas.{field_null, field_return_first, field_bad_utf8, field_return_later, field_open, field_text, ends_some, at_first, not_at_first, found_later, absent_at, no_text, some_text}
use Rattle.copy_text.proofs.reading.read_field.Goals as goal

pub returns-then-eq : goal.returns-then-eq
returns-then-eq c =
    let same : bytes_eq c.args.piece.now null_mark ≡ true = subst (λ (xs : List ℕ). bytes_eq c.args.piece.now xs ≡ true) c.as_slice.ensures (sym c.eq.ensures ∙ c.if-eq.true) in
    let is : c.args.piece.now ≡ null_mark = (bytes_eq-Decides c.args.piece.now null_mark).0 same in
    ap (field_of c.args.start) is ∙ field_null c.args.start

pub returns-then-eq-2 : goal.returns-then-eq-2
returns-then-eq-2 c =
    let first = at_first c.args.piece.now c.memchr-raw_return.result c.memchr-raw_return.ensures (sym c.eq-2.ensures ∙ c.if-eq-2.true) in
    field_return_first c.args.start c.args.piece.now first.0 first.1

pub returns-in_default : goal.returns-in_default
returns-in_default c =
    let piece = c.args.piece.now in
    let later = not_at_first piece c.memchr-raw_return.result c.memchr-raw_return.ensures (sym c.eq-2.ensures ∙ c.if-eq-2.false) in
    let bad = no_text c.in_ok-bytes.bytes.items piece c.in_ok-bytes.ensures.bytes (λ text. false≢true (c.in_default.ensures.valid.1 text)) in
    field_bad_utf8 c.args.start piece later bad

pub returns-in-Some-raw_return : goal.returns-in-Some-raw_return
returns-in-Some-raw_return c =
    let piece = c.args.piece.now in
    let found = found_later piece c.memchr-raw_return.result c.in-Some-raw_return.at c.memchr-raw_return.ensures (sym c.eq-2.ensures ∙ c.if-eq-2.false) c.in-Some-raw_return.is in
    let utf8 = some_text c.in_ok-bytes.bytes.items piece c.in_ok-bytes.ensures.bytes (c.in-Some.ensures.valid.0 refl) in
    field_return_later c.args.start piece found.1 found.2 utf8 ∙ ap (λ (n : ℕ). Err (RawReturn (c.args.start + n))) found.0

pub overflow_sub-last : goal.overflow_sub-last
overflow_sub-last c =
    let some : 0 < length c.args.piece.now = ends_some c.args.piece.now (sym c.in_ok-bytes.ensures.«open» ∙ c.if-open.true) in
    omega arith

pub returns-then-open : goal.returns-then-open
returns-then-open c =
    let piece = c.args.piece.now in
    let absent = absent_at piece c.memchr-raw_return.result c.memchr-raw_return.ensures c.in_default-raw_return.is in
    let utf8 = some_text c.in_ok-bytes.bytes.items piece c.in_ok-bytes.ensures.bytes (c.in-Some.ensures.valid.0 refl) in
    field_open c.args.start piece absent utf8 (sym c.in_ok-bytes.ensures.«open» ∙ c.if-open.true)

pub returns : goal.returns
returns c =
    let piece = c.args.piece.now in
    let absent = absent_at piece c.memchr-raw_return.result c.memchr-raw_return.ensures c.in_default-raw_return.is in
    let utf8 = some_text c.in_ok-bytes.bytes.items piece c.in_ok-bytes.ensures.bytes (c.in-Some.ensures.valid.0 refl) in
    let other : bytes_eq piece null_mark ≡ false = subst (λ (xs : List ℕ). bytes_eq piece xs ≡ false) c.as_slice.ensures (sym c.eq.ensures ∙ c.if-eq.false) in
    let is : decode piece ≡ c.in-Some.text = sym (c.in-Some.ensures.value ∙ c.in_ok-bytes.ensures.bytes) in
    field_text c.args.start piece absent utf8 (sym c.in_ok-bytes.ensures.«open» ∙ c.if-open.false) other ∙ ap (λ (xs : List ℕ). Ok (Some xs)) is
