use Rattle.std.proofs.Common.{◌≡◌, ◌++◌, List, ℕ, length, ap, ◌∙◌, arith, length-append}
use Rattle.archive_entries.specs.Extras.{bare_text, extra_text}
use Rattle.archive_entries.proofs.ExtraLemmas.{entry_is, cut_back}
use Rattle.archive_entries.proofs.extra.write_bare.Goals as goal

pub overflow_sub-len : goal.overflow_sub-len
overflow_sub-len c =
    let e = c.args.entry.now in
    let old = c.args.out.now.items in
    let whole : c.write_entry.new.out.items ≡ old ++ (bare_text e ++ extra_text e.extra) = c.in_ok-write_entry.ensures.ok ∙ ap (λ (l : List ℕ). old ++ l) (entry_is e) in
    omega (arith, ap length whole, length-append old (bare_text e ++ extra_text e.extra), length-append (bare_text e) (extra_text e.extra), c.extra_len-len.ensures)

pub returns : goal.returns
returns c =
    let e = c.args.entry.now in
    let old = c.args.out.now.items in
    let whole : c.write_entry.new.out.items ≡ old ++ (bare_text e ++ extra_text e.extra) = c.in_ok-write_entry.ensures.ok ∙ ap (λ (l : List ℕ). old ++ l) (entry_is e) in
    c.truncate.ensures.items
    ∙ cut_back old (bare_text e) (extra_text e.extra) c.write_entry.new.out.items _ whole
    (omega (arith, ap length whole, length-append old (bare_text e ++ extra_text e.extra), length-append (bare_text e) (extra_text e.extra), c.extra_len-len.ensures))
