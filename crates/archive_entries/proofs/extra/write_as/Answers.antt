use Rattle.archive_entries.specs.Extras.{bare_text, extra_text}
use Rattle.archive_entries.proofs.ExtraLemmas.{entry_as, grown}
use Rattle.archive_entries.proofs.extra.write_as.Goals as goal

pub returns : goal.returns
returns c =
    grown c.write_extra.result c.args.out.now.items (bare_text c.args.entry.now) (extra_text c.args.extra.now) _ c.write_bare.new.out.items c.write_extra.new.out.items c.in_ok-write_bare.ensures (entry_as c.args.entry.now c.args.extra.now) c.write_extra.ensures
