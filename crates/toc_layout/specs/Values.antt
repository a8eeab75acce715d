-- What the types of the code keep of heads and entries: numbers are in their range, and texts are UTF-8.
use Rattle.std.specs.Prelude.{◌<◌, ◌^◌}
use Rattle.std.specs.List.{AllByRecursion}
use Rattle.std.specs.Option.{ForSome}
use Rattle.copy_text.specs.Texts.{IsText}
use Rattle.dump_ports.specs.Moment.{IsPart}
use Rattle.toc_entry.specs.declared.entry.Entry.{Entry}
use Rattle.toc_entry.specs.declared.entry.Extra.{Extra}
use Rattle.toc_entry.specs.declared.entry.Extra.TheVariants.{Place, File}
use Rattle.toc_layout.specs.Heads.{Instant, HeadFields}

pub record IsInstant (m : Instant) : Type 0 where
  pub sec : IsPart m.sec
  pub min : IsPart m.min
  pub hour : IsPart m.hour
  pub mday : IsPart m.mday
  pub mon : IsPart m.mon
  pub year : IsPart m.year
  pub isdst : IsPart m.isdst

pub record IsHead (h : HeadFields) : Type 0 where
  pub moment : IsInstant h.moment
  pub dbname : IsText h.dbname
  pub server : IsText h.server
  pub dumper : IsText h.dumper

abbrev pub IsExtra : Extra → Type 0
IsExtra (Place state offset) = offset < 2 ^ 64
IsExtra (File name) = IsText name

pub record IsEntry (e : Entry) : Type 0 where
  pub dump_id : e.dump_id < 2 ^ 32
  pub tableoid : e.tableoid < 2 ^ 32
  pub oid : e.oid < 2 ^ 32
  pub tag : IsText e.tag
  pub desc : IsText e.desc
  pub defn : ForSome e.defn IsText
  pub drop_stmt : ForSome e.drop_stmt IsText
  pub copy_stmt : ForSome e.copy_stmt IsText
  pub namespace : ForSome e.namespace IsText
  pub tablespace : ForSome e.tablespace IsText
  pub tableam : ForSome e.tableam IsText
  pub owner : ForSome e.owner IsText
  pub depends : AllByRecursion (λ n. n < 2 ^ 32) e.depends
  pub extra : IsExtra e.extra
