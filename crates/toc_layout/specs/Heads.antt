-- The layout of an archive's head, and the text of a plain script, which is no archive.
use Rattle.std.specs.Prelude.{ℕ, ◌-◌, ◌==◌, ◌&&◌, ◌||◌, Bool, true, ℤ, List, [], ◌∷◌, length, drop, Option, Some, None, unwrap_or, Result, Ok, Err, nat_eq, if◌then◌else◌, codes}
use Rattle.std.specs.List.{starts_with}
use Rattle.dump_ports.specs.declared.moment.Moment.{Moment}
use Rattle.toc_parts.specs.Parts.{Part, Reading, ◌then◌, seen, understood, raised, raised_at}
use Rattle.toc_parts.specs.declared.fault.FieldFault.TheVariants as fields
use Rattle.toc_parts.specs.Fields.{byte, integer, string}
use Rattle.toc_entry.specs.declared.head.Head.{Head}
use Rattle.toc_layout.specs.declared.fault.HeadHalt.{HeadHalt}
use Rattle.toc_layout.specs.declared.fault.HeadHalt.TheVariants.{Magic, Short, Version, IntSize, OffSize, Compressed}
use Rattle.toc_layout.specs.declared.fault.HeadFault.{HeadFault}
use Rattle.toc_layout.specs.declared.fault.HeadFault.TheVariants.{TextDump}
use Rattle.toc_layout.specs.Faults.{in_head, placed_head_fault}

-- a moment by its parts
pub record Instant : Type 0 where
  pub sec : ℤ
  pub min : ℤ
  pub hour : ℤ
  pub mday : ℤ
  pub mon : ℤ
  pub year : ℤ
  pub isdst : ℤ

-- a head by its fields
pub record HeadFields : Type 0 where
  pub major : ℕ
  pub minor : ℕ
  pub revision : ℕ
  pub format : ℕ
  pub compression : ℕ
  pub moment : Instant
  pub dbname : List ℕ
  pub server : List ℕ
  pub dumper : List ℕ

abbrev pub instant_of : Moment → Instant
instant_of m = record { sec = m.sec; min = m.min; hour = m.hour; mday = m.mday; mon = m.mon; year = m.year; isdst = m.isdst }

abbrev pub head_seen : Head → HeadFields
head_seen h = record {
  major = h.major;
  minor = h.minor;
  revision = h.revision;
  format = h.format;
  compression = h.compression;
  moment = instant_of h.moment;
  dbname = h.dbname;
  server = h.server;
  dumper = h.dumper;
}

-- ---- fields

abbrev pub whole : Part HeadHalt ℤ
whole = raised in_head (integer fields.Short)

-- a string that isn't there reads as the empty text
abbrev pub text : Part HeadHalt (List ℕ)
text = seen (λ v. unwrap_or v []) Some (raised in_head string)

-- this byte; another is at fault
abbrev pub expected : ℕ → HeadHalt → Part HeadHalt (Unit {0})
expected c fault = understood (λ b. if b == c then Some tt else None) (λ v. c) (λ v left. fault) (byte Short)

-- `PGDMP`
abbrev pub magic : Part HeadHalt (Unit {0} × (Unit {0} × (Unit {0} × (Unit {0} × Unit {0}))))
magic = expected 80 Magic then (expected 71 Magic then (expected 68 Magic then (expected 77 Magic then expected 80 Magic)))

-- 1.15
abbrev pub version_of : ℕ × ℕ → Option (Unit {0})
version_of x = if x.0 == 1 && x.1 == 15 then Some tt else None

abbrev pub version : Part HeadHalt (Unit {0})
version = understood version_of (λ v. (1, 15)) (λ x left. Version x.0 x.1) (byte Short then byte Short)

-- none
abbrev pub compression : Part HeadHalt (Unit {0})
compression = understood (λ c. if c == 0 then Some tt else None) (λ v. 0) (λ c left. Compressed c) (byte Short)

-- integers of 4 bytes, offsets of 8
abbrev pub sizes : Part HeadHalt (Unit {0} × Unit {0})
sizes = expected 4 IntSize then expected 8 OffSize

-- the revision and the format stand in it
unfoldable pub front : Part HeadHalt (ℕ × ℕ)
front =
    seen (λ x. (x.1.1.0, x.1.1.1.1.0)) (λ v. ((tt, (tt, (tt, (tt, tt)))), (tt, (v.0, ((tt, tt), (v.1, tt))))))
    (magic then (version then (byte Short then (sizes then (byte Short then compression)))))

unfoldable pub moment : Part HeadHalt Instant
moment =
    seen (λ x. record { sec = x.0; min = x.1.0; hour = x.1.1.0; mday = x.1.1.1.0; mon = x.1.1.1.1.0; year = x.1.1.1.1.1.0; isdst = x.1.1.1.1.1.1 })
    (λ m. (m.sec, (m.min, (m.hour, (m.mday, (m.mon, (m.year, m.isdst)))))))
    (whole then (whole then (whole then (whole then (whole then (whole then whole))))))

abbrev pub names : Part HeadHalt (List ℕ × (List ℕ × List ℕ))
names = text then (text then text)

abbrev pub head_of : (ℕ × ℕ) × (Instant × (List ℕ × (List ℕ × List ℕ))) → HeadFields
head_of x = record {
  major = 1;
  minor = 15;
  revision = x.0.0;
  format = x.0.1;
  compression = 0;
  moment = x.1.0;
  dbname = x.1.1.0;
  server = x.1.1.1.0;
  dumper = x.1.1.1.1;
}

unfoldable pub head : Part HeadHalt HeadFields
head =
    seen head_of (λ h. ((h.revision, h.format), (h.moment, (h.dbname, (h.server, h.dumper)))))
    (front then (moment then names))

-- ---- plain scripts

abbrev pub ends_line : List ℕ → Bool
ends_line [] = true
ends_line (b ∷ bytes) = b == 10

-- the text begins with these lines, the last of which its end or a line feed ends
abbrev pub begins_with_lines : List ℕ → List ℕ → Bool
begins_with_lines lines text = starts_with nat_eq text lines && ends_line (drop (length lines) text)

-- the first three lines of what pg_dump or pg_dumpall writes as a plain script
unfoldable pub is_text_dump : List ℕ → Bool
is_text_dump text =
    begins_with_lines (codes "--\n-- PostgreSQL database dump\n--") text || begins_with_lines (codes "--\n-- PostgreSQL database cluster dump\n--") text

-- the head of an archive, and the bytes behind it
abbrev pub head_in : List ℕ → Reading HeadFault HeadFields
head_in bytes = if is_text_dump bytes then Err TextDump else raised_at (placed_head_fault (length bytes)) (head.read bytes)

-- the head, and the place behind it
abbrev pub ended : {E A : Type 0} → ℕ → Reading E A → Result (A × ℕ) E
ended len (Ok x) = Ok (x.0, len - length x.1)
ended len (Err e) = Err e
