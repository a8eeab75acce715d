-- The small archive can be written.
use Rattle.std.proofs.Common.{◌≡◌, ℕ, zero, suc, ◌<◌, ◌^◌, Bool, true, false, List, [], ◌∷◌, length, Some, None, refl, subst, arith, codes}
use Rattle.std.specs.Option.{ForSome}
use Rattle.std.specs.Prelude.{nat_lt, ◌&&◌}
use Rattle.std.specs.Str.{IsUtf8, IsAscii}
use Rattle.std.proofs.lemmas.Bool.{ltb-true, and_parts}
use Rattle.std.proofs.lemmas.Str.{IsUtf8-from_ascii}
use Rattle.toc_parts.proofs.FieldFits.{natural_is_part}
use Rattle.toc_layout.specs.Values.{IsHead, IsEntry}
use Rattle.toc_layout.specs.Writable.{HeadCanBeWritten, EntryCanBeWritten}
use Rattle.toc_table.specs.Writing.{TocFits}
use Rattle.fmt_custom.specs.Stored.{CustomFits, entries_of}
use Rattle.fmt_custom.specs.Worked.{worked_head, worked_entry, worked_stored}

-- bytes below 128
abbrev is_low : List ℕ → Bool
is_low [] = true
is_low (b ∷ bytes) = nat_lt b 128 && is_low bytes

ascii : (bytes : List ℕ) → is_low bytes ≡ true → IsAscii bytes
ascii [] e k = omega arith
ascii (b ∷ bytes) e zero = ltb-true b 128 (and_parts (nat_lt b 128) (is_low bytes) e).0
ascii (b ∷ bytes) e (suc k) = ascii bytes (and_parts (nat_lt b 128) (is_low bytes) e).1 k

ascii_text : (bytes : List ℕ) → is_low bytes ≡ true → IsUtf8 bytes
ascii_text bytes e = IsUtf8-from_ascii bytes (ascii bytes e)

no_text : (P : List ℕ → Type 0) → ForSome None P
no_text P t e = absurd cc

a_text : (P : List ℕ → Type 0) (text : List ℕ) → P text → ForSome (Some text) P
a_text P text holds t e = let same : text ≡ t = cc in subst P same holds

head_value : IsHead worked_head
head_value = record {
  moment = record {
    sec = natural_is_part 8 (omega arith);
    min = natural_is_part 7 (omega arith);
    hour = natural_is_part 6 (omega arith);
    mday = natural_is_part 5 (omega arith);
    mon = natural_is_part 2 (omega arith);
    year = natural_is_part 124 (omega arith);
    isdst = natural_is_part 0 (omega arith);
  };
  dbname = ascii_text (codes "shop") refl;
  server = ascii_text (codes "16.0") refl;
  dumper = ascii_text (codes "16.0") refl;
}

head_can : HeadCanBeWritten worked_head
head_can = record { major = refl; minor = refl; compression = refl; dbname = omega arith; server = omega arith; dumper = omega arith }

entry_value : IsEntry worked_entry
entry_value = record {
  dump_id = omega arith;
  tableoid = omega arith;
  oid = omega arith;
  tag = ascii_text (codes "t") refl;
  desc = ascii_text (codes "TABLE DATA") refl;
  defn = no_text IsUtf8;
  drop_stmt = no_text IsUtf8;
  copy_stmt = a_text IsUtf8 (codes "COPY a.t (id) FROM stdin;\n") (ascii_text (codes "COPY a.t (id) FROM stdin;\n") refl);
  namespace = a_text IsUtf8 (codes "a") (ascii_text (codes "a") refl);
  tablespace = no_text IsUtf8;
  tableam = no_text IsUtf8;
  owner = no_text IsUtf8;
  depends = (omega arith, tt);
  extra = omega arith;
}

abbrev Short : List ℕ → Type 0
Short text = length text < 2 ^ 32

entry_can : EntryCanBeWritten worked_entry
entry_can = record {
  dump_id = omega arith;
  section = (omega arith, omega arith);
  texts = record {
    tag = omega arith;
    desc = omega arith;
    defn = no_text Short;
    drop_stmt = no_text Short;
    copy_stmt = a_text Short (codes "COPY a.t (id) FROM stdin;\n") (omega arith);
    namespace = a_text Short (codes "a") (omega arith);
    tablespace = no_text Short;
    tableam = no_text Short;
    owner = no_text Short;
  };
  extra = (omega arith, omega arith);
}

toc_fits : TocFits false (entries_of worked_stored)
toc_fits = record { few = omega arith; each = (record { value = entry_value; can = entry_can; kind = refl }, tt); own = (refl, tt) }

pub worked_fits : CustomFits worked_head worked_stored
worked_fits = record {
  head = head_value;
  can = head_can;
  format = refl;
  toc = toc_fits;
  pieces = (((omega arith, omega arith), ((omega arith, omega arith), tt)), tt);
  offsets = (λ is. absurd (omega arith), tt);
}
