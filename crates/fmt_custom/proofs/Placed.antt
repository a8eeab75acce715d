-- The entries with the places of their blocks are written anew in the place of those without.
use Rattle.std.proofs.Common.{◌≡◌, ℕ, ◌+◌, ◌<◌, ◌^◌, Bool, true, false, pos, List, [], ◌∷◌, ◌++◌, length, Ok, refl, sym, ap, subst, ◌∙◌, arith, length-append}
use Rattle.std.specs.List.{AllByRecursion}
use Rattle.std.proofs.lemmas.List.{drop_at}
use Rattle.dump_ports.specs.Tree.{overwritten}
use Rattle.toc_entry.specs.declared.entry.Entry.{Entry}
use Rattle.toc_entry.specs.declared.entry.Extra.{Extra}
use Rattle.toc_entry.specs.declared.entry.Extra.TheVariants.{Place, File}
use Rattle.toc_layout.specs.Entries.{whole, dump_id, body, extra, identity, labels, three, setting, dependencies}
use Rattle.toc_layout.specs.Heads.{HeadFields, head}
use Rattle.toc_layout.specs.Values.{IsExtra, IsEntry}
use Rattle.toc_layout.specs.Writable.{ExtraCanBeWritten, EntryCanBeWritten, is_file, entry_text}
use Rattle.toc_table.specs.Writing.{entries_text, toc_text, HasOwnIds, EntryFits}
use Rattle.fmt_custom.specs.Customs.{custom_in}
use Rattle.fmt_custom.specs.Stored.{Stored, entries_of, block_text, blocks_text, custom_text, place_behind, first_place, custom_of, IsPiece, OffsetLeads, OffsetsLead, CustomFits, placed_by, placed, placed_at, all_placed}
use Rattle.fmt_custom.specs.Writing.{front_text}
use Rattle.fmt_custom.proofs.Written.{written_custom}

-- ---- the blocks stay

blocks_same : (at : ℕ) (ss : List Stored) → blocks_text (placed_at at ss) ≡ blocks_text ss
blocks_same at [] = refl
blocks_same at (s ∷ ss) = ap (λ (x : List ℕ). block_text s ++ x) (blocks_same (place_behind at s) ss)

pieces_same : (at : ℕ) (ss : List Stored) → AllByRecursion (λ (s : Stored). AllByRecursion IsPiece s.pieces) ss → AllByRecursion (λ (s : Stored). AllByRecursion IsPiece s.pieces) (placed_at at ss)
pieces_same at [] are = tt
pieces_same at (s ∷ ss) are = (are.0, pieces_same (place_behind at s) ss are.1)

-- ---- the offsets lead to them

leads_by : (b : Bool) (at : ℕ) (x : Extra) → OffsetLeads at b x → OffsetLeads at b (placed_by b at x)
leads_by false at x leads = leads
leads_by true at x leads = λ is. (refl, refl)

all_lead : (at : ℕ) (ss : List Stored) → OffsetsLead at ss → OffsetsLead at (placed_at at ss)
all_lead at [] leads = tt
all_lead at (s ∷ ss) leads = (leads_by s.entry.has_rows at s.entry.extra leads.0, all_lead (place_behind at s) ss leads.1)

-- ---- the entries can be written

is_extra : (b : Bool) (at : ℕ) (x : Extra) → at < 2 ^ 64 → IsExtra x → IsExtra (placed_by b at x)
is_extra false at x low is = is
is_extra true at x low is = low

can_be : (b : Bool) (at : ℕ) (x : Extra) → ExtraCanBeWritten x → ExtraCanBeWritten (placed_by b at x)
can_be false at x can = can
can_be true at x can = (omega arith, omega arith)

no_file : (b : Bool) (at : ℕ) (x : Extra) → is_file x ≡ false → is_file (placed_by b at x) ≡ false
no_file false at x is = is
no_file true at x is = refl

value_with : (e : Entry) (x : Extra) → IsEntry e → IsExtra x → IsEntry (record e { extra = x })
value_with e x value is = record {
  dump_id = value.dump_id;
  tableoid = value.tableoid;
  oid = value.oid;
  tag = value.tag;
  desc = value.desc;
  defn = value.defn;
  drop_stmt = value.drop_stmt;
  copy_stmt = value.copy_stmt;
  namespace = value.namespace;
  tablespace = value.tablespace;
  tableam = value.tableam;
  owner = value.owner;
  depends = value.depends;
  extra = is;
}

can_with : (e : Entry) (x : Extra) → EntryCanBeWritten e → ExtraCanBeWritten x → EntryCanBeWritten (record e { extra = x })
can_with e x can is = record {
  dump_id = can.dump_id;
  section = can.section;
  texts = record {
    tag = can.texts.tag;
    desc = can.texts.desc;
    defn = can.texts.defn;
    drop_stmt = can.texts.drop_stmt;
    copy_stmt = can.texts.copy_stmt;
    namespace = can.texts.namespace;
    tablespace = can.texts.tablespace;
    tableam = can.texts.tableam;
    owner = can.texts.owner;
  };
  extra = is;
}

all_fit : (at : ℕ) (ss : List Stored) → at + length (blocks_text ss) < 2 ^ 64 → AllByRecursion (EntryFits false) (entries_of ss) → AllByRecursion (EntryFits false) (entries_of (placed_at at ss))
all_fit at [] low fit = tt
all_fit at (s ∷ ss) low fit =
    let b = s.entry.has_rows in
    let x = s.entry.extra in (
      record {
        value = value_with s.entry (placed_by b at x) fit.0.value (is_extra b at x (omega (arith, low)) fit.0.value.extra);
        can = can_with s.entry (placed_by b at x) fit.0.can (can_be b at x fit.0.can.extra);
        kind = no_file b at x fit.0.kind;
      },
      all_fit (place_behind at s) ss (omega (arith, low, length-append (block_text s) (blocks_text ss))) fit.1,
    )

own_ids : (at : ℕ) (earlier : List ℕ) (ss : List Stored) → HasOwnIds earlier (entries_of ss) → HasOwnIds earlier (entries_of (placed_at at ss))
own_ids at earlier [] own = tt
own_ids at earlier (s ∷ ss) own = (own.0, own_ids (place_behind at s) (s.entry.dump_id ∷ earlier) ss own.1)

as_many : (at : ℕ) (ss : List Stored) → length (entries_of (placed_at at ss)) ≡ length (entries_of ss)
as_many at [] = refl
as_many at (s ∷ ss) = omega (arith, as_many (place_behind at s) ss)

-- ---- the front stays as long

behind : (front x y : List ℕ) → length x ≡ length y → length (front ++ x) ≡ length (front ++ y)
behind front x y same = omega (arith, same, length-append front x, length-append front y)

extra_as_long : (b : Bool) (at : ℕ) (x : Extra) → is_file x ≡ false → length ((extra false).write (placed_by b at x)) ≡ length ((extra false).write x)
unfolding extra
extra_as_long false at x is = refl
extra_as_long true at (Place state offset) is = refl
extra_as_long true at (File name) is = absurd cc

entry_as_long : (e : Entry) (x : Extra) → is_file e.extra ≡ false → is_file x ≡ false → length ((extra false).write x) ≡ length ((extra false).write e.extra) → length (entry_text (record e { extra = x })) ≡ length (entry_text e)
unfolding body
entry_as_long e x old new same =
    rw (old, new)
    (behind (dump_id.write e.dump_id) _ _
    (behind (identity.write (e.has_rows, (e.tableoid, e.oid))) _ _
    (behind (labels.write (e.tag, (e.desc, e.section))) _ _
    (behind (three.write (e.defn, (e.drop_stmt, e.copy_stmt))) _ _
    (behind (setting.write ((e.namespace, (e.tablespace, e.tableam)), (e.owner, tt))) _ _
    (behind (dependencies.write e.depends) _ _ same))))))

entries_as_long : (at : ℕ) (ss : List Stored) → AllByRecursion (EntryFits false) (entries_of ss) → length (entries_text (entries_of (placed_at at ss))) ≡ length (entries_text (entries_of ss))
entries_as_long at [] fit = refl
entries_as_long at (s ∷ ss) fit =
    let b = s.entry.has_rows in
    let x = s.entry.extra in
    let one : length (entry_text (placed at s).entry) ≡ length (entry_text s.entry) = entry_as_long s.entry (placed_by b at x) fit.0.kind (no_file b at x fit.0.kind) (extra_as_long b at x fit.0.kind) in
    omega (
      arith,
      one,
      entries_as_long (place_behind at s) ss fit.1,
      length-append (entry_text (placed at s).entry) (entries_text (entries_of (placed_at (place_behind at s) ss))),
      length-append (entry_text s.entry) (entries_text (entries_of ss)),
    )

toc_as_long : (at : ℕ) (ss : List Stored) → AllByRecursion (EntryFits false) (entries_of ss) → length (toc_text (entries_of (placed_at at ss))) ≡ length (toc_text (entries_of ss))
toc_as_long at ss fit =
    ap (λ (n : ℕ). length (whole.write (pos n) ++ entries_text (entries_of (placed_at at ss)))) (as_many at ss)
    ∙ behind (whole.write (pos (length (entries_of ss)))) (entries_text (entries_of (placed_at at ss))) (entries_text (entries_of ss)) (entries_as_long at ss fit)

pub front_as_long : (h : HeadFields) (ss : List Stored) → CustomFits h ss → length (front_text h (entries_of (all_placed h ss))) ≡ first_place h ss
front_as_long h ss fits =
    behind (head.write h) (toc_text (entries_of (all_placed h ss))) (toc_text (entries_of ss)) (toc_as_long (first_place h ss) ss fits.toc.each)

-- ---- the archive

pub placed_fits : (h : HeadFields) (ss : List Stored) → CustomFits h ss → length (custom_text h ss) < 2 ^ 64 → CustomFits h (all_placed h ss)
placed_fits h ss fits low =
    let at = first_place h ss in
    record {
      head = fits.head;
      can = fits.can;
      format = fits.format;
      toc = record {
        few = rw (as_many at ss) fits.toc.few;
        each = all_fit at ss (omega (arith, low, length-append (front_text h (entries_of ss)) (blocks_text ss))) fits.toc.each;
        own = own_ids at [] ss fits.toc.own;
      };
      pieces = pieces_same at ss fits.pieces;
      offsets = subst (λ (place : ℕ). OffsetsLead place (all_placed h ss)) (sym (front_as_long h ss fits)) (all_lead at ss fits.offsets);
    }

over : (new old behind : List ℕ) → length new ≡ length old → overwritten 0 new (old ++ behind) ≡ new ++ behind
over new old behind same = ap (λ (x : List ℕ). new ++ x) (drop_at old behind (0 + length new) (omega (arith, same)))

patched_text : (h : HeadFields) (ss : List Stored) → CustomFits h ss → overwritten 0 (front_text h (entries_of (all_placed h ss))) (custom_text h ss) ≡ custom_text h (all_placed h ss)
patched_text h ss fits =
    let new = front_text h (entries_of (all_placed h ss)) in
    over new (front_text h (entries_of ss)) (blocks_text ss) (front_as_long h ss fits) ∙ ap (λ (x : List ℕ). new ++ x) (sym (blocks_same (first_place h ss) ss))

pub patched_custom : (h : HeadFields) (ss : List Stored) → CustomFits h ss → length (custom_text h ss) < 2 ^ 64
    → custom_in (overwritten 0 (front_text h (entries_of (all_placed h ss))) (custom_text h ss)) ≡ Ok (custom_of h (all_placed h ss))
patched_custom h ss fits low = ap custom_in (patched_text h ss fits) ∙ written_custom h (all_placed h ss) (placed_fits h ss fits low)
