-- What the tests of a head and of entries tell.
use Rattle.std.proofs.Common.{◌≡◌, ℕ, ◌<◌, ◌≤◌, ◌&&◌, Bool, true, false, List, [], ◌∷◌, All, length, Option, Some, None, refl, sym, ap, ◌∙◌, arith}
use Rattle.std.specs.Option.{ForSome}
use Rattle.std.proofs.lemmas.Bool.{false≢true, leb-true, ltb-true, eqb-true}
use Rattle.std.proofs.lemmas.List.Elements.{All-nil, All-cons}
use Rattle.toc_entry.specs.declared.entry.Entry.{Entry}
use Rattle.toc_entry.specs.declared.entry.Extra.{Extra}
use Rattle.toc_entry.specs.declared.entry.Extra.TheVariants.{Place, File}
use Rattle.toc_layout.specs.Heads.{HeadFields}
use Rattle.toc_layout.specs.Writable.{IsShort, ExtraCanBeWritten, EntryCanBeWritten}
use Rattle.archive_entries.specs.Fits.{is_short, is_short_or_none, has_short_labels, has_short_statements, has_short_setting, is_extra, is_section, can_be_told, is_next, are_told, is_head, can_be_archived, Rise, CanBeArchived}

both : (a b : Bool) → (a && b) ≡ true → (a ≡ true) × (b ≡ true)
both true b e = (refl, e)
both false b e = absurd (false≢true e)

first_false : (a b : Bool) → a ≡ false → (a && b) ≡ false
first_false true b e = absurd (false≢true (sym e))
first_false false b e = refl

first_true : (a b : Bool) → a ≡ true → (a && b) ≡ b
first_true true b e = refl
first_true false b e = absurd (false≢true e)

-- ---- one after another

pub told_none : (last : ℕ) (rest : List Entry) → rest ≡ [] → are_told last rest ≡ true
unfolding are_told
told_none last rest e = ap (are_told last) e

pub told_false : (last : ℕ) (e : Entry) (later rest : List Entry) → rest ≡ e ∷ later → is_next last e ≡ false → are_told last rest ≡ false
unfolding are_told
told_false last e later rest is fails = ap (are_told last) is ∙ first_false (is_next last e) (are_told e.dump_id later) fails

pub told_true : (last : ℕ) (e : Entry) (later rest : List Entry) → rest ≡ e ∷ later → is_next last e ≡ true → are_told last rest ≡ are_told e.dump_id later
unfolding are_told
told_true last e later rest is holds = ap (are_told last) is ∙ first_true (is_next last e) (are_told e.dump_id later) holds

-- ---- what they tell

short : (text : List ℕ) → is_short text ≡ true → IsShort text
short text e = ltb-true (length text) 4294967296 e

short_or_none : (text : Option (List ℕ)) → is_short_or_none text ≡ true → ForSome text IsShort
short_or_none None e = λ x p. absurd cc
short_or_none (Some text) e = λ x p. let same : text ≡ x = cc in rw (← same) (short text e)

extra_told : (x : Extra) → is_extra x ≡ true → ExtraCanBeWritten x
extra_told (Place state offset) e = let p = both _ _ e in (leb-true 1 state p.0, leb-true state 3 p.1)
extra_told (File name) e = short name e

entry_told : (e : Entry) → 1 ≤ e.dump_id → can_be_told e ≡ true → EntryCanBeWritten e
unfolding can_be_told
entry_told e some is =
    let p = both (is_section e.section) _ is in
    let section = both _ _ p.0 in
    let q = both (has_short_labels e) _ p.1 in
    let labels = both _ _ q.0 in
    let r = both (has_short_statements e) _ q.1 in
    let statements = both (is_short_or_none e.defn) _ r.0 in
    let others = both _ _ statements.1 in
    let s = both (has_short_setting e) _ r.1 in
    let a = both (is_short_or_none e.namespace) _ s.0 in
    let b = both (is_short_or_none e.tablespace) _ a.1 in
    let c = both _ _ b.1 in
    record {
      dump_id = some;
      section = (leb-true 1 e.section section.0, leb-true e.section 4 section.1);
      texts = record {
        tag = short e.tag labels.0;
        desc = short e.desc labels.1;
        defn = short_or_none e.defn statements.0;
        drop_stmt = short_or_none e.drop_stmt others.0;
        copy_stmt = short_or_none e.copy_stmt others.1;
        namespace = short_or_none e.namespace a.0;
        tablespace = short_or_none e.tablespace b.0;
        tableam = short_or_none e.tableam c.0;
        owner = short_or_none e.owner c.1;
      };
      extra = extra_told e.extra s.1;
    }

each_told : (last : ℕ) (es : List Entry) → are_told last es ≡ true → All EntryCanBeWritten es × Rise last es
unfolding are_told
each_told last [] is = (All-nil EntryCanBeWritten, tt)
each_told last (e ∷ es) is =
    let p = both (is_next last e) _ is in
    let q = both _ _ p.0 in
    let above : last < e.dump_id = ltb-true last e.dump_id q.0 in
    let others = each_told e.dump_id es p.1 in
    (All-cons EntryCanBeWritten e es (entry_told e (omega arith) q.1) others.0, (above, others.1))

pub archived : (h : HeadFields) (es : List Entry) → can_be_archived h es ≡ true → CanBeArchived h es
unfolding can_be_archived
archived h es is =
    let p = both (is_head h) _ is in
    let q = both _ _ p.1 in
    let major = both _ _ p.0 in
    let minor = both _ _ major.1 in
    let compression = both _ _ minor.1 in
    let dbname = both (is_short h.dbname) _ compression.1 in
    let names = both _ _ dbname.1 in
    let all = each_told 0 es q.1 in
    record {
      head = record {
        major = eqb-true h.major 1 major.0;
        minor = eqb-true h.minor 15 minor.0;
        compression = eqb-true h.compression 0 compression.0;
        dbname = short h.dbname dbname.0;
        server = short h.server names.0;
        dumper = short h.dumper names.1;
      };
      few = leb-true (length es) 200000 q.0;
      each = all.0;
      rise = all.1;
    }
