-- The place of its rows stands at the end of an entry.
use Rattle.std.proofs.Common.{◌≡◌, ℕ, ◌+◌, ◌<◌, ◌^◌, Bool, true, false, List, [], ◌∷◌, ◌++◌, length, take, decimal, codes, Result, Ok, Err, OnOk, refl, sym, ap, ◌∙◌, append_assoc, arith, length-append}
use Rattle.std.proofs.lemmas.Fmt.{length-decimal-le}
use Rattle.std.proofs.lemmas.List.{take-append-le, take_all}
use Rattle.toc_parts.specs.Fields.{integer, string, span}
use Rattle.toc_entry.specs.declared.entry.Entry.{Entry}
use Rattle.toc_entry.specs.declared.entry.Extra.{Extra}
use Rattle.toc_entry.specs.declared.entry.Extra.TheVariants.{Place, File}
use Rattle.toc_layout.specs.Entries.{dump_id, identity, labels, three, setting, dependencies, extra, body}
use Rattle.toc_layout.specs.Writable.{IsShort, entry_text}
use Rattle.archive_entries.specs.Extras.{with_extra, bare_text, extra_text, file_name, told_by, told}

six : (a b c d e f x : List ℕ) → a ++ (b ++ (c ++ (d ++ (e ++ (f ++ x))))) ≡ (a ++ (b ++ (c ++ (d ++ (e ++ f))))) ++ x
six a b c d e f x = simp append_assoc

pub entry_as : (e : Entry) (x : Extra) → entry_text (with_extra x e) ≡ bare_text e ++ extra_text x
unfolding body bare_text
entry_as e x =
    six (dump_id.write e.dump_id) (identity.write (e.has_rows, (e.tableoid, e.oid))) (labels.write (e.tag, (e.desc, e.section))) (three.write (e.defn, (e.drop_stmt, e.copy_stmt)))
    (setting.write ((e.namespace, (e.tablespace, e.tableam)), (e.owner, tt))) (dependencies.write e.depends) (extra_text x)

pub entry_is : (e : Entry) → entry_text e ≡ bare_text e ++ extra_text e.extra
entry_is e = entry_as e e.extra

pub place_length : (state offset : ℕ) → 9 ≡ length (extra_text (Place state offset))
unfolding extra
place_length state offset = refl

pub name_length : (name : List ℕ) → 5 + length name ≡ length (extra_text (File name))
unfolding extra string span integer
name_length name = omega arith

pub cut_back : (old bare extra whole : List ℕ) (n : ℕ) → whole ≡ old ++ (bare ++ extra) → n + length extra ≡ length whole → take n whole ≡ old ++ bare
cut_back old bare extra whole n e l =
    ap (take n) (e ∙ sym (append_assoc old bare extra))
    ∙ take-append-le n (old ++ bare) extra (omega (arith, long))
    ∙ take_all n (old ++ bare) (omega (arith, long))
  where
    long : n ≡ length (old ++ bare)
    long = omega (arith, ap length e, length-append old (bare ++ extra), length-append bare extra, length-append old bare)

pub grown : {T E : Type 0} (r : Result T E) (old bare x text mid new : List ℕ) → mid ≡ old ++ bare → text ≡ bare ++ x → OnOk r (new ≡ mid ++ x) → OnOk r (new ≡ old ++ text)
grown (Ok v) old bare x text mid new m t p = p ∙ ap (λ (l : List ℕ). l ++ x) m ∙ append_assoc old bare x ∙ ap (λ (l : List ℕ). old ++ l) (sym t)
grown (Err f) old bare x text mid new m t p = p

pub short_name : (has_rows : Bool) (id : ℕ) → id < 2 ^ 32 → IsShort (file_name has_rows id)
short_name false id low = omega arith
short_name true id low =
    omega (arith, length-append (decimal id) (codes ".dat"), length-decimal-le 10 id (omega arith) (omega arith) (omega arith))

told_length_by : (e : Entry) (es : List Entry) (b : Bool) (ps : List ℕ) → ((left : List ℕ) → length (told es left) ≡ length es) → length (told_by e b ps (told es)) ≡ length (e ∷ es)
told_length_by e es false ps h = omega (arith, h ps)
told_length_by e es true [] h = omega (arith, h [])
told_length_by e es true (p ∷ ps) h = omega (arith, h ps)

pub told_length : (es : List Entry) (places : List ℕ) → length (told es places) ≡ length es
unfolding told
told_length [] places = refl
told_length (e ∷ es) places = told_length_by e es e.has_rows places (told_length es)
