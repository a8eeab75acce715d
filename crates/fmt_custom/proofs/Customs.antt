-- Reading the parts of an archive one after the other.
use Rattle.std.proofs.Common.{◌≡◌, ℕ, Bool, true, false, List, [], length, Option, Some, None, Result, Ok, Err, refl, sym, ap, ◌∙◌, eqb}
use Rattle.std.specs.Prelude.{MatchOption, ⊤}
use Rattle.toc_parts.specs.Parts.{Reading, ◌>>=◌, raised_at}
use Rattle.toc_entry.specs.declared.entry.Entry.{Entry}
use Rattle.toc_layout.specs.declared.fault.ArchiveFault.{ArchiveFault}
use Rattle.toc_layout.specs.declared.fault.ArchiveFault.TheVariants as faults
use Rattle.toc_layout.specs.Faults.{placed_head_fault}
use Rattle.toc_layout.specs.Heads.{HeadFields, head, head_in, is_text_dump}
use Rattle.toc_layout.proofs.HeadLaws.{head_laws}
use Rattle.toc_table.specs.Tables.{toc, lefts, placed_toc_fault}
use Rattle.toc_table.proofs.TocLaws.{toc_laws}
use Rattle.fmt_custom.specs.Blocks.{placed_block_fault}
use Rattle.fmt_custom.specs.Customs.{Found, found_in, first_fault, Custom, unless, raised_to, custom_behind, of_format, custom_in}
use Rattle.toc_table.specs.Tables.{ids_with_rows}
use Rattle.fmt_custom.specs.Indexes.{IsSuffix}
use Rattle.fmt_custom.proofs.Found.{is_suffix, suffix_of_suffix}

raised_ok : {E F A : Type 0} (f : E → F) (r : Reading E A) (y : A × List ℕ) → raised_at f r ≡ Ok y → r ≡ Ok y
raised_ok f (Ok x) y e = cc
raised_ok f (Err d) y e = absurd cc

-- ---- the entries and the blocks

abbrev with_found : ℕ → HeadFields → List Entry → List ℕ → List Found → Result Custom ArchiveFault
with_found len h es ls found = unless (first_fault found len es ls) (record { head = h; entries = es; found = found })

pub toc_suffix : (len : ℕ) (bytes rest : List ℕ) (es : List Entry) (mid : List ℕ) → IsSuffix rest bytes → raised_at (placed_toc_fault len) ((toc false).read rest) ≡ Ok (es, mid) → IsSuffix mid bytes
toc_suffix len bytes rest es mid s e =
    let f = (toc_laws false).found rest es mid (raised_ok (placed_toc_fault len) ((toc false).read rest) (es, mid) e) in
    suffix_of_suffix bytes rest f.front mid s f.parts

abbrev due_blocks : ℕ → List Entry → List ℕ → Result (List Found) ArchiveFault
due_blocks len es mid = raised_to (placed_block_fault len) (found_in len (ids_with_rows [] es) mid)

toc_is : (len : ℕ) (h : HeadFields) (rest : List ℕ) (es : List Entry) (mid : List ℕ) → raised_at (placed_toc_fault len) ((toc false).read rest) ≡ Ok (es, mid) → custom_behind len h rest ≡ (due_blocks len es mid >>= with_found len h es (lefts false rest))
toc_is len h rest es mid e = ap (λ r. r >>= λ t. due_blocks len t.0 t.1 >>= with_found len h t.0 (lefts false rest)) e

pub blocks_fail : (len : ℕ) (h : HeadFields) (rest : List ℕ) (es : List Entry) (mid : List ℕ) (fault : Option ArchiveFault) → raised_at (placed_toc_fault len) ((toc false).read rest) ≡ Ok (es, mid)
    → MatchOption fault ⊤ (λ f. due_blocks len es mid ≡ Err f) → MatchOption fault ⊤ (λ f. custom_behind len h rest ≡ Err f)
blocks_fail len h rest es mid None e is = tt
blocks_fail len h rest es mid (Some f) e is = toc_is len h rest es mid e ∙ ap (λ r. r >>= with_found len h es (lefts false rest)) is

pub blocks_are : (len : ℕ) (h : HeadFields) (rest : List ℕ) (es : List Entry) (mid : List ℕ) (found : List Found) (first : Option ArchiveFault) → raised_at (placed_toc_fault len) ((toc false).read rest) ≡ Ok (es, mid)
    → due_blocks len es mid ≡ Ok found → first_fault found len es (lefts false rest) ≡ first → custom_behind len h rest ≡ unless first (record { head = h; entries = es; found = found })
blocks_are len h rest es mid found first e is checked =
    toc_is len h rest es mid e ∙ ap (λ r. r >>= with_found len h es (lefts false rest)) is ∙ ap (λ o. unless {A = Custom} o (record { head = h; entries = es; found = found })) checked

-- ---- the head

head_ok : (bytes : List ℕ) (b : Bool) (h : HeadFields) (rest : List ℕ) → is_text_dump bytes ≡ b → head_in bytes ≡ Ok (h, rest) → head.read bytes ≡ Ok (h, rest)
head_ok bytes true h rest is e = absurd (let stuck = rw is at e in cc)
head_ok bytes false h rest is e = raised_ok (placed_head_fault (length bytes)) (head.read bytes) (h, rest) (rw is at e)

pub head_suffix : (bytes : List ℕ) (h : HeadFields) (rest : List ℕ) → raised_at faults.Head (head_in bytes) ≡ Ok (h, rest) → IsSuffix rest bytes
head_suffix bytes h rest e =
    let inner = raised_ok faults.Head (head_in bytes) (h, rest) e in
    let f = head_laws.found bytes h rest (head_ok bytes (is_text_dump bytes) h rest refl inner) in
    is_suffix bytes f.front rest f.parts

head_is : (bytes : List ℕ) (h : HeadFields) (rest : List ℕ) → raised_at faults.Head (head_in bytes) ≡ Ok (h, rest) → custom_in bytes ≡ of_format (length bytes) h rest
unfolding custom_in
head_is bytes h rest e = ap (λ r. r >>= λ x. of_format (length bytes) x.0 x.1) e

pub head_fails : (bytes : List ℕ) (fault : Option ArchiveFault) → MatchOption fault ⊤ (λ f. raised_at faults.Head (head_in bytes) ≡ Err f) → MatchOption fault ⊤ (λ f. custom_in bytes ≡ Err f)
unfolding custom_in
head_fails bytes None e = tt
head_fails bytes (Some f) e = ap (λ r. r >>= λ x. of_format (length bytes) x.0 x.1) e

pub other_format : (bytes : List ℕ) (h : HeadFields) (rest : List ℕ) → raised_at faults.Head (head_in bytes) ≡ Ok (h, rest) → eqb h.format 1 ≡ false → custom_in bytes ≡ Err (faults.WrongFormat h.format)
other_format bytes h rest e other = head_is bytes h rest e ∙ rw other refl

pub this_format : (bytes : List ℕ) (h : HeadFields) (rest : List ℕ) → raised_at faults.Head (head_in bytes) ≡ Ok (h, rest) → eqb h.format 1 ≡ true → custom_in bytes ≡ custom_behind (length bytes) h rest
this_format bytes h rest e same = head_is bytes h rest e ∙ rw same refl

-- what was found of the entries and places that were lent
pub checked : (found : List Found) (len : ℕ) (es lent : List Entry) (ls ls' due : List ℕ) (r first : Option ArchiveFault) → lent ≡ es → ls' ≡ ls → ls ≡ due → r ≡ first_fault found len lent ls' → r ≡ first → first_fault found len es due ≡ first
checked found len es lent ls ls' due r first same_es same_ls same_due is was =
    ap (λ x. first_fault found len x due) (sym same_es) ∙ ap (λ x. first_fault found len lent x) (sym (same_ls ∙ same_due)) ∙ sym is ∙ was
