-- Entries at places, one place more.
use Rattle.std.proofs.Common.{◌≡◌, ℕ, ◌+◌, ◌<◌, List, [], ◌∷◌, ◌++◌, length, take, get_or, ap, ◌∙◌, sym, append_assoc, length-append}
use Rattle.std.proofs.lemmas.List.{take_more, append-nil}
use Rattle.std.proofs.lemmas.Grind.{flat_map-append}
use Rattle.std.specs.List.{flat_map, slice_get}
use Rattle.std.specs.Option.{option_to_list}
use Rattle.toc_entry.specs.declared.entry.Entry.{Entry}
use Rattle.list_files.specs.Lists.{list_line, entries_at}

one_more : (es : List Entry) (places : List ℕ) (k : ℕ) → k < length places →
    entries_at es (take (k + 1) places) ≡ entries_at es (take k places) ++ option_to_list (slice_get es (get_or places k 0))
one_more es places k below =
    ap (entries_at es) (take_more places k 0 below)
    ∙ flat_map-append (λ (i : ℕ). option_to_list (slice_get es i)) (take k places) (get_or places k 0 ∷ [])
    ∙ ap (λ (xs : List Entry). entries_at es (take k places) ++ xs) (append-nil (option_to_list (slice_get es (get_or places k 0))))

pub count_next : (es : List Entry) (places : List ℕ) (k count one : ℕ) → k < length places → count ≡ length (entries_at es (take k places)) → one ≡ length (option_to_list (slice_get es (get_or places k 0))) →
    count + one ≡ length (entries_at es (take (k + 1) places))
count_next es places k count one below so is =
    (λ i. so i + is i) ∙ sym (ap length (one_more es places k below) ∙ length-append (entries_at es (take k places)) (option_to_list (slice_get es (get_or places k 0))))

pub lines_next : (es : List Entry) (places : List ℕ) (k : ℕ) (old now new : List ℕ) → k < length places → now ≡ old ++ flat_map list_line (entries_at es (take k places)) →
    new ≡ now ++ flat_map list_line (option_to_list (slice_get es (get_or places k 0))) →
    new ≡ old ++ flat_map list_line (entries_at es (take (k + 1) places))
lines_next es places k old now new below so is =
    is ∙ ap (λ (xs : List ℕ). xs ++ flat_map list_line (option_to_list (slice_get es (get_or places k 0)))) so
    ∙ append_assoc old (flat_map list_line (entries_at es (take k places))) (flat_map list_line (option_to_list (slice_get es (get_or places k 0))))
    ∙ ap (λ (xs : List ℕ). old ++ xs) (sym (ap (flat_map list_line) (one_more es places k below) ∙ flat_map-append list_line (entries_at es (take k places)) (option_to_list (slice_get es (get_or places k 0)))))
