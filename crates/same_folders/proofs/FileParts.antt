-- Parts of two files that are the same, one behind another.
use Rattle.std.proofs.Common.{◌≡◌, ℕ, ◌+◌, ◌≤◌, [], ◌++◌, length, take, drop, Option, Some, None, Result, Ok, Err, option_map, unwrap_or, refl, sym, ap, subst, ◌∙◌, arith, take-add}
use Rattle.std.specs.Option.{IfSome}
use Rattle.std.specs.Prelude.{IfOk}
use Rattle.std.proofs.lemmas.List.{take_all, take-take}
use Rattle.dump_ports.specs.Tree.{Tree, FillsFront, bytes_at, text_at}
use Rattle.folder_io.specs.declared.file.ExportFile.TheVariants.{Data}
use Rattle.folder_io.specs.Folders.{file_of}
use Rattle.cat_model.specs.Values.{Bytes}
use Rattle.cat_names.specs.DataSets.{TextsByOid}
use Rattle.table_rows.specs.Values.{text_of}
use Rattle.key_sets.specs.declared.key_set.KeySet.{KeySet}
use Rattle.plain_loads.specs.declared.trying.TableTrial.{TableTrial}
use Rattle.plain_loads.specs.Trying.{Seen}
use Rattle.same_folders.specs.Streams.{IsAlike, IsSeen, StandsFor}

-- the first bytes of what was read
pub front_read : (left buffer : Bytes) (n k : ℕ) → k ≤ n → FillsFront left buffer n → take k buffer ≡ take k left
front_read left buffer n k le fills = sym (shorter buffer) ∙ ap (take k) fills.front ∙ shorter left
  where
    shorter : (xs : Bytes) → take k (take n xs) ≡ take k xs
    shorter xs = take-take k n xs le

pub same_more : (text other : Bytes) (done n : ℕ) → take done text ≡ take done other → take n (drop done text) ≡ take n (drop done other) → take (done + n) text ≡ take (done + n) other
same_more text other done n so_far next =
    take-add done n text
    ∙ ap (λ (xs : Bytes). xs ++ take n (drop done text)) so_far
    ∙ ap (λ (xs : Bytes). take done other ++ xs) next
    ∙ sym (take-add done n other)

pub seen_on : (trial : TableTrial) (keys : KeySet) (text : Bytes) (done n : ℕ) → Seen trial keys (take done text ++ take n (drop done text)) → Seen trial keys (take (done + n) text)
seen_on trial keys text done n seen = subst (Seen trial keys) (sym (take-add done n text)) seen

pub all_same : (text other : Bytes) (done : ℕ) → length text ≤ done → length other ≤ done → take done text ≡ take done other → text ≡ other
all_same text other done one two same = sym (take_all done text one) ∙ same ∙ take_all done other two

pub all_seen : (trial : TableTrial) (keys : KeySet) (text : Bytes) (done : ℕ) → length text ≤ done → Seen trial keys (take done text) → Seen trial keys text
all_seen trial keys text done le seen = subst (Seen trial keys) (take_all done text le) seen

-- the files of two names that have one length and one text
pub seen_of_both : (tree : Tree) (first second : Bytes) (trial : TableTrial) (len : ℕ) (keys : KeySet) → option_map (λ (t : Bytes). length t) (text_at tree first) ≡ Some len → option_map (λ (t : Bytes). length t) (text_at tree second) ≡ Some len
    → (length (bytes_at tree first) ≤ len → length (bytes_at tree second) ≤ len → bytes_at tree first ≡ bytes_at tree second) → (length (bytes_at tree first) ≤ len → Seen trial keys (bytes_at tree first))
    → IsSeen tree first second trial len keys
seen_of_both tree first second trial len keys one other same seen = by (text_at tree first) (text_at tree second) refl refl one other same seen
  where
    by : (a b : Option Bytes) → text_at tree first ≡ a → text_at tree second ≡ b → option_map (λ (t : Bytes). length t) a ≡ Some len → option_map (λ (t : Bytes). length t) b ≡ Some len
        → (length (unwrap_or a []) ≤ len → length (unwrap_or b []) ≤ len → unwrap_or a [] ≡ unwrap_or b []) → (length (unwrap_or a []) ≤ len → Seen trial keys (unwrap_or a [])) → IsSeen tree first second trial len keys
    by None b is_a is_b long_a long_b same seen = absurd cc
    by (Some a) None is_a is_b long_a long_b same seen = absurd cc
    by (Some a) (Some b) is_a is_b long_a long_b same seen =
        let many_a : length a ≡ len = cc in
        let many_b : length b ≡ len = cc in
        let one_text : a ≡ b = same (omega arith) (omega arith) in
        record { text = a; one = is_a; other = is_b ∙ ap (λ (t : Bytes). Some t) (sym one_text); many = many_a; seen = seen (omega arith) }

pub if_some : {A : Type 0} (o : Option A) (P Q : A → Type 0) → ((a : A) → P a → Q a) → IfSome o P → IfSome o Q
if_some None P Q weaker p = p
if_some (Some a) P Q weaker p = weaker a p

pub both_ok : {A E : Type 0} (r : Result A E) (P Q S : A → Type 0) → ((a : A) → P a → Q a → S a) → IfOk r P → IfOk r Q → IfOk r S
both_ok (Ok a) P Q S together p q = together a p q
both_ok (Err e) P Q S together p q = tt

-- a data file that was seen in both folders
pub alike_of : (first second : Bytes) (tree : Tree) (oid : ℕ) (trial : TableTrial) (len : ℕ) (keys : KeySet) → IsSeen tree (file_of first (Data oid)) (file_of second (Data oid)) trial len keys → IsAlike first second tree oid len
alike_of first second tree oid trial len keys seen = record {
  same = record { text = seen.text; one = seen.one; other = seen.other };
  many = ap (λ (o : Option Bytes). length (unwrap_or o [])) seen.one ∙ seen.many;
}

-- and the text that stands for its table
pub stands_seen : (first second : Bytes) (tree : Tree) (texts : TextsByOid) (oid : ℕ) (trial : TableTrial) (len : ℕ) (keys : KeySet) → IsSeen tree (file_of first (Data oid)) second trial len keys → StandsFor first tree texts oid → Seen trial keys (text_of texts oid)
stands_seen first second tree texts oid trial len keys seen stands =
    subst (Seen trial keys) (sym (stands ∙ ap (λ (o : Option Bytes). unwrap_or o []) seen.one)) seen.seen
