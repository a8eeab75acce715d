-- Lines of entries one after another.
use Rattle.std.proofs.Common.{◌≡◌, ℕ, zero, suc, ◌+◌, ◌<◌, ◌≤◌, ◌==◌, Bool, true, false, List, [], ◌∷◌, ◌++◌, length, take, drop, get_or, refl, ap, sym, subst, ◌∙◌, append_assoc, arith, if◌then◌else◌, eq-eqb, add-one, Option, Some, None, Result, Ok, Err, OnOk, IfOk}
use Rattle.std.proofs.lemmas.List.{drop_more, take_more, flat_map_more, append-nil}
use Rattle.std.specs.List.{flat_map, slice_get}
use Rattle.cat_model.specs.Values.{Bytes}
use Rattle.cat_model.specs.declared.cause.Cause.{Cause}
use Rattle.restore_plan.specs.declared.status.EntryStatus.{EntryStatus}
use Rattle.restore_plan.specs.declared.status.Note.{Note}
use Rattle.toc_entry.specs.declared.entry.Entry.{Entry}
use Rattle.restore_runs.specs.Reports.{own, error_line, note_lines, status_line, entry_lines}
use Rattle.restore_runs.specs.Statuses.{with_status, behind_status}

-- ---- the notes at the front

own_same : (id : ℕ) (note : Note) (notes : List Note) → note.dump_id ≡ id → own id (note ∷ notes) ≡ suc (own id notes)
own_same id note notes is = ap (λ (b : Bool). if b then suc (own id notes) else 0) (eq-eqb note.dump_id id is)

at_note : (id : ℕ) (notes : List Note) (k : ℕ) (note : Note) → k < length notes → note ≡ get_or notes k note → own id (drop k notes) ≡ own id (note ∷ drop (k + 1) notes)
at_note id notes k note below is = ap (own id) (drop_more notes k note below ∙ ap (λ (n : Note). n ∷ drop (k + 1) notes) (sym is))

-- one more that is of the entry
pub own_next : (id : ℕ) (notes : List Note) (k : ℕ) (note : Note) (n : ℕ) → k < length notes → note ≡ get_or notes k note → note.dump_id ≡ id →
    n + own id (drop k notes) ≡ own id notes → (n + 1) + own id (drop (k + 1) notes) ≡ own id notes
own_next id notes k note n below is same so =
    let more : own id (drop k notes) ≡ suc (own id (drop (k + 1) notes)) = at_note id notes k note below is ∙ own_same id note (drop (k + 1) notes) same in omega arith

own_other : (id : ℕ) (note : Note) (notes : List Note) → (note.dump_id == id) ≡ false → own id (note ∷ notes) ≡ 0
own_other id note notes is = ap (λ (b : Bool). if b then suc (own id notes) else 0) is

-- one that is of another entry
pub own_ends : (id : ℕ) (notes : List Note) (k : ℕ) (note : Note) (n : ℕ) → k < length notes → note ≡ get_or notes k note → (note.dump_id == id) ≡ false →
    n + own id (drop k notes) ≡ own id notes → n ≡ own id notes
own_ends id notes k note n below is other so =
    let none : own id (drop k notes) ≡ 0 = at_note id notes k note below is ∙ own_other id note (drop (k + 1) notes) other in omega arith

pub own_last : (id : ℕ) (notes : List Note) (k : ℕ) (n : ℕ) → drop k notes ≡ [] → n + own id (drop k notes) ≡ own id notes → n ≡ own id notes
own_last id notes k n ended so =
    let none : own id (drop k notes) ≡ 0 = ap (own id) ended in omega arith

-- ---- the lines of an entry's notes

pub one_more : (teller : Bytes) (e : Entry) (out before after : List ℕ) (notes : List Note) (k : ℕ) (note : Note) → before ≡ out ++ note_lines teller e (take k notes) → after ≡ before ++ error_line teller e note.cause → k < length notes → note ≡ get_or notes k note → after ≡ out ++ note_lines teller e (take (k + 1) notes)
one_more teller e out before after notes k note so added below is =
    added
    ∙ ap (λ (b : List ℕ). b ++ error_line teller e note.cause) so
    ∙ flat_map_more (λ (n : Note). error_line teller e n.cause) out (take k notes) note
    ∙ ap (λ (ns : List Note). out ++ note_lines teller e ns) (ap (λ (n : Note). take k notes ++ n ∷ []) is ∙ sym (take_more notes k note below))

-- ---- the lines of entries

at_entry : (teller : Bytes) (es : List Entry) (k : ℕ) (e : Entry) (statuses : List EntryStatus) (notes : List Note) → k < length es → e ≡ get_or es k e → entry_lines teller (drop k es) statuses notes ≡ entry_lines teller (e ∷ drop (k + 1) es) statuses notes
at_entry teller es k e statuses notes below is = ap (λ (xs : List Entry). entry_lines teller xs statuses notes) (drop_more es k e below ∙ ap (λ (x : Entry). x ∷ drop (k + 1) es) (sym is))

-- where there is no status, nothing is told
pub none_told : (teller : Bytes) (es : List Entry) (notes : List Note) → entry_lines teller es [] notes ≡ []
none_told teller [] notes = refl
none_told teller (e ∷ es) notes = refl

-- where there is one
pub one_told : (teller : Bytes) (e : Entry) (status : EntryStatus) (notes rest : List Note) (out all : List ℕ) (es : List Entry) (later : List EntryStatus) →
    all ≡ out ++ (note_lines teller e (take (own e.dump_id notes) notes) ++ status_line teller e status) → rest ≡ drop (own e.dump_id notes) notes →
    all ++ entry_lines teller es later rest ≡ out ++ entry_lines teller (e ∷ es) (status ∷ later) notes
one_told teller e status notes rest out all es later told left =
    let lines = note_lines teller e (take (own e.dump_id notes) notes) ++ status_line teller e status in
    (λ i. told i ++ entry_lines teller es later (left i)) ∙ append_assoc out lines (entry_lines teller es later (drop (own e.dump_id notes) notes))

-- ---- statuses at places

first_at : (ss : List EntryStatus) (k : ℕ) → with_status (slice_get ss k) (drop (suc k) ss) ≡ drop k ss
first_at [] zero = refl
first_at [] (suc k) = refl
first_at (s ∷ ss) zero = refl
first_at (s ∷ ss) (suc k) = first_at ss k

behind_at : (ss : List EntryStatus) (k : ℕ) → behind_status (slice_get ss k) (drop (suc k) ss) ≡ drop (suc k) ss
behind_at [] zero = refl
behind_at [] (suc k) = refl
behind_at (s ∷ ss) zero = refl
behind_at (s ∷ ss) (suc k) = behind_at ss k

pub status_first : (ss : List EntryStatus) (k : ℕ) → with_status (slice_get ss k) (drop (k + 1) ss) ≡ drop k ss
status_first ss k = rw add-one (first_at ss k)

pub status_behind : (ss : List EntryStatus) (k : ℕ) → behind_status (slice_get ss k) (drop (k + 1) ss) ≡ drop (k + 1) ss
status_behind ss k = rw add-one (behind_at ss k)

-- the lines of one entry more
pub entry_next : (teller : Bytes) (es : List Entry) (k : ℕ) (e : Entry) (ss : List EntryStatus) (j : ℕ) (status : Option EntryStatus) (notes rest : List Note) (out all whole : List ℕ) →
    k < length es → e ≡ get_or es k e → status ≡ slice_get ss j →
    all ++ entry_lines teller (drop (k + 1) es) (behind_status status (drop (j + 1) ss)) rest ≡ out ++ entry_lines teller (e ∷ drop (k + 1) es) (with_status status (drop (j + 1) ss)) notes →
    out ++ entry_lines teller (drop k es) (drop j ss) notes ≡ whole → all ++ entry_lines teller (drop (k + 1) es) (drop (j + 1) ss) rest ≡ whole
entry_next teller es k e ss j status notes rest out all whole below is at added so =
    let es' = drop (k + 1) es in
    let ss' = drop (j + 1) ss in
    ap (λ (l : List EntryStatus). all ++ entry_lines teller es' l rest) (sym (ap (λ (o : Option EntryStatus). behind_status o ss') at ∙ status_behind ss j))
    ∙ added
    ∙ ap (λ (l : List EntryStatus). out ++ entry_lines teller (e ∷ es') l notes) (ap (λ (o : Option EntryStatus). with_status o ss') at ∙ status_first ss j)
    ∙ sym (ap (λ (t : List ℕ). out ++ t) (at_entry teller es k e (drop j ss) notes below is))
    ∙ so

pub entries_end : (teller : Bytes) (es : List Entry) (k : ℕ) (statuses : List EntryStatus) (notes : List Note) (out whole : List ℕ) →
    drop k es ≡ [] → out ++ entry_lines teller (drop k es) statuses notes ≡ whole → out ≡ whole
entries_end teller es k statuses notes out whole ended so =
    sym (append-nil out) ∙ sym (ap (λ (xs : List Entry). out ++ entry_lines teller xs statuses notes) ended) ∙ so

-- the same of an answer of the code
pub status_told : {X E : Type 0} (teller : Bytes) (e : Entry) (status : EntryStatus) (notes : List Note) (out all : List ℕ) (seen : X → List Note) (r : Result X E) →
    OnOk r (all ≡ out ++ (note_lines teller e (take (own e.dump_id notes) notes) ++ status_line teller e status)) →
    IfOk r (λ rest. seen rest ≡ drop (own e.dump_id notes) notes) →
    IfOk r (λ rest. (es : List Entry) (later : List EntryStatus) → all ++ entry_lines teller es later (seen rest) ≡ out ++ entry_lines teller (e ∷ es) (status ∷ later) notes)
status_told teller e status notes out all seen (Ok rest) told left = λ es later. one_told teller e status notes (seen rest) out all es later told left
status_told teller e status notes out all seen (Err x) told left = tt
