-- Parts of a dump that are put out one after another.
use Rattle.std.proofs.Common.{◌≡◌, ℕ, ◌+◌, Bool, true, false, List, [], ◌∷◌, ◌++◌, Option, Some, None, refl, sym, ap, subst, ◌∙◌, append_assoc, append-nil, inl, inr, ◌⊎◌, arith}
use Rattle.dump_ports.specs.Tree.{Tree, bytes_at}
use Rattle.data_rows.specs.declared.fault.RowsFault.{RowsFault}
use Rattle.dump_files.specs.declared.file.DataFile.{DataFile}
use Rattle.dump_files.specs.declared.stop.DumpStop.{DumpStop}
use Rattle.dump_files.specs.declared.stop.DumpStop.TheVariants.{Missing, TooLarge, ReadFault, BadRows, WriteFault, Memory}
use Rattle.dump_files.specs.Spelled.{Spelled}
use Rattle.dump_files.specs.Stops.{IsPutStop, IsLate}
use Rattle.dump_files.specs.Outlets.{Outside, outputs, IsCut, IsBegun, IsApart, Stands}
use Rattle.dump_files.proofs.OutletLemmas.{cut_more, cut_all, stands_cut, stands_as, more_waits}
use Rattle.toc_entry.specs.declared.entry.Entry.{Entry}
use Rattle.toc_entry.specs.declared.head.Head.{Head}
use Rattle.fmt_text.specs.Parts.{part}
use Rattle.fmt_text.specs.Script.{script_head, script_end}
use Rattle.dump_plain.specs.Dumps.{Output, of_text, after, rows_by, rows_then, file_rows, with_rows, parts_out, plain_out}
use Rattle.dump_plain.specs.Stops.{HasLarge, AreApart, IsDumpStop, Goes}

-- ---- texts in front

pub after-nil : (o : Output) → after [] 0 o ≡ o
after-nil o = let same : 0 + o.rows ≡ o.rows = omega arith in ap (λ (n : ℕ). record { text = o.text; rows = n; bad = o.bad }) same

pub after-after : (text more : List ℕ) (rows others : ℕ) (o : Output) → after text rows (after more others o) ≡ after (text ++ more) (rows + others) o
after-after text more rows others o =
    let many : rows + (others + o.rows) ≡ rows + others + o.rows = omega arith in
    rw (many, ← append_assoc text more o.text) refl

-- ---- stops

pub late_dump : (tree : Tree) (needed : List DataFile) (due : Output) (stop : DumpStop) → IsLate stop → IsDumpStop tree needed due stop
late_dump tree needed due (Missing name) p = absurd p
late_dump tree needed due (TooLarge n) p = absurd p
late_dump tree needed due ReadFault p = absurd p
late_dump tree needed due (BadRows of first) p = absurd p
late_dump tree needed due WriteFault p = tt
late_dump tree needed due Memory p = tt

pub stop_as : (tree : Tree) (needed left : List DataFile) (due still : Output) (stop : DumpStop) → (HasLarge tree left → HasLarge tree needed) → due.bad ≡ still.bad → IsDumpStop tree left still stop → IsDumpStop tree needed due stop
stop_as tree needed left due still (Missing name) l e p = p
stop_as tree needed left due still (TooLarge n) l e p = (p.0, l p.1)
stop_as tree needed left due still ReadFault l e p = tt
stop_as tree needed left due still (BadRows of first) l e p = e ∙ p
stop_as tree needed left due still WriteFault l e p = tt
stop_as tree needed left due still Memory l e p = tt

-- ---- one part behind another

module _ (target : Option (List ℕ)) (due : Output) (done : List ℕ) (before now : Outside) (waiting : List ℕ) where
  pub goes_start : Stands target done before now waiting → Goes target due done before now waiting 0 due
  goes_start s = record { text = []; stands = stands_as target done (done ++ []) before now waiting (sym (append-nil done)) s; same = sym (after-nil due) }

  -- a text waits in front of what is due still
  pub goes_text : (text new : List ℕ) (still : Output) → Stands target done before now waiting → new ≡ waiting ++ text → due ≡ after text 0 still → Goes target due done before now new 0 still
  goes_text text new still s e same = record { text = text; stands = more_waits target done text before now waiting new s e; same = same }

  module _ (rows : ℕ) (still : Output) (goes : Goes target due done before now waiting rows still) where
    pub goes_spilled : (now' : Outside) (waiting' : List ℕ) → ((text : List ℕ) (o : Outside) → Stands target text o now waiting → Stands target text o now' waiting') → Goes target due done before now' waiting' rows still
    goes_spilled now' waiting' step = record { text = goes.text; stands = step (done ++ goes.text) before goes.stands; same = goes.same }

    pub goes_on : (now' : Outside) (waiting' : List ℕ) (count : ℕ) (last : Output) → Goes target still (done ++ goes.text) before now' waiting' count last → Goes target due done before now' waiting' (rows + count) last
    goes_on now' waiting' count last next = record {
      text = goes.text ++ next.text;
      stands = stands_as target ((done ++ goes.text) ++ next.text) (done ++ (goes.text ++ next.text)) before now' waiting' (append_assoc done goes.text next.text) next.stands;
      same = goes.same ∙ ap (after goes.text rows) next.same ∙ after-after goes.text next.text rows count last;
    }

    whole_text : (done ++ goes.text) ++ still.text ≡ done ++ due.text
    whole_text = append_assoc done goes.text still.text ∙ ap (λ (l : List ℕ). done ++ l) (sym (ap (λ (o : Output). o.text) goes.same))

    -- what is due still was cut
    pub goes_cut : (after_it : Outside) → IsCut target ((done ++ goes.text) ++ still.text) before after_it → IsCut target (done ++ due.text) before after_it
    goes_cut after_it p = cut_all target ((done ++ goes.text) ++ still.text) (done ++ due.text) before after_it whole_text p

    -- what was put out was cut
    pub goes_cut_here : (after_it : Outside) → IsCut target (done ++ goes.text) before after_it → IsCut target (done ++ due.text) before after_it
    goes_cut_here after_it p = goes_cut after_it (cut_more target (done ++ goes.text) still.text before after_it p)

    pub goes_cut_now : IsCut target (done ++ due.text) before now
    goes_cut_now = goes_cut_here now (stands_cut target (done ++ goes.text) before now waiting goes.stands)

    pub goes_stop : (tree : Tree) (needed left : List DataFile) (stop : DumpStop) → (HasLarge tree left → HasLarge tree needed) → IsDumpStop tree left still stop → IsDumpStop tree needed due stop
    goes_stop tree needed left stop l p = stop_as tree needed left due still stop l (ap (λ (o : Output). o.bad) goes.same) p

-- nothing was put out yet
pub none_cut : (target : Option (List ℕ)) (due done : List ℕ) (before now : Outside) (waiting : List ℕ) → Stands target done before now waiting → IsCut target (done ++ due) before now
none_cut target due done before now waiting s = cut_more target done due before now (stands_cut target done before now waiting s)

-- ---- the rows of a table

pub rows_then-ok : (table : ℕ) (s : Spelled) (more : Output) → s.fault ≡ None → rows_then table s more ≡ after s.text s.rows more
unfolding rows_then
rows_then-ok table s more e = ap (λ (f : Option RowsFault). rows_by table s f more) e

rows_then-bad : (table : ℕ) (s : Spelled) (more : Output) (first : RowsFault) → s.fault ≡ Some first → rows_then table s more ≡ record { text = s.text; rows = s.rows; bad = Some (record { table = table; first = first }) }
unfolding rows_then
rows_then-bad table s more first e = ap (λ (f : Option RowsFault). rows_by table s f more) e

rows_text : (table : ℕ) (s : Spelled) (more : Output) → (rest : List ℕ) × ((rows_then table s more).text ≡ s.text ++ rest)
rows_text table s more = by s.fault refl
  where
    by : (f : Option RowsFault) → s.fault ≡ f → (rest : List ℕ) × ((rows_then table s more).text ≡ s.text ++ rest)
    by None e = (more.text, ap (λ (o : Output). o.text) (rows_then-ok table s more e))
    by (Some first) e = ([], ap (λ (o : Output). o.text) (rows_then-bad table s more first e) ∙ sym (append-nil s.text))

module _ (target : Option (List ℕ)) (table : ℕ) (s : Spelled) (more : Output) (done : List ℕ) (before now : Outside) where
  pub rows_go : (count : ℕ) (waiting : List ℕ) → (s.fault ≡ None) × (count ≡ s.rows) × Stands target (done ++ s.text) before now waiting → Goes target (rows_then table s more) done before now waiting count more
  rows_go count waiting p = record {
    text = s.text;
    stands = p.2;
    same = rows_then-ok table s more p.0 ∙ ap (λ (n : ℕ). after s.text n more) (sym p.1);
  }

  pub rows_cut : IsCut target (done ++ s.text) before now → IsCut target (done ++ (rows_then table s more).text) before now
  rows_cut p =
      let whole = rows_text table s more in
      cut_all target ((done ++ s.text) ++ whole.0) (done ++ (rows_then table s more).text) before now (append_assoc done s.text whole.0 ∙ ap (λ (l : List ℕ). done ++ l) (sym whole.1))
      (cut_more target (done ++ s.text) whole.0 before now p)

pub rows_stop : (tree : Tree) (file : DataFile) (needed : List DataFile) (s : Spelled) (more : Output) (stop : DumpStop) → IsPutStop file.table (bytes_at tree file.name) s stop → IsDumpStop tree (file ∷ needed) (rows_then file.table s more) stop
rows_stop tree file needed s more (Missing name) p = p
rows_stop tree file needed s more (TooLarge n) p = (p.0, inl p.1)
rows_stop tree file needed s more ReadFault p = tt
rows_stop tree file needed s more (BadRows of first) p =
    ap (λ (o : Output). o.bad) (rows_then-bad file.table s more first p.1) ∙ ap (λ (t : ℕ). Some (record { table = t; first = first })) (sym p.0)
rows_stop tree file needed s more WriteFault p = tt
rows_stop tree file needed s more Memory p = tt

-- ---- the entries

pub parts-nil : (tree : Tree) (owners : Bool) (end : Output) (needed : List DataFile) → parts_out tree owners end [] needed ≡ end
unfolding parts_out
parts-nil tree owners end needed = refl

pub parts-cons : (tree : Tree) (owners : Bool) (end : Output) (e : Entry) (es : List Entry) (needed : List DataFile) → parts_out tree owners end (e ∷ es) needed ≡ after (part owners e None) 0 (with_rows tree e.has_rows needed (parts_out tree owners end es))
unfolding parts_out
parts-cons tree owners end e es needed = refl

pub plain-is : (tree : Tree) (head : Head) (owners : Bool) (entries : List Entry) (needed : List DataFile) → plain_out tree head owners entries needed ≡ after (script_head head) 0 (parts_out tree owners (of_text script_end) entries needed)
unfolding plain_out
plain-is tree head owners entries needed = refl

pub goes_as : (target : Option (List ℕ)) (due : Output) (done : List ℕ) (before now : Outside) (waiting : List ℕ) (rows count : ℕ) (still other : Output) → rows ≡ count → still ≡ other → Goes target due done before now waiting rows still → Goes target due done before now waiting count other
goes_as target due done before now waiting rows count still other r e goes = record { text = goes.text; stands = goes.stands; same = goes.same ∙ ap (λ (n : ℕ). after goes.text n still) r ∙ ap (after goes.text count) e }

pub goes_from : (target : Option (List ℕ)) (due other : Output) (done : List ℕ) (before now : Outside) (waiting : List ℕ) (rows : ℕ) (still : Output) → due ≡ other → Goes target other done before now waiting rows still → Goes target due done before now waiting rows still
goes_from target due other done before now waiting rows still e goes = record { text = goes.text; stands = goes.stands; same = e ∙ goes.same }

-- all is out
pub goes_end : (target : Option (List ℕ)) (due : Output) (before now : Outside) (waiting : List ℕ) (rows : ℕ) → Goes target due [] before now waiting rows (of_text []) → waiting ≡ [] → (due.bad ≡ None) × (rows ≡ due.rows) × (now ≡ outputs target due.text before)
goes_end target due before now waiting rows goes none = (
  ap (λ (o : Output). o.bad) goes.same,
  omega (arith, ap (λ (o : Output). o.rows) goes.same),
  goes.stands.is
      ∙ ap (λ (l : List ℕ). outputs target l before)
      (sym (append-nil goes.stands.done) ∙ ap (λ (l : List ℕ). goes.stands.done ++ l) (sym none) ∙ sym goes.stands.split
      ∙ sym (append-nil goes.text) ∙ sym (ap (λ (o : Output). o.text) goes.same)),
)

pub last_text : (text : List ℕ) → of_text text ≡ after text 0 (of_text [])
last_text text = ap (λ (l : List ℕ). of_text l) (sym (append-nil text))

-- ---- the next data file

module _ (target : Option (List ℕ)) (tree : Tree) (needed : List DataFile) (file : DataFile) (others : List DataFile) (split : needed ≡ file ∷ others) where
  pub apart_first : AreApart target needed → IsApart target file.name
  apart_first apart = (subst (AreApart target) split apart).0

  pub next_ok : (more : List DataFile → Output) (done : List ℕ) (before now : Outside) (count : ℕ) (waiting : List ℕ) → ((file_rows tree file).fault ≡ None) × (count ≡ (file_rows tree file).rows) × Stands target (done ++ (file_rows tree file).text) before now waiting
      → Goes target (with_rows tree true needed more) done before now waiting count (more others)
  next_ok more done before now count waiting p = rw split (rows_go target file.table (file_rows tree file) (more others) done before now count waiting p)

  pub next_err : (more : List DataFile → Output) (done : List ℕ) (before now : Outside) (stop : DumpStop) → IsPutStop file.table (bytes_at tree file.name) (file_rows tree file) stop × IsCut target (done ++ (file_rows tree file).text) before now
      → IsDumpStop tree needed (with_rows tree true needed more) stop × IsCut target (done ++ (with_rows tree true needed more).text) before now
  next_err more done before now stop p =
      rw split (rows_stop tree file others (file_rows tree file) (more others) stop p.0, rows_cut target file.table (file_rows tree file) (more others) done before now p.1)

-- an entry without rows, and one with them
pub without_rows : (tree : Tree) (has_rows : Bool) (needed : List DataFile) (more : List DataFile → Output) → has_rows ≡ false → with_rows tree has_rows needed more ≡ more needed
without_rows tree has_rows needed more e = ap (λ (b : Bool). with_rows tree b needed more) e

pub having_rows : (tree : Tree) (has_rows : Bool) (needed : List DataFile) (more : List DataFile → Output) → has_rows ≡ true → with_rows tree has_rows needed more ≡ with_rows tree true needed more
having_rows tree has_rows needed more e = ap (λ (b : Bool). with_rows tree b needed more) e

-- ---- a dump that is begun

pub stands_none : (target : Option (List ℕ)) (before now : Outside) (waiting : List ℕ) → now ≡ outputs target [] before → waiting ≡ [] → Stands target [] before now waiting
stands_none target before now waiting e none = record { done = []; split = sym none; is = e }

pub begun_text : (target : Option (List ℕ)) (text : List ℕ) (before after_it : Outside) → (after_it ≡ before) ⊎ (after_it ≡ outputs target [] before) → IsBegun target text before after_it
begun_text target text before after_it (inl e) = inl e
begun_text target text before after_it (inr e) = inr ([], text, refl, e)
