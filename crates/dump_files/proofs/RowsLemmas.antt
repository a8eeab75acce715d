-- A data file that is read on and put out.
use Rattle.std.proofs.Common.{◌≡◌, ℕ, Bool, true, List, ◌++◌, drop, Option, Some, None, refl, sym, ap, subst, ◌∙◌, append_assoc, append-nil, arith}
use Rattle.dump_ports.specs.Tree.{Tree, bytes_at}
use Rattle.dump_files.specs.declared.stop.DumpStop.{DumpStop}
use Rattle.dump_files.specs.declared.stop.DumpStop.TheVariants.{Missing, TooLarge, ReadFault, BadRows, WriteFault, Memory}
use Rattle.dump_files.specs.Spelled.{Spelled, spelled}
use Rattle.dump_files.specs.Readings.{Reading, begun, nothing, coming, behind, to_come}
use Rattle.dump_files.specs.Stops.{IsReadStop, IsPutStop, IsLate}
use Rattle.dump_files.specs.Outlets.{Outside, IsCut, Stands, Holds, IsApart}
use Rattle.dump_files.proofs.StepLemmas.{coming-is, coming-over}
use Rattle.dump_files.proofs.OutletLemmas.{cut_more, cut_all, stands_cut, stands_as, holds_kept}

-- what is out and what waits, with what is to come, is what was there and what is due
pub record Going (target : Option (List ℕ)) (columns : ℕ) (text done : List ℕ) (before : Outside) (r : Reading) (now : Outside) (waiting : List ℕ) : Type 0 where
  pub so_far : List ℕ
  pub stands : Stands target so_far before now waiting
  pub same : behind so_far r.rows (to_come columns r text) ≡ behind done 0 (spelled columns text)

pub begins : (columns : ℕ) (text done : List ℕ) → behind done 0 (to_come columns begun text) ≡ behind done 0 (spelled columns text)
unfolding spelled
begins columns text done = ap (behind done 0) (coming-is columns 0 text)

stop_kept : (table : ℕ) (text : List ℕ) (due other : Spelled) (stop : DumpStop) → due.fault ≡ other.fault → IsReadStop table text due stop → IsPutStop table text other stop
stop_kept table text due other (Missing name) e p = p
stop_kept table text due other (TooLarge n) e p = p
stop_kept table text due other ReadFault e p = p
stop_kept table text due other (BadRows of first) e p = (p.0, sym e ∙ p.1)
stop_kept table text due other WriteFault e p = tt
stop_kept table text due other Memory e p = p

pub late_stop : (table : ℕ) (text : List ℕ) (due : Spelled) (stop : DumpStop) → IsLate stop → IsPutStop table text due stop
late_stop table text due (Missing name) p = absurd p
late_stop table text due (TooLarge n) p = absurd p
late_stop table text due ReadFault p = absurd p
late_stop table text due (BadRows of first) p = absurd p
late_stop table text due WriteFault p = tt
late_stop table text due Memory p = tt

-- bytes in front
front : List ℕ → Spelled → Spelled
front done s = record { text = done ++ s.text; rows = s.rows; fault = s.fault }

front_behind : (done waiting : List ℕ) (rows : ℕ) (s : Spelled) → front done (behind waiting rows s) ≡ behind (done ++ waiting) rows s
unfolding front
front_behind done waiting rows s = rw append_assoc refl

module _ (target : Option (List ℕ)) (columns : ℕ) (name text done : List ℕ) (before : Outside) where
  pub going_start : (r : Reading) (now : Outside) (waiting : List ℕ) → r ≡ begun → Stands target done before now waiting → Going target columns text done before r now waiting
  going_start r now waiting e s = record {
    so_far = done;
    stands = s;
    same = ap (λ (x : Reading). behind done x.rows (to_come columns x text)) e ∙ begins columns text done;
  }

  module _ (r : Reading) (now : Outside) (waiting : List ℕ) (going : Going target columns text done before r now waiting) where
    -- the file is told still
    pub going_holds : IsApart target name → Holds before.tree name text → Holds now.tree name text
    going_holds apart h = holds_kept target name text going.stands.done before now apart going.stands.is h

    pub going_cut : IsCut target (done ++ (spelled columns text).text) before now
    going_cut =
        cut_all target (going.so_far ++ (to_come columns r text).text) (done ++ (spelled columns text).text) before now (ap (λ (s : Spelled). s.text) going.same)
        (cut_more target going.so_far (to_come columns r text).text before now (stands_cut target going.so_far before now waiting going.stands))

    pub going_stop : (table : ℕ) (stop : DumpStop) → IsReadStop table text (to_come columns r text) stop → IsPutStop table text (spelled columns text) stop
    going_stop table stop p = stop_kept table text (to_come columns r text) (spelled columns text) stop (ap (λ (s : Spelled). s.fault) going.same) p

    -- reading on stopped
    pub going_due : (table : ℕ) (stop : DumpStop) → IsApart target name → Holds before.tree name text
        → ((tree : Tree) → now.tree ≡ Some tree → IsReadStop table (bytes_at tree name) (to_come columns r (bytes_at tree name)) stop) → IsPutStop table text (spelled columns text) stop
    going_due table stop apart h p =
        going_stop table stop (subst (λ (l : List ℕ). IsReadStop table l (to_come columns r l) stop) (going_holds apart h).bytes (p (going_holds apart h).told (going_holds apart h).is))

    pub going_at : (now' : Outside) → now' ≡ now → Going target columns text done before r now' waiting
    going_at now' e = subst (λ (o : Outside). Going target columns text done before r o waiting) (sym e) going

    pub going_cut_at : (now' : Outside) → now' ≡ now → IsCut target (done ++ (spelled columns text).text) before now'
    going_cut_at now' e = subst (λ (o : Outside). IsCut target (done ++ (spelled columns text).text) before o) (sym e) going_cut

    -- one more piece is read
    pub going_next : (r' : Reading) (waiting' : List ℕ) → IsApart target name → Holds before.tree name text
        → ((tree : Tree) → now.tree ≡ Some tree → behind waiting r.rows (to_come columns r (bytes_at tree name)) ≡ behind waiting' r'.rows (to_come columns r' (bytes_at tree name)))
        → Going target columns text done before r' now waiting'
    going_next r' waiting' apart h step = record {
      so_far = going.stands.done ++ waiting';
      stands = record { done = going.stands.done; split = refl; is = going.stands.is };
      same =
          sym (front_behind going.stands.done waiting' r'.rows (to_come columns r' text))
          ∙ ap (front going.stands.done) (sym here)
          ∙ front_behind going.stands.done waiting r.rows (to_come columns r text)
          ∙ ap (λ (l : List ℕ). behind l r.rows (to_come columns r text)) (sym going.stands.split)
          ∙ going.same;
    }
      where
        held : Holds now.tree name text
        held = going_holds apart h

        here : behind waiting r.rows (to_come columns r text) ≡ behind waiting' r'.rows (to_come columns r' text)
        here = subst (λ (l : List ℕ). behind waiting r.rows (to_come columns r l) ≡ behind waiting' r'.rows (to_come columns r' l)) held.bytes (step held.told held.is)

    -- what waited may be out
    pub going_spilled : (now' : Outside) (waiting' : List ℕ) → ((so_far : List ℕ) (o : Outside) → Stands target so_far o now waiting → Stands target so_far o now' waiting') → Going target columns text done before r now' waiting'
    going_spilled now' waiting' step = record { so_far = going.so_far; stands = step going.so_far before going.stands; same = going.same }

    pub spill_cut : (after : Outside) → ((so_far : List ℕ) (o : Outside) → Stands target so_far o now waiting → IsCut target so_far o after) → IsCut target (done ++ (spelled columns text).text) before after
    spill_cut after step =
        cut_all target (going.so_far ++ (to_come columns r text).text) (done ++ (spelled columns text).text) before after (ap (λ (s : Spelled). s.text) going.same)
        (cut_more target going.so_far (to_come columns r text).text before after (step going.so_far before going.stands))

    -- all is out
    pub going_end : r.over ≡ true → ((spelled columns text).fault ≡ None) × (r.rows ≡ (spelled columns text).rows) × Stands target (done ++ (spelled columns text).text) before now waiting
    going_end over = (
      sym (ap (λ (s : Spelled). s.fault) whole),
      omega (arith, ap (λ (s : Spelled). s.rows) whole),
      stands_as target going.so_far (done ++ (spelled columns text).text) before now waiting (sym (append-nil going.so_far) ∙ ap (λ (s : Spelled). s.text) whole) going.stands,
    )
      where
        whole : behind going.so_far r.rows nothing ≡ behind done 0 (spelled columns text)
        whole =
            ap (behind going.so_far r.rows) (sym (ap (λ (b : Bool). coming columns r.rows b (r.held ++ drop r.at text)) over ∙ coming-over columns r.rows (r.held ++ drop r.at text)))
            ∙ going.same
