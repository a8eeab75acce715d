-- The rows of a data file that are read on, cut into pieces and put out.
use Rattle.std.proofs.Common.{◌≡◌, ℕ, ◌+◌, Bool, true, List, [], ◌++◌, drop, Option, Some, None, sym, ap, subst, ◌∙◌, append_assoc, append-nil, arith}
use Rattle.dump_ports.specs.Tree.{Tree, bytes_at}
use Rattle.fmt_custom.specs.Blocks.{piece}
use Rattle.fmt_custom.specs.Stored.{open_block, block_by}
use Rattle.fmt_custom.specs.Writing.{start_text}
use Rattle.dump_files.specs.declared.stop.DumpStop.{DumpStop}
use Rattle.dump_files.specs.declared.stop.DumpStop.TheVariants.{Missing, TooLarge, ReadFault, BadRows, WriteFault, Memory}
use Rattle.dump_files.specs.Spelled.{Spelled, spelled}
use Rattle.dump_files.specs.Readings.{Reading, begun, coming, behind, to_come}
use Rattle.dump_files.specs.Stops.{IsReadStop, IsPutStop}
use Rattle.dump_files.specs.Outlets.{Outside, IsCut, Stands, Holds, IsApart}
use Rattle.dump_files.proofs.StepLemmas.{coming-over}
use Rattle.dump_files.proofs.OutletLemmas.{cut_more, cut_all, stands_cut, stands_as, more_waits, holds_kept}
use Rattle.dump_files.proofs.RowsLemmas.{begins}
use Rattle.dump_archives.specs.Pieces.{pieces_of, packed}

stop_kept : (table : ℕ) (text : List ℕ) (due other : Spelled) (stop : DumpStop) → due.fault ≡ other.fault → IsReadStop table text due stop → IsPutStop table text other stop
stop_kept table text due other (Missing name) e p = p
stop_kept table text due other (TooLarge n) e p = p
stop_kept table text due other ReadFault e p = p
stop_kept table text due other (BadRows of first) e p = (p.0, sym e ∙ p.1)
stop_kept table text due other WriteFault e p = tt
stop_kept table text due other Memory e p = p

-- what of a block is out or waits, with the pieces of what was read and of what is to come, is the block but for its end
pub record Packing (target : Option (List ℕ)) (columns : ℕ) (text done : List ℕ) (before : Outside) (id : ℕ) (r : Reading) (now : Outside) (waiting run : List ℕ) : Type 0 where
  pub out : List ℕ
  pub stands : Stands target (done ++ out) before now waiting
  pub same : open_block id (pieces_of (spelled columns text).text) ≡ out ++ packed (run ++ (to_come columns r text).text)
  pub rows : r.rows + (to_come columns r text).rows ≡ (spelled columns text).rows
  pub fault : (to_come columns r text).fault ≡ (spelled columns text).fault

module _ (target : Option (List ℕ)) (columns : ℕ) (name text done : List ℕ) (before : Outside) (id : ℕ) where
  pub packing_start : (r : Reading) (now : Outside) (waiting new run : List ℕ) → r ≡ begun → Stands target done before now waiting → new ≡ waiting ++ start_text id → run ≡ [] → Packing target columns text done before id r now new run
  packing_start r now waiting new run e s w none = record {
    out = start_text id;
    stands = more_waits target done (start_text id) before now waiting new s w;
    same = ap (λ (l : List ℕ). start_text id ++ packed l) (sym (ap (λ (x : Spelled). x.text) start) ∙ ap (λ (l : List ℕ). l ++ (to_come columns r text).text) (sym none));
    rows = omega (arith, ap (λ (x : Spelled). x.rows) start, ap (λ (x : Reading). x.rows) e);
    fault = ap (λ (x : Spelled). x.fault) start;
  }
    where
      start : behind [] 0 (to_come columns r text) ≡ behind [] 0 (spelled columns text)
      start = ap (λ (x : Reading). behind [] 0 (to_come columns x text)) e ∙ begins columns text []

  module _ (r : Reading) (now : Outside) (waiting run : List ℕ) (packing : Packing target columns text done before id r now waiting run) where
    pub packing_holds : IsApart target name → Holds before.tree name text → Holds now.tree name text
    packing_holds apart h = holds_kept target name text packing.stands.done before now apart packing.stands.is h

    whole : List ℕ
    whole = open_block id (pieces_of (spelled columns text).text)

    pub packing_cut_out : (after : Outside) → IsCut target (done ++ packing.out) before after → IsCut target (done ++ open_block id (pieces_of (spelled columns text).text)) before after
    packing_cut_out after p =
        let rest = packed (run ++ (to_come columns r text).text) in
        cut_all target ((done ++ packing.out) ++ rest) (done ++ open_block id (pieces_of (spelled columns text).text)) before after
        (append_assoc done packing.out rest ∙ ap (λ (l : List ℕ). done ++ l) (sym packing.same))
        (cut_more target (done ++ packing.out) rest before after p)

    pub packing_cut : (now' : Outside) → now' ≡ now → IsCut target (done ++ open_block id (pieces_of (spelled columns text).text)) before now'
    packing_cut now' e =
        subst (λ (o : Outside). IsCut target (done ++ open_block id (pieces_of (spelled columns text).text)) before o) (sym e)
        (packing_cut_out now (stands_cut target (done ++ packing.out) before now waiting packing.stands))

    pub packing_due : (table : ℕ) (stop : DumpStop) → IsApart target name → Holds before.tree name text
        → ((tree : Tree) → now.tree ≡ Some tree → IsReadStop table (bytes_at tree name) (to_come columns r (bytes_at tree name)) stop) → IsPutStop table text (spelled columns text) stop
    packing_due table stop apart h p =
        stop_kept table text (to_come columns r text) (spelled columns text) stop packing.fault
        (subst (λ (l : List ℕ). IsReadStop table l (to_come columns r l) stop) (packing_holds apart h).bytes (p (packing_holds apart h).told (packing_holds apart h).is))

    pub packing_at : (now' : Outside) → now' ≡ now → Packing target columns text done before id r now' waiting run
    packing_at now' e = subst (λ (o : Outside). Packing target columns text done before id r o waiting run) (sym e) packing

    -- one more piece of the file is read
    pub packing_next : (r' : Reading) (run' : List ℕ) → IsApart target name → Holds before.tree name text
        → ((tree : Tree) → now.tree ≡ Some tree → behind run r.rows (to_come columns r (bytes_at tree name)) ≡ behind run' r'.rows (to_come columns r' (bytes_at tree name)))
        → Packing target columns text done before id r' now waiting run'
    packing_next r' run' apart h step = record {
      out = packing.out;
      stands = packing.stands;
      same = packing.same ∙ ap (λ (x : Spelled). packing.out ++ packed x.text) here;
      rows = sym (ap (λ (x : Spelled). x.rows) here) ∙ packing.rows;
      fault = sym (ap (λ (x : Spelled). x.fault) here) ∙ packing.fault;
    }
      where
        here : behind run r.rows (to_come columns r text) ≡ behind run' r'.rows (to_come columns r' text)
        here = subst (λ (l : List ℕ). behind run r.rows (to_come columns r l) ≡ behind run' r'.rows (to_come columns r' l)) (packing_holds apart h).bytes (step (packing_holds apart h).told (packing_holds apart h).is)

    -- whole pieces wait
    pub packing_packed : (waiting' run' : List ℕ) → ((more : List ℕ) × (waiting' ≡ waiting ++ more) × ((rest : List ℕ) → packed (run ++ rest) ≡ more ++ packed (run' ++ rest))) → Packing target columns text done before id r now waiting' run'
    packing_packed waiting' run' p = record {
      out = packing.out ++ p.0;
      stands = stands_as target ((done ++ packing.out) ++ p.0) (done ++ (packing.out ++ p.0)) before now waiting' (append_assoc done packing.out p.0)
          (more_waits target (done ++ packing.out) p.0 before now waiting waiting' packing.stands p.1);
      same = packing.same ∙ ap (λ (l : List ℕ). packing.out ++ l) (p.2 (to_come columns r text).text) ∙ sym (append_assoc packing.out p.0 (packed (run' ++ (to_come columns r text).text)));
      rows = packing.rows;
      fault = packing.fault;
    }

    -- what waited may be out
    pub packing_spilled : (now' : Outside) (waiting' : List ℕ) → ((so_far : List ℕ) (o : Outside) → Stands target so_far o now waiting → Stands target so_far o now' waiting') → Packing target columns text done before id r now' waiting' run
    packing_spilled now' waiting' step = record { out = packing.out; stands = step (done ++ packing.out) before packing.stands; same = packing.same; rows = packing.rows; fault = packing.fault }

    pub packing_spill_cut : (after : Outside) → ((so_far : List ℕ) (o : Outside) → Stands target so_far o now waiting → IsCut target so_far o after) → IsCut target (done ++ open_block id (pieces_of (spelled columns text).text)) before after
    packing_spill_cut after step = packing_cut_out after (step (done ++ packing.out) before packing.stands)

    -- the block is ended
    pub packing_end : (new : List ℕ) → r.over ≡ true → new ≡ waiting ++ (packed run ++ piece.write None) → ((ps : List (List ℕ)) → open_block id ps ++ piece.write None ≡ block_by true id ps)
        → ((spelled columns text).fault ≡ None) × (r.rows ≡ (spelled columns text).rows) × Stands target (done ++ block_by true id (pieces_of (spelled columns text).text)) before now new
    packing_end new over e ends = (
      sym packing.fault ∙ ap (λ (x : Spelled). x.fault) none,
      omega (arith, packing.rows, ap (λ (x : Spelled). x.rows) none),
      stands_as target ((done ++ packing.out) ++ (packed run ++ piece.write None)) (done ++ block_by true id (pieces_of (spelled columns text).text)) before now new
          (append_assoc done packing.out (packed run ++ piece.write None) ∙ ap (λ (l : List ℕ). done ++ l) total)
          (more_waits target (done ++ packing.out) (packed run ++ piece.write None) before now waiting new packing.stands e),
    )
      where
        none : to_come columns r text ≡ record { text = []; rows = 0; fault = None }
        none = ap (λ (b : Bool). coming columns r.rows b (r.held ++ drop r.at text)) over ∙ coming-over columns r.rows (r.held ++ drop r.at text)

        total : packing.out ++ (packed run ++ piece.write None) ≡ block_by true id (pieces_of (spelled columns text).text)
        total =
            sym (append_assoc packing.out (packed run) (piece.write None))
            ∙ ap (λ (l : List ℕ). (packing.out ++ packed l) ++ piece.write None) (sym (append-nil run) ∙ ap (λ (x : Spelled). run ++ x.text) (sym none))
            ∙ ap (λ (l : List ℕ). l ++ piece.write None) (sym packing.same)
            ∙ ends (pieces_of (spelled columns text).text)
