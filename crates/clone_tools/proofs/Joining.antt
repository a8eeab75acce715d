-- A dump that is written, and what comes behind it.
use Rattle.std.proofs.Common.{◌≡◌, List, [], ◌∷◌, ◌++◌, map, Option, Some, None, option_map, Result, Ok, Err, refl, sym, ap, subst, ◌∙◌, ◌⊎◌, inl, inr, append-nil}
use Rattle.std.proofs.lemmas.List.{append_assoc}
use Rattle.std.specs.FinMap.{insert}
use Rattle.cat_model.specs.Values.{Bytes}
use Rattle.clone_restores.specs.Due.{Restoration}
use Rattle.clone_words.specs.declared.asked.CloneAsked.{CloneAsked}
use Rattle.clone_tools.specs.Due.{Work, Clones, first_due, text_put, all_put, second_due, cloning, clone_due}
use Rattle.clone_tools.specs.Runs.{MayRestore, GoesOn, Breaks, goes_by, MayWork, MayRun, HasEnded, AreOfRun, HasCut}
use Rattle.clone_tools.specs.Halves.{HasPut, HasPutPart, IsToTell}
use Rattle.clone_tools.proofs.Second.{IsCutShort, Came}
use Rattle.dump_ports.specs.Tree.{Tree, patched}
use Rattle.dump_ports.specs.declared.moment.Moment.{Moment}
use Rattle.dump_plain.specs.Dumps.{BadRow}
use Rattle.dump_plans.specs.Outcomes.{bad_row_outcome}
use Rattle.dump_outputs.specs.Forms.{Putting}
use Rattle.dump_outputs.specs.Pieces.{Place, Printed, Stored, Patched, Piece}
use Rattle.dump_tools.specs.Due.{Plan, Puts}
use Rattle.dump_tools.specs.Outputs.{World, world, Output, Tells, performed, all_performed, IsCut, put_at, puts}
use Rattle.dump_tools.specs.Runs.{Run, run_of, told_run}
use Rattle.dump_tools.proofs.Pieces.{front_cut}
use Rattle.dump_tools.proofs.Taking.{performed_both}
use Rattle.tool_words.specs.declared.outcome.Outcome.{Outcome}
use Rattle.tool_words.specs.declared.words.Teller.{Teller}
use Rattle.tool_words.specs.Answers.{◌>>=◌}
use Rattle.tool_words.specs.Messages.{outcome_line}

-- ---- the files once a dump is written

pub put_tree : (pieces : List Piece) (tree : Tree) (left out told : Option Bytes) → (all_performed (map puts pieces) (world (Some tree) left out told)).tree ≡ Some (all_put pieces tree)
put_tree [] tree left out told = refl
put_tree (piece ∷ pieces) tree left out told = by piece.place (λ t o. put_tree pieces t left o told)
  where
    by : (place : Place) → ((t : Tree) (o : Option Bytes) → (all_performed (map puts pieces) (world (Some t) left o told)).tree ≡ Some (all_put pieces t)) → (all_performed (map puts pieces) (performed (put_at place piece.text) (world (Some tree) left out told))).tree ≡ Some (all_put pieces (text_put place piece.text tree))
    by Printed more = more tree (option_map (λ printed. printed ++ piece.text) out)
    by (Stored name) more = more (insert tree name piece.text) out
    by (Patched name) more = more (patched name 0 piece.text tree) out

-- what the files tell between the halves
pub known_between : (due : Result Plan Outcome) (tree : Tree) (before after : Option Tree) (out out' : Option Bytes) (h : HasPut due before after out out') → before ≡ Some tree → after ≡ Some (all_put h.first.pieces tree)
known_between due tree before after out out' h known =
    ap (λ (w : World). w.tree) (h.put None None)
    ∙ ap (λ (t : Option Tree). (all_performed (map puts h.first.pieces) (world t None out None)).tree) known
    ∙ put_tree h.first.pieces tree None out None

-- ---- what is due of a clone

-- its dump, and what is due behind it
pub clones : (name : Bytes) (asked : CloneAsked) (moment : Moment) (tree : Tree) (first : Putting) → first_due asked moment tree ≡ Ok (Puts first) → clone_due name asked moment tree ≡ Ok (Clones first (second_due name asked (all_put first.pieces tree)))
unfolding clone_due
clones name asked moment tree first is = ap (λ (d : Result Plan Outcome). d >>= λ plan. Ok (cloning name asked tree plan)) is

-- or the refusal of its dump
pub refuses : (name : Bytes) (asked : CloneAsked) (moment : Moment) (tree : Tree) (refusal : Outcome) → first_due asked moment tree ≡ Err refusal → clone_due name asked moment tree ≡ Err refusal
unfolding clone_due
refuses name asked moment tree refusal is = ap (λ (d : Result Plan Outcome). d >>= λ plan. Ok (cloning name asked tree plan)) is

-- ---- which runs may come

may_by : (teller : Teller) (due : Result Work Outcome) (first : Putting) (second : Result Restoration Outcome) (run : Run) → due ≡ Ok (Clones first second) → goes_by teller first.pieces first.bad second run → MayWork teller due run
may_by teller due first second run is may = subst (λ (d : Result Work Outcome). MayWork teller d run) (sym is) may

pub goes_on : (teller : Teller) (due : Result Work Outcome) (first : Putting) (second : Result Restoration Outcome) (run : Run) → due ≡ Ok (Clones first second) → first.bad ≡ None → MayWork teller due run → GoesOn teller first.pieces second run
goes_on teller due first second run is whole may =
    subst (λ (b : Option BadRow). goes_by teller first.pieces b second run) whole
    (subst (λ (d : Result Work Outcome). MayWork teller d run) is may)

may_break : (teller : Teller) (due : Result Work Outcome) (first : Putting) (second : Result Restoration Outcome) (bad : BadRow) (run : Run) → due ≡ Ok (Clones first second) → first.bad ≡ Some bad → Breaks teller first.pieces bad run → MayWork teller due run
may_break teller due first second bad run is fails breaks =
    may_by teller due first second run is (subst (λ (b : Option BadRow). goes_by teller first.pieces b second run) (sym fails) breaks)

may_refuse : (teller : Teller) (due : Result Work Outcome) (refusal : Outcome) → due ≡ Err refusal → MayWork teller due (told_run teller refusal)
may_refuse teller due refusal is = subst (λ (d : Result Work Outcome). MayWork teller d (told_run teller refusal)) (sym is) refl

-- a run of both halves
abbrev both_runs : List Piece → Run → Run
both_runs pieces later = run_of (map puts pieces ++ later.outputs) later.answer

may_both : (teller : Teller) (due : Result Work Outcome) (first : Putting) (second : Result Restoration Outcome) (later : Run) → due ≡ Ok (Clones first second) → first.bad ≡ None → MayRestore teller second later → MayWork teller due (both_runs first.pieces later)
may_both teller due first second later is whole may =
    may_by teller due first second (both_runs first.pieces later) is
    (subst (λ (b : Option BadRow). goes_by teller first.pieces b second (both_runs first.pieces later)) (sym whole) (record { later = later; may = may; is = refl }))

-- a run that reads nothing
pub alone : (teller : Teller) (due : Result Work Outcome) (run : Run) → MayWork teller due run → MayRun None teller due run
alone teller due run may = record { first = []; begins = refl; later = run; may = may; is = refl }

-- ---- what stands once both halves have ended

pub cloned : (teller : Teller) (due : Result Work Outcome) (plan : Result Plan Outcome) (second : Result Restoration Outcome) (answer : Outcome) (before between after : Option Tree) (left out out' told told' : Option Bytes) (h : HasPut plan before between out out')
    → due ≡ Ok (Clones h.first second) → Came teller second answer (world between left out' told) (world after left out' told')
    → HasEnded None teller due answer (world before left out told) (world after left out' told')
cloned teller due plan second answer before between after left out out' told told' h is c = record {
  run = both_runs h.first.pieces c.run;
  may = alone teller due (both_runs h.first.pieces c.run) (may_both teller due h.first second c.run is h.whole c.may);
  answers = c.answers;
  put = c.put ∙ ap (λ w. all_performed c.run.outputs w) (h.put told left) ∙ sym (performed_both (map puts h.first.pieces) c.run.outputs (world before left out told));
}

-- ---- where the second half was cut short

behind_of : (teller : Teller) (due : Result Work Outcome) (first : Putting) (second : Result Restoration Outcome) (outputs : List Output) → due ≡ Ok (Clones first second) → first.bad ≡ None
    → (outputs ≡ []) ⊎ ((run : Run) × MayRestore teller second run × (outputs ≡ run.outputs)) → AreOfRun None teller due (map puts first.pieces ++ outputs)
behind_of teller due first second outputs is whole (inl e) =
    inr (inl (record { first = first; second = second; is_due = is; whole = whole; is = ap (λ os. map puts first.pieces ++ os) e ∙ append-nil (map puts first.pieces) }))
behind_of teller due first second outputs is whole (inr (run, may, same)) = inr (inr (
  both_runs first.pieces run,
  alone teller due (both_runs first.pieces run) (may_both teller due first second run is whole may),
  ap (λ os. map puts first.pieces ++ os) same,
))

pub cut_second : (teller : Teller) (due : Result Work Outcome) (plan : Result Plan Outcome) (second : Result Restoration Outcome) (before between after : Option Tree) (left out out' told told' : Option Bytes) (h : HasPut plan before between out out')
    → due ≡ Ok (Clones h.first second) → IsCutShort teller second (world between left out' told) (world after left out' told')
    → HasCut None teller due (world before left out told) (world after left out' told')
cut_second teller due plan second before between after left out out' told told' h is c = record {
  outputs = map puts h.first.pieces ++ c.outputs;
  of_run = behind_of teller due h.first second c.outputs is h.whole c.of_run;
  cut = record {
    whole = map puts h.first.pieces ++ c.cut.whole;
    later = c.cut.later;
    split = ap (λ os. map puts h.first.pieces ++ os) c.cut.split ∙ sym (append_assoc (map puts h.first.pieces) c.cut.whole c.cut.later);
    cut = subst (λ w. IsCut c.cut.later w (world after left out' told'))
        (ap (λ w. all_performed c.cut.whole w) (h.put told left) ∙ sym (performed_both (map puts h.first.pieces) c.cut.whole (world before left out told)))
        c.cut.cut;
  };
}

-- ---- where the first half was

-- nothing is written
pub cut_none : (teller : Teller) (due : Result Work Outcome) (before after : World) → after ≡ before → HasCut None teller due before after
cut_none teller due before after e = record { outputs = []; of_run = inl refl; cut = record { whole = []; later = []; split = refl; cut = e } }

-- the dump is cut short
cut_whole : (teller : Teller) (due : Result Work Outcome) (plan : Result Plan Outcome) (second : Result Restoration Outcome) (before after : Option Tree) (left out out' told : Option Bytes) (outcome : Outcome) (h : HasPutPart outcome plan before after out out')
    → due ≡ Ok (Clones h.first second) → h.first.bad ≡ None → HasCut None teller due (world before left out told) (world after left out' told)
cut_whole teller due plan second before after left out out' told outcome h is whole = record {
  outputs = map puts h.first.pieces;
  of_run = inr (inl (record { first = h.first; second = second; is_due = is; whole = whole; is = refl }));
  cut = front_cut h.first.pieces before after left out out' told told (record { front = h.front; is = h.is_front; put = h.put told });
}

-- the run in which this row fails
abbrev broken : Teller → BadRow → List Piece → Run
broken teller bad front = run_of (map puts front ++ Tells (outcome_line teller (bad_row_outcome bad)) ∷ []) (bad_row_outcome bad)

may_be_broken : (teller : Teller) (due : Result Work Outcome) (plan : Result Plan Outcome) (second : Result Restoration Outcome) (before after : Option Tree) (out out' : Option Bytes) (outcome : Outcome) (h : HasPutPart outcome plan before after out out')
    (bad : BadRow) → due ≡ Ok (Clones h.first second) → h.first.bad ≡ Some bad → MayWork teller due (broken teller bad h.front)
may_be_broken teller due plan second before after out out' outcome h bad is fails =
    may_break teller due h.first second bad (broken teller bad h.front) is fails (record { front = h.front; is_front = h.is_front; is = refl })

-- a dump of which a row fails is cut short before that
cut_broken : (teller : Teller) (due : Result Work Outcome) (plan : Result Plan Outcome) (second : Result Restoration Outcome) (before after : Option Tree) (left out out' told : Option Bytes) (outcome : Outcome) (h : HasPutPart outcome plan before after out out')
    (bad : BadRow) → due ≡ Ok (Clones h.first second) → h.first.bad ≡ Some bad → HasCut None teller due (world before left out told) (world after left out' told)
cut_broken teller due plan second before after left out out' told outcome h bad is fails = record {
  outputs = map puts h.front ++ Tells (outcome_line teller (bad_row_outcome bad)) ∷ [];
  of_run = inr (inr (broken teller bad h.front, alone teller due (broken teller bad h.front) (may_be_broken teller due plan second before after out out' outcome h bad is fails), refl));
  cut = record { whole = map puts h.front; later = Tells (outcome_line teller (bad_row_outcome bad)) ∷ []; split = refl; cut = inl (h.put told left) };
}

pub cut_part : (teller : Teller) (due : Result Work Outcome) (plan : Result Plan Outcome) (second : Result Restoration Outcome) (before after : Option Tree) (left out out' told : Option Bytes) (outcome : Outcome) (h : HasPutPart outcome plan before after out out')
    → due ≡ Ok (Clones h.first second) → HasCut None teller due (world before left out told) (world after left out' told)
cut_part teller due plan second before after left out out' told outcome h is = by h.first.bad refl
  where
    by : (bad : Option BadRow) → h.first.bad ≡ bad → HasCut None teller due (world before left out told) (world after left out' told)
    by None e = cut_whole teller due plan second before after left out out' told outcome h is e
    by (Some bad) e = cut_broken teller due plan second before after left out out' told outcome h bad is e

-- ---- what is to be told

-- the row that fails
pub tell_broken : (teller : Teller) (due : Result Work Outcome) (plan : Result Plan Outcome) (second : Result Restoration Outcome) (before after : Option Tree) (left out out' told : Option Bytes) (outcome : Outcome) (h : HasPutPart outcome plan before after out out')
    (bad : BadRow) → due ≡ Ok (Clones h.first second) → h.first.bad ≡ Some bad → outcome ≡ bad_row_outcome bad → IsToTell teller due outcome (world before left out told) (world after left out' told)
tell_broken teller due plan second before after left out out' told outcome h bad is fails same =
    subst (λ (o : Outcome). IsToTell teller due o (world before left out told) (world after left out' told)) (sym same)
    (record {
      outputs = map puts h.front;
      may = may_be_broken teller due plan second before after out out' outcome h bad is fails;
      put = h.put told left;
    })

-- the refusal of the first half
pub tell_refusal : (teller : Teller) (due : Result Work Outcome) (before after : World) (outcome : Outcome) → due ≡ Err outcome → after ≡ before → IsToTell teller due outcome before after
tell_refusal teller due before after outcome is kept = record { outputs = []; may = may_refuse teller due outcome is; put = kept }

-- the answer of the second half, before which it put out nothing
pub tell_second : (teller : Teller) (due : Result Work Outcome) (plan : Result Plan Outcome) (second : Result Restoration Outcome) (before between after : Option Tree) (left out out' told told' : Option Bytes) (outcome : Outcome) (h : HasPut plan before between out out')
    → due ≡ Ok (Clones h.first second) → MayRestore teller second (told_run teller outcome) → after ≡ between → told' ≡ told
    → IsToTell teller due outcome (world before left out told) (world after left out' told')
tell_second teller due plan second before between after left out out' told told' outcome h is may kept silent = record {
  outputs = map puts h.first.pieces;
  may = may_both teller due h.first second (told_run teller outcome) is h.whole may;
  put = rw (kept, silent) (h.put told left);
}
