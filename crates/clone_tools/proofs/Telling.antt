-- The answers of both halves, and the line of an answer.
use Rattle.std.proofs.Common.{◌≡◌, ℕ, ◌≤◌, not, [], ◌∷◌, ◌++◌, Option, Some, None, Result, Ok, refl, sym, ap, subst, ◌∙◌, ◌⊎◌, inl, inr}
use Rattle.cat_model.specs.Values.{Bytes}
use Rattle.command_line.specs.declared.values.Format.{Format}
use Rattle.clone_restores.specs.Due.{Restoration, written_due}
use Rattle.clone_restores.specs.Standing.{IsNotRestored}
use Rattle.clone_words.specs.declared.asked.CloneAsked.{CloneAsked}
use Rattle.clone_tools.specs.declared.clone.Halves.{Halves}
use Rattle.clone_tools.specs.Due.{Work, Clones, dumped, first_due, all_put, second_due, clone_due}
use Rattle.clone_tools.specs.Runs.{HasEnded, HasCut, HasEndedEarly, HasAnswered}
use Rattle.clone_tools.specs.Halves.{HasPut, HasNotPut, IsBreak, AreHalves, IsToTell, IsUntold, IsTelling}
use Rattle.clone_tools.proofs.Second.{is_refused, cut_off, may_tell}
use Rattle.clone_tools.proofs.Second.{cut_none as cut_still}
use Rattle.clone_tools.proofs.Joining.{clones, refuses, alone, cut_none, cut_part, cut_second, tell_refusal, tell_broken, tell_second}
use Rattle.dump_ports.specs.Faults.{HasRisen}
use Rattle.dump_ports.specs.Tree.{Tree}
use Rattle.dump_ports.specs.declared.moment.Moment.{Moment}
use Rattle.dump_tools.specs.Due.{Plan, dump_due, Counts, counts, NoneRose, Counted}
use Rattle.dump_tools.specs.Outputs.{World, world, Tells, Takes, all_performed, IsPart}
use Rattle.dump_tools.specs.Runs.{run_of, IsEarly}
use Rattle.dump_tools.proofs.Counting.{counted_told, counted_untold, none_early}
use Rattle.dump_tools.proofs.Taking.{performed_both, all_taken}
use Rattle.dump_tools.proofs.Putting.{told_part, told_whole}
use Rattle.tool_words.specs.declared.outcome.Outcome.{Outcome}
use Rattle.tool_words.specs.declared.outcome.Outcome.TheVariants.{Done, Usage, ReadFault, WriteFault, Missing, BadExport, BadScript, OutOfProfile, TooLarge, Differs, ScriptStopped, BadArchive, BadList, BadDefn, WithErrors, RestoreStopped, Loop, NoMatch, Memory}
use Rattle.tool_words.specs.declared.words.DumpAsked.{DumpAsked}
use Rattle.tool_words.specs.declared.words.Teller.{Teller}
use Rattle.tool_words.specs.Answers.{IsLate}
use Rattle.tool_words.specs.Lines.{Appends, AppendsPart}
use Rattle.tool_words.specs.Messages.{outcome_line}

-- by cases of an answer: it ended the work on its way, or not
pub early_or : (answer : Outcome) → IsEarly answer ⊎ (IsEarly answer → ⊥)
early_or Done = inr (λ h. h)
early_or (Usage word kind) = inr (λ h. h)
early_or ReadFault = inl tt
early_or WriteFault = inl tt
early_or (Missing name) = inr (λ h. h)
early_or (BadExport file line kind) = inr (λ h. h)
early_or (BadScript fault) = inr (λ h. h)
early_or (OutOfProfile what) = inr (λ h. h)
early_or (TooLarge what most) = inr (λ h. h)
early_or (Differs key) = inr (λ h. h)
early_or (ScriptStopped stop) = inr (λ h. h)
early_or (BadArchive fault) = inr (λ h. h)
early_or (BadList fault) = inr (λ h. h)
early_or (BadDefn entry fault) = inr (λ h. h)
early_or (WithErrors errors) = inr (λ h. h)
early_or (RestoreStopped stop) = inr (λ h. h)
early_or (Loop path) = inr (λ h. h)
early_or (NoMatch pattern) = inr (λ h. h)
early_or Memory = inl tt

early_is : (answer : Outcome) → IsEarly answer → (answer ≡ ReadFault) ⊎ (answer ≡ WriteFault) ⊎ (answer ≡ Memory)
early_is ReadFault h = inl refl
early_is WriteFault h = inr (inl refl)
early_is Memory h = inr (inr refl)
early_is answer h = elim h [ ]

late_early : (outcome : Outcome) → IsLate outcome → IsEarly outcome
late_early WriteFault h = tt
late_early Memory h = tt
late_early outcome h = elim h [ ]

-- ---- the first half ended

pub untold_first : (teller : Teller) (name : Bytes) (asked : CloneAsked) (moment : Moment) (tree : Tree) (outcome : Outcome) (before after : Option Tree) (left out out' told : Option Bytes)
    → HasNotPut outcome (first_due asked moment tree) before after out out' → IsUntold teller (clone_due name asked moment tree) outcome (world before left out told) (world after left out' told)
untold_first teller name asked moment tree outcome before after left out out' told (inl h) = by (early_or outcome)
  where
    same : world after left out' told ≡ world before left out told
    same = rw (h.kept, h.quiet) refl

    by : IsEarly outcome ⊎ (IsEarly outcome → ⊥) → IsUntold teller (clone_due name asked moment tree) outcome (world before left out told) (world after left out' told)
    by (inl early) = inl (early, cut_none teller (clone_due name asked moment tree) (world before left out told) (world after left out' told) same)
    by (inr late) = inr (late, tell_refusal teller (clone_due name asked moment tree) (world before left out told) (world after left out' told) outcome (refuses name asked moment tree outcome (is_refused outcome (first_due asked moment tree) late h.is_due)) same)
untold_first teller name asked moment tree outcome before after left out out' told (inr h) = by (early_or outcome) h.ends
  where
    is : clone_due name asked moment tree ≡ Ok (Clones h.first (second_due name asked (all_put h.first.pieces tree)))
    is = clones name asked moment tree h.first h.is_due

    by : IsEarly outcome ⊎ (IsEarly outcome → ⊥) → IsBreak outcome h.first.bad → IsUntold teller (clone_due name asked moment tree) outcome (world before left out told) (world after left out' told)
    by (inl early) ends = inl (early, cut_part teller (clone_due name asked moment tree) (first_due asked moment tree) (second_due name asked (all_put h.first.pieces tree)) before after left out out' told outcome h is)
    by (inr late) (inl early) = elim (late early) [ ]
    by (inr late) (inr row) = inr (late, tell_broken teller (clone_due name asked moment tree) (first_due asked moment tree) (second_due name asked (all_put h.first.pieces tree)) before after left out out' told outcome h row.0 is row.1 row.2)

-- ---- the second half ended

pub untold_second : (teller : Teller) (due : Result Work Outcome) (plan : Result Plan Outcome) (second : Result Restoration Outcome) (outcome : Outcome) (before between after : Option Tree) (left out out' told told' : Option Bytes) (h : HasPut plan before between out out')
    → due ≡ Ok (Clones h.first second) → IsNotRestored outcome second between after told told'
    → IsUntold teller due outcome (world before left out told) (world after left out' told')
untold_second teller due plan second outcome before between after left out out' told told' h is (inl n) = by (early_or outcome)
  where
    same : world after left out' told' ≡ world between left out' told
    same = rw (n.kept, n.silent) refl

    by : IsEarly outcome ⊎ (IsEarly outcome → ⊥) → IsUntold teller due outcome (world before left out told) (world after left out' told')
    by (inl early) = inl (early, cut_second teller due plan second before between after left out out' told told' h is (cut_still teller second (world between left out' told) (world after left out' told') same))
    by (inr late) = inr (late, tell_second teller due plan second before between after left out out' told told' outcome h is (may_tell teller second outcome late n.answers) n.kept n.silent)
untold_second teller due plan second outcome before between after left out out' told told' h is (inr b) =
    inl (late_early outcome b.late, cut_second teller due plan second before between after left out out' told told' h is (cut_off teller second b.plan between after left out' told told' b.is_due b.cut))

-- ---- the line of the answer

-- an answer whose line was told behind all that was put out
told_behind : (teller : Teller) (due : Result Work Outcome) (outcome : Outcome) (before : World) (files : Option Tree) (left out told told' : Option Bytes)
    → IsToTell teller due outcome before (world files left out told) → Appends (outcome_line teller outcome) told told' → HasEnded None teller due outcome before (world files left out told')
told_behind teller due outcome before files left out told told' h said = record {
  run = run_of (h.outputs ++ Tells (outcome_line teller outcome) ∷ []) outcome;
  may = alone teller due (run_of (h.outputs ++ Tells (outcome_line teller outcome) ∷ []) outcome) h.may;
  answers = refl;
  put = ap (λ t. world files left out t) said ∙ ap (λ w. all_performed (Tells (outcome_line teller outcome) ∷ []) w) h.put ∙ sym (performed_both h.outputs (Tells (outcome_line teller outcome) ∷ []) before);
}

-- its line couldn't be told
untold_behind : (teller : Teller) (due : Result Work Outcome) (outcome : Outcome) (before after : World) → IsToTell teller due outcome before after → HasCut None teller due before after
untold_behind teller due outcome before after h = record {
  outputs = h.outputs ++ Tells (outcome_line teller outcome) ∷ [];
  of_run = inr (inr (run_of (h.outputs ++ Tells (outcome_line teller outcome) ∷ []) outcome, alone teller due (run_of (h.outputs ++ Tells (outcome_line teller outcome) ∷ []) outcome) h.may, refl));
  cut = record { whole = h.outputs; later = Tells (outcome_line teller outcome) ∷ []; split = refl; cut = inl h.put };
}

-- some of it was
cut_in_line : (teller : Teller) (due : Result Work Outcome) (outcome : Outcome) (before : World) (files : Option Tree) (left out told told' : Option Bytes) (lines lines' : ℕ)
    → IsToTell teller due outcome before (world files left out told) → AppendsPart (outcome_line teller outcome) told told' → HasEndedEarly None teller due WriteFault before (world files left out told') lines lines'
cut_in_line teller due outcome before files left out told told' lines lines' h p =
    let line = outcome_line teller outcome in
    record {
      between = world files left out told';
      ended = record {
        outputs = h.outputs ++ Tells line ∷ [];
        of_run = inr (inr (run_of (h.outputs ++ Tells line ∷ []) outcome, alone teller due (run_of (h.outputs ++ Tells line ∷ []) outcome) h.may, refl));
        cut = record {
          whole = h.outputs;
          later = Tells line ∷ [];
          split = refl;
          cut = subst (λ w. IsPart (Tells line) w (world files left out told')) h.put (told_part files left out told told' line p);
        };
      };
      said = WriteFault;
      own = inl refl;
      line = inl refl;
    }

-- how far it was put out, whatever is to be told
cut_untold : (teller : Teller) (due : Result Work Outcome) (outcome : Outcome) (before after : World) → IsUntold teller due outcome before after → HasCut None teller due before after
cut_untold teller due outcome before after (inl h) = h.1
cut_untold teller due outcome before after (inr h) = untold_behind teller due outcome before after h.1

-- the answer once its line was told, or not
pub told_answer : (teller : Teller) (due : Result Work Outcome) (outcome answer : Outcome) (before : World) (files : Option Tree) (left out told told' : Option Bytes) (lines lines' lines'' : ℕ)
    → IsUntold teller due outcome before (world files left out told)
    → IsTelling teller outcome answer told told' lines' lines'' → ((lines' ≤ lines'') × HasRisen lines' lines'' → HasRisen lines lines'')
    → HasAnswered None teller due answer before (world files left out told') lines lines''
told_answer teller due outcome answer before files left out told told' lines lines' lines'' h (inl said) rises =
    subst (λ (a : Outcome). HasAnswered None teller due a before (world files left out told') lines lines'') (sym said.0) (by (early_or outcome))
  where
    of : IsUntold teller due outcome before (world files left out told) → (IsEarly outcome → ⊥) → HasEnded None teller due outcome before (world files left out told')
    of (inl cut) late = elim (late cut.0) [ ]
    of (inr tell) late = told_behind teller due outcome before files left out told told' tell.1 said.1

    by : IsEarly outcome ⊎ (IsEarly outcome → ⊥) → HasAnswered None teller due outcome before (world files left out told') lines lines''
    by (inl early) = inl (
      early,
      record {
        between = world files left out told;
        ended = cut_untold teller due outcome before (world files left out told) h;
        said = outcome;
        own = inl refl;
        line = told_whole files left out told told' (outcome_line teller outcome) said.1;
      },
    )
    by (inr late) = inr (late, of h late)
told_answer teller due outcome answer before files left out told told' lines lines' lines'' h (inr failed) rises =
    subst (λ (a : Outcome). HasAnswered None teller due a before (world files left out told') lines lines'') (sym failed.0) (inl (tt, by (early_or outcome)))
  where
    in_line : IsUntold teller due outcome before (world files left out told) → (IsEarly outcome → ⊥) → HasEndedEarly None teller due WriteFault before (world files left out told') lines lines''
    in_line (inl cut) late = elim (late cut.0) [ ]
    in_line (inr tell) late = cut_in_line teller due outcome before files left out told told' lines lines'' tell.1 failed.1

    by : IsEarly outcome ⊎ (IsEarly outcome → ⊥) → HasEndedEarly None teller due WriteFault before (world files left out told') lines lines''
    by (inl early) = record {
      between = world files left out told;
      ended = cut_untold teller due outcome before (world files left out told) h;
      said = outcome;
      own = inr (refl, early, rises (failed.2, failed.3));
      line = told_part files left out told told' (outcome_line teller outcome) failed.1;
    }
    by (inr late) = in_line h late

-- ---- what the halves are handed

pub first_put : (asked : CloneAsked) (moment : Moment) (tree : Tree) (dump : DumpAsked) (before after : Option Tree) (out out' : Option Bytes) → dump ≡ dumped asked → HasPut (dump_due dump moment tree) before after out out' → HasPut (first_due asked moment tree) before after out out'
unfolding first_due
first_put asked moment tree dump before after out out' is h = subst (λ (d : DumpAsked). HasPut (dump_due d moment tree) before after out out') is h

pub first_not_put : (asked : CloneAsked) (moment : Moment) (tree : Tree) (dump : DumpAsked) (outcome : Outcome) (before after : Option Tree) (out out' : Option Bytes) → dump ≡ dumped asked → HasNotPut outcome (dump_due dump moment tree) before after out out' → HasNotPut outcome (first_due asked moment tree) before after out out'
unfolding first_due
first_not_put asked moment tree dump outcome before after out out' is h = subst (λ (d : DumpAsked). HasNotPut outcome (dump_due d moment tree) before after out out') is h

pub same_second : (asked : CloneAsked) (halves : Halves) (name other : Bytes) (tree : Tree) → AreHalves asked halves → name ≡ other → written_due name halves.format halves.owners halves.target halves.path tree ≡ second_due other asked tree
same_second asked halves name other tree h e =
    ap (λ n. written_due n halves.format halves.owners halves.target halves.path tree) e
    ∙ ap (λ (f : Format). written_due other f halves.owners halves.target halves.path tree) h.format
    ∙ ap (λ o. written_due other asked.format o halves.target halves.path tree) h.owners
    ∙ ap (λ t. written_due other asked.format (not asked.choice.no_owner) t halves.path tree) h.target
    ∙ ap (λ p. written_due other asked.format (not asked.choice.no_owner) asked.target p tree) h.path

-- ---- want of memory before anything is put out

pub untold_memory : (teller : Teller) (due : Result Work Outcome) (w : World) → IsUntold teller due Memory w w
untold_memory teller due w = inl (tt, cut_none teller due w w refl)

-- nothing was put out, whatever would be read
still : (reads : Option Bytes) (teller : Teller) (due : Result Work Outcome) (w : World) → HasCut reads teller due w w
still None teller due w = cut_none teller due w w refl
still (Some input) teller due w = record {
  outputs = Takes input ∷ [];
  of_run = inl (input, all_taken input, refl);
  cut = record { whole = []; later = Takes input ∷ []; split = refl; cut = inl refl };
}

pub memory_answered : (reads : Option Bytes) (teller : Teller) (due : Result Work Outcome) (answer : Outcome) (files : Option Tree) (left out told told' : Option Bytes) (lines lines' : ℕ)
    → IsTelling teller Memory answer told told' lines lines' → HasAnswered reads teller due answer (world files left out told) (world files left out told') lines lines'
memory_answered reads teller due answer files left out told told' lines lines' (inl said) =
    subst (λ (a : Outcome). HasAnswered reads teller due a (world files left out told) (world files left out told') lines lines') (sym said.0)
    (inl (
      tt,
      record {
        between = world files left out told;
        ended = still reads teller due (world files left out told);
        said = Memory;
        own = inl refl;
        line = told_whole files left out told told' (outcome_line teller Memory) said.1;
      },
    ))
memory_answered reads teller due answer files left out told told' lines lines' (inr failed) =
    subst (λ (a : Outcome). HasAnswered reads teller due a (world files left out told) (world files left out told') lines lines') (sym failed.0)
    (inl (
      tt,
      record {
        between = world files left out told;
        ended = still reads teller due (world files left out told);
        said = Memory;
        own = inr (refl, tt, failed.3);
        line = told_part files left out told told' (outcome_line teller Memory) failed.1;
      },
    ))

-- ---- counts

pub told_counted : (teller : Teller) (outcome answer : Outcome) (told told' : Option Bytes) (a : Counts) (r i w p l l' : ℕ) → IsTelling teller outcome answer told told' l l' → Counted outcome a (counts r i w p l) → Counted answer a (counts r i w p l')
told_counted teller outcome answer told told' a r i w p l l' (inl said) c = subst (λ (o : Outcome). Counted o a (counts r i w p l')) (sym said.0) (counted_told outcome a r i w p l l' c said.2)
told_counted teller outcome answer told told' a r i w p l l' (inr failed) c = subst (λ (o : Outcome). Counted o a (counts r i w p l')) (sym failed.0) (counted_untold outcome a r i w p l l' c (failed.2, failed.3))

-- where no count rose, it has ended, or memory ran out
pub completed : (reads : Option Bytes) (teller : Teller) (due : Result Work Outcome) (answer : Outcome) (before after : World) (lines lines' : ℕ) (a b : Counts) → NoneRose a b → Counted answer a b
    → HasAnswered reads teller due answer before after lines lines' → HasEnded reads teller due answer before after ⊎ (answer ≡ Memory)
completed reads teller due answer before after lines lines' a b none c (inr h) = inl h.1
completed reads teller due answer before after lines lines' a b none c (inl h) = by (early_is answer h.0)
  where
    by : (answer ≡ ReadFault) ⊎ (answer ≡ WriteFault) ⊎ (answer ≡ Memory) → HasEnded reads teller due answer before after ⊎ (answer ≡ Memory)
    by (inl e) = elim (none_early answer a b none c (inl e)) [ ]
    by (inr (inl e)) = elim (none_early answer a b none c (inr e)) [ ]
    by (inr (inr e)) = inr e

-- where no count rose, memory ran out
pub memory_alone : (teller : Teller) (answer : Outcome) (told told' : Option Bytes) (a : Counts) (r i w p l l' : ℕ) → IsTelling teller Memory answer told told' l l' → a ≡ counts r i w p l → NoneRose a (counts r i w p l') → answer ≡ Memory
memory_alone teller answer told told' a r i w p l l' (inl said) is none = said.0
memory_alone teller answer told told' a r i w p l l' (inr failed) is none =
    elim (none_early WriteFault a (counts r i w p l') none (counted_untold Memory a r i w p l l' (sym is) (failed.2, failed.3)) (inr refl)) [ ]
