-- Standard input, which a run takes before anything else.
use Rattle.std.proofs.Common.{◌≡◌, List, [], ◌∷◌, ◌++◌, Option, Some, None, Result, refl, sym, ap, subst, ◌∙◌, inl, inr, append-nil}
use Rattle.std.proofs.lemmas.List.{append_assoc}
use Rattle.dump_ports.specs.Tree.{Tree}
use Rattle.cat_model.specs.Values.{Bytes}
use Rattle.tool_words.specs.declared.outcome.Outcome.{Outcome}
use Rattle.tool_words.specs.declared.words.Teller.{Teller}
use Rattle.dump_tools.specs.Due.{Plan}
use Rattle.dump_tools.specs.Inputs.{IsTaken, HasTaken, TakesPart}
use Rattle.dump_tools.specs.Outputs.{World, world, Output, Takes, all_performed, IsCut}
use Rattle.dump_tools.specs.Runs.{Run, run_of, MayCome, Begins, MayRun, HasEnded, HasCut, AreOfRun}

-- what comes first of a run has come, and nothing else has changed
pub record Begun (reads : Option Bytes) (before after : World) : Type 0 where
  pub first : List Output
  pub begins : Begins reads first
  pub put : after ≡ all_performed first before

-- a run has ended behind it
pub record Came (teller : Teller) (due : Result Plan Outcome) (answer : Outcome) (before after : World) : Type 0 where
  pub run : Run
  pub may : MayCome teller due run
  pub answers : answer ≡ run.answer
  pub put : after ≡ all_performed run.outputs before

-- ---- what comes first

pub all_taken : (input : Bytes) → IsTaken input input
all_taken input = record { rest = []; split = sym (append-nil input); whole = λ _. refl }

pub begun : (reads left left' : Option Bytes) (tree tree' : Option Tree) (printed printed' told told' : Option Bytes) → HasTaken reads left left' → tree' ≡ tree → printed' ≡ printed → told' ≡ told → Begun reads (world tree left printed told) (world tree' left' printed' told')
begun None left left' tree tree' printed printed' told told' h a b c = record { first = []; begins = refl; put = rw (h, a, b, c) refl }
begun (Some input) left left' tree tree' printed printed' told told' h a b c = record { first = Takes h.0 ∷ []; begins = (h.0, h.1, refl); put = rw (h.2, a, b, c) refl }

-- some first part of the input was taken
pub cut_taking : (reads left left' : Option Bytes) (teller : Teller) (due : Result Plan Outcome) (tree : Option Tree) (printed told : Option Bytes) → TakesPart reads left left' → HasCut reads teller due (world tree left printed told) (world tree left' printed told)
cut_taking None left left' teller due tree printed told h = record {
  outputs = [];
  of_run = inl refl;
  cut = record { whole = []; later = []; split = refl; cut = ap (λ l. world tree l printed told) h };
}
cut_taking (Some input) left left' teller due tree printed told h = record {
  outputs = Takes input ∷ [];
  of_run = inl (input, all_taken input, refl);
  cut = record {
    whole = [];
    later = Takes input ∷ [];
    split = refl;
    cut = inr (record { front = h.0; rest = h.1; split = h.2; put = ap (λ l. world tree l printed told) h.3 });
  };
}

-- nothing of it was
pub cut_still : (reads : Option Bytes) (teller : Teller) (due : Result Plan Outcome) (w : World) → HasCut reads teller due w w
cut_still None teller due w = record { outputs = []; of_run = inl refl; cut = record { whole = []; later = []; split = refl; cut = refl } }
cut_still (Some input) teller due w = record {
  outputs = Takes input ∷ [];
  of_run = inl (input, all_taken input, refl);
  cut = record { whole = []; later = Takes input ∷ []; split = refl; cut = inl refl };
}

-- ---- what comes behind it

-- a run that reads nothing
pub alone : (teller : Teller) (due : Result Plan Outcome) (run : Run) → MayCome teller due run → MayRun None teller due run
alone teller due run may = record { first = []; begins = refl; later = run; may = may; is = refl }

-- such a run is what comes of what is due
pub came : (teller : Teller) (due : Result Plan Outcome) (run : Run) → MayRun None teller due run → MayCome teller due run
came teller due run r = subst (λ x. MayCome teller due x) (sym (r.is ∙ ap (λ first. run_of (first ++ r.later.outputs) r.later.answer) r.begins)) r.may

-- outputs one after another
pub performed_both : (first later : List Output) (w : World) → all_performed (first ++ later) w ≡ all_performed later (all_performed first w)
performed_both [] later w = refl
performed_both (output ∷ first) later w = performed_both first later _

pub behind_ended : (reads : Option Bytes) (teller : Teller) (due : Result Plan Outcome) (answer : Outcome) (before between after : World) → Begun reads before between → Came teller due answer between after → HasEnded reads teller due answer before after
behind_ended reads teller due answer before between after b c = record {
  run = run_of (b.first ++ c.run.outputs) c.run.answer;
  may = record { first = b.first; begins = b.begins; later = c.run; may = c.may; is = refl };
  answers = c.answers;
  put = c.put ∙ ap (λ w. all_performed c.run.outputs w) b.put ∙ sym (performed_both b.first c.run.outputs before);
}

of_both : (reads : Option Bytes) (teller : Teller) (due : Result Plan Outcome) (first outputs : List Output) → Begins reads first → AreOfRun None teller due outputs → AreOfRun reads teller due (first ++ outputs)
of_both reads teller due first outputs begins (inl e) = inl (subst (λ os. Begins reads os) (sym (ap (λ os. first ++ os) e ∙ append-nil first)) begins)
of_both reads teller due first outputs begins (inr (run, may, is)) = inr (
  run_of (first ++ run.outputs) run.answer,
  record { first = first; begins = begins; later = run; may = came teller due run may; is = refl },
  ap (λ os. first ++ os) is,
)

pub behind_cut : (reads : Option Bytes) (teller : Teller) (due : Result Plan Outcome) (before between after : World) → Begun reads before between → HasCut None teller due between after → HasCut reads teller due before after
behind_cut reads teller due before between after b h = record {
  outputs = b.first ++ h.outputs;
  of_run = of_both reads teller due b.first h.outputs b.begins h.of_run;
  cut = record {
    whole = b.first ++ h.cut.whole;
    later = h.cut.later;
    split = ap (λ os. b.first ++ os) h.cut.split ∙ sym (append_assoc b.first h.cut.whole h.cut.later);
    cut = subst (λ w. IsCut h.cut.later w after)
        (ap (λ w. all_performed h.cut.whole w) b.put ∙ sym (performed_both b.first h.cut.whole before))
        h.cut.cut;
  };
}
