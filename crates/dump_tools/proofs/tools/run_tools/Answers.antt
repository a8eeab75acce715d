use Rattle.std.proofs.Common.{refl, inl}
use Rattle.tool_words.specs.declared.outcome.Outcome.TheVariants.{WriteFault}
use Rattle.tool_words.specs.Words.{teller_of}
use Rattle.dump_tools.specs.Due.{due}
use Rattle.dump_tools.proofs.Counting.{counted_told, counted_untold, lines_risen}
use Rattle.dump_tools.proofs.Refusing.{due_never}
use Rattle.dump_tools.proofs.Carried.{ended}
use Rattle.dump_tools.proofs.Taking.{begun, behind_ended}
use Rattle.dump_tools.proofs.Telling.{as_answered, not_early, counted_final, told_answer, untold_answer, refuses, completed}
use Rattle.dump_tools.proofs.tools.run_tools.Goals as goal

-- what was due was done
pub returns-in-Ok-clause-answered : goal.returns-in-Ok-clause-answered
returns-in-Ok-clause-answered g c = λ tree bytes known tells.
    as_answered c.in-Ok.answer c.args.words.now c.args.moment tree bytes _ _ _ _
    (λ early. elim (not_early c.in-Ok.answer c.in-Ok.ensures.ends early) [ ])
    (λ late. behind_ended _ (teller_of c.args.words.now) (due c.args.words.now c.args.moment tree bytes) _ _ _ _
    (begun _ _ _ _ _ _ _ _ _ (c.in-Ok.ensures.taken bytes tells) refl refl refl)
    (ended (teller_of c.args.words.now) (due c.args.words.now c.args.moment tree bytes) _ _ _ _ _ _ _ _ (c.in-Ok.ensures.done tree bytes known tells)))

pub returns-in-Ok-clause-counted : goal.returns-in-Ok-clause-counted
returns-in-Ok-clause-counted g c = counted_final c.in-Ok.answer _ _ c.in-Ok.ensures.ends c.in-Ok.ensures.counted

pub returns-in-Ok-clause-complete : goal.returns-in-Ok-clause-complete
returns-in-Ok-clause-complete g c = λ tree bytes known tells none. inl (
    behind_ended _ (teller_of c.args.words.now) (due c.args.words.now c.args.moment tree bytes) _ _ _ _
    (begun _ _ _ _ _ _ _ _ _ (c.in-Ok.ensures.taken bytes tells) refl refl refl)
    (ended (teller_of c.args.words.now) (due c.args.words.now c.args.moment tree bytes) _ _ _ _ _ _ _ _ (c.in-Ok.ensures.done tree bytes known tells)))

-- an answer whose line was told
pub returns-in-Ok-tell_outcome-clause-counted : goal.returns-in-Ok-tell_outcome-clause-counted
returns-in-Ok-tell_outcome-clause-counted g c = rw c.in-Ok-tell_outcome.ensures.same (counted_told c.in-Err.outcome _ _ _ _ _ _ _ c.in-Err.ensures.counted c.in-Ok-tell_outcome.ensures.count)

pub returns-in-Ok-tell_outcome-clause-answered : goal.returns-in-Ok-tell_outcome-clause-answered
returns-in-Ok-tell_outcome-clause-answered g c = λ tree bytes known tells.
    rw c.in-Ok-tell_outcome.ensures.same (told_answer c.in-Err.outcome c.args.words.now c.args.moment tree bytes _ _ _ _ _ _ _ _
    (due_never c.args.words.now c.args.moment tree bytes) (c.in-Err.ensures.refused tree bytes known tells)
    (λ late. let is = refuses (due c.args.words.now c.args.moment tree bytes) c.in-Err.outcome (due_never c.args.words.now c.args.moment tree bytes) (c.in-Err.ensures.refused tree bytes known tells) late in
    begun _ _ _ _ _ _ _ _ _ (c.in-Err.ensures.taken bytes tells late) (c.in-Err.ensures.kept is.0 late) (c.in-Err.ensures.quiet late) (c.in-Err.ensures.silent is.1))
    (c.in-Err.ensures.cut (teller_of c.args.words.now) tree bytes known tells)
    (rw (c.teller_of-teller.ensures) at c.in-Ok-tell_outcome.ensures.ok))

pub returns-in-Ok-tell_outcome-clause-complete : goal.returns-in-Ok-tell_outcome-clause-complete
returns-in-Ok-tell_outcome-clause-complete g c = λ tree bytes known tells none.
    rw c.in-Ok-tell_outcome.ensures.same (completed c.in-Err.outcome c.args.words.now c.args.moment tree bytes _ _ (g.E.Sink.faults c.args.err.now) (g.E.Sink.faults c.tell_outcome.new.err) _ _ none
    (counted_told c.in-Err.outcome _ _ _ _ _ _ _ c.in-Err.ensures.counted c.in-Ok-tell_outcome.ensures.count)
    (told_answer c.in-Err.outcome c.args.words.now c.args.moment tree bytes _ _ _ _ _ _ _ _
    (due_never c.args.words.now c.args.moment tree bytes) (c.in-Err.ensures.refused tree bytes known tells)
    (λ late. let is = refuses (due c.args.words.now c.args.moment tree bytes) c.in-Err.outcome (due_never c.args.words.now c.args.moment tree bytes) (c.in-Err.ensures.refused tree bytes known tells) late in
    begun _ _ _ _ _ _ _ _ _ (c.in-Err.ensures.taken bytes tells late) (c.in-Err.ensures.kept is.0 late) (c.in-Err.ensures.quiet late) (c.in-Err.ensures.silent is.1))
    (c.in-Err.ensures.cut (teller_of c.args.words.now) tree bytes known tells)
    (rw (c.teller_of-teller.ensures) at c.in-Ok-tell_outcome.ensures.ok)))

-- one whose line couldn't be told
pub returns-in-Err-tell_outcome-clause-counted : goal.returns-in-Err-tell_outcome-clause-counted
returns-in-Err-tell_outcome-clause-counted g c = counted_untold c.in-Err.outcome _ _ _ _ _ _ _ c.in-Err.ensures.counted c.in-Err-tell_outcome.ensures.count

pub returns-in-Err-tell_outcome-clause-answered : goal.returns-in-Err-tell_outcome-clause-answered
returns-in-Err-tell_outcome-clause-answered g c = λ tree bytes known tells.
    untold_answer c.in-Err.outcome c.args.words.now c.args.moment tree bytes _ _ _ _ _ _ _ _
    (due_never c.args.words.now c.args.moment tree bytes) (c.in-Err.ensures.refused tree bytes known tells)
    (λ late. let is = refuses (due c.args.words.now c.args.moment tree bytes) c.in-Err.outcome (due_never c.args.words.now c.args.moment tree bytes) (c.in-Err.ensures.refused tree bytes known tells) late in
    begun _ _ _ _ _ _ _ _ _ (c.in-Err.ensures.taken bytes tells late) (c.in-Err.ensures.kept is.0 late) (c.in-Err.ensures.quiet late) (c.in-Err.ensures.silent is.1))
    (c.in-Err.ensures.cut (teller_of c.args.words.now) tree bytes known tells)
    (rw (c.teller_of-teller.ensures) at c.in-Err-tell_outcome.ensures.err)
    (lines_risen c.in-Err.outcome _ _ _ _ _ _ _ c.in-Err.ensures.counted c.in-Err-tell_outcome.ensures.count)

pub returns-in-Err-tell_outcome-clause-complete : goal.returns-in-Err-tell_outcome-clause-complete
returns-in-Err-tell_outcome-clause-complete g c = λ tree bytes known tells none.
    completed WriteFault c.args.words.now c.args.moment tree bytes _ _ (g.E.Sink.faults c.args.err.now) (g.E.Sink.faults c.tell_outcome.new.err) _ _ none
    (counted_untold c.in-Err.outcome _ _ _ _ _ _ _ c.in-Err.ensures.counted c.in-Err-tell_outcome.ensures.count)
    (untold_answer c.in-Err.outcome c.args.words.now c.args.moment tree bytes _ _ _ _ _ _ _ _
    (due_never c.args.words.now c.args.moment tree bytes) (c.in-Err.ensures.refused tree bytes known tells)
    (λ late. let is = refuses (due c.args.words.now c.args.moment tree bytes) c.in-Err.outcome (due_never c.args.words.now c.args.moment tree bytes) (c.in-Err.ensures.refused tree bytes known tells) late in
    begun _ _ _ _ _ _ _ _ _ (c.in-Err.ensures.taken bytes tells late) (c.in-Err.ensures.kept is.0 late) (c.in-Err.ensures.quiet late) (c.in-Err.ensures.silent is.1))
    (c.in-Err.ensures.cut (teller_of c.args.words.now) tree bytes known tells)
    (rw (c.teller_of-teller.ensures) at c.in-Err-tell_outcome.ensures.err)
    (lines_risen c.in-Err.outcome _ _ _ _ _ _ _ c.in-Err.ensures.counted c.in-Err-tell_outcome.ensures.count))
