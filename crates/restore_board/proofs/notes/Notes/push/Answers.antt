use Rattle.std.proofs.Common.{ℕ, ◌<◌, List, [], ◌∷◌, length, refl, ap, sym, subst, ◌∙◌}
use Rattle.std.proofs.lemmas.List.{length-map}
use Rattle.std.specs.Global.{Vec}
use Rattle.restore_plan.specs.declared.status.Note.{Note}
use Rattle.restore_board.specs.Notes.{lists_in, noted_at}
use Rattle.restore_board.proofs.Counting.{room-one, room-same}
use Rattle.restore_board.proofs.notes.Notes.push.Goals as goal

pub append_at-requires : goal.append_at-requires
append_at-requires c =
    subst (λ (n : ℕ). c.args.entry < n) (ap length (sym c.self.view_is) ∙ length-map c.self.inside.lists.items (λ (v : Vec Note). v.items)) c.requires

pub invariant_of-self : goal.invariant_of-self
invariant_of-self c =
    room-same c.self.inside.lists.items c.self.inside.lists.items _ _ _ _ _ c.self.invariant refl c.in_err-many.ensures.kept c.in_err-many.ensures.capacity

pub invariant_of-self-in_err-append_at : goal.invariant_of-self-in_err-append_at
invariant_of-self-in_err-append_at c =
    room-same _ _ _ _ _ _ _ c.self.invariant c.in_err-append_at.ensures.err c.in_ok-many.ensures.kept c.in_ok-many.ensures.capacity

pub invariant_of-self-2 : goal.invariant_of-self-2
invariant_of-self-2 c =
    let put = c.in_ok-append_at.ensures.ok ∙ ap (λ (own : List Note). noted_at (lists_in c.self.inside.lists.items) c.args.entry own) c.in_ok-own.ensures in
    room-one _ _ _ _ _ _ _ _ c.args.entry c.args.note c.self.invariant (subst (λ (l : List (List Note)). c.args.entry < length l) (sym c.self.view_is) c.requires) put c.in_ok-many.ensures.more c.in_ok-many.ensures.kept c.in_ok-many.ensures.room

pub returns : goal.returns
returns c = record {
  ok =
      c.in_ok-append_at.ensures.ok
      ∙ ap (λ (own : List Note). noted_at (lists_in c.self.inside.lists.items) c.args.entry own) c.in_ok-own.ensures
      ∙ ap (λ (l : List (List Note)). noted_at l c.args.entry (c.args.note ∷ [])) c.self.view_is;
  err = tt;
}
