-- A tree that stays within a footprint says the same of all that agrees in what the footprint reads.
use Rattle.std.proofs.Common.{◌≡◌, Bool, true, false, List, [], ◌∷◌, Option, Some, None, Result, Ok, Err, refl, ap, sym, subst, ◌∙◌, inl, inr}
use Rattle.std.specs.Prelude.{◌⊎◌}
use Rattle.cat_model.specs.declared.key.Key.{Key}
use Rattle.cat_model.specs.declared.class.Class.{Class}
use Rattle.cat_model.specs.declared.class.Mark.{Mark}
use Rattle.cat_model.specs.declared.class.Mark.TheVariants as mark
use Rattle.cat_model.specs.declared.footprint.Footprint.{Footprint}
use Rattle.cat_model.specs.declared.cause.Cause.{Cause}
use Rattle.cat_model.specs.declared.value.Value.{Value}
use Rattle.cat_model.specs.Values.{Named}
use Rattle.cat_model.specs.Trees.{Change, Tree, refuse, sets, look, scan, Seen, seen, outcome}
use Rattle.cat_model.specs.Marks.{Among, Covers, IsCovered, AllCovered, IsWithin, Agree}

module _ (f : Footprint) (s t : Seen) (same : Agree f.reads s t) where
  covers-moved : (m : Mark) (k : Key) (new : Option Value) → Covers f.reads m k (s.at k) new → Covers f.reads m k (t.at k) new
  covers-moved (mark.Key j) k new h = h
  covers-moved (mark.NewConstraint table name kind names) k new h = (h.0, sym (same.keys k h.3) ∙ h.1, h.2, h.3)
  covers-moved (mark.NewIndex table name on) k new h = (h.0, sym (same.keys k h.3) ∙ h.1, h.2, h.3)
  covers-moved (mark.Class c) k new h = h

  covered-moved : (ms : List Mark) (k : Key) (new : Option Value) → IsCovered f.reads ms k (s.at k) new → IsCovered f.reads ms k (t.at k) new
  covered-moved [] k new h = h
  covered-moved (m ∷ ms) k new (inl h) = inl (covers-moved m k new h)
  covered-moved (m ∷ ms) k new (inr h) = inr (covered-moved ms k new h)

  all_covered-moved : (cs : List Change) → AllCovered f s cs → AllCovered f t cs
  all_covered-moved [] h = h
  all_covered-moved (c ∷ cs) h = (covered-moved f.writes c.0 c.1 h.0, all_covered-moved cs h.1)

  -- it says the same
  pub outcome-same : (tree : Tree) → IsWithin f s tree → outcome tree s ≡ outcome tree t
  outcome-same (refuse because) h = refl
  outcome-same (sets changes) h = refl
  outcome-same (look k next) h = outcome-same (next (s.at k)) h.1 ∙ ap (λ (v : Option Value). outcome (next v) t) (same.keys k h.0)
  outcome-same (scan c next) h = outcome-same (next (s.all c)) h.1 ∙ ap (λ (es : List (Key × Value)). outcome (next es) t) (same.classes c h.0)

  -- and stays within it there too
  pub within-same : (tree : Tree) → IsWithin f s tree → IsWithin f t tree
  within-same (refuse because) h = h
  within-same (sets changes) h = all_covered-moved changes h
  within-same (look k next) h = (h.0, subst (λ (v : Option Value). IsWithin f t (next v)) (same.keys k h.0) (within-same (next (s.at k)) h.1))
  within-same (scan c next) h = (h.0, subst (λ (es : List (Key × Value)). IsWithin f t (next es)) (same.classes c h.0) (within-same (next (s.all c)) h.1))

-- the changes that it makes are covered
pub covered-outcome : (f : Footprint) (s : Seen) (tree : Tree) (cs : List Change) → IsWithin f s tree → outcome tree s ≡ Ok cs → AllCovered f s cs
covered-outcome f s (refuse because) cs h e = cc
covered-outcome f s (sets changes) cs h e =
    let same : changes ≡ cs = cc in
    subst (AllCovered f s) same h
covered-outcome f s (look k next) cs h e = covered-outcome f s (next (s.at k)) cs h.1 e
covered-outcome f s (scan c next) cs h e = covered-outcome f s (next (s.all c)) cs h.1 e
