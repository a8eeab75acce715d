-- A tree that stays within a footprint stays within a wider one.
use Rattle.std.proofs.Common.{◌≡◌, Bool, true, false, List, [], ◌∷◌, ◌++◌, Option, Some, None, refl, sym, subst, inl, inr}
use Rattle.std.specs.Prelude.{◌⊎◌}
use Rattle.cat_model.specs.declared.key.Key.{Key}
use Rattle.cat_model.specs.declared.key.Key.TheVariants as key
use Rattle.cat_model.specs.declared.class.Mark.{Mark}
use Rattle.cat_model.specs.declared.class.Mark.TheVariants as mark
use Rattle.cat_model.specs.declared.footprint.Footprint.{Footprint}
use Rattle.cat_model.specs.declared.value.Value.{Value}
use Rattle.cat_model.specs.Trees.{Change, Tree, refuse, sets, look, scan, Seen}
use Rattle.cat_model.specs.Marks.{Among, Covers, IsCovered, AllCovered, IsWithin, IsConstraint, IsIndex}

pub among-left : (xs ys : List Mark) (m : Mark) → Among xs m → Among (xs ++ ys) m
among-left [] ys m h = elim h [ ]
among-left (x ∷ xs) ys m (inl e) = inl e
among-left (x ∷ xs) ys m (inr h) = inr (among-left xs ys m h)

pub among-right : (xs ys : List Mark) (m : Mark) → Among ys m → Among (xs ++ ys) m
among-right [] ys m h = h
among-right (x ∷ xs) ys m h = inr (among-right xs ys m h)

pub among-parts : (xs ys : List Mark) (m : Mark) → Among (xs ++ ys) m → Among xs m ⊎ Among ys m
among-parts [] ys m h = inr h
among-parts (x ∷ xs) ys m (inl e) = inl (inl e)
among-parts (x ∷ xs) ys m (inr h) = at (among-parts xs ys m h)
  where
    at : Among xs m ⊎ Among ys m → ((x ≡ m) ⊎ Among xs m) ⊎ Among ys m
    at (inl g) = inl (inr g)
    at (inr g) = inr g

module _ (f g : Footprint) (reads : (m : Mark) → Among f.reads m → Among g.reads m) (writes : (m : Mark) → Among f.writes m → Among g.writes m) where
  covers-wider : (m : Mark) (k : Key) (old new : Option Value) → Covers f.reads m k old new → Covers g.reads m k old new
  covers-wider (mark.Key j) k old new h = h
  covers-wider (mark.NewConstraint table name kind names) k old new h = (h.0, h.1, h.2, reads (mark.Key k) h.3)
  covers-wider (mark.NewIndex table name on) k old new h = (h.0, h.1, h.2, reads (mark.Key k) h.3)
  covers-wider (mark.Class c) k old new h = h

  -- what one of these marks covers
  covered-by : (ms : List Mark) (m : Mark) (k : Key) (old new : Option Value) → Among ms m → Covers g.reads m k old new → IsCovered g.reads ms k old new
  covered-by [] m k old new among h = elim among [ ]
  covered-by (x ∷ xs) m k old new (inl e) h = inl (subst (λ (y : Mark). Covers g.reads y k old new) (sym e) h)
  covered-by (x ∷ xs) m k old new (inr among) h = inr (covered-by xs m k old new among h)

  covered-wider : (ms : List Mark) → ((m : Mark) → Among ms m → Among g.writes m) → (k : Key) (old new : Option Value) → IsCovered f.reads ms k old new → IsCovered g.reads g.writes k old new
  covered-wider [] sub k old new h = elim h [ ]
  covered-wider (m ∷ ms) sub k old new (inl h) = covered-by g.writes m k old new (sub m (inl refl)) (covers-wider m k old new h)
  covered-wider (m ∷ ms) sub k old new (inr h) = covered-wider ms (λ x a. sub x (inr a)) k old new h

  all-wider : (s : Seen) (cs : List Change) → AllCovered f s cs → AllCovered g s cs
  all-wider s [] h = tt
  all-wider s (c ∷ cs) h = (covered-wider f.writes writes c.0 (s.at c.0) c.1 h.0, all-wider s cs h.1)

  pub within-wider : (s : Seen) (tree : Tree) → IsWithin f s tree → IsWithin g s tree
  within-wider s (refuse because) h = tt
  within-wider s (sets changes) h = all-wider s changes h
  within-wider s (look k next) h = (reads (mark.Key k) h.0, within-wider s (next (s.at k)) h.1)
  within-wider s (scan c next) h = (reads (mark.Class c) h.0, within-wider s (next (s.all c)) h.1)
