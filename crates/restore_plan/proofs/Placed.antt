-- Each entry of a plan in its place. What a COPY reads of parents that its own entry adds is what the foreign keys of
-- the entry read.
use Rattle.std.proofs.Common.{◌≡◌, Bool, true, false, cond, ◌&&◌, List, [], ◌∷◌, ◌++◌, Option, Some, None, refl, ap, sym, ◌∙◌, inl, inr}
use Rattle.std.specs.Prelude.{◌⊎◌}
use Rattle.std.specs.List.{list_any, flat_map}
use Rattle.std.proofs.lemmas.List.Folds.{list_any-append}
use Rattle.cat_model.specs.declared.object.QName.{QName}
use Rattle.cat_model.specs.declared.key.Key.{Key}
use Rattle.cat_model.specs.declared.key.Key.TheVariants as key
use Rattle.cat_model.specs.declared.class.Class.TheVariants as class
use Rattle.cat_model.specs.declared.class.Mark.{Mark}
use Rattle.cat_model.specs.declared.class.Mark.TheVariants as mark
use Rattle.cat_model.specs.declared.footprint.Footprint.{Footprint}
use Rattle.cat_model.specs.declared.stmt.Stmt.{Stmt}
use Rattle.cat_model.specs.declared.stmt.Stmt.TheVariants as stmt
use Rattle.cat_model.specs.Values.{Bytes, Named}
use Rattle.cat_model.specs.Trees.{same_path, seen}
use Rattle.cat_model.specs.Marks.{Among, IsWithin}
use Rattle.cat_model.specs.Effects.{effect}
use Rattle.cat_model.specs.Footprints.{is_given, parent_reads, reads_of, writes_of, footprint_of}
use Rattle.restore_plan.specs.declared.step.Step.{Step}
use Rattle.restore_plan.specs.declared.entry.Entry.{Entry}
use Rattle.restore_plan.specs.Order.{foreign_keys_of, foreign_keys_in, footprint_of_steps, planned, plan_behind}
use Rattle.restore_plan.specs.Places.{Given, Stays, AllStay, InPlace, InPlaces}
use Rattle.restore_plan.proofs.Booleans.{or_by_first, or_by_second}
use Rattle.restore_plan.proofs.Wider.{among-left, among-right, among-parts, within-wider}
use Rattle.restore_plan.proofs.Foreign.{Statements, OwnGiven, gives-parents, given-kept}

-- ---- pairs

wider-pairs : (ps qs : List (QName × QName)) (n : Named) → Given ps n → Given (ps ++ qs) n
wider-pairs ps qs n given table name c parent names e g =
    list_any-append (λ pair. same_path table pair.0 && same_path parent pair.1) ps qs ∙ or_by_first (is_given ps table parent) (is_given qs table parent) (given table name c parent names e g)

-- the foreign keys of these statements are given
abbrev OwnsGiven : List (QName × QName) → List Step → Type 0
OwnsGiven pairs [] = Unit {0}
OwnsGiven pairs (s ∷ ss) = OwnGiven pairs s.statement × OwnsGiven pairs ss

owns-by : (pairs : List (QName × QName)) (ss : List Step) → ((table parent : QName) → is_given (foreign_keys_in ss) table parent ≡ true → is_given pairs table parent ≡ true) → OwnsGiven pairs ss
owns-by pairs [] sub = tt
owns-by pairs (s ∷ ss) sub = (
  λ table parent h. sub table parent (list_any-append (λ pair. same_path table pair.0 && same_path parent pair.1) (foreign_keys_of s.statement) (foreign_keys_in ss) ∙ or_by_first (is_given (foreign_keys_of s.statement) table parent) (is_given (foreign_keys_in ss) table parent) h),
  owns-by pairs ss (λ table parent h. sub table parent (list_any-append (λ pair. same_path table pair.0 && same_path parent pair.1) (foreign_keys_of s.statement) (foreign_keys_in ss) ∙ or_by_second (is_given (foreign_keys_of s.statement) table parent) (is_given (foreign_keys_in ss) table parent) h)),
)

-- ---- what a COPY reads of parents

parents-parts : (q : QName) (ps qs : List (QName × QName)) (m : Mark) → Among (parent_reads q (ps ++ qs)) m → Among (parent_reads q ps) m ⊎ Among (parent_reads q qs) m
parents-parts q [] qs m h = inr h
parents-parts q (p ∷ ps) qs m h = at (same_path q p.0) h (parents-parts q ps qs m)
  where
    at : (b : Bool) → Among (cond b (mark.Key (key.Rel p.1) ∷ mark.Key (key.Rows p.1) ∷ parent_reads q (ps ++ qs)) (parent_reads q (ps ++ qs))) m → (Among (parent_reads q (ps ++ qs)) m → Among (parent_reads q ps) m ⊎ Among (parent_reads q qs) m) → Among (cond b (mark.Key (key.Rel p.1) ∷ mark.Key (key.Rows p.1) ∷ parent_reads q ps) (parent_reads q ps)) m ⊎ Among (parent_reads q qs) m
    at false h more = more h
    at true (inl e) more = inl (inl e)
    at true (inr (inl e)) more = inl (inr (inl e))
    at true (inr (inr h)) more = later (more h)
      where
        later : Among (parent_reads q ps) m ⊎ Among (parent_reads q qs) m → Among (mark.Key (key.Rel p.1) ∷ mark.Key (key.Rows p.1) ∷ parent_reads q ps) m ⊎ Among (parent_reads q qs) m
        later (inl g) = inl (inr (inr g))
        later (inr g) = inr g

own-reads : (q : QName) (parents more : List (QName × QName)) (m : Mark) (later : List Mark) (s : Stmt) → (Among (parent_reads q more) m → Among later m) → Among (parent_reads q (foreign_keys_of s ++ more)) m → Among (reads_of s parents ++ later) m
own-reads q parents more m later (stmt.AddForeign table name names parent parent_names rest) step h = at (same_path q table) h
  where
    at : (b : Bool) → Among (cond b (mark.Key (key.Rel parent) ∷ mark.Key (key.Rows parent) ∷ parent_reads q more) (parent_reads q more)) m → Among (reads_of (stmt.AddForeign table name names parent parent_names rest) parents ++ later) m
    at false g = among-right (reads_of (stmt.AddForeign table name names parent parent_names rest) parents) later m (step g)
    at true (inl e) = inr (inl e)
    at true (inr (inl e)) = inr (inr (inr (inr (inr (inl e)))))
    at true (inr (inr g)) = among-right (reads_of (stmt.AddForeign table name names parent parent_names rest) parents) later m (step g)
own-reads q parents more m later s step h = among-right (reads_of s parents) later m (step h)

-- what a COPY reads of the parents that statements add is what they read
parents-read : (q : QName) (parents : List (QName × QName)) (ss : List Step) (m : Mark) → Among (parent_reads q (foreign_keys_in ss)) m → Among (flat_map (λ s. reads_of s.statement parents) ss) m
parents-read q parents [] m h = elim h [ ]
parents-read q parents (s ∷ ss) m h =
    own-reads q parents (foreign_keys_in ss) m (flat_map (λ t. reads_of t.statement parents) ss) s.statement (parents-read q parents ss m) h

-- what a statement reads by more foreign keys
more-reads : (parents own : List (QName × QName)) (s : Stmt) (m : Mark) (all : List Mark) → ((x : Mark) → Among (reads_of s parents) x → Among all x) → ((q : QName) → Among (parent_reads q own) m → Among all m) → Among (reads_of s (parents ++ own)) m → Among all m
more-reads parents own (stmt.CopyRows q names rows) m all sub extra h = at h
  where
    at : Among (mark.Key (key.Rel q) ∷ mark.Class (class.Constraints q) ∷ mark.Class (class.Indexes q) ∷ mark.Key (key.Rows q) ∷ parent_reads q (parents ++ own)) m → Among all m
    at (inl e) = sub m (inl e)
    at (inr (inl e)) = sub m (inr (inl e))
    at (inr (inr (inl e))) = sub m (inr (inr (inl e)))
    at (inr (inr (inr (inl e)))) = sub m (inr (inr (inr (inl e))))
    at (inr (inr (inr (inr g)))) = part (parents-parts q parents own m g)
      where
        part : Among (parent_reads q parents) m ⊎ Among (parent_reads q own) m → Among all m
        part (inl a) = sub m (inr (inr (inr (inr a))))
        part (inr a) = extra q a
more-reads parents own s m all sub extra h = sub m h

-- ---- the statements of an entry

module _ (laws : Statements) (boot : Bytes) (parents : List (QName × QName)) (all : List Step) where
  stays-here : (s : Stmt) → ((m : Mark) → Among (reads_of s parents) m → Among (footprint_of_steps parents all).reads m) → ((m : Mark) → Among (writes_of s) m → Among (footprint_of_steps parents all).writes m) → OwnGiven (parents ++ foreign_keys_in all) s → Stays boot (parents ++ foreign_keys_in all) (footprint_of_steps parents all) s
  stays-here s reads writes own =
      let pairs = parents ++ foreign_keys_in all in
      record {
        within = λ n given. within-wider (footprint_of s pairs) (footprint_of_steps parents all)
            (λ m. more-reads parents (foreign_keys_in all) s m (footprint_of_steps parents all).reads reads (λ q. parents-read q parents all m)) writes
            (seen n) (effect boot s) (laws.within boot s pairs n (gives-parents pairs n s given));
        given = λ n given. given-kept laws pairs boot s own n given;
      }

  all-stay : (ss : List Step) → ((m : Mark) → Among (flat_map (λ s. reads_of s.statement parents) ss) m → Among (footprint_of_steps parents all).reads m) → ((m : Mark) → Among (flat_map (λ s. writes_of s.statement) ss) m → Among (footprint_of_steps parents all).writes m) → OwnsGiven (parents ++ foreign_keys_in all) ss → AllStay boot (parents ++ foreign_keys_in all) (footprint_of_steps parents all) ss
  all-stay [] reads writes owns = tt
  all-stay (s ∷ ss) reads writes owns = (
    stays-here s.statement
        (λ m a. reads m (among-left (reads_of s.statement parents) (flat_map (λ t. reads_of t.statement parents) ss) m a))
        (λ m a. writes m (among-left (writes_of s.statement) (flat_map (λ t. writes_of t.statement) ss) m a)) owns.0,
    all-stay ss
        (λ m a. reads m (among-right (reads_of s.statement parents) (flat_map (λ t. reads_of t.statement parents) ss) m a))
        (λ m a. writes m (among-right (writes_of s.statement) (flat_map (λ t. writes_of t.statement) ss) m a)) owns.1,
  )

abbrev in-place : (laws : Statements) (boot : Bytes) (parents : List (QName × QName)) (earlier : List Entry) (e : Entry) → InPlace boot parents (planned parents earlier e)
in-place laws boot parents earlier e = record {
  with_own = parents ++ foreign_keys_in e.steps;
  wider = wider-pairs parents (foreign_keys_in e.steps);
  stay = all-stay laws boot parents e.steps e.steps (λ m a. a) (λ m a. a)
      (owns-by (parents ++ foreign_keys_in e.steps) e.steps (λ table parent h. list_any-append (λ pair. same_path table pair.0 && same_path parent pair.1) parents (foreign_keys_in e.steps) ∙ or_by_second (is_given parents table parent) (is_given (foreign_keys_in e.steps) table parent) h));
}

pub in-places : (laws : Statements) (boot : Bytes) (es : List Entry) (parents : List (QName × QName)) (earlier : List Entry) → InPlaces boot parents (plan_behind parents earlier es)
in-places laws boot [] parents earlier = tt
in-places laws boot (e ∷ es) parents earlier = (in-place laws boot parents earlier e, in-places laws boot es (parents ++ foreign_keys_in e.steps) (earlier ++ e ∷ []))
