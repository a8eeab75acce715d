-- Two trees whose footprints don't conflict change places.
use Rattle.std.proofs.Common.{◌≡◌, Bool, true, false, cond, ◌||◌, List, [], ◌∷◌, Option, Some, None, Result, Ok, Err, refl, ap, sym, subst, ◌∙◌, inl, inr, true≢false}
use Rattle.std.specs.Prelude.{◌⊎◌}
use Rattle.std.specs.List.{list_any}
use Rattle.std.specs.FinMap.{get, retain_keys, entries, get-retain_keys, same_map}
use Rattle.cat_model.specs.declared.key.Key.{Key}
use Rattle.cat_model.specs.declared.class.Class.{Class}
use Rattle.cat_model.specs.declared.class.Mark.{Mark}
use Rattle.cat_model.specs.declared.class.Mark.TheVariants as mark
use Rattle.cat_model.specs.declared.footprint.Footprint.{Footprint}
use Rattle.cat_model.specs.declared.cause.Cause.{Cause}
use Rattle.cat_model.specs.Keys.{key_cmp, key_eq}
use Rattle.cat_model.specs.KeyLaws.{key_cmp_total, key_cmp-IsAntisymmetric, key_eq-same}
use Rattle.cat_model.specs.declared.value.Value.{Value}
use Rattle.cat_model.specs.Values.{Named}
use Rattle.cat_model.specs.Trees.{Change, Tree, Seen, seen, outcome, changed, after_or_same, next, there_and_of, class_of}
use Rattle.cat_model.specs.Marks.{Among, Covers, IsCovered, AllCovered, IsWithin, Agree, meets, key_meets, any_meet, conflict}
use Rattle.model_laws.proofs.Changes.{value_after, get-changed}
use Rattle.cat_model.proofs.MarkLaws.{covers-key, covers-meets_key, covers-old_class, covers-new_class, covers-meet, key_eq-of, not_true}
use Rattle.model_laws.proofs.Within.{outcome-same, within-same, covered-outcome}

-- ---- tests over lists

or_first : (a b : Bool) → a || b ≡ false → a ≡ false
or_first true b h = h
or_first false b h = refl

or_second : (a b : Bool) → a || b ≡ false → b ≡ false
or_second true b h = absurd (true≢false h)
or_second false b h = h

none_first : (p : Mark → Bool) (m : Mark) (ms : List Mark) → list_any p (m ∷ ms) ≡ false → p m ≡ false
none_first p m ms h = or_first (p m) (list_any p ms) h

none_later : (p : Mark → Bool) (m : Mark) (ms : List Mark) → list_any p (m ∷ ms) ≡ false → list_any p ms ≡ false
none_later p m ms h = or_second (p m) (list_any p ms) h

none_among : (p : Mark → Bool) (ms : List Mark) (m : Mark) → list_any p ms ≡ false → Among ms m → p m ≡ false
none_among p [] m h among = elim among [ ]
none_among p (x ∷ xs) m h (inl e) = subst (λ (y : Mark). p y ≡ false) e (none_first p x xs h)
none_among p (x ∷ xs) m h (inr later) = none_among p xs m (none_later p x xs h) later

both : {A : Type 0} (b : Bool) → b ≡ true → b ≡ false → A
both b h g = absurd (true≢false (sym h ∙ g))

-- ---- what a change meets

-- a covered key meets no mark that the written marks don't meet
key_apart : (reads ms others : List Mark) (k : Key) (old new : Option Value) → IsCovered reads ms k old new → any_meet ms others ≡ false → Among others (mark.Key k) → ⊥
key_apart reads [] others k old new h none among = elim h [ ]
key_apart reads (m ∷ ms) others k old new (inl h) none among =
    both (meets m (mark.Key k)) (covers-meets_key reads k old new m h) (none_among (meets m) others (mark.Key k) (none_first (λ x. list_any (meets x) others) m ms none) among)
key_apart reads (m ∷ ms) others k old new (inr h) none among =
    key_apart reads ms others k old new h (none_later (λ x. list_any (meets x) others) m ms none) among

class_apart_old : (reads ms others : List Mark) (c : Class) (k : Key) (old new : Option Value) → IsCovered reads ms k old new → any_meet ms others ≡ false → Among others (mark.Class c) → there_and_of c k old ≡ true → ⊥
class_apart_old reads [] others c k old new h none among there = elim h [ ]
class_apart_old reads (m ∷ ms) others c k old new (inl h) none among there =
    both (meets m (mark.Class c)) (covers-old_class reads k old new m c h there) (none_among (meets m) others (mark.Class c) (none_first (λ x. list_any (meets x) others) m ms none) among)
class_apart_old reads (m ∷ ms) others c k old new (inr h) none among there =
    class_apart_old reads ms others c k old new h (none_later (λ x. list_any (meets x) others) m ms none) among there

class_apart_new : (reads ms others : List Mark) (c : Class) (k : Key) (old new : Option Value) → IsCovered reads ms k old new → any_meet ms others ≡ false → Among others (mark.Class c) → there_and_of c k new ≡ true → ⊥
class_apart_new reads [] others c k old new h none among there = elim h [ ]
class_apart_new reads (m ∷ ms) others c k old new (inl h) none among there =
    both (meets m (mark.Class c)) (covers-new_class reads k old new m c h there) (none_among (meets m) others (mark.Class c) (none_first (λ x. list_any (meets x) others) m ms none) among)
class_apart_new reads (m ∷ ms) others c k old new (inr h) none among there =
    class_apart_new reads ms others c k old new h (none_later (λ x. list_any (meets x) others) m ms none) among there

-- ---- one key after changes

abbrev touched : List Change → Key → Bool
touched cs k = list_any (λ c. key_eq k c.0) cs

untouched : (cs : List Change) (k : Key) (x : Option Value) → touched cs k ≡ false → value_after cs k x ≡ x
untouched [] k x h = refl
untouched (c ∷ cs) k x h =
    ap (value_after cs k) (ap (λ (b : Bool). cond b c.1 x) (or_first (key_eq k c.0) (touched cs k) h)) ∙ untouched cs k x (or_second (key_eq k c.0) (touched cs k) h)

-- a key that is touched is covered
pub record Touch (f : Footprint) (k : Key) : Type 0 where
  pub old : Option Value
  pub new : Option Value
  pub is : IsCovered f.reads f.writes k old new

touch_at : (f : Footprint) (s : Seen) (c : Change) (cs : List Change) (k : Key) (b : Bool) → key_eq k c.0 ≡ b → (touched cs k ≡ true → Touch f k) → IsCovered f.reads f.writes c.0 (s.at c.0) c.1 → b || touched cs k ≡ true → Touch f k
touch_at f s c cs k true e later h t =
    let same : c.0 ≡ k = sym (key_eq-same k c.0 e) in
    record { old = s.at c.0; new = c.1; is = subst (λ (j : Key). IsCovered f.reads f.writes j (s.at c.0) c.1) same h }
touch_at f s c cs k false e later h t = later t

touch : (f : Footprint) (s : Seen) (cs : List Change) (k : Key) → AllCovered f s cs → touched cs k ≡ true → Touch f k
touch f s [] k h t = not_true t
touch f s (c ∷ cs) k h t = touch_at f s c cs k (key_eq k c.0) refl (touch f s cs k h.1) h.0 t

-- ---- what agrees after changes

-- what a class shows of a key
abbrev pub shown : Class → Key → Option Value → Option Value
shown c k v = cond (there_and_of c k v) v None

pub get-class : (n : Named) (c : Class) (k : Key) → get (class_of n c) k ≡ shown c k (get n k)
get-class n c k = get-retain_keys n (λ j. there_and_of c j (get n j)) k (λ x e. ap (λ (j : Key). there_and_of c j (get n j)) (sym (key_cmp-IsAntisymmetric k x e)))

hidden : (c : Class) (k : Key) (v : Option Value) (b : Bool) → there_and_of c k v ≡ b → (b ≡ true → ⊥) → shown c k v ≡ None
hidden c k v true e never = absurd (never refl)
hidden c k v false e never = ap (λ (b : Bool). cond b v None) e

shown_step : (f : Footprint) (s : Seen) (others : List Mark) (c : Class) (ch : Change) (k : Key) (x : Option Value) (b : Bool) → key_eq k ch.0 ≡ b → IsCovered f.reads f.writes ch.0 (s.at ch.0) ch.1 → any_meet f.writes others ≡ false → Among others (mark.Class c) → shown c k x ≡ shown c k (s.at k) → shown c k (cond b ch.1 x) ≡ shown c k (s.at k)
shown_step f s others c ch k x false e h none among same = same
shown_step f s others c ch k x true e h none among same =
    let is : ch.0 ≡ k = sym (key_eq-same k ch.0 e) in
    let covered : IsCovered f.reads f.writes k (s.at k) ch.1 = subst (λ (j : Key). IsCovered f.reads f.writes j (s.at j) ch.1) is h in
    hidden c k ch.1 (there_and_of c k ch.1) refl (class_apart_new f.reads f.writes others c k (s.at k) ch.1 covered none among)
    ∙ sym (hidden c k (s.at k) (there_and_of c k (s.at k)) refl (class_apart_old f.reads f.writes others c k (s.at k) ch.1 covered none among))

shown_after : (f : Footprint) (s : Seen) (others : List Mark) (c : Class) (cs : List Change) (k : Key) (x : Option Value) → AllCovered f s cs → any_meet f.writes others ≡ false → Among others (mark.Class c) → shown c k x ≡ shown c k (s.at k) → shown c k (value_after cs k x) ≡ shown c k (s.at k)
shown_after f s others c [] k x h none among same = same
shown_after f s others c (ch ∷ cs) k x h none among same =
    shown_after f s others c cs k (cond (key_eq k ch.0) ch.1 x) h.1 none among (shown_step f s others c ch k x (key_eq k ch.0) refl h.0 none among same)

-- a key that marks stand for isn't touched where the written marks don't meet them
key_stays : (f : Footprint) (n : Named) (others : List Mark) (cs : List Change) (k : Key) (b : Bool) → touched cs k ≡ b → AllCovered f (seen n) cs → any_meet f.writes others ≡ false → Among others (mark.Key k) → get n k ≡ get (changed cs n) k
key_stays f n others cs k false e h none among = sym (get-changed cs n k ∙ untouched cs k (get n k) e)
key_stays f n others cs k true e h none among =
    let t : Touch f k = touch f (seen n) cs k h e in
    absurd (key_apart f.reads f.writes others k t.old t.new t.is none among)

class_stays : (f : Footprint) (n : Named) (others : List Mark) (cs : List Change) (c : Class) → AllCovered f (seen n) cs → any_meet f.writes others ≡ false → Among others (mark.Class c) → class_of n c ≡ class_of (changed cs n) c
class_stays f n others cs c h none among =
    same_map key_cmp_total key_cmp-IsAntisymmetric (class_of n c) (class_of (changed cs n) c)
    (λ k. get-class n c k
    ∙ sym (shown_after f (seen n) others c cs k (get n k) h none among refl)
    ∙ ap (shown c k) (sym (get-changed cs n k))
    ∙ sym (get-class (changed cs n) c k))

changes_agree : (f : Footprint) (n : Named) (others : List Mark) (cs : List Change) → AllCovered f (seen n) cs → any_meet f.writes others ≡ false → Agree others (seen n) (seen (changed cs n))
changes_agree f n others cs h none = record {
  keys = λ k among. key_stays f n others cs k (touched cs k) refl h none among;
  classes = λ c among. ap entries (class_stays f n others cs c h none among);
}

-- after a tree, what agrees is what its written marks don't meet
agree_by : (f : Footprint) (n : Named) (others : List Mark) (tree : Tree) (r : Result (List Change) Cause) → outcome tree (seen n) ≡ r → IsWithin f (seen n) tree → any_meet f.writes others ≡ false → Agree others (seen n) (seen (after_or_same r n))
agree_by f n others tree (Ok cs) e h none = changes_agree f n others cs (covered-outcome f (seen n) tree cs h e) none
agree_by f n others tree (Err because) e h none = record { keys = λ k among. refl; classes = λ c among. refl }

pub agree-next : (f : Footprint) (n : Named) (others : List Mark) (tree : Tree) → IsWithin f (seen n) tree → any_meet f.writes others ≡ false → Agree others (seen n) (seen (next tree n))
agree-next f n others tree h none = agree_by f n others tree (outcome tree (seen n)) refl h none

-- ---- two trees

no_conflict : (f g : Footprint) → conflict f g ≡ false → (any_meet f.writes g.reads ≡ false) × (any_meet f.writes g.writes ≡ false) × (any_meet g.writes f.reads ≡ false)
no_conflict f g h =
    let later : any_meet f.writes g.writes || any_meet g.writes f.reads ≡ false = or_second (any_meet f.writes g.reads) (any_meet f.writes g.writes || any_meet g.writes f.reads) h in
    (or_first (any_meet f.writes g.reads) (any_meet f.writes g.writes || any_meet g.writes f.reads) h, or_first (any_meet f.writes g.writes) (any_meet g.writes f.reads) later, or_second (any_meet f.writes g.writes) (any_meet g.writes f.reads) later)

covered_meet : (reads others ms ns : List Mark) (k : Key) (old new before after : Option Value) → IsCovered reads ms k old new → IsCovered others ns k before after → any_meet ms ns ≡ false → ⊥
covered_meet reads others [] ns k old new before after h g none = elim h [ ]
covered_meet reads others (m ∷ ms) ns k old new before after (inl h) g none = one_meets reads others m ns k old new before after h g (none_first (λ x. list_any (meets x) ns) m ms none)
  where
    one_meets : (reads others : List Mark) (m : Mark) (ns : List Mark) (k : Key) (old new before after : Option Value) → Covers reads m k old new → IsCovered others ns k before after → list_any (meets m) ns ≡ false → ⊥
    one_meets reads others m [] k old new before after h g none = elim g [ ]
    one_meets reads others m (n ∷ ns) k old new before after h (inl g) none = both (meets m n) (covers-meet reads others k old new before after m n h g) (none_first (meets m) n ns none)
    one_meets reads others m (n ∷ ns) k old new before after h (inr g) none = one_meets reads others m ns k old new before after h g (none_later (meets m) n ns none)
covered_meet reads others (m ∷ ms) ns k old new before after (inr h) g none =
    covered_meet reads others ms ns k old new before after h g (none_later (λ x. list_any (meets x) ns) m ms none)

values_commute : (cs ds : List Change) (k : Key) (x : Option Value) (b d : Bool) → touched cs k ≡ b → touched ds k ≡ d → (b ≡ true → d ≡ true → ⊥) → value_after ds k (value_after cs k x) ≡ value_after cs k (value_after ds k x)
values_commute cs ds k x false d e g never = ap (value_after ds k) (untouched cs k x e) ∙ sym (untouched cs k (value_after ds k x) e)
values_commute cs ds k x true false e g never = untouched ds k (value_after cs k x) g ∙ sym (ap (value_after cs k) (untouched ds k x g))
values_commute cs ds k x true true e g never = absurd (never refl refl)

changes_commute : (f g : Footprint) (n : Named) (cs ds : List Change) → AllCovered f (seen n) cs → AllCovered g (seen n) ds → any_meet f.writes g.writes ≡ false → changed ds (changed cs n) ≡ changed cs (changed ds n)
changes_commute f g n cs ds h j none =
    same_map key_cmp_total key_cmp-IsAntisymmetric (changed ds (changed cs n)) (changed cs (changed ds n))
    (λ k. get-changed ds (changed cs n) k ∙ ap (value_after ds k) (get-changed cs n k)
    ∙ values_commute cs ds k (get n k) (touched cs k) (touched ds k) refl refl
    (λ e i. let t : Touch f k = touch f (seen n) cs k h e in
    let u : Touch g k = touch g (seen n) ds k j i in
    covered_meet f.reads g.reads f.writes g.writes k t.old t.new u.old u.new t.is u.is none)
    ∙ sym (get-changed cs (changed ds n) k ∙ ap (value_after cs k) (get-changed ds n k)))

results_commute : (f g : Footprint) (n : Named) (s t : Tree) (r q : Result (List Change) Cause) → outcome s (seen n) ≡ r → outcome t (seen n) ≡ q → IsWithin f (seen n) s → IsWithin g (seen n) t → any_meet f.writes g.writes ≡ false → after_or_same q (after_or_same r n) ≡ after_or_same r (after_or_same q n)
results_commute f g n s t (Ok cs) (Ok ds) e i h j none = changes_commute f g n cs ds (covered-outcome f (seen n) s cs h e) (covered-outcome g (seen n) t ds j i) none
results_commute f g n s t (Ok cs) (Err because) e i h j none = refl
results_commute f g n s t (Err because) q e i h j none = refl

-- the second of two trees says after the first what it says before it
pub outcome-next : (f g : Footprint) (s t : Tree) (n : Named) → IsWithin f (seen n) s → IsWithin g (seen n) t → any_meet f.writes g.reads ≡ false → outcome t (seen n) ≡ outcome t (seen (next s n))
outcome-next f g s t n h j none = outcome-same g (seen n) (seen (next s n)) (agree-next f n g.reads s h none) t j

pub within-next : (f g : Footprint) (s t : Tree) (n : Named) → IsWithin f (seen n) s → IsWithin g (seen n) t → any_meet f.writes g.reads ≡ false → IsWithin g (seen (next s n)) t
within-next f g s t n h j none = within-same g (seen n) (seen (next s n)) (agree-next f n g.reads s h none) t j

pub next-commute : (f g : Footprint) (s t : Tree) (n : Named) → IsWithin f (seen n) s → IsWithin g (seen n) t → conflict f g ≡ false → next t (next s n) ≡ next s (next t n)
next-commute f g s t n h j free =
    let apart = no_conflict f g free in
    ap (λ (r : Result (List Change) Cause). after_or_same r (next s n)) (sym (outcome-next f g s t n h j apart.0))
    ∙ results_commute f g n s t (outcome s (seen n)) (outcome t (seen n)) refl refl h j apart.1
    ∙ ap (λ (r : Result (List Change) Cause). after_or_same r (next t n)) (outcome-next g f t s n j h apart.2)

pub outcome_stays : (f g : Footprint) (s t : Tree) (n : Named) → IsWithin f (seen n) s → IsWithin g (seen n) t → conflict f g ≡ false → outcome t (seen (next s n)) ≡ outcome t (seen n)
outcome_stays f g s t n h j free = let apart = no_conflict f g free in sym (outcome-next f g s t n h j apart.0)

pub within_stays : (f g : Footprint) (s t : Tree) (n : Named) → IsWithin f (seen n) s → IsWithin g (seen n) t → conflict f g ≡ false → IsWithin g (seen (next s n)) t
within_stays f g s t n h j free = let apart = no_conflict f g free in within-next f g s t n h j apart.0

-- ---- only what is written changes

unmet : (f : Footprint) (ms : List Mark) (k : Key) (old new : Option Value) → IsCovered f.reads ms k old new → list_any (key_meets k) ms ≡ false → ⊥
unmet f [] k old new h none = elim h [ ]
unmet f (m ∷ ms) k old new (inl h) none = both (key_meets k m) (covers-key f.reads k old new m h) (none_first (key_meets k) m ms none)
unmet f (m ∷ ms) k old new (inr h) none = unmet f ms k old new h (none_later (key_meets k) m ms none)

unwritten_by : (f : Footprint) (n : Named) (cs : List Change) (k : Key) (b : Bool) → touched cs k ≡ b → AllCovered f (seen n) cs → list_any (key_meets k) f.writes ≡ false → get (changed cs n) k ≡ get n k
unwritten_by f n cs k false e h none = get-changed cs n k ∙ untouched cs k (get n k) e
unwritten_by f n cs k true e h none = let t : Touch f k = touch f (seen n) cs k h e in absurd (unmet f f.writes k t.old t.new t.is none)

unwritten_after : (f : Footprint) (tree : Tree) (n : Named) (k : Key) (r : Result (List Change) Cause) → outcome tree (seen n) ≡ r → IsWithin f (seen n) tree → list_any (key_meets k) f.writes ≡ false → get (after_or_same r n) k ≡ get n k
unwritten_after f tree n k (Ok cs) e h none = unwritten_by f n cs k (touched cs k) refl (covered-outcome f (seen n) tree cs h e) none
unwritten_after f tree n k (Err because) e h none = refl

pub unwritten : (f : Footprint) (tree : Tree) (n : Named) (k : Key) → IsWithin f (seen n) tree → list_any (key_meets k) f.writes ≡ false → get (next tree n) k ≡ get n k
unwritten f tree n k h none = unwritten_after f tree n k (outcome tree (seen n)) refl h none
