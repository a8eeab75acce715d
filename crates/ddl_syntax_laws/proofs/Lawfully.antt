-- The laws of a part of the grammar by its syntax, where a computed test says that its tokens can be told apart.
use Rattle.ddl_part_laws.proofs.Common.{◌≡◌, Bool, true, ◌&&◌, List, ◌++◌, refl, ap, ◌∙◌, append_assoc, and_parts, Lexeme, starts, is_word, Part, mark, ◌then◌, ◌▸◌, ◌◂◌, Lawful, Apart, Avoids}
use Rattle.ddl_part_laws.proofs.{Steps.avoids_begun, Shorter.is_far, Simple.seen_avoids, Simple.mark_begins, Sequence.lead_begins, Leads.choose_avoids, Telling.free, Telling.avoids_where, Composing.lawful_seen, Composing.lawful_word, Composing.lawful_sign, Composing.lawful_then, Composing.lawful_ended, Composing.lawful_worded, Composing.lawful_choose, Composing.headed_word}
use Rattle.ddl_grammar.specs.Syntax.{Syntax, leaf, led, signed, ended, worded, both, seen, either, tabled, key, part}
use Rattle.ddl_syntax_laws.proofs.{LeafReading.Kind, LeafReading.any, LeafReading.word, LeafReading.sign, LeafReading.is_kind, LeafReading.unlike, LeafReading.all_unlike, LeafReading.Known, LeafReading.leaf_ends, LeafReading.leaf_known, LeafReading.and_three, OnlyLaws.table_and_laws}

-- ---- what is computed

-- no token of this kind goes on with the part
unfoldable pub ends : {A : Type 0} → Syntax A → Kind → Bool
ends (leaf gap l) k = leaf_ends l k
ends (led gap w s) k = ends s k
ends (signed gap b s) k = ends s k
ends (ended s gap b) k = true
ends (worded s gap w) k = true
ends (both s t) k = ends t k
ends (seen f back s) k = ends s k
ends (either gap w s t) k = ends s k && ends t k
ends (tabled s t) k = ends s k && ends t k

-- each kind of token with which the part may begin passes
unfoldable pub begins : {A : Type 0} → Syntax A → (Kind → Bool) → Bool
begins (leaf gap l) passes = passes any
begins (led gap w s) passes = passes (word (key w))
begins (signed gap b s) passes = passes (sign b)
begins (ended s gap b) passes = begins s passes
begins (worded s gap w) passes = begins s passes
begins (both s t) passes = begins s passes
begins (seen f back s) passes = begins s passes
begins (either gap w s t) passes = passes (word (key w)) && begins t passes
begins (tabled s t) passes = passes any

-- the tokens of the part can be told apart
unfoldable pub told : {A : Type 0} → Syntax A → Bool
told (leaf gap l) = true
told (led gap w s) = is_far (key w) && told s
told (signed gap b s) = told s
told (ended s gap b) = told s && ends s (sign b)
told (worded s gap w) = is_far (key w) && (told s && ends s (word (key w)))
told (both s t) = told s && (told t && begins t (ends s))
told (seen f back s) = told s
told (either gap w s t) = is_far (key w) && (told s && (told t && begins t (unlike (key w))))
told (tabled s t) = told s && told t

-- ---- a token before a part or behind it, and two parts

headed : {A : Type 0} {ends : Kind → Bool} {begins : (Kind → Bool) → Bool} (k : Kind) (p : Part A) → Known p ends begins → Lawful (is_kind k ▸ p) → Known (is_kind k ▸ p) ends (λ passes. passes k)
headed k p is laws = record { laws = laws; behind = is.behind; avoids = λ passes other apart e. avoids_begun (is_kind k) other (is_kind k ▸ p) (lead_begins (is_kind k) p) (apart k e) }

then_avoids : {A B : Type 0} (test : Lexeme → Bool) (p : Part A) (q : Part B) → Avoids test p → Avoids p.goes_on q → Avoids test (p then q)
then_avoids test p q first next v ts rest spells none =
    let a = spells.0 in
    let b = spells.1 in
    ap (λ (us : List Lexeme). starts test (us ++ rest)) spells.2 ∙ ap (starts test) (append_assoc a b rest) ∙ first v.0 a (b ++ rest) spells.3 (next v.1 b rest spells.4 none)

closed : {A : Type 0} {ends : Kind → Bool} {begins : (Kind → Bool) → Bool} (k : Kind) (p : Part A) → Known p ends begins → (Apart (is_kind k) p.goes_on → Lawful (p ◂ is_kind k)) → ends k ≡ true → Known (p ◂ is_kind k) (λ k. true) begins
closed k p is laws e = record {
  laws = laws (is.behind k e);
  behind = λ k e. free (is_kind k);
  avoids = λ passes other all e'. seen_avoids other (λ x. x.0) (p then mark (is_kind k)) (then_avoids other p (mark (is_kind k)) (is.avoids passes other all e') (avoids_begun (is_kind k) p.goes_on (mark (is_kind k)) (mark_begins (is_kind k)) (is.behind k e)));
}

-- ---- the laws

pub known : {A : Type 0} (s : Syntax A) → told s ≡ true → Known (part s) (ends s) (begins s)
unfolding part told ends begins
known (leaf gap l) is = leaf_known l
known (led gap w s) is =
    let h = and_parts (is_far (key w)) (told s) is in
    let p = known s h.1 in
    headed (word (key w)) (part s) p (lawful_word (key w) h.0 p.laws)
known (signed gap b s) is = let p = known s is in headed (sign b) (part s) p (lawful_sign b p.laws)
known (ended s gap b) is =
    let h = and_parts (told s) (ends s (sign b)) is in
    let p = known s h.0 in
    closed (sign b) (part s) p (lawful_ended b p.laws) h.1
known (worded s gap w) is =
    let h = and_three (is_far (key w)) (told s) (ends s (word (key w))) is in
    let p = known s h.1 in
    closed (word (key w)) (part s) p (lawful_worded (key w) h.0 p.laws) h.2
known (both s t) is =
    let h = and_three (told s) (told t) (begins t (ends s)) is in
    let p = known s h.0 in
    let q = known t h.1 in
    let next = q.avoids (ends s) (part s).goes_on p.behind h.2 in
    record { laws = lawful_then p.laws q.laws next; behind = q.behind; avoids = λ passes other apart e. then_avoids other (part s) (part t) (p.avoids passes other apart e) next }
known (seen f back s) is = let p = known s is in record { laws = lawful_seen f p.laws; behind = p.behind; avoids = λ passes other apart e. seen_avoids other f (part s) (p.avoids passes other apart e) }
known (either gap w s t) is =
    let h = and_three (is_far (key w)) (told s) (told t && begins t (unlike (key w))) is in
    let i = and_parts (told t) (begins t (unlike (key w))) h.2 in
    let given = known s h.1 in
    let p = headed (word (key w)) (part s) given (lawful_word (key w) h.0 given.laws) in
    let q = known t i.0 in
    record {
      laws = lawful_choose (headed_word (key w) h.0 given.laws) q.laws (q.avoids (unlike (key w)) (is_word (key w)) (all_unlike (key w)) i.1);
      behind = λ k e x is. (let both = and_parts (ends s k) (ends t k) e in rw (p.behind k both.0 x is) (q.behind k both.1 x is));
      avoids = λ passes other apart e. (let both = and_parts (passes (word (key w))) (begins t passes) e in choose_avoids other (is_word (key w)) (is_word (key w) ▸ part s) (part t) (p.avoids passes other apart both.0) (q.avoids passes other apart both.1));
    }
known (tabled s t) is =
    let h = and_parts (told s) (told t) is in
    let p = known s h.0 in
    let q = known t h.1 in
    record {
      laws = table_and_laws p.laws q.laws;
      behind = λ k e x is. (let both = and_parts (ends s k) (ends t k) e in rw (p.behind k both.0 x is, q.behind k both.1 x is) refl);
      avoids = λ passes other apart e. avoids_where other (part (tabled s t)) (λ x. apart any e x refl);
    }
