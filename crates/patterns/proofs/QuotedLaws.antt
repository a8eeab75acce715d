-- A name in quotes hits itself and nothing else.
use Rattle.std.proofs.Common.{◌≡◌, ℕ, ◌+◌, ◌<◌, Bool, true, false, ◌||◌, ◌&&◌, eqb, cond, List, [], ◌∷◌, ◌++◌, Option, Some, None, Ok, length, sym, ap, ◌∙◌, subst, refl, arith, append_assoc, append-nil, ◌↔◌, IsTrue, codes, Decides}
use Rattle.std.specs.Option.{option_to_list}
use Rattle.std.specs.Str.{bytes_eq}
use Rattle.std.proofs.lemmas.Bool.{eqb-true, false≢true}
use Rattle.std.proofs.Math.Bool.{and-true}
use Rattle.std.proofs.lemmas.Slice.Eq.{bytes_eq-Decides}
use Rattle.patterns.specs.declared.atom.Atom.{Atom}
use Rattle.patterns.specs.declared.atom.Atom.TheVariants.{Byte}
use Rattle.patterns.specs.declared.marks.Mark.{Mark}
use Rattle.patterns.specs.declared.marks.Mark.TheVariants as mark
use Rattle.patterns.specs.declared.marks.Quotes.TheVariants.{Outside, Inside, Closing}
use Rattle.patterns.specs.Parts.{parts_from, has_empty}
use Rattle.patterns.specs.Reading.{marks_from, open_from, is_dot, second_dot_from, fault_of, pattern_of}
use Rattle.patterns.specs.Matching.{some_end, matches, hits}
use Rattle.patterns.specs.Quoted.{doubled, quoted, hit_by, text_hits}

-- bytes as they stand in quotes
abbrev bytes : List ℕ → List Mark
bytes [] = []
bytes (b ∷ rest) = mark.Atom (Byte b) ∷ bytes rest

abbrev atoms : List ℕ → List Atom
atoms [] = []
atoms (b ∷ rest) = Byte b ∷ atoms rest

-- what stands in quotes is passed as its bytes, up to a place behind the closing quote
record Passed (o at : ℕ) (name rest : List ℕ) : Type 0 where
  behind : ℕ
  marks : marks_from (Inside o) at (doubled name ++ 34 ∷ rest) ≡ bytes name ++ marks_from (Closing o) behind rest
  opens : open_from (Inside o) at (doubled name ++ 34 ∷ rest) ≡ open_from (Closing o) behind rest
  dots : (d : Bool) → second_dot_from (Inside o) d at (doubled name ++ 34 ∷ rest) ≡ second_dot_from (Closing o) d behind rest

-- one byte inside quotes that is no quote, and two quotes
plain_marks : (o at b : ℕ) (rest : List ℕ) → eqb b 34 ≡ false → marks_from (Inside o) at (b ∷ rest) ≡ mark.Atom (Byte b) ∷ marks_from (Inside o) (at + 1) rest
unfolding marks_from
plain_marks o at b rest h = ap (λ v. option_to_list (cond v None (Some (mark.Atom (Byte b)))) ++ marks_from (cond v (Closing o) (Inside o)) (at + 1) rest) h

plain_opens : (o at b : ℕ) (rest : List ℕ) → eqb b 34 ≡ false → open_from (Inside o) at (b ∷ rest) ≡ open_from (Inside o) (at + 1) rest
unfolding open_from
plain_opens o at b rest h = ap (λ v. open_from (cond v (Closing o) (Inside o)) (at + 1) rest) h

plain_dots : (o at b : ℕ) (d : Bool) (rest : List ℕ) → eqb b 34 ≡ false → second_dot_from (Inside o) d at (b ∷ rest) ≡ second_dot_from (Inside o) d (at + 1) rest
unfolding second_dot_from
plain_dots o at b d rest h = ap (λ v. let dot = is_dot (cond v None (Some (mark.Atom (Byte b)))) in cond (dot && d) (Some at) (second_dot_from (cond v (Closing o) (Inside o)) (dot || d) (at + 1) rest)) h

two_marks : (o at : ℕ) (rest : List ℕ) → marks_from (Inside o) at (34 ∷ 34 ∷ rest) ≡ mark.Atom (Byte 34) ∷ marks_from (Inside o) (at + 1 + 1) rest
unfolding marks_from
two_marks o at rest = refl

two_opens : (o at : ℕ) (rest : List ℕ) → open_from (Inside o) at (34 ∷ 34 ∷ rest) ≡ open_from (Inside o) (at + 1 + 1) rest
unfolding open_from
two_opens o at rest = refl

two_dots : (o at : ℕ) (d : Bool) (rest : List ℕ) → second_dot_from (Inside o) d at (34 ∷ 34 ∷ rest) ≡ second_dot_from (Inside o) d (at + 1 + 1) rest
unfolding second_dot_from
two_dots o at d rest = refl

passed_plain : (o at b : ℕ) (name rest : List ℕ) → eqb b 34 ≡ false → Passed o (at + 1) name rest → Passed o at (b ∷ name) rest
passed_plain o at b name rest h p =
    let e : doubled (b ∷ name) ≡ b ∷ doubled name = ap (λ v. cond v (b ∷ b ∷ doubled name) (b ∷ doubled name)) h in
    record {
      behind = p.behind;
      marks = ap (λ l. marks_from (Inside o) at (l ++ 34 ∷ rest)) e ∙ plain_marks o at b (doubled name ++ 34 ∷ rest) h ∙ ap (λ l. mark.Atom (Byte b) ∷ l) p.marks;
      opens = ap (λ l. open_from (Inside o) at (l ++ 34 ∷ rest)) e ∙ plain_opens o at b (doubled name ++ 34 ∷ rest) h ∙ p.opens;
      dots = λ d. ap (λ l. second_dot_from (Inside o) d at (l ++ 34 ∷ rest)) e ∙ plain_dots o at b d (doubled name ++ 34 ∷ rest) h ∙ p.dots d;
    }

passed_quote : (o at : ℕ) (name rest : List ℕ) → Passed o (at + 1 + 1) name rest → Passed o at (34 ∷ name) rest
passed_quote o at name rest p =
    record {
      behind = p.behind;
      marks = two_marks o at (doubled name ++ 34 ∷ rest) ∙ ap (λ l. mark.Atom (Byte 34) ∷ l) p.marks;
      opens = two_opens o at (doubled name ++ 34 ∷ rest) ∙ p.opens;
      dots = λ d. two_dots o at d (doubled name ++ 34 ∷ rest) ∙ p.dots d;
    }

passed_byte : (o at b : ℕ) (name rest : List ℕ) (same : Bool) → eqb b 34 ≡ same → ((place : ℕ) → Passed o place name rest) → Passed o at (b ∷ name) rest
passed_byte o at b name rest true h ih = subst (λ x. Passed o at (x ∷ name) rest) (sym (eqb-true b 34 h)) (passed_quote o at name rest (ih (at + 1 + 1)))
passed_byte o at b name rest false h ih = passed_plain o at b name rest h (ih (at + 1))

passed : (o at : ℕ) (name rest : List ℕ) → Passed o at name rest
unfolding marks_from open_from second_dot_from
passed o at [] rest = record { behind = at + 1; marks = refl; opens = refl; dots = λ d. refl }
passed o at (b ∷ name) rest = passed_byte o at b name rest (eqb b 34) refl (λ place. passed o place name rest)

parts_bytes : (schema : Option (List Atom)) (front : List Atom) (name : List ℕ) (rest : List Mark) → parts_from schema front (bytes name ++ rest) ≡ parts_from schema (front ++ atoms name) rest
parts_bytes schema front [] rest = simp append-nil
parts_bytes schema front (b ∷ name) rest = parts_bytes schema (front ++ Byte b ∷ []) name rest ∙ ap (λ l. parts_from schema l rest) (append_assoc front (Byte b ∷ []) (atoms name))

has_bytes : (name : List ℕ) (rest : List Mark) → has_empty false (bytes name ++ rest) ≡ has_empty false rest
has_bytes [] rest = refl
has_bytes (b ∷ name) rest = has_bytes name rest

-- what the marks of a text without a fault give
record Reads (text : List ℕ) (marks : List Mark) : Type 0 where
  opens : open_from Outside 0 text ≡ None
  dots : second_dot_from Outside false 0 text ≡ None
  are : marks_from Outside 0 text ≡ marks
  full : has_empty true marks ≡ false

pattern_reads : (text : List ℕ) (marks : List Mark) → Reads text marks → pattern_of text ≡ Ok (parts_from None [] marks)
unfolding pattern_of fault_of
pattern_reads text marks r = simp (r.opens, r.dots, r.are, r.full)

ends : (o at : ℕ) → marks_from (Closing o) at [] ≡ []
unfolding marks_from
ends o at = refl

ends_open : (o at : ℕ) → open_from (Closing o) at [] ≡ None
unfolding open_from
ends_open o at = refl

ends_dots : (o at : ℕ) (d : Bool) → second_dot_from (Closing o) d at [] ≡ None
unfolding second_dot_from
ends_dots o at d = refl

begins_marks : (at : ℕ) (text : List ℕ) → marks_from Outside at (34 ∷ text) ≡ marks_from (Inside at) (at + 1) text
unfolding marks_from
begins_marks at text = refl

begins_open : (at : ℕ) (text : List ℕ) → open_from Outside at (34 ∷ text) ≡ open_from (Inside at) (at + 1) text
unfolding open_from
begins_open at text = refl

begins_dots : (at : ℕ) (d : Bool) (text : List ℕ) → second_dot_from Outside d at (34 ∷ text) ≡ second_dot_from (Inside at) d (at + 1) text
unfolding second_dot_from
begins_dots at d text = refl

dot_marks : (o at : ℕ) (text : List ℕ) → marks_from (Closing o) at (46 ∷ text) ≡ mark.Dot ∷ marks_from Outside (at + 1) text
unfolding marks_from
dot_marks o at text = refl

dot_open : (o at : ℕ) (text : List ℕ) → open_from (Closing o) at (46 ∷ text) ≡ open_from Outside (at + 1) text
unfolding open_from
dot_open o at text = refl

dot_dots : (o at : ℕ) (text : List ℕ) → second_dot_from (Closing o) false at (46 ∷ text) ≡ second_dot_from Outside true (at + 1) text
unfolding second_dot_from
dot_dots o at text = refl

quoted_marks : (x : ℕ) (name : List ℕ) → Reads (quoted (x ∷ name)) (bytes (x ∷ name) ++ [])
quoted_marks x name =
    let p = passed 0 (0 + 1) (x ∷ name) [] in
    record {
      opens = begins_open 0 (doubled (x ∷ name) ++ 34 ∷ []) ∙ p.opens ∙ ends_open 0 p.behind;
      dots = begins_dots 0 false (doubled (x ∷ name) ++ 34 ∷ []) ∙ p.dots false ∙ ends_dots 0 p.behind false;
      are = begins_marks 0 (doubled (x ∷ name) ++ 34 ∷ []) ∙ p.marks ∙ ap (λ l. bytes (x ∷ name) ++ l) (ends 0 p.behind);
      full = has_bytes name [];
    }

path_marks : (y : ℕ) (owner : List ℕ) (x : ℕ) (name : List ℕ) → Reads (quoted (y ∷ owner) ++ 46 ∷ quoted (x ∷ name)) (bytes (y ∷ owner) ++ mark.Dot ∷ (bytes (x ∷ name) ++ []))
path_marks y owner x name =
    let p = passed 0 (0 + 1) (y ∷ owner) (46 ∷ quoted (x ∷ name)) in
    let at : ℕ = p.behind + 1 in
    let q = passed at (at + 1) (x ∷ name) [] in
    let text : List ℕ = doubled (x ∷ name) ++ 34 ∷ [] in
    let e : quoted (y ∷ owner) ++ 46 ∷ quoted (x ∷ name) ≡ 34 ∷ (doubled (y ∷ owner) ++ 34 ∷ 46 ∷ quoted (x ∷ name)) = ap (λ l. 34 ∷ l) (append_assoc (doubled (y ∷ owner)) (34 ∷ []) (46 ∷ quoted (x ∷ name))) in
    record {
      opens = ap (open_from Outside 0) e ∙ begins_open 0 (doubled (y ∷ owner) ++ 34 ∷ 46 ∷ quoted (x ∷ name)) ∙ p.opens ∙ dot_open 0 p.behind (quoted (x ∷ name)) ∙ begins_open at text ∙ q.opens ∙ ends_open at q.behind;
      dots = ap (second_dot_from Outside false 0) e ∙ begins_dots 0 false (doubled (y ∷ owner) ++ 34 ∷ 46 ∷ quoted (x ∷ name)) ∙ p.dots false ∙ dot_dots 0 p.behind (quoted (x ∷ name)) ∙ begins_dots at true text ∙ q.dots true ∙ ends_dots at q.behind true;
      are = ap (marks_from Outside 0) e ∙ begins_marks 0 (doubled (y ∷ owner) ++ 34 ∷ 46 ∷ quoted (x ∷ name)) ∙ p.marks ∙ ap (λ l. bytes (y ∷ owner) ++ l) (dot_marks 0 p.behind (quoted (x ∷ name)) ∙ ap (λ l. mark.Dot ∷ l) (begins_marks at text ∙ q.marks ∙ ap (λ l. bytes (x ∷ name) ++ l) (ends at q.behind)));
      full = has_bytes owner (mark.Dot ∷ (bytes (x ∷ name) ++ [])) ∙ has_bytes name [];
    }

matches_atoms : (name other : List ℕ) → matches (atoms name) other ≡ bytes_eq name other
matches_atoms [] [] = refl
matches_atoms [] (b ∷ other) = refl
matches_atoms (x ∷ name) [] = refl
matches_atoms (x ∷ name) (b ∷ other) = ap (λ c. eqb x b && c) (matches_atoms name other)

both : (a b : Bool) (P Q : Type 0) → Decides a P → Decides b Q → IsTrue (a && b) ↔ (P × Q)
both true true P Q p q = (λ _. (p.0 refl, q.0 refl), λ _. refl)
both true false P Q p q = (λ e. absurd (false≢true e), λ w. q.1 w.1)
both false b P Q p q = (λ e. absurd (false≢true e), λ w. p.1 w.0)

Decides-back : (xs ys : List ℕ) → Decides (bytes_eq xs ys) (ys ≡ xs)
Decides-back xs ys = let d = bytes_eq-Decides xs ys in (λ e. sym (d.0 e), λ e. d.1 (sym e))

name_hits : (x : ℕ) (wanted schema name : List ℕ) → text_hits (quoted (x ∷ wanted)) schema name ≡ (bytes_eq schema (codes "public") && bytes_eq (x ∷ wanted) name)
unfolding hits
name_hits x wanted schema name =
    ap (λ p. hit_by p schema name) (pattern_reads (quoted (x ∷ wanted)) (bytes (x ∷ wanted) ++ []) (quoted_marks x wanted) ∙ ap Ok (parts_bytes None [] (x ∷ wanted) []))
    ∙ ap (λ b. bytes_eq schema (codes "public") && b) (matches_atoms (x ∷ wanted) name)

pub name_hits_itself : (wanted schema name : List ℕ) → 0 < length wanted → IsTrue (text_hits (quoted wanted) schema name) ↔ ((schema ≡ codes "public") × (name ≡ wanted))
name_hits_itself [] schema name h = absurd (omega arith)
name_hits_itself (x ∷ wanted) schema name h =
    subst (λ b. IsTrue b ↔ ((schema ≡ codes "public") × (name ≡ x ∷ wanted))) (sym (name_hits x wanted schema name))
    (both (bytes_eq schema (codes "public")) (bytes_eq (x ∷ wanted) name) (schema ≡ codes "public") (name ≡ x ∷ wanted) (bytes_eq-Decides schema (codes "public")) (Decides-back (x ∷ wanted) name))

path_hits : (y : ℕ) (owner : List ℕ) (x : ℕ) (wanted schema name : List ℕ) → text_hits (quoted (y ∷ owner) ++ 46 ∷ quoted (x ∷ wanted)) schema name ≡ (bytes_eq (y ∷ owner) schema && bytes_eq (x ∷ wanted) name)
unfolding hits
path_hits y owner x wanted schema name =
    ap (λ p. hit_by p schema name) (pattern_reads (quoted (y ∷ owner) ++ 46 ∷ quoted (x ∷ wanted)) (bytes (y ∷ owner) ++ mark.Dot ∷ (bytes (x ∷ wanted) ++ [])) (path_marks y owner x wanted)
    ∙ ap Ok (parts_bytes None [] (y ∷ owner) (mark.Dot ∷ (bytes (x ∷ wanted) ++ [])) ∙ parts_bytes (Some (atoms (y ∷ owner))) [] (x ∷ wanted) []))
    ∙ ap (λ b. b && matches (atoms (x ∷ wanted)) name) (matches_atoms (y ∷ owner) schema) ∙ ap (λ b. bytes_eq (y ∷ owner) schema && b) (matches_atoms (x ∷ wanted) name)

pub path_hits_itself : (owner wanted schema name : List ℕ) → 0 < length owner → 0 < length wanted → IsTrue (text_hits (quoted owner ++ 46 ∷ quoted wanted) schema name) ↔ ((schema ≡ owner) × (name ≡ wanted))
path_hits_itself [] wanted schema name g h = absurd (omega arith)
path_hits_itself (y ∷ owner) [] schema name g h = absurd (omega arith)
path_hits_itself (y ∷ owner) (x ∷ wanted) schema name g h =
    subst (λ b. IsTrue b ↔ ((schema ≡ y ∷ owner) × (name ≡ x ∷ wanted))) (sym (path_hits y owner x wanted schema name))
    (both (bytes_eq (y ∷ owner) schema) (bytes_eq (x ∷ wanted) name) (schema ≡ y ∷ owner) (name ≡ x ∷ wanted) (Decides-back (y ∷ owner) schema) (Decides-back (x ∷ wanted) name))

any_end : (name : List ℕ) → some_end (matches []) name ≡ true
any_end [] = refl
any_end (b ∷ name) = any_end name

star_hits : (schema name : List ℕ) → text_hits (codes "*") schema name ≡ (bytes_eq schema (codes "public") && true)
unfolding hits pattern_of fault_of marks_from open_from second_dot_from
star_hits schema name = ap (λ b. bytes_eq schema (codes "public") && b) (any_end name)

pub star_hits_public : (schema name : List ℕ) → IsTrue (text_hits (codes "*") schema name) ↔ (schema ≡ codes "public")
star_hits_public schema name =
    let d = bytes_eq-Decides schema (codes "public") in
    let e = star_hits schema name ∙ and-true (bytes_eq schema (codes "public")) in
    (λ h. d.0 (sym e ∙ h), λ h. e ∙ d.1 h)

pub stars_hit_all : (schema name : List ℕ) → IsTrue (text_hits (codes "*.*") schema name)
unfolding hits pattern_of fault_of marks_from open_from second_dot_from
stars_hit_all schema name = ap (λ b. b && some_end (matches []) name) (any_end schema) ∙ any_end name
