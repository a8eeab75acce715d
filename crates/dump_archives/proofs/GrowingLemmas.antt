-- Bytes that are put out behind others, and how many they are.
use Rattle.std.proofs.Common.{◌≡◌, ℕ, ◌+◌, Bool, true, cond, List, [], ◌++◌, length, Option, Some, option_map, unwrap_or, refl, sym, ap, subst, ◌∙◌, append_assoc, append-nil, arith, length-append}
use Rattle.std.specs.Ordering.{nat_cmp, eq_by_cmp}
use Rattle.std.specs.Cmp.Lexicographic.{slice_cmp, nat_list_cmp_total, bytes_decides}
use Rattle.std.specs.FinMap.{get, insert, get-insert}
use Rattle.std.proofs.lemmas.Map.Text.{is_eq-slice_cmp}
use Rattle.dump_ports.specs.Tree.{Tree, bytes_at}
use Rattle.dump_files.specs.Outlets.{Outside, outputs, Stands}
use Rattle.dump_files.proofs.OutletLemmas.{stands_as, more_waits}
use Rattle.dump_archives.specs.Growing.{Grown}

pub grown_start : (target : Option (List ℕ)) (text : List ℕ) (before now : Outside) (waiting : List ℕ) (passed : ℕ) → Stands target text before now waiting → passed + length waiting ≡ length text → Grown target text before now waiting passed
grown_start target text before now waiting passed s n = record {
  more = [];
  stands = stands_as target text (text ++ []) before now waiting (sym (append-nil text)) s;
  count = n ∙ ap length (sym (append-nil text));
}

module _ (target : Option (List ℕ)) (text : List ℕ) (before now : Outside) (waiting : List ℕ) (passed : ℕ) (grown : Grown target text before now waiting passed) where
  pub grown_more : (x new : List ℕ) → new ≡ waiting ++ x → Grown target text before now new passed
  grown_more x new e = record {
    more = grown.more ++ x;
    stands = stands_as target ((text ++ grown.more) ++ x) (text ++ (grown.more ++ x)) before now new (append_assoc text grown.more x)
        (more_waits target (text ++ grown.more) x before now waiting new grown.stands e);
    count = omega (arith, ap length e, length-append waiting x, grown.count, length-append (text ++ grown.more) x, ap length (append_assoc text grown.more x));
  }

  pub grown_at : (now' : Outside) → now' ≡ now → Grown target text before now' waiting passed
  grown_at now' e = subst (λ (o : Outside). Grown target text before o waiting passed) (sym e) grown

  -- what waited may be out
  pub grown_passed : (now' : Outside) (waiting' : List ℕ) (passed' : ℕ) → ((so_far : List ℕ) (o : Outside) → Stands target so_far o now waiting → Stands target so_far o now' waiting') → passed' + length waiting' ≡ passed + length waiting
      → Grown target text before now' waiting' passed'
  grown_passed now' waiting' passed' step n = record { more = grown.more; stands = step (text ++ grown.more) before grown.stands; count = n ∙ grown.count }

  pub grown_on : (now' : Outside) (waiting' : List ℕ) (passed' : ℕ) → Grown target (text ++ grown.more) before now' waiting' passed' → Grown target text before now' waiting' passed'
  grown_on now' waiting' passed' next = record {
    more = grown.more ++ next.more;
    stands = stands_as target ((text ++ grown.more) ++ next.more) (text ++ (grown.more ++ next.more)) before now' waiting' (append_assoc text grown.more next.more) next.stands;
    count = next.count ∙ ap length (append_assoc text grown.more next.more);
  }

-- ---- what a file holds

itself : (name : List ℕ) → eq_by_cmp (slice_cmp nat_cmp) name name ≡ true
itself name = is_eq-slice_cmp name name ∙ (bytes_decides name name).1 refl

pub bytes_put : (t : Tree) (name bytes : List ℕ) → get (insert t name bytes) name ≡ Some bytes
bytes_put t name bytes = get-insert nat_list_cmp_total t name bytes name ∙ ap (λ (b : Bool). cond b (Some bytes) (get t name)) (itself name)

-- what stands in a file is told by it
pub same_text : (target : Option (List ℕ)) (name : List ℕ) (tree : Tree) (text other : List ℕ) (before now : Outside) (waiting : List ℕ) → target ≡ Some name → before.tree ≡ Some tree → Stands target text before now waiting → Stands target other before now waiting → text ≡ other
same_text target name tree text other before now waiting at is s r = s.split ∙ ap (λ (l : List ℕ). l ++ waiting) one ∙ sym r.split
  where
    put_by : (done : List ℕ) → now ≡ outputs target done before → now.tree ≡ Some (insert tree name done)
    put_by done e =
        ap (λ (o : Outside). o.tree) (e ∙ ap (λ (t : Option (List ℕ)). outputs t done before) at)
        ∙ ap (option_map (λ t. insert t name done)) is

    bytes_in : Option Tree → List ℕ
    bytes_in o = unwrap_or (option_map (λ t. bytes_at t name) o) []

    read : (done : List ℕ) → now ≡ outputs target done before → bytes_in now.tree ≡ done
    read done e = ap bytes_in (put_by done e) ∙ ap (λ (o : Option (List ℕ)). unwrap_or o []) (bytes_put tree name done)

    one : s.done ≡ r.done
    one = sym (read s.done s.is) ∙ read r.done r.is

-- nothing waits
pub stands_all : (target : Option (List ℕ)) (text : List ℕ) (before now : Outside) (waiting : List ℕ) → Stands target text before now waiting → waiting ≡ [] → now ≡ outputs target text before
stands_all target text before now waiting s none = s.is ∙ ap (λ (l : List ℕ). outputs target l before) (sym (append-nil s.done) ∙ ap (λ (l : List ℕ). s.done ++ l) (sym none) ∙ sym s.split)

-- a text alone waits
pub first_waits : (text start new : List ℕ) → start ≡ [] → new ≡ start ++ text → new ≡ text
first_waits text start new none e = e ∙ ap (λ (l : List ℕ). l ++ text) none
