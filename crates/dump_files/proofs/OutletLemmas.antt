-- Bytes that are put out one after another.
use Rattle.std.proofs.Common.{◌≡◌, ◌≢◌, ℕ, Bool, true, cond, List, [], ◌++◌, Option, Some, None, option_map, unwrap_or, sym, ap, ◌∙◌, append_assoc, append-nil}
use Rattle.std.specs.Ordering.{nat_cmp, eq_by_cmp}
use Rattle.std.specs.Cmp.Lexicographic.{slice_cmp, nat_list_cmp_total, bytes_decides}
use Rattle.std.specs.FinMap.{get, insert, get-insert}
use Rattle.std.proofs.lemmas.Map.Text.{is_eq-slice_cmp}
use Rattle.std.proofs.lemmas.Bool.{false_from_ne_true}
use Rattle.dump_ports.specs.Tree.{Tree, bytes_at}
use Rattle.dump_files.specs.Outlets.{Outside, outputs, IsCut, Stands, Holds, IsApart}

-- ---- a first part

pub cut_more : (target : Option (List ℕ)) (bytes more : List ℕ) (before after : Outside) → IsCut target bytes before after → IsCut target (bytes ++ more) before after
cut_more target bytes more before after p = (p.0, p.1 ++ more, ap (λ (l : List ℕ). l ++ more) p.2 ∙ append_assoc p.0 p.1 more, p.3)

pub cut_all : (target : Option (List ℕ)) (text whole : List ℕ) (before after : Outside) → text ≡ whole → IsCut target text before after → IsCut target whole before after
cut_all target text whole before after e p = (p.0, p.1, sym e ∙ p.2, p.3)

-- what stands, in whole or in part
pub stands_cut : (target : Option (List ℕ)) (text : List ℕ) (before now : Outside) (waiting : List ℕ) → Stands target text before now waiting → IsCut target text before now
stands_cut target text before now waiting s = (s.done, waiting, s.split, s.is)

-- all of what waits was put out
pub all_out : (target : Option (List ℕ)) (text : List ℕ) (before now after : Outside) (waiting left : List ℕ) (s : Stands target text before now waiting) → after ≡ outputs target (s.done ++ waiting) before → left ≡ [] → Stands target text before after left
all_out target text before now after waiting left s e none = record {
  done = text;
  split = sym (ap (λ (l : List ℕ). text ++ l) none ∙ append-nil text);
  is = e ∙ ap (λ (l : List ℕ). outputs target l before) (sym s.split);
}

-- more waits
pub more_waits : (target : Option (List ℕ)) (text more : List ℕ) (before now : Outside) (waiting new : List ℕ) → Stands target text before now waiting → new ≡ waiting ++ more → Stands target (text ++ more) before now new
more_waits target text more before now waiting new s e = record {
  done = s.done;
  split = ap (λ (l : List ℕ). l ++ more) s.split ∙ append_assoc s.done waiting more ∙ ap (λ (l : List ℕ). s.done ++ l) (sym e);
  is = s.is;
}

pub stands_as : (target : Option (List ℕ)) (text whole : List ℕ) (before now : Outside) (waiting : List ℕ) → text ≡ whole → Stands target text before now waiting → Stands target whole before now waiting
stands_as target text whole before now waiting e s = record { done = s.done; split = sym e ∙ s.split; is = s.is }

-- ---- what is read

-- names that compare alike are the same bytes
same_name : (q k : List ℕ) → eq_by_cmp (slice_cmp nat_cmp) q k ≡ true → q ≡ k
same_name q k e = (bytes_decides q k).0 (sym (is_eq-slice_cmp q k) ∙ e)

other_kept : (t : Tree) (name other bytes : List ℕ) → name ≢ other → bytes_at (insert t name bytes) other ≡ bytes_at t other
other_kept t name other bytes differs =
    ap (λ (o : Option (List ℕ)). unwrap_or o [])
    (get-insert nat_list_cmp_total t name bytes other
    ∙ ap (λ (b : Bool). cond b (Some bytes) (get t other)) (false_from_ne_true (eq_by_cmp (slice_cmp nat_cmp) other name) (λ same. differs (sym (same_name other name same)))))

pub holds_kept : (target : Option (List ℕ)) (name text done : List ℕ) (before now : Outside) → IsApart target name → now ≡ outputs target done before → Holds before.tree name text → Holds now.tree name text
holds_kept None name text done before now apart e h = record { told = h.told; is = ap (λ (o : Outside). o.tree) e ∙ h.is; bytes = h.bytes }
holds_kept (Some t) name text done before now apart e h = record {
  told = insert h.told t done;
  is = ap (λ (o : Outside). o.tree) e ∙ ap (option_map (λ tree. insert tree t done)) h.is;
  bytes = other_kept h.told t name done apart ∙ h.bytes;
}
