use Rattle.std.proofs.Common.{◌≡◌, inl, inr, List, ℕ, take, Option, Some, None, option_map, refl, ap, ◌∙◌, arith}
use Rattle.std.specs.FinMap.{insert}
use Rattle.dump_ports.specs.Tree.{Tree, made, appended, TakesPrefix}
use Rattle.saved_folders.proofs.writing.write_file.Goals as goal

-- the file is made and then added to
made_whole : (o : Option Tree) (name bytes : List ℕ) → ((t : Tree) (name bytes : List ℕ) → appended name bytes (made name t) ≡ insert t name bytes) → option_map (appended name bytes) (option_map (made name) o) ≡ option_map (λ t. insert t name bytes) o
made_whole None name bytes h = refl
made_whole (Some t) name bytes h = ap Some (h t name bytes)

made_empty : (o : Option Tree) (name bytes : List ℕ) → option_map (made name) o ≡ option_map (λ t. insert t name (take 0 bytes)) o
made_empty None name bytes = refl
made_empty (Some t) name bytes = refl

-- the file is made and then added to in part
made_part : (o between after : Option Tree) (name bytes : List ℕ) → ((t : Tree) (name bytes : List ℕ) → appended name bytes (made name t) ≡ insert t name bytes) → between ≡ option_map (made name) o → TakesPrefix (appended name) bytes between after → TakesPrefix (λ part tree. insert tree name part) bytes o after
made_part o between after name bytes h b (inl e) = inr (0, omega arith, e ∙ b ∙ made_empty o name bytes)
made_part o between after name bytes h b (inr p) = inr (p.0, p.1, p.2 ∙ ap (λ t. option_map (appended name (take p.0 bytes)) t) b ∙ made_whole o name (take p.0 bytes) h)

pub returns-clause-ok : goal.returns-clause-ok
returns-clause-ok g c =
    c.in_default-append.ensures.ok
    ∙ rw (c.as_str-2.ensures, c.in_default.ensures.ok, c.as_str.ensures) (made_whole (g.F.Files.tree c.args.files.now) c.args.name.now c.args.text.now c.pieces_make_the_text.ensures.first)

pub returns-in-Err-append-clause-err : goal.returns-in-Err-append-clause-err
returns-in-Err-append-clause-err g c =
    made_part (g.F.Files.tree c.args.files.now) _ (g.F.Files.tree c.append.new.self) c.args.name.now c.args.text.now c.pieces_make_the_text.ensures.first
    (rw c.as_str.ensures at c.in_default.ensures.ok) (rw c.as_str-2.ensures at c.in-Err-append.ensures.err)
