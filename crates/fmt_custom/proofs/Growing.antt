-- A block is made of its pieces, one behind the other.
use Rattle.std.proofs.Common.{◌≡◌, ℕ, true, List, [], ◌∷◌, ◌++◌, Some, None, refl, sym, ap, ◌∙◌, append_assoc, append-nil}
use Rattle.fmt_custom.specs.Blocks.{piece, pieces}
use Rattle.fmt_custom.specs.Stored.{block_by, pieces_out, open_block}
use Rattle.fmt_custom.specs.Writing.{start_text}

out_more : (ps : List (List ℕ)) (p : List ℕ) → pieces_out (ps ++ p ∷ []) ≡ pieces_out ps ++ piece.write (Some p)
out_more [] p = append-nil (piece.write (Some p))
out_more (q ∷ ps) p = ap (λ (x : List ℕ). piece.write (Some q) ++ x) (out_more ps p) ∙ sym (append_assoc (piece.write (Some q)) (pieces_out ps) (piece.write (Some p)))

out_all : (ps : List (List ℕ)) → pieces_out ps ++ piece.write None ≡ pieces.write ps
out_all [] = refl
out_all (p ∷ ps) = append_assoc (piece.write (Some p)) (pieces_out ps) (piece.write None) ∙ ap (λ (x : List ℕ). piece.write (Some p) ++ x) (out_all ps)

pub begins : (id : ℕ) → open_block id [] ≡ start_text id
begins id = append-nil (start_text id)

pub grows : (id : ℕ) (ps : List (List ℕ)) (p : List ℕ) → open_block id (ps ++ p ∷ []) ≡ open_block id ps ++ piece.write (Some p)
grows id ps p = ap (λ (x : List ℕ). start_text id ++ x) (out_more ps p) ∙ sym (append_assoc (start_text id) (pieces_out ps) (piece.write (Some p)))

pub ends : (id : ℕ) (ps : List (List ℕ)) → open_block id ps ++ piece.write None ≡ block_by true id ps
ends id ps = append_assoc (start_text id) (pieces_out ps) (piece.write None) ∙ ap (λ (x : List ℕ). start_text id ++ x) (out_all ps)
