-- A body with arguments, piece by piece.
use Rattle.std.proofs.Common.{◌≡◌, ℕ, suc, ◌+◌, ◌<◌, ◌≤◌, min, length-drop, true, false, List, [], ◌∷◌, ◌++◌, length, drop, get_or, refl, ◌∙◌, arith}
use Rattle.std.proofs.lemmas.List.{append-nil}
use Rattle.std.proofs.Math.Seq.{drop-cons}
use Rattle.lg_macro.specs.Pieces.{Piece, piece_at}
use Rattle.lg_macro.specs.Pasting.{joined}
use Rattle.lg_macro.specs.Substitution.{filled, stands, glued_at}
use Rattle.lg_macro.specs.declared.macros.Mark.{Mark}
use Rattle.lg_macro.proofs.CallLemmas.{drop_piece}

drop_mark : (marks : List Mark) (at : ℕ) (mark : Mark) → at < length marks → mark ≡ get_or marks at mark → drop at marks ≡ mark ∷ drop (at + 1) marks
drop_mark marks at mark h is = drop-cons marks at mark h ∙ rw (← is) (let one : suc at ≡ at + 1 = omega arith in rw one refl)

pub filled_glued : (line at : ℕ) (body : List Piece) (marks : List Mark) (raw full : List (List Piece)) (done now part now2 : List Piece) (mark : Mark) → at < length body → at < length marks → mark ≡ get_or marks at mark → mark.glued ≡ true → part ≡ stands raw full line (piece_at body at) mark → now2 ≡ joined line now part → filled line (drop (at + 1) body) (drop (at + 1) marks) raw full done now2 ≡ filled line (drop at body) (drop at marks) raw full done now
unfolding filled
filled_glued line at body marks raw full done now part now2 mark h hm is glued e1 e2 = rw (drop_piece body at h, drop_mark marks at mark hm is, glued, e2, e1, glued) refl

pub filled_apart : (line at : ℕ) (body : List Piece) (marks : List Mark) (raw full : List (List Piece)) (done now part done2 : List Piece) (mark : Mark) → at < length body → at < length marks → mark ≡ get_or marks at mark → mark.glued ≡ false → part ≡ stands raw full line (piece_at body at) mark → done2 ≡ done ++ now → filled line (drop (at + 1) body) (drop (at + 1) marks) raw full done2 part ≡ filled line (drop at body) (drop at marks) raw full done now
unfolding filled
filled_apart line at body marks raw full done now part done2 mark h hm is glued e1 e2 = rw (drop_piece body at h, drop_mark marks at mark hm is, glued, e2, e1, glued) refl

short : (line : ℕ) (body : List Piece) (marks : List Mark) (raw full : List (List Piece)) (done now : List Piece) → min (length body) (length marks) ≤ 0 → filled line body marks raw full done now ≡ done ++ now
unfolding filled
short line [] marks raw full done now h = refl
short line (p ∷ body) [] raw full done now h = refl
short line (p ∷ body) (mark ∷ marks) raw full done now h = absurd (omega (arith, h))

pub filled_end : (line at end : ℕ) (body : List Piece) (marks : List Mark) (raw full : List (List Piece)) (done now : List Piece) → end ≡ min (length body) (length marks) → end ≤ at → filled line (drop at body) (drop at marks) raw full done now ≡ done ++ now
filled_end line at end body marks raw full done now is h = short line (drop at body) (drop at marks) raw full done now (rw (length-drop at body, length-drop at marks) (omega arith))

-- what no ## changes any more is done
settled : (line : ℕ) (body : List Piece) (marks : List Mark) (raw full : List (List Piece)) (done now : List Piece) → glued_at marks ≡ false → filled line body marks raw full (done ++ now) [] ≡ filled line body marks raw full done now
unfolding filled
settled line [] marks raw full done now h = append-nil (done ++ now)
settled line (p ∷ body) [] raw full done now h = append-nil (done ++ now)
settled line (p ∷ body) (mark ∷ marks) raw full done now h = rw (h, append-nil (done ++ now)) refl

pub filled_settled : (line at : ℕ) (body : List Piece) (marks : List Mark) (raw full : List (List Piece)) (done now part done2 : List Piece) (mark : Mark) → at < length body → at < length marks → mark ≡ get_or marks at mark → mark.glued ≡ false → part ≡ stands raw full line (piece_at body at) mark → glued_at (drop (at + 1) marks) ≡ false → done2 ≡ (done ++ now) ++ part → filled line (drop (at + 1) body) (drop (at + 1) marks) raw full done2 [] ≡ filled line (drop at body) (drop at marks) raw full done now
filled_settled line at body marks raw full done now part done2 mark h hm is glued e1 next e2 =
    rw e2 (settled line (drop (at + 1) body) (drop (at + 1) marks) raw full (done ++ now) part next ∙ filled_apart line at body marks raw full done now part (done ++ now) mark h hm is glued e1 refl)
