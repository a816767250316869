-- The expressions of #if, piece by piece.
use Rattle.std.proofs.Common.{◌≡◌, ℕ, zero, suc, ◌+◌, ◌-◌, ◌<◌, ◌≤◌, nat_le, true, false, List, [], ◌∷◌, ◌++◌, length, drop, refl, arith, append_assoc, append-nil}
use Rattle.std.proofs.lemmas.List.{drop_all}
use Rattle.std.proofs.lemmas.Bool.Decides.{nat_tests}
use Rattle.lg_macro.specs.Pieces.{Piece, piece_at, is_white}
use Rattle.lg_pre.specs.Questions.{solid_at, question_at, resolved_by, resolved_from, worth, worth_of}
use Rattle.lg_macro.specs.declared.macros.Macro.{Macro}
use Rattle.lg_macro.proofs.CallLemmas.{drop_piece}

pub solid_more : (pieces : List Piece) (at : ℕ) → at < length pieces → is_white (piece_at pieces at).kind ≡ true → solid_at pieces (at + 1) ≡ solid_at pieces at
solid_more pieces at h white = rw (drop_piece pieces at h, white) (omega arith)

pub solid_here : (pieces : List Piece) (at : ℕ) → at < length pieces → is_white (piece_at pieces at).kind ≡ false → at ≡ solid_at pieces at
solid_here pieces at h white = rw (drop_piece pieces at h, white) (omega arith)

pub solid_none : (pieces : List Piece) (at : ℕ) → length pieces ≤ at → at ≡ solid_at pieces at
solid_none pieces at h = rw (drop_all at pieces h) (omega arith)

pub resolved_more : (table : List Macro) (pieces out new : List Piece) (k at next : ℕ) → at < length pieces → length pieces ≤ at + k → new ≡ out ++ (resolved_by table pieces at (question_at pieces at)).0 ∷ [] → next ≡ (resolved_by table pieces at (question_at pieces at)).1 → new ++ resolved_from table pieces (k - 1) next ≡ out ++ resolved_from table pieces k at
unfolding resolved_from
resolved_more table pieces out new zero at next h room e is = absurd (omega (arith, h, room))
resolved_more table pieces out new (suc k) at next h room e is =
    let one : suc k - 1 ≡ k = omega arith in let test : nat_le (length pieces) at ≡ false = grind (arith, nat_tests) in
    rw (one, test, e, is, append_assoc) refl

pub resolved_done : (table : List Macro) (pieces out : List Piece) (k at : ℕ) → length pieces ≤ at → out ++ resolved_from table pieces k at ≡ out
unfolding resolved_from
resolved_done table pieces out zero at h = append-nil out
resolved_done table pieces out (suc k) at h = let test : nat_le (length pieces) at ≡ true = grind (arith, nat_tests) in rw test (append-nil out)

pub worth_more : (pieces : List Piece) (at : ℕ) (out new : List ℕ) → at < length pieces → new ≡ out ++ worth (piece_at pieces at) → new ++ worth_of (drop (at + 1) pieces) ≡ out ++ worth_of (drop at pieces)
worth_more pieces at out new h e = rw (drop_piece pieces at h, e, append_assoc) refl

pub worth_done : (pieces : List Piece) (at : ℕ) (out : List ℕ) → length pieces ≤ at → out ++ worth_of (drop at pieces) ≡ out
worth_done pieces at out h = rw (drop_all at pieces h) (append-nil out)
