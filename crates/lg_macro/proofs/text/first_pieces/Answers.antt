use Rattle.std.proofs.Common.{◌≡◌, ◌≤◌, ◌+◌, ◌-◌, ◌++◌, ◌∷◌, [], ℕ, List, ap, length-drop, length-append, ◌∙◌, sym, refl, length, drop, take, map, false, arith}
use Rattle.std.proofs.lemmas.List.{length-take-le, map_push}
use Rattle.lg_macro.specs.declared.pieces.Part.{Part}
use Rattle.lg_macro.specs.PieceParts.{piece_of}
use Rattle.lg_macro.specs.Text.{feeds_of, text_pieces}
use Rattle.lg_macro.proofs.FeedLemmas.{front_quiet}
use Rattle.lg_macro.proofs.RowLemmas.{pushed_at}
use Rattle.lg_macro.proofs.TextLemmas.{text_more, front_whole}
use Rattle.lg_macro.proofs.text.first_pieces.Goals as goal

pub pieces-init : goal.pieces-init
pieces-init c = (
  refl,
  omega arith,
  omega arith,
  omega (arith, ap length c.new-parts.ensures.items),
  (
    length c.args.text.now,
    omega arith,
    ap (λ (l : List Part). map (piece_of c.args.text.now) l ++ text_pieces (length c.args.text.now) c.args.first c.args.text.now) c.new-parts.ensures.items,
  ),
  rw c.new-parts.ensures.items (λ k d lt. absurd (omega (arith, lt)), refl),
)

pub line_after-line-requires-clause-quiet : goal.line_after-line-requires-clause-quiet
line_after-line-requires-clause-quiet c = λ other. ap feeds_of c.ahead-piece.ensures
    ∙ front_quiet c.behind-rest.result.now c.front_of-kind.result c.front_of-kind.ensures.value (omega (arith, c.front_of-kind.ensures.inside, c.front_of-kind.ensures.some)) c.front_of-kind.ensures.some other

pub line_after-line-requires-clause-fits : goal.line_after-line-requires-clause-fits
line_after-line-requires-clause-fits c = omega (arith, c.pieces.invariant.2, c.requires.fits, c.front_of-kind.ensures.inside, ap length c.behind-rest.ensures, length-drop c.pieces.at c.args.text.now, ap length c.ahead-piece.ensures, length-take-le c.front_of-kind.result.1 c.behind-rest.result.now c.front_of-kind.ensures.inside)

pub pieces-preserved : goal.pieces-preserved
pieces-preserved c =
    let at = c.pieces.at in
    let text = c.args.text.now in
    let n = c.front_of-kind.result.1 in
    let part : Part = record { kind = c.front_of-kind.result.0; frozen = false; line = c.pieces.line; start = at; end = at + n } in
    let size : at + n - at ≡ n = omega arith in
    let inside : at + n ≤ length text = omega (arith, c.front_of-kind.ensures.inside, ap length c.behind-rest.ensures, length-drop at text) in
    let own : take (at + n - at) (drop at text) ≡ c.ahead-piece.result.now = ap (λ (k : ℕ). take k (drop at text)) size ∙ ap (take n) (sym c.behind-rest.ensures) ∙ sym c.ahead-piece.ensures in
    let more : map (piece_of text) c.push.new.self.items ≡ map (piece_of text) c.pieces.parts.items ++ record { kind = part.kind; text = c.ahead-piece.result.now; line = part.line; frozen = false } ∷ [] =
    ap (map (piece_of text)) c.in_ok-push.ensures.items ∙ map_push (piece_of text) c.pieces.parts.items part
    ∙ ap (λ (t : List ℕ). map (piece_of text) c.pieces.parts.items ++ record { kind = part.kind; text = t; line = part.line; frozen = false } ∷ []) own in (
      refl,
      inside,
      omega (arith, c.pieces.invariant.2, c.line_after-line.ensures.few, ap length c.ahead-piece.ensures, length-take-le n c.behind-rest.result.now c.front_of-kind.ensures.inside),
      omega (arith, c.pieces.invariant.3, ap length c.in_ok-push.ensures.items, length-append c.pieces.parts.items (part ∷ []), c.front_of-kind.ensures.some),
      (
        c.pieces.invariant.4.0 - 1,
        omega (arith, c.front_of-kind.ensures.some),
        text_more c.pieces.invariant.4.0 c.pieces.line c.line_after-line.result at text c.behind-rest.result.now c.ahead-piece.result.now c.front_of-kind.result (map (piece_of text) c.pieces.parts.items)
            (map (piece_of text) c.push.new.self.items) (omega arith) (omega arith) c.behind-rest.ensures c.front_of-kind.ensures.value c.front_of-kind.ensures.some c.ahead-piece.ensures more
            c.line_after-line.ensures.value ∙ c.pieces.invariant.4.2,
      ),
      pushed_at text at (at + n) c.pieces.parts.items c.push.new.self.items part c.pieces.invariant.5 c.in_ok-push.ensures.items refl refl (omega arith) inside,
    )

pub returns-clause-pieces : goal.returns-clause-pieces
returns-clause-pieces c = front_whole c.pieces.invariant.4.0 c.pieces.line c.pieces.at c.args.first c.in_ok-all.all.len c.in_ok-all.all.line c.args.text.now (map (piece_of c.args.text.now) c.pieces.parts.items) c.in_ok-all.all.pieces c.in_ok-all.ensures.pieces c.in_ok-all.ensures.len c.in_ok-all.ensures.line (omega arith) c.pieces.invariant.4.2

pub returns-then-len-most-clause-pieces : goal.returns-then-len-most-clause-pieces
returns-then-len-most-clause-pieces c = front_whole c.pieces.invariant.4.0 c.pieces.line c.pieces.at c.args.first c.in_ok-some.some.len c.in_ok-some.some.line c.args.text.now (map (piece_of c.args.text.now) c.pieces.parts.items) c.in_ok-some.some.pieces c.in_ok-some.ensures.pieces c.in_ok-some.ensures.len c.in_ok-some.ensures.line (omega arith) c.pieces.invariant.4.2
