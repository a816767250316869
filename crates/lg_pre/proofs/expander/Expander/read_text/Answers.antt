use Rattle.std.proofs.Common.{◌≡◌, ◌+◌, ◌++◌, List, Result, length, drop, sym, subst, ap, ◌∙◌, arith, length-drop}
use Rattle.lg_base.specs.declared.refusal.Refusal.{Refusal}
use Rattle.lg_macro.specs.Macros.{CountsAs}
use Rattle.lg_macro.specs.Pieces.{Piece}
use Rattle.lg_macro.specs.Text.{pieces_on}
use Rattle.lg_macro.proofs.TextLemmas.{text_done}
use Rattle.lg_pre.specs.Windows.{rest_of}
use Rattle.lg_pre.proofs.WindowLemmas.{cut_more, stops_counts}
use Rattle.lg_pre.proofs.expander.Expander.read_text.Goals as goal
use Rattle.std.proofs.Common.{ℕ}

pub returns-in_err-room : goal.returns-in_err-room
returns-in_err-room c =
    let same = cut_more c.args.text.now c.behind.result.now c.parts.at c.in_ok-front.front.len c.parts.line c.in_ok-front.front.line c.in_ok-front.front.pieces c.parts.pieces c.append.new.self c.in_ok-append.ensures c.in_ok-front.ensures.pieces c.behind.ensures in
    stops_counts c.from_residual-in_err-room.result c.in_err-room.field-0.0 c.read_part.new.self.given c.append.new.self (pieces_on c.in_ok-front.front.line (drop (c.parts.at + c.in_ok-front.front.len) c.args.text.now)) c.parts.self
    (rest_of (pieces_on 1 c.args.text.now) c.args.self.now) c.from_residual-in_err-room.ensures.1 (ap (λ (l : List Piece). rest_of l c.parts.self) same ∙ c.parts.invariant.3) c.in_err-room.ensures

pub parts-preserved : goal.parts-preserved
parts-preserved c =
    let same = cut_more c.args.text.now c.behind.result.now c.parts.at c.in_ok-front.front.len c.parts.line c.in_ok-front.front.line c.in_ok-front.front.pieces c.parts.pieces c.append.new.self c.in_ok-append.ensures c.in_ok-front.ensures.pieces c.behind.ensures in (
      c.parts.invariant.0,
      omega (arith, c.in_ok-front.ensures.inside, ap length c.behind.ensures, length-drop c.parts.at c.args.text.now),
      omega (arith, c.in_ok-front.ensures.line, c.parts.invariant.2),
      sym (c.in_ok-room.ensures (pieces_on c.in_ok-front.front.line (drop (c.parts.at + c.in_ok-front.front.len) c.args.text.now))) ∙ ap (λ (l : List Piece). rest_of l c.parts.self) same ∙ c.parts.invariant.3,
    )

pub returns : goal.returns
returns c = subst (λ (read : Result (List ℕ) Refusal). CountsAs c.read_lines.result c.read_lines.new.self.given read)
    (ap (λ (l : List Piece). rest_of l c.parts.self) (sym (text_done (length (drop c.parts.at c.args.text.now)) c.parts.line c.parts.at c.args.text.now c.parts.pieces (omega arith))) ∙ c.parts.invariant.3)
    c.read_lines.ensures
