use Rattle.std.proofs.Common.{◌<◌, ◌≤◌, ◌∷◌, ◌++◌, [], length, sym, ap, ◌∙◌}
use Rattle.std.proofs.lemmas.Bool.{ltb-false, ltb-true}
use Rattle.lg_explain.specs.Lines.{most_shown}
use Rattle.lg_explain.proofs.ShownLemmas.{byte_added, byte_left, no_byte}
use Rattle.lg_explain.proofs.line.Shown.append.Goals.{then-has_room, else-has_room}
use Rattle.lg_explain.proofs.line.Shown.append.Goals as goal

pub loop-byte-init : goal.loop-byte-init
loop-byte-init c = no_byte c.args.self.now c.args.bytes.now c.requires

pub loop-byte-preserved : goal.loop-byte-preserved
loop-byte-preserved c =
    let s = c.loop-byte.self in
    let i = c.loop-byte.byte-index in
    let more = c.loop-byte-test.true in
    elim c.if-has_room.branch [
      | then-has_room w ↦
          (let room : length s < most_shown = ltb-true (length s) most_shown (sym c.has_room.ensures ∙ w.if-has_room.true) in
          w.self-is ∙ w.push.ensures ∙ ap (λ b. s ++ b ∷ []) w.shown_byte.ensures ∙ byte_added c.args.self.now c.args.bytes.now s i _ more c.loop-byte.invariant room)
      | else-has_room w ↦
          (let full : most_shown ≤ length s = ltb-false (length s) most_shown (sym c.has_room.ensures ∙ w.if-has_room.false) in
          w.self-is ∙ byte_left c.args.self.now c.args.bytes.now s i 0 more c.loop-byte.invariant full)
    ]
