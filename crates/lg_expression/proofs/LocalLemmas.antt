-- Where locals lie.
use Rattle.std.proofs.Common.{◌≡◌, ℕ, ◌+◌, ◌-◌, ◌^◌, ◌<◌, ◌≤◌, true, refl, le-leb, lt-ltb, arith}
use Rattle.lg_base.specs.Layout.{frame_pointer}
use Rattle.lg_base.specs.Words.{add_words}
use Rattle.lg_meaning.specs.States.{Frame}
use Rattle.lg_node.specs.Locals.{offset_below}
use Rattle.lg_expression.specs.Meanings.{LocalsLieInTheFrame}

-- the address of the last of locals that take this many bytes
address : (f : Frame) (bytes : ℕ) → bytes ≤ f.locals → f.locals + 144 ≤ f.sp → f.sp < 2 ^ 64 → add_words (frame_pointer f.sp) (offset_below bytes) ≡ f.sp - 144 - bytes
address f bytes room low high = omega (arith, room, low, high)

pub local-in-frame : LocalsLieInTheFrame
local-in-frame f before bytes k room low high inside =
    let at = address f (before + bytes) room low high in
    rw (at, le-leb (f.sp - 144 - f.locals) (f.sp - 144 - (before + bytes) + k) (omega (arith, room, low)), lt-ltb (f.sp - 144 - (before + bytes) + k) (f.sp - 144 - f.locals + f.locals) (omega (arith, room, low, inside))) refl
