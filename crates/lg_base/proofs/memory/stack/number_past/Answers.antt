use Rattle.std.proofs.Common.{◌≡◌, ◌+◌, ◌-◌, sym, arith}
use Rattle.std.specs.Prelude.{slice_index}
use Rattle.lg_base.specs.Held.{turned}
use Rattle.lg_base.proofs.HeldLemmas.{turned-at, turned-small}
use Rattle.lg_base.proofs.SpaceLemmas.{number_at-none, number_at-step, number_at-room}
use Rattle.lg_base.proofs.memory.stack.number_past.Goals as goal

pub loop-left-init : goal.loop-left-init
loop-left-init c = record { number = sym (number_at-none _ _ _ (omega arith)); within = omega arith }

pub overflow_mul-number : goal.overflow_mul-number
overflow_mul-number c =
    let i = c.loop-left.invariant in
    let f = slice_index c.args.held.now in
    omega (arith, i.number, number_at-room (turned 0x100000 f) (c.args.at + c.loop-left.left) (c.args.width - c.loop-left.left) (turned-small 0x100000 f (λ j. omega (arith, c.type_inv.held j))) (omega arith))

pub overflow_add-number : goal.overflow_add-number
overflow_add-number c =
    let i = c.loop-left.invariant in
    let f = slice_index c.args.held.now in
    omega (arith, i.number, c.byte_or_zero.ensures, c.type_inv.held (1048575 - (c.args.at + (c.loop-left.left - 1))), number_at-room (turned 0x100000 f) (c.args.at + c.loop-left.left) (c.args.width - c.loop-left.left) (turned-small 0x100000 f (λ j. omega (arith, c.type_inv.held j))) (omega arith))

pub loop-left-preserved : goal.loop-left-preserved
loop-left-preserved c =
    let i = c.loop-left.invariant in
    let g = turned 0x100000 (slice_index c.args.held.now) in
    let at = c.args.at + (c.loop-left.left - 1) in
    let step = number_at-step g at (c.args.width - (c.loop-left.left - 1)) (c.args.at + c.loop-left.left) (c.args.width - c.loop-left.left) (omega arith) (omega arith) in
    let here : g at ≡ slice_index c.args.held.now (1048575 - at) = turned-at 0x100000 (slice_index c.args.held.now) at (omega arith) in
    record { number = omega (arith, step, here, i.number, c.byte_or_zero.ensures); within = omega arith }

pub returns : goal.returns
returns c =
    let i = c.loop-left.invariant in
    let zero : c.args.at + c.loop-left.left ≡ c.args.at = omega arith in
    let all : c.args.width - c.loop-left.left ≡ c.args.width = omega arith in
    rw (zero, all) at i.number
