use Rattle.std.proofs.Common.{◌≡◌, ◌+◌, ◌-◌, sym, arith}
use Rattle.std.specs.Prelude.{slice_index}
use Rattle.lg_base.proofs.SpaceLemmas.{number_at-none, number_at-step, number_at-room}
use Rattle.lg_base.proofs.memory.number_past.Goals as goal

pub loop-left-init : goal.loop-left-init
loop-left-init c = record { number = sym (number_at-none _ _ _ (omega arith)); within = omega arith }

pub overflow_mul-number : goal.overflow_mul-number
overflow_mul-number c =
    let i = c.loop-left.invariant in
    omega (arith, i.number, number_at-room (slice_index c.args.bytes.now) (c.args.at + c.loop-left.left) (c.args.width - c.loop-left.left) (λ j. omega (arith, c.type_inv.bytes j)) (omega arith))

pub overflow_add-number : goal.overflow_add-number
overflow_add-number c =
    let i = c.loop-left.invariant in
    omega (arith, i.number, c.byte_or_zero.ensures, c.type_inv.bytes (c.args.at + (c.loop-left.left - 1)), number_at-room (slice_index c.args.bytes.now) (c.args.at + c.loop-left.left) (c.args.width - c.loop-left.left) (λ j. omega (arith, c.type_inv.bytes j)) (omega arith))

pub loop-left-preserved : goal.loop-left-preserved
loop-left-preserved c =
    let i = c.loop-left.invariant in
    let f = slice_index c.args.bytes.now in
    let at = c.args.at + (c.loop-left.left - 1) in
    let step = number_at-step f at (c.args.width - (c.loop-left.left - 1)) (c.args.at + c.loop-left.left) (c.args.width - c.loop-left.left) (omega arith) (omega arith) in
    record { number = omega (arith, step, i.number, c.byte_or_zero.ensures); within = omega arith }

pub returns : goal.returns
returns c =
    let i = c.loop-left.invariant in
    let zero : c.args.at + c.loop-left.left ≡ c.args.at = omega arith in
    let all : c.args.width - c.loop-left.left ≡ c.args.width = omega arith in
    rw (zero, all) at i.number
