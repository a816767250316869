use Rattle.std.proofs.Common.{◌≡◌, ◌+◌, ◌-◌, sym, ap, ◌∙◌, arith}
use Rattle.lg_cells.specs.Cells.{byte_in}
use Rattle.lg_cells.specs.Memories.{byte_at}
use Rattle.lg_cells.proofs.LoadLemmas.{loaded_empty, loaded_more, loaded_missing, pow7, pow_more}
use Rattle.lg_cells.proofs.memory.CellMemory.load_each.Goals as goal

pub loop-left-init : goal.loop-left-init
loop-left-init c = record {
  number = loaded_empty (byte_at c.args.self.now) (c.args.address + c.args.width) (c.args.width - c.args.width) (omega arith);
  bound = let e : c.args.width - c.args.width ≡ 0 = omega arith in rw e (omega arith);
  below = omega arith;
}

pub overflow_mul-value : goal.overflow_mul-value
overflow_mul-value c = let q = pow7 c.loop-left.value (c.args.width - c.loop-left.left) 0 c.loop-left.invariant.bound (omega arith) in omega (arith, q)

pub overflow_add-value : goal.overflow_add-value
overflow_add-value c = let q = pow7 c.loop-left.value (c.args.width - c.loop-left.left) 0 c.loop-left.invariant.bound (omega arith) in omega (arith, q)

pub loop-left-preserved : goal.loop-left-preserved
loop-left-preserved c = record {
  number = loaded_more (byte_at c.args.self.now) (c.args.address + (c.loop-left.left - 1)) (c.args.width - (c.loop-left.left - 1)) (c.args.address + c.loop-left.left) (c.args.width - c.loop-left.left) c.loop-left.value c.in-Some.byte (omega arith) (omega arith) (ap byte_in (sym c.cell_after.ensures.value) ∙ sym c.in-Some.ensures) c.loop-left.invariant.number;
  bound = pow_more c.loop-left.value c.in-Some.byte (c.args.width - c.loop-left.left) (c.args.width - (c.loop-left.left - 1)) (omega arith) c.loop-left.invariant.bound (omega arith);
  below = omega arith;
}

pub returns-in-None : goal.returns-in-None
returns-in-None c = sym (loaded_missing (byte_at c.args.self.now) c.args.address c.args.width (c.loop-left.left - 1) (omega arith) (ap byte_in (sym c.cell_after.ensures.value) ∙ sym c.in-None.ensures))
