-- Loads are carried by code that leaves what is read.
use Rattle.std.proofs.Common.{◌≡◌, ◌≢◌, ℕ, ◌+◌, ◌-◌, ◌^◌, ◌<◌, ◌≤◌, ◌⊎◌, inl, inr, Bool, true, false, List, [], Option, Some, None, refl, ap, ◌∙◌, subst, length, arith}
use Rattle.std.specs.Prelude.{is_some, if◌then◌else◌}
use Rattle.lg_base.specs.Conventions.{frame_register, stack_register}
use Rattle.lg_base.specs.Spaces.{mapped, number_at, byte_or_zero, loaded}
use Rattle.lg_base.proofs.SpaceLemmas.{mapped-each}
use Rattle.lg_base.specs.declared.target.Target.{Target}
use Rattle.lg_cells.specs.Memories.{writable}
use Rattle.lg_op.specs.declared.op.ValueType.{ValueType}
use Rattle.lg_op.specs.declared.op.ValueType.TheVariants as value_type
use Rattle.lg_op.specs.declared.operand.Reg.{Reg}
use Rattle.lg_op.specs.declared.operand.Reg.TheVariants.{Fp}
use Rattle.lg_op.specs.declared.operand.Operand.TheVariants as operand
use Rattle.lg_op.specs.declared.node.Node.{Node}
use Rattle.lg_live.specs.Registers.{is_same}
use Rattle.lg_live.specs.Uses.{is_written}
use Rattle.lg_op.specs.Operators.{width, extended_by_type}
use Rattle.lg_meaning.specs.States.{State, is_open}
use Rattle.lg_meaning.specs.Steps.{Goes, Undefined, need, on_with_carry, with_reg, load_to}
use Rattle.lg_meaning.specs.Steps as steps
use Rattle.lg_meaning.specs.Texts.{step}
use Rattle.lg_temp.specs.Abis.{register_of}
use Rattle.lg_temp.specs.declared.choice.Choice.{Choice}
use Rattle.lg_carry.specs.Blocks.{spellings}
use Rattle.lg_base.specs.Flags.{carry_of}
use Rattle.lg_carry.specs.FinalNodes.{Code}
use Rattle.lg_carry.specs.NodeCode.{numbered}
use Rattle.lg_carry.specs.Rows.{Rows}
use Rattle.lg_carry.specs.Spills.{in_slots, with_register, spilled}
use Rattle.lg_carry.specs.Memory.Accesses.{Address, address_word, IsAddress, LiesAbove}
use Rattle.lg_carry.specs.Memory.Crossings.{CrossesCode, CrossesTo, CrossesNode}
use Rattle.lg_carry.specs.Memory.Loads.{IsReadable, LoadCrosses}
use Rattle.lg_carry.specs.Nodes.Straight.{spoils, from_to, HoldsRead}
use Rattle.lg_carry.proofs.OfNodes.ByteLemmas.{mapped-where, loaded-more, loaded-small}
use Rattle.lg_carry.proofs.OfNodes.StraightLemmas.{carry-moved}
use Rattle.lg_carry.proofs.OfMemory.WriteLemmas.{crosses-word}

-- what is read is what is there
read-there : (s : State) (a w v : ℕ) → steps.read s a w ≡ Some v → loaded s.mem a w ≡ Some v
read-there s a w v e = by (writable (is_open s) a w) e
  where
    by : (b : Bool) → (if b then loaded s.mem a w else None) ≡ Some v → loaded s.mem a w ≡ Some v
    by true e = e
    by false e = cc

byte-there : (o : Option ℕ) → is_some o ≡ true → (b : ℕ) × (o ≡ Some b)
byte-there None e = cc
byte-there (Some b) e = (b, refl)

pub some-wide : (t : ValueType) → 0 < width t
some-wide value_type.Char = omega arith
some-wide _ = omega arith

module _ {Q I : Type 0} (R : Rows Q I) (fits : I → Type 0) (scratch : ℕ → Bool) (c : Code) (i : ℕ) (n : Node) (t : ValueType) (d : Reg) (named : d ≢ Fp) (at : Address) (is-address : IsAddress at) (frame : ℕ)
    (choices : List Choice) (body : List I) (lead : LoadCrosses R fits scratch choices frame t d at body) (some : 0 < length (spellings R.spelling body)) (o : State → Option ℕ)
    (gives : (s : State) (q : Q) (a : ℕ) → HoldsRead R.processor.target n frame s (R.processor.seen q) → o s ≡ Some a → address_word R.processor.target (R.processor.seen q).registers at ≡ a)
    (writes : (r : ℕ) → numbered (is_written n) r ≡ numbered (is_same d) r)
    (steps_so : (s : State) → s.at ≡ i → step c.nodes c.shape c.addresses s ≡ need (o s) (λ a. load_to s t a (operand.Reg d))) where
  abbrev target : Target
  target = R.processor.target

  -- the last byte lies in memory
  ends : (s : State) (q : Q) → HoldsRead target n frame s (R.processor.seen q) → (a v : ℕ) → loaded s.mem a (width t) ≡ Some v → a + width t ≤ 2 ^ 64
  ends s q h a v e =
      let wide = some-wide t in
      let there = mapped-each s.mem a (width t) (a + (width t - 1)) (mapped-where (mapped s.mem a (width t)) (number_at (byte_or_zero s.mem) a (width t)) v e).0 (omega arith) (omega (arith, wide)) in
      let b = byte-there (s.mem (a + (width t - 1))) there in
      let last = h.below (a + (width t - 1)) b.0 b.1 in omega (arith, last, wide)

  loads : (s : State) (q : Q) (a v : ℕ) → s.at ≡ i → HoldsRead target n frame s (R.processor.seen q) → o s ≡ Some a → steps.read s a (width t) ≡ Some v → CrossesTo R fits scratch c n choices body s (R.processor.seen q)
  loads s q a v here h address got =
      let w = (R.processor.seen q).registers in
      let r = read-there s a (width t) v got in
      let readable : IsReadable (R.processor.seen q) (w (frame_register target)) a (width t) v = λ bytes same. loaded-more s.mem bytes (λ j b e. same j (ap (λ p. in_slots p j) h.pointer ∙ h.off_slots j b e) ∙ h.memory.is j b e) a (width t) v r in
      let safe : LiesAbove target (w (stack_register target)) a (width t) = λ j le lt. let b = byte-there (s.mem j) (mapped-each s.mem a (width t) j (mapped-where (mapped s.mem a (width t)) (number_at (byte_or_zero s.mem) a (width t)) v r).0 le lt) in h.above j b.0 b.1 in
      let here-read = readable (R.processor.seen q).bytes (λ j off. refl) in
      let does = lead q a v named is-address h.in_frame (gives s q a h address) (ends s q h a v r) readable safe (loaded-small (R.processor.seen q).bytes h.in_frame.seen.bytes a (width t) v here-read) in
      crosses-word R scratch c n choices body s (R.processor.seen q) d named (on_with_carry (with_reg s (operand.Reg d) (extended_by_type t v))) (extended_by_type t v) writes fits
      (steps_so s here ∙ ap (λ z. need z (λ b. load_to s t b (operand.Reg d))) address ∙ ap (λ z. need z (λ y. Goes (on_with_carry (with_reg s (operand.Reg d) (extended_by_type t y))) [])) got)
      record { at = refl; frame = refl; callers = refl; pushed = refl; mem = refl; mark = refl; data_size = refl; args_size = refl; answer = refl } refl
      (λ u e. carry-moved target s.carry w u (carry_of (R.processor.seen q).flags) e h.carry)
      (subst (λ p. CrossesCode R fits (from_to (R.processor.seen q) (with_register w (register_of target d) (extended_by_type t v)) (R.processor.seen q).bytes (R.processor.seen q).flags) body p (spilled choices) (spoils scratch choices)) h.pointer does)

  pub load-computes : CrossesNode R fits scratch c i n frame choices body
  load-computes = record { some = some; steps = λ s q here h. by s q here h (o s) refl }
    where
      at-address : (s : State) (q : Q) (here : s.at ≡ i) (h : HoldsRead target n frame s (R.processor.seen q)) (a : ℕ) → o s ≡ Some a → (r : Option ℕ) → steps.read s a (width t) ≡ r → (step c.nodes c.shape c.addresses s ≡ Undefined) ⊎ CrossesTo R fits scratch c n choices body s (R.processor.seen q)
      at-address s q here h a e None g = inl (steps_so s here ∙ ap (λ z. need z (λ b. load_to s t b (operand.Reg d))) e ∙ ap (λ z. need z (λ y. Goes (on_with_carry (with_reg s (operand.Reg d) (extended_by_type t y))) [])) g)
      at-address s q here h a e (Some v) g = inr (loads s q a v here h e g)

      by : (s : State) (q : Q) (here : s.at ≡ i) (h : HoldsRead target n frame s (R.processor.seen q)) (oa : Option ℕ) → o s ≡ oa → (step c.nodes c.shape c.addresses s ≡ Undefined) ⊎ CrossesTo R fits scratch c n choices body s (R.processor.seen q)
      by s q here h None e = inl (steps_so s here ∙ ap (λ z. need z (λ b. load_to s t b (operand.Reg d))) e)
      by s q here h (Some a) e = at-address s q here h a e (steps.read s a (width t)) refl
