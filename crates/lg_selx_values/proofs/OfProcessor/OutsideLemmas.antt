-- Instructions that write no register that is outside of the conventions keep these registers.
use Rattle.std.proofs.Common.{◌≡◌, ◌≢◌, ℕ, Bool, true, false, Option, Some, None, refl, sym, ap, ◌∙◌, arith, length}
use Rattle.std.specs.Prelude.{◌==◌, IfSome, if◌then◌else◌}
use Rattle.std.proofs.lemmas.Bool.Decides.{nat_tests}
use Rattle.lg_base.specs.Flags.{carry_of}
use Rattle.lg_base.specs.Fields.{word_of}
use Rattle.lg_base.specs.Spaces.{mapped, loaded, stored}
use Rattle.lg_base.specs.Words.{add_words, sub_words, mul_words, high_product, high_product_signed}
use Rattle.lg_base.specs.Wide.{quotient_wide, quotient_wide_signed}
use Rattle.lg_base.specs.declared.fault.FaultKind.{FaultKind}
use Rattle.lg_base.specs.declared.fault.FaultKind.TheVariants.{Memory}
use Rattle.lg_base.specs.declared.flags.Flags.{Flags}
use Rattle.lg_base.specs.declared.target.Target.TheVariants.{X86_64}
use Rattle.lg_x86.specs.Spelling.{spelling}
use Rattle.lg_x86.specs.declared.instruction.Instr.{Instr}
use Rattle.lg_x86.specs.declared.instruction.Instr.TheVariants.{RmReg, Imm, RegRm, Load, Store, Lea2, Movi32, Movs32, Movi64, Unary, Shift, Bswap, Stack, JumpIfShort, JumpIfNear, Set, JumpNear, JumpReg, Bare}
use Rattle.lg_x86.specs.declared.instruction.BareOp.TheVariants.{Cqo, Ret, Nop}
use Rattle.lg_x86.specs.declared.instruction.JumpNearOp.TheVariants.{Call32}
use Rattle.lg_x86.specs.declared.instruction.JumpRegOp.TheVariants.{Callr}
use Rattle.lg_x86.specs.declared.instruction.LoadOp.{LoadOp}
use Rattle.lg_x86.specs.declared.instruction.LoadOp.TheVariants.{Ld64, Ld32u, Ld32s, Ld8u, Ld16u, Ld8s, Ld16s, Lea}
use Rattle.lg_x86.specs.declared.instruction.RmRegOp.{RmRegOp}
use Rattle.lg_x86.specs.declared.instruction.StackOp.TheVariants.{Push, Pop}
use Rattle.lg_x86.specs.declared.instruction.UnaryOp.{UnaryOp}
use Rattle.lg_x86.specs.declared.instruction.UnaryOp.TheVariants.{Mul, Imul1, Div, Idiv}
use Rattle.lg_cpu.specs.HostSteps.{put}
use Rattle.lg_cpu.specs.States.{CpuState}
use Rattle.lg_cpu.specs.Steps.{Progress, Goes, EndedWith, Faulted, Effect, after, on_going}
use Rattle.lg_cpu.specs.X86Operators.{no_flags, product_flags, needs_high, needs_high_signed, bit, carry_for, alu_value, alu_flags, alu_of, is_kept_by, condition_holds}
use Rattle.lg_cpu.specs.X86Step.{Scene, scene_of, with_flags, with_register, with_carry, sets_loaded, loads, store_width, stores, sets_wide, sets_quotient, one_register, pops, pushes, sets_byte, made}
use Rattle.lg_cpu.specs.X86Step.{fault_of, goes_with, goes_where, returns, does, act}
use Rattle.lg_carry.specs.Outside.{is_outside}
use Rattle.lg_selx_values.specs.Processor.Destinations.{WritesWithin, InstructionsStay}

-- ---- what an instruction does to a register
module _ (moves : Bool) (r : ℕ) (out : is_outside X86_64 moves r ≡ true) where
  differs : (x : ℕ) → is_outside X86_64 moves x ≡ false → r ≡ x → ⊥
  differs x within e = no (sym out ∙ ap (is_outside X86_64 moves) e ∙ within)
    where
      no : true ≡ false → ⊥
      no e = cc

  other : (x : ℕ) → is_outside X86_64 moves x ≡ false → (r == x) ≡ false
  other x within = let n : r ≢ x = differs x within in grind (arith, nat_tests)

  puts : (w : ℕ → ℕ) (x v : ℕ) → is_outside X86_64 moves x ≡ false → put w x v r ≡ w r
  puts w x v within = ap (λ (b : Bool). if b then v else w r) (other x within)

  abbrev Keeps : Scene → Option Scene → Type 0
  Keeps s o = IfSome o (λ t. t.registers r ≡ s.registers r)

  keep-either : (b : Bool) (s t u : Scene) → t.registers r ≡ s.registers r → u.registers r ≡ s.registers r → (if b then t else u).registers r ≡ s.registers r
  keep-either true s t u h k = h
  keep-either false s t u h k = k

  keep-carry : (op : RmRegOp) (rm b : ℕ) (s : Scene) (o : Option Bool) → is_outside X86_64 moves rm ≡ false → Keeps s (with_carry op rm b s o)
  keep-carry op rm b s None h = tt
  keep-carry op rm b s (Some c) h =
      keep-either (is_kept_by op) s (with_flags s (alu_flags op s.flags (s.registers rm) b (bit c))) (with_register s rm (alu_value op (s.registers rm) b (bit c)) (alu_flags op s.flags (s.registers rm) b (bit c)))
      refl (puts s.registers rm (alu_value op (s.registers rm) b (bit c)) h)

  keep-loaded : (op : LoadOp) (reg : ℕ) (s : Scene) (o : Option ℕ) → is_outside X86_64 moves reg ≡ false → Keeps s (sets_loaded op reg s o)
  keep-loaded op reg s None h = tt
  keep-loaded op reg s (Some v) h = puts s.registers reg _ h

  keep-load : (op : LoadOp) (reg address : ℕ) (s : Scene) → is_outside X86_64 moves reg ≡ false → Keeps s (loads op reg address s)
  keep-load Lea reg address s h = puts s.registers reg address h
  keep-load Ld64 reg address s h = keep-loaded Ld64 reg s (loaded s.bytes address 8) h
  keep-load Ld32u reg address s h = keep-loaded Ld32u reg s (loaded s.bytes address 4) h
  keep-load Ld32s reg address s h = keep-loaded Ld32s reg s (loaded s.bytes address 4) h
  keep-load Ld8u reg address s h = keep-loaded Ld8u reg s (loaded s.bytes address 1) h
  keep-load Ld16u reg address s h = keep-loaded Ld16u reg s (loaded s.bytes address 2) h
  keep-load Ld8s reg address s h = keep-loaded Ld8s reg s (loaded s.bytes address 1) h
  keep-load Ld16s reg address s h = keep-loaded Ld16s reg s (loaded s.bytes address 2) h

  keep-store : (s : Scene) (registers : ℕ → ℕ) (address width value : ℕ) → registers r ≡ s.registers r → Keeps s (stores s registers address width value)
  keep-store s registers address width value h = by (mapped s.bytes address width)
    where
      by : (b : Bool) → Keeps s (if b then Some (record { registers = registers; flags = s.flags; bytes = stored s.bytes address width value }) else None)
      by true = h
      by false = tt

  keep-wide : (s : Scene) (high low : ℕ) (flags : Flags) → Keeps s (sets_wide s high low flags)
  keep-wide s high low flags = puts (put s.registers 0 low) 2 high refl ∙ puts s.registers 0 low refl

  keep-quotient : (s : Scene) (o : Option (ℕ × ℕ)) → Keeps s (sets_quotient s o)
  keep-quotient s None = tt
  keep-quotient s (Some p) = keep-wide s p.1 p.0 no_flags

  keep-one : (op : UnaryOp) (rm : ℕ) (s : Scene) → is_outside X86_64 moves rm ≡ false → Keeps s (one_register op rm s)
  keep-one Mul rm s h = keep-wide s (high_product (s.registers 0) (s.registers rm)) (mul_words (s.registers 0) (s.registers rm)) (product_flags (needs_high (s.registers 0) (s.registers rm)))
  keep-one Imul1 rm s h = keep-wide s (high_product_signed (s.registers 0) (s.registers rm)) (mul_words (s.registers 0) (s.registers rm)) (product_flags (needs_high_signed (s.registers 0) (s.registers rm)))
  keep-one Div rm s h = keep-quotient s (quotient_wide (s.registers 2) (s.registers 0) (s.registers rm))
  keep-one Idiv rm s h = keep-quotient s (quotient_wide_signed (s.registers 2) (s.registers 0) (s.registers rm))
  keep-one o rm s h = puts s.registers rm _ h

  keep-pop : (reg : ℕ) (s : Scene) (o : Option ℕ) → is_outside X86_64 moves reg ≡ false → is_outside X86_64 moves 4 ≡ false → Keeps s (pops reg s o)
  keep-pop reg s None h k = tt
  keep-pop reg s (Some v) h k = puts (put s.registers 4 (add_words (s.registers 4) 8)) reg v h ∙ puts s.registers 4 _ k

  keep-push : (value : ℕ) (s : Scene) → is_outside X86_64 moves 4 ≡ false → Keeps s (pushes value s)
  keep-push value s h = keep-store s (put s.registers 4 (sub_words (s.registers 4) 8)) (sub_words (s.registers 4) 8) 8 value (puts s.registers 4 _ h)

  keep-byte : (rm : ℕ) (s : Scene) (o : Option Bool) → is_outside X86_64 moves rm ≡ false → Keeps s (sets_byte rm s o)
  keep-byte rm s None h = tt
  keep-byte rm s (Some b) h = puts s.registers rm _ h

  keep-made : (i : Instr) (s : Scene) → WritesWithin moves i → Keeps s (made i s)
  keep-made (RmReg op rm reg) s h = keep-carry op rm (s.registers reg) s (carry_for op (carry_of s.flags)) h.0
  keep-made (Imm op rm imm) s h = keep-carry (alu_of op) rm (word_of imm) s (carry_for (alu_of op) (carry_of s.flags)) h.0
  keep-made (RegRm op reg rm) s h = puts s.registers reg _ h.0
  keep-made (Load op reg base disp) s h = keep-load op reg (add_words (s.registers base) (word_of disp)) s h.0
  keep-made (Store op base disp reg) s h = keep-store s s.registers (add_words (s.registers base) (word_of disp)) (store_width op) (s.registers reg) refl
  keep-made (Lea2 reg base index) s h = puts s.registers reg _ h.0
  keep-made (Movi32 reg imm) s h = puts s.registers reg imm h.0
  keep-made (Movs32 rm imm) s h = puts s.registers rm _ h.0
  keep-made (Movi64 reg imm) s h = puts s.registers reg imm h.0
  keep-made (Unary op rm) s h = keep-one op rm s h.0
  keep-made (Shift op rm count) s h = puts s.registers rm _ h.0
  keep-made (Bswap reg) s h = puts s.registers reg _ h.0
  keep-made (Stack Push reg) s h = keep-push (s.registers reg) s h.1.0
  keep-made (Stack Pop reg) s h = keep-pop reg s (loaded s.bytes (s.registers 4) 8) h.0 h.1.0
  keep-made (Set cond rm) s h = keep-byte rm s (condition_holds cond s.flags) h.0
  keep-made (Bare Cqo) s h = puts s.registers 2 _ refl
  keep-made (Bare Nop) s h = refl
  keep-made (Bare Ret) s h = tt
  keep-made o s h = tt

  -- ---- effects
  abbrev Stays : CpuState → Effect CpuState → Type 0
  Stays q e = e.to.registers r ≡ q.registers r

  stay-with : (q : CpuState) (pc : ℕ) (kind : FaultKind) (o : Option Scene) → Keeps (scene_of q) o → Stays q (goes_with q pc kind o)
  stay-with q pc kind None h = refl
  stay-with q pc kind (Some s) h = h

  stay-where : (q : CpuState) (next target : ℕ) (o : Option Bool) → Stays q (goes_where q next target o)
  stay-where q next target None = refl
  stay-where q next target (Some b) = refl

  stay-return : (q : CpuState) (o : Option ℕ) → is_outside X86_64 moves 4 ≡ false → Stays q (returns q o)
  stay-return q None h = refl
  stay-return q (Some target) h = puts q.registers 4 _ h

  stay-made : (i : Instr) (next : ℕ) (q : CpuState) → WritesWithin moves i → Stays q (goes_with q next (fault_of i) (made i (scene_of q)))
  stay-made i next q h = stay-with q next (fault_of i) (made i (scene_of q)) (keep-made i (scene_of q) h)

  stay-does : (i : Instr) (next : ℕ) (q : CpuState) → WritesWithin moves i → Stays q (does i next q)
  stay-does (RmReg op rm reg) next q h = stay-made (RmReg op rm reg) next q h
  stay-does (Imm op rm imm) next q h = stay-made (Imm op rm imm) next q h
  stay-does (RegRm op reg rm) next q h = stay-made (RegRm op reg rm) next q h
  stay-does (Load op reg base disp) next q h = stay-made (Load op reg base disp) next q h
  stay-does (Store op base disp reg) next q h = stay-made (Store op base disp reg) next q h
  stay-does (Lea2 reg base index) next q h = stay-made (Lea2 reg base index) next q h
  stay-does (Movi32 reg imm) next q h = stay-made (Movi32 reg imm) next q h
  stay-does (Movs32 rm imm) next q h = stay-made (Movs32 rm imm) next q h
  stay-does (Movi64 reg imm) next q h = stay-made (Movi64 reg imm) next q h
  stay-does (Unary op rm) next q h = stay-made (Unary op rm) next q h
  stay-does (Shift op rm count) next q h = stay-made (Shift op rm count) next q h
  stay-does (Bswap reg) next q h = stay-made (Bswap reg) next q h
  stay-does (Stack op reg) next q h = stay-made (Stack op reg) next q h
  stay-does (Set cond rm) next q h = stay-made (Set cond rm) next q h
  stay-does (Bare Cqo) next q h = stay-made (Bare Cqo) next q h
  stay-does (Bare Nop) next q h = stay-made (Bare Nop) next q h
  stay-does (Bare Ret) next q h = stay-return q (loaded q.bytes (q.registers 4) 8) h.0
  stay-does (JumpIfShort cond distance) next q h = stay-where q next (add_words next (word_of distance)) (condition_holds cond q.flags)
  stay-does (JumpIfNear cond distance) next q h = stay-where q next (add_words next (word_of distance)) (condition_holds cond q.flags)
  stay-does (JumpNear Call32 distance) next q h = stay-with q (add_words next (word_of distance)) Memory (pushes next (scene_of q)) (keep-push next (scene_of q) h.0)
  stay-does (JumpReg Callr rm) next q h = stay-with q (q.registers rm) Memory (pushes next (scene_of q)) (keep-push next (scene_of q) h.0)
  stay-does i next q h = refl

pub instructions-stay : InstructionsStay
instructions-stay code trash moves i within q r out = by q.progress
  where
    by : (x : Progress) → (on_going x (after q (act i (length (spelling i)) q.state)) q).state.registers r ≡ q.state.registers r
    by Goes = stay-does moves r out i (add_words q.state.pc (length (spelling i))) q.state within
    by (EndedWith n) = refl
    by (Faulted kind) = refl
