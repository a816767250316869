-- What instructions write, and where they go on.
use Rattle.std.proofs.Common.{◌≡◌, ℕ, Bool, true, false, [], Option, Some, None, refl}
use Rattle.std.specs.Prelude.{is_some, IfSome, if◌then◌else◌}
use Rattle.lg_base.specs.Flags.{carry_of}
use Rattle.lg_base.specs.Fields.{word_of}
use Rattle.lg_base.specs.Spaces.{mapped, loaded, stored}
use Rattle.lg_base.specs.Words.{add_words, sub_words}
use Rattle.lg_base.specs.Wide.{quotient_wide, quotient_wide_signed}
use Rattle.lg_base.specs.declared.fault.FaultKind.{FaultKind}
use Rattle.lg_base.specs.declared.fault.FaultKind.TheVariants.{Memory}
use Rattle.lg_carry.proofs.SpillLemmas.{stored-there}
use Rattle.lg_x86.specs.declared.instruction.Instr.{Instr}
use Rattle.lg_x86.specs.declared.instruction.Instr.TheVariants.{RmReg, Imm, RegRm, Load, Store, Lea2, Movi32, Movs32, Movi64, Unary, Shift, Bswap, Stack, JumpIfShort, JumpIfNear, Set, JumpShort, JumpNear, JumpReg, Bare}
use Rattle.lg_x86.specs.declared.instruction.BareOp.TheVariants.{Cqo, Ret, Nop}
use Rattle.lg_x86.specs.declared.instruction.JumpNearOp.TheVariants.{Call32}
use Rattle.lg_x86.specs.declared.instruction.JumpRegOp.TheVariants.{Callr}
use Rattle.lg_x86.specs.declared.instruction.LoadOp.{LoadOp}
use Rattle.lg_x86.specs.declared.instruction.LoadOp.TheVariants.{Ld64, Ld32u, Ld32s, Ld8u, Ld16u, Ld8s, Ld16s, Lea}
use Rattle.lg_x86.specs.declared.instruction.RmRegOp.{RmRegOp}
use Rattle.lg_x86.specs.declared.instruction.StackOp.TheVariants.{Push, Pop}
use Rattle.lg_x86.specs.declared.instruction.UnaryOp.{UnaryOp}
use Rattle.lg_x86.specs.declared.instruction.UnaryOp.TheVariants.{Div, Idiv}
use Rattle.lg_cpu.specs.HostSteps.{put}
use Rattle.lg_cpu.specs.States.{CpuState}
use Rattle.lg_cpu.specs.Steps.{Effect}
use Rattle.lg_cpu.specs.X86Operators.{bit, carry_for, alu_value, alu_flags, alu_of, is_kept_by, condition_holds}
use Rattle.lg_cpu.specs.X86Step.{Scene, scene_of, with_flags, with_register, with_carry, sets_loaded, loads, store_width, stores, sets_quotient, one_register, pops, pushes, sets_byte, made}
use Rattle.lg_cpu.specs.X86Step.{fault_of, goes_with, goes_where, returns, does}
use Rattle.lg_selx_values.specs.Processor.X86Rows.{is_straight}

-- an instruction that is straight makes a scene, or faults
pub straight-does : (i : Instr) (next : ℕ) (q : CpuState) → is_straight i ≡ true → does i next q ≡ goes_with q next (fault_of i) (made i (scene_of q))
straight-does (JumpIfShort cond distance) next q h = cc
straight-does (JumpIfNear cond distance) next q h = cc
straight-does (JumpShort distance) next q h = cc
straight-does (JumpNear op distance) next q h = cc
straight-does (JumpReg op rm) next q h = cc
straight-does (Bare Ret) next q h = cc
straight-does i next q h = refl

-- ---- no byte is taken away
abbrev Grows : Scene → Scene → Type 0
Grows s t = (a : ℕ) → is_some (s.bytes a) ≡ true → is_some (t.bytes a) ≡ true

abbrev IfGrows : Scene → Option Scene → Type 0
IfGrows s o = IfSome o (Grows s)

either : (b : Bool) (s t u : Scene) → Grows s t → Grows s u → Grows s (if b then t else u)
either true s t u h k = h
either false s t u h k = k

grows-carry : (op : RmRegOp) (rm b : ℕ) (s : Scene) (o : Option Bool) → IfGrows s (with_carry op rm b s o)
grows-carry op rm b s None = tt
grows-carry op rm b s (Some c) =
    either (is_kept_by op) s (with_flags s (alu_flags op s.flags (s.registers rm) b (bit c))) (with_register s rm (alu_value op (s.registers rm) b (bit c)) (alu_flags op s.flags (s.registers rm) b (bit c))) (λ a e. e) (λ a e. e)

grows-loaded : (op : LoadOp) (reg : ℕ) (s : Scene) (o : Option ℕ) → IfGrows s (sets_loaded op reg s o)
grows-loaded op reg s None = tt
grows-loaded op reg s (Some v) = λ a e. e

grows-load : (op : LoadOp) (reg address : ℕ) (s : Scene) → IfGrows s (loads op reg address s)
grows-load Lea reg address s = λ a e. e
grows-load Ld64 reg address s = grows-loaded Ld64 reg s (loaded s.bytes address 8)
grows-load Ld32u reg address s = grows-loaded Ld32u reg s (loaded s.bytes address 4)
grows-load Ld32s reg address s = grows-loaded Ld32s reg s (loaded s.bytes address 4)
grows-load Ld8u reg address s = grows-loaded Ld8u reg s (loaded s.bytes address 1)
grows-load Ld16u reg address s = grows-loaded Ld16u reg s (loaded s.bytes address 2)
grows-load Ld8s reg address s = grows-loaded Ld8s reg s (loaded s.bytes address 1)
grows-load Ld16s reg address s = grows-loaded Ld16s reg s (loaded s.bytes address 2)

grows-store : (s : Scene) (registers : ℕ → ℕ) (address width value : ℕ) → IfGrows s (stores s registers address width value)
grows-store s registers address width value = by (mapped s.bytes address width)
  where
    by : (b : Bool) → IfGrows s (if b then Some (record { registers = registers; flags = s.flags; bytes = stored s.bytes address width value }) else None)
    by true = λ a e. stored-there s.bytes address width value a e
    by false = tt

grows-quotient : (s : Scene) (o : Option (ℕ × ℕ)) → IfGrows s (sets_quotient s o)
grows-quotient s None = tt
grows-quotient s (Some p) = λ a e. e

grows-one : (op : UnaryOp) (rm : ℕ) (s : Scene) → IfGrows s (one_register op rm s)
grows-one Div rm s = grows-quotient s (quotient_wide (s.registers 2) (s.registers 0) (s.registers rm))
grows-one Idiv rm s = grows-quotient s (quotient_wide_signed (s.registers 2) (s.registers 0) (s.registers rm))
grows-one o rm s = λ a e. e

grows-pop : (reg : ℕ) (s : Scene) (o : Option ℕ) → IfGrows s (pops reg s o)
grows-pop reg s None = tt
grows-pop reg s (Some v) = λ a e. e

grows-push : (value : ℕ) (s : Scene) → IfGrows s (pushes value s)
grows-push value s = grows-store s (put s.registers 4 (sub_words (s.registers 4) 8)) (sub_words (s.registers 4) 8) 8 value

grows-byte : (rm : ℕ) (s : Scene) (o : Option Bool) → IfGrows s (sets_byte rm s o)
grows-byte rm s None = tt
grows-byte rm s (Some b) = λ a e. e

grows-made : (i : Instr) (s : Scene) → IfGrows s (made i s)
grows-made (RmReg op rm reg) s = grows-carry op rm (s.registers reg) s (carry_for op (carry_of s.flags))
grows-made (Imm op rm imm) s = grows-carry (alu_of op) rm (word_of imm) s (carry_for (alu_of op) (carry_of s.flags))
grows-made (RegRm op reg rm) s = λ a e. e
grows-made (Load op reg base disp) s = grows-load op reg (add_words (s.registers base) (word_of disp)) s
grows-made (Store op base disp reg) s = grows-store s s.registers (add_words (s.registers base) (word_of disp)) (store_width op) (s.registers reg)
grows-made (Lea2 reg base index) s = λ a e. e
grows-made (Movi32 reg imm) s = λ a e. e
grows-made (Movs32 rm imm) s = λ a e. e
grows-made (Movi64 reg imm) s = λ a e. e
grows-made (Unary op rm) s = grows-one op rm s
grows-made (Shift op rm count) s = λ a e. e
grows-made (Bswap reg) s = λ a e. e
grows-made (Stack Push reg) s = grows-push (s.registers reg) s
grows-made (Stack Pop reg) s = grows-pop reg s (loaded s.bytes (s.registers 4) 8)
grows-made (Set cond rm) s = grows-byte rm s (condition_holds cond s.flags)
grows-made (Bare Cqo) s = λ a e. e
grows-made (Bare Nop) s = λ a e. e
grows-made (Bare Ret) s = tt
grows-made o s = tt

-- ---- nothing is written, the heap mark stays, and no byte is taken away
pub record Steady (q : CpuState) (e : Effect CpuState) : Type 0 where
  pub written : e.written ≡ []
  pub mark : e.to.mark ≡ q.mark
  pub grows : (a : ℕ) → is_some (q.bytes a) ≡ true → is_some (e.to.bytes a) ≡ true

steady-with : (q : CpuState) (pc : ℕ) (kind : FaultKind) (o : Option Scene) → IfGrows (scene_of q) o → Steady q (goes_with q pc kind o)
steady-with q pc kind None h = record { written = refl; mark = refl; grows = λ a e. e }
steady-with q pc kind (Some s) h = record { written = refl; mark = refl; grows = h }

steady-where : (q : CpuState) (next target : ℕ) (o : Option Bool) → Steady q (goes_where q next target o)
steady-where q next target None = record { written = refl; mark = refl; grows = λ a e. e }
steady-where q next target (Some b) = record { written = refl; mark = refl; grows = λ a e. e }

steady-return : (q : CpuState) (o : Option ℕ) → Steady q (returns q o)
steady-return q None = record { written = refl; mark = refl; grows = λ a e. e }
steady-return q (Some target) = record { written = refl; mark = refl; grows = λ a e. e }

steady-made : (i : Instr) (next : ℕ) (q : CpuState) → Steady q (goes_with q next (fault_of i) (made i (scene_of q)))
steady-made i next q = steady-with q next (fault_of i) (made i (scene_of q)) (grows-made i (scene_of q))

pub steady-does : (i : Instr) (next : ℕ) (q : CpuState) → Steady q (does i next q)
steady-does (RmReg op rm reg) next q = steady-made (RmReg op rm reg) next q
steady-does (Imm op rm imm) next q = steady-made (Imm op rm imm) next q
steady-does (RegRm op reg rm) next q = steady-made (RegRm op reg rm) next q
steady-does (Load op reg base disp) next q = steady-made (Load op reg base disp) next q
steady-does (Store op base disp reg) next q = steady-made (Store op base disp reg) next q
steady-does (Lea2 reg base index) next q = steady-made (Lea2 reg base index) next q
steady-does (Movi32 reg imm) next q = steady-made (Movi32 reg imm) next q
steady-does (Movs32 rm imm) next q = steady-made (Movs32 rm imm) next q
steady-does (Movi64 reg imm) next q = steady-made (Movi64 reg imm) next q
steady-does (Unary op rm) next q = steady-made (Unary op rm) next q
steady-does (Shift op rm count) next q = steady-made (Shift op rm count) next q
steady-does (Bswap reg) next q = steady-made (Bswap reg) next q
steady-does (Stack op reg) next q = steady-made (Stack op reg) next q
steady-does (Set cond rm) next q = steady-made (Set cond rm) next q
steady-does (Bare Cqo) next q = steady-made (Bare Cqo) next q
steady-does (Bare Nop) next q = steady-made (Bare Nop) next q
steady-does (Bare Ret) next q = steady-return q (loaded q.bytes (q.registers 4) 8)
steady-does (JumpIfShort cond distance) next q = steady-where q next (add_words next (word_of distance)) (condition_holds cond q.flags)
steady-does (JumpIfNear cond distance) next q = steady-where q next (add_words next (word_of distance)) (condition_holds cond q.flags)
steady-does (JumpNear Call32 distance) next q = steady-with q (add_words next (word_of distance)) Memory (pushes next (scene_of q)) (grows-push next (scene_of q))
steady-does (JumpReg Callr rm) next q = steady-with q (q.registers rm) Memory (pushes next (scene_of q)) (grows-push next (scene_of q))
steady-does i next q = record { written = refl; mark = refl; grows = λ a e. e }
