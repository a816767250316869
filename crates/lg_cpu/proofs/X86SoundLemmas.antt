-- Words stay words on x86-64.
use Rattle.std.proofs.Common.{◌≡◌, ℕ, ◌+◌, ◌-◌, ◌*◌, ◌/◌, ◌%◌, ◌^◌, ◌<◌, ◌≤◌, Bool, true, false, List, drop, Option, Some, None, refl, arith}
use Rattle.std.specs.Prelude.{◌==◌, ◌||◌, nat_le, nat_lt, IfSome, bit_and, if◌then◌else◌}
use Rattle.std.proofs.Math.Nat.{mod-lt, div-lt_iff_lt-mul}
use Rattle.std.proofs.lemmas.Nat.{and_le_l, or_lt, xor_lt}
use Rattle.std.proofs.lemmas.Bool.{or_parts}
use Rattle.lg_base.specs.Flags.{carry_of}
use Rattle.lg_base.specs.Fields.{word_of}
use Rattle.lg_base.specs.Layout.{code_base}
use Rattle.lg_base.specs.Words.{add_words, sub_words, magnitude, with_sign, is_negative, differ, complement, extended}
use Rattle.lg_base.specs.Wide.{zero_part_of, swapped, byte_of, wide_magnitude, fits_signed, quotient_wide, quotient_wide_signed}
use Rattle.lg_base.specs.Spaces.{mapped, loaded, stored}
use Rattle.lg_base.specs.HostNames.{host_by_address}
use Rattle.lg_base.specs.declared.fault.FaultKind.{FaultKind}
use Rattle.lg_base.specs.declared.fault.FaultKind.TheVariants.{Memory, Fetch, Host}
use Rattle.lg_base.specs.declared.flags.Flags.{Flags}
use Rattle.lg_base.specs.declared.host_name.HostName.{HostName}
use Rattle.lg_base.specs.declared.target.Target.TheVariants as target
use Rattle.lg_x86.proofs.NumberLemmas.{HasWords, front-fits}
use Rattle.lg_x86.specs.Reading.{front_of}
use Rattle.lg_x86.specs.declared.instruction.Instr.{Instr}
use Rattle.lg_x86.specs.declared.instruction.Instr.TheVariants.{RmReg, Imm, RegRm, Load, Store, Lea2, Movi32, Movs32, Movi64, Unary, Shift, Bswap, Stack, JumpIfShort, JumpIfNear, Set, JumpShort, JumpNear, JumpReg, Bare}
use Rattle.lg_x86.specs.declared.instruction.RmRegOp.{RmRegOp}
use Rattle.lg_x86.specs.declared.instruction.RmRegOp.TheVariants as alu
use Rattle.lg_x86.specs.declared.instruction.RegRmOp.{RegRmOp}
use Rattle.lg_x86.specs.declared.instruction.RegRmOp.TheVariants as reg_rm
use Rattle.lg_x86.specs.declared.instruction.LoadOp.{LoadOp}
use Rattle.lg_x86.specs.declared.instruction.LoadOp.TheVariants.{Ld64, Ld32u, Ld32s, Ld8u, Ld16u, Ld8s, Ld16s, Lea}
use Rattle.lg_x86.specs.declared.instruction.UnaryOp.{UnaryOp}
use Rattle.lg_x86.specs.declared.instruction.UnaryOp.TheVariants.{Not, Neg, Mul, Imul1, Div, Idiv, Shl, Shr, Sar}
use Rattle.lg_x86.specs.declared.instruction.ShiftOp.{ShiftOp}
use Rattle.lg_x86.specs.declared.instruction.ShiftOp.TheVariants.{Shli, Shri, Sari}
use Rattle.lg_x86.specs.declared.instruction.StackOp.TheVariants.{Push, Pop}
use Rattle.lg_x86.specs.declared.instruction.JumpNearOp.TheVariants.{Jmp32, Call32}
use Rattle.lg_x86.specs.declared.instruction.JumpRegOp.TheVariants.{Jmpr, Callr}
use Rattle.lg_x86.specs.declared.instruction.BareOp.TheVariants.{Cqo, Ret, Nop}
use Rattle.lg_cpu.specs.HostSteps.{put, after_call}
use Rattle.lg_cpu.specs.Fetches.{in_code}
use Rattle.lg_cpu.specs.States.{CpuState}
use Rattle.lg_cpu.specs.Steps.{faults}
use Rattle.lg_cpu.specs.X86Operators.{no_flags, bit, carry_for, alu_value, alu_flags, is_kept_by, alu_of, sign_word, reg_rm_value, shift_value, condition_holds}
use Rattle.lg_cpu.specs.X86Step.{Scene, scene_of, sets, with_flags, with_register, with_carry, load_value, sets_loaded, loads, store_width, stores, sets_wide, sets_quotient, one_register, pops, pushes, sets_byte, made}
use Rattle.lg_cpu.specs.X86Step.{fault_of, goes_with, goes_where, returns, does, decoded, fetch, popped, takes_al, enter_with, enter_host, effect_at, effect}
use Rattle.lg_cpu.specs.Laws.{IsSound, AreBytes}
use Rattle.lg_cpu.proofs.OperatorLemmas.{low_word, choice_word, quotient_word, high_word, high_product_word, sign_1_word, sign_2_word, sign_4_word}
use Rattle.lg_cpu.proofs.WordLemmas.{Sound, AreWords, loaded_lt, stored_sound, put_words, sound_arrives, sound_goes_on, sound_choice, drop_bytes, after_words, sound_host_step}

-- ---- words
and-word : (a b : ℕ) → a < 2 ^ 64 → bit_and a b < 2 ^ 64
and-word a b h = let le : bit_and a b ≤ a = and_le_l a b in omega (arith, le, h)

alu-word : (op : RmRegOp) (a b c : ℕ) → a < 2 ^ 64 → b < 2 ^ 64 → alu_value op a b c < 2 ^ 64
alu-word alu.Add a b c h k = low_word (a + b)
alu-word alu.Or a b c h k = or_lt 64 a b h k
alu-word alu.Adc a b c h k = low_word (a + b + c)
alu-word alu.Sbb a b c h k = low_word (a + (2 ^ 65 - (b + c)))
alu-word alu.And a b c h k = and-word a b h
alu-word alu.Sub a b c h k = low_word (a + (2 ^ 64 - b))
alu-word alu.Xor a b c h k = xor_lt 64 a b h k
alu-word alu.Cmp a b c h k = low_word (a + (2 ^ 64 - b))
alu-word alu.Test a b c h k = and-word a b h
alu-word alu.Mov a b c h k = k

zero-part-1 : (n : ℕ) → zero_part_of n 1 < 2 ^ 64
zero-part-1 n = grind arith

zero-part-2 : (n : ℕ) → zero_part_of n 2 < 2 ^ 64
zero-part-2 n = grind arith

zero-part-4 : (n : ℕ) → zero_part_of n 4 < 2 ^ 64
zero-part-4 n = grind arith

reg-rm-word : (op : RegRmOp) (a b : ℕ) → a < 2 ^ 64 → b < 2 ^ 64 → reg_rm_value op a b < 2 ^ 64
reg-rm-word reg_rm.Ext32u a b h k = zero-part-4 b
reg-rm-word reg_rm.Ext32s a b h k = sign_4_word b
reg-rm-word reg_rm.Ext8u a b h k = zero-part-1 b
reg-rm-word reg_rm.Ext16u a b h k = zero-part-2 b
reg-rm-word reg_rm.Ext8s a b h k = sign_1_word b
reg-rm-word reg_rm.Ext16s a b h k = sign_2_word b
reg-rm-word reg_rm.Imul a b h k = low_word (a * b)

shift-word : (op : ShiftOp) (a n : ℕ) → a < 2 ^ 64 → shift_value op a n < 2 ^ 64
shift-word Shli a n h = low_word (a * 2 ^ n)
shift-word Shri a n h = quotient_word a (2 ^ n) h
shift-word Sari a n h = choice_word (nat_lt a (2 ^ 63)) (a / 2 ^ n) (complement (complement a / 2 ^ n)) (quotient_word a (2 ^ n) h) (omega arith)

sign-word-word : (a : ℕ) → sign_word a < 2 ^ 64
sign-word-word a = choice_word (is_negative a) (2 ^ 64 - 1) 0 (omega arith) (omega arith)

byte-low : (v k : ℕ) → byte_of v k < 256
byte-low v k = mod-lt (v / 256 ^ k) (omega arith)

swapped-word : (v : ℕ) → swapped v 8 < 2 ^ 64
swapped-word v = omega (arith, byte-low v 0, byte-low v 1, byte-low v 2, byte-low v 3, byte-low v 4, byte-low v 5, byte-low v 6, byte-low v 7)

byte-word : (v b : ℕ) → v < 2 ^ 64 → b < 2 → v / 256 * 256 + b < 2 ^ 64
byte-word v b h k = omega (arith, h, k)

bit-small : (b : Bool) → bit b < 2
bit-small true = omega arith
bit-small false = omega arith

-- ---- quotients of double words
wide-quotient : (high low by : ℕ) → high < by → low < 2 ^ 64 → (high * 2 ^ 64 + low) / by < 2 ^ 64
wide-quotient high low by lt small =
    let some : 0 < by = omega (arith, lt) in
    let e : high * 2 ^ 64 + low < 2 ^ 64 * by = omega (arith, lt, small) in
    (div-lt_iff_lt-mul some).1 e

wide-remainder : (n by : ℕ) → 0 < by → by < 2 ^ 64 → n % by < 2 ^ 64
wide-remainder n by some small = let lt = mod-lt n some in omega (arith, lt, small)

-- ---- scenes
-- registers hold words, and the memory bytes
pub record AreSound (s : Scene) : Type 0 where
  pub words : AreWords s.registers
  pub bytes : Sound s.bytes

quiet : (s : Scene) (registers : ℕ → ℕ) (flags : Flags) → AreSound s → AreWords registers → AreSound (record { registers = registers; flags = flags; bytes = s.bytes })
quiet s registers flags h k = record { words = k; bytes = h.bytes }

abbrev IfMade : Option Scene → Type 0
IfMade o = IfSome o AreSound

set : (s : Scene) (to value : ℕ) (flags : Flags) → AreSound s → value < 2 ^ 64 → IfMade (sets s to value flags)
set s to value flags h k = quiet s (put s.registers to value) flags h (put_words s.registers to value h.words k)

kept-or-put : (b : Bool) (s : Scene) (rm value : ℕ) (flags : Flags) → AreSound s → value < 2 ^ 64 → AreSound (if b then with_flags s flags else with_register s rm value flags)
kept-or-put true s rm value flags h k = quiet s s.registers flags h h.words
kept-or-put false s rm value flags h k = quiet s (put s.registers rm value) flags h (put_words s.registers rm value h.words k)

combine : (op : RmRegOp) (rm b : ℕ) (s : Scene) (o : Option Bool) → AreSound s → b < 2 ^ 64 → IfMade (with_carry op rm b s o)
combine op rm b s None h k = tt
combine op rm b s (Some c) h k = kept-or-put (is_kept_by op) s rm (alu_value op (s.registers rm) b (bit c)) (alu_flags op s.flags (s.registers rm) b (bit c)) h (alu-word op (s.registers rm) b (bit c) (h.words rm) k)

load : (op : LoadOp) (reg : ℕ) (s : Scene) (o : Option ℕ) → AreSound s → ((v : ℕ) → o ≡ Some v → load_value op v < 2 ^ 64) → IfMade (sets_loaded op reg s o)
load op reg s None h k = tt
load op reg s (Some v) h k = set s reg (load_value op v) s.flags h (k v refl)

load-at : (op : LoadOp) (reg address : ℕ) (s : Scene) → AreSound s → address < 2 ^ 64 → IfMade (loads op reg address s)
load-at Lea reg address s h k = set s reg address s.flags h k
load-at Ld64 reg address s h k = load Ld64 reg s _ h (λ v e. let lt : v < 256 ^ 8 = loaded_lt s.bytes address 8 v h.bytes e in omega (arith, lt))
load-at Ld32u reg address s h k = load Ld32u reg s _ h (λ v e. let lt : v < 256 ^ 4 = loaded_lt s.bytes address 4 v h.bytes e in omega (arith, lt))
load-at Ld8u reg address s h k = load Ld8u reg s _ h (λ v e. let lt : v < 256 ^ 1 = loaded_lt s.bytes address 1 v h.bytes e in omega (arith, lt))
load-at Ld16u reg address s h k = load Ld16u reg s _ h (λ v e. let lt : v < 256 ^ 2 = loaded_lt s.bytes address 2 v h.bytes e in omega (arith, lt))
load-at Ld32s reg address s h k = load Ld32s reg s _ h (λ v e. sign_4_word v)
load-at Ld8s reg address s h k = load Ld8s reg s _ h (λ v e. sign_1_word v)
load-at Ld16s reg address s h k = load Ld16s reg s _ h (λ v e. sign_2_word v)

store : (s : Scene) (registers : ℕ → ℕ) (address width value : ℕ) → AreSound s → AreWords registers → IfMade (stores s registers address width value)
store s registers address width value h k = by (mapped s.bytes address width)
  where
    by : (b : Bool) → IfMade (if b then Some (record { registers = registers; flags = s.flags; bytes = stored s.bytes address width value }) else None)
    by true = record { words = k; bytes = stored_sound s.bytes address width value h.bytes }
    by false = tt

wide : (s : Scene) (high low : ℕ) (flags : Flags) → AreSound s → high < 2 ^ 64 → low < 2 ^ 64 → IfMade (sets_wide s high low flags)
wide s high low flags h k l = quiet s _ flags h (put_words (put s.registers 0 low) 2 high (put_words s.registers 0 low h.words l) k)

quotient : (s : Scene) (o : Option (ℕ × ℕ)) → AreSound s → IfSome o (λ p. (p.0 < 2 ^ 64) × (p.1 < 2 ^ 64)) → IfMade (sets_quotient s o)
quotient s None h k = tt
quotient s (Some p) h k = wide s p.1 p.0 no_flags h k.1 k.0

abbrev TwoWords : Option (ℕ × ℕ) → Type 0
TwoWords o = IfSome o (λ p. (p.0 < 2 ^ 64) × (p.1 < 2 ^ 64))

quotient-words : (high low by : ℕ) → low < 2 ^ 64 → by < 2 ^ 64 → TwoWords (quotient_wide high low by)
quotient-words high low by small k = go ((by == 0) || nat_le by high) refl
  where
    go : (b : Bool) → ((by == 0) || nat_le by high) ≡ b → TwoWords (if b then None else Some ((high * 2 ^ 64 + low) / by, (high * 2 ^ 64 + low) % by))
    go true e = tt
    go false e = let f = or_parts (by == 0) (nat_le by high) e in
        let lt : high < by = (let g = f.1 in grind (arith, g)) in
        (wide-quotient high low by lt small, wide-remainder (high * 2 ^ 64 + low) by (omega (arith, lt)) k)

signed-small : (b : Bool) (n : ℕ) → fits_signed b n ≡ true → with_sign b n < 2 ^ 64
signed-small true n e = low_word (2 ^ 64 - n)
signed-small false n e = grind (arith, e)

signed-low : (b : Bool) (n : ℕ) → n < 2 ^ 64 → with_sign b n < 2 ^ 64
signed-low true n h = low_word (2 ^ 64 - n)
signed-low false n h = h

magnitude-some : (a : ℕ) → a < 2 ^ 64 → (a == 0) ≡ false → (0 < magnitude a) × (magnitude a < 2 ^ 64)
magnitude-some a h e = (grind (arith, h, e), grind (arith, h, e))

signed-words : (high low by : ℕ) → by < 2 ^ 64 → TwoWords (quotient_wide_signed high low by)
signed-words high low by k = go (by == 0) refl (fits_signed (differ (is_negative high) (is_negative by)) (wide_magnitude high low / magnitude by)) refl
  where
    go : (b : Bool) → (by == 0) ≡ b → (f : Bool) → fits_signed (differ (is_negative high) (is_negative by)) (wide_magnitude high low / magnitude by) ≡ f
        → TwoWords (if b then None else if f then Some (with_sign (differ (is_negative high) (is_negative by)) (wide_magnitude high low / magnitude by), with_sign (is_negative high) (wide_magnitude high low % magnitude by)) else None)
    go true e f g = tt
    go false e true g = let m = magnitude-some by k e in (signed-small (differ (is_negative high) (is_negative by)) _ g, signed-low (is_negative high) _ (wide-remainder (wide_magnitude high low) (magnitude by) m.0 m.1))
    go false e false g = tt

one : (op : UnaryOp) (rm : ℕ) (s : Scene) → AreSound s → IfMade (one_register op rm s)
one Not rm s h = set s rm _ s.flags h (omega arith)
one Neg rm s h = set s rm _ _ h (low_word (2 ^ 64 - s.registers rm))
one Mul rm s h = wide s _ _ _ h (high_product_word (s.registers 0) (s.registers rm) (h.words 0) (h.words rm)) (low_word (s.registers 0 * s.registers rm))
one Imul1 rm s h = wide s _ _ _ h (high_word (extended (s.registers 0) * extended (s.registers rm))) (low_word (s.registers 0 * s.registers rm))
one Div rm s h = quotient s (quotient_wide (s.registers 2) (s.registers 0) (s.registers rm)) h (quotient-words (s.registers 2) (s.registers 0) (s.registers rm) (h.words 0) (h.words rm))
one Idiv rm s h = quotient s (quotient_wide_signed (s.registers 2) (s.registers 0) (s.registers rm)) h (signed-words (s.registers 2) (s.registers 0) (s.registers rm) (h.words rm))
one Shl rm s h = set s rm _ _ h (shift-word Shli (s.registers rm) (s.registers 1 % 64) (h.words rm))
one Shr rm s h = set s rm _ _ h (shift-word Shri (s.registers rm) (s.registers 1 % 64) (h.words rm))
one Sar rm s h = set s rm _ _ h (shift-word Sari (s.registers rm) (s.registers 1 % 64) (h.words rm))

pop : (reg : ℕ) (s : Scene) (o : Option ℕ) → AreSound s → ((v : ℕ) → o ≡ Some v → v < 2 ^ 64) → IfMade (pops reg s o)
pop reg s None h k = tt
pop reg s (Some v) h k = quiet s _ s.flags h (put_words (put s.registers 4 (add_words (s.registers 4) 8)) reg v (put_words s.registers 4 (add_words (s.registers 4) 8) h.words (low_word (s.registers 4 + 8))) (k v refl))

push : (value : ℕ) (s : Scene) → AreSound s → IfMade (pushes value s)
push value s h = store s (put s.registers 4 (sub_words (s.registers 4) 8)) (sub_words (s.registers 4) 8) 8 value h (put_words s.registers 4 (sub_words (s.registers 4) 8) h.words (low_word (s.registers 4 + (2 ^ 64 - 8))))

set-byte : (rm : ℕ) (s : Scene) (o : Option Bool) → AreSound s → IfMade (sets_byte rm s o)
set-byte rm s None h = tt
set-byte rm s (Some b) h = set s rm (s.registers rm / 256 * 256 + bit b) s.flags h (byte-word (s.registers rm) (bit b) (h.words rm) (bit-small b))

made-sound : (i : Instr) (s : Scene) → HasWords i → AreSound s → IfMade (made i s)
made-sound (RmReg op rm reg) s ok h = combine op rm (s.registers reg) s (carry_for op (carry_of s.flags)) h (h.words reg)
made-sound (Imm op rm imm) s ok h = combine (alu_of op) rm (word_of imm) s (carry_for (alu_of op) (carry_of s.flags)) h ok
made-sound (RegRm op reg rm) s ok h = set s reg _ _ h (reg-rm-word op (s.registers reg) (s.registers rm) (h.words reg) (h.words rm))
made-sound (Load op reg base disp) s ok h = load-at op reg (add_words (s.registers base) (word_of disp)) s h (low_word (s.registers base + word_of disp))
made-sound (Store op base disp reg) s ok h = store s s.registers (add_words (s.registers base) (word_of disp)) (store_width op) (s.registers reg) h h.words
made-sound (Lea2 reg base index) s ok h = set s reg _ s.flags h (low_word (s.registers base + s.registers index))
made-sound (Movi32 reg imm) s ok h = set s reg imm s.flags h ok
made-sound (Movs32 rm imm) s ok h = set s rm (word_of imm) s.flags h ok
made-sound (Movi64 reg imm) s ok h = set s reg imm s.flags h ok
made-sound (Unary op rm) s ok h = one op rm s h
made-sound (Shift op rm count) s ok h = set s rm _ _ h (shift-word op (s.registers rm) count (h.words rm))
made-sound (Bswap reg) s ok h = set s reg _ s.flags h (swapped-word (s.registers reg))
made-sound (Stack Push reg) s ok h = push (s.registers reg) s h
made-sound (Stack Pop reg) s ok h = pop reg s (loaded s.bytes (s.registers 4) 8) h (λ v e. let lt : v < 256 ^ 8 = loaded_lt s.bytes (s.registers 4) 8 v h.bytes e in omega (arith, lt))
made-sound (Set cond rm) s ok h = set-byte rm s (condition_holds cond s.flags) h
made-sound (Bare Cqo) s ok h = set s 2 _ s.flags h (sign-word-word (s.registers 0))
made-sound (Bare Nop) s ok h = record { words = h.words; bytes = h.bytes }
made-sound (Bare Ret) s ok h = tt
made-sound (JumpIfShort cond distance) s ok h = tt
made-sound (JumpIfNear cond distance) s ok h = tt
made-sound (JumpShort distance) s ok h = tt
made-sound (JumpNear op distance) s ok h = tt
made-sound (JumpReg op rm) s ok h = tt

-- ---- effects
scene_sound : (q : CpuState) → IsSound q → AreSound (scene_of q)
scene_sound q s = record { words = s.words; bytes = s.bytes }

sound_with : (q : CpuState) (pc : ℕ) (kind : FaultKind) (o : Option Scene) → IsSound q → pc < 2 ^ 64 → IfMade o → IsSound (goes_with q pc kind o).to
sound_with q pc kind None s p h = s
sound_with q pc kind (Some t) s p h = sound_arrives q pc t.registers t.flags t.bytes s p h.words h.bytes

sound_where : (q : CpuState) (next target : ℕ) (o : Option Bool) → IsSound q → next < 2 ^ 64 → target < 2 ^ 64 → IsSound (goes_where q next target o).to
sound_where q next target None s h k = s
sound_where q next target (Some b) s h k = sound_goes_on q (if b then target else next) s (choice_word b target next k h)

sound_return : (q : CpuState) (o : Option ℕ) → IsSound q → ((v : ℕ) → o ≡ Some v → v < 2 ^ 64) → IsSound (returns q o).to
sound_return q None s h = s
sound_return q (Some t) s h = sound_arrives q t (put q.registers 4 (add_words (q.registers 4) 8)) q.flags q.bytes s (h t refl) (put_words q.registers 4 (add_words (q.registers 4) 8) s.words (low_word (q.registers 4 + 8))) s.bytes

loaded_word : (q : CpuState) (a v : ℕ) → IsSound q → loaded q.bytes a 8 ≡ Some v → v < 2 ^ 64
loaded_word q a v s e = let lt : v < 256 ^ 8 = loaded_lt q.bytes a 8 v s.bytes e in omega (arith, lt)

sound_made : (i : Instr) (next : ℕ) (q : CpuState) → HasWords i → next < 2 ^ 64 → IsSound q → IsSound (goes_with q next (fault_of i) (made i (scene_of q))).to
sound_made i next q ok n s = sound_with q next (fault_of i) (made i (scene_of q)) s n (made-sound i (scene_of q) ok (scene_sound q s))

sound_does : (i : Instr) (next : ℕ) (q : CpuState) → HasWords i → next < 2 ^ 64 → IsSound q → IsSound (does i next q).to
sound_does (RmReg op rm reg) next q ok n s = sound_made (RmReg op rm reg) next q ok n s
sound_does (Imm op rm imm) next q ok n s = sound_made (Imm op rm imm) next q ok n s
sound_does (RegRm op reg rm) next q ok n s = sound_made (RegRm op reg rm) next q ok n s
sound_does (Load op reg base disp) next q ok n s = sound_made (Load op reg base disp) next q ok n s
sound_does (Store op base disp reg) next q ok n s = sound_made (Store op base disp reg) next q ok n s
sound_does (Lea2 reg base index) next q ok n s = sound_made (Lea2 reg base index) next q ok n s
sound_does (Movi32 reg imm) next q ok n s = sound_made (Movi32 reg imm) next q ok n s
sound_does (Movs32 rm imm) next q ok n s = sound_made (Movs32 rm imm) next q ok n s
sound_does (Movi64 reg imm) next q ok n s = sound_made (Movi64 reg imm) next q ok n s
sound_does (Unary op rm) next q ok n s = sound_made (Unary op rm) next q ok n s
sound_does (Shift op rm count) next q ok n s = sound_made (Shift op rm count) next q ok n s
sound_does (Bswap reg) next q ok n s = sound_made (Bswap reg) next q ok n s
sound_does (Stack op reg) next q ok n s = sound_made (Stack op reg) next q ok n s
sound_does (Set cond rm) next q ok n s = sound_made (Set cond rm) next q ok n s
sound_does (Bare Cqo) next q ok n s = sound_made (Bare Cqo) next q ok n s
sound_does (Bare Nop) next q ok n s = sound_made (Bare Nop) next q ok n s
sound_does (JumpIfShort cond distance) next q ok n s = sound_where q next (add_words next (word_of distance)) (condition_holds cond q.flags) s n (low_word (next + word_of distance))
sound_does (JumpIfNear cond distance) next q ok n s = sound_where q next (add_words next (word_of distance)) (condition_holds cond q.flags) s n (low_word (next + word_of distance))
sound_does (JumpShort distance) next q ok n s = sound_goes_on q (add_words next (word_of distance)) s (low_word (next + word_of distance))
sound_does (JumpNear Jmp32 distance) next q ok n s = sound_goes_on q (add_words next (word_of distance)) s (low_word (next + word_of distance))
sound_does (JumpNear Call32 distance) next q ok n s = sound_with q (add_words next (word_of distance)) Memory (pushes next (scene_of q)) s (low_word (next + word_of distance)) (push next (scene_of q) (scene_sound q s))
sound_does (JumpReg Jmpr rm) next q ok n s = sound_goes_on q (q.registers rm) s (s.words rm)
sound_does (JumpReg Callr rm) next q ok n s = sound_with q (q.registers rm) Memory (pushes next (scene_of q)) s (s.words rm) (push next (scene_of q) (scene_sound q s))
sound_does (Bare Ret) next q ok n s = sound_return q (loaded q.bytes (q.registers 4) 8) s (λ v e. loaded_word q (q.registers 4) v s e)

-- ---- fetching
sound_decoded : (o : Option (Instr × ℕ)) (q : CpuState) → IfSome o (λ found. HasWords found.0) → IsSound q → IsSound (decoded o q).to
sound_decoded None q ok s = s
sound_decoded (Some (i, len)) q ok s = sound_does i (add_words q.pc len) q ok (low_word (q.pc + len)) s

sound_fetch : (code : List ℕ) (q : CpuState) → AreBytes code → IsSound q → IsSound (fetch code q).to
sound_fetch code q bytes s =
    let front = drop (q.pc - code_base) code in
    sound_choice (in_code code q.pc) (decoded (front_of front) q) (faults q Fetch) (sound_decoded (front_of front) q (front-fits front (drop_bytes code (q.pc - code_base) bytes)) s) s

-- ---- host functions
sound_enter : (name : HostName) (trash : ℕ) (q : CpuState) (o : Option ℕ) → trash < 2 ^ 64 → IsSound q → ((v : ℕ) → o ≡ Some v → v < 2 ^ 64) → IsSound (enter_with name trash q o).to
sound_enter name trash q None t s h = s
sound_enter name trash q (Some link) t s h =
    sound_host_step target.X86_64 name (add_words (q.registers 4) 8) q link (popped q.registers trash) no_flags (h link refl)
    (λ v small. put_words (after_call target.X86_64 16 q.registers trash v) 4 (add_words (q.registers 4) 8) (after_words target.X86_64 16 q.registers trash v s.words t small) (low_word (q.registers 4 + 8))) s

sound_host : (name : HostName) (trash : ℕ) (q : CpuState) → trash < 2 ^ 64 → IsSound q → IsSound (enter_host name trash q).to
sound_host name trash q t s =
    sound_choice (q.registers 4 % 16 == 8) _ (faults q Host)
    (sound_choice (takes_al name (q.registers 0)) (enter_with name trash q (loaded q.bytes (q.registers 4) 8)) (faults q Host) (sound_enter name trash q (loaded q.bytes (q.registers 4) 8) t s (λ v e. loaded_word q (q.registers 4) v s e)) s)
    s

sound_at : (o : Option HostName) (code : List ℕ) (trash : ℕ) (q : CpuState) → AreBytes code → trash < 2 ^ 64 → IsSound q → IsSound (effect_at o code trash q).to
sound_at None code trash q bytes t s = sound_fetch code q bytes s
sound_at (Some name) code trash q bytes t s = sound_host name trash q t s

pub x86-stays-sound : (code : List ℕ) (trash : ℕ) (q : CpuState) → AreBytes code → trash < 2 ^ 64 → IsSound q → IsSound (effect code trash q).to
x86-stays-sound code trash q bytes t s = sound_at (host_by_address q.pc) code trash q bytes t s
