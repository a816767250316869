-- Nodes of one word, by instructions that only compute.
use Rattle.std.proofs.Common.{◌≡◌, ℕ, ◌/◌, ◌^◌, ◌<◌, Bool, true, false, List, [], ◌∷◌, ◌++◌, refl, sym, ap, ◌∙◌, arith, append-nil}
use Rattle.std.specs.Prelude.{◌==◌, ◌&&◌, if◌then◌else◌}
use Rattle.std.proofs.Math.Nat.{mod-lt}
use Rattle.lg_base.specs.Flags.{carry_of}
use Rattle.lg_base.specs.Words.{negated, complement, shifted_right}
use Rattle.lg_base.specs.Wide.{swapped, byte_of}
use Rattle.lg_base.specs.declared.target.Target.TheVariants.{X86_64}
use Rattle.lg_op.specs.declared.op.UnaryOp.{UnaryOp}
use Rattle.lg_op.specs.declared.op.UnaryOp.TheVariants as unary
use Rattle.lg_op.specs.declared.op.ValueType.{ValueType}
use Rattle.lg_op.specs.declared.op.ValueType.TheVariants as value_type
use Rattle.lg_op.specs.declared.operand.Reg.{Reg}
use Rattle.lg_op.specs.declared.carry.Carry.{Carry}
use Rattle.lg_op.specs.declared.carry.Carry.TheVariants as carry
use Rattle.lg_op.specs.Operators.{unary_value, keeps_carry, extended_by_type}
use Rattle.lg_x86.specs.declared.instruction.Instr.{Instr}
use Rattle.lg_x86.specs.declared.instruction.Instr.TheVariants.{RmReg, Unary, Shift, Bswap}
use Rattle.lg_x86.specs.declared.instruction.RmRegOp.TheVariants.{Mov}
use Rattle.lg_x86.specs.declared.instruction.ShiftOp.TheVariants.{Shri}
use Rattle.lg_x86.specs.declared.instruction.UnaryOp.TheVariants.{Neg, Not}
use Rattle.lg_cpu.specs.HostSteps.{put}
use Rattle.lg_temp.specs.Abis.{register_of}
use Rattle.lg_temp.specs.declared.choice.Choice.{Choice}
use Rattle.lg_carry.specs.Registers.{HoldsCarry}
use Rattle.lg_carry.specs.Values.Computers.{Held, all_compute, computed}
use Rattle.lg_carry.specs.Values.Values.{ComputesInto, KeepsCarry}
use Rattle.lg_carry.proofs.OfValues.ComputationLemmas.{computing-computes}
use Rattle.lg_carry.proofs.OfValues.OneWordLemmas.{unary-nodes-compute, movi-nodes-compute, va-start-nodes-compute, retval-nodes-compute}
use Rattle.lg_selx_values.specs.Processor.Numbers.{number_row}
use Rattle.lg_selx_values.specs.Processor.X86Computers.{x86_scratch, computes, bare, held_of, held_by, x86_computer}
use Rattle.lg_selx_values.proofs.OfProcessor.ComputerLemmas.{is-computer}
use Rattle.lg_selx_values.proofs.OfProcessor.NumberCodeLemmas.{row-loads}
use Rattle.lg_selx_values.specs.RegisterNodes.{UnariesCarry, MovisCarry, VaStartsCarry, RetvalsCarry}
use Rattle.lg_selx_values.specs.Scratch.{moved}
use Rattle.lg_selx_values.specs.UnaryCode.{unary_code, retval_code}
use Rattle.lg_carry.specs.Values.ValueNodes.{unary_node, movi_node, va_start_node, retval_node}
use Rattle.lg_selx_values.proofs.RegisterLemmas.{put-same, put-other, put-twice, put-own, equal, register-portable}
use Rattle.lg_selx_values.proofs.RegisterNodeLemmas.{straight-carries}
use Rattle.lg_temp.specs.Chosen.{is_named}

abbrev by-all : List Instr → Held → Held
by-all is w = computed held_by is w

abbrev with : (ℕ → ℕ) → Held → Held
with registers w = record { registers = registers; flags = w.flags }

moved-computed : (d a : ℕ) (is : List Instr) (w : Held) → by-all (moved d a ++ is) w ≡ by-all is (with (put w.registers d (w.registers a)) w)
moved-computed d a is w = by (d == a) refl
  where
    by : (b : Bool) → (d == a) ≡ b → by-all ((if b then [] else RmReg Mov d a ∷ []) ++ is) w ≡ by-all is (with (put w.registers d (w.registers a)) w)
    by true e = ap (λ g. by-all is (with g w)) (sym (put-own w.registers d (w.registers a) (ap w.registers (sym (equal d a e)))))
    by false e = refl

-- a word that is made of the one that the register was given
put-again : (w : ℕ → ℕ) (d x : ℕ) (f : ℕ → ℕ) → put (put w d x) d (f (put w d x d)) ≡ put w d (f x)
put-again w d x f = ap (λ z. put (put w d x) d (f z)) (put-same w d x) ∙ put-twice w d x (f x)

byte-low : (v k : ℕ) → byte_of v k < 256
byte-low v k = mod-lt (v / 256 ^ k) (omega arith)

swapped-16 : (v : ℕ) → shifted_right (swapped v 8) 48 ≡ swapped v 2
swapped-16 v = omega (arith, byte-low v 0, byte-low v 1, byte-low v 2, byte-low v 3, byte-low v 4, byte-low v 5, byte-low v 6, byte-low v 7)

swapped-32 : (v : ℕ) → shifted_right (swapped v 8) 32 ≡ swapped v 4
swapped-32 v = omega (arith, byte-low v 0, byte-low v 1, byte-low v 2, byte-low v 3, byte-low v 4, byte-low v 5, byte-low v 6, byte-low v 7)

-- bytes turned and shifted
turned-computed : (d a n : ℕ) (w : Held) → (by-all (moved d a ++ (Bswap d ∷ Shift Shri d n ∷ [])) w).registers ≡ put w.registers d (shifted_right (swapped (w.registers a) 8) n)
turned-computed d a n w =
    let u : ℕ → ℕ = put w.registers d (w.registers a) in
    ap (λ z. z.registers) (moved-computed d a (Bswap d ∷ Shift Shri d n ∷ []) w)
    ∙ put-again u d (swapped (u d) 8) (λ v. shifted_right v n) ∙ put-again w.registers d (w.registers a) (λ v. shifted_right (swapped v 8) n)

pub unary-computed : (o : UnaryOp) (d a : ℕ) (w : Held) → (by-all (unary_code o d a) w).registers ≡ put w.registers d (unary_value o (w.registers a))
unary-computed unary.Neg d a w = ap (λ z. z.registers) (moved-computed d a (Unary Neg d ∷ []) w) ∙ put-again w.registers d (w.registers a) negated
unary-computed unary.Com d a w = ap (λ z. z.registers) (moved-computed d a (Unary Not d ∷ []) w) ∙ put-again w.registers d (w.registers a) complement
unary-computed unary.HtonrUs d a w = turned-computed d a 48 w ∙ ap (put w.registers d) (swapped-16 (w.registers a))
unary-computed unary.HtonrUi d a w = turned-computed d a 32 w ∙ ap (put w.registers d) (swapped-32 (w.registers a))
unary-computed unary.HtonrUl d a w = ap (λ z. z.registers) (moved-computed d a (Bswap d ∷ []) w) ∙ put-again w.registers d (w.registers a) (λ v. swapped v 8)
unary-computed o d a w = refl

-- code that computes
abbrev Works : List Instr → Type 0
Works is = all_compute computes is ≡ true

works-moved : (d a : ℕ) (is : List Instr) → Works is → Works (moved d a ++ is)
works-moved d a is h = by (d == a)
  where
    by : (b : Bool) → Works ((if b then [] else RmReg Mov d a ∷ []) ++ is)
    by true = h
    by false = h

unary-works : (o : UnaryOp) (d a : ℕ) → Works (unary_code o d a)
unary-works unary.Neg d a = works-moved d a (Unary Neg d ∷ []) refl
unary-works unary.Com d a = works-moved d a (Unary Not d ∷ []) refl
unary-works unary.HtonrUs d a = works-moved d a (Bswap d ∷ Shift Shri d 48 ∷ []) refl
unary-works unary.HtonrUi d a = works-moved d a (Bswap d ∷ Shift Shri d 32 ∷ []) refl
unary-works unary.HtonrUl d a = works-moved d a (Bswap d ∷ []) refl
unary-works unary.Mov d a = refl
unary-works o d a = refl

-- code that puts a word into one register computes into it
into : (code : List ℕ) (trash : ℕ) (d : Reg) (choices : List Choice) (body : List Instr) (word : Held → ℕ) → Works body → ((w : Held) → (by-all body w).registers ≡ put w.registers (register_of X86_64 d) (word w))
    → ComputesInto (x86_computer code trash) x86_scratch (d ∷ []) choices body
into code trash d choices body word h puts = record {
  computes = h;
  keeps = λ w x apart taken off carry. ap (λ g. g x) (puts w) ∙ put-other w.registers (register_of X86_64 d) (word w) x apart.0;
}

-- code that leaves the flags keeps the carry
carry-again : (k : Carry) (w u : Held) → u.flags ≡ w.flags → HoldsCarry X86_64 w.registers (carry_of w.flags) k → HoldsCarry X86_64 u.registers (carry_of u.flags) k
carry-again carry.Undefined w u e h = tt
carry-again (carry.Sum b) w u e h = ap carry_of e ∙ h
carry-again (carry.Difference b) w u e h = ap carry_of e ∙ h

carry-kept : (code : List ℕ) (trash : ℕ) (body : List Instr) → ((w : Held) → (by-all body w).flags ≡ w.flags) → KeepsCarry (x86_computer code trash) body
carry-kept code trash body h w k e = carry-again k w (by-all body w) (h w) e

no-need : (r : ℕ) → is_named [] r ≡ true → r < 3
no-need r e = cc

move-flags : (o : UnaryOp) (d a : ℕ) → keeps_carry o ≡ true → (w : Held) → (by-all (unary_code o d a) w).flags ≡ w.flags
move-flags unary.Mov d a e w = refl
move-flags o d a e w = cc

pub unaries-carry : UnariesCarry
unaries-carry code trash c i frame o d a line live choices named k =
    let rd = register_of X86_64 d in
    let ra = register_of X86_64 a in
    let body = unary_code o rd ra in
    let n = unary_node o d a line in
    straight-carries code trash c i frame n live choices body refl refl no-need (omega arith) k
    (computing-computes (x86_computer code trash) (is-computer code trash) x86_scratch c i n frame choices body
    (unary-nodes-compute (x86_computer code trash) x86_scratch c i o d a line choices body named k.in_text
    (into code trash d choices body (λ w. unary_value o (w.registers ra)) (unary-works o rd ra) (unary-computed o rd ra))
    (λ e. carry-kept code trash body (move-flags o rd ra e))
    (λ s w m h e. ap (λ g. g rd) (unary-computed o rd ra w) ∙ put-same w.registers rd (unary_value o (w.registers ra)) ∙ ap (unary_value o) e)))

pub movis-carry : MovisCarry
movis-carry code trash c i frame d x v line live choices named small given k =
    let rd = register_of X86_64 d in
    let body = number_row rd v ∷ [] in
    let n = movi_node d x line in
    let l = row-loads rd v (register-portable d).small small in
    let is : (w : Held) → by-all body w ≡ with (put w.registers rd v) w = λ w. ap (held_of w) (l.value (bare w)) in
    straight-carries code trash c i frame n live choices body refl refl no-need (omega arith) k
    (computing-computes (x86_computer code trash) (is-computer code trash) x86_scratch c i n frame choices body
    (movi-nodes-compute (x86_computer code trash) x86_scratch c i d x v line choices body named given k.in_text
    (into code trash d choices body (λ w. v) (ap (λ b. b && true) l.computes_it) (λ w. ap (λ z. z.registers) (is w)))
    (carry-kept code trash body (λ w. ap (λ z. z.flags) (is w)))
    (λ w. ap (λ z. z.registers rd) (is w) ∙ put-same w.registers rd v)))

pub va-starts-carry : VaStartsCarry
va-starts-carry code trash c i frame d k line live choices named small chosen =
    let rd = register_of X86_64 d in
    let body = number_row rd k ∷ [] in
    let n = va_start_node d k line in
    let l = row-loads rd k (register-portable d).small small in
    let is : (w : Held) → by-all body w ≡ with (put w.registers rd k) w = λ w. ap (held_of w) (l.value (bare w)) in
    straight-carries code trash c i frame n live choices body refl refl no-need (omega arith) chosen
    (computing-computes (x86_computer code trash) (is-computer code trash) x86_scratch c i n frame choices body
    (va-start-nodes-compute (x86_computer code trash) x86_scratch c i d k line choices body named chosen.in_text
    (into code trash d choices body (λ w. k) (ap (λ b. b && true) l.computes_it) (λ w. ap (λ z. z.registers) (is w)))
    (λ w. ap (λ z. z.registers rd) (is w) ∙ put-same w.registers rd k)))

retval-computed : (t : ValueType) (d : ℕ) (w : Held) → (by-all (retval_code t d) w).registers ≡ put w.registers d (extended_by_type t (w.registers 0))
retval-computed value_type.Long d w = ap (λ z. (by-all z w).registers) (sym (append-nil (moved d 0))) ∙ ap (λ z. z.registers) (moved-computed d 0 [] w)
retval-computed t d w = refl

retval-works : (t : ValueType) (d : ℕ) → Works (retval_code t d)
retval-works value_type.Char d = refl
retval-works value_type.UnsignedChar d = refl
retval-works value_type.Short d = refl
retval-works value_type.UnsignedShort d = refl
retval-works value_type.Int d = refl
retval-works value_type.UnsignedInt d = refl
retval-works value_type.Long d = by (d == 0)
  where
    by : (b : Bool) → Works (if b then [] else RmReg Mov d 0 ∷ [])
    by true = refl
    by false = refl

pub retvals-carry : RetvalsCarry
retvals-carry code trash c i frame t d line live choices named k =
    let rd = register_of X86_64 d in
    let body = retval_code t rd in
    let n = retval_node t d line in
    straight-carries code trash c i frame n live choices body refl refl no-need (omega arith) k
    (computing-computes (x86_computer code trash) (is-computer code trash) x86_scratch c i n frame choices body
    (retval-nodes-compute (x86_computer code trash) x86_scratch c i t d line choices body named k.in_text
    (into code trash d choices body (λ w. extended_by_type t (w.registers 0)) (retval-works t rd) (retval-computed t rd))
    (λ w words. ap (λ g. g rd) (retval-computed t rd w) ∙ put-same w.registers rd (extended_by_type t (w.registers 0)))))
