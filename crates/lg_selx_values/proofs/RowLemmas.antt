-- What holds of the rows that the code of values is made of holds of all of it; and its instructions are few.
use Rattle.std.proofs.Common.{◌≡◌, ◌≢◌, ℕ, ◌+◌, ◌-◌, ◌≤◌, ◌<◌, Bool, true, false, List, [], ◌∷◌, ◌++◌, length, length-append, refl, arith}
use Rattle.std.specs.Prelude.{◌==◌, ◌||◌, not, ◌%◌, if◌then◌else◌, pos}
use Rattle.std.proofs.lemmas.Bool.{and_parts}
use Rattle.lg_base.specs.Words.{signed_view, is_half, negated}
use Rattle.lg_op.specs.declared.op.BinaryOp.{BinaryOp}
use Rattle.lg_op.specs.declared.op.BinaryOp.TheVariants as binary
use Rattle.lg_op.specs.declared.op.UnaryOp.TheVariants as unary
use Rattle.lg_op.specs.declared.op.UnaryOp as portable
use Rattle.lg_op.specs.declared.op.ValueType.{ValueType}
use Rattle.lg_op.specs.declared.op.ValueType.TheVariants as value_type
use Rattle.lg_op.specs.declared.op.WideOp.{WideOp}
use Rattle.lg_op.specs.declared.op.WideOp.TheVariants as wide
use Rattle.lg_op.specs.Operators.{sets_carry}
use Rattle.lg_x86.specs.declared.instruction.BareOp.TheVariants.{Cqo}
use Rattle.lg_x86.specs.declared.instruction.Cond.{Cond}
use Rattle.lg_x86.specs.declared.instruction.ImmOp.{ImmOp}
use Rattle.lg_x86.specs.declared.instruction.ImmOp.TheVariants as imm
use Rattle.lg_x86.specs.declared.instruction.Instr.{Instr}
use Rattle.lg_x86.specs.declared.instruction.Instr.TheVariants.{RmReg, Imm, RegRm, Load, Lea2, Movi32, Unary, Shift, Bswap, Set, Bare}
use Rattle.lg_x86.specs.declared.instruction.LoadOp.TheVariants.{Lea}
use Rattle.lg_x86.specs.declared.instruction.RegRmOp.{RegRmOp}
use Rattle.lg_x86.specs.declared.instruction.RegRmOp.TheVariants as ext
use Rattle.lg_x86.specs.declared.instruction.RmRegOp.{RmRegOp}
use Rattle.lg_x86.specs.declared.instruction.RmRegOp.TheVariants as alu
use Rattle.lg_x86.specs.declared.instruction.ShiftOp.{ShiftOp}
use Rattle.lg_x86.specs.declared.instruction.ShiftOp.TheVariants.{Shli, Shri, Sari}
use Rattle.lg_x86.specs.declared.instruction.UnaryOp.{UnaryOp}
use Rattle.lg_x86.specs.declared.instruction.UnaryOp.TheVariants as row
use Rattle.lg_selx_values.specs.Processor.Numbers.{number_row}
use Rattle.lg_sel.specs.Holes.{Each}
use Rattle.lg_sel.proofs.ListLemmas.{each-append}
use Rattle.lg_selx_values.specs.GoodItems.{Fine}
use Rattle.lg_selx_values.specs.BinaryCode.{ordered, commuting, added, difference, product, answer, compared, shifted, high_half, division, is_dividend, divided, cond_of, register_code, with_number, is_near, added_number, less_number, compared_number, shifted_number, divided_number, number_form_code}
use Rattle.lg_selx_values.specs.CarryCode.{taken_away, carry_register_code, carry_number_code}
use Rattle.lg_selx_values.specs.Scratch.{moved, again}
use Rattle.lg_selx_values.specs.UnaryCode.{unary_code, retval_code}
use Rattle.lg_selx_values.specs.ValueItems.{binary_code, binary_number_code}
use Rattle.lg_selx_values.specs.WideCode.{results, wide_code, wide_number_code}

-- a fact of each row over registers that there are, where S is a fact of the numbers
pub record HoldsOfRows (frame : ℕ) (P : Instr → Type 0) (S : ℕ → Type 0) : Type 0 where
  pub two : (op : RmRegOp) (rm reg : ℕ) → Fine rm → reg < 16 → P (RmReg op rm reg)
  pub half : (op : ImmOp) (rm v : ℕ) → Fine rm → S v → is_half v ≡ true → P (Imm op rm (signed_view v))
  pub near : (reg base v : ℕ) → Fine reg → base < 16 → S v → is_half v ≡ true → P (Load Lea reg base (signed_view v))
  pub sum : (reg base index : ℕ) → Fine reg → base < 16 → index < 16 → index ≢ 4 → P (Lea2 reg base index)
  pub turned : (v : ℕ) → S v → S (negated v)
  pub ext : (op : RegRmOp) (reg rm : ℕ) → Fine reg → rm < 16 → P (RegRm op reg rm)
  pub number : (r v : ℕ) → Fine r → S v → P (number_row r v)
  pub zero : P (Movi32 2 0)
  pub one : (op : UnaryOp) (rm : ℕ) → Fine rm → P (Unary op rm)
  pub shift : (op : ShiftOp) (rm count : ℕ) → Fine rm → count < 64 → P (Shift op rm count)
  pub turn : (r : ℕ) → Fine r → P (Bswap r)
  pub set : (c : Cond) (r : ℕ) → Fine r → P (Set c r)
  pub sign : P (Bare Cqo)
  pub again : P (Load Lea 5 4 (pos (frame - 16)))

-- rax, rcx, rdx and rbp
pub rax-fine : Fine 0
rax-fine = (omega arith, refl)

rcx-fine : Fine 1
rcx-fine = (omega arith, refl)

rdx-fine : Fine 2
rdx-fine = (omega arith, refl)

pub rbp-fine : Fine 5
rbp-fine = (omega arith, refl)

-- the fact holds of each instruction (at most n)
pub record Holds (P : Instr → Type 0) (n : ℕ) (is : List Instr) : Type 0 where
  pub each : Each P is
  pub few : length is ≤ n

module _ (frame : ℕ) (P : Instr → Type 0) (S : ℕ → Type 0) (h : HoldsOfRows frame P S) where
  abbrev Made : ℕ → List Instr → Type 0
  Made n is = Holds P n is

  wider : (m n : ℕ) (is : List Instr) → m ≤ n → Made m is → Made n is
  wider m n is le k = let f = k.few in record { each = k.each; few = omega (arith, le, f) }

  either : (n : ℕ) (b : Bool) (xs ys : List Instr) → Made n xs → Made n ys → Made n (if b then xs else ys)
  either n true xs ys j k = j
  either n false xs ys j k = k

  -- where a number has 32 bits, and where not
  halved : (n v : ℕ) (xs ys : List Instr) → (is_half v ≡ true → Made n xs) → Made n ys → Made n (if is_half v then xs else ys)
  halved n v xs ys j k = by (is_half v) refl
    where
      by : (b : Bool) → is_half v ≡ b → Made n (if b then xs else ys)
      by true e = j e
      by false e = k

  move : (d a : ℕ) → Fine d → a < 16 → Made 1 (moved d a)
  move d a fd fa = either 1 (d == a) [] (RmReg alu.Mov d a ∷ []) record { each = tt; few = omega arith } record { each = (h.two alu.Mov d a fd fa, tt); few = omega arith }

  behind : (n d a : ℕ) (is : List Instr) → Fine d → a < 16 → Made n is → Made (1 + n) (moved d a ++ is)
  behind n d a is fd fa k =
      let m = move d a fd fa in
      let l = length-append (moved d a) is in
      let mf = m.few in
      let kf = k.few in
      record { each = each-append P (moved d a) is m.each k.each; few = omega (arith, l, mf, kf) }

  together : (m n : ℕ) (is js : List Instr) → Made m is → Made n js → Made (m + n) (is ++ js)
  together m n is js j k =
      let l = length-append is js in
      let jf = j.few in
      let kf = k.few in
      record { each = each-append P is js j.each k.each; few = omega (arith, l, jf, kf) }

  -- the halves of a dividend, and what divides
  high-made : (signed : Bool) → P (high_half signed)
  high-made true = h.sign
  high-made false = h.zero

  division-made : (signed : Bool) (b : ℕ) → Fine b → P (division signed b)
  division-made true b fb = h.one row.Idiv b fb
  division-made false b fb = h.one row.Div b fb

  first : (n : ℕ) (i : Instr) (is : List Instr) → P i → Made n is → Made (1 + n) (i ∷ is)
  first n i is p k = let f = k.few in record { each = (p, k.each); few = omega (arith, f) }

  -- ---- two registers
  module _ (d a b : ℕ) (fd : Fine d) (fa : Fine a) (fb : Fine b) where
    ordered-made : (op : RmRegOp) → Made 2 (ordered op d a b)
    ordered-made op = behind 1 d a (RmReg op d b ∷ []) fd fa.0 record { each = (h.two op d b fd fb.0, tt); few = omega arith }

    commuting-made : (op : RmRegOp) → Made 2 (commuting op d a b)
    commuting-made op = either 2 (d == b) (RmReg op d a ∷ []) (ordered op d a b) record { each = (h.two op d a fd fa.0, tt); few = omega arith } (ordered-made op)

    added-made : b ≢ 4 → Made 2 (added d a b)
    added-made b4 = either 2 ((d == a) || (d == b)) (commuting alu.Add d a b) (Lea2 d a b ∷ []) (commuting-made alu.Add) record { each = (h.sum d a b fd fa.0 fb.0 b4, tt); few = omega arith }

    difference-made : Made 2 (difference d a b)
    difference-made = either 2 (d == b) (RmReg alu.Sub d a ∷ Unary row.Neg d ∷ []) (ordered alu.Sub d a b) record { each = (h.two alu.Sub d a fd fa.0, (h.one row.Neg d fd, tt)); few = omega arith } (ordered-made alu.Sub)

    product-made : Made 2 (product d a b)
    product-made =
        either 2 (d == b) (RegRm ext.Imul d a ∷ []) (moved d a ++ RegRm ext.Imul d b ∷ []) record { each = (h.ext ext.Imul d a fd fa.0, tt); few = omega arith }
        (behind 1 d a (RegRm ext.Imul d b ∷ []) fd fa.0 record { each = (h.ext ext.Imul d b fd fb.0, tt); few = omega arith })

    answer-made : (c : Cond) → Made 2 (answer c d)
    answer-made c = record { each = (h.set c d fd, (h.ext ext.Ext8u d d fd fd.0, tt)); few = omega arith }

    compared-made : (c : Cond) → Made 3 (compared c d a b)
    compared-made c = first 2 (RmReg alu.Cmp a b) (answer c d) (h.two alu.Cmp a b fa fb.0) (answer-made c)

    shifted-made : (op : UnaryOp) → Made 3 (shifted op d a b)
    shifted-made op =
        first 2 (RmReg alu.Mov 1 b) (moved d a ++ Unary op d ∷ []) (h.two alu.Mov 1 b rcx-fine fb.0) (behind 1 d a (Unary op d ∷ []) fd fa.0 record { each = (h.one op d fd, tt); few = omega arith })

    divided-made : (signed : Bool) (r : ℕ) → r < 16 → Made 7 (divided signed frame r d a b)
    divided-made signed r fr =
        either 7 (is_dividend b) (RmReg alu.Mov 2 b ∷ RmReg alu.Mov 0 a ∷ RmReg alu.Mov 5 2 ∷ high_half signed ∷ division signed 5 ∷ RmReg alu.Mov d r ∷ again frame)
        ((moved 0 a ++ (high_half signed ∷ division signed b ∷ [])) ++ moved d r)
        record {
          each = (h.two alu.Mov 2 b rdx-fine fb.0, (h.two alu.Mov 0 a rax-fine fa.0, (h.two alu.Mov 5 2 rbp-fine (omega arith), (high-made signed, (division-made signed 5 rbp-fine, (h.two alu.Mov d r fd fr, (h.again, tt)))))));
          few = omega arith;
        }
        (wider 4 7 ((moved 0 a ++ (high_half signed ∷ division signed b ∷ [])) ++ moved d r) (omega arith)
        (together 3 1 (moved 0 a ++ (high_half signed ∷ division signed b ∷ [])) (moved d r)
        (behind 2 0 a (high_half signed ∷ division signed b ∷ []) rax-fine fa.0 record { each = (high-made signed, (division-made signed b fb, tt)); few = omega arith })
        (move d r fd fr)))

    taken-made : (op : RmRegOp) → Made 4 (taken_away op frame d a b)
    taken-made op =
        either 4 (d == b) (RmReg alu.Mov 5 a ∷ RmReg op 5 b ∷ RmReg alu.Mov d 5 ∷ again frame) (ordered op d a b)
        record { each = (h.two alu.Mov 5 a rbp-fine fa.0, (h.two op 5 b rbp-fine fb.0, (h.two alu.Mov d 5 fd (omega arith), (h.again, tt)))); few = omega arith }
        (wider 2 4 (ordered op d a b) (omega arith) (ordered-made op))

    carried-made : (o : BinaryOp) → Made 7 (carry_register_code o frame d a b)
    carried-made binary.Addc = wider 2 7 (commuting alu.Add d a b) (omega arith) (commuting-made alu.Add)
    carried-made binary.Addx = wider 2 7 (commuting alu.Adc d a b) (omega arith) (commuting-made alu.Adc)
    carried-made binary.Subc = wider 4 7 (taken_away alu.Sub frame d a b) (omega arith) (taken-made alu.Sub)
    carried-made binary.Subx = wider 4 7 (taken_away alu.Sbb frame d a b) (omega arith) (taken-made alu.Sbb)
    carried-made o = record { each = tt; few = omega arith }

  register-made : (o : BinaryOp) (d a b : ℕ) → Fine d → Fine a → Fine b → b ≢ 4 → Made 7 (register_code o frame d a b)
  register-made binary.Add d a b fd fa fb b4 = wider 2 7 (added d a b) (omega arith) (added-made d a b fd fa fb b4)
  register-made binary.Sub d a b fd fa fb b4 = wider 2 7 (difference d a b) (omega arith) (difference-made d a b fd fa fb)
  register-made binary.Rsb d a b fd fa fb b4 = wider 2 7 (difference d b a) (omega arith) (difference-made d b a fd fb fa)
  register-made binary.Mul d a b fd fa fb b4 = wider 2 7 (product d a b) (omega arith) (product-made d a b fd fa fb)
  register-made binary.And d a b fd fa fb b4 = wider 2 7 (commuting alu.And d a b) (omega arith) (commuting-made d a b fd fa fb alu.And)
  register-made binary.Or d a b fd fa fb b4 = wider 2 7 (commuting alu.Or d a b) (omega arith) (commuting-made d a b fd fa fb alu.Or)
  register-made binary.Xor d a b fd fa fb b4 = wider 2 7 (commuting alu.Xor d a b) (omega arith) (commuting-made d a b fd fa fb alu.Xor)
  register-made binary.Lsh d a b fd fa fb b4 = wider 3 7 (shifted row.Shl d a b) (omega arith) (shifted-made d a b fd fa fb row.Shl)
  register-made binary.Rsh d a b fd fa fb b4 = wider 3 7 (shifted row.Sar d a b) (omega arith) (shifted-made d a b fd fa fb row.Sar)
  register-made binary.RshU d a b fd fa fb b4 = wider 3 7 (shifted row.Shr d a b) (omega arith) (shifted-made d a b fd fa fb row.Shr)
  register-made binary.Div d a b fd fa fb b4 = divided-made d a b fd fa fb true 0 (omega arith)
  register-made binary.DivU d a b fd fa fb b4 = divided-made d a b fd fa fb false 0 (omega arith)
  register-made binary.Rem d a b fd fa fb b4 = divided-made d a b fd fa fb true 2 (omega arith)
  register-made binary.RemU d a b fd fa fb b4 = divided-made d a b fd fa fb false 2 (omega arith)
  register-made o d a b fd fa fb b4 = wider 3 7 (compared (cond_of o) d a b) (omega arith) (compared-made d a b fd fa fb (cond_of o))

  pub binary-made : (o : BinaryOp) (d a b : ℕ) → Fine d → Fine a → Fine b → b ≢ 4 → Made 7 (binary_code o frame d a b)
  binary-made o d a b fd fa fb b4 = either 7 (sets_carry o) (carry_register_code o frame d a b) (register_code o frame d a b) (carried-made d a b fd fa fb o) (register-made o d a b fd fa fb b4)

  -- ---- a register and a number
  module _ (d a v : ℕ) (fd : Fine d) (fa : Fine a) (small : S v) where
    number-made : (op : ImmOp) (by : RmRegOp) → Made 4 (with_number op by frame d a v)
    number-made op by =
        halved 4 v (moved d a ++ Imm op d (signed_view v) ∷ []) (moved d a ++ (number_row 5 v ∷ (RmReg by d 5 ∷ again frame)))
        (λ e. wider 2 4 _ (omega arith) (behind 1 d a (Imm op d (signed_view v) ∷ []) fd fa.0 record { each = (h.half op d v fd small e, tt); few = omega arith }))
        (behind 3 d a (number_row 5 v ∷ (RmReg by d 5 ∷ again frame)) fd fa.0 record { each = (h.number 5 v rbp-fine small, (h.two by d 5 fd (omega arith), (h.again, tt))); few = omega arith })

    -- `lea`, or else other code
    near-made : (n : ℕ) → S n → (rest : List Instr) → Made 4 rest → Made 4 (if is_near d a n then Load Lea d a (signed_view n) ∷ [] else rest)
    near-made n s rest k = by (is_near d a n) refl
      where
        by : (b : Bool) → is_near d a n ≡ b → Made 4 (if b then Load Lea d a (signed_view n) ∷ [] else rest)
        by true e = record { each = (h.near d a n fd fa.0 s (and_parts (not (d == a)) (is_half n) e).1, tt); few = omega arith }
        by false e = k

    compared-number-made : (c : Cond) → Made 6 (compared_number c frame d a v)
    compared-number-made c =
        halved 6 v (Imm imm.Cmpi a (signed_view v) ∷ answer c d) (moved d a ++ (number_row 5 v ∷ (RmReg alu.Cmp d 5 ∷ Set c d ∷ RegRm ext.Ext8u d d ∷ again frame)))
        (λ e. record { each = (h.half imm.Cmpi a v fa small e, (h.set c d fd, (h.ext ext.Ext8u d d fd fd.0, tt))); few = omega arith })
        (behind 5 d a (number_row 5 v ∷ (RmReg alu.Cmp d 5 ∷ Set c d ∷ RegRm ext.Ext8u d d ∷ again frame)) fd fa.0
        record { each = (h.number 5 v rbp-fine small, (h.two alu.Cmp d 5 fd (omega arith), (h.set c d fd, (h.ext ext.Ext8u d d fd fd.0, (h.again, tt))))); few = omega arith })

    shifted-number-made : (op : ShiftOp) → Made 6 (shifted_number op d a v)
    shifted-number-made op = wider 2 6 (shifted_number op d a v) (omega arith) (behind 1 d a (Shift op d (v % 64) ∷ []) fd fa.0 record { each = (h.shift op d (v % 64) fd (omega arith), tt); few = omega arith })

    divided-number-made : (signed : Bool) (r : ℕ) → r < 16 → Made 6 (divided_number signed frame r d a v)
    divided-number-made signed r fr =
        either 6 (is_dividend d) (moved 0 a ++ (number_row 5 v ∷ high_half signed ∷ division signed 5 ∷ RmReg alu.Mov d r ∷ again frame))
        (moved 0 a ++ (number_row d v ∷ high_half signed ∷ division signed d ∷ RmReg alu.Mov d r ∷ []))
        (behind 5 0 a (number_row 5 v ∷ high_half signed ∷ division signed 5 ∷ RmReg alu.Mov d r ∷ again frame) rax-fine fa.0
        record { each = (h.number 5 v rbp-fine small, (high-made signed, (division-made signed 5 rbp-fine, (h.two alu.Mov d r fd fr, (h.again, tt))))); few = omega arith })
        (wider 5 6 (moved 0 a ++ (number_row d v ∷ high_half signed ∷ division signed d ∷ RmReg alu.Mov d r ∷ [])) (omega arith)
        (behind 4 0 a (number_row d v ∷ high_half signed ∷ division signed d ∷ RmReg alu.Mov d r ∷ []) rax-fine fa.0
        record { each = (h.number d v fd small, (high-made signed, (division-made signed d fd, (h.two alu.Mov d r fd fr, tt)))); few = omega arith }))

    product-number-made : Made 6 (number_form_code binary.Mul frame d a v)
    product-number-made =
        either 6 (d == a) (number_row 5 v ∷ RegRm ext.Imul d 5 ∷ again frame) (number_row d v ∷ RegRm ext.Imul d a ∷ [])
        record { each = (h.number 5 v rbp-fine small, (h.ext ext.Imul d 5 fd (omega arith), (h.again, tt))); few = omega arith }
        record { each = (h.number d v fd small, (h.ext ext.Imul d a fd fa.0, tt)); few = omega arith }

    carried-number-made : (o : BinaryOp) → Made 6 (carry_number_code o frame d a v)
    carried-number-made binary.Addc = wider 4 6 (with_number imm.Addi alu.Add frame d a v) (omega arith) (number-made imm.Addi alu.Add)
    carried-number-made binary.Addx = wider 4 6 (with_number imm.Adci alu.Adc frame d a v) (omega arith) (number-made imm.Adci alu.Adc)
    carried-number-made binary.Subc = wider 4 6 (with_number imm.Subi alu.Sub frame d a v) (omega arith) (number-made imm.Subi alu.Sub)
    carried-number-made binary.Subx = wider 4 6 (with_number imm.Sbbi alu.Sbb frame d a v) (omega arith) (number-made imm.Sbbi alu.Sbb)
    carried-number-made o = record { each = tt; few = omega arith }

  module _ (d a v : ℕ) (fd : Fine d) (fa : Fine a) (small : S v) where
    plain : (op : ImmOp) (by : RmRegOp) → Made 6 (with_number op by frame d a v)
    plain op by = wider 4 6 (with_number op by frame d a v) (omega arith) (number-made d a v fd fa small op by)

    form-made : (o : BinaryOp) → Made 6 (number_form_code o frame d a v)
    form-made binary.Add = wider 4 6 (added_number frame d a v) (omega arith) (near-made d a v fd fa small v small (with_number imm.Addi alu.Add frame d a v) (number-made d a v fd fa small imm.Addi alu.Add))
    form-made binary.Sub =
        wider 4 6 (less_number frame d a v) (omega arith)
        (near-made d a v fd fa small (negated v) (h.turned v small) (with_number imm.Subi alu.Sub frame d a v) (number-made d a v fd fa small imm.Subi alu.Sub))
    form-made binary.And = plain imm.Andi alu.And
    form-made binary.Or = plain imm.Ori alu.Or
    form-made binary.Xor = plain imm.Xori alu.Xor
    form-made binary.Rsb =
        behind 5 d a (Unary row.Neg d ∷ with_number imm.Addi alu.Add frame d d v) fd fa.0
        (first 4 (Unary row.Neg d) (with_number imm.Addi alu.Add frame d d v) (h.one row.Neg d fd) (number-made d d v fd fd small imm.Addi alu.Add))
    form-made binary.Mul = product-number-made d a v fd fa small
    form-made binary.Lsh = shifted-number-made d a v fd fa small Shli
    form-made binary.Rsh = shifted-number-made d a v fd fa small Sari
    form-made binary.RshU = shifted-number-made d a v fd fa small Shri
    form-made binary.Div = divided-number-made d a v fd fa small true 0 (omega arith)
    form-made binary.DivU = divided-number-made d a v fd fa small false 0 (omega arith)
    form-made binary.Rem = divided-number-made d a v fd fa small true 2 (omega arith)
    form-made binary.RemU = divided-number-made d a v fd fa small false 2 (omega arith)
    form-made o = compared-number-made d a v fd fa small (cond_of o)

    pub binary-number-made : (o : BinaryOp) → Made 6 (binary_number_code o frame d a v)
    binary-number-made o = either 6 (sets_carry o) (carry_number_code o frame d a v) (number_form_code o frame d a v) (carried-number-made d a v fd fa small o) (form-made o)

  -- ---- one register
  pub unary-made : (o : portable.UnaryOp) (d a : ℕ) → Fine d → a < 16 → Made 3 (unary_code o d a)
  unary-made unary.Neg d a fd fa = wider 2 3 _ (omega arith) (behind 1 d a (Unary row.Neg d ∷ []) fd fa record { each = (h.one row.Neg d fd, tt); few = omega arith })
  unary-made unary.Com d a fd fa = wider 2 3 _ (omega arith) (behind 1 d a (Unary row.Not d ∷ []) fd fa record { each = (h.one row.Not d fd, tt); few = omega arith })
  unary-made unary.HtonrUs d a fd fa = behind 2 d a (Bswap d ∷ Shift Shri d 48 ∷ []) fd fa record { each = (h.turn d fd, (h.shift Shri d 48 fd (omega arith), tt)); few = omega arith }
  unary-made unary.HtonrUi d a fd fa = behind 2 d a (Bswap d ∷ Shift Shri d 32 ∷ []) fd fa record { each = (h.turn d fd, (h.shift Shri d 32 fd (omega arith), tt)); few = omega arith }
  unary-made unary.HtonrUl d a fd fa = wider 2 3 _ (omega arith) (behind 1 d a (Bswap d ∷ []) fd fa record { each = (h.turn d fd, tt); few = omega arith })
  unary-made unary.Mov d a fd fa = record { each = (h.two alu.Mov d a fd fa, tt); few = omega arith }
  unary-made unary.ExtrC d a fd fa = record { each = (h.ext ext.Ext8s d a fd fa, tt); few = omega arith }
  unary-made unary.ExtrUc d a fd fa = record { each = (h.ext ext.Ext8u d a fd fa, tt); few = omega arith }
  unary-made unary.ExtrS d a fd fa = record { each = (h.ext ext.Ext16s d a fd fa, tt); few = omega arith }
  unary-made unary.ExtrUs d a fd fa = record { each = (h.ext ext.Ext16u d a fd fa, tt); few = omega arith }
  unary-made unary.ExtrI d a fd fa = record { each = (h.ext ext.Ext32s d a fd fa, tt); few = omega arith }
  unary-made unary.ExtrUi d a fd fa = record { each = (h.ext ext.Ext32u d a fd fa, tt); few = omega arith }

  pub retval-made : (t : ValueType) (d : ℕ) → Fine d → Made 3 (retval_code t d)
  retval-made value_type.Char d fd = record { each = (h.ext ext.Ext8s d 0 fd (omega arith), tt); few = omega arith }
  retval-made value_type.UnsignedChar d fd = record { each = (h.ext ext.Ext8u d 0 fd (omega arith), tt); few = omega arith }
  retval-made value_type.Short d fd = record { each = (h.ext ext.Ext16s d 0 fd (omega arith), tt); few = omega arith }
  retval-made value_type.UnsignedShort d fd = record { each = (h.ext ext.Ext16u d 0 fd (omega arith), tt); few = omega arith }
  retval-made value_type.Int d fd = record { each = (h.ext ext.Ext32s d 0 fd (omega arith), tt); few = omega arith }
  retval-made value_type.UnsignedInt d fd = record { each = (h.ext ext.Ext32u d 0 fd (omega arith), tt); few = omega arith }
  retval-made value_type.Long d fd = wider 1 3 (moved d 0) (omega arith) (move d 0 fd (omega arith))

  -- ---- two results
  results-each : (d e : ℕ) → Fine d → Fine e → Each P (results d e)
  results-each d e fd fe = (h.two alu.Mov d 0 fd (omega arith), (h.two alu.Mov e 2 fe (omega arith), tt))

  ends-each : (d e : ℕ) → Fine d → Fine e → Each P (results d e ++ again frame)
  ends-each d e fd fe = (h.two alu.Mov d 0 fd (omega arith), (h.two alu.Mov e 2 fe (omega arith), (h.again, tt)))

  pub wide-made : (o : WideOp) (d e a b : ℕ) → Fine d → Fine e → a < 16 → b < 16 → Made 8 (wide_code o frame d e a b)
  wide-made wide.Mul d e a b fd fe fa fb = record { each = (h.two alu.Mov 2 b rdx-fine fb, (h.two alu.Mov 0 a rax-fine fa, (h.one row.Imul1 2 rdx-fine, results-each d e fd fe))); few = omega arith }
  wide-made wide.MulU d e a b fd fe fa fb = record { each = (h.two alu.Mov 2 b rdx-fine fb, (h.two alu.Mov 0 a rax-fine fa, (h.one row.Mul 2 rdx-fine, results-each d e fd fe))); few = omega arith }
  wide-made wide.Div d e a b fd fe fa fb = record {
    each = (h.two alu.Mov 2 b rdx-fine fb, (h.two alu.Mov 0 a rax-fine fa, (h.two alu.Mov 5 2 rbp-fine (omega arith), (h.sign, (h.one row.Idiv 5 rbp-fine, ends-each d e fd fe)))));
    few = omega arith;
  }
  wide-made wide.DivU d e a b fd fe fa fb = record {
    each = (h.two alu.Mov 2 b rdx-fine fb, (h.two alu.Mov 0 a rax-fine fa, (h.two alu.Mov 5 2 rbp-fine (omega arith), (h.zero, (h.one row.Div 5 rbp-fine, ends-each d e fd fe)))));
    few = omega arith;
  }

  pub wide-number-made : (o : WideOp) (d e a v : ℕ) → Fine d → Fine e → a < 16 → S v → Made 8 (wide_number_code o frame d e a v)
  wide-number-made wide.Mul d e a v fd fe fa small = record { each = (h.two alu.Mov 0 a rax-fine fa, (h.number 2 v rdx-fine small, (h.one row.Imul1 2 rdx-fine, results-each d e fd fe))); few = omega arith }
  wide-number-made wide.MulU d e a v fd fe fa small = record { each = (h.two alu.Mov 0 a rax-fine fa, (h.number 2 v rdx-fine small, (h.one row.Mul 2 rdx-fine, results-each d e fd fe))); few = omega arith }
  wide-number-made wide.Div d e a v fd fe fa small = record {
    each = (h.two alu.Mov 0 a rax-fine fa, (h.number 5 v rbp-fine small, (h.sign, (h.one row.Idiv 5 rbp-fine, ends-each d e fd fe))));
    few = omega arith;
  }
  wide-number-made wide.DivU d e a v fd fe fa small = record {
    each = (h.two alu.Mov 0 a rax-fine fa, (h.number 5 v rbp-fine small, (h.zero, (h.one row.Div 5 rbp-fine, ends-each d e fd fe))));
    few = omega arith;
  }
