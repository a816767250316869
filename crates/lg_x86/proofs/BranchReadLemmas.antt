-- Jumps, calls, sets and what has its register in the opcode: what was read is a spelling exactly where the tests say so.
use Rattle.std.proofs.Common.{◌≡◌, ℕ, ◌+◌, ◌*◌, ◌/◌, ◌%◌, Bool, true, false, List, [], ◌∷◌, append_assoc, Some, refl, sym, ap, subst, ◌∙◌, arith, lit<}
use Rattle.std.specs.Prelude.{◌==◌, ◌&&◌, not}
use Rattle.lg_x86.specs.declared.rows.Mark.{Mark}
use Rattle.lg_x86.specs.declared.rows.Mark.TheVariants.{Wide, Low, Plain}
use Rattle.lg_x86.specs.declared.instruction.Instr.TheVariants.{Movi32, Movi64, Bswap, Stack, JumpIfShort, JumpIfNear, Set, JumpShort, JumpNear, JumpReg}
use Rattle.lg_x86.specs.Rows.{stack_row, stack_ops, jump_near_row, jump_near_ops, jump_reg_row, jump_reg_ops, cond_row, conds}
use Rattle.lg_x86.specs.Spelling.{rex, extension, modrm, short_bytes, long_bytes}
use Rattle.lg_x86.specs.Reading.{checked, front_bytes, front_length, is_wide_one, is_plain_one, is_low_one, has_one, has_bytes, read_movi, opcode_reg, has_registers, digit_in, rm_in, word_in, wide_in, short_in, long_in}
use Rattle.lg_x86.specs.Reading.{stack_by_opcode, jump_near_by_opcode, jump_reg_by_digit, cond_by_number, movi_of, bswap_of, stack_of, jump_if_short_of, jump_if_near_of, set_of, jump_short_of, jump_near_of, jump_reg_of}
use Rattle.lg_x86.specs.declared.instruction.JumpNearOp.{JumpNearOp}
use Rattle.lg_x86.specs.declared.instruction.JumpNearOp.TheVariants.{Jmp32}
use Rattle.std.specs.Int.{w32, w64, to_le_bytes}
use Rattle.std.proofs.lemmas.Bool.{eqb-true, ne_eqb}
use Rattle.lg_x86.proofs.FieldLemmas.{extension_fits}
use Rattle.lg_x86.proofs.NumberLemmas.{AreBytes}
use Rattle.lg_x86.proofs.FrontLemmas.{IsOpcode}
use Rattle.lg_x86.proofs.AcceptLemmas.{accepts, with_found, found, unsized, IsRex, Same}
use Rattle.lg_x86.proofs.PrefixLemmas.{end_of, wide_one_is, plain_one_is, low_one_is}
use Rattle.lg_x86.proofs.TailLemmas.{tail_of, registers_tail, one_tail, word_tail, wide_tail, long_tail, short_tail, plain_opcode, no_tail, accepts_bare}

pub jump_if_short_same : (s : Bool) (r : ℕ) → IsRex r → (o : ℕ) (t : List ℕ) → AreBytes t → (len : ℕ) → len ≡ front_length s r false → o / 16 ≡ 7 → Same s r false o t ((not s && (r == 0)) && has_bytes 1 t) (len + 1) (jump_if_short_of o t)
unfolding jump_if_short_of cond_by_number
jump_if_short_same s r rex_is o t h len at seven =
    with_found (cond_by_number (o % 16)) (λ cond. JumpIfShort cond (short_in t)) s r false o t ((not s && (r == 0)) && has_bytes 1 t) (len + 1)
    (λ cond e.
    let row : o % 16 ≡ (cond_row cond).number = eqb-true (o % 16) _ (found (λ cond. o % 16 == (cond_row cond).number) conds cond e) in
    let p = 0x70 + (cond_row cond).number in
    let same : p ≡ o = omega (arith, row, seven) in
    let code : IsOpcode o = plain_opcode o (ne_eqb (o / 16) 4 (λ f. omega (arith, f, seven))) (ne_eqb o 0x66 (λ f. omega (arith, f, seven))) (ne_eqb o 0x0f (λ f. omega (arith, f, seven))) in
    accepts s r rex_is false o t (JumpIfShort cond (short_in t)) (not s && (r == 0)) (has_bytes 1 t) len 1 at
    (record {
      z = false;
      mark = Plain;
      bits = 0;
      fits = lit< tt;
      p = p;
      is = code;
      ip = subst IsOpcode (sym same) code;
      u = short_bytes (short_in t);
      spelled = refl;
      front_is = unsized s (r == 0);
      tail_is = tail_of o p _ _ same (short_tail t h);
      long = λ _. refl;
    }))

pub jump_if_near_same : (s : Bool) (r : ℕ) → IsRex r → (o : ℕ) (t : List ℕ) → AreBytes t → (len : ℕ) → len ≡ front_length s r true → o / 16 ≡ 8 → Same s r true o t ((not s && (r == 0)) && has_bytes 4 t) (len + 4) (jump_if_near_of o t)
unfolding jump_if_near_of cond_by_number
jump_if_near_same s r rex_is o t h len at eight =
    with_found (cond_by_number (o % 16)) (λ cond. JumpIfNear cond (long_in t)) s r true o t ((not s && (r == 0)) && has_bytes 4 t) (len + 4)
    (λ cond e.
    let row : o % 16 ≡ (cond_row cond).number = eqb-true (o % 16) _ (found (λ cond. o % 16 == (cond_row cond).number) conds cond e) in
    let p = 0x80 + (cond_row cond).number in
    let same : p ≡ o = omega (arith, row, eight) in
    let code : IsOpcode o = plain_opcode o (ne_eqb (o / 16) 4 (λ f. omega (arith, f, eight))) (ne_eqb o 0x66 (λ f. omega (arith, f, eight))) (ne_eqb o 0x0f (λ f. omega (arith, f, eight))) in
    accepts s r rex_is true o t (JumpIfNear cond (long_in t)) (not s && (r == 0)) (has_bytes 4 t) len 4 at
    (record {
      z = false;
      mark = Plain;
      bits = 0;
      fits = lit< tt;
      p = p;
      is = code;
      ip = subst IsOpcode (sym same) code;
      u = long_bytes (long_in t);
      spelled = refl;
      front_is = unsized s (r == 0);
      tail_is = tail_of o p _ _ same (long_tail t h);
      long = λ _. refl;
    }))

pub set_same : (s : Bool) (r : ℕ) → IsRex r → (o : ℕ) (t : List ℕ) (len : ℕ) → len ≡ front_length s r true → o / 16 ≡ 9 → Same s r true o t ((not s && is_low_one r) && has_one t) (len + 1) (set_of r o t)
unfolding set_of cond_by_number
set_same s r rex_is o t len at nine =
    let rm = rm_in r t in
    with_found (cond_by_number (o % 16)) (λ cond. Set cond rm) s r true o t ((not s && is_low_one r) && has_one t) (len + 1)
    (λ cond e.
    let row : o % 16 ≡ (cond_row cond).number = eqb-true (o % 16) _ (found (λ cond. o % 16 == (cond_row cond).number) conds cond e) in
    let p = 0x90 + (cond_row cond).number in
    let same : p ≡ o = omega (arith, row, nine) in
    let code : IsOpcode o = plain_opcode o (ne_eqb (o / 16) 4 (λ f. omega (arith, f, nine))) (ne_eqb o 0x66 (λ f. omega (arith, f, nine))) (ne_eqb o 0x0f (λ f. omega (arith, f, nine))) in
    accepts s r rex_is true o t (Set cond rm) (not s && is_low_one r) (has_one t) len 1 at
    (record {
      z = false;
      mark = Low;
      bits = extension 0 0 rm;
      fits = extension_fits 0 0 rm (lit< tt) (lit< tt) (omega arith);
      p = p;
      is = code;
      ip = subst IsOpcode (sym same) code;
      u = modrm 3 0 rm ∷ [];
      spelled = refl;
      front_is = unsized s _ ∙ ap (λ b. not s && b) (low_one_is r rm (omega arith));
      tail_is = tail_of o p _ _ same (one_tail t [] rm (omega arith) ∙ end_of (has_one t));
      long = λ _. refl;
    }))

pub bswap_same : (s : Bool) (r : ℕ) → IsRex r → (o : ℕ) (t : List ℕ) (len : ℕ) → len ≡ front_length s r true → o / 8 ≡ 25 → Same s r true o t (not s && is_wide_one r) len (bswap_of r o)
unfolding bswap_of
bswap_same s r rex_is o t len at place =
    let reg = opcode_reg r o in
    let p = 0xc8 + reg % 8 in
    let same : p ≡ o = omega (arith, place) in
    let code : IsOpcode o = plain_opcode o (ne_eqb (o / 16) 4 (λ f. omega (arith, f, place))) (ne_eqb o 0x66 (λ f. omega (arith, f, place))) (ne_eqb o 0x0f (λ f. omega (arith, f, place))) in
    accepts_bare s r rex_is true o t (Bswap reg) (not s && is_wide_one r) len at
    (record {
      z = false;
      mark = Wide;
      bits = extension 0 0 reg;
      fits = extension_fits 0 0 reg (lit< tt) (lit< tt) (omega arith);
      p = p;
      is = code;
      ip = subst IsOpcode (sym same) code;
      u = [];
      spelled = refl;
      front_is = unsized s _ ∙ ap (λ b. not s && b) (wide_one_is r reg rex_is (omega arith));
      tail_is = no_tail p o same t;
      long = λ _. refl;
    })

pub stack_same : (s : Bool) (r : ℕ) → IsRex r → (o : ℕ) (t : List ℕ) (len : ℕ) → len ≡ front_length s r false → o / 16 ≡ 5 → Same s r false o t (not s && is_plain_one r) len (stack_of r o)
unfolding stack_of stack_by_opcode
stack_same s r rex_is o t len at five =
    let reg = opcode_reg r o in
    with_found (stack_by_opcode (o / 8 * 8)) (λ op. Stack op reg) s r false o t (not s && is_plain_one r) len
    (λ op e.
    let row : o / 8 * 8 ≡ (stack_row op).number = eqb-true (o / 8 * 8) _ (found (λ op. o / 8 * 8 == (stack_row op).number) stack_ops op e) in
    let p = (stack_row op).number + reg % 8 in
    let same : p ≡ o = omega (arith, row) in
    let code : IsOpcode o = plain_opcode o (ne_eqb (o / 16) 4 (λ f. omega (arith, f, five))) (ne_eqb o 0x66 (λ f. omega (arith, f, five))) (ne_eqb o 0x0f (λ f. omega (arith, f, five))) in
    accepts_bare s r rex_is false o t (Stack op reg) (not s && is_plain_one r) len at
    (record {
      z = false;
      mark = Plain;
      bits = extension 0 0 reg;
      fits = extension_fits 0 0 reg (lit< tt) (lit< tt) (omega arith);
      p = p;
      is = code;
      ip = subst IsOpcode (sym same) code;
      u = [];
      spelled = refl;
      front_is = unsized s _ ∙ ap (λ b. not s && b) (plain_one_is r reg (omega arith));
      tail_is = no_tail p o same t;
      long = λ _. refl;
    }))

pub movi_same : (s : Bool) (r : ℕ) → IsRex r → (mark : Mark) (o : ℕ) (t : List ℕ) → AreBytes t → (len : ℕ) → len ≡ front_length s r false → o / 8 ≡ 23 → read_movi s r len mark o t ≡ checked (front_bytes s r false o t) (movi_of mark r o t)
unfolding read_movi movi_of
movi_same s r rex_is mark o t h len at place = by mark
  where
    code : IsOpcode o
    code = plain_opcode o (ne_eqb (o / 16) 4 (λ f. omega (arith, f, place))) (ne_eqb o 0x66 (λ f. omega (arith, f, place))) (ne_eqb o 0x0f (λ f. omega (arith, f, place)))

    same_opcode : 0xb8 + opcode_reg r o % 8 ≡ o
    same_opcode = omega (arith, place)

    narrow : Same s r false o t ((not s && is_plain_one r) && has_bytes 4 t) (len + 4) (Some (Movi32 (opcode_reg r o) (word_in t)))
    narrow =
        accepts s r rex_is false o t (Movi32 (opcode_reg r o) (word_in t)) (not s && is_plain_one r) (has_bytes 4 t) len 4 at
        (record {
          z = false;
          mark = Plain;
          bits = extension 0 0 (opcode_reg r o);
          fits = extension_fits 0 0 (opcode_reg r o) (lit< tt) (lit< tt) (omega arith);
          p = 0xb8 + opcode_reg r o % 8;
          is = code;
          ip = subst IsOpcode (sym same_opcode) code;
          u = to_le_bytes w32 (word_in t);
          spelled = append_assoc (rex Plain (extension 0 0 (opcode_reg r o))) ((0xb8 + opcode_reg r o % 8) ∷ []) (to_le_bytes w32 (word_in t));
          front_is = unsized s _ ∙ ap (λ b. not s && b) (plain_one_is r (opcode_reg r o) (omega arith));
          tail_is = tail_of o _ _ _ same_opcode (word_tail t h);
          long = λ _. refl;
        })

    by : (m : Mark) → read_movi s r len m o t ≡ checked (front_bytes s r false o t) (movi_of m r o t)
    by Wide =
        accepts s r rex_is false o t (Movi64 (opcode_reg r o) (wide_in t)) (not s && is_wide_one r) (has_bytes 8 t) len 8 at
        (record {
          z = false;
          mark = Wide;
          bits = extension 0 0 (opcode_reg r o);
          fits = extension_fits 0 0 (opcode_reg r o) (lit< tt) (lit< tt) (omega arith);
          p = 0xb8 + opcode_reg r o % 8;
          is = code;
          ip = subst IsOpcode (sym same_opcode) code;
          u = to_le_bytes w64 (wide_in t);
          spelled = append_assoc (rex Wide (extension 0 0 (opcode_reg r o))) ((0xb8 + opcode_reg r o % 8) ∷ []) (to_le_bytes w64 (wide_in t));
          front_is = unsized s _ ∙ ap (λ b. not s && b) (wide_one_is r (opcode_reg r o) rex_is (omega arith));
          tail_is = tail_of o _ _ _ same_opcode (wide_tail t h);
          long = λ _. refl;
        })
    by Low = narrow
    by Plain = narrow

pub jump_short_same : (s : Bool) (r : ℕ) → IsRex r → (t : List ℕ) → AreBytes t → (len : ℕ) → len ≡ front_length s r false → Same s r false 0xeb t ((not s && (r == 0)) && has_bytes 1 t) (len + 1) (jump_short_of t)
unfolding jump_short_of
jump_short_same s r rex_is t h len at =
    accepts s r rex_is false 0xeb t (JumpShort (short_in t)) (not s && (r == 0)) (has_bytes 1 t) len 1 at
    (record {
      z = false;
      mark = Plain;
      bits = 0;
      fits = lit< tt;
      p = 0xeb;
      is = plain_opcode 0xeb refl refl refl;
      ip = plain_opcode 0xeb refl refl refl;
      u = short_bytes (short_in t);
      spelled = refl;
      front_is = unsized s (r == 0);
      tail_is = short_tail t h;
      long = λ _. refl;
    })

pub near_opcode : (op : JumpNearOp) → IsOpcode (jump_near_row op).number
near_opcode Jmp32 = record { no_rex = refl; no_size = refl; no_escape = refl }
near_opcode _ = record { no_rex = refl; no_size = refl; no_escape = refl }

pub jump_near_same : (s : Bool) (r : ℕ) → IsRex r → (o : ℕ) (t : List ℕ) → AreBytes t → (len : ℕ) → len ≡ front_length s r false → Same s r false o t ((not s && (r == 0)) && has_bytes 4 t) (len + 4) (jump_near_of o t)
unfolding jump_near_of jump_near_by_opcode
jump_near_same s r rex_is o t h len at =
    with_found (jump_near_by_opcode o) (λ op. JumpNear op (long_in t)) s r false o t ((not s && (r == 0)) && has_bytes 4 t) (len + 4)
    (λ op e.
    let row : o ≡ (jump_near_row op).number = eqb-true o _ (found (λ op. o == (jump_near_row op).number) jump_near_ops op e) in
    accepts s r rex_is false o t (JumpNear op (long_in t)) (not s && (r == 0)) (has_bytes 4 t) len 4 at
    (record {
      z = false;
      mark = Plain;
      bits = 0;
      fits = lit< tt;
      p = (jump_near_row op).number;
      is = subst IsOpcode (sym row) (near_opcode op);
      ip = near_opcode op;
      u = long_bytes (long_in t);
      spelled = refl;
      front_is = unsized s (r == 0);
      tail_is = tail_of o _ _ _ (sym row) (long_tail t h);
      long = λ _. refl;
    }))

pub jump_reg_same : (s : Bool) (r : ℕ) → IsRex r → (t : List ℕ) (len : ℕ) → len ≡ front_length s r false → Same s r false 0xff t ((not s && is_plain_one r) && has_registers t) (len + 1) (jump_reg_of r t)
unfolding jump_reg_of jump_reg_by_digit
jump_reg_same s r rex_is t len at =
    let rm = rm_in r t in
    with_found (jump_reg_by_digit (digit_in t)) (λ op. JumpReg op rm) s r false 0xff t ((not s && is_plain_one r) && has_registers t) (len + 1)
    (λ op e.
    let row : digit_in t ≡ (jump_reg_row op).number = eqb-true (digit_in t) _ (found (λ op. digit_in t == (jump_reg_row op).number) jump_reg_ops op e) in
    accepts s r rex_is false 0xff t (JumpReg op rm) (not s && is_plain_one r) (has_registers t) len 1 at
    (record {
      z = false;
      mark = Plain;
      bits = extension 0 0 rm;
      fits = extension_fits 0 0 rm (lit< tt) (lit< tt) (omega arith);
      p = 0xff;
      is = plain_opcode 0xff refl refl refl;
      ip = plain_opcode 0xff refl refl refl;
      u = modrm 3 (jump_reg_row op).number rm ∷ [];
      spelled = refl;
      front_is = unsized s _ ∙ ap (λ b. not s && b) (plain_one_is r rm (omega arith));
      tail_is = registers_tail t [] (jump_reg_row op).number rm (omega (arith, row)) (omega arith) ∙ end_of (has_registers t);
      long = λ _. refl;
    }))
