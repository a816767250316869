-- Rows by a digit in ModRM: what was read is a spelling exactly where the tests say so.
use Rattle.std.proofs.Common.{◌≡◌, ℕ, ◌+◌, Bool, true, false, List, [], ◌∷◌, ◌++◌, drop, append_assoc, slice_index, Some, None, refl, sym, ap, subst, ◌∙◌, arith, lit<, nat_lt, nat_eq}
use Rattle.std.specs.Prelude.{◌==◌, ◌&&◌, ◌||◌, not, if◌then◌else◌}
use Rattle.std.specs.List.{starts_with}
use Rattle.std.specs.Option.{option_map}
use Rattle.lg_x86.specs.declared.rows.Mark.TheVariants.{Wide}
use Rattle.lg_x86.specs.declared.instruction.Instr.TheVariants.{Imm, Movs32, Unary, Shift}
use Rattle.lg_x86.specs.Rows.{imm_row, imm_ops, unary_row, unary_ops, shift_row, shift_ops}
use Rattle.lg_x86.specs.Spelling.{rex, extension, modrm, is_short, short_bytes, long_bytes}
use Rattle.lg_x86.specs.Reading.{checked, front_bytes, front_length, accepted, is_wide_one, has_one, has_bytes, read_imm, has_registers, digit_in, rm_in, short_in, long_in}
use Rattle.lg_x86.specs.Reading.{imm_by_digit, unary_by_digit, shift_by_digit, imm_of, movs_of, unary_of, shift_of}
use Rattle.std.proofs.lemmas.List.{get_or-drop}
use Rattle.std.proofs.lemmas.Bool.{eqb-true}
use Rattle.lg_x86.specs.declared.instruction.ImmOp.{ImmOp}
use Rattle.lg_x86.proofs.AgainLemmas.{unary_opcode, imm_is_opcode}
use Rattle.lg_x86.proofs.FieldLemmas.{extension_fits}
use Rattle.lg_x86.proofs.NumberLemmas.{AreBytes, drop_bytes}
use Rattle.lg_x86.proofs.FrontLemmas.{IsOpcode}
use Rattle.lg_x86.proofs.AcceptLemmas.{none_accepted, accepts, with_found, found, pair_is, never, or_first, unsized, IsRex, Same}
use Rattle.lg_x86.proofs.PrefixLemmas.{end_of, wide_one_is}
use Rattle.lg_x86.proofs.TailLemmas.{tail_of, registers_tail, one_tail, and_false, long_tail, short_tail, byte_tail, short_is_short, after_first, after_one, plain_opcode}

pub unary_same : (s : Bool) (r : ℕ) → IsRex r → (o : ℕ) (t : List ℕ) (len : ℕ) → len ≡ front_length s r false → Same s r false o t ((not s && is_wide_one r) && has_registers t) (len + 1) (unary_of r o t)
unfolding unary_of unary_by_digit
unary_same s r rex_is o t len at =
    let rm = rm_in r t in
    with_found (unary_by_digit o (digit_in t)) (λ op. Unary op rm) s r false o t ((not s && is_wide_one r) && has_registers t) (len + 1)
    (λ op e.
    let rows = found (λ op. (o == (unary_row op).opcode) && (digit_in t == (unary_row op).digit)) unary_ops op e in
    let row = pair_is o (unary_row op).opcode (digit_in t) (unary_row op).digit rows in
    let digit : digit_in t ≡ (unary_row op).digit = row.1 in
    accepts s r rex_is false o t (Unary op rm) (not s && is_wide_one r) (has_registers t) len 1 at
    (record {
      z = false;
      mark = Wide;
      bits = extension 0 0 rm;
      fits = extension_fits 0 0 rm (lit< tt) (lit< tt) (omega arith);
      p = (unary_row op).opcode;
      is = subst IsOpcode (sym row.0) (unary_opcode op);
      ip = unary_opcode op;
      u = modrm 3 (unary_row op).digit rm ∷ [];
      spelled = refl;
      front_is = unsized s _ ∙ ap (λ b. not s && b) (wide_one_is r rm rex_is (omega arith));
      tail_is = tail_of o _ _ _ (sym row.0) (registers_tail t [] (unary_row op).digit rm (omega (arith, digit)) (omega arith) ∙ end_of (has_registers t));
      long = λ _. refl;
    }))

pub shift_same : (s : Bool) (r : ℕ) → IsRex r → (t : List ℕ) (len : ℕ) → len ≡ front_length s r false → Same s r false 0xc1 t ((not s && is_wide_one r) && (has_registers t && has_bytes 2 t)) (len + 2) (shift_of r t)
unfolding shift_of shift_by_digit
shift_same s r rex_is t len at = by (nat_lt (slice_index t 1) 64)
  where
    rm : ℕ
    rm = rm_in r t

    count_tail : starts_with nat_eq (drop 1 t) (slice_index t 1 ∷ []) ≡ has_bytes 1 (drop 1 t)
    count_tail = ap (λ n. starts_with nat_eq (drop 1 t) (n ∷ [])) (sym (get_or-drop 1 t 0 0)) ∙ byte_tail (drop 1 t)

    some_shift : Same s r false 0xc1 t ((not s && is_wide_one r) && (has_registers t && has_bytes 2 t)) (len + 2) (option_map (λ op. Shift op rm (slice_index t 1)) (shift_by_digit (digit_in t)))
    some_shift =
        with_found (shift_by_digit (digit_in t)) (λ op. Shift op rm (slice_index t 1)) s r false 0xc1 t ((not s && is_wide_one r) && (has_registers t && has_bytes 2 t)) (len + 2)
        (λ op e.
        let row : digit_in t ≡ (shift_row op).number = eqb-true (digit_in t) _ (found (λ op. digit_in t == (shift_row op).number) shift_ops op e) in
        accepts s r rex_is false 0xc1 t (Shift op rm (slice_index t 1)) (not s && is_wide_one r) (has_registers t && has_bytes 2 t) len 2 at
        (record {
          z = false;
          mark = Wide;
          bits = extension 0 0 rm;
          fits = extension_fits 0 0 rm (lit< tt) (lit< tt) (omega arith);
          p = 0xc1;
          is = plain_opcode 0xc1 refl refl refl;
          ip = plain_opcode 0xc1 refl refl refl;
          u = modrm 3 (shift_row op).number rm ∷ slice_index t 1 ∷ [];
          spelled = refl;
          front_is = unsized s _ ∙ ap (λ b. not s && b) (wide_one_is r rm rex_is (omega arith));
          tail_is = registers_tail t (slice_index t 1 ∷ []) (shift_row op).number rm (omega (arith, row)) (omega arith) ∙ ap (λ b. has_registers t && b) count_tail ∙ after_first t 1;
          long = λ _. refl;
        }))

    by : (b : Bool) → Same s r false 0xc1 t ((not s && is_wide_one r) && (has_registers t && has_bytes 2 t)) (len + 2) (if b then option_map (λ op. Shift op rm (slice_index t 1)) (shift_by_digit (digit_in t)) else None)
    by true = some_shift
    by false = none_accepted ((not s && is_wide_one r) && (has_registers t && has_bytes 2 t)) (len + 2)

pub movs_same : (s : Bool) (r : ℕ) → IsRex r → (t : List ℕ) → AreBytes t → (len : ℕ) → len ≡ front_length s r false → Same s r false 0xc7 t ((not s && is_wide_one r) && (has_one t && has_bytes 5 t)) (len + 5) (movs_of r t)
unfolding movs_of
movs_same s r rex_is t h len at =
    let rm = rm_in r t in
    let z = long_in (drop 1 t) in
    accepts s r rex_is false 0xc7 t (Movs32 rm z) (not s && is_wide_one r) (has_one t && has_bytes 5 t) len 5 at
    (record {
      z = false;
      mark = Wide;
      bits = extension 0 0 rm;
      fits = extension_fits 0 0 rm (lit< tt) (lit< tt) (omega arith);
      p = 0xc7;
      is = plain_opcode 0xc7 refl refl refl;
      ip = plain_opcode 0xc7 refl refl refl;
      u = modrm 3 0 rm ∷ long_bytes z;
      spelled = refl;
      front_is = unsized s _ ∙ ap (λ b. not s && b) (wide_one_is r rm rex_is (omega arith));
      tail_is = one_tail t (long_bytes z) rm (omega arith) ∙ ap (λ b. has_one t && b) (long_tail (drop 1 t) (drop_bytes t 1 h)) ∙ after_one t 4;
      long = λ _. refl;
    })

pub imm_short_same : (s : Bool) (r : ℕ) → IsRex r → (t : List ℕ) → AreBytes t → (len : ℕ) → len ≡ front_length s r false → Same s r false 0x83 t ((not s && is_wide_one r) && (has_registers t && has_bytes 2 t)) (len + 2) (imm_of r 0x83 t)
unfolding imm_of imm_by_digit
imm_short_same s r rex_is t h len at =
    let rm = rm_in r t in
    let z = short_in (drop 1 t) in
    let short = short_is_short (slice_index (drop 1 t) 0) in
    with_found (imm_by_digit (digit_in t)) (λ op. Imm op rm z) s r false 0x83 t ((not s && is_wide_one r) && (has_registers t && has_bytes 2 t)) (len + 2)
    (λ op e.
    let row : digit_in t ≡ (imm_row op).number = eqb-true (digit_in t) _ (found (λ op. digit_in t == (imm_row op).number) imm_ops op e) in
    let digit = (imm_row op).number in
    accepts s r rex_is false 0x83 t (Imm op rm z) (not s && is_wide_one r) (has_registers t && has_bytes 2 t) len 2 at
    (record {
      z = false;
      mark = Wide;
      bits = extension 0 0 rm;
      fits = extension_fits 0 0 rm (lit< tt) (lit< tt) (omega arith);
      p = 0x83;
      is = imm_is_opcode true;
      ip = imm_is_opcode true;
      u = modrm 3 digit rm ∷ short_bytes z;
      spelled = ap (λ b. rex Wide (extension 0 0 rm) ++ ((if b then 0x83 else 0x81) ∷ modrm 3 digit rm ∷ []) ++ (if b then short_bytes z else long_bytes z)) short ∙ append_assoc (rex Wide (extension 0 0 rm)) (0x83 ∷ modrm 3 digit rm ∷ []) (short_bytes z);
      front_is = unsized s _ ∙ ap (λ b. not s && b) (wide_one_is r rm rex_is (omega arith));
      tail_is = registers_tail t (short_bytes z) digit rm (omega (arith, row)) (omega arith) ∙ ap (λ b. has_registers t && b) (short_tail (drop 1 t) (drop_bytes t 1 h)) ∙ after_first t 1;
      long = λ _. refl;
    }))

pub imm_long_same : (s : Bool) (r : ℕ) → IsRex r → (t : List ℕ) → AreBytes t → (len : ℕ) → len ≡ front_length s r false → Same s r false 0x81 t ((not s && is_wide_one r) && (has_registers t && (has_bytes 5 t && not (is_short (long_in (drop 1 t)))))) (len + 5) (imm_of r 0x81 t)
unfolding imm_of imm_by_digit
imm_long_same s r rex_is t h len at =
    with_found (imm_by_digit (digit_in t)) (λ op. Imm op (rm_in r t) (long_in (drop 1 t))) s r false 0x81 t ((not s && is_wide_one r) && (has_registers t && (has_bytes 5 t && not (is_short (long_in (drop 1 t)))))) (len + 5)
    (λ op e. by op (eqb-true (digit_in t) _ (found (λ op. digit_in t == (imm_row op).number) imm_ops op e)) (is_short (long_in (drop 1 t))) refl)
  where
    by : (op : ImmOp) → digit_in t ≡ (imm_row op).number → (b : Bool) → is_short (long_in (drop 1 t)) ≡ b → Same s r false 0x81 t ((not s && is_wide_one r) && (has_registers t && (has_bytes 5 t && not b))) (len + 5) (Some (Imm op (rm_in r t) (long_in (drop 1 t))))
    by op row true f =
        let rm = rm_in r t in
        let z = long_in (drop 1 t) in
        let digit = (imm_row op).number in
        accepts s r rex_is false 0x81 t (Imm op rm z) (not s && is_wide_one r) (has_registers t && (has_bytes 5 t && false)) len 5 at
        (record {
          z = false;
          mark = Wide;
          bits = extension 0 0 rm;
          fits = extension_fits 0 0 rm (lit< tt) (lit< tt) (omega arith);
          p = 0x83;
          is = imm_is_opcode false;
          ip = imm_is_opcode true;
          u = modrm 3 digit rm ∷ short_bytes z;
          spelled = ap (λ b. rex Wide (extension 0 0 rm) ++ ((if b then 0x83 else 0x81) ∷ modrm 3 digit rm ∷ []) ++ (if b then short_bytes z else long_bytes z)) f ∙ append_assoc (rex Wide (extension 0 0 rm)) (0x83 ∷ modrm 3 digit rm ∷ []) (short_bytes z);
          front_is = unsized s _ ∙ ap (λ b. not s && b) (wide_one_is r rm rex_is (omega arith));
          tail_is = rw (and_false (has_bytes 5 t), and_false (has_registers t)) refl;
          long = λ no_test. absurd (never (has_registers t) (has_bytes 5 t) no_test);
        })
    by op row false f =
        let rm = rm_in r t in
        let z = long_in (drop 1 t) in
        let digit = (imm_row op).number in
        accepts s r rex_is false 0x81 t (Imm op rm z) (not s && is_wide_one r) (has_registers t && (has_bytes 5 t && true)) len 5 at
        (record {
          z = false;
          mark = Wide;
          bits = extension 0 0 rm;
          fits = extension_fits 0 0 rm (lit< tt) (lit< tt) (omega arith);
          p = 0x81;
          is = imm_is_opcode false;
          ip = imm_is_opcode false;
          u = modrm 3 digit rm ∷ long_bytes z;
          spelled = ap (λ b. rex Wide (extension 0 0 rm) ++ ((if b then 0x83 else 0x81) ∷ modrm 3 digit rm ∷ []) ++ (if b then short_bytes z else long_bytes z)) f ∙ append_assoc (rex Wide (extension 0 0 rm)) (0x81 ∷ modrm 3 digit rm ∷ []) (long_bytes z);
          front_is = unsized s _ ∙ ap (λ b. not s && b) (wide_one_is r rm rex_is (omega arith));
          tail_is = registers_tail t (long_bytes z) digit rm (omega (arith, row)) (omega arith) ∙ ap (λ b. has_registers t && b) (long_tail (drop 1 t) (drop_bytes t 1 h)) ∙ after_first t 4 ∙ ap (λ b. has_registers t && b) (sym (end_of (has_bytes 5 t)));
          long = λ _. refl;
        })

pub imm_same : (s : Bool) (r : ℕ) → IsRex r → (o : ℕ) (t : List ℕ) → AreBytes t → (len : ℕ) → len ≡ front_length s r false → (o == 0x81 || o == 0x83) ≡ true → read_imm s r len o t ≡ checked (front_bytes s r false o t) (imm_of r o t)
unfolding read_imm
imm_same s r rex_is o t h len at one = by (o == 0x83) refl
  where
    Holds : ℕ → Bool → Type 0
    Holds n b = (if b then accepted ((not s && is_wide_one r) && (has_registers t && has_bytes 2 t)) (len + 2) (imm_of r n t) else accepted ((not s && is_wide_one r) && (has_registers t && (has_bytes 5 t && not (is_short (long_in (drop 1 t)))))) (len + 5) (imm_of r n t)) ≡ checked (front_bytes s r false n t) (imm_of r n t)

    by : (b : Bool) → (o == 0x83) ≡ b → Holds o b
    by true e = let is = eqb-true o 0x83 e in subst (λ n. Holds n true) (sym is) (imm_short_same s r rex_is t h len at)
    by false e = let is : o ≡ 0x81 = eqb-true o 0x81 (or_first (o == 0x81) (o == 0x83) e one) in subst (λ n. Holds n false) (sym is) (imm_long_same s r rex_is t h len at)
