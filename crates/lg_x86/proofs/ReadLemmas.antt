-- What was read is a spelling exactly where the decoder's tests say so: by the opcode, and by what is in front of it.
use Rattle.std.proofs.Common.{◌≡◌, ℕ, ◌+◌, ◌/◌, Bool, true, false, List, [], ◌∷◌, ◌++◌, drop, length, length-append, slice_index, Option, None, refl, sym, ap, ◌∙◌, arith}
use Rattle.std.specs.Prelude.{◌==◌, ◌&&◌, ◌||◌, not, if◌then◌else◌}
use Rattle.std.proofs.lemmas.Bool.{eqb-true, ne_eqb}
use Rattle.lg_x86.specs.declared.rows.Mark.{Mark}
use Rattle.lg_x86.specs.declared.rows.Mark.TheVariants.{Wide, Low, Plain}
use Rattle.lg_x86.specs.declared.instruction.Instr.{Instr}
use Rattle.lg_x86.specs.Spelling.{size_prefix, opcode_bytes}
use Rattle.lg_x86.specs.Reading.{checked, rex_byte, front_bytes, front_length, accepted, is_wide, is_marked, is_low, memory_length, read_reg, read_short, read_digit, read_jump, read_other, read_escaped, read_code, read_sized, read_of, mark_in, has_registers, reg_in, rm_in}
use Rattle.lg_x86.specs.Reading.{rm_reg_by_opcode, load_by_prefixes, rm_reg_of, load_of, lea_of, movs_of, shift_of, jump_short_of, jump_reg_of, short_at, escaped_at, code_of, sized_of, guess_of}
use Rattle.lg_x86.proofs.NumberLemmas.{AreBytes, drop_bytes}
use Rattle.lg_x86.proofs.AcceptLemmas.{none_accepted, IsRex, none, some}
use Rattle.lg_x86.proofs.PrefixLemmas.{low_two_is}
use Rattle.lg_x86.proofs.BranchReadLemmas.{jump_if_short_same, jump_if_near_same, set_same, bswap_same, stack_same, movi_same, jump_short_same, jump_near_same, jump_reg_same}
use Rattle.lg_x86.proofs.DigitReadLemmas.{unary_same, shift_same, movs_same, imm_same}
use Rattle.lg_x86.proofs.MoveReadLemmas.{rm_reg_same, store_same, reg_same, rm_same, bare_same, lea_same}

choice : (b : Bool) (bytes : List ℕ) (x z : Option (Instr × ℕ)) (y w : Option Instr) → (b ≡ true → x ≡ checked bytes y) → (b ≡ false → z ≡ checked bytes w) → (if b then x else z) ≡ checked bytes (if b then y else w)
choice true bytes x z y w e f = e refl
choice false bytes x z y w e f = f refl

-- where the opcode is this
at_opcode : (s : Bool) (r o p : ℕ) (t : List ℕ) (x : Option (Instr × ℕ)) (y : Option Instr) → x ≡ checked (front_bytes s r false p t) y → (o == p) ≡ true → x ≡ checked (front_bytes s r false o t) y
at_opcode s r o p t x y e is = e ∙ ap (λ n. checked (front_bytes s r false n t) y) (sym (eqb-true o p is))

short_same : (s : Bool) (r : ℕ) → IsRex r → (o : ℕ) (t : List ℕ) → AreBytes t → (len : ℕ) → len ≡ front_length s r false → read_short s r len (mark_in r) (has_registers t) o t ≡ checked (front_bytes s r false o t) (short_at s r (mark_in r) (has_registers t) o t)
unfolding read_short read_digit read_jump read_other short_at
short_same s r rex_is o t h len at =
    let bs = front_bytes s r false o t in
    choice (o / 16 == 7) bs _ _ _ _ (λ e. jump_if_short_same s r rex_is o t h len at (eqb-true (o / 16) 7 e))
    (λ _. choice (o / 16 == 5) bs _ _ _ _ (λ e. stack_same s r rex_is o t len at (eqb-true (o / 16) 5 e))
    (λ _. choice (o / 8 == 23) bs _ _ _ _ (λ e. movi_same s r rex_is (mark_in r) o t h len at (eqb-true (o / 8) 23 e))
    (λ _. choice (o == 0x81 || o == 0x83) bs _ _ _ _ (λ e. imm_same s r rex_is o t h len at e)
    (λ _. choice (o == 0xc1) bs _ _ _ _ (λ e. at_opcode s r o 0xc1 t _ (shift_of r t) (shift_same s r rex_is t len at) e)
    (λ _. choice (o == 0xc7) bs _ _ _ _ (λ e. at_opcode s r o 0xc7 t _ (movs_of r t) (movs_same s r rex_is t h len at) e)
    (λ _. choice (o == 0xd3 || o == 0xf7) bs _ _ _ _ (λ e. unary_same s r rex_is o t len at)
    (λ _. choice (o == 0xff) bs _ _ _ _ (λ e. at_opcode s r o 0xff t _ (jump_reg_of r t) (jump_reg_same s r rex_is t len at) e)
    (λ _. choice (o == 0xeb) bs _ _ _ _ (λ e. at_opcode s r o 0xeb t _ (jump_short_of t) (jump_short_same s r rex_is t h len at) e)
    (λ _. choice (o == 0xe8 || o == 0xe9) bs _ _ _ _ (λ e. jump_near_same s r rex_is o t h len at)
    (λ _. choice (o == 0x90 || (o == 0x99 || o == 0xc3)) bs _ _ _ _ (λ e. bare_same s r rex_is o t len at)
    (λ _. choice (o == 0x8d) bs _ _ _ _ (λ e. at_opcode s r o 0x8d t _ (lea_of r t) (lea_same s r rex_is t h len at) e)
    (λ _. choice (o == 0x88) bs _ _ _ _ (λ e. store_same s r rex_is Low (is_low r) (low_two_is r (reg_in r []) (rm_in r []) rex_is (omega arith) (omega arith)) o t h len at)
    (λ _. choice (o == 0x63 || o == 0x8b) bs _ _ _ _ (λ e. reg_same s r rex_is false o t h len at (has_registers t) refl)
    (λ _. choice (o == 0x89) bs _ _ _ _ (λ e. rm_same s r rex_is o t h len at (has_registers t) refl)
    (λ _. rm_reg_same s r rex_is o t len at)))))))))))))))

escaped_same : (s : Bool) (r : ℕ) → IsRex r → (o : ℕ) (t : List ℕ) → AreBytes t → (len : ℕ) → len ≡ front_length s r true → read_escaped s r len (mark_in r) (has_registers t) o t ≡ checked (front_bytes s r true o t) (escaped_at r (mark_in r) (has_registers t) o t)
unfolding read_escaped escaped_at
escaped_same s r rex_is o t h len at =
    let bs = front_bytes s r true o t in
    choice (o / 16 == 8) bs _ _ _ _ (λ e. jump_if_near_same s r rex_is o t h len at (eqb-true (o / 16) 8 e))
    (λ _. choice (o / 16 == 9) bs _ _ _ _ (λ e. set_same s r rex_is o t len at (eqb-true (o / 16) 9 e))
    (λ _. choice (o / 8 == 25) bs _ _ _ _ (λ e. bswap_same s r rex_is o t len at (eqb-true (o / 8) 25 e))
    (λ _. reg_same s r rex_is true o t h len at (has_registers t) refl)))

-- no opcode is read where there are no bytes
no_short : (s : Bool) (r len : ℕ) (bytes : List ℕ) → read_short s r len (mark_in r) (has_registers []) 0 [] ≡ checked bytes (short_at s r (mark_in r) (has_registers []) 0 [])
unfolding read_short read_digit read_jump read_other short_at rm_reg_of rm_reg_by_opcode
no_short s r len bytes = none_accepted ((not s && is_wide r) && false) (len + 1)

no_load : (r : ℕ) (m : Mark) → load_of m true r 0 [] ≡ None
unfolding load_of load_by_prefixes
no_load r Wide = refl
no_load r Low = refl
no_load r Plain = refl

no_escaped : (s : Bool) (r len : ℕ) (bytes : List ℕ) → read_escaped s r len (mark_in r) (has_registers []) 0 [] ≡ checked bytes (escaped_at r (mark_in r) (has_registers []) 0 [])
unfolding read_escaped escaped_at read_reg
no_escaped s r len bytes =
    ap (accepted ((not s && is_marked r) && false) (len + memory_length [])) (no_load r (mark_in r)) ∙ none_accepted ((not s && is_marked r) && false) (len + memory_length []) ∙ sym (ap (checked bytes) (no_load r (mark_in r)))

-- how many bytes of prefixes
abbrev prefix_length : Bool → ℕ → ℕ
prefix_length s r = length (size_prefix s ++ rex_byte r)

front_after : (s : Bool) (r : ℕ) (e : Bool) → front_length s r e ≡ prefix_length s r + length (opcode_bytes e 0)
front_after s r e =
    let a = length-append (size_prefix s) (rex_byte r ++ (opcode_bytes e 0 ++ [])) in
    let b = length-append (rex_byte r) (opcode_bytes e 0 ++ []) in
    let c = length-append (opcode_bytes e 0) [] in
    let d = length-append (size_prefix s) (rex_byte r) in
    omega (arith, a, b, c, d)

code_same : (s : Bool) (r : ℕ) → IsRex r → (bytes : List ℕ) → AreBytes bytes → (len : ℕ) → len ≡ prefix_length s r → read_code s r len bytes ≡ checked (size_prefix s ++ (rex_byte r ++ bytes)) (code_of s r bytes)
unfolding read_code code_of
code_same s r rex_is [] h len at = no_short s r (len + 1) (size_prefix s ++ (rex_byte r ++ []))
code_same s r rex_is (a ∷ t) h len at =
    choice (a == 0x0f) (size_prefix s ++ (rex_byte r ++ (a ∷ t))) _ _ _ _ (λ e. escaped t h e)
    (λ _. let f = front_after s r false in short_same s r rex_is a t (drop_bytes (a ∷ t) 1 h) (len + 1) (omega (arith, at, f)))
  where
    escaped : (t : List ℕ) → AreBytes (a ∷ t) → (a == 0x0f) ≡ true → read_escaped s r (len + 2) (mark_in r) (has_registers (drop 2 (a ∷ t))) (slice_index (a ∷ t) 1) (drop 2 (a ∷ t)) ≡ checked (size_prefix s ++ (rex_byte r ++ (a ∷ t))) (escaped_at r (mark_in r) (has_registers (drop 2 (a ∷ t))) (slice_index (a ∷ t) 1) (drop 2 (a ∷ t)))
    escaped [] h e = no_escaped s r (len + 2) (size_prefix s ++ (rex_byte r ++ (a ∷ [])))
    escaped (o ∷ t) h e =
        let f = front_after s r true in
        escaped_same s r rex_is o t (drop_bytes (a ∷ o ∷ t) 2 h) (len + 2) (omega (arith, at, f))
        ∙ ap (λ n. checked (size_prefix s ++ (rex_byte r ++ (n ∷ o ∷ t))) (escaped_at r (mark_in r) (has_registers t) o t)) (sym (eqb-true a 0x0f e))

sized_same : (s : Bool) (bytes : List ℕ) → AreBytes bytes → (len : ℕ) → len ≡ length (size_prefix s) → read_sized s len bytes ≡ checked (size_prefix s ++ bytes) (sized_of s bytes)
unfolding read_sized sized_of
sized_same s [] h len at = code_same s 0 (none refl) [] h len (let a = length-append (size_prefix s) (rex_byte 0) in omega (arith, at, a))
sized_same s (a ∷ t) h len at =
    choice (a / 16 == 4) (size_prefix s ++ (a ∷ t)) _ _ _ _
    (λ e.
    let four = eqb-true (a / 16) 4 e in
    let there : (a == 0) ≡ false = ne_eqb a 0 (λ f. omega (arith, f, four)) in
    let one : rex_byte a ≡ a ∷ [] = rw there refl in
    let n = length-append (size_prefix s) (rex_byte a) in
    let m : length (rex_byte a) ≡ 1 = ap length one in
    code_same s a (some (omega (arith, four)) (omega (arith, four))) t (drop_bytes (a ∷ t) 1 h) (len + 1) (omega (arith, at, n, m))
    ∙ ap (λ xs. checked (size_prefix s ++ (xs ++ t)) (code_of s a t)) one)
    (λ _. code_same s 0 (none refl) (a ∷ t) h len (let b = length-append (size_prefix s) (rex_byte 0) in omega (arith, at, b)))

-- what is read is what is guessed, spelled and compared
pub read_same : (bytes : List ℕ) → AreBytes bytes → read_of bytes ≡ checked bytes (guess_of bytes)
unfolding read_of guess_of
read_same [] h = sized_same false [] h 0 refl
read_same (a ∷ t) h =
    choice (a == 0x66) (a ∷ t) _ _ _ _
    (λ e. sized_same true t (drop_bytes (a ∷ t) 1 h) 1 refl ∙ ap (λ n. checked (n ∷ t) (sized_of true t)) (sym (eqb-true a 0x66 e)))
    (λ _. sized_same false (a ∷ t) h 0 refl)
