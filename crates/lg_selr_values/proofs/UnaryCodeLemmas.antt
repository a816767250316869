-- The code of the operations on one register computes them.
use Rattle.std.proofs.Common.{◌≡◌, ◌≢◌, ℕ, zero, suc, ◌+◌, ◌-◌, ◌*◌, ◌/◌, ◌%◌, ◌^◌, ◌<◌, ◌≤◌, true, [], ◌∷◌, refl, sym, ap, ◌∙◌, arith}
use Rattle.std.specs.Prelude.{pos, bit_and, bit_or, bit_xor}
use Rattle.std.specs.Int.{bit_at, w64}
use Rattle.std.proofs.lemmas.Nat.{and_mask, or_shifted, xor_lt}
use Rattle.std.proofs.lemmas.Nat.Bits.{bit_at_xor, bit_at_not, bit_at_ones, same_from_bits_below}
use Rattle.lg_base.specs.Wide.{sign_part_of, zero_part_of, swapped}
use Rattle.lg_base.specs.Words.{add_words, sub_words, negated, complement, sign_32, shifted_left, shifted_right, shifted_right_signed}
use Rattle.lg_op.specs.declared.op.UnaryOp.{UnaryOp}
use Rattle.lg_op.specs.declared.op.UnaryOp.TheVariants as unary
use Rattle.lg_op.specs.Operators.{unary_value}
use Rattle.lg_rv.specs.declared.instruction.Instr.TheVariants.{Imm, Shift, Reg}
use Rattle.lg_rv.specs.declared.instruction.ImmOp.TheVariants.{Andi}
use Rattle.lg_rv.specs.declared.instruction.ShiftOp.TheVariants.{Slli}
use Rattle.lg_rv.specs.declared.instruction.RegOp.TheVariants as row
use Rattle.lg_cpu.specs.HostSteps.{put}
use Rattle.lg_cpu.specs.RvStep.{read}
use Rattle.lg_selr_values.specs.Processor.Computations.{all_compute, computed}
use Rattle.lg_selr_values.proofs.OfProcessor.ComputationLemmas.{read-put, read-other, put-same, put-other}
use Rattle.lg_selr_values.specs.UnaryCode.{more_bytes_code, swapped_code, unary_code}
use Rattle.lg_selr_values.proofs.LoadCodeLemmas.{read-small, puts, puts-again}

-- ---- words
minus : (a : ℕ) → sub_words 0 a ≡ negated a
minus a = omega arith

pub add-none : (a : ℕ) → a < 2 ^ 64 → add_words a 0 ≡ a
add-none a h = omega (arith, h)

low-byte : (x : ℕ) → bit_and x 255 ≡ x % 256
low-byte x = and_mask x 8

extr-i : (a : ℕ) → a < 2 ^ 64 → sign_32 (add_words a 0) ≡ sign_part_of a 4
extr-i a h = grind (arith, h)

extr-c : (a : ℕ) → a < 2 ^ 64 → shifted_right_signed (shifted_left a 56) 56 ≡ sign_part_of a 1
extr-c a h = grind (arith, h)

extr-s : (a : ℕ) → a < 2 ^ 64 → shifted_right_signed (shifted_left a 48) 48 ≡ sign_part_of a 2
extr-s a h = grind (arith, h)

extr-us : (a : ℕ) → a < 2 ^ 64 → shifted_right (shifted_left a 48) 48 ≡ zero_part_of a 2
extr-us a h = omega (arith, h)

extr-ui : (a : ℕ) → a < 2 ^ 64 → shifted_right (shifted_left a 32) 32 ≡ zero_part_of a 4
extr-ui a h = omega (arith, h)

-- the bits of a word turned
one-bit : (b : ℕ) → b < 2 → (b + 1) % 2 ≡ 1 - b
one-bit b h = omega (arith, h)

bit-small : (a i : ℕ) → bit_at a i < 2
bit-small a i = omega arith

all-turned : (a : ℕ) → a < 2 ^ 64 → bit_xor a (2 ^ 64 - 1) ≡ complement a
all-turned a h = same_from_bits_below 64 (bit_xor a (2 ^ 64 - 1)) (complement a) (xor_lt 64 a (2 ^ 64 - 1) h (omega arith)) (omega arith)
    (λ i lt. bit_at_xor a (2 ^ 64 - 1) i ∙ ap (λ z. (bit_at a i + z) % 2) (bit_at_ones 64 i lt) ∙ one-bit (bit_at a i) (bit-small a i) ∙ sym (bit_at_not w64 a i h lt))

-- ---- the bytes of a word in the other order
-- this many further bytes of x after those that y has
abbrev swapped_from : ℕ → ℕ → ℕ → ℕ
swapped_from zero x y = y
swapped_from (suc n) x y = swapped_from n (x / 256) (y * 256 + x / 256 % 256)

-- below this number, this many bytes more leave a word
abbrev room_for : ℕ → ℕ
room_for zero = 2 ^ 64
room_for (suc n) = room_for n / 256

room-small : (n : ℕ) → room_for n ≤ 2 ^ 64
room-small zero = omega arith
room-small (suc n) = omega (arith, room-small n)

fits-more : (l y b : ℕ) → y < l / 256 → b < 256 → y * 256 + b < l
fits-more l y b h k = omega (arith, h, k)

fits-shift : (l y : ℕ) → l ≤ 2 ^ 64 → y < l / 256 → y < 2 ^ 56
fits-shift l y h k = omega (arith, h, k)

byte-joined : (y b : ℕ) → y < 2 ^ 56 → b < 256 → bit_or (shifted_left y 8) b ≡ y * 256 + b
byte-joined y b h k = ap (λ z. bit_or z b) (let e : shifted_left y 8 ≡ y * 2 ^ 8 = omega (arith, h) in e) ∙ or_shifted y 8 b k

swapped-2 : (v : ℕ) → swapped_from 1 v (v % 256) ≡ swapped v 2
swapped-2 v = omega arith

swapped-4 : (v : ℕ) → swapped_from 3 v (v % 256) ≡ swapped v 4
swapped-4 v = omega arith

swapped-8 : (v : ℕ) → swapped_from 7 v (v % 256) ≡ swapped v 8
swapped-8 v = omega arith

module _ (d : ℕ) (some : d ≢ 0) (link : d ≢ 1) (carry : d ≢ 31) where
  link-carry : ◌≢◌ {A = ℕ} 1 31
  link-carry = λ e. absurd (omega (arith, e))

  -- the registers after one further byte
  after-byte : (w : ℕ → ℕ) (x y : ℕ) → w 1 ≡ x → read w d ≡ y
      → computed (more_bytes_code d 1) w ≡ put (put (put (put w 1 (x / 256)) 31 (bit_and (x / 256) 255)) d (shifted_left y 8)) d (bit_or (shifted_left y 8) (bit_and (x / 256) 255))
  after-byte w x y ex ey =
      let w1 = put w 1 (x / 256) in
      let w2 = put w1 31 (bit_and (x / 256) 255) in
      let w3 = put w2 d (shifted_left y 8) in
      let e1 : put w 1 (w 1 / 256) ≡ w1 = ap (λ z. put w 1 (z / 256)) ex in
      let e2 : put w1 31 (bit_and (w1 1) 255) ≡ w2 = ap (λ z. put w1 31 (bit_and z 255)) (put-same w 1 (x / 256)) in
      let r3 : read w2 d ≡ y = read-other w1 31 (bit_and (x / 256) 255) d carry ∙ read-other w 1 (x / 256) d link ∙ ey in
      let e3 : put w2 d (shifted_left (read w2 d) 8) ≡ w3 = ap (λ z. put w2 d (shifted_left z 8)) r3 in
      let r4 : read w3 d ≡ shifted_left y 8 = read-put w2 d (shifted_left y 8) some in
      let r5 : w3 31 ≡ bit_and (x / 256) 255 = put-other w2 d (shifted_left y 8) 31 (λ e. carry (sym e)) ∙ put-same w1 31 (bit_and (x / 256) 255) in
      ap (λ u. computed (Imm Andi 31 1 (pos 255) ∷ Shift Slli d d 8 ∷ Reg row.Or d d 31 ∷ []) u) e1
      ∙ ap (λ u. computed (Shift Slli d d 8 ∷ Reg row.Or d d 31 ∷ []) u) e2
      ∙ ap (λ u. computed (Reg row.Or d d 31 ∷ []) u) e3
      ∙ (λ i. put w3 d (bit_or (r4 i) (r5 i)))

  more-bytes : (n : ℕ) (w : ℕ → ℕ) (x y : ℕ) → w 1 ≡ x → read w d ≡ y → y < room_for n → computed (more_bytes_code d n) w d ≡ swapped_from n x y
  more-bytes zero w x y ex ey small = sym (read-self w) ∙ ey
    where
      read-self : (w : ℕ → ℕ) → read w d ≡ w d
      read-self w = grind (arith, some)
  more-bytes (suc n) w x y ex ey small =
      let b : bit_and (x / 256) 255 < 256 = let e = low-byte (x / 256) in omega (arith, e) in
      let s = shifted_left y 8 in
      let v = bit_and (x / 256) 255 in
      let u = put (put (put (put w 1 (x / 256)) 31 v) d s) d (bit_or s v) in
      let joined : bit_or s v ≡ y * 256 + x / 256 % 256 = byte-joined y v (fits-shift (room_for n) y (room-small n) small) b ∙ ap (λ z. y * 256 + z) (low-byte (x / 256)) in
      let at-link : u 1 ≡ x / 256 = put-other (put (put (put w 1 (x / 256)) 31 v) d s) d (bit_or s v) 1 (λ e. link (sym e)) ∙ put-other (put (put w 1 (x / 256)) 31 v) d s 1 (λ e. link (sym e)) ∙ put-other (put w 1 (x / 256)) 31 v 1 link-carry ∙ put-same w 1 (x / 256) in
      let at-d : read u d ≡ y * 256 + x / 256 % 256 = read-put (put (put (put w 1 (x / 256)) 31 v) d s) d (bit_or s v) some ∙ joined in
      ap (λ z. computed (more_bytes_code d n) z d) (after-byte w x y ex ey)
      ∙ more-bytes n u (x / 256) (y * 256 + x / 256 % 256) at-link at-d (fits-more (room_for n) y (x / 256 % 256) small (omega arith))

  more-keep : (n : ℕ) (w : ℕ → ℕ) (r : ℕ) → r ≢ d → r ≢ 1 → r ≢ 31 → computed (more_bytes_code d n) w r ≡ w r
  more-keep zero w r a b c = refl
  more-keep (suc n) w r a b c =
      more-keep n _ r a b c ∙ put-other (put (put (put w 1 _) 31 _) d _) d _ r a ∙ put-other (put (put w 1 _) 31 _) d _ r a ∙ put-other (put w 1 _) 31 _ r c ∙ put-other w 1 _ r b

  -- the low byte, and further ones
  swapped-value : (a n : ℕ) (w : ℕ → ℕ) (words : (r : ℕ) → w r < 2 ^ 64) → 256 ≤ room_for n → computed (swapped_code d a n) w d ≡ swapped_from n (read w a) (read w a % 256)
  swapped-value a n w words room =
      let x = read w a in
      let e1 : put w 1 (add_words x 0) ≡ put w 1 x = ap (put w 1) (add-none x (read-small w a words)) in
      let w1 = put w 1 x in
      let e2 : put w1 d (bit_and (w1 1) 255) ≡ put w1 d (x % 256) = ap (put w1 d) (ap (λ z. bit_and z 255) (put-same w 1 x) ∙ low-byte x) in
      ap (λ u. computed (Imm Andi d 1 (pos 255) ∷ more_bytes_code d n) u d) e1
      ∙ ap (λ u. computed (more_bytes_code d n) u d) e2
      ∙ more-bytes n (put w1 d (x % 256)) x (x % 256) (put-other w1 d (x % 256) 1 (λ e. link (sym e)) ∙ put-same w 1 x) (read-put w1 d (x % 256) some) (omega (arith, room))

  swapped-keep : (a n : ℕ) (w : ℕ → ℕ) (r : ℕ) → r ≢ d → r ≢ 1 → r ≢ 31 → computed (swapped_code d a n) w r ≡ w r
  swapped-keep a n w r x y z = more-keep n _ r x y z ∙ put-other (put w 1 _) d _ r x ∙ put-other w 1 _ r y

  -- ---- the operations
  pub unary-computed : (o : UnaryOp) (a : ℕ) (w : ℕ → ℕ) → ((r : ℕ) → w r < 2 ^ 64) → computed (unary_code o d a) w d ≡ unary_value o (read w a)
  unary-computed unary.Neg a w words = puts w d _ _ (minus (read w a))
  unary-computed unary.Com a w words = puts w d _ _ (all-turned (read w a) (read-small w a words))
  unary-computed unary.Mov a w words = puts w d _ _ (add-none (read w a) (read-small w a words))
  unary-computed unary.ExtrC a w words = puts-again w d (shifted_left (read w a) 56) (λ t. shifted_right_signed t 56) _ some (extr-c (read w a) (read-small w a words))
  unary-computed unary.ExtrUc a w words = puts w d _ _ (low-byte (read w a))
  unary-computed unary.ExtrS a w words = puts-again w d (shifted_left (read w a) 48) (λ t. shifted_right_signed t 48) _ some (extr-s (read w a) (read-small w a words))
  unary-computed unary.ExtrUs a w words = puts-again w d (shifted_left (read w a) 48) (λ t. shifted_right t 48) _ some (extr-us (read w a) (read-small w a words))
  unary-computed unary.ExtrI a w words = puts w d _ _ (extr-i (read w a) (read-small w a words))
  unary-computed unary.ExtrUi a w words = puts-again w d (shifted_left (read w a) 32) (λ t. shifted_right t 32) _ some (extr-ui (read w a) (read-small w a words))
  unary-computed unary.HtonrUs a w words = swapped-value a 1 w words (omega arith) ∙ swapped-2 (read w a)
  unary-computed unary.HtonrUi a w words = swapped-value a 3 w words (omega arith) ∙ swapped-4 (read w a)
  unary-computed unary.HtonrUl a w words = swapped-value a 7 w words (omega arith) ∙ swapped-8 (read w a)

  pub unary-keeps : (o : UnaryOp) (a : ℕ) (w : ℕ → ℕ) (r : ℕ) → r ≢ d → r ≢ 1 → r ≢ 31 → computed (unary_code o d a) w r ≡ w r
  unary-keeps unary.ExtrC a w r x y z = put-other (put w d _) d _ r x ∙ put-other w d _ r x
  unary-keeps unary.ExtrS a w r x y z = put-other (put w d _) d _ r x ∙ put-other w d _ r x
  unary-keeps unary.ExtrUs a w r x y z = put-other (put w d _) d _ r x ∙ put-other w d _ r x
  unary-keeps unary.ExtrUi a w r x y z = put-other (put w d _) d _ r x ∙ put-other w d _ r x
  unary-keeps unary.HtonrUs a w r x y z = swapped-keep a 1 w r x y z
  unary-keeps unary.HtonrUi a w r x y z = swapped-keep a 3 w r x y z
  unary-keeps unary.HtonrUl a w r x y z = swapped-keep a 7 w r x y z
  unary-keeps o a w r x y z = put-other w d _ r x

pub unary-computes : (o : UnaryOp) (d a : ℕ) → all_compute (unary_code o d a) ≡ true
unary-computes unary.Neg d a = refl
unary-computes o d a = refl
