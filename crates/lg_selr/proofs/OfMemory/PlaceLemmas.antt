-- How an address is made: the code computes it into the link, or changes nothing; and when it is a multiple of the width.
use Rattle.std.proofs.Common.{◌≡◌, ◌≢◌, ℕ, ◌-◌, ◌*◌, ◌%◌, ◌^◌, ◌<◌, ◌⊎◌, inl, inr, Bool, true, false, List, [], ◌∷◌, ◌++◌, refl, sym, ap, ◌∙◌, arith, subst, bit_and}
use Rattle.std.specs.Prelude.{if◌then◌else◌, ◌==◌, ◌&&◌, nat_lt, pos, negsuc}
use Rattle.std.proofs.lemmas.Nat.{and_mask}
use Rattle.std.proofs.lemmas.Bool.{and_parts, or_cases}
use Rattle.lg_op.specs.declared.op.ValueType.{ValueType}
use Rattle.lg_op.specs.declared.op.ValueType.TheVariants as value_type
use Rattle.lg_op.specs.declared.op.StoreType.{StoreType}
use Rattle.lg_op.specs.declared.op.StoreType.TheVariants as store_type
use Rattle.lg_op.specs.declared.operand.Reg.TheVariants.{R0, Fp}
use Rattle.lg_op.specs.Operators.{width, store_width}
use Rattle.lg_rv.specs.declared.instruction.UpperOp.TheVariants.{Lui}
use Rattle.lg_carry.specs.Processors.{Seen}
use Rattle.lg_carry.specs.Nodes.Stretches.{HasFrame}
use Rattle.lg_base.specs.Fields.{word_of}
use Rattle.lg_base.specs.Words.{add_words, sign_32}
use Rattle.lg_base.specs.declared.target.Target.TheVariants.{Riscv64}
use Rattle.lg_op.specs.declared.operand.Reg.{Reg}
use Rattle.lg_rv.specs.declared.instruction.Instr.{Instr}
use Rattle.lg_rv.specs.declared.instruction.Instr.TheVariants as instr
use Rattle.lg_rv.specs.declared.instruction.ImmOp.TheVariants.{Addi}
use Rattle.lg_rv.specs.declared.instruction.RegOp.TheVariants as row
use Rattle.lg_cpu.specs.HostSteps.{put}
use Rattle.lg_cpu.specs.RvStep.{read}
use Rattle.lg_temp.specs.Abis.{register_of}
use Rattle.lg_selr_values.specs.Processor.Computations.{all_compute, computed}
use Rattle.lg_selr_values.specs.Processor.Numbers.{is_short, high_part, low_part, number_code}
use Rattle.lg_selr_values.specs.Processor.RvComputers.{rv_scratch}
use Rattle.lg_selr_values.proofs.OfProcessor.ComputationLemmas.{pointwise, read-put, read-other, put-same, put-other, computed-append, all-compute-append}
use Rattle.lg_selr_values.proofs.OfProcessor.NumberCodeLemmas.{short-word, numbers-are-loaded}
use Rattle.lg_selr_values.proofs.OfProcessor.RegisterLemmas.{register-apart, read-of}
use Rattle.lg_carry.specs.Memory.Accesses.{Address, Base, At, Sum, Index, address_word, IsAddress}
use Rattle.lg_selr.specs.Memory.Accesses.{link, Place, at_link, is_frame, is_whole, near, is_low, place_of}

-- a register that is none of the scratch registers
pub off-scratch : (x : ℕ) → rv_scratch x ≡ false → (x ≢ 0) × (x ≢ 1)
off-scratch x e = (λ z. absurd (grind (arith, e, z)), λ z. absurd (grind (arith, e, z)))

-- ---- widths
abbrev pub IsWidth : ℕ → Type 0
IsWidth w = (w ≡ 1) ⊎ ((w ≡ 2) ⊎ ((w ≡ 4) ⊎ (w ≡ 8)))

each-width : (P : ℕ → Type 0) → P 1 → P 2 → P 4 → P 8 → (w : ℕ) → IsWidth w → P w
each-width P a b c d w (inl e) = subst P (sym e) a
each-width P a b c d w (inr (inl e)) = subst P (sym e) b
each-width P a b c d w (inr (inr (inl e))) = subst P (sym e) c
each-width P a b c d w (inr (inr (inr e))) = subst P (sym e) d

pub load-width : (t : ValueType) → IsWidth (width t)
load-width value_type.Char = inl refl
load-width value_type.UnsignedChar = inl refl
load-width value_type.Short = inr (inl refl)
load-width value_type.UnsignedShort = inr (inl refl)
load-width value_type.Int = inr (inr (inl refl))
load-width value_type.UnsignedInt = inr (inr (inl refl))
load-width value_type.Long = inr (inr (inr refl))

pub store-width : (t : StoreType) → IsWidth (store_width t)
store-width store_type.Char = inl refl
store-width store_type.Short = inr (inl refl)
store-width store_type.Int = inr (inr (inl refl))
store-width store_type.Long = inr (inr (inr refl))

is-zero : (n : ℕ) → (n == 0) ≡ true → n ≡ 0
is-zero n h = grind (arith, h)

-- the low bits of a multiple
low-1 : (v : ℕ) → word_of (low_part v) % 1 ≡ 0
low-1 v = omega arith

low-2 : (v : ℕ) (b : Bool) → nat_lt (v % 4096) 2048 ≡ b → v % 2 ≡ 0 → word_of (if b then pos (v % 4096) else negsuc (4095 - v % 4096)) % 2 ≡ 0
low-2 v true e h = omega (arith, h)
low-2 v false e h = omega (arith, h)

low-4 : (v : ℕ) (b : Bool) → nat_lt (v % 4096) 2048 ≡ b → v % 4 ≡ 0 → word_of (if b then pos (v % 4096) else negsuc (4095 - v % 4096)) % 4 ≡ 0
low-4 v true e h = omega (arith, h)
low-4 v false e h = omega (arith, h)

low-8 : (v : ℕ) (b : Bool) → nat_lt (v % 4096) 2048 ≡ b → v % 8 ≡ 0 → word_of (if b then pos (v % 4096) else negsuc (4095 - v % 4096)) % 8 ≡ 0
low-8 v true e h = omega (arith, h)
low-8 v false e h = omega (arith, h)

low-even : (w v : ℕ) → IsWidth w → (v % w == 0) ≡ true → word_of (low_part v) % w ≡ 0
low-even w v is h = each-width (λ n. v % n ≡ 0 → word_of (low_part v) % n ≡ 0) (λ e. low-1 v) (low-2 v (nat_lt (v % 4096) 2048) refl) (low-4 v (nat_lt (v % 4096) 2048) refl) (low-8 v (nat_lt (v % 4096) 2048) refl) w is (is-zero (v % w) h)

none-even : (w : ℕ) → IsWidth w → 0 % w ≡ 0
none-even w is = each-width (λ n. 0 % n ≡ 0) (omega arith) (omega arith) (omega arith) (omega arith) w is

-- the sum with a multiple is as even as the other
pub sum-even : (w b o : ℕ) → IsWidth w → o % w ≡ 0 → add_words b o % w ≡ b % w
sum-even w b o is h = each-width (λ n. o % n ≡ 0 → add_words b o % n ≡ b % n) (λ e. omega (arith, e)) (λ e. omega (arith, e)) (λ e. omega (arith, e)) (λ e. omega (arith, e)) w is h

sum-both : (w b o : ℕ) → IsWidth w → b % 16 ≡ 0 → o % w ≡ 0 → (add_words b o % w == 0) ≡ true
sum-both w b o is h k = each-width (λ n. o % n ≡ 0 → (add_words b o % n == 0) ≡ true) (λ e. grind (arith, e, h)) (λ e. grind (arith, e, h)) (λ e. grind (arith, e, h)) (λ e. grind (arith, e, h)) w is k

-- a mask takes the low bits
pub masked : (w x : ℕ) → IsWidth w → bit_and x (w - 1) ≡ x % w
masked w x is = each-width (λ n. bit_and x (n - 1) ≡ x % n) (and_mask x 0) (and_mask x 1) (and_mask x 2) (and_mask x 3) w is

-- ---- places
-- the code computes the address into the link alone, or none; the offset is a multiple of the width
pub record IsPlaced (width : ℕ) (p : Place) (w : ℕ → ℕ) (a : ℕ) : Type 0 where
  pub computes : all_compute p.code ≡ true
  pub keeps : (x : ℕ) → x ≢ 1 → computed p.code w x ≡ w x
  pub makes : add_words (read (computed p.code w) p.base) (word_of p.offset) ≡ a
  pub even : word_of p.offset % width ≡ 0

small : (a : ℕ) → a < 2 ^ 64 → add_words a 0 ≡ a
small a h = grind (arith, h)

sum-small : (b c : ℕ) → add_words b c < 2 ^ 64
sum-small b c = omega arith

number-placed : (width v : ℕ) (w : ℕ → ℕ) → IsWidth width → v < 2 ^ 64 → IsPlaced width (at_link (number_code link v)) w v
number-placed width v w is lt =
    let k = numbers-are-loaded link v (λ e. absurd (omega (arith, e))) (omega arith) lt in
    let z : computed (number_code link v) w ≡ put w 1 v = pointwise (computed (number_code link v) w) (put w 1 v) (k.value w) in
    record {
      computes = k.computes;
      keeps = λ x ne. k.value w x ∙ put-other w 1 v x ne;
      makes = ap (λ f. add_words (read f 1) 0) z ∙ ap (λ y. add_words y 0) (read-put w 1 v (λ e'. absurd (omega (arith, e')))) ∙ small v lt;
      even = none-even width is;
    }

-- `lui` and an offset
high-made : (v : ℕ) → v < 0x7FFFF800 → add_words (sign_32 (high_part v * 4096)) (word_of (low_part v)) ≡ v
high-made v high = by (nat_lt (v % 4096) 2048) refl
  where
    by : (b : Bool) → nat_lt (v % 4096) 2048 ≡ b → add_words (sign_32 (high_part v * 4096)) (word_of (if b then pos (v % 4096) else negsuc (4095 - v % 4096))) ≡ v
    by true e = grind (arith, high, e)
    by false e = grind (arith, high, e)

below : (m n : ℕ) → nat_lt m n ≡ true → m < n
below m n h = grind (arith, h)

absolute-placed : (width v : ℕ) (w : ℕ → ℕ) → IsWidth width → v < 2 ^ 64 → (b : Bool) → is_low width v ≡ b
    → IsPlaced width (if b then record { code = instr.Upper Lui link (high_part v) ∷ []; base = link; offset = low_part v } else at_link (number_code link v)) w v
absolute-placed width v w is lt true low =
    let p = and_parts (nat_lt v 0x7FFFF800) (v % width == 0) low in
    record {
      computes = refl;
      keeps = λ x ne. put-other w 1 (sign_32 (high_part v * 4096)) x ne;
      makes = ap (λ y. add_words y (word_of (low_part v))) (read-put w 1 (sign_32 (high_part v * 4096)) (λ e'. absurd (omega (arith, e')))) ∙ high-made v (below v 0x7FFFF800 p.0);
      even = low-even width v is p.1;
    }
absolute-placed width v w is lt false far = number-placed width v w is lt

near-placed : (width : ℕ) (a : Reg) (v : ℕ) (w : ℕ → ℕ) → IsWidth width → v < 2 ^ 64 → is_short v ≡ true → (b : Bool) → (v % width == 0) ≡ b
    → IsPlaced width (if b then record { code = []; base = register_of Riscv64 a; offset = low_part v } else at_link (instr.Imm Addi link (register_of Riscv64 a) (low_part v) ∷ [])) w (add_words (w (register_of Riscv64 a)) v)
near-placed width a v w is lt close true even = record {
  computes = refl;
  keeps = λ x ne. refl;
  makes = (let e = read-of w a in let z = short-word v lt close in λ i. add_words (e i) (z i));
  even = low-even width v is even;
}
near-placed width a v w is lt close false odd =
    let r = register_of Riscv64 a in
    let sum = add_words (read w r) (word_of (low_part v)) in
    let total : sum ≡ add_words (w r) v = (let e = read-of w a in let z = short-word v lt close in λ i. add_words (e i) (z i)) in
    record {
      computes = refl;
      keeps = λ x ne. put-other w 1 sum x ne;
      makes = ap (λ y. add_words y 0) (read-put w 1 sum (λ e'. absurd (omega (arith, e'))) ∙ total) ∙ small (add_words (w r) v) (sum-small (w r) v);
      even = none-even width is;
    }

indexed-placed : (width : ℕ) (a : Reg) (v : ℕ) (w : ℕ → ℕ) → IsWidth width → v < 2 ^ 64 → (b : Bool) → is_short v ≡ b
    → IsPlaced width (if b then near width (register_of Riscv64 a) v else at_link (number_code link v ++ instr.Reg row.Add link (register_of Riscv64 a) link ∷ [])) w (add_words (w (register_of Riscv64 a)) v)
indexed-placed width a v w is lt true close = near-placed width a v w is lt close (v % width == 0) refl
indexed-placed width a v w is lt false far =
    let r = register_of Riscv64 a in
    let k = numbers-are-loaded link v (λ e. absurd (omega (arith, e))) (omega arith) lt in
    let all : computed (number_code link v ++ instr.Reg row.Add link r link ∷ []) w ≡ put (put w 1 v) 1 (add_words (read (put w 1 v) r) (read (put w 1 v) 1)) =
    computed-append (number_code link v) (instr.Reg row.Add link r link ∷ []) w ∙ ap (computed (instr.Reg row.Add link r link ∷ [])) (pointwise (computed (number_code link v) w) (put w 1 v) (k.value w)) in
    let total : add_words (read (put w 1 v) r) (read (put w 1 v) 1) ≡ add_words (w r) v = (let e = read-other w 1 v r (register-apart a).0 ∙ read-of w a in let f = read-put w 1 v (λ e'. absurd (omega (arith, e'))) in λ i. add_words (e i) (f i)) in
    record {
      computes = all-compute-append (number_code link v) (instr.Reg row.Add link r link ∷ []) k.computes refl;
      keeps = λ z ne. ap (λ g. g z) all ∙ put-other (put w 1 v) 1 (add_words (read (put w 1 v) r) (read (put w 1 v) 1)) z ne ∙ put-other w 1 v z ne;
      makes = ap (λ g. add_words (read g 1) 0) all ∙ ap (λ y. add_words y 0) (read-put (put w 1 v) 1 (add_words (read (put w 1 v) r) (read (put w 1 v) 1)) (λ e'. absurd (omega (arith, e'))) ∙ total) ∙ small (add_words (w r) v) (sum-small (w r) v);
      even = none-even width is;
    }

pub placed : (width : ℕ) (at : Address) (w : ℕ → ℕ) → IsWidth width → IsAddress at → ((x : ℕ) → w x < 2 ^ 64) → IsPlaced width (place_of width at) w (address_word Riscv64 w at)
placed width (Base a) w is ok words = record { computes = refl; keeps = λ x ne. refl; makes = ap (λ y. add_words y 0) (read-of w a) ∙ small (w (register_of Riscv64 a)) (words (register_of Riscv64 a)); even = none-even width is }
placed width (At v) w is ok words = absolute-placed width v w is ok (is_low width v) refl
placed width (Sum a b) w is ok words = record {
  computes = refl;
  keeps = λ x ne. put-other w 1 _ x ne;
  makes = ap (λ z. add_words z 0) (read-put w 1 (add_words (read w (register_of Riscv64 a)) (read w (register_of Riscv64 b))) (λ e'. absurd (omega (arith, e'))) ∙ (let e = read-of w a in let f = read-of w b in λ i. add_words (e i) (f i)))
      ∙ small (add_words (w (register_of Riscv64 a)) (w (register_of Riscv64 b))) (sum-small (w (register_of Riscv64 a)) (w (register_of Riscv64 b)));
  even = none-even width is;
}
placed width (Index a v) w is ok words = indexed-placed width a v w is ok (is_short v) refl

-- ---- where an address is known to be a multiple, it is one
single : (width a : ℕ) → (width == 1) ≡ true → (a % width == 0) ≡ true
single width a e = let z : width ≡ 1 = grind (arith, e) in ap (λ n. a % n == 0) z ∙ (let y : (a % 1 == 0) ≡ true = grind arith in y)

frame-is : (a : Reg) → is_frame a ≡ true → register_of Riscv64 a ≡ 8
frame-is Fp e = refl
frame-is R0 e = cc
frame-is o e = cc

pub whole-even : (width : ℕ) (at : Address) (w : ℕ → ℕ) → IsWidth width → w 8 % 16 ≡ 0 → is_whole width at ≡ true → (address_word Riscv64 w at % width == 0) ≡ true
whole-even width (Base a) w is fp h = by (or_cases (width == 1) (is_frame a) h)
  where
    sixteen : (n : ℕ) → n % 16 ≡ 0 → (n % width == 0) ≡ true
    sixteen n e = each-width (λ m. (n % m == 0) ≡ true) (grind (arith, e)) (grind (arith, e)) (grind (arith, e)) (grind (arith, e)) width is

    by : ((width == 1) ≡ true) ⊎ (is_frame a ≡ true) → (w (register_of Riscv64 a) % width == 0) ≡ true
    by (inl e) = single width (w (register_of Riscv64 a)) e
    by (inr e) = sixteen (w (register_of Riscv64 a)) (ap (λ r. w r % 16) (frame-is a e) ∙ fp)
whole-even width (At v) w is fp h = h
whole-even width (Sum a b) w is fp h = single width (add_words (w (register_of Riscv64 a)) (w (register_of Riscv64 b))) h
whole-even width (Index a v) w is fp h = by (or_cases (width == 1) (is_frame a && (v % width == 0)) h)
  where
    by : ((width == 1) ≡ true) ⊎ ((is_frame a && (v % width == 0)) ≡ true) → (add_words (w (register_of Riscv64 a)) v % width == 0) ≡ true
    by (inl e) = single width (add_words (w (register_of Riscv64 a)) v) e
    by (inr e) =
        let p = and_parts (is_frame a) (v % width == 0) e in
        sum-both width (w (register_of Riscv64 a)) v is (ap (λ r. w r % 16) (frame-is a p.0) ∙ fp) (is-zero (v % width) p.1)

pub frame-whole : (frame : ℕ) (q : Seen) → HasFrame Riscv64 frame q → q.registers 8 % 16 ≡ 0
frame-whole frame q f = let p = f.pointer in let a = f.whole in let b = f.whole_frame in let c = f.large in omega (arith, p, a, b, c)

-- a register other than x0 is read as it is
pub read-some : (w : ℕ → ℕ) (r : ℕ) → r ≢ 0 → read w r ≡ w r
read-some w r ne = grind (arith, ne)

-- with one instruction more the address is in the link
abbrev pub to_link : Place → List Instr
to_link p = p.code ++ instr.Imm Addi link p.base p.offset ∷ []

pub record IsLinked (p : Place) (w : ℕ → ℕ) (a : ℕ) : Type 0 where
  pub computes : all_compute (to_link p) ≡ true
  pub keeps : (x : ℕ) → x ≢ 1 → computed (to_link p) w x ≡ w x
  pub holds : computed (to_link p) w 1 ≡ a

pub linked : (width : ℕ) (p : Place) (w : ℕ → ℕ) (a : ℕ) → IsPlaced width p w a → IsLinked p w a
linked width p w a m =
    let last = instr.Imm Addi link p.base p.offset ∷ [] in
    let mid = computed p.code w in
    let sum = add_words (read mid p.base) (word_of p.offset) in
    let all : computed (p.code ++ last) w ≡ put mid 1 sum = computed-append p.code last w in
    record {
      computes = all-compute-append p.code last m.computes refl;
      keeps = λ x ne. ap (λ f. f x) all ∙ put-other mid 1 sum x ne ∙ m.keeps x ne;
      holds = ap (λ f. f 1) all ∙ put-same mid 1 sum ∙ m.makes;
    }
