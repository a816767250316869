-- Reading the next variable argument of the function.
use Rattle.lg_carry.specs.Memory.Accesses.{LiesAbove}
use Rattle.std.proofs.Common.{◌≡◌, ◌≢◌, ℕ, suc, ◌+◌, ◌<◌, ◌≤◌, ◌^◌, ◌%◌, Bool, true, false, List, [], ◌∷◌, refl, sym, ap, ◌∙◌, arith}
use Rattle.std.specs.Prelude.{◌==◌, bit_and, negsuc, pos, if◌then◌else◌}
use Rattle.lg_base.specs.Fields.{word_of}
use Rattle.lg_base.specs.Layout.{frame_pointer}
use Rattle.lg_base.specs.Words.{add_words, mul_words, shifted_left}
use Rattle.lg_base.specs.declared.target.Target.TheVariants.{Riscv64}
use Rattle.lg_op.specs.declared.op.ValueType.TheVariants as value_type
use Rattle.lg_op.specs.declared.operand.Reg.{Reg}
use Rattle.lg_op.specs.declared.operand.Reg.TheVariants.{Fp}
use Rattle.lg_rv.specs.declared.instruction.Instr.TheVariants as instr
use Rattle.lg_rv.specs.declared.instruction.ImmOp.TheVariants as imm
use Rattle.lg_cpu.specs.HostSteps.{put}
use Rattle.lg_cpu.specs.RvStep.{read}
use Rattle.lg_temp.specs.Abis.{register_of}
use Rattle.lg_carry.specs.Processors.{Seen}
use Rattle.lg_carry.specs.Spills.{Does, with_register}
use Rattle.lg_selr_values.specs.Processor.Computations.{computed}
use Rattle.lg_selr_values.specs.Processor.RvComputers.{rv_scratch, rv_computer}
use Rattle.lg_selr_values.specs.Processor.RvRows.{rv_rows, rv_seen}
use Rattle.lg_selr_values.proofs.OfProcessor.ComputationLemmas.{read-put, read-other, put-other, spellings-long}
use Rattle.lg_selr_values.proofs.OfProcessor.ComputerLemmas.{is-computer}
use Rattle.lg_selr_values.proofs.OfProcessor.RegisterLemmas.{register-apart, register-nonzero, register-no-stack}
use Rattle.lg_carry.specs.Nodes.Straight.{spoils, from_to}
use Rattle.lg_carry.proofs.OfValues.ComputationLemmas.{computations-do}
use Rattle.lg_carry.proofs.OfValues.TwoResultLemmas.{registers-apart}
use Rattle.lg_carry.specs.Memory.Arguments.{argument_place}
use Rattle.lg_carry.specs.Memory.Loads.{IsReadable}
use Rattle.lg_carry.specs.Memory.VariableArguments.{NextArgumentsDo, HasNextArgumentCode}
use Rattle.lg_carry.proofs.OfMemory.AfterLemmas.{told, in-a-row}
use Rattle.lg_selr.specs.Memory.Accesses.{link}
use Rattle.lg_selr.specs.Memory.VariableArgumentCode.{next_place_code, next_argument_instrs, rv_next_argument}
use Rattle.lg_selr.proofs.OfMemory.EndLemmas.{after-registers}
use Rattle.lg_selr.proofs.OfMemory.LoadLemmas.{load-keeps}
use Rattle.lg_selr.proofs.OfMemory.PlaceLemmas.{off-scratch, read-some}

-- ---- the place
-- -8 for a number below 8, and else 8
abbrev factor : ℕ → ℕ
factor k = add_words (shifted_left (bit_and k 8) 1) (word_of (negsuc 7))

-- how far the place of argument k is from that of a number 1
abbrev distance : ℕ → ℕ
distance k = mul_words (add_words k (word_of (negsuc 0))) (factor k)

place-leads : (sp k : ℕ) → k < 16 → 272 ≤ sp → sp ≤ 0x40000000 → add_words (add_words (distance k) (frame_pointer sp)) (word_of (negsuc 39)) ≡ argument_place Riscv64 sp k
place-leads sp (suc (suc (suc (suc (suc (suc (suc (suc (suc (suc (suc (suc (suc (suc (suc (suc k)))))))))))))))) few low high = absurd (omega (arith, few))
place-leads sp k few low high = omega (arith, low, high)

-- ---- the registers
-- two registers that are neither x0 nor the link nor FP
record AreApart (d s : ℕ) : Type 0 where
  some : d ≢ 0
  unlinked : d ≢ 1
  frame : d ≢ 8
  some_next : s ≢ 0
  unlinked_next : s ≢ 1
  apart : s ≢ d

register-no-frame : (r : Reg) → r ≢ Fp → register_of Riscv64 r ≢ 8
register-no-frame Fp ne = absurd (ne refl)
register-no-frame r ne = λ e. absurd (omega (arith, e))

are-apart : (d s : Reg) → d ≢ Fp → s ≢ Fp → d ≢ s → AreApart (register_of Riscv64 d) (register_of Riscv64 s)
are-apart d s nd ns apart = record {
  some = register-nonzero d;
  unlinked = (register-apart d).0;
  frame = register-no-frame d nd;
  some_next = register-nonzero s;
  unlinked_next = (register-apart s).0;
  apart = λ e. registers-apart Riscv64 d s nd ns apart (sym e);
}

link-some : link ≢ 0
link-some e = absurd (omega (arith, e))

frame-no-link : (x : ℕ) → x ≡ 8 → x ≢ link
frame-no-link x e z = absurd (omega (arith, e, z))

-- the code of the place computes it into the one register, and changes no other but the link
record IsPlaced (d s k fp : ℕ) (w : ℕ → ℕ) : Type 0 where
  holds : read (computed (next_place_code d s) w) d ≡ add_words (distance k) fp
  keeps : (y : ℕ) → y ≢ d → y ≢ 1 → computed (next_place_code d s) w y ≡ w y

placed : (d s k fp : ℕ) (w : ℕ → ℕ) → AreApart d s → w s ≡ k → w 8 ≡ fp → IsPlaced d s k fp w
placed d s k fp w a number pointer =
    let t1 = bit_and (read w s) 8 in
    let w1 : ℕ → ℕ = put w 1 t1 in
    let t2 = shifted_left (read w1 1) 1 in
    let w2 : ℕ → ℕ = put w1 1 t2 in
    let t3 = add_words (read w2 1) (word_of (negsuc 7)) in
    let w3 : ℕ → ℕ = put w2 1 t3 in
    let t4 = add_words (read w3 s) (word_of (negsuc 0)) in
    let w4 : ℕ → ℕ = put w3 d t4 in
    let t5 = mul_words (read w4 d) (read w4 1) in
    let w5 : ℕ → ℕ = put w4 d t5 in
    let t6 = add_words (read w5 d) (read w5 8) in
    let own : read w s ≡ k = read-some w s a.some_next ∙ number in
    let e1 : t1 ≡ bit_and k 8 = ap (λ x. bit_and x 8) own in
    let e2 : t2 ≡ shifted_left (bit_and k 8) 1 = ap (λ x. shifted_left x 1) (read-put w 1 t1 link-some ∙ e1) in
    let e3 : t3 ≡ factor k = ap (λ x. add_words x (word_of (negsuc 7))) (read-put w1 1 t2 link-some ∙ e2) in
    let later : read w3 s ≡ k = read-other w2 1 t3 s a.unlinked_next ∙ read-other w1 1 t2 s a.unlinked_next ∙ read-other w 1 t1 s a.unlinked_next ∙ own in
    let e4 : t4 ≡ add_words k (word_of (negsuc 0)) = ap (λ x. add_words x (word_of (negsuc 0))) later in
    let left : read w4 d ≡ add_words k (word_of (negsuc 0)) = read-put w3 d t4 a.some ∙ e4 in
    let right : read w4 1 ≡ factor k = read-other w3 d t4 1 (λ e. a.unlinked (sym e)) ∙ read-put w2 1 t3 link-some ∙ e3 in
    let e5 : t5 ≡ distance k = λ i. mul_words (left i) (right i) in
    let from : read w5 d ≡ distance k = read-put w4 d t5 a.some ∙ e5 in
    let base : read w5 8 ≡ fp =
    read-other w4 d t5 8 (λ e. a.frame (sym e)) ∙ read-other w3 d t4 8 (λ e. a.frame (sym e)) ∙ read-other w2 1 t3 8 (frame-no-link 8 refl) ∙ read-other w1 1 t2 8 (frame-no-link 8 refl) ∙ read-other w 1 t1 8 (frame-no-link 8 refl) ∙ pointer in
    let e6 : t6 ≡ add_words (distance k) fp = λ i. add_words (from i) (base i) in
    record {
      holds = read-put w5 d t6 a.some ∙ e6;
      keeps = λ y nd nl. put-other w5 d t6 y nd ∙ put-other w4 d t5 y nd ∙ put-other w3 d t4 y nd ∙ put-other w2 1 t3 y nl ∙ put-other w1 1 t2 y nl ∙ put-other w 1 t1 y nl;
    }

-- ---- the code
abbrev after : ℕ → ℕ → ℕ → ℕ → (ℕ → ℕ) → ℕ → ℕ
after d s v k w = with_register (with_register w d v) s (k + 1)

next-number : (k : ℕ) → k < 16 → add_words k 1 ≡ k + 1
next-number k few = omega (arith, few)

-- the words that it leaves
leaves : (d s k fp v : ℕ) (w u : ℕ → ℕ) → AreApart d s → w s ≡ k → k < 16 → ((y : ℕ) → y ≢ d → y ≢ 1 → u y ≡ w y) → (y : ℕ) → y ≢ 1
    → put (with_register u d v) s (add_words (read (with_register u d v) s) 1) y ≡ after d s v k w y
leaves d s k fp v w u a number few keeps y off = by (y == s) (y == d) refl
  where
    next : add_words (read (with_register u d v) s) 1 ≡ k + 1
    next = ap (λ x. add_words x 1) (read-other u d v s a.apart ∙ read-some u s a.some_next ∙ keeps s a.apart a.unlinked_next ∙ number) ∙ next-number k few

    by : (b c : Bool) → (y == d) ≡ c
        → (if b then add_words (read (with_register u d v) s) 1 else (if c then v else u y)) ≡ (if b then k + 1 else (if c then v else w y))
    by true c e = next
    by false true e = refl
    by false false e = keeps y (λ z. absurd (grind (arith, e, z))) off

module _ (code : List ℕ) (trash : ℕ) (s : Seen) (fp : ℕ) (T : ℕ → Bool) (keeps : (y : ℕ) → T y ≡ false → rv_scratch y ≡ false) where
  next-does : (rd rs k a v : ℕ) → AreApart rd rs → s.registers rs ≡ k → k < 16 → add_words (add_words (distance k) (s.registers 8)) (word_of (negsuc 39)) ≡ a
      → (a % 8 == 0) ≡ true → IsReadable s fp a 8 v → LiesAbove Riscv64 (s.registers 2) a 8 → rd ≢ 2 → v < 2 ^ 64
      → Does (rv_rows code trash) (from_to s (after rd rs v k s.registers) s.bytes s.flags) (next_argument_instrs rd rs) fp 0 T
  next-does rd rs k a v apart number few place even readable safe r2 lt =
      let w = s.registers in
      let W : ℕ → ℕ = after rd rs v k w in
      let u : ℕ → ℕ = computed (next_place_code rd rs) w in
      let p = placed rd rs k (w 8) w apart number refl in
      let loads = instr.Imm imm.Ld rd rd (negsuc 39) in
      let adds = instr.Imm imm.Addi rs rs (pos 1) in
      let mid : Seen = record s { registers = u } in
      let loaded : Seen = record s { registers = with_register u rd v } in
      let end : ℕ → ℕ = put (with_register u rd v) rs (add_words (read (with_register u rd v) rs) 1) in
      after-registers code trash (next_place_code rd rs) (loads ∷ adds ∷ []) s W s.bytes fp 0 T (omega arith) refl
      (in-a-row (rv_rows code trash) mid (with_register u rd v) W s.bytes s.bytes s.flags s.flags (loads ∷ []) (adds ∷ []) fp 0 T (omega arith)
      (load-keeps code trash value_type.Long mid rd rd (negsuc 39) a v fp 5 (λ r. false) (ap (λ x. add_words x (word_of (negsuc 39))) p.holds ∙ place) even readable (s.registers 2) (p.keeps 2 (λ e. r2 (sym e)) (λ e. absurd (omega (arith, e)))) safe lt)
      (told (rv_rows code trash) loaded end W s.bytes s.bytes s.flags s.flags (adds ∷ []) fp 0 T
      (λ y free. leaves rd rs k fp v w u apart number few p.keeps y (off-scratch y (keeps y free)).1) (λ y off. refl) refl
      (computations-do (rv_computer code trash) (is-computer code trash) (adds ∷ []) loaded fp 0 T refl)))

pub next-arguments-do : (code : List ℕ) (trash : ℕ) → NextArgumentsDo (rv_rows code trash) rv_scratch rv_next_argument
next-arguments-do code trash frame d s q k a v nd ns apart few f number place even readable safe lt =
    let x = rv_seen q in
    let leads = place-leads (x.registers 2 + frame) k few (let l = f.large in omega (arith, l)) (let h = f.high in omega (arith, h)) in
    record {
      flags = x.flags;
      does = next-does code trash x (x.registers 8) (spoils rv_scratch []) (λ y free. free) (register_of Riscv64 d) (register_of Riscv64 s) k a v
          (are-apart d s nd ns apart) number few (ap (λ p. add_words (add_words (distance k) p) (word_of (negsuc 39))) f.pointer ∙ (leads ∙ place)) even readable safe (register-no-stack d) lt;
    }

pub has-next-argument-code : (code : List ℕ) (trash : ℕ) → HasNextArgumentCode (rv_rows code trash) rv_next_argument
has-next-argument-code code trash d s = let long = spellings-long (rv_next_argument d s) in omega (arith, long)
