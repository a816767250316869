-- Patched words of RV64 are those of the instructions with the labels put in.
use Rattle.std.proofs.Common.{◌≡◌, ℕ, ◌+◌, ◌*◌, ◌^◌, ◌<◌, ◌≤◌, List, [], ◌∷◌, ◌++◌, length, drop, pos, ◌+ℤ◌, ◌*ℤ◌, refl, sym, ap, subst, ◌∙◌, arith, append_assoc, Option}
use Rattle.std.specs.Prelude.{◌-ℤ◌}
use Rattle.std.specs.List.{All}
use Rattle.std.specs.Int.{w32, to_le_bytes}
use Rattle.std.proofs.lemmas.Int.{ints}
use Rattle.std.proofs.lemmas.List.Elements.{All-nil, All-cons, All-head}
use Rattle.lg_base.specs.Fields.{part, signed}
use Rattle.lg_base.specs.Immediates.{branch_bits, jump_bits}
use Rattle.lg_base.specs.Layout.{code_base}
use Rattle.lg_base.specs.WordFronts.{word_at}
use Rattle.lg_buf.specs.declared.fixes.Fix.{Fix}
use Rattle.lg_buf.specs.declared.fixes.FixKind.TheVariants.{RvBranch, RvJal, RvLuiAddi, RvAuipcJalr}
use Rattle.lg_buf.specs.Buffers.{IsDone, IsOutside}
use Rattle.lg_buf.specs.FixFields.{branch_rest}
use Rattle.lg_carry.specs.Blocks.{spellings}
use Rattle.lg_rv.specs.declared.instruction.Instr.{Instr}
use Rattle.lg_rv.specs.declared.instruction.Instr.TheVariants as instr
use Rattle.lg_rv.specs.declared.instruction.BranchOp.{BranchOp}
use Rattle.lg_rv.specs.declared.instruction.UpperOp.TheVariants.{Lui, Auipc}
use Rattle.lg_rv.specs.declared.instruction.ImmOp.TheVariants.{Addi, Jalr}
use Rattle.lg_rv.specs.Spelling.{word_of, IsInstr, spelling}
use Rattle.lg_rv.proofs.AgainLemmas.{word_fits}
use Rattle.lg_selr_values.specs.Processor.Numbers.{high_part, low_part}
use Rattle.lg_selr_values.specs.declared.items.Item.{Item}
use Rattle.lg_selr_values.specs.declared.items.Item.TheVariants.{One, Branch, Jump, FarJump, Address}
use Rattle.lg_selr_values.specs.Items.{rv_holes, IsItem, words_of, distance, settle, fix_of, RvHoles}
use Rattle.lg_sel.proofs.WordLemmas.{split-word, IsWordAt, word-stands}
use Rattle.lg_selr_values.proofs.ItemWordLemmas.{branch-is, jump-is, upper-is, addi-is, jalr-is, parts-are, far-parts}
use Rattle.lg_sel.specs.Holes.{IsWithin, HaveAddresses, IsPatched, IsSettled}

module _ (labels : List (Option ℕ)) (emitted finished : List ℕ) (to : ℕ → ℕ) (addresses : HaveAddresses labels to) (p : ℕ) where
  -- the first word of what is at a place, and what it has become
  record Word (q n : ℕ) (rest : List ℕ) : Type 0 where
    emitted_is : word_at emitted q ≡ n
    behind : drop (q + 4) emitted ≡ rest
    finished_is : drop q finished ≡ to_le_bytes w32 (word_at finished q) ++ drop (q + 4) finished
    fits : word_at finished q < 2 ^ 32

  module _ (x : Item) (h : IsPatched rv_holes labels emitted finished p x) where
    word-here : (q : ℕ) (i : Instr) (rest : List ℕ) → IsInstr i → drop q emitted ≡ spelling i ++ rest → Word q (word_of i) rest
    word-here q i rest ok e =
        let w : IsWordAt emitted rest q (word_of i) = word-stands emitted rest q (word_of i) (word_fits i ok) e in
        let a = h.bytes q in let b = h.bytes (q + 1) in let c = h.bytes (q + 2) in let d = h.bytes (q + 3) in record {
          emitted_is = w.word;
          behind = w.behind;
          finished_is = split-word finished q h.bytes (let l = h.long in omega (arith, l, w.long));
          fits = omega (arith, a, b, c, d);
        }

  one-settles : (i : Instr) → IsInstr i → IsPatched rv_holes labels emitted finished p (One i) → IsSettled spelling IsInstr finished p (p + 4) (i ∷ [])
  one-settles i ok h =
      let w = word-here (One i) h p i h.rest ok (h.stands ∙ append_assoc (spelling i) [] h.rest) in
      let same = λ (k : ℕ) (from : p ≤ k) (below : k < p + 4). h.others k from below (All-nil (IsOutside k)) in
      let a = same p (omega arith) (omega arith) in let b = same (p + 1) (omega arith) (omega arith) in
      let c = same (p + 2) (omega arith) (omega arith) in let d = same (p + 3) (omega arith) (omega arith) in
      let kept : word_at finished p ≡ word_at emitted p = (λ j. a j + 256 * b j + 65536 * c j + 16777216 * d j) in
      record { stands = w.finished_is ∙ ap (λ n. to_le_bytes w32 n ++ drop (p + 4) finished) (kept ∙ w.emitted_is); fit = All-cons IsInstr i [] ok (All-nil IsInstr) }

  branch-settles : (o : BranchOp) (a b label : ℕ) → a < 32 → b < 32 → IsPatched rv_holes labels emitted finished p (Branch o a b label)
      → IsSettled spelling IsInstr finished p (p + 4) (settle to (code_base + p) (Branch o a b label))
  branch-settles o a b label ha hb h =
      let i = instr.Branch o a b (pos 0) in
      let f : Fix = record { place = p; kind = RvBranch; label = record { 0 = label } } in
      let w = word-here (Branch o a b label) h p i h.rest (ha, hb, omega (arith, ints), omega (arith, ints), refl) (h.stands ∙ append_assoc (spelling i) [] h.rest) in
      let d : IsDone labels emitted finished f = All-head (IsDone labels emitted finished) f [] h.done in
      let same : branch_rest (word_at finished p) ≡ branch_rest (word_of i) = ap (λ z. z.0) d.3 ∙ ap branch_rest w.emitted_is in
      let is = branch-is o (word_at finished p) a b w.fits ha hb same in
      let at = addresses label d.0 d.1 in
      let offset : signed 4096 (branch_bits (word_at finished p)) ≡ pos (to label) -ℤ pos (code_base + p) = omega (arith, ints, at, d.2) in
      record {
        stands = w.finished_is ∙ ap (λ n. to_le_bytes w32 n ++ drop (p + 4) finished) (sym is.0 ∙ ap (λ z. word_of (instr.Branch o a b z)) offset);
        fit = All-cons IsInstr _ [] (subst (λ z. IsInstr (instr.Branch o a b z)) offset is.1) (All-nil IsInstr);
      }

  jump-settles : (rd label : ℕ) → rd < 32 → IsPatched rv_holes labels emitted finished p (Jump rd label) → IsSettled spelling IsInstr finished p (p + 4) (settle to (code_base + p) (Jump rd label))
  jump-settles rd label ok h =
      let i = instr.Jal rd (pos 0) in
      let f : Fix = record { place = p; kind = RvJal; label = record { 0 = label } } in
      let w = word-here (Jump rd label) h p i h.rest (ok, omega (arith, ints), omega (arith, ints), refl) (h.stands ∙ append_assoc (spelling i) [] h.rest) in
      let d : IsDone labels emitted finished f = All-head (IsDone labels emitted finished) f [] h.done in
      let same : part 0 12 (word_at finished p) ≡ part 0 12 (word_of i) = ap (λ z. z.0) d.3 ∙ ap (part 0 12) w.emitted_is in
      let is = jump-is (word_at finished p) rd w.fits ok same in
      let at = addresses label d.0 d.1 in
      let offset : signed 1048576 (jump_bits (word_at finished p)) ≡ pos (to label) -ℤ pos (code_base + p) = omega (arith, ints, at, d.2) in
      record {
        stands = w.finished_is ∙ ap (λ n. to_le_bytes w32 n ++ drop (p + 4) finished) (sym is.0 ∙ ap (λ z. word_of (instr.Jal rd z)) offset);
        fit = All-cons IsInstr _ [] (subst (λ z. IsInstr (instr.Jal rd z)) offset is.1) (All-nil IsInstr);
      }

  address-settles : (rd label : ℕ) → rd < 32 → IsPatched rv_holes labels emitted finished p (Address rd label) → IsSettled spelling IsInstr finished p (p + 8) (settle to (code_base + p) (Address rd label))
  address-settles rd label ok h =
      let i = instr.Upper Lui rd 0 in
      let j = instr.Imm Addi rd rd (pos 0) in
      let f : Fix = record { place = p; kind = RvLuiAddi; label = record { 0 = label } } in
      let v = word-here (Address rd label) h p i (spelling j ++ h.rest) (ok, omega arith) h.stands in
      let w = word-here (Address rd label) h (p + 4) j h.rest (ok, ok, omega (arith, ints), omega (arith, ints)) v.behind in
      let d : IsDone labels emitted finished f = All-head (IsDone labels emitted finished) f [] h.done in
      let first : part 0 12 (word_at finished p) ≡ part 0 12 (word_of i) = ap (λ z. z.0) d.3 ∙ ap (part 0 12) v.emitted_is in
      let second : part 0 20 (word_at finished (p + 4)) ≡ part 0 20 (word_of j) = ap (λ z. z.1) d.3 ∙ ap (part 0 20) w.emitted_is in
      let upper = upper-is Lui (word_at finished p) rd v.fits ok first in
      let addi = addi-is (word_at finished (p + 4)) rd rd w.fits ok ok second in
      let at = addresses label d.0 d.1 in
      let z : p + 4 + 4 ≡ p + 8 = omega arith in
      let sum : (signed 524288 (part 12 20 (word_at finished p)) *ℤ pos 4096) +ℤ signed 2048 (part 20 12 (word_at finished (p + 4))) ≡ pos (to label) = omega (arith, ints, at, d.2) in
      let parts = parts-are (part 12 20 (word_at finished p)) (part 20 12 (word_at finished (p + 4))) (to label) (omega arith) (omega arith) sum in
      let one : to_le_bytes w32 (word_at finished p) ≡ spelling (instr.Upper Lui rd (high_part (to label))) = ap (to_le_bytes w32) (sym upper.0 ∙ ap (λ n. word_of (instr.Upper Lui rd n)) parts.0) in
      let two : to_le_bytes w32 (word_at finished (p + 4)) ≡ spelling (instr.Imm Addi rd rd (low_part (to label))) = ap (to_le_bytes w32) (sym addi.0 ∙ ap (λ n. word_of (instr.Imm Addi rd rd n)) parts.1) in
      record {
        stands = v.finished_is ∙ (λ g. one g ++ (w.finished_is ∙ (λ k. two k ++ drop (z k) finished)) g);
        fit = All-cons IsInstr _ (instr.Imm Addi rd rd (low_part (to label)) ∷ []) (subst (λ n. IsInstr (instr.Upper Lui rd n)) parts.0 upper.1) (All-cons IsInstr (instr.Imm Addi rd rd (low_part (to label))) [] (subst (λ n. IsInstr (instr.Imm Addi rd rd n)) parts.1 addi.1) (All-nil IsInstr));
      }

  far-settles : (rd base label : ℕ) → rd < 32 → base < 32 → IsPatched rv_holes labels emitted finished p (FarJump rd base label)
      → IsSettled spelling IsInstr finished p (p + 8) (settle to (code_base + p) (FarJump rd base label))
  far-settles rd base label ok okb h =
      let i = instr.Upper Auipc base 0 in
      let j = instr.Imm Jalr rd base (pos 0) in
      let f : Fix = record { place = p; kind = RvAuipcJalr; label = record { 0 = label } } in
      let v = word-here (FarJump rd base label) h p i (spelling j ++ h.rest) (okb, omega arith) h.stands in
      let w = word-here (FarJump rd base label) h (p + 4) j h.rest (ok, okb, omega (arith, ints), omega (arith, ints)) v.behind in
      let d : IsDone labels emitted finished f = All-head (IsDone labels emitted finished) f [] h.done in
      let first : part 0 12 (word_at finished p) ≡ part 0 12 (word_of i) = ap (λ z. z.0) d.3 ∙ ap (part 0 12) v.emitted_is in
      let second : part 0 20 (word_at finished (p + 4)) ≡ part 0 20 (word_of j) = ap (λ z. z.1) d.3 ∙ ap (part 0 20) w.emitted_is in
      let upper = upper-is Auipc (word_at finished p) base v.fits okb first in
      let low = jalr-is (word_at finished (p + 4)) rd base w.fits ok okb second in
      let at = addresses label d.0 d.1 in
      let far : ℕ = distance (code_base + p) (to label) in
      let z : p + 4 + 4 ≡ p + 8 = omega arith in
      let sum : pos (code_base + p) +ℤ ((signed 524288 (part 12 20 (word_at finished p)) *ℤ pos 4096) +ℤ signed 2048 (part 20 12 (word_at finished (p + 4)))) ≡ pos (to label) = omega (arith, ints, at, d.2) in
      let parts = far-parts (part 12 20 (word_at finished p)) (part 20 12 (word_at finished (p + 4))) (code_base + p) (to label) (omega arith) (omega arith) sum in
      let one : to_le_bytes w32 (word_at finished p) ≡ spelling (instr.Upper Auipc base (high_part far)) = ap (to_le_bytes w32) (sym upper.0 ∙ ap (λ n. word_of (instr.Upper Auipc base n)) parts.0) in
      let two : to_le_bytes w32 (word_at finished (p + 4)) ≡ spelling (instr.Imm Jalr rd base (low_part far)) = ap (to_le_bytes w32) (sym low.0 ∙ ap (λ n. word_of (instr.Imm Jalr rd base n)) parts.1) in
      record {
        stands = v.finished_is ∙ (λ g. one g ++ (w.finished_is ∙ (λ k. two k ++ drop (z k) finished)) g);
        fit = All-cons IsInstr _ (instr.Imm Jalr rd base (low_part far) ∷ []) (subst (λ n. IsInstr (instr.Upper Auipc base n)) parts.0 upper.1)
            (All-cons IsInstr (instr.Imm Jalr rd base (low_part far)) [] (subst (λ n. IsInstr (instr.Imm Jalr rd base n)) parts.1 low.1) (All-nil IsInstr));
      }

pub are-holes : RvHoles
are-holes = record {
  within = within;
  counted = counted;
  long = long;
  settles = settles;
}
  where
    within : (place : ℕ) (x : Item) → IsItem x → All (IsWithin place (length (rv_holes.blank x))) (fix_of place x)
    within place (One i) ok = All-nil (IsWithin place 4)
    within place (Branch o a b label) ok = All-cons (IsWithin place 4) _ [] (omega arith, omega arith) (All-nil (IsWithin place 4))
    within place (FarJump rd base label) ok = All-cons (IsWithin place 8) _ [] (omega arith, omega arith) (All-nil (IsWithin place 8))
    within place (Jump rd label) ok = All-cons (IsWithin place 4) _ [] (omega arith, omega arith) (All-nil (IsWithin place 4))
    within place (Address rd label) ok = All-cons (IsWithin place 8) _ [] (omega arith, omega arith) (All-nil (IsWithin place 8))

    counted : (to : ℕ → ℕ) (at : ℕ) (x : Item) → IsItem x → length (settle to at x) ≡ words_of x
    counted to at (One i) ok = refl
    counted to at x ok = refl

    long : (to : ℕ → ℕ) (at : ℕ) (x : Item) → IsItem x → length (spellings spelling (settle to at x)) ≡ length (rv_holes.blank x)
    long to at (One i) ok = refl
    long to at x ok = refl

    settles : (labels : List (Option ℕ)) (emitted finished : List ℕ) (to : ℕ → ℕ) (place : ℕ) (x : Item) → IsItem x → HaveAddresses labels to → IsPatched rv_holes labels emitted finished place x
        → IsSettled spelling IsInstr finished place (place + length (rv_holes.blank x)) (settle to (code_base + place) x)
    settles labels emitted finished to place (One i) ok a h = one-settles labels emitted finished to a place i ok h
    settles labels emitted finished to place (Branch o rs1 rs2 label) ok a h = branch-settles labels emitted finished to a place o rs1 rs2 label ok.0 ok.1 h
    settles labels emitted finished to place (FarJump rd base label) ok a h = far-settles labels emitted finished to a place rd base label ok.0 ok.1 h
    settles labels emitted finished to place (Jump rd label) ok a h = jump-settles labels emitted finished to a place rd label ok h
    settles labels emitted finished to place (Address rd label) ok a h = address-settles labels emitted finished to a place rd label ok h
