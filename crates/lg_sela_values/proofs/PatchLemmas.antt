-- Patched words of AArch64 are those of the instructions with the labels put in.
use Rattle.std.proofs.Common.{◌≡◌, ℕ, ◌+◌, ◌*◌, ◌^◌, ◌<◌, ◌≤◌, List, [], ◌∷◌, ◌++◌, length, drop, pos, ◌*ℤ◌, refl, sym, ap, subst, ◌∙◌, arith, append_assoc, Option}
use Rattle.std.specs.Prelude.{◌-ℤ◌}
use Rattle.std.specs.List.{All}
use Rattle.std.specs.Int.{w32, to_le_bytes}
use Rattle.std.proofs.lemmas.Int.{ints}
use Rattle.std.proofs.lemmas.List.Elements.{All-nil, All-cons, All-head}
use Rattle.lg_base.specs.Fields.{part, signed}
use Rattle.lg_buf.specs.FixFields.{cond_rest, move_rest}
use Rattle.lg_base.specs.Layout.{code_base}
use Rattle.lg_base.specs.WordFronts.{word_at}
use Rattle.lg_buf.specs.declared.fixes.Fix.{Fix}
use Rattle.lg_buf.specs.declared.fixes.FixKind.TheVariants.{A64Branch26, A64Cond19, A64MovPair}
use Rattle.lg_buf.specs.Buffers.{IsDone, IsOutside}
use Rattle.lg_carry.specs.Blocks.{spellings}
use Rattle.lg_a64.specs.declared.instruction.Instr.{Instr}
use Rattle.lg_a64.specs.declared.instruction.Instr.TheVariants as instr
use Rattle.lg_a64.specs.declared.instruction.BranchOp.{BranchOp}
use Rattle.lg_a64.specs.declared.instruction.Cond.{Cond}
use Rattle.lg_a64.specs.declared.instruction.WideOp.TheVariants.{Movz, Movk}
use Rattle.lg_a64.specs.Spelling.{word_of, IsInstr, spelling}
use Rattle.lg_a64.proofs.AgainLemmas.{word_fits}
use Rattle.lg_sela_values.specs.declared.items.Item.{Item}
use Rattle.lg_sela_values.specs.declared.items.Item.TheVariants.{One, Branch, CondBranch, Address}
use Rattle.lg_sela_values.specs.Items.{a64_holes, IsItem, words_of, low_quarter, next_quarter, settle, fix_of, A64Holes}
use Rattle.lg_sel.proofs.WordLemmas.{split-word, IsWordAt, word-stands}
use Rattle.lg_sela_values.proofs.ItemWordLemmas.{branch-is, cond-is, words-are, move-is, keep-is, moves-are}
use Rattle.lg_sel.specs.Holes.{IsWithin, HaveAddresses, IsPatched, IsSettled}

module _ (labels : List (Option ℕ)) (emitted finished : List ℕ) (to : ℕ → ℕ) (addresses : HaveAddresses labels to) (p : ℕ) where
  -- the first word of what is at a place, and what it has become
  record Word (q n : ℕ) (rest : List ℕ) : Type 0 where
    emitted_is : word_at emitted q ≡ n
    behind : drop (q + 4) emitted ≡ rest
    finished_is : drop q finished ≡ to_le_bytes w32 (word_at finished q) ++ drop (q + 4) finished
    fits : word_at finished q < 2 ^ 32

  module _ (x : Item) (h : IsPatched a64_holes labels emitted finished p x) where
    word-here : (q : ℕ) (i : Instr) (rest : List ℕ) → IsInstr i → drop q emitted ≡ spelling i ++ rest → Word q (word_of i) rest
    word-here q i rest ok e =
        let w : IsWordAt emitted rest q (word_of i) = word-stands emitted rest q (word_of i) (word_fits i ok) e in
        let a = h.bytes q in let b = h.bytes (q + 1) in let c = h.bytes (q + 2) in let d = h.bytes (q + 3) in record {
          emitted_is = w.word;
          behind = w.behind;
          finished_is = split-word finished q h.bytes (let l = h.long in omega (arith, l, w.long));
          fits = omega (arith, a, b, c, d);
        }

  one-settles : (i : Instr) → IsInstr i → IsPatched a64_holes labels emitted finished p (One i) → IsSettled spelling IsInstr finished p (p + 4) (i ∷ [])
  one-settles i ok h =
      let w = word-here (One i) h p i h.rest ok (h.stands ∙ append_assoc (spelling i) [] h.rest) in
      let same = λ (k : ℕ) (from : p ≤ k) (below : k < p + 4). h.others k from below (All-nil (IsOutside k)) in
      let a = same p (omega arith) (omega arith) in let b = same (p + 1) (omega arith) (omega arith) in
      let c = same (p + 2) (omega arith) (omega arith) in let d = same (p + 3) (omega arith) (omega arith) in
      let kept : word_at finished p ≡ word_at emitted p = (λ j. a j + 256 * b j + 65536 * c j + 16777216 * d j) in
      record { stands = w.finished_is ∙ ap (λ n. to_le_bytes w32 n ++ drop (p + 4) finished) (kept ∙ w.emitted_is); fit = All-cons IsInstr i [] ok (All-nil IsInstr) }

  branch-settles : (op : BranchOp) (label : ℕ) → IsPatched a64_holes labels emitted finished p (Branch op label) → IsSettled spelling IsInstr finished p (p + 4) (settle to (code_base + p) (Branch op label))
  branch-settles op label h =
      let i = instr.Branch op (pos 0) in
      let f : Fix = record { place = p; kind = A64Branch26; label = record { 0 = label } } in
      let w = word-here (Branch op label) h p i h.rest (omega (arith, ints), omega (arith, ints)) (h.stands ∙ append_assoc (spelling i) [] h.rest) in
      let d : IsDone labels emitted finished f = All-head (IsDone labels emitted finished) f [] h.done in
      let same : part 26 6 (word_at finished p) ≡ part 26 6 (word_of i) = ap (λ z. z.0) d.3 ∙ ap (part 26 6) w.emitted_is in
      let is = branch-is (word_at finished p) op w.fits same in
      let at = addresses label d.0 d.1 in
      let distance : signed 33554432 (part 0 26 (word_at finished p)) *ℤ pos 4 ≡ pos (to label) -ℤ pos (code_base + p) = omega (arith, ints, at, d.2) in
      let words = words-are (signed 33554432 (part 0 26 (word_at finished p))) (code_base + p) (to label) distance in
      record {
        stands = w.finished_is ∙ ap (λ n. to_le_bytes w32 n ++ drop (p + 4) finished) (sym is.0 ∙ ap (λ z. word_of (instr.Branch op z)) words);
        fit = All-cons IsInstr _ [] (subst (λ z. IsInstr (instr.Branch op z)) words is.1) (All-nil IsInstr);
      }

  cond-settles : (cond : Cond) (label : ℕ) → IsPatched a64_holes labels emitted finished p (CondBranch cond label)
      → IsSettled spelling IsInstr finished p (p + 4) (settle to (code_base + p) (CondBranch cond label))
  cond-settles cond label h =
      let i = instr.BranchIf cond (pos 0) in
      let f : Fix = record { place = p; kind = A64Cond19; label = record { 0 = label } } in
      let w = word-here (CondBranch cond label) h p i h.rest (omega (arith, ints), omega (arith, ints)) (h.stands ∙ append_assoc (spelling i) [] h.rest) in
      let d : IsDone labels emitted finished f = All-head (IsDone labels emitted finished) f [] h.done in
      let same : cond_rest (word_at finished p) ≡ cond_rest (word_of i) = ap (λ z. z.0) d.3 ∙ ap cond_rest w.emitted_is in
      let is = cond-is (word_at finished p) cond w.fits same in
      let at = addresses label d.0 d.1 in
      let distance : signed 262144 (part 5 19 (word_at finished p)) *ℤ pos 4 ≡ pos (to label) -ℤ pos (code_base + p) = omega (arith, ints, at, d.2) in
      let words = words-are (signed 262144 (part 5 19 (word_at finished p))) (code_base + p) (to label) distance in
      record {
        stands = w.finished_is ∙ ap (λ n. to_le_bytes w32 n ++ drop (p + 4) finished) (sym is.0 ∙ ap (λ z. word_of (instr.BranchIf cond z)) words);
        fit = All-cons IsInstr _ [] (subst (λ z. IsInstr (instr.BranchIf cond z)) words is.1) (All-nil IsInstr);
      }

  address-settles : (rd label : ℕ) → rd < 32 → IsPatched a64_holes labels emitted finished p (Address rd label) → IsSettled spelling IsInstr finished p (p + 8) (settle to (code_base + p) (Address rd label))
  address-settles rd label ok h =
      let i = instr.Wide Movz rd 0 0 in
      let j = instr.Wide Movk rd 0 1 in
      let f : Fix = record { place = p; kind = A64MovPair; label = record { 0 = label } } in
      let v = word-here (Address rd label) h p i (spelling j ++ h.rest) (ok, omega arith, omega arith) h.stands in
      let w = word-here (Address rd label) h (p + 4) j h.rest (ok, omega arith, omega arith) v.behind in
      let d : IsDone labels emitted finished f = All-head (IsDone labels emitted finished) f [] h.done in
      let first : move_rest (word_at finished p) ≡ move_rest (word_of i) = ap (λ z. z.0) d.3 ∙ ap move_rest v.emitted_is in
      let second : move_rest (word_at finished (p + 4)) ≡ move_rest (word_of j) = ap (λ z. z.1) d.3 ∙ ap move_rest w.emitted_is in
      let move = move-is (word_at finished p) rd v.fits ok first in
      let keep = keep-is (word_at finished (p + 4)) rd w.fits ok second in
      let at = addresses label d.0 d.1 in
      let z : p + 4 + 4 ≡ p + 8 = omega arith in
      let sum : pos (part 5 16 (word_at finished p) + part 5 16 (word_at finished (p + 4)) * 65536) ≡ pos (to label) = omega (arith, ints, at, d.2) in
      let parts = moves-are (part 5 16 (word_at finished p)) (part 5 16 (word_at finished (p + 4))) (to label) (omega arith) (omega arith) sum in
      let one : to_le_bytes w32 (word_at finished p) ≡ spelling (instr.Wide Movz rd (low_quarter (to label)) 0) = ap (to_le_bytes w32) (sym move.0 ∙ ap (λ n. word_of (instr.Wide Movz rd n 0)) parts.0) in
      let two : to_le_bytes w32 (word_at finished (p + 4)) ≡ spelling (instr.Wide Movk rd (next_quarter (to label)) 1) = ap (to_le_bytes w32) (sym keep.0 ∙ ap (λ n. word_of (instr.Wide Movk rd n 1)) parts.1) in
      record {
        stands = v.finished_is ∙ (λ g. one g ++ (w.finished_is ∙ (λ k. two k ++ drop (z k) finished)) g);
        fit = All-cons IsInstr _ (instr.Wide Movk rd (next_quarter (to label)) 1 ∷ []) (subst (λ n. IsInstr (instr.Wide Movz rd n 0)) parts.0 move.1)
            (All-cons IsInstr (instr.Wide Movk rd (next_quarter (to label)) 1) [] (subst (λ n. IsInstr (instr.Wide Movk rd n 1)) parts.1 keep.1) (All-nil IsInstr));
      }

pub are-holes : A64Holes
are-holes = record {
  within = within;
  counted = counted;
  long = long;
  settles = settles;
}
  where
    within : (place : ℕ) (x : Item) → IsItem x → All (IsWithin place (length (a64_holes.blank x))) (fix_of place x)
    within place (One i) ok = All-nil (IsWithin place 4)
    within place (Branch op label) ok = All-cons (IsWithin place 4) _ [] (omega arith, omega arith) (All-nil (IsWithin place 4))
    within place (CondBranch cond label) ok = All-cons (IsWithin place 4) _ [] (omega arith, omega arith) (All-nil (IsWithin place 4))
    within place (Address rd label) ok = All-cons (IsWithin place 8) _ [] (omega arith, omega arith) (All-nil (IsWithin place 8))

    counted : (to : ℕ → ℕ) (at : ℕ) (x : Item) → IsItem x → length (settle to at x) ≡ words_of x
    counted to at (One i) ok = refl
    counted to at o ok = refl

    long : (to : ℕ → ℕ) (at : ℕ) (x : Item) → IsItem x → length (spellings spelling (settle to at x)) ≡ length (a64_holes.blank x)
    long to at (One i) ok = refl
    long to at o ok = refl

    settles : (labels : List (Option ℕ)) (emitted finished : List ℕ) (to : ℕ → ℕ) (place : ℕ) (x : Item) → IsItem x → HaveAddresses labels to → IsPatched a64_holes labels emitted finished place x
        → IsSettled spelling IsInstr finished place (place + length (a64_holes.blank x)) (settle to (code_base + place) x)
    settles labels emitted finished to place (One i) ok a h = one-settles labels emitted finished to a place i ok h
    settles labels emitted finished to place (Branch op label) ok a h = branch-settles labels emitted finished to a place op label h
    settles labels emitted finished to place (CondBranch cond label) ok a h = cond-settles labels emitted finished to a place cond label h
    settles labels emitted finished to place (Address rd label) ok a h = address-settles labels emitted finished to a place rd label ok h
