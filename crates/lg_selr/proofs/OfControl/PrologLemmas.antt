-- A `prolog` makes the frame.
use Rattle.std.proofs.lemmas.List.Elements.{All-nil, All-cons}
use Rattle.lg_sel.specs.Control.Stores.{kept_registers, stores_below}
use Rattle.lg_selr_values.proofs.OfProcessor.OutsideLemmas.{instructions-stay}
use Rattle.lg_carry.proofs.TurnLemmas.{along-append, still-lowers}
use Rattle.lg_carry.specs.Carries.{Sinks}
use Rattle.lg_carry.specs.Blocks.{done, Along, StaysOutside}
use Rattle.lg_carry.proofs.BelowLemmas.{not-below}
use Rattle.lg_carry.proofs.BlockLemmas.{no-width}
use Rattle.lg_carry.proofs.SpillLemmas.{stored-there}
use Rattle.std.proofs.Common.{◌≡◌, ℕ, suc, ◌+◌, ◌-◌, ◌*◌, ◌%◌, ◌^◌, ◌<◌, ◌≤◌, Bool, true, false, List, [], ◌∷◌, refl, ap, ◌∙◌, subst, arith, length, inr, append-nil, sym, ◌++◌}
use Rattle.std.specs.List.{list_all, All}
use Rattle.std.specs.Prelude.{◌==◌, not, pos, negsuc, nat_le, if◌then◌else◌}
use Rattle.lg_base.specs.Conventions.{argument_registers}
use Rattle.lg_base.specs.Fields.{word_of}
use Rattle.lg_base.specs.Layout.{most_code, stack_end}
use Rattle.lg_base.specs.Runs.{Running}
use Rattle.lg_base.specs.Spaces.{mapped, stored}
use Rattle.lg_base.specs.Words.{add_words}
use Rattle.lg_base.specs.declared.flags.Flags.{Flags}
use Rattle.lg_base.specs.declared.flags.Flags.TheVariants.{NoFlags}
use Rattle.lg_base.specs.declared.target.Target.TheVariants.{Riscv64}
use Rattle.lg_rv.specs.Spelling.{IsInstr}
use Rattle.lg_rv.specs.declared.instruction.Instr.{Instr}
use Rattle.lg_rv.specs.declared.instruction.Instr.TheVariants as instr
use Rattle.lg_rv.specs.declared.instruction.ImmOp.TheVariants.{Addi, Addiw}
use Rattle.lg_rv.specs.declared.instruction.RegOp.TheVariants.{Sub}
use Rattle.lg_rv.specs.declared.instruction.UpperOp.TheVariants.{Lui}
use Rattle.lg_cpu.specs.Laws.{AreBytes}
use Rattle.lg_cpu.specs.RvStep.{read, goes, sets, act}
use Rattle.lg_cpu.specs.States.{CpuState}
use Rattle.lg_cpu.specs.Steps.{Run, after, status_of}
use Rattle.lg_carry.specs.Processors.{IsSeen}
use Rattle.lg_selr_values.specs.Processor.Numbers.{high_part, low_part}
use Rattle.lg_selr_values.specs.Processor.RvRows.{rv_processor, rv_rows, rv_seen, is_straight, acts_above}
use Rattle.lg_carry.specs.Nodes.Stretches.{StandsAt, behind, PassesIn}
use Rattle.lg_sel.specs.Control.Prologs.{Entrance, PrologsLead}
use Rattle.lg_sel.proofs.OfControl.ChainLemmas.{RunsAt, next-at, Chain, chain-end, chain-more, straight-block, does}
use Rattle.lg_sel.proofs.OfControl.EntranceLemmas.{IsEntered, entrance}
use Rattle.lg_sel.proofs.OfControl.StoreLemmas.{word_below, address-above, HasStack, mapped-below, store_one, run_stored, stored-at, stored-registers}
use Rattle.lg_sel.proofs.OfControl.StoreLemmas.{with_stored, stored-mark, stored-bytes, stored-chain, first-few, homes-few, take-all}
use Rattle.lg_sel.proofs.OfControl.StoreLemmas.{stores-before, stores-all, stored-besides}
use Rattle.lg_selr.specs.Control.Prologs.{first_registers, home_registers, store_word, fall_code, framed_code, prolog_code}
use Rattle.lg_selr.proofs.OfControl.StackFallLemmas.{StackLowers, lowers-by, Falls, falls, less}
use Rattle.lg_selr.proofs.OfControl.StretchLemmas.{spelled-size, stands-high, all-passed, all-sunk}
use Rattle.lg_selr.proofs.OfControl.WordLemmas.{put-same, put-other}

-- ---- the code
straight-falls : (size : ℕ) → list_all is_straight (fall_code size) ≡ true
straight-falls size = by (nat_le size 2048)
  where
    by : (b : Bool) → list_all is_straight (if b then instr.Imm Addi 2 2 (negsuc (size - 1)) ∷ [] else instr.Upper Lui 1 (high_part size) ∷ instr.Imm Addiw 1 1
        (low_part size) ∷ instr.Reg Sub 2 2 1 ∷ []) ≡ true
    by true = refl
    by false = refl

few-falls : (size : ℕ) → length (fall_code size) ≤ 3
few-falls size = by (nat_le size 2048)
  where
    by : (b : Bool) → length (if b then instr.Imm Addi 2 2 (negsuc (size - 1)) ∷ [] else instr.Upper Lui 1 (high_part size) ∷ instr.Imm Addiw 1 1
        (low_part size) ∷ instr.Reg Sub 2 2 1 ∷ []) ≤ 3
    by true = omega arith
    by false = omega arith

-- ---- a store
-- x0 would be stored as 0
can-store : ℕ → Bool
can-store r = not (r == 0)

is-register : (r : ℕ) → can-store r ≡ true → (r == 0) ≡ false
unfolding can-store
is-register r h = grind (arith, h)

aligned-below : (sp k : ℕ) → k < 13 → 0x3FF00010 + 272 ≤ sp → sp % 16 ≡ 0 → (word_below sp k % 8 == 0) ≡ true
aligned-below sp k few low even = grind (arith, few, low, even)

arguments-are : list_all can-store (argument_registers Riscv64) ≡ true
unfolding can-store
arguments-are = refl

firsts-are : (saved : ℕ) → list_all can-store (first_registers saved) ≡ true
unfolding can-store
firsts-are saved = take-all can-store (kept_registers Riscv64 3) saved refl

homes-are : (homes : ℕ) → list_all can-store (home_registers homes) ≡ true
homes-are homes = take-all can-store (argument_registers Riscv64) homes arguments-are

-- the stack pointer, which has fallen, is not stored
firsts-others : (saved : ℕ) → list_all (λ r. not (r == 2)) (first_registers saved) ≡ true
firsts-others saved = take-all (λ r. not (r == 2)) (kept_registers Riscv64 3) saved refl

homes-others : (homes : ℕ) → list_all (λ r. not (r == 2)) (home_registers homes) ≡ true
homes-others homes = take-all (λ r. not (r == 2)) (argument_registers Riscv64) homes refl

abbrev no-flags : Flags → Flags
no-flags f = NoFlags

-- the stack is there whole after stores too
stack-stored : (sp : ℕ) (rs : List ℕ) (k : ℕ) (q : Run CpuState) → HasStack q.state.bytes → HasStack (run_stored no-flags sp q rs k).state.bytes
stack-stored sp [] k q there = there
stack-stored sp (r ∷ rs) k q there =
    stack-stored sp rs (suc k) (store_one no-flags sp q r k) (λ a e. stored-there q.state.bytes (word_below sp k) 8 (q.state.registers r) a (there a e))

module _ (sp first : ℕ) (low : 0x3FF00010 + 272 ≤ sp) (high : sp ≤ 0x40000000) (even : sp % 16 ≡ 0) (least : 104 ≤ first) (most : first ≤ 2048) where
  store-act : (q : CpuState) (r k : ℕ) → k < 13 → can-store r ≡ true → q.registers 2 ≡ sp - first → HasStack q.bytes
      → act (store_word first r k) q ≡ goes (add_words q.pc 4) q.registers (stored q.bytes (word_below sp k) 8 (q.registers r)) q.mark
  store-act q r k few can at there =
      let address : add_words (q.registers 2) (word_of (pos (first - (8 + 8 * k)))) ≡ word_below sp k =
      ap (λ x. add_words x (word_of (pos (first - (8 + 8 * k))))) at ∙ address-above sp first k few least most low high in
      let value : read q.registers r ≡ q.registers r = ap (λ b. if b then 0 else q.registers r) (is-register r can) in
      let is-there : mapped q.bytes (word_below sp k) 8 ≡ true = mapped-below q.bytes sp k few low high there in
      let aligned = aligned-below sp k few low even in
      rw (address, value, aligned, is-there) refl

  -- it lies at or above the stack pointer, which has fallen
  store-above : (q : CpuState) (r k : ℕ) → k < 13 → q.registers 2 ≡ sp - first → acts_above (store_word first r k) q
  store-above q r k few at a le lt =
      let address : add_words (q.registers 2) (word_of (pos (first - (8 + 8 * k)))) ≡ word_below sp k =
      ap (λ x. add_words x (word_of (pos (first - (8 + 8 * k))))) at ∙ address-above sp first k few least most low high in
      not-below Riscv64 (q.registers 2) a (inr (omega (arith, le, address, at, few, least, low)))

pointer-above : (sp first : ℕ) → 104 ≤ first → first ≤ 2048 → 0x3FF00010 + 272 ≤ sp → sp ≤ 0x40000000
    → add_words (sp - first) (word_of (pos (first - 16))) ≡ sp - 16
pointer-above sp first least most low high = grind (arith, least, most, low, high)

-- the first fall, the stores and FP are this many instructions
abbrev framed_size : ℕ → ℕ → ℕ
framed_size saved homes = suc (1 + length (first_registers saved) + length (home_registers homes))

-- a part of the frame first, its words, and then what is left
module _ (code : List ℕ) (trash : ℕ) (small : length code ≤ most_code) (bytes-small : AreBytes code) (trash-word : trash < 2 ^ 64)
    (first left homes saved : ℕ) (rest : List Instr) (least : 104 ≤ first) (most : first ≤ 2048) (straight-rest : list_all is_straight rest ≡ true) (few-rest : length rest ≤ 3)
    (from sp : ℕ) (q : Run CpuState) (seen : IsSeen (rv_seen q)) (low : 0x3FF00010 + 272 ≤ sp) (top : sp ≤ stack_end)
    (even : sp % 16 ≡ 0)
    (stack-is : q.state.registers 2 ≡ sp) (k : StandsAt (rv_rows code trash) true IsInstr from (framed_code saved first homes rest)) (runs : status_of q.progress ≡ Running)
    (at : q.state.pc ≡ from)
    (lowers : (r : Run CpuState) → RunsAt from (framed_size saved homes + length rest) (framed_size saved homes) r → r.state.registers 2 ≡ sp - first
    → Falls rest from (framed_size saved homes + length rest) (framed_size saved homes) left r) where
  abbrev n : ℕ
  n = framed_size saved homes + length rest

  abbrev firsts : List ℕ
  firsts = first_registers saved

  abbrev places : List ℕ
  places = home_registers homes

  -- FP, and what is left, after the stores
  abbrev last : List Instr
  last = instr.Imm Addi 8 2 (pos (first - 16)) ∷ rest

  abbrev all : List Instr
  all = framed_code saved first homes rest

  firsts-few : length firsts ≤ 5
  firsts-few = first-few Riscv64 1 saved

  places-few : length places ≤ 8
  places-few = homes-few Riscv64 homes

  code-size : length all ≡ n
  code-size =
      let e = stores-before (store_word first) firsts 0 (stores_below (store_word first) places 5 ++ last) in
      let h = stores-before (store_word first) places 5 last in omega (arith, e, h)

  begins : RunsAt from n 0 q
  begins = let h = stands-high true code trash small bytes-small trash-word from _ _ k in let l = spelled-size all in record {
    runs = runs;
    here = at ∙ omega arith;
    low = k.low;
    high = omega (arith, h, l, code-size);
  }

  -- the first fall
  abbrev q0 : Run CpuState
  q0 = after q (sets q.state 2 (sp - first))

  fallen : act (instr.Imm Addi 2 2 (negsuc (first - 1))) q.state ≡ sets q.state 2 (sp - first)
  fallen = ap (λ x. sets q.state 2 (add_words x (word_of (negsuc (first - 1))))) stack-is
      ∙ ap (sets q.state 2) (less sp first (omega (arith, least)) (omega (arith, most, low)) top)

  a0 : RunsAt from n 1 q0
  a0 = next-at from n 0 q _ _ _ _ (omega arith) begins

  stack0 : q0.state.registers 2 ≡ sp - first
  stack0 = put-same q.state.registers 2 (sp - first)

  -- the stores of the link, FP and those of V0 to V2, and of the homes
  abbrev qf : Run CpuState
  qf = run_stored no-flags sp q0 firsts 0

  regsf : qf.state.registers ≡ q0.state.registers
  regsf = stored-registers no-flags sp firsts 0 q0

  af : RunsAt from n (1 + length firsts) qf
  af = stored-at no-flags sp firsts 0 from n 1 q0 (omega arith) a0

  stackf : qf.state.registers 2 ≡ sp - first
  stackf = ap (λ g. g 2) regsf ∙ stack0

  abbrev q1 : Run CpuState
  q1 = run_stored no-flags sp qf places 5

  regs1 : q1.state.registers ≡ q0.state.registers
  regs1 = stored-registers no-flags sp places 5 qf ∙ regsf

  a1 : RunsAt from n (1 + length firsts + length places) q1
  a1 = stored-at no-flags sp places 5 from n (1 + length firsts) qf (omega arith) af

  -- FP
  abbrev q2 : Run CpuState
  q2 = after q1 (sets q1.state 8 (sp - 16))

  stack1 : q1.state.registers 2 ≡ sp - first
  stack1 = ap (λ g. g 2) regs1 ∙ stack0

  pointed : act (instr.Imm Addi 8 2 (pos (first - 16))) q1.state ≡ sets q1.state 8 (sp - 16)
  pointed = ap (λ x. sets q1.state 8 (add_words x (word_of (pos (first - 16))))) stack1
      ∙ ap (sets q1.state 8) (pointer-above sp first least most low top)

  a2 : RunsAt from n (framed_size saved homes) q2
  a2 = next-at from n (1 + length firsts + length places) q1 _ _ _ _ (omega arith) a1

  stack2 : q2.state.registers 2 ≡ sp - first
  stack2 = stack1

  fall : Falls rest from n (framed_size saved homes) left q2
  fall = lowers q2 a2 stack2

  abbrev u : Run CpuState
  u = fall.end

  -- the whole stack is there, before the stores and after the first ones
  there : HasStack q0.state.bytes
  there a e = seen.stack a e

  theref : HasStack qf.state.bytes
  theref = stack-stored sp firsts 0 q0 there

  -- they lead to what is after them
  store-firsts : (is : List Instr) (v : Run CpuState) → Chain act acts_above is qf v → Chain act acts_above (stores_below (store_word first) firsts 0 ++ is) q0 v
  store-firsts is v rest =
      stored-chain act acts_above (store_word first) no-flags can-store 2 (sp - first) sp (store-act sp first low top even least most) (store-above sp first low top even least most) firsts 0
      is from n 1 q0 v (omega (arith, firsts-few)) (firsts-are saved) (omega arith) a0 stack0 there rest

  store-homes : (is : List Instr) (v : Run CpuState) → Chain act acts_above is q1 v → Chain act acts_above (stores_below (store_word first) places 5 ++ is) qf v
  store-homes is v rest =
      stored-chain act acts_above (store_word first) no-flags can-store 2 (sp - first) sp (store-act sp first low top even least most) (store-above sp first low top even least most) places 5
      is from n (1 + length firsts) qf v (omega (arith, places-few)) (homes-are homes) (omega arith) af stackf theref rest

  chain : Chain act acts_above all q u
  chain =
      chain-more act acts_above _ _ q u (sets q.state 2 (sp - first)) begins.runs (no-width _ _) fallen
      (store-firsts (stores_below (store_word first) places 5 ++ last) u (store-homes last u
      (chain-more act acts_above (instr.Imm Addi 8 2 (pos (first - 16))) rest q1 u (sets q1.state 8 (sp - 16)) a1.runs (no-width _ _) pointed fall.chain)))

  -- none of them lets the stack pointer rise
  stores-done : (is : List Instr) (p v : Run CpuState) → Chain act acts_above (is ++ []) p v → done (does act) is p ≡ v
  stores-done is p v c = ap (λ z. done (does act) z p) (sym (append-nil is)) ∙ c.leads

  stores-still : (rs : List ℕ) (k : ℕ) → All (StaysOutside (rv_rows code trash) false) (stores_below (store_word first) rs k)
  stores-still [] k = All-nil (StaysOutside (rv_rows code trash) false)
  stores-still (r ∷ rs) k =
      All-cons (StaysOutside (rv_rows code trash) false) (store_word first r k) (stores_below (store_word first) rs (suc k))
      (instructions-stay code trash false (store_word first r k) tt) (stores-still rs (suc k))

  -- stores, and then what is after them
  along-stores : (rs : List ℕ) (k : ℕ) (is : List Instr) (p v : Run CpuState) → Chain act acts_above (stores_below (store_word first) rs k ++ []) p v
      → Along (does act) StackLowers is v → Along (does act) StackLowers (stores_below (store_word first) rs k ++ is) p
  along-stores rs k is p v c rest =
      let stores = stores_below (store_word first) rs k in
      along-append (rv_rows code trash) StackLowers stores is p (still-lowers (rv_rows code trash) stores p (stores-still rs k))
      (subst (Along (does act) StackLowers is) (sym (stores-done stores p v c)) rest)

  along : Along (does act) StackLowers all q
  along =
      lowers-by (instr.Imm Addi 2 2 (negsuc (first - 1))) (stores_below (store_word first) firsts 0 ++ (stores_below (store_word first) places 5 ++ last)) q (sets q.state 2 (sp - first)) begins.runs fallen (omega (arith, stack-is))
      (along-stores firsts 0 (stores_below (store_word first) places 5 ++ last) q0 qf (store-firsts [] qf (chain-end act acts_above qf))
      (along-stores places 5 last qf q1 (store-homes [] q1 (chain-end act acts_above q1))
      (lowers-by (instr.Imm Addi 8 2 (pos (first - 16))) rest q1 (sets q1.state 8 (sp - 16)) a1.runs pointed (omega arith) fall.lowers)))

  straight : list_all is_straight all ≡ true
  straight =
      stores-all (store_word first) is_straight (λ r j. refl) firsts 0 (stores_below (store_word first) places 5 ++ last)
      (stores-all (store_word first) is_straight (λ r j. refl) places 5 last straight-rest)

  pass : PassesIn (rv_processor code trash) true from (behind (rv_rows code trash) from all) (length all) q u
  pass = all-passed true code trash small bytes-small trash-word from all q u k at (straight-block is_straight all straight) chain

  sinks : Sinks (rv_processor code trash) from (length all) q
  sinks = all-sunk true code trash small bytes-small trash-word from all q u k at (straight-block is_straight all straight) chain along

  -- the stack pointer has fallen before they are stored, which no register is that is
  front-bytes : qf.state.bytes ≡ with_stored q.state.bytes q.state.registers sp firsts 0
  front-bytes = stored-bytes no-flags sp firsts 0 q0 ∙ stored-besides q.state.registers 2 (sp - first) sp firsts 0 q.state.bytes (firsts-others saved)

  home-bytes : q1.state.bytes ≡ with_stored (with_stored q.state.bytes q.state.registers sp firsts 0) q.state.registers sp places 5
  home-bytes =
      stored-bytes no-flags sp places 5 qf ∙ ap (λ w. with_stored qf.state.bytes w sp places 5) regsf
      ∙ stored-besides q.state.registers 2 (sp - first) sp places 5 qf.state.bytes (homes-others homes)
      ∙ ap (λ m. with_stored m q.state.registers sp places 5) front-bytes

  is-entered : IsEntered (rv_processor code trash) 1 (first + left) homes saved sp q u
  is-entered = record {
    bytes = fall.bytes ∙ home-bytes;
    pointer = fall.others 8 (λ z. cc) (λ z. cc) ∙ put-same q1.state.registers 8 (sp - 16);
    stack = fall.stack ∙ ap (λ x. x - left) stack2 ∙ omega arith;
    others = λ r one two eight. fall.others r one two ∙ put-other q1.state.registers 8 (sp - 16) r eight ∙ ap (λ g. g r) regs1
        ∙ put-other q.state.registers 2 (sp - first) r two;
    mark = fall.mark ∙ stored-mark no-flags sp places 5 qf ∙ stored-mark no-flags sp firsts 0 q0;
  }

  pub enters : Entrance (rv_processor code trash) from (behind (rv_rows code trash) from all) sp (first + left) homes saved q
  enters =
      entrance (rv_processor code trash) 1 (first + left) homes saved sp refl refl low q u seen.words is-entered from
      (behind (rv_rows code trash) from all) (length all) pass sinks (omega (arith, few-rest, firsts-few, places-few, code-size)) (omega (arith, code-size)) fall.at.runs
      (let h = fall.at.here in let l = spelled-size all in omega (arith, h, l, code-size))

no-fall : (base n k : ℕ) (q : Run CpuState) → RunsAt base n k q → Falls [] base n k 0 q
no-fall base n k q at = record {
  end = q;
  chain = chain-end act acts_above q;
  lowers = tt;
  at = subst (λ x. RunsAt base n x q) (omega arith) at;
  stack = omega arith;
  others = λ r one two. refl;
  bytes = refl;
  mark = refl;
}

at-most : (size : ℕ) → nat_le size 2048 ≡ true → size ≤ 2048
at-most size h = grind (arith, h)

more-than : (size : ℕ) → nat_le size 2048 ≡ false → 2048 < size
more-than size h = grind (arith, h)

abbrev code-by : ℕ → ℕ → ℕ → Bool → List Instr
code-by saved frame homes b = if b then framed_code saved frame homes [] else framed_code saved 2048 homes (fall_code (frame - 2048))

pub prologs-lead : (saved : ℕ) (code : List ℕ) (trash : ℕ) → length code ≤ most_code → AreBytes code → trash < 2 ^ 64 → PrologsLead (rv_rows code trash) IsInstr saved (prolog_code saved)
prologs-lead saved code trash small bytes word frame homes from stack q seen large room top even is k runs at = by (nat_le frame 2048) refl k
  where
    low : 0x3FF00010 + 272 ≤ stack
    low = omega (arith, room, large)

    by : (b : Bool) → nat_le frame 2048 ≡ b → StandsAt (rv_rows code trash) true IsInstr from (code-by saved frame homes b)
        → Entrance (rv_processor code trash) from (behind (rv_rows code trash) from (code-by saved frame homes b)) stack frame homes saved q
    by true e k =
        let near = at-most frame e in
        let sum : frame + 0 ≡ frame = omega arith in
        subst (λ x. Entrance (rv_processor code trash) from (behind (rv_rows code trash) from (framed_code saved frame homes [])) stack x homes saved q) sum
        (enters code trash small bytes word frame 0 homes saved [] (omega (arith, large)) near refl (omega arith) from stack q seen low top even is k runs at
        (λ r a z. no-fall from (framed_size saved homes + 0) (framed_size saved homes) r a))
    by false e k =
        let far = more-than frame e in
        let sum : 2048 + (frame - 2048) ≡ frame = omega (arith, far) in
        let rest = fall_code (frame - 2048) in
        subst (λ x. Entrance (rv_processor code trash) from (behind (rv_rows code trash) from (framed_code saved 2048 homes rest)) stack x homes saved q) sum
        (enters code trash small bytes word 2048 (frame - 2048) homes saved rest (omega arith) (omega arith) (straight-falls (frame - 2048)) (few-falls (frame - 2048)) from
        stack q seen low top even is k runs at
        (λ r a z. falls from (framed_size saved homes + length rest) (framed_size saved homes) (frame - 2048) r a (omega (arith, far)) (omega (arith, room, top)) (omega (arith, z, room, far))
        (omega (arith, z, top)) (omega arith)))
