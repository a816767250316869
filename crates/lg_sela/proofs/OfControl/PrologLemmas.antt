-- A `prolog` makes the frame.
use Rattle.std.proofs.lemmas.List.Elements.{All-nil, All-cons}
use Rattle.lg_sel.specs.Holes.{Each}
use Rattle.lg_sela_values.proofs.OfProcessor.OutsideLemmas.{instructions-stay}
use Rattle.lg_sela_values.specs.Processor.Destinations.{WritesWithin}
use Rattle.lg_carry.proofs.TurnLemmas.{along-append, still-lowers}
use Rattle.lg_carry.specs.Carries.{Sinks}
use Rattle.lg_carry.specs.Blocks.{done, Along, StaysOutside}
use Rattle.lg_sel.specs.Control.Stores.{stores_below}
use Rattle.lg_carry.proofs.BelowLemmas.{not-below}
use Rattle.lg_carry.proofs.BlockLemmas.{no-width}
use Rattle.std.proofs.Common.{◌≡◌, ℕ, suc, ◌+◌, ◌-◌, ◌*◌, ◌/◌, ◌%◌, ◌^◌, ◌<◌, ◌≤◌, Bool, true, false, List, [], ◌∷◌, refl, ap, ◌∙◌, subst, arith, length, inr, append-nil, sym, ◌++◌}
use Rattle.std.specs.List.{list_all, All}
use Rattle.std.specs.Prelude.{◌==◌, not, nat_lt, if◌then◌else◌}
use Rattle.lg_base.specs.Conventions.{argument_registers}
use Rattle.lg_base.specs.Layout.{most_code, stack_end}
use Rattle.lg_base.specs.Runs.{Running}
use Rattle.lg_base.specs.Spaces.{mapped, stored}
use Rattle.lg_base.specs.Words.{add_words, sub_words}
use Rattle.lg_base.specs.declared.target.Target.TheVariants.{Aarch64}
use Rattle.lg_a64.specs.Spelling.{IsInstr}
use Rattle.lg_a64.specs.declared.instruction.ImmOp.TheVariants.{Addi, Subi}
use Rattle.lg_a64.specs.declared.instruction.Instr.{Instr}
use Rattle.lg_a64.specs.declared.instruction.Instr.TheVariants as instr
use Rattle.lg_cpu.specs.A64Step.{read, computes, act}
use Rattle.lg_cpu.specs.HostSteps.{put}
use Rattle.lg_cpu.specs.Laws.{AreBytes}
use Rattle.lg_cpu.specs.States.{CpuState, arrives}
use Rattle.lg_cpu.specs.Steps.{Run, after, status_of}
use Rattle.lg_carry.specs.Processors.{IsSeen}
use Rattle.lg_carry.proofs.SpillLemmas.{stored-there}
use Rattle.lg_carry.proofs.RegistersApartLemmas.{conventions-apart}
use Rattle.lg_sela_values.specs.Processor.A64Rows.{a64_processor, a64_rows, a64_seen, is_straight, link, stack_pointer, acts_above}
use Rattle.lg_sela_values.specs.Processor.A64Rows as rows
use Rattle.lg_sela_values.proofs.OfProcessor.ComputerLemmas.{spellings-long}
use Rattle.lg_sela_values.proofs.OfProcessor.HeldLemmas.{put-same, put-other}
use Rattle.lg_carry.specs.Nodes.Stretches.{StandsAt, behind, PassesIn}
use Rattle.lg_sel.specs.Control.Prologs.{Entrance, PrologsLead}
use Rattle.lg_sel.proofs.OfControl.ChainLemmas.{RunsAt, next-at, Chain, chain-end, chain-more, straight-block, does}
use Rattle.lg_sel.proofs.OfControl.EntranceLemmas.{IsEntered, entrance}
use Rattle.lg_sel.proofs.OfControl.StoreLemmas.{word_below, with_stored, HasStack, mapped-below, store_one, run_stored, stored-at, stored-registers}
use Rattle.lg_sel.proofs.OfControl.StoreLemmas.{stored-mark, stored-bytes, stored-chain, first-few, homes-few, take-all}
use Rattle.lg_sel.proofs.OfControl.StoreLemmas.{stores-before, stores-all, stored-besides}
use Rattle.lg_sela.specs.Control.Prologs.{first_registers, home_registers, store_word, fall_code, framed_code, is_near, prolog_code}
use Rattle.lg_sela.proofs.OfControl.StackFallLemmas.{StackLowers, lowers-by, Falls, falls, near-size}
use Rattle.lg_sela.proofs.OfControl.StretchLemmas.{stands-high, all-passed, all-sunk}

-- ---- the code
straight-falls : (size : ℕ) → list_all is_straight (fall_code size) ≡ true
straight-falls size = by (nat_lt size 4096)
  where
    by : (b : Bool) → list_all is_straight (if b then instr.Imm Subi stack_pointer stack_pointer size false ∷ []
        else instr.Imm Subi stack_pointer stack_pointer (size / 4096 % 4096) true ∷ instr.Imm Subi stack_pointer stack_pointer (size % 4096) false ∷ []) ≡ true
    by true = refl
    by false = refl

few-falls : (size : ℕ) → length (fall_code size) ≤ 2
few-falls size = by (nat_lt size 4096)
  where
    by : (b : Bool) → length (if b then instr.Imm Subi stack_pointer stack_pointer size false ∷ []
        else instr.Imm Subi stack_pointer stack_pointer (size / 4096 % 4096) true ∷ instr.Imm Subi stack_pointer stack_pointer (size % 4096) false ∷ []) ≤ 2
    by true = omega arith
    by false = omega arith

-- ---- a store
-- 31 would be stored as 0
can-store : ℕ → Bool
can-store r = not (r == 31)

is-register : (r : ℕ) → can-store r ≡ true → (r == 31) ≡ false
unfolding can-store
is-register r h = grind (arith, h)

arguments-are : list_all can-store (argument_registers Aarch64) ≡ true
unfolding can-store
arguments-are = refl

firsts-are : (saved : ℕ) → list_all can-store (first_registers saved) ≡ true
unfolding can-store
firsts-are saved = take-all can-store (19 ∷ 20 ∷ 21 ∷ []) saved refl

homes-are : (homes : ℕ) → list_all can-store (home_registers homes) ≡ true
homes-are homes = take-all can-store (argument_registers Aarch64) homes arguments-are

-- the stack pointer, which has fallen, is not stored
firsts-others : (saved : ℕ) → list_all (λ r. not (r == stack_pointer)) (first_registers saved) ≡ true
firsts-others saved = take-all (λ r. not (r == stack_pointer)) (19 ∷ 20 ∷ 21 ∷ []) saved refl

homes-others : (homes : ℕ) → list_all (λ r. not (r == stack_pointer)) (home_registers homes) ≡ true
homes-others homes = take-all (λ r. not (r == stack_pointer)) (argument_registers Aarch64) homes refl

-- the stack stays whole where they are stored
stack-stays : (sp : ℕ) (rs : List ℕ) (k : ℕ) (q : Run CpuState) → HasStack q.state.bytes → HasStack (run_stored (λ f. f) sp q rs k).state.bytes
stack-stays sp [] k q there = there
stack-stays sp (r ∷ rs) k q there =
    stack-stays sp rs (suc k) (store_one (λ f. f) sp q r k) (λ a e. stored-there q.state.bytes (word_below sp k) 8 (q.state.registers r) a (there a e))

-- the row counts words
words-above : (sp first k : ℕ) → k < 13 → first % 8 ≡ 0 → 104 ≤ first → first ≤ 2048 → 0x3FF00010 + 272 ≤ sp → sp ≤ 0x40000000
    → add_words (sp - first) ((first / 8 - (1 + k)) * 8) ≡ word_below sp k
words-above sp first k few whole least most low high = grind (arith, few, whole, least, most, low, high)

module _ (sp first : ℕ) (low : 0x3FF00010 + 272 ≤ sp) (high : sp ≤ 0x40000000) (whole : first % 8 ≡ 0) (least : 104 ≤ first) (most : first ≤ 2048) where
  store-act : (q : CpuState) (r k : ℕ) → k < 13 → can-store r ≡ true → q.registers stack_pointer ≡ sp - first → HasStack q.bytes
      → act (store_word first r k) q ≡ arrives (add_words q.pc 4) q.registers q.flags (stored q.bytes (word_below sp k) 8 (q.registers r)) q.mark
  store-act q r k few can at there =
      let address : add_words (q.registers stack_pointer) ((first / 8 - (1 + k)) * 8) ≡ word_below sp k =
      ap (λ x. add_words x ((first / 8 - (1 + k)) * 8)) at ∙ words-above sp first k few whole least most low high in
      let value : read q.registers r ≡ q.registers r = ap (λ b. if b then 0 else q.registers r) (is-register r can) in
      let is-there : mapped q.bytes (word_below sp k) 8 ≡ true = mapped-below q.bytes sp k few low high there in
      rw (address, value, is-there) refl

  -- it lies at or above the stack pointer, which has fallen
  store-above : (q : CpuState) (r k : ℕ) → k < 13 → q.registers stack_pointer ≡ sp - first → acts_above (store_word first r k) q
  store-above q r k few at a le lt =
      let address : add_words (q.registers stack_pointer) ((first / 8 - (1 + k)) * 8) ≡ word_below sp k =
      ap (λ x. add_words x ((first / 8 - (1 + k)) * 8)) at ∙ words-above sp first k few whole least most low high in
      not-below Aarch64 (q.registers stack_pointer) a (inr (omega (arith, le, address, at, few, least, low)))

fallen : (sp first : ℕ) → first ≤ 2048 → 0x3FF00010 + 272 ≤ sp → sp ≤ 0x40000000 → sub_words sp first ≡ sp - first
fallen sp first most low high = grind (arith, most, low, high)

pointer-above : (sp first : ℕ) → 104 ≤ first → first ≤ 2048 → 0x3FF00010 + 272 ≤ sp → sp ≤ 0x40000000 → add_words (sp - first) (first - 16) ≡ sp - 16
pointer-above sp first least most low high = grind (arith, least, most, low, high)

-- the first fall, the stores and FP are this many instructions
abbrev framed_size : ℕ → ℕ → ℕ
framed_size saved homes = suc (1 + length (first_registers saved) + length (home_registers homes))

-- a part of the frame first, its words, and then what is left
module _ (code : List ℕ) (trash : ℕ) (small : length code ≤ most_code) (bytes-small : AreBytes code) (trash-word : trash < 2 ^ 64)
    (first left saved homes : ℕ) (rest : List Instr) (whole : first % 8 ≡ 0) (least : 104 ≤ first) (most : first ≤ 2048) (straight-rest : list_all is_straight rest ≡ true) (few-rest : length rest ≤ 2)
    (from sp : ℕ) (q : Run CpuState) (seen : IsSeen (a64_seen q)) (low : 0x3FF00010 + 272 ≤ sp) (top : sp ≤ stack_end)
    (stack-is : q.state.registers stack_pointer ≡ sp) (k : StandsAt (a64_rows code trash) true IsInstr from (framed_code saved first homes rest)) (runs : status_of q.progress ≡ Running)
    (at : q.state.pc ≡ from)
    (lowers : (r : Run CpuState) → RunsAt from (framed_size saved homes + length rest) (framed_size saved homes) r → r.state.registers stack_pointer ≡ sp - first
    → Falls rest from (framed_size saved homes + length rest) (framed_size saved homes) left r) where
  abbrev n : ℕ
  n = framed_size saved homes + length rest

  abbrev firsts : List ℕ
  firsts = first_registers saved

  abbrev places : List ℕ
  places = home_registers homes

  abbrev all : List Instr
  all = framed_code saved first homes rest

  abbrev fp-code : Instr
  fp-code = instr.Imm Addi rows.frame_pointer stack_pointer (first - 16) false

  -- the stores of homes are in front of FP
  abbrev home-stores : List Instr
  home-stores = stores_below (store_word first) places 5

  abbrev back : List Instr
  back = home-stores ++ (fp-code ∷ rest)

  few-firsts : length firsts ≤ 5
  few-firsts = first-few Aarch64 link saved

  few-homes : length places ≤ 8
  few-homes = homes-few Aarch64 homes

  code-size : length all ≡ n
  code-size =
      let e = stores-before (store_word first) firsts 0 back in let f = stores-before (store_word first) places 5 (fp-code ∷ rest) in omega (arith, e, f)

  begins : RunsAt from n 0 q
  begins = let h = stands-high true code trash small bytes-small trash-word from all (omega arith) k in record {
    runs = runs;
    here = at ∙ omega arith;
    low = k.low;
    high = omega (arith, h, code-size);
  }

  -- the first fall
  abbrev w0 : ℕ
  w0 = sub_words (q.state.registers stack_pointer) first

  abbrev q0 : Run CpuState
  q0 = after q (computes q.state (put q.state.registers stack_pointer w0) q.state.flags)

  a0 : RunsAt from n 1 q0
  a0 = next-at from n 0 q _ _ _ _ (omega arith) begins

  stack0 : q0.state.registers stack_pointer ≡ sp - first
  stack0 = put-same q.state.registers stack_pointer w0 ∙ ap (λ y. sub_words y first) stack-is ∙ fallen sp first most low top

  -- the stores of the link, FP and V0 to V2, and of the homes
  abbrev q1 : Run CpuState
  q1 = run_stored (λ f. f) sp q0 firsts 0

  regs1 : q1.state.registers ≡ q0.state.registers
  regs1 = stored-registers (λ f. f) sp firsts 0 q0

  a1 : RunsAt from n (1 + length firsts) q1
  a1 = stored-at (λ f. f) sp firsts 0 from n 1 q0 (omega arith) a0

  stack1 : q1.state.registers stack_pointer ≡ sp - first
  stack1 = ap (λ g. g stack_pointer) regs1 ∙ stack0

  there1 : HasStack q1.state.bytes
  there1 = stack-stays sp firsts 0 q0 (λ a e. seen.stack a e)

  abbrev q2 : Run CpuState
  q2 = run_stored (λ f. f) sp q1 places 5

  regs2 : q2.state.registers ≡ q0.state.registers
  regs2 = stored-registers (λ f. f) sp places 5 q1 ∙ regs1

  a2 : RunsAt from n (1 + length firsts + length places) q2
  a2 = stored-at (λ f. f) sp places 5 from n (1 + length firsts) q1 (omega arith) a1

  stack2 : q2.state.registers stack_pointer ≡ sp - first
  stack2 = ap (λ g. g stack_pointer) regs2 ∙ stack0

  -- FP
  abbrev fp : ℕ
  fp = add_words (q2.state.registers stack_pointer) (first - 16)

  abbrev q3 : Run CpuState
  q3 = after q2 (computes q2.state (put q2.state.registers rows.frame_pointer fp) q2.state.flags)

  a3 : RunsAt from n (framed_size saved homes) q3
  a3 = next-at from n (1 + length firsts + length places) q2 _ _ _ _ (omega arith) a2

  stack3 : q3.state.registers stack_pointer ≡ sp - first
  stack3 = stack2

  fp-word : fp ≡ sp - 16
  fp-word = ap (λ y. add_words y (first - 16)) stack2 ∙ pointer-above sp first least most low top

  fall : Falls rest from n (framed_size saved homes) left q3
  fall = lowers q3 a3 stack3

  abbrev u : Run CpuState
  u = fall.end

  -- registers that are stored, in front of others
  stores-run : (rs : List ℕ) (j k : ℕ) (is : List Instr) (r v : Run CpuState) → k + length rs ≤ 13 → list_all can-store rs ≡ true → j + length rs ≤ n → RunsAt from n j r
      → r.state.registers stack_pointer ≡ sp - first → HasStack r.state.bytes → Chain act acts_above is (run_stored (λ f. f) sp r rs k) v
      → Chain act acts_above (stores_below (store_word first) rs k ++ is) r v
  stores-run rs j k is r v few can room at stack there h =
      stored-chain act acts_above (store_word first) (λ f. f) can-store stack_pointer (sp - first) sp (store-act sp first low top whole least most)
      (store-above sp first low top whole least most) rs k is from n j r v few can room at stack there h

  chain : Chain act acts_above all q u
  chain =
      chain-more act acts_above _ _ q u (computes q.state (put q.state.registers stack_pointer w0) q.state.flags) begins.runs (no-width _ _) refl
      (stores-run firsts 1 0 back q0 u (omega (arith, few-firsts)) (firsts-are saved) (omega arith) a0 stack0 (λ a e. seen.stack a e)
      (stores-run places (1 + length firsts) 5 (fp-code ∷ rest) q1 u (omega (arith, few-homes)) (homes-are homes) (omega arith) a1 stack1 there1
      (chain-more act acts_above fp-code rest q2 u (computes q2.state (put q2.state.registers rows.frame_pointer fp) q2.state.flags) a2.runs (no-width _ _) refl fall.chain)))

  -- none of them lets the stack pointer rise
  abbrev stores : List Instr
  stores = stores_below (store_word first) firsts 0

  stores-done : done (does act) stores q0 ≡ q1
  stores-done =
      let c = stores-run firsts 1 0 [] q0 q1 (omega (arith, few-firsts)) (firsts-are saved) (omega arith) a0 stack0 (λ a e. seen.stack a e) (chain-end act acts_above q1) in
      ap (λ z. done (does act) z q0) (sym (append-nil stores)) ∙ c.leads

  homes-done : done (does act) home-stores q1 ≡ q2
  homes-done =
      let c = stores-run places (1 + length firsts) 5 [] q1 q2 (omega (arith, few-homes)) (homes-are homes) (omega arith) a1 stack1 there1 (chain-end act acts_above q2) in
      ap (λ z. done (does act) z q1) (sym (append-nil home-stores)) ∙ c.leads

  stores-still : (rs : List ℕ) (j : ℕ) → All (StaysOutside (a64_rows code trash) false) (stores_below (store_word first) rs j)
  stores-still rs j = each-still (stores_below (store_word first) rs j) (stores-each rs j)
    where
      stores-each : (rs : List ℕ) (j : ℕ) → Each (WritesWithin false) (stores_below (store_word first) rs j)
      stores-each [] j = tt
      stores-each (r ∷ rs) j = (tt, stores-each rs (suc j))

      each-still : (is : List Instr) → Each (WritesWithin false) is → All (StaysOutside (a64_rows code trash) false) is
      each-still [] h = All-nil (StaysOutside (a64_rows code trash) false)
      each-still (i ∷ is) h = All-cons (StaysOutside (a64_rows code trash) false) i is (instructions-stay code trash false i h.0) (each-still is h.1)

  along : Along (does act) StackLowers all q
  along = lowers-by (instr.Imm Subi stack_pointer stack_pointer first false) (stores ++ back) q (computes q.state (put q.state.registers stack_pointer w0) q.state.flags)
      begins.runs refl (omega (arith, stack-is, stack0))
      (along-append (a64_rows code trash) StackLowers stores back q0 (still-lowers (a64_rows code trash) stores q0 (stores-still firsts 0))
      (subst (Along (does act) StackLowers back) (sym stores-done)
      (along-append (a64_rows code trash) StackLowers home-stores (fp-code ∷ rest) q1 (still-lowers (a64_rows code trash) home-stores q1 (stores-still places 5))
      (subst (Along (does act) StackLowers (fp-code ∷ rest)) (sym homes-done)
      (lowers-by fp-code rest q2 (computes q2.state (put q2.state.registers rows.frame_pointer fp) q2.state.flags) a2.runs refl (omega arith) fall.lowers)))))

  straight : list_all is_straight all ≡ true
  straight =
      stores-all (store_word first) is_straight (λ r j. refl) firsts 0 back
      (stores-all (store_word first) is_straight (λ r j. refl) places 5 (fp-code ∷ rest) straight-rest)

  pass : PassesIn (a64_processor code trash) true from (behind (a64_rows code trash) from all) (length all) q u
  pass = all-passed true code trash small bytes-small trash-word from all q u k at (straight-block is_straight all straight) chain

  sinks : Sinks (a64_processor code trash) from (length all) q
  sinks = all-sunk true code trash small bytes-small trash-word from all q u k at (straight-block is_straight all straight) chain along

  is-entered : IsEntered (a64_processor code trash) link (first + left) homes saved sp q u
  is-entered = record {
    bytes = fall.bytes ∙ stored-bytes (λ f. f) sp places 5 q1 ∙ ap (λ g. with_stored q1.state.bytes g sp places 5) regs1
        ∙ stored-besides q.state.registers stack_pointer w0 sp places 5 q1.state.bytes (homes-others homes)
        ∙ ap (λ m. with_stored m q.state.registers sp places 5)
        (stored-bytes (λ f. f) sp firsts 0 q0 ∙ stored-besides q.state.registers stack_pointer w0 sp firsts 0 q.state.bytes (firsts-others saved));
    pointer = fall.others rows.frame_pointer (conventions-apart Aarch64).pointers ∙ put-same q2.state.registers rows.frame_pointer fp ∙ fp-word;
    stack = fall.stack ∙ ap (λ x. x - left) stack3 ∙ omega arith;
    others = λ r no-link no-stack no-pointer. fall.others r no-stack ∙ put-other q2.state.registers rows.frame_pointer fp r no-pointer ∙ ap (λ g. g r) regs2
        ∙ put-other q.state.registers stack_pointer w0 r no-stack;
    mark = fall.mark ∙ stored-mark (λ f. f) sp places 5 q1 ∙ stored-mark (λ f. f) sp firsts 0 q0;
  }

  pub enters : Entrance (a64_processor code trash) from (behind (a64_rows code trash) from all) sp (first + left) homes saved q
  enters =
      entrance (a64_processor code trash) link (first + left) homes saved sp refl refl low q u seen.words is-entered from (behind (a64_rows code trash) from all) (length all)
      pass sinks (omega (arith, code-size, few-firsts, few-homes, few-rest)) (omega (arith, code-size)) fall.at.runs
      (let h = fall.at.here in let l = spellings-long all in omega (arith, h, l, code-size))

no-fall : (base n k : ℕ) (q : Run CpuState) → RunsAt base n k q → Falls [] base n k 0 q
no-fall base n k q at = record {
  end = q;
  chain = chain-end act acts_above q;
  lowers = tt;
  at = subst (λ x. RunsAt base n x q) (omega arith) at;
  stack = omega arith;
  others = λ r ne. refl;
  bytes = refl;
  mark = refl;
}

abbrev code-by : ℕ → ℕ → ℕ → Bool → List Instr
code-by saved frame homes b = if b then framed_code saved frame homes [] else framed_code saved 112 homes (fall_code (frame - 112))

pub prologs-lead : (saved : ℕ) (code : List ℕ) (trash : ℕ) → length code ≤ most_code → AreBytes code → trash < 2 ^ 64
    → PrologsLead (a64_rows code trash) IsInstr saved (prolog_code saved)
prologs-lead saved code trash small bytes word frame homes from stack q seen large room top even is k runs at = by (is_near frame) refl k
  where
    low : 0x3FF00010 + 272 ≤ stack
    low = omega (arith, room, large)

    by : (b : Bool) → is_near frame ≡ b → StandsAt (a64_rows code trash) true IsInstr from (code-by saved frame homes b)
        → Entrance (a64_processor code trash) from (behind (a64_rows code trash) from (code-by saved frame homes b)) stack frame homes saved q
    by true e k =
        let near = near-size frame e in
        let sum : frame + 0 ≡ frame = omega arith in
        subst (λ x. Entrance (a64_processor code trash) from (behind (a64_rows code trash) from (framed_code saved frame homes [])) stack x homes saved q) sum
        (enters code trash small bytes word frame 0 saved homes [] near.1 (omega (arith, large)) near.0 refl (omega arith) from stack q seen low top is k runs at
        (λ r a z. no-fall from (framed_size saved homes + 0) (framed_size saved homes) r a))
    by false e k =
        let sum : 112 + (frame - 112) ≡ frame = omega (arith, large) in
        let rest = fall_code (frame - 112) in
        subst (λ x. Entrance (a64_processor code trash) from (behind (a64_rows code trash) from (framed_code saved 112 homes rest)) stack x homes saved q) sum
        (enters code trash small bytes word 112 (frame - 112) saved homes rest refl (omega arith) (omega arith) (straight-falls (frame - 112)) (few-falls (frame - 112))
        from stack q seen low top is k runs at
        (λ r a z. falls from (framed_size saved homes + length rest) (framed_size saved homes) (frame - 112) r a (omega (arith, room, top))
        (omega (arith, z, room, large)) (omega (arith, z, top)) (omega arith)))
