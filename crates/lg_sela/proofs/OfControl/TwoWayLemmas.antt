-- A branch on a condition leads to two ways: to its label, or after itself.
use Rattle.lg_carry.proofs.BlockLemmas.{no-width}
use Rattle.std.proofs.Common.{◌≡◌, ◌≢◌, ℕ, ◌+◌, ◌*◌, ◌%◌, ◌^◌, ◌<◌, ◌≤◌, Bool, true, false, List, [], ◌∷◌, Some, refl, sym, ap, ◌∙◌, subst, arith, length}
use Rattle.std.proofs.Common.{length-append, append_assoc, ◌++◌}
use Rattle.std.specs.Prelude.{ℤ, pos, not, if◌then◌else◌}
use Rattle.lg_base.specs.Fields.{word_of}
use Rattle.lg_base.specs.HostNames.{host_address}
use Rattle.lg_base.specs.Layout.{code_base, most_code}
use Rattle.lg_base.specs.Runs.{Running}
use Rattle.lg_base.specs.Words.{add_words}
use Rattle.lg_base.specs.declared.flags.Flags.{Flags}
use Rattle.lg_base.specs.declared.target.Target.TheVariants.{Aarch64}
use Rattle.lg_op.specs.declared.operand.Operand.{Operand}
use Rattle.lg_op.specs.declared.operand.Operand.TheVariants as operand
use Rattle.lg_a64.specs.Spelling.{IsInstr}
use Rattle.lg_a64.specs.declared.instruction.BranchOp.TheVariants.{B}
use Rattle.lg_a64.specs.declared.instruction.Cond.{Cond}
use Rattle.lg_a64.specs.declared.instruction.Cond.TheVariants as cond
use Rattle.lg_a64.specs.declared.instruction.Instr.{Instr}
use Rattle.lg_a64.specs.declared.instruction.Instr.TheVariants as instr
use Rattle.lg_cpu.specs.A64Operators.{condition_holds}
use Rattle.lg_cpu.specs.A64Step.{away, act}
use Rattle.lg_cpu.specs.Laws.{AreBytes}
use Rattle.lg_cpu.specs.States.{CpuState, goes_on}
use Rattle.lg_cpu.specs.Steps.{Run, Effect, after, arrived, status_of}
use Rattle.lg_temp.specs.Abis.{register_of}
use Rattle.lg_carry.specs.Blocks.{done}
use Rattle.lg_sela_values.specs.Processor.A64Computers.{a64_scratch, a64_computer}
use Rattle.lg_sela_values.specs.Processor.A64Rows.{a64_processor, a64_rows, a64_does, nzcv, link, acts_above}
use Rattle.lg_sela_values.specs.Processor.Computations.{all_compute, holding, computed}
use Rattle.lg_sela_values.specs.Processor.Numbers.{number_code}
use Rattle.lg_sela_values.proofs.OfProcessor.ComputerLemmas.{spellings-long}
use Rattle.lg_sela_values.proofs.OfProcessor.HeldLemmas.{put-same, put-other}
use Rattle.lg_sela_values.proofs.OfProcessor.NumberCodeLemmas.{numbers-are-loaded}
use Rattle.lg_carry.specs.Nodes.Leaps.{IsThere, second_word}
use Rattle.lg_carry.specs.Nodes.Stretches.{StandsAt, behind, PassesIn, Way}
use Rattle.lg_carry.proofs.OfNodes.StretchLemmas.{passages-join}
use Rattle.lg_carry.specs.Values.Computers.{Held}
use Rattle.lg_carry.proofs.OfValues.ComputationLemmas.{RunsThrough}
use Rattle.lg_sel.proofs.OfControl.ChainLemmas.{pc-next, runs-there}
use Rattle.lg_sel.proofs.OfControl.StretchLemmas.{aligned}
use Rattle.lg_sela_values.specs.Items.{words_between}
use Rattle.lg_sel.specs.declared.reach.Reach.{Reach}
use Rattle.lg_sel.specs.declared.reach.Reach.TheVariants.{Short, Near, Far}
use Rattle.lg_sela.specs.Control.Branches.{turned}
use Rattle.lg_sela.specs.Control.ControlItems.{second_register}
use Rattle.lg_sela.specs.Control.TwoWays.{leads_if, branch_if, second_code}
use Rattle.lg_sela.proofs.OfControl.ComputedLemmas.{same-bytes, holds-seen}
use Rattle.lg_sela.proofs.OfControl.StretchLemmas.{one-passed, front-high, front-runs, front-passed, front-after}
use Rattle.lg_sela.proofs.OfControl.WalkLemmas.{leads-there}

-- ---- the second operand
-- the second operand is put into its register, and nothing but the link changes
pub record IsMade (x : Operand) (y : ℕ) (w : Held) : Type 0 where
  pub computes : all_compute (second_code x) ≡ true
  pub value : (computed (second_code x) w).registers (second_register x) ≡ y
  pub others : (z : ℕ) → z ≢ link → (computed (second_code x) w).registers z ≡ w.registers z
  pub few : length (second_code x) ≤ 4

number-made : (v y : ℕ) (w : Held) → v ≡ y → v < 2 ^ 64 → (all_compute (number_code link v) ≡ true) × ((computed (number_code link v) w).registers link ≡ y)
    × ((z : ℕ) → z ≢ link → (computed (number_code link v) w).registers z ≡ w.registers z) × (length (number_code link v) ≤ 4)
number-made v y w e lt =
    let loads = numbers-are-loaded link v (omega arith) lt in (
      loads.computes,
      ap (λ u. u.registers link) (loads.value w) ∙ put-same w.registers link v ∙ e,
      λ z ne. ap (λ u. u.registers z) (loads.value w) ∙ put-other w.registers link v z ne,
      loads.few,
    )

pub some-is : (v y : ℕ) → Some v ≡ Some y → v ≡ y
some-is v y e = cc

pub second-made : (x : Operand) (y : ℕ) (w : Held) → second_word Aarch64 w.registers x ≡ Some y → y < 2 ^ 64 → IsMade x y w
second-made (operand.Reg b) y w e lt = record {
  computes = refl;
  value = some-is (w.registers (register_of Aarch64 b)) y e;
  others = λ z ne. refl;
  few = omega arith;
}
second-made (operand.Number v) y w e lt = let s = some-is v y e in let m = number-made v y w s (subst (λ z. z < 2 ^ 64) (sym s) lt) in record {
  computes = m.0;
  value = m.1;
  others = m.2;
  few = m.3;
}
second-made (operand.Host name) y w e lt = let s = some-is (host_address name) y e in let m = number-made (host_address name) y w s (subst (λ z. z < 2 ^ 64) (sym s) lt) in record {
  computes = m.0;
  value = m.1;
  others = m.2;
  few = m.3;
}
second-made (operand.Label l) y w e lt = cc
second-made (operand.Slot k) y w e lt = cc

off-link : (x : ℕ) → a64_scratch x ≡ false → x ≢ link
off-link x e = λ z. absurd (grind (arith, e, z))

twice : (b : Bool) → not (not b) ≡ b
twice true = refl
twice false = refl

turned-holds : (c : Cond) (f : Flags) → condition_holds (turned c) f ≡ not (condition_holds c f)
turned-holds cond.Ne f = sym (twice (condition_holds cond.Eq f))
turned-holds cond.Cc f = sym (twice (condition_holds cond.Cs f))
turned-holds cond.Pl f = sym (twice (condition_holds cond.Mi f))
turned-holds cond.Vc f = sym (twice (condition_holds cond.Vs f))
turned-holds cond.Ls f = sym (twice (condition_holds cond.Hi f))
turned-holds cond.Ge f = sym (twice (condition_holds cond.Lt f))
turned-holds cond.Le f = sym (twice (condition_holds cond.Gt f))
turned-holds c f = refl

-- two words on
two-on : (pc : ℕ) → pc < 2 ^ 62 → away pc (word_of (pos 2)) ≡ pc + 8
two-on pc h = grind (arith, h)

-- ---- the branch, where what is before it computes
module _ (code : List ℕ) (trash : ℕ) (small : length code ≤ most_code) (bytes : AreBytes code) (word : trash < 2 ^ 64)
    (front back : List Instr) (c : Cond) (from to : ℕ) (q : Run CpuState) (k : StandsAt (a64_rows code trash) false IsInstr from (front ++ back)) (more : 0 < length back)
    (all : all_compute front ≡ true) (few : length front ≤ 60) (runs : status_of q.progress ≡ Running) (at : q.state.pc ≡ from) (goes-there : Bool)
    (there : goes-there ≡ true → IsThere (a64_rows code trash).is_place to)
    (next : IsThere (a64_rows code trash).is_place (behind (a64_rows code trash) from (front ++ back)))
    (taken : condition_holds c (computed front (holding q.state.registers (nzcv q.state.flags))).flags ≡ goes-there)
    (W : ℕ → ℕ) (kept : (z : ℕ) → z ≢ link → (computed front (holding q.state.registers (nzcv q.state.flags))).registers z ≡ W z) where
  abbrev start : ℕ
  start = from + 4 * length front

  abbrev high : ℕ
  high = behind (a64_rows code trash) from (front ++ back)

  size : high ≡ start + 4 * length back
  size = let l = spellings-long (front ++ back) in let m = length-append front back in omega (arith, l, m)

  top : start + 4 * length back ≤ code_base + most_code
  top = front-high false code trash small bytes word from front back q k more all runs at

  abbrev r : Run CpuState
  r = done a64_does front q

  ran : RunsThrough (a64_computer code trash) front q
  ran = front-runs false code trash small bytes word from front back q k more all runs at

  here : r.state.pc ≡ start
  here = front-after false code trash small bytes word from front back q k more all runs at

  even : start % 4 ≡ 0
  even = let e = aligned from k.place in omega (arith, e)

  -- what the branch reads
  reads : condition_holds c r.state.flags ≡ goes-there
  reads = holds-seen c r.state.flags ∙ ap (λ h. condition_holds c h.flags) ran.holds ∙ taken

  turned-reads : condition_holds (turned c) r.state.flags ≡ not goes-there
  turned-reads = turned-holds c r.state.flags ∙ ap not reads

  -- one instruction after those that compute is passed
  passes-join-one : (x : Instr) (rest : List Instr) → back ≡ x ∷ rest → (e : Effect CpuState) → acts_above x r.state → act x r.state ≡ e
      → PassesIn (a64_processor code trash) false from high (length front + 1) q (after r e)
  passes-join-one x rest is e above does =
      passages-join (a64_processor code trash) false from high (length front) 1 q r (after r e)
      (front-passed false code trash small bytes word from front back q k more all runs at)
      (subst (λ z. PassesIn (a64_processor code trash) false from (behind (a64_rows code trash) from (front ++ z)) 1 r (after r e)) (sym is)
      (one-passed false code trash small bytes word from front x rest r e (subst (λ z. StandsAt (a64_rows code trash) false IsInstr from (front ++ z)) is k) ran.runs above here does))

  -- one instruction after those that compute leads somewhere
  one-leads : (x : Instr) (rest : List Instr) (target : ℕ) → back ≡ x ∷ rest → code_base ≤ target → acts_above x r.state → act x r.state ≡ goes_on r.state target
      → Way (a64_processor code trash) a64_scratch from high W target q
  one-leads x rest target is low above does =
      let e : Effect CpuState = goes_on r.state target in record {
        end = after r e;
        steps = length front + 1;
        passes = passes-join-one x rest is e above does;
        few = omega (arith, few);
        some = omega arith;
        runs = runs-there target low;
        here = refl;
        registers = λ z off no. ap (λ h. h.registers z) ran.holds ∙ kept z (off-link z off);
        bytes = same-bytes r.state.bytes q.state.bytes ran.bytes;
        mark = ran.mark;
      }

  either-way : (goes-there ≡ true → Way (a64_processor code trash) a64_scratch from high W to q) → (goes-there ≡ false → Way (a64_processor code trash) a64_scratch from high W high q)
      → Way (a64_processor code trash) a64_scratch from high W (if goes-there then to else high) q
  either-way leapt stayed = by goes-there refl
    where
      by : (b : Bool) → goes-there ≡ b → Way (a64_processor code trash) a64_scratch from high W (if goes-there then to else high) q
      by true e = subst (λ z. Way (a64_processor code trash) a64_scratch from high W z q) (sym (ap (λ b. if b then to else high) e)) (leapt e)
      by false e = subst (λ z. Way (a64_processor code trash) a64_scratch from high W z q) (sym (ap (λ b. if b then to else high) e)) (stayed e)

  -- where a branch leads
  abbrev goes-to : ℤ → Bool → ℕ
  goes-to n b = if b then away r.state.pc (word_of n) else add_words r.state.pc 4

  -- ---- a branch
  module _ (is : back ≡ instr.BranchIf c (words_between start to) ∷ []) where
    near-long : length back ≡ 1
    near-long = ap length is

    pub near-ways : Way (a64_processor code trash) a64_scratch from high W (if goes-there then to else high) q
    near-ways = either-way
        (λ e. let t = there e in let h = t.high in
        one-leads (instr.BranchIf c (words_between start to)) [] to is t.low (no-width _ _) (ap (λ b. goes_on r.state (goes-to (words_between start to) b)) (reads ∙ e) ∙ ap (goes_on r.state)
        (leads-there r.state.pc start to here (omega (arith, top)) (omega (arith, h)) even (aligned to t.place))))
        (λ e. one-leads (instr.BranchIf c (words_between start to)) [] high is next.low (no-width _ _) (ap (λ b. goes_on r.state (goes-to (words_between start to) b)) (reads ∙ e)
        ∙ ap (goes_on r.state) (pc-next r.state.pc (omega (arith, here, top, near-long)) ∙ omega (arith, here, size, near-long))))

  -- ---- the turned branch over one without a condition
  module _ (is : back ≡ leads_if Far c start to) where
    abbrev skip : Instr
    skip = instr.BranchIf (turned c) (pos 2)

    abbrev leap : Instr
    leap = instr.Branch B (words_between (start + 4) to)

    far-long : length back ≡ 2
    far-long = ap length is

    abbrev r1 : Run CpuState
    r1 = after r (goes_on r.state (add_words r.state.pc 4))

    here1 : r1.state.pc ≡ start + 4
    here1 = pc-next r.state.pc (omega (arith, here, top, far-long)) ∙ omega (arith, here)

    runs1 : status_of r1.progress ≡ Running
    runs1 = let low = k.low in ap (λ p. status_of (arrived p)) here1 ∙ runs-there (start + 4) (omega (arith, low))

    split : front ++ back ≡ (front ++ (skip ∷ [])) ++ (leap ∷ [])
    split = ap (λ z. front ++ z) is ∙ sym (append_assoc front (skip ∷ []) (leap ∷ []))

    leapt : goes-there ≡ true → Way (a64_processor code trash) a64_scratch from high W to q
    leapt e =
        let t = there e in let h = t.high in
        let long : length (front ++ (skip ∷ [])) ≡ length front + 1 = length-append front (skip ∷ []) in
        let does1 : act skip r.state ≡ goes_on r.state (add_words r.state.pc 4) = ap (λ b. goes_on r.state (goes-to (pos 2) b)) (turned-reads ∙ ap not e) in
        let does2 : act leap r1.state ≡ goes_on r1.state to = ap (goes_on r1.state)
        (leads-there r1.state.pc (start + 4) to here1 (omega (arith, top)) (omega (arith, h)) (omega (arith, even)) (aligned to t.place)) in
        let k' : StandsAt (a64_rows code trash) false IsInstr from ((front ++ (skip ∷ [])) ++ (leap ∷ [])) = subst (StandsAt (a64_rows code trash) false IsInstr from) split k in
        let last : PassesIn (a64_processor code trash) false from high 1 r1 (after r1 (goes_on r1.state to)) =
        subst (λ z. PassesIn (a64_processor code trash) false from (behind (a64_rows code trash) from z) 1 r1 (after r1 (goes_on r1.state to))) (sym split)
        (one-passed false code trash small bytes word from (front ++ (skip ∷ [])) leap [] r1 (goes_on r1.state to) k' runs1 (no-width _ _) (omega (arith, here1, long)) does2) in
        record {
          end = after r1 (goes_on r1.state to);
          steps = length front + 1 + 1;
          passes = passages-join (a64_processor code trash) false from high (length front + 1) 1 q r1 (after r1 (goes_on r1.state to))
              (passes-join-one skip (leap ∷ []) is (goes_on r.state (add_words r.state.pc 4)) (no-width _ _) does1) last;
          few = omega (arith, few);
          some = omega arith;
          runs = runs-there to t.low;
          here = refl;
          registers = λ z off no. ap (λ h. h.registers z) ran.holds ∙ kept z (off-link z off);
          bytes = same-bytes r.state.bytes q.state.bytes ran.bytes;
          mark = ran.mark;
        }

    pub far-ways : Way (a64_processor code trash) a64_scratch from high W (if goes-there then to else high) q
    far-ways = either-way leapt
        (λ e. one-leads skip (leap ∷ []) high is next.low (no-width _ _) (ap (λ b. goes_on r.state (goes-to (pos 2) b)) (turned-reads ∙ ap not e)
        ∙ ap (goes_on r.state) (two-on r.state.pc (omega (arith, here, top)) ∙ omega (arith, here, size, far-long))))

-- ---- whatever the reach
pub two-ways : (r : Reach) (code : List ℕ) (trash : ℕ) → length code ≤ most_code → AreBytes code → trash < 2 ^ 64
    → (front : List Instr) (c : Cond) (from to : ℕ) (q : Run CpuState) → StandsAt (a64_rows code trash) false IsInstr from (branch_if r front c from to)
    → all_compute front ≡ true → length front ≤ 60 → status_of q.progress ≡ Running → q.state.pc ≡ from → (goes-there : Bool)
    → (goes-there ≡ true → IsThere (a64_rows code trash).is_place to)
    → IsThere (a64_rows code trash).is_place (behind (a64_rows code trash) from (branch_if r front c from to))
    → condition_holds c (computed front (holding q.state.registers (nzcv q.state.flags))).flags ≡ goes-there
    → (W : ℕ → ℕ) → ((z : ℕ) → z ≢ link → (computed front (holding q.state.registers (nzcv q.state.flags))).registers z ≡ W z)
    → Way (a64_processor code trash) a64_scratch from (behind (a64_rows code trash) from (branch_if r front c from to)) W
    (if goes-there then to else behind (a64_rows code trash) from (branch_if r front c from to)) q
two-ways Short code trash small bytes word front c from to q k all few runs at goes-there there next taken W kept =
    near-ways code trash small bytes word front (leads_if Short c (from + 4 * length front) to) c from to q k (omega arith) all few runs at goes-there there next taken W kept refl
two-ways Near code trash small bytes word front c from to q k all few runs at goes-there there next taken W kept =
    near-ways code trash small bytes word front (leads_if Near c (from + 4 * length front) to) c from to q k (omega arith) all few runs at goes-there there next taken W kept refl
two-ways Far code trash small bytes word front c from to q k all few runs at goes-there there next taken W kept =
    far-ways code trash small bytes word front (leads_if Far c (from + 4 * length front) to) c from to q k (omega arith) all few runs at goes-there there next taken W kept refl
