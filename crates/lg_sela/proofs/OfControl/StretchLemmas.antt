-- Instructions of AArch64 that are in the code, and runs over them.
use Rattle.std.proofs.Common.{◌≡◌, ℕ, ◌+◌, ◌*◌, ◌^◌, ◌<◌, ◌≤◌, true, List, [], ◌∷◌, ◌++◌, ap, ◌∙◌, arith, length, Bool}
use Rattle.lg_carry.specs.Carries.{Sinks}
use Rattle.lg_base.specs.Layout.{code_base, most_code}
use Rattle.lg_base.specs.Runs.{Running}
use Rattle.lg_a64.specs.Spelling.{IsInstr}
use Rattle.lg_a64.specs.declared.instruction.Instr.{Instr}
use Rattle.lg_cpu.specs.A64Step.{act}
use Rattle.lg_cpu.specs.Laws.{AreBytes}
use Rattle.lg_cpu.specs.States.{CpuState}
use Rattle.lg_cpu.specs.Steps.{Effect, Run, after, status_of}
use Rattle.lg_carry.specs.Blocks.{done, IsBlock, Along, Lowers, RunsBlock}
use Rattle.lg_carry.specs.Rows.{AreRows}
use Rattle.lg_sela_values.specs.Processor.A64Computers.{a64_computer}
use Rattle.lg_sela_values.specs.Processor.A64Rows.{a64_processor, a64_rows, a64_does, is_straight, acts_above}
use Rattle.lg_sela_values.specs.Processor.Computations.{all_compute}
use Rattle.lg_sela_values.proofs.OfProcessor.ComputerLemmas.{is-computer, spellings-long}
use Rattle.lg_sela_values.proofs.OfProcessor.RowLemmas.{went, are-rows}
use Rattle.lg_carry.specs.Nodes.Stretches.{StandsAt, behind, PassesIn}
use Rattle.lg_carry.proofs.OfNodes.StretchLemmas.{part-passes, part-run}
use Rattle.lg_carry.proofs.OfValues.ComputationLemmas.{RunsThrough, computations-run}
use Rattle.lg_sel.proofs.OfControl.ChainLemmas.{Chain, straight-block}
use Rattle.lg_sel.proofs.OfControl.StretchLemmas as stretches
use Rattle.lg_sela.proofs.OfControl.ComputedLemmas.{all-straight}
use Rattle.std.proofs.Common.{length-append}

module _ (moves : Bool) (code : List ℕ) (trash : ℕ) (small : length code ≤ most_code) (bytes : AreBytes code) (word : trash < 2 ^ 64) where
  rows : AreRows (a64_rows code trash) IsInstr
  rows = are-rows code trash small bytes word

  -- instructions that are in the code lie in the code part
  pub stands-high : (from : ℕ) (is : List Instr) → 0 < length is → StandsAt (a64_rows code trash) moves IsInstr from is → from + 4 * length is ≤ code_base + most_code
  stands-high from is some k =
      let long = spellings-long is in
      let high = stretches.stands-high (a64_rows code trash) IsInstr rows moves from is (omega (arith, long, some)) k in omega (arith, long, high)

  -- one of them is passed
  pub one-passed : (from : ℕ) (front : List Instr) (x : Instr) (back : List Instr) (q : Run CpuState) (e : Effect CpuState)
      → StandsAt (a64_rows code trash) moves IsInstr from (front ++ (x ∷ [] ++ back)) → status_of q.progress ≡ Running → acts_above x q.state → q.state.pc ≡ from + 4 * length front
      → act x q.state ≡ e → PassesIn (a64_processor code trash) moves from (behind (a64_rows code trash) from (front ++ (x ∷ [] ++ back))) 1 q (after q e)
  one-passed from front x back q e k runs high at does =
      let long = spellings-long front in
      stretches.one-passed (a64_rows code trash) IsInstr rows moves from front x back q (after q e) k runs high (omega (arith, at, long))
      (went q (act x q.state) runs ∙ ap (after q) does)

  -- and all of them
  pub all-passed : (from : ℕ) (is : List Instr) (q u : Run CpuState) → StandsAt (a64_rows code trash) moves IsInstr from is → q.state.pc ≡ from → IsBlock is_straight is
      → Chain act acts_above is q u → PassesIn (a64_processor code trash) moves from (behind (a64_rows code trash) from is) (length is) q u
  all-passed from is q u k at block h = stretches.all-passed (a64_rows code trash) IsInstr rows moves from is q u k at block h.through h.leads

  -- where none lets the stack pointer rise, they sink
  pub all-sunk : (from : ℕ) (is : List Instr) (q u : Run CpuState) → StandsAt (a64_rows code trash) moves IsInstr from is → q.state.pc ≡ from → IsBlock is_straight is
      → Chain act acts_above is q u → Along a64_does (Lowers (a64_rows code trash)) is q → Sinks (a64_processor code trash) from (length is) q
  all-sunk from is q u k at block h along = stretches.all-sunk (a64_rows code trash) IsInstr rows moves from is q k at block h.through along

  -- those that compute are passed in front of others
  module _ (from : ℕ) (front back : List Instr) (q : Run CpuState) (k : StandsAt (a64_rows code trash) moves IsInstr from (front ++ back)) (some : 0 < length back)
      (all : all_compute front ≡ true) (runs : status_of q.progress ≡ Running) (at : q.state.pc ≡ from) where
    pub front-high : from + 4 * length front + 4 * length back ≤ code_base + most_code
    front-high = let l = length-append front back in let h = stands-high from (front ++ back) (omega (arith, l, some)) k in omega (arith, l, h)

    pub front-runs : RunsThrough (a64_computer code trash) front q
    front-runs =
        let low = k.low in let high = front-high in let long = spellings-long front in
        computations-run (a64_computer code trash) (is-computer code trash) front q all runs (omega (arith, low, at)) (omega (arith, high, at, long))

    pub front-passed : PassesIn (a64_processor code trash) moves from (behind (a64_rows code trash) from (front ++ back)) (length front) q (done a64_does front q)
    front-passed = part-passes (a64_rows code trash) IsInstr rows moves from [] front back q k (at ∙ omega arith)
        (straight-block is_straight front (all-straight front all)) front-runs.through

    pub front-after : (done a64_does front q).state.pc ≡ from + 4 * length front
    front-after = let b = front-runs.behind in let long = spellings-long front in omega (arith, b, long, at)

    pub front-run : RunsBlock (a64_rows code trash) front q
    front-run = part-run (a64_rows code trash) IsInstr rows moves from [] front back q k (at ∙ omega arith)
        (straight-block is_straight front (all-straight front all)) front-runs.through
