-- Instructions of x86-64 that are in the code, and runs over them.
use Rattle.std.proofs.Common.{◌≡◌, ℕ, ◌+◌, ◌^◌, ◌<◌, ◌≤◌, List, [], ◌∷◌, ◌++◌, Some, sym, ap, ◌∙◌, subst, arith, length, append-nil, length-append, false, Bool}
use Rattle.std.specs.List.{All}
use Rattle.std.proofs.lemmas.List.Elements.{All-nil, All-cons}
use Rattle.lg_sel.specs.Holes.{Each}
use Rattle.lg_selx_values.proofs.OfProcessor.OutsideLemmas.{instructions-stay}
use Rattle.lg_selx_values.specs.Processor.Destinations.{WritesWithin}
use Rattle.lg_carry.specs.Carries.{Sinks}
use Rattle.lg_base.specs.Layout.{code_base, most_code}
use Rattle.lg_base.specs.Runs.{Running}
use Rattle.lg_base.specs.Words.{add_words}
use Rattle.lg_x86.specs.Spelling.{spelling, IsInstr}
use Rattle.lg_x86.specs.declared.instruction.Instr.{Instr}
use Rattle.lg_x86.proofs.SizeLemmas.{sized}
use Rattle.lg_cpu.specs.Laws.{AreBytes}
use Rattle.lg_cpu.specs.States.{CpuState}
use Rattle.lg_cpu.specs.Steps.{Run, Effect, after, status_of}
use Rattle.lg_cpu.specs.X86Step.{Scene, scene_of, does, act}
use Rattle.lg_carry.specs.Blocks.{spellings, done, Along, Lowers, RunsBlock, StaysOutside}
use Rattle.lg_carry.specs.Rows.{AreRows}
use Rattle.lg_selx_values.specs.Processor.Makings.{makes, AreAbove, RunsMakings}
use Rattle.lg_selx_values.specs.Processor.X86Rows.{x86_processor, x86_rows, x86_does, acts_above}
use Rattle.lg_selx_values.proofs.OfProcessor.MakingLemmas.{makes-block, makings-run}
use Rattle.lg_selx_values.proofs.OfProcessor.RowLemmas.{are-rows, went}
use Rattle.lg_selx_values.proofs.OfProcessor.SlotLemmas.{pc-next}
use Rattle.lg_carry.specs.Nodes.Stretches.{StandsAt, behind, PassesIn}
use Rattle.lg_carry.proofs.OfNodes.StretchLemmas.{spelled-append, part-passes, passages-join, part-run}
use Rattle.lg_sel.proofs.OfControl.StretchLemmas as stretches

-- how many bytes an instruction has after others
pub spelled-after : (front : List Instr) (x : Instr)
    → length (spellings spelling (front ++ (x ∷ []))) ≡ length (spellings spelling front) + length (spelling x)
spelled-after front x =
    ap length (spelled-append spelling front (x ∷ [])) ∙ length-append (spellings spelling front) (spelling x ++ [])
    ∙ ap (λ n. length (spellings spelling front) + length n) (append-nil (spelling x))

-- instructions have bytes
pub spelled-some : (is : List Instr) → 0 < length is → 0 < length (spellings spelling is)
spelled-some [] lt = absurd (omega (arith, lt))
spelled-some (i ∷ is) lt = let s = (sized i).some in let e = length-append (spelling i) (spellings spelling is) in omega (arith, s, e)

-- a state with this scene
abbrev pub state_of : ℕ → Scene → ℕ → CpuState
state_of pc s mark = record { pc = pc; registers = s.registers; flags = s.flags; bytes = s.bytes; mark = mark }

pub same-state : (q : CpuState) (pc : ℕ) (s : Scene) (mark : ℕ) → q.pc ≡ pc → scene_of q ≡ s → q.mark ≡ mark → q ≡ state_of pc s mark
same-state q pc s mark here scene-is mark-is = λ j. state_of (here j) (scene-is j) (mark-is j)

-- instructions that write no stack pointer keep it
pub all-still : (code : List ℕ) (trash : ℕ) (is : List Instr) → Each (WritesWithin false) is → All (StaysOutside (x86_rows code trash) false) is
all-still code trash [] h = All-nil (StaysOutside (x86_rows code trash) false)
all-still code trash (i ∷ is) h = All-cons (StaysOutside (x86_rows code trash) false) i is (instructions-stay code trash false i h.0) (all-still code trash is h.1)

module _ (moves : Bool) (code : List ℕ) (trash : ℕ) (small : length code ≤ most_code) (bytes : AreBytes code) (word : trash < 2 ^ 64) where
  rows : AreRows (x86_rows code trash) IsInstr
  rows = are-rows code trash small bytes word

  -- instructions that are in the code lie in the code part
  pub stands-high : (from : ℕ) (is : List Instr) → 0 < length (spellings spelling is) → StandsAt (x86_rows code trash) moves IsInstr from is
      → behind (x86_rows code trash) from is ≤ code_base + most_code
  stands-high from is some k = stretches.stands-high (x86_rows code trash) IsInstr rows moves from is some k

  -- ---- instructions that make a scene, and one after them
  module _ (from : ℕ) (front : List Instr) (x : Instr) (q : Run CpuState) (t : Scene) (k : StandsAt (x86_rows code trash) moves IsInstr from (front ++ (x ∷ [])))
      (made : makes front (scene_of q.state) ≡ Some t) (runs : status_of q.progress ≡ Running) (at : q.state.pc ≡ from) where
    abbrev pub front_high : ℕ
    front_high = behind (x86_rows code trash) from (front ++ (x ∷ []))

    pub front-size : front_high ≡ from + length (spellings spelling front) + length (spelling x)
    front-size = let e = spelled-after front x in omega (arith, e)

    pub front-top : front_high ≤ code_base + most_code
    front-top = let s = (sized x).some in let e = spelled-after front x in stands-high from (front ++ (x ∷ [])) (omega (arith, s, e)) k

    abbrev pub front_run : Run CpuState
    front_run = done x86_does front q

    pub front-ran : AreAbove front (scene_of q.state) → RunsMakings front q t
    front-ran above =
        let l = k.low in let s = front-size in let h = front-top in makings-run front q t made above runs (omega (arith, l, at)) (λ z. omega (arith, s, h, at))

    -- the state before that one
    abbrev pub front_state : CpuState
    front_state = state_of (from + length (spellings spelling front)) t q.state.mark

    pub front-after : AreAbove front (scene_of q.state) → front_run.state.pc ≡ from + length (spellings spelling front)
    front-after above = (front-ran above).behind ∙ ap (λ n. n + length (spellings spelling front)) at

    pub front-left : AreAbove front (scene_of q.state) → front_run.state ≡ front_state
    front-left above =
        let r = front-ran above in same-state front_run.state (from + length (spellings spelling front)) t q.state.mark (front-after above) r.scene r.mark

    pub front-next : add_words (from + length (spellings spelling front)) (length (spelling x)) ≡ front_high
    front-next =
        let s = front-size in let h = front-top in
        pc-next (from + length (spellings spelling front)) (length (spelling x)) (omega (arith, s, h)) ∙ sym s

    -- they are a block that is run
    pub front-block : AreAbove front (scene_of q.state) → RunsBlock (x86_rows code trash) front q
    front-block above = part-run (x86_rows code trash) IsInstr rows moves from [] front (x ∷ []) q k (at ∙ omega arith) (makes-block front (scene_of q.state) t made)
        (front-ran above).through

    -- all are passed, by what that one does
    pub front-passed : AreAbove front (scene_of q.state) → acts_above x front_state → (e : Effect CpuState) → does x front_high front_state ≡ e
        → PassesIn (x86_processor code trash) moves from front_high (length front + 1) q (after front_run e)
    front-passed above here e is =
        passages-join (x86_processor code trash) moves from front_high (length front) 1 q front_run (after front_run e)
        (part-passes (x86_rows code trash) IsInstr rows moves from [] front (x ∷ []) q k (at ∙ omega arith) (makes-block front (scene_of q.state) t made)
        (front-ran above).through)
        (stretches.one-passed (x86_rows code trash) IsInstr rows moves from front x [] front_run (after front_run e) k (front-ran above).runs
        (subst (acts_above x) (sym (front-left above)) here) (front-after above)
        (went front_run (act x (length (spelling x)) front_run.state) (front-ran above).runs
        ∙ ap (after front_run) (ap (act x (length (spelling x))) (front-left above) ∙ ap (λ pc. does x pc front_state) front-next ∙ is)))

  -- ---- instructions that make a scene, and no other
  pub record Made (from : ℕ) (is : List Instr) (t : Scene) (q : Run CpuState) : Type 0 where
    pub end : Run CpuState
    pub passes : PassesIn (x86_processor code trash) moves from (behind (x86_rows code trash) from is) (length is) q end
    pub runs : status_of end.progress ≡ Running
    pub here : end.state.pc ≡ behind (x86_rows code trash) from is
    pub scene : scene_of end.state ≡ t
    pub mark : end.state.mark ≡ q.state.mark

  pub made-passed : (from : ℕ) (is : List Instr) (q : Run CpuState) (t : Scene) → StandsAt (x86_rows code trash) moves IsInstr from is
      → makes is (scene_of q.state) ≡ Some t → AreAbove is (scene_of q.state) → status_of q.progress ≡ Running → q.state.pc ≡ from
      → behind (x86_rows code trash) from is ≤ code_base + most_code → Made from is t q
  made-passed from is q t k made above runs at room =
      let l = k.low in
      let ran = makings-run is q t made above runs (omega (arith, l, at)) (λ z. omega (arith, room, at)) in record {
        end = done x86_does is q;
        passes = stretches.all-passed (x86_rows code trash) IsInstr rows moves from is q (done x86_does is q) k at (makes-block is (scene_of q.state) t made)
            ran.through (λ j. done x86_does is q);
        runs = ran.runs;
        here = ran.behind ∙ ap (λ n. n + length (spellings spelling is)) at;
        scene = ran.scene;
        mark = ran.mark;
      }

  -- where none lets the stack pointer rise, they sink
  pub made-sunk : (from : ℕ) (is : List Instr) (q : Run CpuState) (t : Scene) → StandsAt (x86_rows code trash) moves IsInstr from is
      → makes is (scene_of q.state) ≡ Some t → RunsMakings is q t → q.state.pc ≡ from → Along x86_does (Lowers (x86_rows code trash)) is q
      → Sinks (x86_processor code trash) from (length is) q
  made-sunk from is q t k made ran at along =
      stretches.all-sunk (x86_rows code trash) IsInstr rows moves from is q k at (makes-block is (scene_of q.state) t made) ran.through along
