-- Instructions after each of which the next one follows: what lists of them do.
use Rattle.lg_cpu.specs.X86Operators.{bit, carry_for, alu_value, alu_flags, alu_of, is_kept_by, condition_holds}
use Rattle.lg_x86.specs.declared.instruction.RmRegOp.{RmRegOp}
use Rattle.lg_x86.specs.declared.instruction.UnaryOp.TheVariants.{Div, Idiv}
use Rattle.lg_x86.specs.declared.instruction.UnaryOp.{UnaryOp}
use Rattle.lg_x86.specs.declared.instruction.StackOp.TheVariants.{Push, Pop}
use Rattle.lg_x86.specs.declared.instruction.StoreOp.TheVariants.{St64}
use Rattle.lg_x86.specs.declared.instruction.StoreOp.{StoreOp}
use Rattle.lg_base.specs.declared.flags.Flags.{Flags}
use Rattle.lg_base.specs.Wide.{quotient_wide, quotient_wide_signed}
use Rattle.lg_base.specs.Flags.{carry_of}
use Rattle.lg_base.specs.Fields.{word_of}
use Rattle.lg_base.specs.Spaces.{mapped, loaded, stored, number_at, byte_or_zero}
use Rattle.lg_x86.specs.declared.instruction.JumpRegOp.TheVariants.{Callr}
use Rattle.lg_x86.specs.declared.instruction.JumpNearOp.TheVariants.{Call32}
use Rattle.lg_x86.specs.declared.instruction.LoadOp.TheVariants.{Lea, Ld64, Ld32u, Ld32s, Ld8u, Ld16u, Ld8s, Ld16s}
use Rattle.lg_x86.specs.declared.instruction.LoadOp.{LoadOp}
use Rattle.lg_selx_values.specs.Processor.X86Touched.{touched}
use Rattle.lg_carry.proofs.BlockLemmas.{nothing-off}
use Rattle.lg_base.specs.declared.target.Target.TheVariants.{X86_64}
use Rattle.lg_carry.specs.Processors.{IsOff, is_below}
use Rattle.std.proofs.lemmas.Bool.{and_parts}
use Rattle.std.specs.List.{list_all}
use Rattle.std.specs.Prelude.{ℤ, ◌&&◌, if◌then◌else◌, IfSome}
use Rattle.std.proofs.Common.{◌≡◌, ℕ, ◌+◌, true, List, [], ◌∷◌, ◌++◌, length, length-append, Option, Some, None, refl, ap, ◌∙◌, arith, append-nil, Bool, sym, subst, ◌<◌, zero, suc, false}
use Rattle.std.specs.Option.{option_and_then}
use Rattle.lg_base.specs.Runs.{Running}
use Rattle.lg_base.specs.Words.{add_words}
use Rattle.lg_x86.specs.Spelling.{spelling}
use Rattle.lg_x86.specs.declared.instruction.Instr.{Instr}
use Rattle.lg_x86.specs.declared.instruction.Instr.TheVariants.{RmReg, Imm, RegRm, Load, Store, Lea2, Movi32, Movs32, Movi64, Unary, Shift, Bswap, Stack, JumpIfShort, JumpIfNear, Set, JumpShort, JumpNear, JumpReg, Bare}
use Rattle.lg_x86.specs.declared.instruction.BareOp.TheVariants.{Cqo, Ret, Nop}
use Rattle.lg_cpu.specs.Steps.{after, status_of}
use Rattle.lg_cpu.specs.X86Step.{Scene, scene_of, made, fault_of, goes, goes_with, act, load_width, with_flags, with_register, with_carry, sets_loaded, loads, store_width, stores, sets_quotient, one_register, pops, sets_byte}
use Rattle.lg_carry.specs.Blocks.{spellings, IsBlock}
use Rattle.lg_selx_values.specs.Processor.X86Rows.{x86_does, is_straight}
use Rattle.lg_selx_values.specs.Processor.Makings.{makes, MakingsRun, AreAbove, is_still}
use Rattle.lg_selx_values.proofs.OfProcessor.ActLemmas.{straight-does}
use Rattle.lg_selx_values.proofs.OfProcessor.RowLemmas.{went}
use Rattle.lg_selx_values.proofs.OfProcessor.SlotLemmas.{pc-next, goes-on}

-- the first of them makes a scene, and the others make of it what all make
pub record First (i : Instr) (is : List Instr) (s t : Scene) : Type 0 where
  pub by : Scene
  pub makes_it : made i s ≡ Some by
  pub then_makes : makes is by ≡ Some t

pub first : (i : Instr) (is : List Instr) (s t : Scene) → makes (i ∷ is) s ≡ Some t → First i is s t
first i is s t e = by (made i s) refl e
  where
    by : (o : Option Scene) → made i s ≡ o → option_and_then (makes is) o ≡ Some t → First i is s t
    by None m e = cc
    by (Some u) m e = record { by = u; makes_it = m; then_makes = e }

pub makes-append : (is js : List Instr) (s t u : Scene) → makes is s ≡ Some t → makes js t ≡ Some u → makes (is ++ js) s ≡ Some u
makes-append [] js s t u e f = let z : s ≡ t = cc in ap (makes js) z ∙ f
makes-append (i ∷ is) js s t u e f = let h = first i is s t e in ap (option_and_then (makes (is ++ js))) h.makes_it ∙ makes-append is js h.by t u h.then_makes f

-- what makes a scene is straight
pub makes-straight : (i : Instr) (s t : Scene) → made i s ≡ Some t → is_straight i ≡ true
makes-straight (JumpIfShort cond distance) s t e = cc
makes-straight (JumpIfNear cond distance) s t e = cc
makes-straight (JumpShort distance) s t e = cc
makes-straight (JumpNear op distance) s t e = cc
makes-straight (JumpReg op rm) s t e = cc
makes-straight (Bare Ret) s t e = cc
makes-straight i s t e = refl

pub makes-block : (is : List Instr) (s t : Scene) → makes is s ≡ Some t → IsBlock is_straight is
makes-block [] s t e = tt
makes-block (i ∷ []) s t e = tt
makes-block (i ∷ j ∷ is) s t e = let h = first i (j ∷ is) s t e in (makes-straight i s h.by h.makes_it, makes-block (j ∷ is) h.by t h.then_makes)

-- an instruction that touches nothing
load-off : (hidden : ℕ → Bool) (op : LoadOp) (reg base : ℕ) (disp : ℤ) (from : ℕ) → is_still (Load op reg base disp) ≡ true → IsOff hidden record { from = from; width = load_width op }
load-off hidden Lea reg base disp from h = λ a le lt. absurd (omega (arith, le, lt))
load-off hidden op reg base disp from h = cc

pub still-off : (hidden : ℕ → Bool) (i : Instr) (w : ℕ → ℕ) → is_still i ≡ true → IsOff hidden (touched i w)
still-off hidden (Load op reg base disp) w h = load-off hidden op reg base disp _ h
still-off hidden (Store op base disp reg) w h = cc
still-off hidden (Stack op reg) w h = cc
still-off hidden (JumpNear Call32 distance) w h = cc
still-off hidden (JumpReg Callr rm) w h = cc
still-off hidden (Bare Ret) w h = cc
still-off hidden i w h = nothing-off hidden

pub still-above : (is : List Instr) (s : Scene) → list_all is_still is ≡ true → AreAbove is s
still-above [] s h = tt
still-above (i ∷ is) s h = let p = and_parts (is_still i) (list_all is_still is) h in (still-off _ i s.registers p.0, λ t e. still-above is t p.1)

-- ---- instructions that make a scene where there is no memory touch nothing
none-mapped : (a w : ℕ) → 0 < w → mapped (λ x. None) a w ≡ false
unfolding mapped
none-mapped a zero some = absurd (omega (arith, some))
none-mapped a (suc w) some = refl

none-loaded : (a w : ℕ) → 0 < w → loaded (λ x. None) a w ≡ None
none-loaded a w some = ap (λ b. if b then Some (number_at (byte_or_zero (λ x. None)) a w) else None) (none-mapped a w some)

no-scene : {A : Type 0} (o : Option Scene) (t : Scene) → o ≡ None → o ≡ Some t → A
no-scene o t e f = absurd (no (sym e ∙ f))
  where
    no : None ≡ Some t → ⊥
    no z = cc

module _ (w : ℕ → ℕ) (f : Flags) where
  abbrev bare : Scene
  bare = record { registers = w; flags = f; bytes = λ a. None }

  still-load : (op : LoadOp) (reg base : ℕ) (disp : ℤ) (a : ℕ) (t : Scene) → loads op reg a bare ≡ Some t → is_still (Load op reg base disp) ≡ true
  still-load Lea reg base disp a t e = refl
  still-load Ld64 reg base disp a t e = no-scene _ t (ap (sets_loaded Ld64 reg bare) (none-loaded a 8 (omega arith))) e
  still-load Ld32u reg base disp a t e = no-scene _ t (ap (sets_loaded Ld32u reg bare) (none-loaded a 4 (omega arith))) e
  still-load Ld32s reg base disp a t e = no-scene _ t (ap (sets_loaded Ld32s reg bare) (none-loaded a 4 (omega arith))) e
  still-load Ld8u reg base disp a t e = no-scene _ t (ap (sets_loaded Ld8u reg bare) (none-loaded a 1 (omega arith))) e
  still-load Ld16u reg base disp a t e = no-scene _ t (ap (sets_loaded Ld16u reg bare) (none-loaded a 2 (omega arith))) e
  still-load Ld8s reg base disp a t e = no-scene _ t (ap (sets_loaded Ld8s reg bare) (none-loaded a 1 (omega arith))) e
  still-load Ld16s reg base disp a t e = no-scene _ t (ap (sets_loaded Ld16s reg bare) (none-loaded a 2 (omega arith))) e

  none-stored : (v : ℕ → ℕ) (a width value : ℕ) → 0 < width → stores bare v a width value ≡ None
  none-stored v a width value some =
      ap (λ b. if b then Some (record { registers = v; flags = f; bytes = stored (λ x. None) a width value }) else None) (none-mapped a width some)

  store-some : (op : StoreOp) → 0 < store_width op
  store-some St64 = omega arith
  store-some o = omega arith

  still-made : (i : Instr) (t : Scene) → made i bare ≡ Some t → is_still i ≡ true
  still-made (Load op reg base disp) t e = still-load op reg base disp _ t e
  still-made (Store op base disp reg) t e = no-scene _ t (none-stored w _ (store_width op) (w reg) (store-some op)) e
  still-made (Stack Push reg) t e = no-scene _ t (none-stored _ _ 8 (w reg) (omega arith)) e
  still-made (Stack Pop reg) t e = no-scene _ t (ap (pops reg bare) (none-loaded (w 4) 8 (omega arith))) e
  still-made (JumpNear op distance) t e = cc
  still-made (JumpReg op rm) t e = cc
  still-made (Bare Ret) t e = cc
  still-made i t e = refl

-- ---- and leave the memory
abbrev IfKeeps : Scene → Option Scene → Type 0
IfKeeps s o = IfSome o (λ t. t.bytes ≡ s.bytes)

keeps-either : (b : Bool) (s t u : Scene) → t.bytes ≡ s.bytes → u.bytes ≡ s.bytes → (if b then t else u).bytes ≡ s.bytes
keeps-either true s t u h k = h
keeps-either false s t u h k = k

keeps-carry : (op : RmRegOp) (rm b : ℕ) (s : Scene) (o : Option Bool) → IfKeeps s (with_carry op rm b s o)
keeps-carry op rm b s None = tt
keeps-carry op rm b s (Some c) =
    keeps-either (is_kept_by op) s (with_flags s (alu_flags op s.flags (s.registers rm) b (bit c))) (with_register s rm (alu_value op (s.registers rm) b (bit c)) (alu_flags op s.flags (s.registers rm) b (bit c))) refl refl

keeps-loaded : (op : LoadOp) (reg : ℕ) (s : Scene) (o : Option ℕ) → IfKeeps s (sets_loaded op reg s o)
keeps-loaded op reg s None = tt
keeps-loaded op reg s (Some v) = refl

keeps-load : (op : LoadOp) (reg address : ℕ) (s : Scene) → IfKeeps s (loads op reg address s)
keeps-load Lea reg address s = refl
keeps-load Ld64 reg address s = keeps-loaded Ld64 reg s (loaded s.bytes address 8)
keeps-load Ld32u reg address s = keeps-loaded Ld32u reg s (loaded s.bytes address 4)
keeps-load Ld32s reg address s = keeps-loaded Ld32s reg s (loaded s.bytes address 4)
keeps-load Ld8u reg address s = keeps-loaded Ld8u reg s (loaded s.bytes address 1)
keeps-load Ld16u reg address s = keeps-loaded Ld16u reg s (loaded s.bytes address 2)
keeps-load Ld8s reg address s = keeps-loaded Ld8s reg s (loaded s.bytes address 1)
keeps-load Ld16s reg address s = keeps-loaded Ld16s reg s (loaded s.bytes address 2)

keeps-quotient : (s : Scene) (o : Option (ℕ × ℕ)) → IfKeeps s (sets_quotient s o)
keeps-quotient s None = tt
keeps-quotient s (Some p) = refl

keeps-one : (op : UnaryOp) (rm : ℕ) (s : Scene) → IfKeeps s (one_register op rm s)
keeps-one Div rm s = keeps-quotient s (quotient_wide (s.registers 2) (s.registers 0) (s.registers rm))
keeps-one Idiv rm s = keeps-quotient s (quotient_wide_signed (s.registers 2) (s.registers 0) (s.registers rm))
keeps-one o rm s = refl

keeps-byte : (rm : ℕ) (s : Scene) (o : Option Bool) → IfKeeps s (sets_byte rm s o)
keeps-byte rm s None = tt
keeps-byte rm s (Some b) = refl

keeps-made : (i : Instr) (s : Scene) → is_still i ≡ true → IfKeeps s (made i s)
keeps-made (RmReg op rm reg) s h = keeps-carry op rm (s.registers reg) s (carry_for op (carry_of s.flags))
keeps-made (Imm op rm imm) s h = keeps-carry (alu_of op) rm (word_of imm) s (carry_for (alu_of op) (carry_of s.flags))
keeps-made (RegRm op reg rm) s h = refl
keeps-made (Load op reg base disp) s h = keeps-load op reg (add_words (s.registers base) (word_of disp)) s
keeps-made (Store op base disp reg) s h = cc
keeps-made (Lea2 reg base index) s h = refl
keeps-made (Movi32 reg imm) s h = refl
keeps-made (Movs32 rm imm) s h = refl
keeps-made (Movi64 reg imm) s h = refl
keeps-made (Unary op rm) s h = keeps-one op rm s
keeps-made (Shift op rm count) s h = refl
keeps-made (Bswap reg) s h = refl
keeps-made (Stack op reg) s h = cc
keeps-made (Set cond rm) s h = keeps-byte rm s (condition_holds cond s.flags)
keeps-made (Bare Cqo) s h = refl
keeps-made (Bare Nop) s h = refl
keeps-made (Bare Ret) s h = cc
keeps-made (JumpIfShort cond distance) s h = tt
keeps-made o s h = tt

if-some : (o : Option Scene) (s t : Scene) → IfKeeps s o → o ≡ Some t → t.bytes ≡ s.bytes
if-some None s t h e = cc
if-some (Some u) s t h e = let z : u ≡ t = cc in subst (λ y. y.bytes ≡ s.bytes) z h

pub makings-still : (is : List Instr) (w : ℕ → ℕ) (f : Flags) (t : Scene) → makes is (record { registers = w; flags = f; bytes = λ a. None }) ≡ Some t → list_all is_still is ≡ true
makings-still [] w f t e = refl
makings-still (i ∷ is) w f t e =
    let h = first i is (record { registers = w; flags = f; bytes = λ a. None }) t e in
    let here = still-made w f i h.by h.makes_it in
    let bytes : h.by.bytes ≡ (λ a. None) = if-some (made i (record { registers = w; flags = f; bytes = λ a. None })) (record { registers = w; flags = f; bytes = λ a. None }) h.by (keeps-made i (record { registers = w; flags = f; bytes = λ a. None }) here) h.makes_it in
    let rest = makings-still is h.by.registers h.by.flags t (ap (λ m. makes is (record { registers = h.by.registers; flags = h.by.flags; bytes = m })) (sym bytes) ∙ h.then_makes) in
    ap (λ b. b && list_all is_still is) here ∙ rest

pub above-append : (is js : List Instr) (s t : Scene) → makes is s ≡ Some t → AreAbove is s → AreAbove js t → AreAbove (is ++ js) s
above-append [] js s t e h k = let z : s ≡ t = cc in subst (AreAbove js) (sym z) k
above-append (i ∷ is) js s t e h k = (h.0, λ u m. above-append is js u t (sym (ap (option_and_then (makes is)) m) ∙ e) (h.1 u m) k)

pub above-first : (i : Instr) (is : List Instr) (s t : Scene) → made i s ≡ Some t → IsOff (is_below X86_64 (s.registers 4)) (touched i s.registers) → AreAbove is t
    → AreAbove (i ∷ is) s
above-first i is s t e off k = (off, λ u m. let both : Some t ≡ Some u = sym e ∙ m in let z : t ≡ u = cc in subst (AreAbove is) z k)

pub makings-run : MakingsRun
makings-run [] q t e above runs low high = let z : scene_of q.state ≡ t = cc in record { through = tt; runs = runs; behind = omega arith; scene = z; mark = refl; out = refl }
makings-run (i ∷ is) q t e above runs low high =
    let h = first i is (scene_of q.state) t e in
    let most = high (omega arith) in
    let n : ℕ = length (spelling i) in
    let l : length (spellings spelling (i ∷ is)) ≡ n + length (spellings spelling is) = length-append (spelling i) (spellings spelling is) in
    let f : x86_does i q ≡ after q (goes (add_words q.state.pc n) h.by q.state.mark) =
    went q (act i n q.state) runs ∙ ap (after q) (straight-does i (add_words q.state.pc n) q.state (makes-straight i (scene_of q.state) h.by h.makes_it) ∙ ap (goes_with q.state (add_words q.state.pc n) (fault_of i)) h.makes_it) in
    let pc : (x86_does i q).state.pc ≡ q.state.pc + n = ap (λ s. s.state.pc) f ∙ pc-next q.state.pc n (omega (arith, most, l)) in
    let goes_on : status_of (x86_does i q).progress ≡ Running = ap (λ s. status_of s.progress) f ∙ goes-on q.state.pc n low (omega (arith, most, l)) in
    let m = makings-run is (x86_does i q) t (ap (λ s. makes is (scene_of s.state)) f ∙ h.then_makes) (subst (λ s. AreAbove is (scene_of s.state)) (sym f) (above.1 h.by h.makes_it)) goes_on (omega (arith, low, pc)) (λ z. omega (arith, most, pc, l)) in
    record {
      through = (runs, above.0, m.through);
      runs = m.runs;
      behind = m.behind ∙ omega (arith, pc, l);
      scene = m.scene;
      mark = m.mark ∙ ap (λ s. s.state.mark) f;
      out = m.out ∙ ap (λ s. s.out) f ∙ append-nil q.out;
    }
