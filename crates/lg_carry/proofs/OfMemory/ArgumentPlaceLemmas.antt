-- Where the arguments of a running function stand, for the code of a node that reads one.
use Rattle.lg_carry.proofs.BelowLemmas.{not-below}
use Rattle.lg_carry.specs.Memory.Accesses.{LiesAbove}
use Rattle.std.proofs.Common.{◌≡◌, ℕ, ◌+◌, ◌-◌, ◌%◌, ◌^◌, ◌<◌, ◌≤◌, Bool, true, false, List, [], ◌∷◌, Some, refl, sym, ap, ◌∙◌, arith, length, inr}
use Rattle.std.specs.Prelude.{nat_lt, if◌then◌else◌, slice_get}
use Rattle.std.proofs.lemmas.Bool.{false_from_ne_true}
use Rattle.lg_base.specs.Conventions.{argument_registers, argument_word, stack_register}
use Rattle.lg_base.specs.Layout.{frame_pointer, home_word, stack_argument}
use Rattle.lg_base.specs.declared.target.Target.{Target}
use Rattle.lg_op.specs.declared.node.Node.{Node}
use Rattle.lg_meaning.specs.States.{Frame, State}
use Rattle.lg_carry.specs.Blocks.{spellings}
use Rattle.lg_carry.specs.Carries.{leaps}
use Rattle.lg_carry.specs.FinalNodes.{Code, is_inside}
use Rattle.lg_carry.specs.Frames.{at_call, IsSettled}
use Rattle.lg_carry.specs.Homes.{homes_by, homes_at}
use Rattle.lg_carry.specs.NodeBlocks.{IsNodeBlock}
use Rattle.lg_carry.specs.NodeCode.{live_before}
use Rattle.lg_carry.specs.Places.{AreStacked}
use Rattle.lg_carry.specs.Registers.{HasWord}
use Rattle.lg_carry.specs.Rows.{Rows}
use Rattle.lg_carry.specs.Spills.{in_slots}
use Rattle.lg_carry.specs.Stands.{Stands, lowest}
use Rattle.lg_carry.specs.TextNodes.{IsInText, IsFrameOf, stands_inside}
use Rattle.lg_carry.proofs.AgreeInFrameLemmas.{settled}
use Rattle.lg_carry.proofs.KeptLemmas.{registers-few}
use Rattle.lg_carry.proofs.StackLemmas.{stacked-high, few-arguments, within-where}
use Rattle.lg_carry.proofs.TextShapeLemmas.{shaped}
use Rattle.lg_carry.specs.Nodes.Isas.{IsIsa}
use Rattle.lg_carry.specs.Nodes.Straight.{HoldsRead}
use Rattle.lg_carry.proofs.OfNodes.ByteLemmas.{loaded-small}
use Rattle.lg_carry.proofs.OfNodes.HomesLemmas.{homes-read}
use Rattle.lg_carry.proofs.OfNodes.StraightLemmas.{AreHarmless, none-harmless, inside, tower, read-before}
use Rattle.lg_carry.specs.Memory.Arguments.{argument_place}

-- ---- the argument's place
-- it is a multiple of 8, and none of its bytes is in a spill slot
pub record IsApart (sp a : ℕ) : Type 0 where
  pub whole : a % 8 ≡ 0
  pub off : (x : ℕ) → a ≤ x → x < a + 8 → in_slots (frame_pointer sp) x ≡ false

home-apart : (sp k : ℕ) → k < 8 → sp % 16 ≡ 0 → 272 ≤ sp → IsApart sp (home_word (frame_pointer sp) k)
home-apart sp k few even low = record {
  whole = omega (arith, few, even, low);
  off = λ x le lt. false_from_ne_true (in_slots (frame_pointer sp) x) (λ on. let z = within-where (frame_pointer sp - 128) 40 x on in omega (arith, z.0, z.1, le, lt, few, low));
}

stack-apart : (sp j : ℕ) → sp % 16 ≡ 0 → 272 ≤ sp → IsApart sp (stack_argument sp j)
stack-apart sp j even low = record {
  whole = omega (arith, even);
  off = λ x le lt. false_from_ne_true (in_slots (frame_pointer sp) x) (λ on. let z = within-where (frame_pointer sp - 128) 40 x on in omega (arith, z.0, z.1, le, lt, low));
}

-- ---- an argument that a node reads
module _ {Q I : Type 0} (R : Rows Q I) (scratch : ℕ → Bool) (fits : I → Type 0) (isa : IsIsa R scratch fits) (c : Code) (i : ℕ) (n : Node) (inner : stands_inside n.op ≡ true)
    (falls : leaps n.op ≡ false) (frame : ℕ) (is-frame : IsFrameOf c i frame) (S : ℕ → Bool) (is : List I) (some : 0 < length (spellings R.spelling is)) (x : IsInText c i n)
    (y : IsNodeBlock R fits c i is) (frames : Frame → ℕ → Bool) (s : State) (out : List ℕ) (q : Q) (at : s.at ≡ i) (st : Stands R.processor c frames s out q (live_before n S)) where
  abbrev target : Target
  target = R.processor.target

  abbrev w : ℕ → ℕ
  w = (R.processor.seen q).registers

  h : AreHarmless R c i n S []
  h = none-harmless R scratch fits isa c i n S

  behind : is_inside c s.at ≡ true
  behind = inside R scratch fits isa c i n S [] is inner falls x y.code h frames s q at st.runs st.state

  stack : AreStacked (lowest s.frame) (s.frame ∷ s.callers)
  stack = tower R scratch fits isa c i n S [] is inner falls x y.code h frames s q at st.runs st.state

  pub reads-held : HoldsRead target n frame s (R.processor.seen q)
  reads-held = read-before R scratch fits isa c i n S [] is inner falls x y.code h frames s q at st.runs st.state frame is-frame

  rests : IsSettled target c.place (R.processor.seen q).bytes w s.frame s.callers (frames (at_call s.frame)) (homes_at c s.at)
  rests = settled target (is_inside c s.at) c.place (R.processor.seen q).bytes w s.frame s.callers (frames (at_call s.frame)) (homes_at c s.at) behind st.state.frame

  ends : (s.frame.sp % 16 ≡ 0) × (272 ≤ s.frame.sp)
  ends = ((stacked-high s.frame.sp s.callers stack.3).0, omega (arith, stack.0, stack.1))

  -- the frame of the code ends where that of the state does
  pub same-end : w (stack_register target) + frame ≡ s.frame.sp
  same-end =
      let p = reads-held.in_frame.pointer in let f = reads-held.pointer in let e : frame_pointer (w (stack_register target) + frame) ≡ frame_pointer s.frame.sp = sym p ∙ f in
      let large = reads-held.in_frame.large in let low = ends.1 in omega (arith, e, large, low)

  -- the node's home is stored
  is-read : (k : ℕ) → k < homes_by n.op n → k < homes_at c s.at
  is-read k lt =
      let least = homes-read c i n x (ap (is_inside c) (sym at) ∙ behind) in
      let same : homes_at c s.at ≡ homes_at c i = ap (homes_at c) at in
      omega (arith, lt, least, same)

  -- an argument that the node reads is in its place
  pub stands-there : (k v : ℕ) → k < homes_by n.op n → slice_get s.frame.args k ≡ Some v
      → HasWord (R.processor.seen q).bytes (argument_place target s.frame.sp k) v × IsApart s.frame.sp (argument_place target s.frame.sp k)
  stands-there k v reads given = by (nat_lt k (length (argument_registers target))) refl
    where
      by : (b : Bool) → nat_lt k (length (argument_registers target)) ≡ b
          → HasWord (R.processor.seen q).bytes (if b then home_word (frame_pointer s.frame.sp) k else stack_argument s.frame.sp (argument_word target k)) v
          × IsApart s.frame.sp (if b then home_word (frame_pointer s.frame.sp) k else stack_argument s.frame.sp (argument_word target k))
      by true e =
          let lt : k < length (argument_registers target) = grind (arith, e) in
          (rests.words.homes k v (is-read k reads) lt given, home-apart s.frame.sp k (let r = registers-few target in omega (arith, lt, r)) ends.0 ends.1)
      by false e =
          let ge : length (argument_registers target) ≤ k = grind (arith, e) in
          (st.state.incoming.is k v ge given, stack-apart s.frame.sp (argument_word target k) ends.0 ends.1)

  -- its bytes lie above the stack pointer
  pub place-above : (k : ℕ) → LiesAbove target (w (stack_register target)) (argument_place target s.frame.sp k) 8
  place-above k = by (nat_lt k (length (argument_registers target))) refl
    where
      by : (b : Bool) → nat_lt k (length (argument_registers target)) ≡ b
          → LiesAbove target (w (stack_register target)) (if b then home_word (frame_pointer s.frame.sp) k else stack_argument s.frame.sp (argument_word target k)) 8
      by true e j le lt =
          let few : k < length (argument_registers target) = grind (arith, e) in
          let r = registers-few target in
          let p = rests.stack in
          not-below target (w (stack_register target)) j (inr (omega (arith, le, few, r, p, stack.0, stack.1)))
      by false e j le lt = let p = rests.stack in not-below target (w (stack_register target)) j (inr (omega (arith, le, p, stack.0)))

  pub argument-small : (k v : ℕ) → k < homes_by n.op n → slice_get s.frame.args k ≡ Some v → v < 2 ^ 64
  argument-small k v reads given =
      loaded-small (R.processor.seen q).bytes st.state.seen.bytes (argument_place target s.frame.sp k) 8 v (stands-there k v reads given).0

  -- there are at most 16
  pub args-few : length s.frame.args ≤ 16
  args-few = (few-arguments c.nodes c.shape s.frame s.callers (shaped c.nodes x.well).few st.state.fits.linked).0
