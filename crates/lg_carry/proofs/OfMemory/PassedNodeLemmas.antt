-- Nodes whose code is crossed and continues at the next node are carried.
use Rattle.std.proofs.Common.{◌≡◌, ℕ, ◌+◌, ◌<◌, ◌≤◌, ◌⊎◌, inl, inr, Bool, true, false, List, [], ◌∷◌, ◌++◌, Option, sym, ◌∙◌, subst, arith, length, length-append, zero-add}
use Rattle.std.proofs.lemmas.Bool.{or_parts}
use Rattle.lg_base.specs.Layout.{code_base, most_code, frame_pointer}
use Rattle.lg_base.specs.Runs.{Running}
use Rattle.lg_op.specs.declared.node.Node.{Node}
use Rattle.lg_meaning.specs.States.{Frame, State}
use Rattle.lg_meaning.specs.Steps.{Undefined}
use Rattle.lg_meaning.specs.Texts.{step}
use Rattle.lg_temp.specs.declared.choice.Choice.{Choice}
use Rattle.lg_temp.specs.declared.choice.Choice.TheVariants.{Free, Own, Spill}
use Rattle.lg_base.specs.declared.flags.Flags.{Flags}
use Rattle.lg_carry.specs.FinalNodes.{Code}
use Rattle.lg_carry.specs.Rows.{Rows}
use Rattle.lg_carry.specs.Stands.{StatesAgree}
use Rattle.lg_carry.specs.Carries.{leaps, Leads}
use Rattle.lg_carry.specs.NodeCode.{live_before, live_behind, CarriesNode}
use Rattle.lg_carry.specs.Blocks.{spellings}
use Rattle.lg_carry.specs.Spills.{in_first_slots, wrapped, spilled}
use Rattle.lg_carry.specs.Nodes.Isas.{IsIsa}
use Rattle.lg_carry.specs.TextNodes.{IsInText, IsFrameOf, stands_inside}
use Rattle.lg_carry.specs.Nodes.Straight.{is_taken, spoils, IsKept, from_to}
use Rattle.lg_carry.proofs.OfNodes.StretchLemmas.{spelled-size}
use Rattle.lg_carry.proofs.OfNodes.StraightLemmas.{in-room, AreHarmless, here, stands, stands-at, is-fp, read-before, left-end, work, looks, keeps-frame, keeps-spilled, Crossed, goes-there}
use Rattle.lg_carry.specs.Passages.{IsNodeCode}
use Rattle.lg_carry.specs.Memory.Crossings.{CrossesCode, CrossesTo, CrossesNode}
use Rattle.lg_carry.proofs.OfMemory.CrossingLemmas.{saves-cross}

some-wrapped : {Q I : Type 0} (R : Rows Q I) (choices : List Choice) (body : List I) → 0 < length (spellings R.spelling body) → 0 < length (spellings R.spelling (wrapped R choices body))
some-wrapped R [] body h = h
some-wrapped R (Free r ∷ choices) body h = some-wrapped R choices body h
some-wrapped R (Own r ∷ choices) body h = some-wrapped R choices body h
some-wrapped R (Spill r k ∷ choices) body h =
    let a = length-append (R.spelling (R.save r k)) (spellings R.spelling (wrapped R choices body ++ R.restore r k ∷ [])) in
    let b = spelled-size R.spelling (wrapped R choices body) (R.restore r k ∷ []) in
    let m = some-wrapped R choices body h in
    omega (arith, a, b, m)

module _ {Q I : Type 0} (R : Rows Q I) (scratch : ℕ → Bool) (fits : I → Type 0) (isa : IsIsa R scratch fits) (c : Code) (i : ℕ) (n : Node) (S : ℕ → Bool) (choices : List Choice) (body : List I) (inside_op : stands_inside n.op ≡ true) (falls : leaps n.op ≡ false)
    (t : IsInText c i n) (k : IsNodeCode R fits c i (wrapped R choices body)) (some : 0 < length (spellings R.spelling body)) (h : AreHarmless R c i n S choices) where
  abbrev is : List I
  is = wrapped R choices body

  module _ (frames : Frame → ℕ → Bool) (s : State) (q : Q) (at : s.at ≡ i) (runs : R.processor.machine.status q ≡ Running) (st : StatesAgree R.processor.target c frames s (R.processor.seen q) (live_before n S)) where
    most : (R.processor.seen q).pc + length (spellings R.spelling is) ≤ code_base + most_code
    most = in-room R.code (spellings R.spelling is) k.more (R.processor.seen q).pc (let e = here R scratch fits isa c i n S choices body inside_op falls t k h frames s q at runs st in omega (arith, e, k.low)) (some-wrapped R choices body some) (stands R scratch fits isa c i n S choices body inside_op falls t k h frames s q at runs st) isa.rows.small

    module _ (end : ℕ → ℕ) (M : ℕ → Option ℕ) (flag : Flags) (does : CrossesCode R fits (from_to (R.processor.seen q) end M flag) body (frame_pointer s.frame.sp) (spilled choices) (spoils scratch choices))
        (keeps : (x : ℕ) → IsKept R.processor.target scratch n choices x → end x ≡ (R.processor.seen q).registers x) where
      does-left : CrossesCode R fits (work R scratch fits isa c i n S choices body inside_op falls t k h frames s q at runs st end M flag keeps) body (frame_pointer s.frame.sp) (0 + spilled choices) (spoils scratch choices)
      does-left q' from looks-so stands' high at' =
          let l = does q' from looks-so stands' high at' in
          record {
            end = l.end;
            steps = l.steps;
            few = l.few;
            passes = l.passes;
            runs = l.runs;
            here = l.here;
            registers = λ r free. l.registers r free ∙ sym (left-end R scratch fits isa c i n S choices body inside_op falls t k h frames s q at runs st end M flag keeps r (or_parts (is_taken choices r) (scratch r) free).0);
            bytes = l.bytes;
            slots = λ a on. l.slots a (subst (λ m. in_first_slots (frame_pointer s.frame.sp) m a ≡ true) (zero-add (spilled choices)) on);
            has_mark = l.has_mark;
            has_flags = l.has_flags;
          }

      pub crosses : Crossed R scratch fits isa c i n S choices body inside_op falls t k h frames s q at runs st end M flag keeps
      crosses = saves-cross R fits isa.rows isa.spills choices (work R scratch fits isa c i n S choices body inside_op falls t k h frames s q at runs st end M flag keeps) body (frame_pointer s.frame.sp) 0 (spoils scratch choices) (is-fp R scratch fits isa c i n S choices body inside_op falls t k h frames s q at runs st) st.seen.words h.in_order
          (keeps-spilled R scratch fits isa c i n S choices body inside_op falls t k h frames s q at runs st end M flag keeps) (keeps-frame R scratch fits isa c i n S choices body inside_op falls t k h frames s q at runs st end M flag keeps) does-left q (c.place i) (looks R scratch fits isa c i n S choices body inside_op falls t k h frames s q at runs st end M flag keeps)
          (stands-at R scratch fits isa c i n S choices body inside_op falls t k h frames s q at runs st) (let e = here R scratch fits isa c i n S choices body inside_op falls t k h frames s q at runs st in omega (arith, most, e)) (here R scratch fits isa c i n S choices body inside_op falls t k h frames s q at runs st)

    computes : CrossesTo R fits scratch c n choices body s (R.processor.seen q) → (out : List ℕ) → R.processor.machine.out q ≡ out
        → (step c.nodes c.shape c.addresses s ≡ Undefined) ⊎ Leads R.processor c frames (live_behind frames n S s) i (step c.nodes c.shape c.addresses s) out q
    computes p = goes-there R scratch fits isa c i n S choices body inside_op falls t k h frames s q at runs st p.end p.flags p.keeps (crosses p.end (R.processor.seen q).bytes p.flags p.does p.keeps) p.to p.goes p.on p.holds

-- ---- nodes
module _ {Q I : Type 0} (R : Rows Q I) (scratch : ℕ → Bool) (fits : I → Type 0) (isa : IsIsa R scratch fits) where
  pub crossed-carries : (c : Code) (i : ℕ) (n : Node) (frame : ℕ) (S : ℕ → Bool) (choices : List Choice) (body : List I) → stands_inside n.op ≡ true → leaps n.op ≡ false → IsInText c i n → IsFrameOf c i frame → IsNodeCode R fits c i (wrapped R choices body)
      → CrossesNode R fits scratch c i n frame choices body → AreHarmless R c i n S choices → CarriesNode R.processor c i n S
  crossed-carries c i n frame S choices body inside falls t is-frame k m h frames s returns out q at st =
      by (m.steps s q at (read-before R scratch fits isa c i n S choices body inside falls t k h frames s q at st.runs st.state frame is-frame))
    where
      by : (step c.nodes c.shape c.addresses s ≡ Undefined) ⊎ CrossesTo R fits scratch c n choices body s (R.processor.seen q)
          → (step c.nodes c.shape c.addresses s ≡ Undefined) ⊎ Leads R.processor c frames (live_behind frames n S s) i (step c.nodes c.shape c.addresses s) out q
      by (inl e) = inl e
      by (inr p) = computes R scratch fits isa c i n S choices body inside falls t k m.some h frames s q at st.runs st.state p out st.wrote
