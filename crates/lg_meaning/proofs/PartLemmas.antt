-- Memory holds the data part and the argument part, and nothing else in their ranges.
use Rattle.std.proofs.Common.{◌≡◌, ⊎_elim, ℕ, ◌-◌, ◌<◌, ◌≤◌, Bool, true, false, List, ◌∷◌, Option, Some, None, refl, sym, ap, ◌∙◌, length, arith}
use Rattle.std.specs.Prelude.{◌||◌, is_some, if◌then◌else◌}
use Rattle.std.specs.List.{All}
use Rattle.std.proofs.lemmas.Bool.{or_cases}
use Rattle.lg_base.specs.Arguments.{most_args}
use Rattle.lg_cells.specs.Cells.{within}
use Rattle.lg_op.specs.Nodes.{InForm}
use Rattle.lg_node.specs.Nodes.{LabelledNodes}
use Rattle.lg_node.specs.Shapes.{TextShape, IsShapeOf}
use Rattle.lg_node.specs.ShapeLaws.{IsWellShaped, HasFunctions}
use Rattle.lg_meaning.specs.States.{Frame, State, in_any_locals, is_part}
use Rattle.lg_meaning.specs.Steps.{Goes}
use Rattle.lg_meaning.specs.Texts.{step}
use Rattle.lg_meaning.specs.Fits.{FitsWell}
use Rattle.lg_meaning.specs.Means.{mean}
use Rattle.lg_meaning.specs.Parts.{Grows, HoldsParts}
use Rattle.lg_meaning.specs.Stacks.{HasSmallParts}
use Rattle.lg_base.specs.Layout.{stack_end}
use Rattle.lg_meaning.specs.Starts.{start_state, start_entry}
use Rattle.lg_meaning.proofs.GrowLemmas.{steps_grow}
use Rattle.lg_meaning.proofs.KeepLemmas.{steps_fit}
use Rattle.lg_meaning.proofs.MeanLemmas.{always, formed_at}
use Rattle.lg_meaning.proofs.StartLemmas.{start_fits, start_may}
use Rattle.lg_meaning.proofs.StackLemmas.{inside, in_frames}

-- a state that fits and holds the bytes of the two parts
record Holds (l : LabelledNodes) (shape : TextShape) (image args : List ℕ) (s : State) : Type 0 where
  well : FitsWell l shape s
  data_size : s.data_size ≡ length image
  args_size : s.args_size ≡ length args
  data_there : (a : ℕ) → within 0x20000000 (length image) a ≡ true → is_some (s.mem a) ≡ true
  args_there : (a : ℕ) → within 0x28000000 (length args) a ≡ true → is_some (s.mem a) ≡ true

both_ways : (x y : Bool) → (x ≡ true → y ≡ true) → (y ≡ true → x ≡ true) → x ≡ y
both_ways true y f g = sym (f refl)
both_ways false true f g = g refl
both_ways false false f g = refl

-- an open address is of one part
data_alone : (d g mark : ℕ) (fs : List Frame) (a : ℕ) → a < 0x28000000 → (in_any_locals fs a ≡ true → ⊥) → is_part d g mark fs a ≡ true → within 0x20000000 d a ≡ true
data_alone d g mark fs a hi out h =
    ⊎_elim (λ (e : within 0x20000000 d a ≡ true). e) (λ e.
    ⊎_elim (λ (e : within 0x28000000 g a ≡ true). let i = inside 0x28000000 g a e in absurd (omega (arith, i.0))) (λ e.
    ⊎_elim (λ (e : within 0x30000000 (mark - 0x30000000) a ≡ true). let i = inside 0x30000000 (mark - 0x30000000) a e in absurd (omega (arith, i.0))) (λ e. absurd (out e))
    (or_cases (within 0x30000000 (mark - 0x30000000) a) (in_any_locals fs a) e))
    (or_cases (within 0x28000000 g a) (within 0x30000000 (mark - 0x30000000) a || in_any_locals fs a) e))
    (or_cases (within 0x20000000 d a) (within 0x28000000 g a || (within 0x30000000 (mark - 0x30000000) a || in_any_locals fs a)) h)

args_alone : (d g mark : ℕ) (fs : List Frame) (a : ℕ) → d ≤ 0x1000000 → 0x28000000 ≤ a → a < 0x30000000 → (in_any_locals fs a ≡ true → ⊥) → is_part d g mark fs a ≡ true → within 0x28000000 g a ≡ true
args_alone d g mark fs a hd lo hi out h =
    ⊎_elim (λ (e : within 0x20000000 d a ≡ true). let i = inside 0x20000000 d a e in absurd (omega (arith, i.1))) (λ e.
    ⊎_elim (λ (e : within 0x28000000 g a ≡ true). e) (λ e.
    ⊎_elim (λ (e : within 0x30000000 (mark - 0x30000000) a ≡ true). let i = inside 0x30000000 (mark - 0x30000000) a e in absurd (omega (arith, i.0))) (λ e. absurd (out e))
    (or_cases (within 0x30000000 (mark - 0x30000000) a) (in_any_locals fs a) e))
    (or_cases (within 0x28000000 g a) (within 0x30000000 (mark - 0x30000000) a || in_any_locals fs a) e))
    (or_cases (within 0x20000000 d a) (within 0x28000000 g a || (within 0x30000000 (mark - 0x30000000) a || in_any_locals fs a)) h)

byte_of : (o : Option ℕ) → is_some o ≡ true → (b : ℕ) × (o ≡ Some b)
byte_of None h = cc
byte_of (Some b) h = (b, refl)

module _ (l : LabelledNodes) (shape : TextShape) (image args : List ℕ) (short : length image ≤ 0x1000000) (few : length args ≤ most_args) where
  holds_of : (s : State) → Holds l shape image args s → HoldsParts image args s
  holds_of s h = record {
    data_size = h.data_size;
    args_size = h.args_size;
    data_held = λ a lo hi. both_ways (is_some (s.mem a)) (within 0x20000000 (length image) a) (λ t. ap (λ n. within 0x20000000 n a) (sym h.data_size) ∙ data_alone s.data_size s.args_size s.mark (s.frame ∷ s.callers) a hi (low_out a (omega arith)) (open_at a t)) (h.data_there a);
    args_held = λ a lo hi. both_ways (is_some (s.mem a)) (within 0x28000000 (length args) a) (λ t. ap (λ n. within 0x28000000 n a) (sym h.args_size) ∙ args_alone s.data_size s.args_size s.mark (s.frame ∷ s.callers) a small.image lo hi (low_out a (omega arith)) (open_at a t)) (h.args_there a);
  }
    where
      small : HasSmallParts s
      small = record { image = rw h.data_size short; args = rw h.args_size few }

      low_out : (a : ℕ) → a < 0x30000000 → in_any_locals (s.frame ∷ s.callers) a ≡ true → ⊥
      low_out a lt t = let i = in_frames l shape s h.well small a t in let low = h.well.fits.low in absurd (omega (arith, i.0))

      open_at : (a : ℕ) → is_some (s.mem a) ≡ true → is_part s.data_size s.args_size s.mark (s.frame ∷ s.callers) a ≡ true
      open_at a t = let b = byte_of (s.mem a) t in h.well.fits.memory a b.0 b.1

  module _ (A : List ℕ) (is : IsShapeOf l shape) (w : IsWellShaped l) (has : HasFunctions l) (formed : All InForm l.nodes) where
    keeps : (s t : State) (bytes : List ℕ) → Holds l shape image args s → step l shape A s ≡ Goes t bytes → Holds l shape image args t
    keeps s t bytes h e =
        let g : Grows s t = steps_grow l shape A s t bytes w h.well e in
        record {
          well = steps_fit l shape A s t bytes is w has (formed_at l shape A is w has formed s.at) h.well e;
          data_size = g.data_size ∙ h.data_size;
          args_size = g.args_size ∙ h.args_size;
          data_there = λ a i. let r = inside 0x20000000 (length image) a i in g.bytes a (omega (arith, r.1, short)) (h.data_there a i);
          args_there = λ a i. let r = inside 0x28000000 (length args) a i in g.bytes a (omega (arith, r.1, few)) (h.args_there a i);
        }

    starts : Holds l shape image args (start_state image args)
    starts = record {
      well = start_fits l shape is w has (start_entry stack_end image args) (start_may stack_end image args record { whole = refl; room = omega arith; high = omega arith }) None tt;
      data_size = refl;
      args_size = refl;
      data_there = λ a i. rw i refl;
      args_there = λ a i. there (within 0x20000000 (length image) a) _ _ i;
    }
      where
        there : (x : Bool) (u v : ℕ) {y : Bool} → y ≡ true → is_some (if x then Some u else (if y then Some v else None)) ≡ true
        there true u v e = refl
        there false u v e = rw e refl

    pub mean_holds : (k : ℕ) → HoldsParts image args (mean l shape A image args k).state
    mean_holds k = holds_of (mean l shape A image args k).state (always l shape A (Holds l shape image args) keeps (start_state image args) starts k)
