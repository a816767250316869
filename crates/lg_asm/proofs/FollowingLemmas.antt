-- Calls follow one another.
use Rattle.std.proofs.Common.{◌≡◌, ℕ, ◌-◌, ◌<◌, ◌≤◌, inr, Bool, true, false, ◌||◌, List, ◌∷◌, Option, Some, None, length, refl, sym, ap, ◌∙◌, arith}
use Rattle.std.specs.Prelude.{is_some, nat_lt, if◌then◌else◌}
use Rattle.std.proofs.lemmas.Bool.Decides.{nat_tests}
use Rattle.lg_base.specs.Parts.{data_base, args_base, heap_base, stack_base}
use Rattle.lg_base.specs.Runs.{Status}
use Rattle.lg_carry.specs.Memories.{SharesMemory}
use Rattle.lg_carry.specs.Stands.{HasParts}
use Rattle.lg_cells.specs.Cells.{within}
use Rattle.lg_cpu.specs.States.{CpuState}
use Rattle.lg_meaning.proofs.StackLemmas.{inside, in_frames}
use Rattle.lg_meaning.specs.Fits.{FitsWell}
use Rattle.lg_meaning.specs.Starts.{IsEntryStack, MayEnter, outside_stack, entry_after}
use Rattle.lg_meaning.specs.States.{State, in_any_locals}
use Rattle.lg_node.specs.Nodes.{LabelledNodes}
use Rattle.lg_node.specs.Shapes.{TextShape}
use Rattle.lg_va.specs.Calls.{calling_stack}
use Rattle.lg_asm.specs.Entered.{HoldsEntry, IsWholeState, CallsFollow}

-- ---- the memory outside of the stack
outside-is : (m : ℕ → Option ℕ) (a : ℕ) → a < stack_base → outside_stack m a ≡ m a
outside-is m a lt = let t : nat_lt a stack_base ≡ true = grind (arith, lt) in ap (λ b. if b then m a else None) t

outside-some : (m : ℕ → Option ℕ) (a b : ℕ) → outside_stack m a ≡ Some b → (a < stack_base) × (m a ≡ Some b)
outside-some m a b e = by (nat_lt a stack_base) refl e
  where
    by : (t : Bool) → nat_lt a stack_base ≡ t → (if t then m a else None) ≡ Some b → (a < stack_base) × (m a ≡ Some b)
    by true f h = (grind (arith, nat_tests, f), h)
    by false f h = cc

calls-on : (n : ℕ) → n ≤ 16 → IsEntryStack (calling_stack n)
calls-on n few = record { whole = omega arith; room = omega (arith, few); high = omega arith }

-- ---- one call after another
module _ (l : LabelledNodes) (shape : TextShape) (s : State) (status : Status) (args : List ℕ) (q : CpuState) (well : FitsWell l shape s) (parts : HasParts s q.bytes) (shares : SharesMemory status s q.bytes q.mark)
    (whole : IsWholeState q) (few : length args ≤ 16) where
  -- no local lies outside of the stack
  no-local : (a : ℕ) → a < stack_base → in_any_locals (s.frame ∷ s.callers) a ≡ true → ⊥
  no-local a lt t = let i = in_frames l shape s well record { image = parts.data_small; args = parts.args_small } a t in let low = well.fits.low in absurd (omega (arith, i.0, low, lt))

  part : (x y z w : Bool) → (w ≡ true → ⊥) → (x || (y || (z || w))) ≡ true → (x || (y || (z || false))) ≡ true
  part true y z w never e = refl
  part false true z w never e = refl
  part false false true w never e = refl
  part false false false w never e = absurd (never e)

  may : MayEnter (entry_after s (calling_stack (length args)) args)
  may = record {
    stack = calls-on (length args) few;
    few = few;
    heap = well.heap;
    parts = λ a b e.
        let o = outside-some s.mem a b e in
        part (within data_base s.data_size a) (within args_base s.args_size a) (within heap_base (s.mark - heap_base) a) (in_any_locals (s.frame ∷ s.callers) a) (no-local a o.0)
        (well.fits.memory a b o.1);
  }

  holds : HoldsEntry (entry_after s (calling_stack (length args)) args) q.bytes
  holds = record {
    small = whole.small;
    parts = record {
      data_small = parts.data_small;
      args_small = parts.args_small;
      data_whole = λ a w. ap is_some (outside-is s.mem a (let i = inside data_base s.data_size a w in let d = parts.data_small in omega (arith, i.1, d))) ∙ parts.data_whole a w;
      args_whole = λ a w. ap is_some (outside-is s.mem a (let i = inside args_base s.args_size a w in let d = parts.args_small in omega (arith, i.1, d))) ∙ parts.args_whole a w;
      same = λ a low high. parts.same a low high ∙ sym (outside-is s.mem a (omega (arith, high)));
    };
    memory = record { is = λ a b e. let o = outside-some s.mem a b e in shares.bytes_are a b (inr o.0) o.1 };
    heap = whole.heap;
    stack = whole.stack;
  }

pub calls-follow : CallsFollow
calls-follow l shape s status args q well parts shares whole few = (
  may l shape s status args q well parts shares whole few,
  holds l shape s status args q well parts shares whole few,
  shares.mark_is,
)
