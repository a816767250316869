-- Of the stack only the locals of the frames are open.
use Rattle.std.proofs.Common.{◌≡◌, ◌⊎◌, inl, inr, ⊎_elim, ℕ, zero, suc, ◌+◌, ◌-◌, ◌<◌, ◌≤◌, Bool, true, false, List, [], ◌∷◌, Option, Some, None, refl, sym, ap, ◌∙◌, subst, arith}
use Rattle.std.specs.Prelude.{◌||◌, slice_get}
use Rattle.std.proofs.lemmas.Bool.{cases_eq, cases_lt, or_cases, false_from_ne_true}
use Rattle.lg_cells.specs.Cells.{within}
use Rattle.lg_node.specs.declared.function.Function.{Function}
use Rattle.lg_node.specs.Nodes.{LabelledNodes}
use Rattle.lg_node.specs.Functions.{home, frame_of}
use Rattle.lg_node.specs.Shapes.{TextShape}
use Rattle.lg_meaning.specs.States.{Frame, State, in_locals, in_any_locals, is_part, is_open}
use Rattle.lg_meaning.specs.Fits.{IsTopOf, entry_stack, AreLinked, FitsWell}
use Rattle.lg_meaning.specs.Stacks.{HasSmallParts, OpensLocalsAlone}
use Rattle.lg_meaning.proofs.OpenFacts.{no_locals}

-- a frame has no size and no locals yet, or has room for its locals and its words
abbrev pub IsWhole : Frame → Type 0
IsWhole f = ((f.size ≡ 0) × (f.locals ≡ 0)) ⊎ (272 + f.locals ≤ f.size)

-- frames are one below the other, up to an address
abbrev pub AreStacked : ℕ → Frame → List Frame → Type 0
AreStacked end f [] = f.sp ≡ end
AreStacked end f (g ∷ gs) = (f.sp + g.size ≡ g.sp) × (272 + g.locals ≤ g.size) × AreStacked end g gs

whole : (f : Function) (g : Frame) → g.size ≡ frame_of f → g.locals ≡ f.locals → 272 + g.locals ≤ g.size
whole f g size locals = omega (arith, size, locals)

pub stacked : (l : LabelledNodes) (shape : TextShape) (f : Frame) (gs : List Frame) → AreLinked l shape f gs → AreStacked (entry_stack f gs) f gs
stacked l shape f [] h = refl
stacked l shape f (g ∷ gs) h = (h.0.below, whole h.0.function g h.0.size h.0.locals, stacked l shape g gs h.1)

pub top_whole : (l : LabelledNodes) (shape : TextShape) (s : State) → (o : Option ℕ) → IsTopOf l shape s o → IsWhole s.frame
top_whole l shape s None h = inl (h.size, h.locals)
top_whole l shape s (Some p) h =
    ⊎_elim (λ (e : s.at ≡ h.function.entry). inl ((h.top.before e).0, (h.top.before e).1)) (λ (e : s.at ≡ h.function.entry → ⊥). inr (whole h.function s.frame (h.top.behind e).0 (h.top.behind e).1)) (cases_eq s.at h.function.entry)

-- the first of them begins within the stack
pub entry_high : (l : LabelledNodes) (shape : TextShape) (f : Frame) (gs : List Frame) → AreLinked l shape f gs → entry_stack f gs ≤ 0x40000000
entry_high l shape f [] h = h.0.high
entry_high l shape f (g ∷ gs) h = entry_high l shape g gs h.1

pub inside : (lo n a : ℕ) → within lo n a ≡ true → (lo ≤ a) × (a < lo + n)
inside lo n a h = (grind arith, grind arith)

-- the locals of a frame lie in it
within_frame : (f : Frame) (a : ℕ) → IsWhole f → f.size ≤ f.sp → in_locals f a ≡ true → (f.sp - f.size ≤ a) × (a < f.sp)
within_frame f a (inl z) le h = let no_one : false ≡ true = sym (no_locals f a z.1) ∙ h in cc
within_frame f a (inr w) le h = let i = inside (f.sp - 144 - f.locals) f.locals a h in (omega (arith, i.0), omega (arith, i.1))

-- a frame ends where the first one does or below it
top_low : (end : ℕ) (f : Frame) (gs : List Frame) → AreStacked end f gs → f.sp ≤ end
top_low end f [] st = omega (arith, st)
top_low end f (g ∷ gs) st = let up = top_low end g gs st.2 in omega (arith, st.0)

-- those of its callers above it, and below that end
pub locals_above : (end : ℕ) (f : Frame) (gs : List Frame) (a : ℕ) → AreStacked end f gs → in_any_locals gs a ≡ true → (f.sp ≤ a) × (a < end)
locals_above end f [] a st h = cc
locals_above end f (g ∷ gs) a st h =
    ⊎_elim
    (λ (e : in_locals g a ≡ true). let w = within_frame g a (inr st.1) (omega (arith, st.0)) e in (omega (arith, st.0, w.0), (let up = top_low end g gs st.2 in omega (arith, w.1, up))))
    (λ (e : in_any_locals gs a ≡ true). let w = locals_above end g gs a st.2 e in (omega (arith, st.0, w.0), w.1))
    (or_cases (in_locals g a) (in_any_locals gs a) h)

-- the frames above one begin at its stack pointer or higher
frame_above : (end : ℕ) (f h : Frame) (gs : List Frame) (k : ℕ) → AreStacked end f gs → slice_get gs k ≡ Some h → f.sp ≤ h.sp - h.size
frame_above end f h [] k st e = cc
frame_above end f h (g ∷ gs) zero st e = let same : g ≡ h = cc in subst (λ (u : Frame). f.sp ≤ u.sp - u.size) same (omega (arith, st.0))
frame_above end f h (g ∷ gs) (suc k) st e = let up = frame_above end g h gs k st.2 e in omega (arith, st.0, up)

-- the frame above a frame, if there is one
record Above (fs : List Frame) (k : ℕ) (f : Frame) : Type 0 where
  caller : Frame
  there : slice_get fs (suc k) ≡ Some caller
  below : f.sp + caller.size ≡ caller.sp
  room : 272 + caller.locals ≤ caller.size

caller_of : (end : ℕ) (f : Frame) (gs : List Frame) → AreStacked end f gs → (k : ℕ) (h : Frame) → slice_get (f ∷ gs) k ≡ Some h → (h.sp ≡ end) ⊎ Above (f ∷ gs) k h
caller_of end f [] st zero h e = let same : f ≡ h = cc in inl (ap (λ u. u.sp) (sym same) ∙ st)
caller_of end f [] st (suc k) h e = cc
caller_of end f (g ∷ gs) st zero h e = let same : f ≡ h = cc in inr record { caller = g; there = refl; below = ap (λ u. u.sp + g.size) (sym same) ∙ st.0; room = st.1 }
caller_of end f (g ∷ gs) st (suc k) h e = ⊎_elim (λ last. inl last) (λ (c : Above (g ∷ gs) k h). inr record { caller = c.caller; there = c.there; below = c.below; room = c.room }) (caller_of end g gs st.2 k h e)

-- the frames of callers have room for their locals and their words
frame_room : (end : ℕ) (f h : Frame) (gs : List Frame) (k : ℕ) → AreStacked end f gs → slice_get gs k ≡ Some h → 272 + h.locals ≤ h.size
frame_room end f h [] k st e = cc
frame_room end f h (g ∷ gs) zero st e = let same : g ≡ h = cc in subst (λ (u : Frame). 272 + u.locals ≤ u.size) same st.1
frame_room end f h (g ∷ gs) (suc k) st e = frame_room end g h gs k st.2 e

last_alone : (x y z u : Bool) → x ≡ false → y ≡ false → z ≡ false → (x || (y || (z || u))) ≡ u
last_alone x y z u ex ey ez = rw (ex, ey, ez) refl

or_none : (x y : Bool) → y ≡ false → (x || y) ≡ x
or_none true y e = refl
or_none false y e = e

module _ (d g mark : ℕ) (hd : d ≤ 0x1000000) (hg : g ≤ 0x100000) (hm : mark ≤ 0x30400000) where
  -- after the heap only locals are open
  high_part : (fs : List Frame) (a : ℕ) → 0x30400000 ≤ a → is_part d g mark fs a ≡ in_any_locals fs a
  high_part fs a h = last_alone (within 0x20000000 d a) (within 0x28000000 g a) (within 0x30000000 (mark - 0x30000000) a) (in_any_locals fs a) (false_from_ne_true (within 0x20000000 d a) (λ e. let i = inside 0x20000000 d a e in absurd (omega (arith, i.1)))) (false_from_ne_true (within 0x28000000 g a) (λ e. let i = inside 0x28000000 g a e in absurd (omega (arith, i.1)))) (false_from_ne_true (within 0x30000000 (mark - 0x30000000) a) (λ e. let i = inside 0x30000000 (mark - 0x30000000) a e in absurd (omega (arith, i.0, i.1))))

-- among the addresses of a frame, its locals alone
frame_locals : (end : ℕ) (f : Frame) (gs : List Frame) → AreStacked end f gs → IsWhole f → f.size ≤ f.sp → (k a : ℕ) (h : Frame) → slice_get (f ∷ gs) k ≡ Some h → h.sp - h.size ≤ a → a < h.sp → in_any_locals (f ∷ gs) a ≡ in_locals h a
frame_locals end f gs st w le zero a h e lo hi =
    let same : f ≡ h = cc in
    let top : f.sp ≡ h.sp = ap (λ u. u.sp) same in
    or_none (in_locals f a) (in_any_locals gs a) (false_from_ne_true (in_any_locals gs a) (λ t. let up = locals_above end f gs a st t in absurd (omega (arith, up.0, top)))) ∙ ap (λ u. in_locals u a) same
frame_locals end f [] st w le (suc k) a h e lo hi = cc
frame_locals end f (g ∷ gs) st w le (suc k) a h e lo hi =
    let up = frame_above end f h (g ∷ gs) k st e in
    let none : in_locals f a ≡ false = false_from_ne_true (in_locals f a) (λ t. let in_it = within_frame f a w le t in absurd (omega (arith, in_it.1, up))) in
    rw none (frame_locals end g gs st.2 (inr st.1) (omega (arith, st.0)) k a h e lo hi)

module _ (l : LabelledNodes) (shape : TextShape) (s : State) (well : FitsWell l shape s) (small : HasSmallParts s) where
  abbrev end : ℕ
  end = entry_stack s.frame s.callers

  last : end ≤ 0x40000000
  last = entry_high l shape s.frame s.callers well.fits.linked

  st : AreStacked end s.frame s.callers
  st = stacked l shape s.frame s.callers well.fits.linked

  w : IsWhole s.frame
  w = top_whole l shape s (home l.nodes s.at) well.fits.top

  le : s.frame.size ≤ s.frame.sp
  le = let low = well.fits.low in omega arith

  high : (a : ℕ) → 0x30400000 ≤ a → is_part s.data_size s.args_size s.mark (s.frame ∷ s.callers) a ≡ in_any_locals (s.frame ∷ s.callers) a
  high a h = high_part s.data_size s.args_size s.mark small.image small.args well.heap.high (s.frame ∷ s.callers) a h

  -- each frame begins after the heap
  begins : (k : ℕ) (f : Frame) → slice_get (s.frame ∷ s.callers) k ≡ Some f → 0x3FF00010 ≤ f.sp - f.size
  begins zero f e = let same : s.frame ≡ f = cc in let low = well.fits.low in subst (λ (u : Frame). 0x3FF00010 ≤ u.sp - u.size) same (omega arith)
  begins (suc k) f e = let up = frame_above end s.frame f s.callers k st e in let low = well.fits.low in omega arith

  -- all open addresses after the heap lie in frames
  pub in_frames : (a : ℕ) → in_any_locals (s.frame ∷ s.callers) a ≡ true → (s.frame.sp - s.frame.size ≤ a) × (a < end)
  in_frames a t =
      ⊎_elim
      (λ (e : in_locals s.frame a ≡ true). let i = within_frame s.frame a w le e in (i.0, (let up = top_low end s.frame s.callers st in omega (arith, i.1, up))))
      (λ (e : in_any_locals s.callers a ≡ true). let i = locals_above end s.frame s.callers a st e in (omega (arith, i.0), i.1))
      (or_cases (in_locals s.frame a) (in_any_locals s.callers a) t)

  frames_open : (k a : ℕ) (f : Frame) → slice_get (s.frame ∷ s.callers) k ≡ Some f → f.sp - f.size ≤ a → a < f.sp → is_open s a ≡ in_locals f a
  frames_open k a f e lo hi = high a (let from = begins k f e in omega arith) ∙ frame_locals end s.frame s.callers st w le k a f e lo hi

  below_closed : (a : ℕ) → 0x30400000 ≤ a → a < s.frame.sp - s.frame.size → is_open s a ≡ false
  below_closed a lo hi = high a lo ∙ false_from_ne_true (in_any_locals (s.frame ∷ s.callers) a) (λ t. let i = in_frames a t in absurd (omega (arith, i.0)))

  above_closed : (a : ℕ) → 0x30400000 ≤ a → end ≤ a → is_open s a ≡ false
  above_closed a in_stack lo = high a in_stack ∙ false_from_ne_true (in_any_locals (s.frame ∷ s.callers) a) (λ t. let i = in_frames a t in absurd (omega (arith, i.1)))

  -- the lowest words of a frame that has begun, and its highest ones
  low_words : (k a : ℕ) (f : Frame) → slice_get (s.frame ∷ s.callers) k ≡ Some f → 272 + f.locals ≤ f.size → f.sp - f.size ≤ a → a < f.sp - f.size + 128 → is_open s a ≡ false
  low_words k a f e room lo hi = let from = begins k f e in frames_open k a f e lo (omega arith) ∙ false_from_ne_true (in_locals f a) (λ t. let i = inside (f.sp - 144 - f.locals) f.locals a t in absurd (omega (arith, i.0)))

  high_words : (k a : ℕ) (f : Frame) → slice_get (s.frame ∷ s.callers) k ≡ Some f → 272 + f.locals ≤ f.size → f.sp - 144 ≤ a → a < f.sp → is_open s a ≡ false
  high_words k a f e room lo hi = let from = begins k f e in frames_open k a f e (omega arith) hi ∙ false_from_ne_true (in_locals f a) (λ t. let i = inside (f.sp - 144 - f.locals) f.locals a t in absurd (omega (arith, i.1)))

  -- those of its arguments are the lowest ones of its caller's, or lie after the stack
  argument_words : (k a : ℕ) (f : Frame) → slice_get (s.frame ∷ s.callers) k ≡ Some f → f.sp ≤ a → a < f.sp + 128 → is_open s a ≡ false
  argument_words k a f e lo hi = by (caller_of end s.frame s.callers st k f e)
    where
      by : (f.sp ≡ end) ⊎ Above (s.frame ∷ s.callers) k f → is_open s a ≡ false
      by (inl same) = above_closed a (let from = begins k f e in omega (arith, from, lo)) (omega (arith, same, lo))
      by (inr c) = let below = c.below in low_words (suc k) a c.caller c.there c.room (omega arith) (omega arith)

  own_words : (k a : ℕ) (f : Frame) → slice_get (s.frame ∷ s.callers) k ≡ Some f → f.sp - 144 ≤ a → a < f.sp → is_open s a ≡ false
  own_words k a f e lo hi = by k e
    where
      by : (k : ℕ) → slice_get (s.frame ∷ s.callers) k ≡ Some f → is_open s a ≡ false
      by zero e = by_top w
        where
          same : s.frame ≡ f
          same = cc

          by_top : IsWhole s.frame → is_open s a ≡ false
          by_top (inr room) = high_words 0 a f e (subst (λ (u : Frame). 272 + u.locals ≤ u.size) same room) lo hi
          by_top (inl none) = below_closed a (let from = begins 0 f e in omega (arith, none.0)) (let top : s.frame.sp ≡ f.sp = ap (λ u. u.sp) same in omega (arith, none.0))
      by (suc k) e = high_words (suc k) a f e (frame_room end s.frame f s.callers k st e) lo hi

  staged_closed : (a : ℕ) → IsWhole s.frame → s.frame.sp - s.frame.size ≤ a → a < s.frame.sp - s.frame.size + 128 → is_open s a ≡ false
  staged_closed a (inl none) lo hi = argument_words 0 a s.frame refl (omega (arith, none.0)) (omega (arith, none.0))
  staged_closed a (inr room) lo hi = low_words 0 a s.frame refl room lo hi

  words_closed : (k a : ℕ) (f : Frame) → slice_get (s.frame ∷ s.callers) k ≡ Some f → f.sp - 144 ≤ a → a < f.sp + 128 → is_open s a ≡ false
  words_closed k a f e lo hi = ⊎_elim (λ (h : a < f.sp). own_words k a f e lo h) (λ (h : f.sp ≤ a). argument_words k a f e h hi) (cases_lt a f.sp)

  pub opens_locals : OpensLocalsAlone s
  opens_locals = record { frames = frames_open; words = words_closed; staged = λ a lo hi. staged_closed a w lo hi; below = below_closed; behind = λ a lo. above_closed a (omega (arith, lo)) (omega (arith, lo, last)) }
