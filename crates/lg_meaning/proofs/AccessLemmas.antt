-- An access that is open lies in one part.
use Rattle.std.proofs.Common.{◌≡◌, ◌⊎◌, inl, inr, ⊎_elim, ℕ, suc, ◌+◌, ◌-◌, ◌<◌, ◌≤◌, true, List, [], ◌∷◌, refl, sym, ap, ◌∙◌, arith}
use Rattle.std.specs.Prelude.{◌||◌}
use Rattle.std.proofs.lemmas.Bool.{or_cases}
use Rattle.lg_cells.specs.Cells.{within}
use Rattle.lg_cells.specs.Memories.{writable}
use Rattle.lg_cells.proofs.LoadLemmas.{writable_at}
use Rattle.lg_node.specs.Nodes.{LabelledNodes}
use Rattle.lg_node.specs.Functions.{home}
use Rattle.lg_node.specs.Shapes.{TextShape}
use Rattle.lg_meaning.specs.States.{Frame, State, in_locals, in_any_locals, is_part, is_open}
use Rattle.lg_meaning.specs.Fits.{entry_stack, FitsWell}
use Rattle.lg_meaning.specs.Parts.{IsAmong, IsAmongLocals, LiesInOnePart}
use Rattle.lg_meaning.specs.Stacks.{HasSmallParts}
use Rattle.lg_meaning.specs.Laws.{AccessesLieInOnePart}
use Rattle.lg_meaning.proofs.StackLemmas.{IsWhole, AreStacked, stacked, entry_high, top_whole, inside, locals_above, in_frames}

-- two addresses that are near are among the locals of one frame: of this one, or of those above it
near_top : (last : ℕ) (f : Frame) (gs : List Frame) → AreStacked last f gs → IsWhole f → f.size ≤ f.sp → (a w : ℕ) → 0 < w → w ≤ 8
    → (in_any_locals gs a ≡ true → in_any_locals gs (a + (w - 1)) ≡ true → IsAmongLocals (f ∷ gs) a w)
    → in_any_locals (f ∷ gs) a ≡ true → in_any_locals (f ∷ gs) (a + (w - 1)) ≡ true → IsAmongLocals (f ∷ gs) a w
near_top last f gs st whole le a w some few above ha hb =
    by (or_cases (in_locals f a) (in_any_locals gs a) ha) (or_cases (in_locals f (a + (w - 1))) (in_any_locals gs (a + (w - 1))) hb)
  where
    top : (b : ℕ) → IsWhole f → in_locals f b ≡ true → (f.sp - 144 - f.locals ≤ b) × (b + 144 < f.sp)
    top b (inl none) e = let i = inside (f.sp - 144 - f.locals) f.locals b e in absurd (omega (arith, i.0, i.1, none.1))
    top b (inr room) e = let i = inside (f.sp - 144 - f.locals) f.locals b e in (i.0, omega (arith, i.1, room, le))

    by : (in_locals f a ≡ true) ⊎ (in_any_locals gs a ≡ true) → (in_locals f (a + (w - 1)) ≡ true) ⊎ (in_any_locals gs (a + (w - 1)) ≡ true) → IsAmongLocals (f ∷ gs) a w
    by (inl x) (inl y) =
        let i = inside (f.sp - 144 - f.locals) f.locals a x in
        let j = inside (f.sp - 144 - f.locals) f.locals (a + (w - 1)) y in
        record { place = 0; frame = f; here = refl; among = record { from = i.0; to = omega (arith, j.1, some) } }
    by (inl x) (inr y) = let i = top a whole x in let j = locals_above last f gs (a + (w - 1)) st y in absurd (omega (arith, i.1, j.0, few))
    by (inr x) (inl y) = let i = locals_above last f gs a st x in let j = top (a + (w - 1)) whole y in absurd (omega (arith, i.0, j.1))
    by (inr x) (inr y) = above x y

near_locals : (last : ℕ) (f : Frame) (gs : List Frame) → AreStacked last f gs → IsWhole f → f.size ≤ f.sp → (a w : ℕ) → 0 < w → w ≤ 8
    → in_any_locals (f ∷ gs) a ≡ true → in_any_locals (f ∷ gs) (a + (w - 1)) ≡ true → IsAmongLocals (f ∷ gs) a w
near_locals last f [] st whole le a w some few ha hb = near_top last f [] st whole le a w some few (λ x y. cc) ha hb
near_locals last f (g ∷ gs) st whole le a w some few ha hb =
    near_top last f (g ∷ gs) st whole le a w some few
    (λ x y. let m = near_locals last g gs st.2 (inr st.1) (omega (arith, st.0)) a w some few x y in record { place = suc m.place; frame = m.frame; here = m.here; among = m.among })
    ha hb

-- the part of an address
abbrev IsPartOf : ℕ → ℕ → ℕ → List Frame → ℕ → Type 0
IsPartOf d g mark frames a =
    (within 0x20000000 d a ≡ true) ⊎ ((within 0x28000000 g a ≡ true) ⊎ ((within 0x30000000 (mark - 0x30000000) a ≡ true) ⊎ (in_any_locals frames a ≡ true)))

part-of : (d g mark : ℕ) (frames : List Frame) (a : ℕ) → is_part d g mark frames a ≡ true → IsPartOf d g mark frames a
part-of d g mark frames a h =
    ⊎_elim (λ e. inl e) (λ e. inr (⊎_elim (λ e. inl e) (λ e. inr (or_cases (within 0x30000000 (mark - 0x30000000) a) (in_any_locals frames a) e))
    (or_cases (within 0x28000000 g a) (within 0x30000000 (mark - 0x30000000) a || in_any_locals frames a) e)))
    (or_cases (within 0x20000000 d a) (within 0x28000000 g a || (within 0x30000000 (mark - 0x30000000) a || in_any_locals frames a)) h)

-- where the parts lie
record IsBetween (least end a : ℕ) : Type 0 where
  low : least ≤ a
  high : a < end

module _ (l : LabelledNodes) (shape : TextShape) (s : State) (a w : ℕ) (well : FitsWell l shape s) (small : HasSmallParts s) (some : 0 < w) (few : w ≤ 8) where
  abbrev frames : List Frame
  frames = s.frame ∷ s.callers

  abbrev end : ℕ
  end = a + (w - 1)

  in-data : (b : ℕ) → within 0x20000000 s.data_size b ≡ true → IsBetween 0x20000000 0x21000000 b
  in-data b x = let i = inside 0x20000000 s.data_size b x in let most = small.image in record { low = i.0; high = omega (arith, i.1, most) }

  in-args : (b : ℕ) → within 0x28000000 s.args_size b ≡ true → IsBetween 0x28000000 0x28100000 b
  in-args b x = let i = inside 0x28000000 s.args_size b x in let most = small.args in record { low = i.0; high = omega (arith, i.1, most) }

  in-heap : (b : ℕ) → within 0x30000000 (s.mark - 0x30000000) b ≡ true → IsBetween 0x30000000 0x30400000 b
  in-heap b x = let i = inside 0x30000000 (s.mark - 0x30000000) b x in let most = well.heap.high in record { low = i.0; high = omega (arith, i.0, i.1, most) }

  in-stack : (b : ℕ) → in_any_locals frames b ≡ true → IsBetween 0x3FF00010 0x40000000 b
  in-stack b x = let i = in_frames l shape s well small b x in let low = well.fits.low in record { low = omega (arith, i.0, low); high = (let last = entry_high l shape s.frame s.callers well.fits.linked in omega (arith, i.1, last)) }

  apart : {A : Type 0} {low high next last : ℕ} → high + 8 ≤ next → IsBetween low high a → IsBetween next last end → A
  apart far x y = let h = x.high in let k = y.low in absurd (omega (arith, far, h, k, few))

  back : {A : Type 0} {low high next last : ℕ} → high ≤ next → IsBetween next last a → IsBetween low high end → A
  back far x y = let h = x.low in let k = y.high in absurd (omega (arith, far, h, k))

  among : (base size : ℕ) → within base size a ≡ true → within base size end ≡ true → IsAmong base size a w
  among base size x y = let i = inside base size a x in let j = inside base size end y in record { from = i.0; to = omega (arith, j.1, some) }

  le : s.frame.size ≤ s.frame.sp
  le = let low = well.fits.low in omega arith

  by : IsPartOf s.data_size s.args_size s.mark frames a → IsPartOf s.data_size s.args_size s.mark frames end → LiesInOnePart s a w
  by (inl x) (inl y) = inl (among 0x20000000 s.data_size x y)
  by (inl x) (inr (inl y)) = apart (omega arith) (in-data a x) (in-args end y)
  by (inl x) (inr (inr (inl y))) = apart (omega arith) (in-data a x) (in-heap end y)
  by (inl x) (inr (inr (inr y))) = apart (omega arith) (in-data a x) (in-stack end y)
  by (inr (inl x)) (inl y) = back (omega arith) (in-args a x) (in-data end y)
  by (inr (inl x)) (inr (inl y)) = inr (inl (among 0x28000000 s.args_size x y))
  by (inr (inl x)) (inr (inr (inl y))) = apart (omega arith) (in-args a x) (in-heap end y)
  by (inr (inl x)) (inr (inr (inr y))) = apart (omega arith) (in-args a x) (in-stack end y)
  by (inr (inr (inl x))) (inl y) = back (omega arith) (in-heap a x) (in-data end y)
  by (inr (inr (inl x))) (inr (inl y)) = back (omega arith) (in-heap a x) (in-args end y)
  by (inr (inr (inl x))) (inr (inr (inl y))) = inr (inr (inl (among 0x30000000 (s.mark - 0x30000000) x y)))
  by (inr (inr (inl x))) (inr (inr (inr y))) = apart (omega arith) (in-heap a x) (in-stack end y)
  by (inr (inr (inr x))) (inl y) = back (omega arith) (in-stack a x) (in-data end y)
  by (inr (inr (inr x))) (inr (inl y)) = back (omega arith) (in-stack a x) (in-args end y)
  by (inr (inr (inr x))) (inr (inr (inl y))) = back (omega arith) (in-stack a x) (in-heap end y)
  by (inr (inr (inr x))) (inr (inr (inr y))) =
      inr (inr (inr (near_locals (entry_stack s.frame s.callers) s.frame s.callers (stacked l shape s.frame s.callers well.fits.linked) (top_whole l shape s (home l.nodes s.at) well.fits.top) le a w some few x y)))

  lies : writable (is_open s) a w ≡ true → LiesInOnePart s a w
  lies opens =
      let z : a + 0 ≡ a = omega arith in
      by (part-of s.data_size s.args_size s.mark frames a (ap (is_open s) (sym z) ∙ writable_at (is_open s) a w 0 opens some))
      (part-of s.data_size s.args_size s.mark frames end (writable_at (is_open s) a w (w - 1) opens (omega (arith, some))))

pub accesses-lie-in-one-part : AccessesLieInOnePart
accesses-lie-in-one-part l shape s a w well small some few opens = lies l shape s a w well small some few opens
