-- Frames save what is live at the returns of calls.
use Rattle.std.proofs.Common.{◌≡◌, ℕ, zero, suc, ◌+◌, ◌<◌, ◌≤◌, Bool, true, false, List, Option, Some, None, refl, sym, ap, ◌∙◌, arith, length, ⊎_elim}
use Rattle.std.specs.Prelude.{max, slice_get, if◌then◌else◌}
use Rattle.std.proofs.lemmas.Bool.{cases_lt}
use Rattle.std.proofs.lemmas.Option.{slice_get_within}
use Rattle.lg_live.specs.RegSets.{has}
use Rattle.lg_live.specs.declared.reg_set.RegSet.{RegSet}
use Rattle.lg_live.specs.Liveness.{LiveSets}
use Rattle.lg_meaning.specs.Fits.{is_call}
use Rattle.lg_op.specs.declared.node.Node.{Node}
use Rattle.lg_op.specs.declared.operand.Reg.TheVariants.{V0, V1, V2}
use Rattle.lg_carry.specs.FinalNodes.{Code}
use Rattle.lg_carry.specs.NodeCode.{numbered, IsLiveness, SavesLive}
use Rattle.lg_asm.specs.CarriedLiveness.{live_at}
use Rattle.lg_asm.specs.NodeChoices.{set_after}
use Rattle.lg_asm.specs.Lowered.{saves_for, saves_by, saves_in, frame_saves, AreDeadFrom, FramesSaveFew}

-- a register that is live is among the first ones
among : (v2 v1 v0 : Bool) (v : ℕ) → (v ≡ 0 → v0 ≡ true) → (v ≡ 1 → v1 ≡ true) → (v ≡ 2 → v2 ≡ true) → v < 3
    → v < (if v2 then 3 else if v1 then 2 else if v0 then 1 else 0)
among true v1 v0 v a b c lt = lt
among false true v0 zero a b c lt = omega arith
among false true v0 (suc zero) a b c lt = omega arith
among false true v0 (suc (suc v)) a b c lt = let z : suc (suc v) ≡ 2 = omega (arith, lt) in let e = c z in cc
among false false true zero a b c lt = omega arith
among false false v0 (suc zero) a b c lt = let e = b refl in cc
among false false v0 (suc (suc v)) a b c lt = let z : suc (suc v) ≡ 2 = omega (arith, lt) in let e = c z in cc
among false false false zero a b c lt = let e = a refl in cc

for-set : (set : RegSet) (v : ℕ) → v < 3 → numbered (has set) (v + 3) ≡ true → v < saves_for set
for-set set zero lt h = among (has set V2) (has set V1) (has set V0) 0 (λ e. h) (λ e. absurd (omega (arith, e))) (λ e. absurd (omega (arith, e))) lt
for-set set (suc zero) lt h = among (has set V2) (has set V1) (has set V0) 1 (λ e. absurd (omega (arith, e))) (λ e. h) (λ e. absurd (omega (arith, e))) lt
for-set set (suc (suc zero)) lt h = among (has set V2) (has set V1) (has set V0) 2 (λ e. absurd (omega (arith, e))) (λ e. absurd (omega (arith, e))) (λ e. h) lt
for-set set (suc (suc (suc v))) lt h = absurd (omega (arith, lt))

-- what one node asks for is saved
within : (nodes : List Node) (sets : LiveSets) (i count : ℕ) → i < count → saves_by (slice_get nodes i) (set_after sets i) ≤ saves_in nodes sets count
unfolding saves_in
within nodes sets i zero lt = absurd (omega (arith, lt))
within nodes sets i (suc count) lt =
    ⊎_elim
    (λ (less : i < count). let more = within nodes sets i count less in omega (arith, more))
    (λ (ge : count ≤ i). let e : i ≡ count = omega (arith, lt, ge) in
    let same = ap (λ j. saves_by (slice_get nodes j) (set_after sets j)) e in omega (arith, same))
    (cases_lt i count)

pub one-more : (nodes : List Node) (sets : LiveSets) (i : ℕ)
    → saves_in nodes sets (i + 1) ≡ max (saves_in nodes sets i) (saves_by (slice_get nodes i) (set_after sets i))
unfolding saves_in
one-more nodes sets i = let z : i + 1 ≡ suc i = omega arith in ap (saves_in nodes sets) z

pub none : (nodes : List Node) (sets : LiveSets) → 0 ≡ saves_in nodes sets 0
unfolding saves_in
none nodes sets = refl

-- what is live at the return of a call is saved: the nodes of the code make the same calls as those by which frames save
pub saves-live : (c : Code) (nodes : List Node) (sets : LiveSets) → c.saved ≡ frame_saves nodes sets → c.first ≡ 3
    → ((i : ℕ) (m : Node) → slice_get c.nodes.nodes i ≡ Some m → is_call m.op ≡ true → (n : Node) × (slice_get nodes i ≡ Some n) × (is_call n.op ≡ true))
    → IsLiveness c (live_at sets.before) (live_at sets.behind) → SavesLive c (λ f. live_at sets.before f.back)
saves-live c nodes sets saved first calls live f i m back here is v lt l =
    let n = calls i m here is in
    let behind : live_at sets.behind i (v + 3) ≡ true =
    sym (live.calls i m here is (v + 3)) ∙ ap (λ j. live_at sets.before j (v + 3)) (sym back) ∙ l in
    let own = for-set (set_after sets i) v lt behind in
    let by : saves_by (slice_get nodes i) (set_after sets i) ≡ saves_for (set_after sets i) =
    ap (λ o. saves_by o (set_after sets i)) n.1 ∙ ap (λ b. if b then saves_for (set_after sets i) else 0) n.2 in
    let all = within nodes sets i (length nodes) (slice_get_within nodes i n.0 n.1) in
    (omega (arith, own, by, all, saved), omega (arith, lt, first))

-- ---- no more
few-for : (v2 v1 v0 : Bool) (k : ℕ) → (k ≤ 2 → v2 ≡ false) → (k ≤ 1 → v1 ≡ false) → (k ≤ 0 → v0 ≡ false)
    → (if v2 then 3 else if v1 then 2 else if v0 then 1 else 0) ≤ k
few-for true v1 v0 k a b c = ⊎_elim (λ (lt : k < 3). let e = a (omega (arith, lt)) in cc) (λ (ge : 3 ≤ k). ge) (cases_lt k 3)
few-for false true v0 k a b c = ⊎_elim (λ (lt : k < 2). let e = b (omega (arith, lt)) in cc) (λ (ge : 2 ≤ k). ge) (cases_lt k 2)
few-for false false true k a b c = ⊎_elim (λ (lt : k < 1). let e = c (omega (arith, lt)) in cc) (λ (ge : 1 ≤ k). ge) (cases_lt k 1)
few-for false false false k a b c = omega arith

by-few : (o : Option Node) (set : RegSet) (k : ℕ)
    → ((n : Node) → o ≡ Some n → is_call n.op ≡ true → (v : ℕ) → k ≤ v → v < 3 → numbered (has set) (v + 3) ≡ false) → saves_by o set ≤ k
by-few None set k h = omega arith
by-few (Some n) set k h = by (is_call n.op) refl
  where
    by : (b : Bool) → is_call n.op ≡ b → (if b then saves_for set else 0) ≤ k
    by true e =
        few-for (has set V2) (has set V1) (has set V0) k (λ le. h n refl e 2 le (omega arith)) (λ le. h n refl e 1 le (omega arith))
        (λ le. h n refl e 0 le (omega arith))
    by false e = omega arith

in-few : (nodes : List Node) (sets : LiveSets) (k count : ℕ) → AreDeadFrom nodes sets k → saves_in nodes sets count ≤ k
unfolding saves_in
in-few nodes sets k zero h = omega arith
in-few nodes sets k (suc i) h =
    let before = in-few nodes sets k i h in
    let here = by-few (slice_get nodes i) (set_after sets i) k (λ n e. h i n e) in omega (arith, before, here)

pub frames-save-few : FramesSaveFew
frames-save-few nodes sets k h = in-few nodes sets k (length nodes) h
