-- One fix more keeps the fixes sound.
use Rattle.std.proofs.Common.{◌≡◌, ℕ, ◌+◌, ◌<◌, List, [], ◌∷◌, ◌++◌, length, get_or, sym, subst, arith, below_more, length-append}
use Rattle.std.specs.List.{All}
use Rattle.std.proofs.Math.ListN.{get_or-append}
use Rattle.std.proofs.Math.Seq.{get_or-append_seam}
use Rattle.lg_buf.specs.declared.fixes.Fix.{Fix}
use Rattle.lg_buf.specs.Buffers.{AreApart, AreSound, EndsWithin}

pub sound_push : (bytes labels : ℕ) (fixes : List Fix) (f : Fix) → AreSound bytes labels fixes → EndsWithin bytes f → f.label.0 < labels → All (λ g. AreApart g f) fixes → AreSound bytes labels (fixes ++ f ∷ [])
sound_push bytes labels fixes f sound ends label apart =
    let all : List Fix = fixes ++ f ∷ [] in
    let long : length all ≡ length fixes + 1 = length-append fixes (f ∷ []) in
    let Within : Fix → Type 0 = λ g. EndsWithin bytes g × (g.label.0 < labels) in
    let WithinAt : ℕ → Type 0 = λ k. (d : Fix) → Within (get_or all k d) in
    let ApartAt : ℕ → Type 0 = λ k. (d : Fix) (j : ℕ) → j < k → (e : Fix) → AreApart (get_or all j e) (get_or all k d) in
    let early = λ (k : ℕ) (below : k < length fixes) (d : Fix). sym (get_or-append fixes (f ∷ []) d k below) in
    let last = λ (d : Fix). sym (get_or-append_seam fixes f [] d) in
    record {
      within = λ k below. below_more WithinAt (length fixes) (λ i m d. subst Within (early i m d) (sound.within i m d)) (λ d. subst Within (last d) (ends, label)) k (omega arith);
      apart = λ k below. below_more ApartAt (length fixes)
          (λ i m d j n e. let j_below : j < length fixes = omega arith in subst (λ g. AreApart g (get_or all i d)) (early j j_below e) (subst (λ g. AreApart (get_or fixes j e) g) (early i m d) (sound.apart i m d j n e)))
          (λ d j n e. subst (λ g. AreApart g (get_or all (length fixes) d)) (early j n e) (subst (λ g. AreApart (get_or fixes j e) g) (last d) (apart j e n)))
          k (omega arith);
    }
