-- `write` copies the piece into the first of the spare places.
use Rattle.lg_buf.proofs.Steps.{◌≡◌, ℕ, ◌+◌, ◌-◌, ◌<◌, ◌≤◌, ◌^◌, List, [], ◌∷◌, ◌++◌, length, length-append, refl, sym, ap, subst, ◌∙◌, w8, w64, arith, proved, after, full_share, id⊢, ftrue, flft, named, Val, vunit, vint, fact, tables, ‵, raw, ◌⊛◌, at_ret, ◌$◌, ◌∵◌, !, qed, done, move, keep, drop, use1, use2, split, join, fsplit, fsplit3, fjoin, feq_i, rewrite, suffices, frame, group, whole, sub, look_in, enter, of_opd, unit_lit, bin, load, stop, fld, hop, first, blocks, exec, returns, alloc_all, pass_all, free_all, look_at, get, through, sets, env, u8, usize, yes, shows, cell_at, uint_vals, uint_Tells, Ptr, block_ptr, in_a_block, owns, mut_vals, mut_Tells, row, place, place_byte, plain, nothing, opens, closes, peeks, heard, Stays, walk_of, says, stay_dropped, Goes-dropped, stay_ref, Goes-ref, ends_at}
use seplogic.Ra.Ura.{Ura}
use base.Fml.{Share, fsep}
use base.Logic.{SProp, ent, emp}
use contract.Monad.{Fun, fact_i}
use lib.Dec.{T}
use mir.Syntax.{ty_unit}
use mir.Val.{vptr, has_ty, WT}
use prog.Memory.{Memory}
use prog.Routine.{Routine}
use types.Logic.{Logic}
use types.Kit.{⋆, later, some, use0, split3, flt_i, feq_l, pick, await}
use types.Run.{addr, from, no_more, and_then}
use types.ByLocal.{look_in_at, get_in, lands_last}
use denote.Builtin.{unit, SliceRefOf}
use denote.Copied.{uint_Copied}
use denote.Index.{looks_slice, shuts_slice}
use denote.Signature.{types_at}
use denote.Slice.{shr_slice_vals, shr_slice_Tells}
use denote.Steps.{only}
use denote.Triple.Call.{calls_at_last}
use denote.Triple.Clauses.{lasts}
use denote.Triple.Statement.{Contract}
use denote.Triple.Spec.{triple_of}
use denote.Triple.Table.{framed}
use Rattle.lg_buf.proofs.Memory.{bytes, spare, after_all}
use Rattle.lg_buf.specs.Ownership.{lie_before_room, lie_at}
use Rattle.lg_buf.specs.contracts.region.Region.write as f
use Rattle.lg_buf.proofs.region.Region.write.Statement.{statement}
use Rattle.lg_buf.proofs.region.Region.write.Code as code
use Rattle.lg_buf.specs.contracts.region.copy_bytes as g
use Rattle.lg_buf.proofs.region.copy_bytes.Met.{met}
use Rattle.lg_buf.specs.contracts.region.Region.{the_row as R}
use Rattle.lg_buf.proofs.region.Region.TheLaws.{lowers}

abbrev stayed : Stays f.ended.signature.params f.ended.kept
stayed = (stay_ref (0 ∷ []) tt (plain (λ _. R)), (stay_dropped (plain (λ _. usize)) yes, (stay_dropped (SliceRefOf (1 ∷ []) tt (plain (λ _. u8)) (λ _. tt)) yes, tt)))

-- `copy_bytes` at this call
module _ {M : Type 1} {𝓤 : Ura M} (𝓛 : Logic 𝓤) (at_mem : Memory → SProp 𝓤) (run : Routine → Fun 𝓤) where
  abbrev Copies : Contract 𝓤
  Copies = triple_of 𝓛 g.signature (g.spec 𝓛 at_mem run)

  module _ (q : Share) (sb so b o m : ℕ) (ys : List ℕ) where
    abbrev at_copies : Copies.Ghost
    at_copies = ((tt, tt, tt, (block_ptr sb so, (block_ptr b o, (length ys, tt))), (vptr sb so ∷ [], (vptr b o ∷ [], (vint w64 (length ys) ∷ [], tt)))), (q, ys, m))

    copies-goes : length ys < 2 ^ 64 → ent 𝓤 (⋆ 𝓛 (‵ (row u8 q ys sb so) ∷ ‵ (spare 𝓛 b (length ys + m) o) ∷ [])) (Copies.pre at_copies)
    copies-goes small =
        qed 𝓛 (‵ (row u8 q ys sb so) ∷ ‵ (spare 𝓛 b (length ys + m) o) ∷ []) ∵ fjoin ! $
        use0 𝓛 (raw (fact 𝓤 (length ys ≡ length ys))) (fact_i 𝓤 (length ys ≡ length ys) (emp 𝓤) refl) $ join ! $
        nothing ! $ flt_i ! (length ys) (2 ^ 64) small $ feq_i ! (List Val) (vint w64 (length ys) ∷ []) (vint w64 (length ys) ∷ []) refl $ fjoin ! $ fjoin ! $
        feq_i ! (List Val) (vptr b o ∷ []) (vptr b o ∷ []) refl $ fjoin ! $ feq_i ! (List Val) (vptr sb so ∷ []) (vptr sb so ∷ []) refl $ fjoin ! $
        nothing ! $ join ! $ done !

pub write_spec : {M : Type 1} → statement M
write_spec 𝓤 𝓛 𝓜 𝓡 wired =
    let c = f.clauses 𝓛 𝓜.mem 𝓡.returns in let W = walk_of 𝓛 f.ended stayed c in let 𝓣 = tables 𝓤 𝓛.H 𝓜 𝓡 𝓡.env in
    proved 𝓛 f.ended stayed c 𝓜 𝓡 (Goes-ref 𝓛 2 0 tt (plain (λ _. R)), (Goes-dropped 𝓛 2 (plain (λ _. usize)) yes (λ κs x w. refl), (Goes-dropped 𝓛 2 (SliceRefOf (1 ∷ []) tt (plain (λ _. u8)) (λ _. tt)) yes (λ κs x w. refl), tt)))
    f.Key.name code.function (code.unfolded 𝓤 𝓛.H 𝓜 𝓡 wired)
    (λ κs. (mut_vals, (uint_vals w64, (shr_slice_vals, tt)))) (λ κs. (mut_Tells (named 0) κs.0 R, (uint_Tells w64, (shr_slice_Tells (named 1) κs.1.0 u8, tt)))) (λ κs qs bounds a _ are.
    let rb = a.0.ref_ptr.0 in let ro = a.0.ref_ptr.1 in let h = a.0.now in let i = a.1.0 in let s = a.1.1.0 in let ys : List ℕ = s.now in let sb : ℕ = s.ref_ptr.0 in let so : ℕ = s.ref_ptr.1 in
    let xs = h.bytes in let n = h.spare in let k : ℕ = length ys in let m : ℕ = n - k in let small : k < 2 ^ 64 = are.1.1.0.0.1.0 in
    let y : W.Ghost = ((κs, qs, bounds, a, (mut_vals a.0, (uint_vals w64 i, (shr_slice_vals s, tt)))), tt) in
    qed 𝓛 (((‵ (flft κs.0 qs.0) ⊛ ‵ (flft κs.1.0 qs.1.0) ⊛ ‵ ftrue) ⊛ ‵ (owns (types_at f.ended.signature.params κs) a y.0.4)) ∷ raw (fact 𝓤 ((i ≡ length xs) × (k ≤ n))) ∷ []) ∵
    move ! (1 ∷ []) $ heard ! _ (λ asked. split ! $ split3 ! $ move ! (3 ∷ []) $ fsplit3 ! $ fsplit3 ! $ move ! (4 ∷ []) $ fsplit ! $ fsplit ! $ keep ! (4 ∷ 5 ∷ 7 ∷ 1 ∷ 8 ∷ 3 ∷ []) $
    let more : k + m ≡ n = let le = asked.1 in omega arith in
    let new : R.Denot = record h { bytes = xs ++ ys; spare = m; fits = (let all = h.fits.0 in let l = length-append xs ys in omega arith, h.fits.1) } in
    enter ! _ _ _ _ _ $ alloc_all ! (λ l. pass_all ! refl ((tt, tt), ((tt, record { fits = are.1.0.1 }), ((tt, (tt, (record { fits = small }, tt))), tt))) $
    opens ! tt R rb ro (λ us.
    move ! (1 ∷ []) $ peeks ! R _ (shows 𝓛 R) h us (λ is. fsplit ! $ move ! (1 ∷ []) $
    in_a_block ! h.ptr (λ p. lie_before_room p xs n) (id⊢ 𝓤 _) (λ b o e. fsplit ! $
    let at : place 1 o (length xs) ≡ i + o = place_byte o (length xs) ∙ ap (λ (j : ℕ). j + o) (sym asked.0) in
    let word = lowers.val_is h us is ∙ ap (λ (p : Ptr). lowers.lowered (record h { ptr = p }) ∷ []) e in
    let Cell = λ (ws : List Val). ‵ (cell_at full_share R.mir ws rb ro) in
    rewrite ! 3 Cell word refl $
    rewrite ! 1 (λ (j : ℕ). ‵ (spare 𝓛 b j (place 1 o (length xs)))) (sym more) refl $ rewrite ! 1 (λ (j : ℕ). ‵ (spare 𝓛 b (k + m) j)) at refl $
    move ! (7 ∷ 8 ∷ []) $ looks_slice ! tt u8 (uint_Copied 𝓛 w8) ys sb so (λ q.
    -- [the piece; its way back; its borrow; the bytes; the spare room; what the fields own; the struct's cell; the open borrow, in three entries]
    first ! $ blocks ! $
    sets ! (addr ! (from ! (fld ! refl (hop ! (look_in_at ! 3 (sub ! 0 refl (whole !))) (stop !))))) refl (tt, tt) $
    sets ! (of_opd ! (load ! (through ! refl (fld ! refl (stop !))) (look_in ! 6 (sub ! 0 refl (whole !))))) refl (tt, tt) $
    sets ! (bin ! (get ! refl) (get ! refl) tt) refl (tt, tt) $
    sets ! (of_opd ! (get_in ! (fld ! refl (stop !)) (sub ! 1 refl (whole !)))) refl (tt, record { fits = small }) $
    move ! (0 ∷ 4 ∷ []) $ use2 𝓛 (raw ((Copies 𝓛 𝓜.mem 𝓡.returns).pre (at_copies 𝓛 𝓜.mem 𝓡.returns q sb so b (i + o) m ys))) (copies-goes 𝓛 𝓜.mem 𝓡.returns q sb so b (i + o) m ys small) $
    calls_at_last ! (framed 𝓤 𝓛.H 𝓜 𝓣) (Copies 𝓛 𝓜.mem 𝓡.returns) (met 𝓤 𝓛 𝓜 𝓡 (code.calls-lg_buf::region::copy_bytes 𝓡.env wired)) (at_copies 𝓛 𝓜.mem 𝓡.returns q sb so b (i + o) m ys)
    (and_then ! (get ! refl) (and_then ! (get ! refl) (and_then ! (get ! refl) (no_more !)))) (λ v.
    use1 𝓛 (later (some (λ (r : Unit {0}). (‵ ftrue ⊛ ‵ (unit.own_val r (v ∷ []))) ⊛
    some (λ (ws : Unit {0} × (Unit {0} × (Unit {0} × Unit {0}))). ‵ (lasts g.ended tt (at_copies 𝓛 𝓜.mem 𝓡.returns q sb so b (i + o) m ys).0.3 ws) ⊛ ‵ (fsep (lie_at q (block_ptr sb so) ys) (lie_before_room (block_ptr b (i + o)) ys m)))))) (id⊢ 𝓤 _) $
    await ! tt $ pick ! (λ r. split ! $ split ! $ drop ! $ feq_l ! (λ is_unit. pick ! (λ ws. split ! $ drop ! $ fsplit ! $
    lands_last ! refl (subst (λ (u : Val). T (has_ty ty_unit u) × WT u) (sym (ap only is_unit)) (tt, tt)) $
    exec ! 𝓣.C 𝓣.Λ (env code.Mir.locals l) (after 1 (code.function).body) (at_ret _ (W.post y)) $
    sets ! (of_opd ! (unit_lit !)) refl (tt, tt) $
    move ! (1 ∷ []) $ fsplit ! $ move ! (2 ∷ 3 ∷ []) $ shuts_slice ! tt u8 q ys sb so $
    -- [the piece's token; the piece as written; the spare room; the piece's borrow; the bytes; what the fields own; the struct's cell; the open borrow, in three entries]
    rewrite ! 1 (λ (j : ℕ). ‵ (bytes 𝓛 b ys j)) (sym at) refl $ move ! (4 ∷ 1 ∷ []) $ use2 𝓛 (‵ (bytes 𝓛 b (xs ++ ys) o)) (after_all 𝓛 b xs ys o) $ move ! (2 ∷ []) $
    rewrite ! 0 (λ (j : ℕ). ‵ (spare 𝓛 b m j)) (let all = length-append xs ys in let p = place_byte o (length (xs ++ ys)) in let p' = place_byte (i + o) k in let j = asked.0 in omega arith) refl $ move ! (1 ∷ 0 ∷ []) $ fjoin ! $
    rewrite ! 0 (λ (p : Ptr). ‵ (lie_before_room p (xs ++ ys) m)) (sym e) refl $ rewrite ! 4 Cell (sym word) refl $
    move ! (3 ∷ 0 ∷ []) $ fjoin ! $ move ! (3 ∷ 0 ∷ 4 ∷ 5 ∷ 6 ∷ []) $ closes ! tt R new us rb ro $
    returns ! (look_at ! 0 refl) $ free_all ! refl $ keep ! (5 ∷ 0 ∷ 1 ∷ 2 ∷ 3 ∷ []) $
    suffices ! _ (ends_at 𝓛 f.ended stayed c y vunit tt (new, (tt, (tt, tt))) (tt, (tt, (tt, tt)))) $ says ! (refl, (let le = asked.1 in omega arith), refl, refl) $
    group ! 3 $ nothing ! $ nothing ! $ join ! $ nothing ! $ join ! $ move ! (1 ∷ 0 ∷ []) $ join ! $ nothing ! $ move ! (3 ∷ 0 ∷ []) $ join ! $ move ! (2 ∷ 0 ∷ []) $ join ! $ frame ! $ frame ! $
    feq_i ! _ (vunit ∷ []) _ refl $ done !)))))))))))
